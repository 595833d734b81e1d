-- `Sizes` has lengths and bounds, `Names` has the laws of the names, `Walking` those of what stands
-- loaded, `Loads` says that what is loaded stands so, `Lying` has its bounds,
-- `Entries` lists its graphs, `Cases` has a known input.
-- `Putting` has the laws of words put somewhere, `Series` those of things loaded one after the other, `Sequels` says which things come
-- so, `Parts` what their functions ask and promise.
pub mod Sizes
pub mod Names
pub mod Putting
pub mod Walking
pub mod Loads
pub mod Lying
pub mod Entries
pub mod Cases
mod Series
mod Sequels
mod Parts
