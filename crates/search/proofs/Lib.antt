-- `Slots` has the frames as the code has them, `Planning` what stands there, `Finding` what was found; `Taking` has an alternative
-- that is taken, `Foreseeing` one that is not entered, `Choosing` the kept ones of several, `Resuming` the next disjunction, `Both`
-- the search of both inputs.
pub mod Slots
pub mod Planning
mod Finding
mod Taking
mod Foreseeing
mod Choosing
mod Resuming
pub mod Both
