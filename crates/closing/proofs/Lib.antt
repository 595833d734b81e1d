-- `Lists` says what stands in lists of rows; `Labels`, `Chains` and `Entering` have the laws of closing, `Atoms` those of clashes.
pub mod Lists
pub mod Labels
mod Chains
mod Entering
mod Atoms
