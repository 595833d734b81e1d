-- `Tokens` has what the functions that read a number ask, `Runs` what reading words asks, `Calls` what reading a call asks, `Leading` what
-- finding the end of one asks; `Cases` has worked texts.
pub mod Tokens
pub mod Runs
pub mod Calls
mod Leading
pub mod Cases
