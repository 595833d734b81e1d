-- `Parts` has what reading the parts of a text asks, `Tellings` what printing a library asks; `Small`: what is printed is short;
-- `Cases` has worked texts.
mod Parts
mod Tellings
pub mod Small
pub mod Cases
