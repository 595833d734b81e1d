-- `Goings` has what writing piece by piece asks, `Decimals` what is so of numbers in decimal, `Answers` what is so of an answer's
-- lines; `Cases` has worked texts.
pub mod Goings
pub mod Decimals
pub mod Answers
pub mod Cases
