-- `Frames` says what is left to go through, `Searched` what the search asks and does, `Foreseen` what is told of an alternative that
-- is not entered.
pub mod Frames
pub mod Searched
pub mod Foreseen
