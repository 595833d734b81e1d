-- `Verdicts` says what is said and counted of a test.
pub mod Verdicts
