-- `Lines` says what is written of a test and of a suite.
pub mod Lines
