-- `Report` says what is printed for the text of a suite.
pub mod Report
