-- `Text` says what a text's numbers and names are, `Tests` which tests it has, `Finding` where they were found.
pub mod Text
pub mod Tests
pub mod Finding
