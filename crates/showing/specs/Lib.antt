-- `Putting` says what the parts of a description are put out as, `Alone` when a graph is its own, `Copying` what it is copied as,
-- `Showing` what the whole is put out as.
pub mod Putting
pub mod Alone
pub mod Copying
pub mod Showing
