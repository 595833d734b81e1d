-- `Answer` says what is printed, `Going` where writing stands between two pieces.
pub mod Answer
pub mod Going
