-- `Malformed` says which of two inputs is malformed and what is told of it, `Part` which part starts there.
pub mod Malformed
pub mod Part
