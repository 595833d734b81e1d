-- `Explained` says what `explain` prints for a text.
pub mod Explained
