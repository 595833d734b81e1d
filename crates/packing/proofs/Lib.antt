-- `Packed` says that what is read of a packed word is what it was made of.
pub mod Packed
