-- `Packed` says what the packed words hold.
pub mod Packed
