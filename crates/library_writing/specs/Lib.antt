-- `Write` says what writing a library gives, `Reasons` why a library is refused, `Told` by which numbers the answers are told.
pub mod Write
pub mod Reasons
pub mod Told
