-- `Texts` has bytes, names and the text without them, `Found` tests found and judged.
pub mod Texts
pub mod Found
