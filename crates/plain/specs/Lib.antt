-- `Lit` says what lighting the marks of a choice asks and does, `Expanded` what going through all choices asks.
pub mod Lit
pub mod Expanded
