-- `Lines` has what is so of the second line, `Texts` of what is printed.
pub mod Lines
pub mod Texts
