-- `Printing` shows that what was written is all there, and can be printed.
pub mod Printing
