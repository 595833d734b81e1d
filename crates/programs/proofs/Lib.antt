-- `Written` shows what was written to an area to be an answer; `Printing` shows that the one text that may be said is printed.
pub mod Written
pub mod Printing
