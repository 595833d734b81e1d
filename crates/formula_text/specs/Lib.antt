-- `Printed` says what is printed for the text of a formula.
pub mod Printed
