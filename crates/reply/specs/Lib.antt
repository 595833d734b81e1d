-- `Printed` says what `meet` prints for a text.
pub mod Printed
