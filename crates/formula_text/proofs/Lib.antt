-- `Lines` has what writing an answer asks, `Printing` that one text is printed and that it always has room; `Cases` has worked texts.
mod Lines
pub mod Printing
pub mod Cases
