-- `Making` says what a mode makes of two inputs in the working area.
pub mod Making
