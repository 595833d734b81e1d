-- `Region` has the laws of a region, `Undo` those of the log.
pub mod Region
pub mod Undo
