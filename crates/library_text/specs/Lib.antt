-- `Lines` says which lines are printed for a library, `Run` where a run of words was read, `Serves` what is printed for a text.
pub mod Lines
pub mod Run
pub mod Serves
