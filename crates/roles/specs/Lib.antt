-- `Faults` says what words break and which word decides; `Causes` the number and the data of a cause, `Coded` what the values of the
-- code stand for.
pub mod Faults
pub mod Causes
pub mod Coded
