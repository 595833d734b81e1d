-- `Stepped` says what narrowing does, `Passed` what a pass over both inputs does, `Quickened` what the quick step does.
pub mod Stepped
pub mod Passed
pub mod Quickened
