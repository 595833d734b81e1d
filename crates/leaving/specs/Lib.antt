-- `Found` says what an engine finds, `Fulled` what the full step asks and does, `Restarted` what pushing all that is certain anew does,
-- `Kept` what is left of what was found.
pub mod Found
pub mod Restarted
pub mod Fulled
pub mod Kept
