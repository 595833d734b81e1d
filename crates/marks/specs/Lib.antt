-- `Positions` says what the loaded words hold where code walks them, `Readable` when they may be read, `Marked` which alternatives are
-- kept and which were found, `Tallied` how many of a disjunction.
pub mod Positions
pub mod Readable
pub mod Marked
pub mod Tallied
