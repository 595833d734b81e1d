-- `Asked`, `Poured` and `Answers` have what the functions' proofs ask.
-- `Writing`: every library is written as its file, and nothing else. `Round`: what was written is listed and read back, and what was
-- read is written as it stood. `Causes`: each number exactly when its rule holds and no earlier one. `Single`: one outcome for each
-- input.
mod Asked
mod Poured
mod Answers
pub mod Writing
pub mod Round
pub mod Causes
pub mod Single
