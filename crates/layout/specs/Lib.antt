-- `Reading` mirrors the reader and `Judged` is its contract, `Standing` says what words stand at a place, `Skipping` mirrors the skips.
pub mod Reading
pub mod Judged
pub mod Standing
pub mod Skipping
