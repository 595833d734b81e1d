-- `Reading` says what is read of a description that stands loaded, `Marks` what a store does to the marks, `First` which alternative
-- is the first kept one, `Remnant` what is left by their number, `Tallying` how they are counted, `Lighting` how all marks are changed in
-- one way.
pub mod Reading
pub mod Marks
pub mod First
pub mod Remnant
mod Tallying
mod Lighting
