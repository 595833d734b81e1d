-- `Translated` says what is answered to a text and what stands in the result area then, `Row` the table of numbers, `Answered` both by
-- the numbers that are told; `Stages` what stands between text and words.
pub mod Answer
pub mod Translated
pub mod Stages
pub mod Row
pub mod Answered
