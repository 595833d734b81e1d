-- `Outcome`: one outcome for each text and room; `Answered`: and one row; `Means`: what an answer says of structures. The others have
-- what the functions cite: `Trees` from signs to tables, `Cutting` their first rows, `Filling` homes, `Settling` the whole, `Handing`
-- its words.
pub mod Outcome
pub mod Answered
pub mod Means
pub mod Handing
pub mod Filling
pub mod Settling
pub mod Cutting
pub mod Trees
