-- `Kernel` and `Relabel` have the laws of a label, `Sizes` those of how many nodes have one, `Wood` those of a forest, `Parents` those of
-- its words in the area, `Words` those of the loaded words, `Contents` those of what a class holds, `Links`, `Steps` and `Walks` those of
-- chains, `Places` those of rising ones.
-- `Fuse` shows that a merge keeps the state, `Cases` has the ends of a merge, `Turns` and `Drain` work off frames.
pub mod Kernel
pub mod Sizes
pub mod Wood
pub mod Parents
pub mod Words
pub mod Contents
pub mod Links
pub mod Walks
pub mod Places
pub mod Fuse
pub mod Cases
pub mod Turns
pub mod Itself
pub mod Drain
pub mod Adopting
pub mod Relabel
pub mod Steps
