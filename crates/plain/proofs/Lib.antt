-- `Turns` has what a choice takes, one after the other, as it stands listed, `Kept` that each of it is kept, and `Lit` their marks.
-- `Joining` has one choice, graph by graph and node by node, and `Choices` all of them, one after the other.
pub mod Turns
pub mod Lit
pub mod Kept
pub mod Joining
pub mod Choices
