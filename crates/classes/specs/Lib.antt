-- `Holds` says what the area stands for, and what the contracts of push, undo and questions say of it; the others are parts of these.
pub mod Nodes
pub mod Entry
pub mod Holds
pub mod Ask
pub mod Came
