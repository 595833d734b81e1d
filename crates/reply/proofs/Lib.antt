-- `Replies` shows that what is written is what the definition prints, `Lengths` that it always has room.
pub mod Replies
pub mod Lengths
