-- `Pieces` has a report written piece by piece.
pub mod Pieces
