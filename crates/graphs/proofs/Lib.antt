-- `Laws` has what the functions' proofs ask, and what the reading of descriptions asks.
pub mod Laws
