-- `Laws` and `Skips` have what the functions' proofs ask. `Standing` has the laws of words that stand at a place.
-- `Sound` and `Complete` tie the reading to the theory's descriptions, `Whole` concludes for all of the words, `Cases` has the
-- document's; `Ends` ties the skips to what stands there.
mod Laws
mod Skips
pub mod Standing
mod Sound
mod Complete
pub mod Whole
pub mod Cases
pub mod Ends
