-- `Laws`, `Notes` and `Going` have what the functions cite. `Moves` is the grammar over signs, `Run` the machine over bytes; `Sofar`
-- (nothing else is accepted), `Through` (every formula is) and `Exact` tie them. `Once`: one tree. `Answers`: one answer. `Words`: a word's
-- kind and number. `Cases` computes.
pub mod Laws
pub mod Notes
pub mod Moves
pub mod Run
pub mod Sofar
pub mod Through
pub mod Exact
pub mod Going
pub mod Once
pub mod Answers
pub mod Cases
pub mod Words
