-- `Run` goes over the words one by one, `Rules` says what a rule that is kept gives. `Reach` (the words of a description lead to the end),
-- `Rests` (no others do) and `Exact` tie the faults to the descriptions. `Laws`, `Going` and `Stops` have what the functions
-- cite. `Cases` computes.
pub mod Run
pub mod Rules
pub mod Reach
pub mod Rests
pub mod Exact
pub mod Laws
pub mod Going
pub mod Stops
pub mod Cases
