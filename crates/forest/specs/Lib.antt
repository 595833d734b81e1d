-- `Labels` are classes as labels, `Forest` says what a forest of parents is, `Roots` when a root goes under another, `Held` what a class
-- holds, `State` what stands for the graphs that are pushed and how it changes, `Order` what chains whose features rise are good for,
-- `Outcome` how the result of a step is read.
pub mod Labels
pub mod Forest
pub mod Roots
pub mod Held
pub mod State
pub mod Order
pub mod Outcome
