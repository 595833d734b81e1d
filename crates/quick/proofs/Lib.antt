-- `Trying` has an alternative that is tried, `Sifting` those of a disjunction, `Choosing` a disjunction that is narrowed, `Narrowing`
-- those of a description, `Plain` an alternative without disjunctions that is tried, `Passing` a pass over both inputs, `Rounds`
-- passes one after the other, `Stepping` the parts of steps.
mod Trying
mod Sifting
mod Choosing
mod Narrowing
mod Plain
mod Passing
mod Rounds
mod Stepping
