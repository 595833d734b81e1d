-- `Taken` lists the graphs that are certain as they lie in the area, `Ground` says when one may be pushed, `Footing` where a step
-- stands, `Entered` what entering a description does, `Settled` what settling a disjunction does.
-- `Clear` says which graphs are on the stack between these, `Moved` what of the area may change, `Inputs` that both inputs stand
-- loaded, `Stage` where a mode stands between its steps.
pub mod Taken
pub mod Ground
pub mod Footing
pub mod Entered
pub mod Settled
pub mod Clear
pub mod Moved
pub mod Inputs
pub mod Stage
