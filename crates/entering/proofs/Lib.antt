-- `Rests` says what is left of a description from a later place on.
-- `Mirror` has the step of engine at one disjunction; `Certain` ties what is taken to what engine calls certain, and says where it
-- lies; `Alone` has the one kept alternative of several.
-- `Entering` has what is still to be pushed where a description is entered, `Settling` what becomes of a disjunction after its
-- alternatives were tried, `Clearing` which graphs are on the stack, `Within` what stands pushed afterwards, `Bare` a description
-- without disjunctions.
-- `Moves` says what stays; `Grounds` has the graphs of both inputs, `Pairs` what is asked of two inputs, `Stages` the first stage of a
-- mode, `Conclusions` what theory says of the marks that are left.
pub mod Rests
pub mod Mirror
pub mod Certain
mod Alone
pub mod Entering
pub mod Settling
pub mod Clearing
pub mod Within
pub mod Bare
pub mod Moves
pub mod Grounds
pub mod Pairs
pub mod Stages
pub mod Conclusions
