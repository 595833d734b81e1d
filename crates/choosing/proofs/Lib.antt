-- `Numbers` says where the alternatives of a way stand, `Nth` that the way with a number is the choice with that number, `Newly` which
-- of its graphs are certain, `Finds` what is found in the ways up to a number.
-- `Walks` goes over alternatives that stand loaded, `Sums` counts the choices with one of them, `Words` tells what a word says.
-- `Frames` says what stays while a way is written, `Picked` has the way through one disjunction, `Going` that through all of a
-- description, `Both` that through both inputs.
pub mod Numbers
pub mod Nth
pub mod Newly
pub mod Finds
mod Walks
mod Sums
mod Words
mod Frames
mod Picked
mod Going
mod Both
