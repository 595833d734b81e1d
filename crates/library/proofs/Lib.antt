-- `Indices`, `Reading`, `Listing`, `Checking` and `Opening` have what the functions' proofs ask; `Good` says what a good index is;
-- `Words` has words as bytes, `Chunks` a description's blocks, `Sizes` the file's length.
-- `Back`: a file all of whose entries are read is what is written of them. `Holds`: what it holds is a library. `Forth`: what is
-- written is listed and read back. `Local`: a read depends on its own blocks only. `Order`: each number exactly when its rule holds
-- and no earlier one. `Single`: one outcome for each input. `Costs`: a block costs a description exactly where reading it gives 44.
mod Indices
pub mod Reading
mod Listing
mod Good
mod Checking
mod Opening
mod Words
pub mod Chunks
pub mod Sizes
pub mod Back
pub mod Holds
pub mod Forth
pub mod Local
pub mod Order
pub mod Single
pub mod Costs
