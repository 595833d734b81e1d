-- `Chains` and `Definite` tie the program that joins a part to the classes of its nodes; `Walks`, `Joining` and `Facts` say what satisfies
-- them.
-- `Drafts`, `Settled` and `Well` conclude for formulas: what satisfies a description, what a clash is, and that it is well formed. `Cases`
-- has known formulas.
-- `Alike` has the graph of a part from what it says; `Gathering` folds facts, and `Gather` says that this comes to the
-- same; `Spots`, `Rows`, `Told`, `Sheets`, `Laid` and `Assemble` go to
-- numbered spots, `Order` to any labels and any order, `Flat` to one list and `Homes` to numbers of alternatives.
pub mod Chains
pub mod Definite
pub mod Walks
pub mod Joining
pub mod Facts
pub mod Drafts
pub mod Settled
pub mod Well
pub mod Cases
pub mod Alike
pub mod Gathering
pub mod Gather
pub mod Spots
pub mod Rows
pub mod Told
pub mod Sheets
pub mod Laid
pub mod Assemble
pub mod Order
pub mod Flat
pub mod Homes
