-- What a reader has to believe: `Formula` has the formulas and the structures that satisfy them, `Part` the graph of a definite part,
-- `Draft` what each part of a formula gives, `Describe` the description; `Known` has known formulas.
-- For code, and proved to come to the same: `Sheet` works with numbered spots, `Flat` is one list in the order of the text, `Homes`
-- folds numbers of alternatives.
pub mod Formula
pub mod Part
pub mod Draft
pub mod Describe
pub mod Known
pub mod Sheet
pub mod Flat
pub mod Homes
pub mod Tables
