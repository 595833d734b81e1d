-- Laws of words that are written from the end (`Ending`), of what has come to which alternative (`Moving`), of the last of what lies
-- in tables (`Tails`), of what is left of alternatives (`Houses`), of a part's rows (`Gathering`) and words (`Closing`); `Cells` and
-- `Branches` go over the alternatives of a disjunction, `Settles` over the disjunctions of an alternative.
pub mod Ending
pub mod Moving
pub mod Tails
pub mod Houses
pub mod Gathering
pub mod Closing
pub mod Cells
pub mod Branches
pub mod Settles
