-- `Laws`, `Weights`, `Senses` and `Layouts` are what is asked of a kind of graph, its structures and its words; `AgainstErrors` has
-- the errors of the trade.
-- `Mean`, `Quick`, `Full`, `Satisfy`, `Sense`, `Chain` and `Modes` say what the modes keep; `Fuel` and `Rounds` have the rounds,
-- `Live`, `Places`, `Picks`, `Ties` and `Counting` the choices, `Soft` the lengths.
-- `Table`, `Kept` and `Areas` have the table of numbers; `Lists`, `Demands`, `Programs` and `Model` the demands.
pub mod AgainstErrors
pub mod Tests
pub mod Laws
pub mod Weights
pub mod Senses
pub mod Mean
pub mod Quick
pub mod Full
pub mod Chain
pub mod Layouts
pub mod Soft
pub mod Live
pub mod Satisfy
pub mod Sense
pub mod Model
pub mod Table
pub mod Modes
pub mod Lists
pub mod Fuel
pub mod Rounds
pub mod Places
pub mod Ties
pub mod Picks
pub mod Counting
pub mod Kept
pub mod Areas
pub mod Demands
pub mod Programs
