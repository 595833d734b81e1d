-- `Draws` says what drawing a sheet asks and promises.
-- For the functions below it: `Queue` has the labels in the order of their arrival, `Nodes` the words of nodes.
pub mod Draws
pub mod Queue
pub mod Nodes
