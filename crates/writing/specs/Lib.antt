-- `Classes` is an area whose classes are the nodes of a graph, `Writing` what the contracts of the writer cite.
pub mod Classes
pub mod Writing
