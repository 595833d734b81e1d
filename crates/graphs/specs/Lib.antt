-- `Graph` mirrors the reader of graphs.
pub mod Graph
