-- `Bared` is a graph without its atoms, `Heads` says how its words come to be those, `Notes` what is noted of a class, `TwoGraphs` what the
-- search for the node where two loaded graphs clash asks and promises.
pub mod Bared
pub mod Heads
pub mod Notes
pub mod TwoGraphs
