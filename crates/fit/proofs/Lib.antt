-- `Parts` ties words to nodes and `Maps` maps to nodes that are sent. `Finding`, `Steps`, `Arcwise`, `OneNode` and `Nodewise` have
-- what sending asks, from one arc to all nodes, and `Noting` what noting does.
-- `Things` and `Alternatives` have what testing a description asks; `Whole` concludes for both inputs.
mod Parts
mod Maps
mod Finding
mod Steps
mod Arcwise
mod OneNode
mod Nodewise
mod Noting
mod Things
mod Alternatives
pub mod Whole
