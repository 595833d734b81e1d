-- `Leading` has the walk to the least feature, `Fans` what it tells of a class, `Keeping` what stays as it is, `Numberings` one more
-- number.
-- `Arrows` writes the arcs of a node, `Heads` a node and all nodes; `Source` shows that the classes are the joined graph, and `Whole`
-- puts it together.
pub mod Leading
pub mod Fans
pub mod Keeping
pub mod Numberings
pub mod Arrows
pub mod Heads
pub mod Source
pub mod Whole
