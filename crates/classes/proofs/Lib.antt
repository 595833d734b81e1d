-- `Splice` puts an arc into a rising chain, `Visits` has an arc and an atom, `Runs` many arcs and nodes.
-- `Result` shows that the classes are the least ones, `Bridge` that they are theory's, `Added` and `Grown` add a graph, and `Comings`
-- and `Pushings` put a push together; `Amid` has one that is done node by node.
-- For the layers above: `Laws` has what `Holds` and `Since` are good for, `Room` that there is room for what comes, `Writer` and
-- `Content` what a class holds, and `Answers` what may be asked of it; `Start` has the empty area.
pub mod Splice
pub mod Visits
pub mod Result
pub mod Runs
pub mod Bridge
pub mod Added
pub mod Grown
pub mod Laws
pub mod Comings
pub mod Room
pub mod Pushings
pub mod Amid
pub mod Start
pub mod Writer
pub mod Answers
pub mod Content
