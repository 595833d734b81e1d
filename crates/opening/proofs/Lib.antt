-- `Pairs` has both inputs loaded one after the other, `Universe` the graphs of both as they lie in the area and when one may be
-- pushed, `Opens` the pushes of the two definite graphs.
mod Pairs
pub mod Universe
pub mod Opens
