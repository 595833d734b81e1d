-- `Guessed` says what is told of a graph that is not pushed, `Leaf` what is told of its arcs on the way.
pub mod Leaf
pub mod Guessed
