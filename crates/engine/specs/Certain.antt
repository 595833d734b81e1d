-- What is certain: the graphs of a description that every choice of it takes because no other alternative is left beside them.
-- Assumes nothing: these are definitions.
pub use Rattle.modes_by_marks.specs.Certain.{flat, sure, sure_any, certain, certain_any}
