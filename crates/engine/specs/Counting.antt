-- The number of choices over the kept alternatives.
-- Assumes nothing: these are definitions.
unfoldable pub use Rattle.modes_by_marks.specs.Counting.{count_at, count_all_at, count_any_at}
