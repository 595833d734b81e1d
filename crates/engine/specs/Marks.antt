-- Marks: which alternatives are kept, by their numbers. The description stays as it is, and a mark goes from true to false where its
-- alternative is dropped.
-- Assumes nothing: these are definitions.
pub use Rattle.modes_by_marks.specs.Marks.{Marking, all_kept, drop, kept_of, keep, keep_all, keep_any, left_by}
