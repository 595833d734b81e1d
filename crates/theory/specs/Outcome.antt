-- The outcome of a call: number, length, readings, node, and every word of both areas.
-- Assumes nothing: these are definitions.
use Rattle.theory.specs.Answer.{Call}
use Rattle.theory.specs.LayoutOne.{layout_one}
use Rattle.theory.specs.JoiningOne.{joining_one}
pub use Rattle.descriptions.specs.Outcome.{Areas, Row}
unfoldable pub use Rattle.descriptions.specs.Outcome.{wiped}

abbrev pub Outcome : (c : Call) (before : Areas) (r : Row) (after : Areas) → Type 0
Outcome = Rattle.descriptions.specs.Outcome.Outcome joining_one layout_one
