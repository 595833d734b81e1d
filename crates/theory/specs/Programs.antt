-- A program as the code of unification is one, for layout one.
-- Assumes nothing: these are definitions.
use Rattle.theory.specs.LayoutOne.{layout_one}
use Rattle.theory.specs.JoiningOne.{joining_one}
use Rattle.theory.specs.Demands.{Unifier}
pub use Rattle.descriptions.specs.Programs.{Program, in_words, blank}

abbrev pub Meets : Program → Type 0
Meets = Rattle.descriptions.specs.Programs.Meets joining_one layout_one

abbrev pub sized : Program → Unifier
sized = Rattle.descriptions.specs.Programs.sized joining_one layout_one
