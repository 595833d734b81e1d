-- Pruning keeps every consistent choice, what is left is live, and so folding after pruning never clashes and leaves no disjunction
-- with fewer than two alternatives.
-- Assumes nothing.
use mathlib.Core.Path.{◌≡◌}
use mathlib.Core.Option.{none}
use Rattle.theory.specs.Join.{join}
use Rattle.theory.specs.Canonical.{Ctx}
use Rattle.theory.specs.JoiningOne.{joining_one}

abbrev pub Agrees : Ctx → Type 0
Agrees = Rattle.descriptions.proofs.Live.Agrees joining_one

pub not_none : (c : Ctx) → Agrees c → join c ≡ none → ⊥
not_none = Rattle.descriptions.proofs.Live.not_none joining_one
