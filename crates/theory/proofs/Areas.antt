-- What becomes of both areas: there is an outcome for every input, refusals write nothing, and both areas keep their lengths.
-- Assumes nothing.
use Prim.Native.Nat.{ℕ}
use Rattle.theory.specs.Answer.{Answer, Call}
use Rattle.theory.specs.Rules.{Given}
use Rattle.theory.specs.LayoutOne.{layout_one}
use Rattle.theory.specs.JoiningOne.{joining_one}
use Rattle.descriptions.proofs.Areas.{Writes}

pub given_writes : (c : Call) (room work : ℕ) (r : Answer) → Given c room work r → Writes room r
given_writes = Rattle.descriptions.proofs.Areas.given_writes joining_one layout_one
