-- What was made is handed over, and carries no cause.
-- Assumes nothing.
use mathlib.Core.Path.{sym, subst}
use mathlib.Core.Logic.{inl, inr}
use mathlib.Core.List.{List}
use Prim.Native.Nat.{ℕ}
use Rattle.std.specs.Prelude.{Ok, Err}
use Rattle.answering.specs.declared.hand.Failure.TheVariants as failure
use Rattle.answering.specs.Answer.{Answer, Made}
use Rattle.answering.specs.Handing.{Handed}
use Rattle.answering.specs.Caused.{Caused}

-- only a malformed input has a cause, and of such nothing is made
pub handed_caused : (a b w s : List ℕ) (m : Made) (r : Answer) (s' : List ℕ) → Handed w s m r s' → Caused a b r
handed_caused a b w s (Err (failure.Clash i)) r s' (e, same) = subst (Caused a b) (sym e) tt
handed_caused a b w s (Err failure.QuickFails) r s' (e, same) = subst (Caused a b) (sym e) tt
handed_caused a b w s (Err failure.TooMany) r s' (e, same) = subst (Caused a b) (sym e) tt
handed_caused a b w s (Err failure.NoChoice) r s' (e, same) = subst (Caused a b) (sym e) tt
handed_caused a b w s (Ok u) r s' (inl (short, e, same)) = subst (Caused a b) (sym e) tt
handed_caused a b w s (Ok u) r s' (inr (fits, e, wrote)) = subst (Caused a b) (sym e) tt
