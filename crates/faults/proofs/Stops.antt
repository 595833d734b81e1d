-- What follows where going over the words stops: the fault that is told.
-- Assumes nothing.
use mathlib.Core.Path.{◌≡◌, refl, ap, sym, ◌∙◌, subst}
use mathlib.Core.Logic.{inr, ◌≢◌}
use mathlib.Core.Option.{none}
use mathlib.Core.List.{List, [], ◌∷◌}
use Prim.Native.Nat.{ℕ, suc, ◌<◌}
use native.Mathlib.Omega.{arith}
use lib.ListN.{length, take, get_or}
use Rattle.theory.specs.LayoutOne.{Image}
use Rattle.roles.specs.Faults.{words_end, Role, the_end, Expected, role, breaks, expected_after, expected_from, expected_at}
use Rattle.roles.specs.Faults.{Faulty}
use Rattle.faults.specs.Stops.{Stopped}
use Rattle.roles.specs.Coded.{role_of, broken_of}
use Rattle.faults.specs.Coded.{ended_of}
use Rattle.faults.specs.Told.{Told}
use Rattle.roles.specs.declared.cause.Cause as Coded
use Rattle.std.specs.Prelude.{Option, None}
use Rattle.roles.specs.declared.role.Role as CodedRole
use Rattle.roles.specs.declared.role.Role.TheVariants.{NodeCount, Head, Feature, Target, DisjunctionCount, AlternativeCount, End}
use Rattle.faults.proofs.Run.{Goes, start}
use Rattle.faults.proofs.Rests.{ends_image}

abbrev W : Type 0
W = List ℕ

abbrev role_at : W → ℕ → Role
role_at ws p = role (expected_at ws p)

all_go : (e : Expected) (ws : W) → ((i : ℕ) → i < length ws → breaks (expected_from e (take i ws)) (get_or ws i 0) ≡ none) →
    Goes e ws (expected_from e (take (length ws) ws))
all_go e [] b = refl
all_go e (w ∷ ws) b = (b 0 (omega arith), all_go (expected_after e w) ws (λ i l. b (suc i) (omega arith)))

-- ---- at the end
module _ (ws : W) (r : Role) (p : ℕ) (s : Stopped ws r none p) where
  cut_short : r ≢ the_end → Faulty ws words_end p
  cut_short n = record { before = s.before; here = inr (s.by, λ z. n (sym s.there ∙ z), refl) }

  whole : r ≡ the_end → Image ws
  whole h =
      let end = s.by in
      ends_image ws (expected_at ws (length ws)) (ap (role_at ws) (sym end) ∙ s.there ∙ h)
      (all_go start ws (λ i l. s.before i (omega (arith, end, l))))

-- ---- as the code has them
module _ (ws : W) (p : ℕ) where
  told_end : (r : CodedRole.Role) → Stopped ws (role_of r) none p → Told ws (ended_of r p)
  told_end NodeCount s = cut_short ws _ p s (λ z. let y : ◌≡◌ {A = ℕ} 0 1 = cc in omega arith)
  told_end (Head n) s = cut_short ws _ p s (λ z. let y : ◌≡◌ {A = ℕ} 0 1 = cc in omega arith)
  told_end (Feature n k b) s = cut_short ws _ p s (λ z. let y : ◌≡◌ {A = ℕ} 0 1 = cc in omega arith)
  told_end (Target n k b) s = cut_short ws _ p s (λ z. let y : ◌≡◌ {A = ℕ} 0 1 = cc in omega arith)
  told_end DisjunctionCount s = cut_short ws _ p s (λ z. let y : ◌≡◌ {A = ℕ} 0 1 = cc in omega arith)
  told_end (AlternativeCount d) s = cut_short ws _ p s (λ z. let y : ◌≡◌ {A = ℕ} 0 1 = cc in omega arith)
  told_end End s = whole ws _ p s refl

  module _ (r : CodedRole.Role) (broken : Option Coded.Cause) (s : Stopped ws (role_of r) (broken_of broken) p) where
    by : {o : Option Coded.Cause} → broken ≡ o → Stopped ws (role_of r) (broken_of o) p
    by e = subst (λ (x : Option Coded.Cause). Stopped ws (role_of r) (broken_of x) p) e s

    pub stop_kept : broken ≡ None → Told ws (ended_of r p)
    stop_kept e = told_end r (by e)
