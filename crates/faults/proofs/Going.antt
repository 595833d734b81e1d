-- The words before a place break no rule: what the loop over the words keeps, and what follows where it stops.
-- Assumes nothing.
use mathlib.Core.Path.{◌≡◌, refl, ap, sym, ◌∙◌, subst}
use mathlib.Core.Logic.{◌⊎◌, inl, inr, ⊎_elim}
use mathlib.Core.Bool.{Bool, true, false}
use mathlib.Core.Option.{none, some}
use mathlib.Core.List.{List, [], ◌∷◌}
use Prim.Native.Nat.{ℕ, zero, suc, ◌+◌, ◌<◌, ◌≤◌}
use native.Mathlib.Omega.{arith}
use lib.ListN.{length, take, get_or}
use lib.Dec.{ltb}
use borrow.Author.Tests.{ltb-true, ltb-false}
use Rattle.roles.specs.Faults.{Cause, Expected, role, breaks, expected_after, expected_from, expected_at}
use Rattle.faults.specs.Stops.{Stopped}
use Rattle.faults.specs.Coded.{Bounded}
use Rattle.faults.proofs.Rules.{bounded_after}
use Rattle.faults.proofs.Run.{start}

abbrev W : Type 0
W = List ℕ

pub record Going (ws : W) (e : Expected) (at : ℕ) : Type 0 where
  pub inside : at ≤ length ws
  pub before : (i : ℕ) → i < at → breaks (expected_at ws i) (get_or ws i 0) ≡ none
  pub here : expected_at ws at ≡ e
  pub bounded : Bounded e

pub going_start : (ws : W) → Going ws start 0
going_start ws = record { inside = omega arith; before = λ i l. absurd (omega arith); here = refl; bounded = omega arith }

next_from : (e : Expected) (ws : W) (at : ℕ) → at < length ws →
    expected_from e (take (suc at) ws) ≡ expected_after (expected_from e (take at ws)) (get_or ws at 0)
next_from e [] at l = absurd (omega arith)
next_from e (w ∷ ws) zero l = refl
next_from e (w ∷ ws) (suc at) l = next_from (expected_after e w) ws at (omega arith)

module _ (ws : W) (e : Expected) (at : ℕ) (g : Going ws e at) (l : at < length ws) where
  pub going_on : breaks e (get_or ws at 0) ≡ none → (e' : Expected) → e' ≡ expected_after e (get_or ws at 0) → Going ws e' (at + 1)
  going_on b e' h =
      let more : at + 1 ≡ suc at = omega arith in
      subst (Going ws e') (sym more) (record {
        inside = omega arith;
        before = before;
        here = next_from start ws at l ∙ ap (λ (x : Expected). expected_after x (get_or ws at 0)) g.here ∙ sym h;
        bounded = subst Bounded (sym h) (bounded_after e (get_or ws at 0) g.bounded b);
      })
    where
      earlier : (i : ℕ) → i < suc at → (i < at) ⊎ (i ≡ at)
      earlier i m = go (ltb i at) refl
        where
          go : (t : Bool) → ltb i at ≡ t → (i < at) ⊎ (i ≡ at)
          go true q = inl (ltb-true i at q)
          go false q = let h = ltb-false i at q in inr (omega (arith, h, m))

      last : (i : ℕ) → i ≡ at → breaks (expected_at ws i) (get_or ws i 0) ≡ none
      last i q = ap (λ (j : ℕ). breaks (expected_at ws j) (get_or ws j 0)) q ∙ ap (λ (x : Expected). breaks x (get_or ws at 0)) g.here ∙ b

      before : (i : ℕ) → i < suc at → breaks (expected_at ws i) (get_or ws i 0) ≡ none
      before i m = ⊎_elim (λ (a : i < at). g.before i a) (λ (q : i ≡ at). last i q) (earlier i m)

  pub going_stop : (c : Cause) → breaks e (get_or ws at 0) ≡ some c → Stopped ws (role e) (some c) at
  going_stop c b =
      record { before = g.before; there = ap role g.here; by = (l, ap (λ (x : Expected). breaks x (get_or ws at 0)) g.here ∙ b) }

pub going_end : (ws : W) (e : Expected) (at : ℕ) → Going ws e at → length ws ≤ at → Stopped ws (role e) none at
going_end ws e at g h =
    let i = g.inside in record { before = g.before; there = ap role g.here; by = omega (arith, i, h) }
