-- Layout one under rule 0: joins and structures. The joined graph itself is a structure, finite and with all nodes reached.
-- Assumes nothing.
use mathlib.Core.Path.{◌≡◌, sym, subst}
use mathlib.Core.Logic.{inl, inr}
use mathlib.Core.Bool.{Bool, true, false}
use mathlib.Core.Option.{none}
use mathlib.Core.List.{List, [], ◌∷◌, Memᴰ}
use Prim.Native.Nat.{ℕ, zero, suc, ◌≤◌, ◌<◌}
use native.Mathlib.Omega.{arith}
use lib.ListN.{length}
use lib.Dec.{ltb}
use Rattle.theory.specs.Net.{Graph, Clash, NodeOf, beside, Canonical}
use Rattle.theory.specs.Join.{join}
use Rattle.theory.specs.Structure.{Satisfies, Proper, structures}
use Rattle.descriptions.proofs.Tests.{Tells, holds, fails, tells_lt}
use Rattle.theory.proofs.Meaning.{canonical_some, joined_satisfied, clash_unsatisfied}
use Rattle.theory.proofs.Instance.{AllCanonical, reach, join_none}
use Rattle.theory.proofs.Fit.{structure, same_node}
use Rattle.descriptions.proofs.Senses.{Sense}
use Rattle.theory.proofs.Laws.{laws, joined_of}

le_down : (k n : ℕ) → suc k ≤ n → k ≤ n
le_down k n h = omega arith

lt_of : (k n : ℕ) → suc k ≤ n → k < n
lt_of k n h = omega arith

module _ (H : Graph) (c : Canonical H) where
  -- the nodes below a number
  pub below : (k : ℕ) → k ≤ length H → List (NodeOf H)
  below zero h = []
  below (suc k) h = (k, lt_of k (length H) h) ∷ below k (le_down k (length H) h)

  pub in_below : (k : ℕ) (h : k ≤ length H) (x : NodeOf H) → x.0 < k → Memᴰ x (below k h)
  unfolding below
  in_below zero h x l = absurd (omega arith)
  in_below (suc k) h x l = go (ltb x.0 k) (tells_lt x.0 k) (in_below k (le_down k (length H) h) x)
    where
      go : (t : Bool) → Tells (x.0 < k) t → (x.0 < k → Memᴰ x (below k (le_down k (length H) h))) → Memᴰ x (below (suc k) h)
      go true (holds m) s = Memᴰ.tail (s m)
      go false (fails n) s = Memᴰ.head (same_node H c x (k, lt_of k (length H) h) (omega arith))

  abbrev at_left : (NodeOf H → Type 0) → (beside (H ∷ [])).Spot → Type 0
  at_left P (inl x) = P x
  at_left P (inr y) = Unit {0}

  module _ (P : NodeOf H → Type 0) (p : P (0, canonical_some H c)) (s : (x : NodeOf H) (f : ℕ) (y : NodeOf H) → P x →
      (structure H c).Goes x f y → P y) where
    root_left : (x : (beside (H ∷ [])).Spot) → (beside (H ∷ [])).Root x → at_left P x
    root_left (inl x) r = subst P (sym (same_node H c x (0, canonical_some H c) r)) p
    root_left (inr y) r = tt

    arc_left : (x : (beside (H ∷ [])).Spot) (f : ℕ) (y : (beside (H ∷ [])).Spot) → at_left P x → (beside (H ∷ [])).Arc x f y → at_left P y
    arc_left (inl x) f (inl y) q u = s x f y q u
    arc_left (inl x) f (inr y) q u = tt
    arc_left (inr x) f (inl y) q u = absurd u
    arc_left (inr x) f (inr y) q u = tt

    reached_all : (x : NodeOf H) → P x
    reached_all x = reach (H ∷ []) (c, tt) (at_left P) root_left arc_left (inl x)

  pub structure_proper : Proper (structure H c)
  structure_proper = record {
    nodes = below (length H) (omega arith);
    all = λ x. in_below (length H) (omega arith) x x.1;
    reached =
        λ P p s x. reached_all P p s x;
  }

  pub structure_itself : Satisfies (structure H c) H
  structure_itself = record {
    to = λ x. x;
    root_to = λ x r. same_node H c x (0, canonical_some H c) r;
    atom_to = λ x a u. u;
    arc_to =
        λ x f y u. u;
  }

pub clash_of : (gs : List Graph) → 0 < length gs → AllCanonical gs → join gs ≡ none → Clash gs
clash_of [] p f e = absurd (omega arith)
clash_of (g ∷ gs) p f e = join_none g gs f e

abbrev pub sense : Sense laws structures
sense = record {
  joined_satisfied = λ gs p f K e S. joined_satisfied gs K (joined_of gs (p, f) K e) S;
  clash_unsatisfied = λ gs p f e S. clash_unsatisfied gs (clash_of gs p f e) S;
  Proper = Proper;
  model = λ gs p f K e. let c : Canonical K = (joined_of gs (p, f) K e).canonical in
      (structure K c, structure_proper K c, structure_itself K c);
}
