-- Sending the arcs of a node, one after the other.
-- Assumes nothing.
use Prim.Native.Nat.{ℕ, suc, ◌+◌, ◌-◌, ◌≤◌, ◌<◌, max}
use native.Mathlib.Omega.{arith}
use mathlib.Core.Path.{◌≡◌, refl, subst}
use mathlib.Core.Logic.{◌↔◌}
use mathlib.Core.List.{List, ◌∷◌}
use lib.ListN.{get_or}
use Rattle.theory.specs.Net.{Rising, InOrder, met}
use Rattle.theory.proofs.Instance.{met_ge}
use Rattle.fit.specs.Parts.{node_limit, arcsOfWords, lastArcs}
use Rattle.fit.specs.Sending.{SentArcs, SameMaps, NoMap, FindsTarget, hit, Sendable, Steps, ArcsAsked, Sends}
use Rattle.std.specs.Prelude.{Option, Some, None}
use Rattle.fit.specs.declared.sending.Found.{Found}
use Rattle.fit.proofs.Parts.{arcs_step, arcs_none}
use Rattle.fit.proofs.Finding.{rising_all, sent_first}
use Rattle.fit.proofs.Steps.{comes_start, comes_on, comes_end, comes_refused}

module _ (s : List ℕ) (e : ℕ) (ws : List ℕ) (B l : List (ℕ × ℕ)) (L : List ℕ) (j : ℕ) where
  -- what is left of the arcs l, which go into B, are those from `at` on, which go into the last `more` before e
  pub record Arcwise (more at left : ℕ) (M : List ℕ) (k : ℕ) : Type 0 where
    pub asked : ArcsAsked s e more ws at left k
    pub sum : met k (arcsOfWords ws at left) ≡ met j l
    pub comes : SameMaps L j (λ m. SentArcs B m l) M k (λ m. SentArcs (lastArcs s e more) m (arcsOfWords ws at left))

  module _ (more at left : ℕ) (M : List ℕ) (k : ℕ) (a : Arcwise more at left M k) where
    pub arcwise_end : left ≤ 0 → Sends B l L j M (Some k)
    arcwise_end h =
        let z = arcs_none ws at left h in
        let d : k ≡ met j l = subst (λ (x : List (ℕ × ℕ)). met k x ≡ met j l) z a.sum in
        let c = comes_end L j (λ m. SentArcs B m l) M k (λ m. SentArcs (lastArcs s e more) m (arcsOfWords ws at left)) a.comes
        (λ m. rw z tt) in
        (d, rw d at c)

    module _ (some : 0 < left) where
      abbrev f : ℕ
      f = get_or ws at 0

      abbrev t : ℕ
      t = get_or ws (at + 1) 0

      split : arcsOfWords ws at left ≡ (f, t) ∷ arcsOfWords ws (at + 2) (left - 1)
      split = arcs_step ws at left some

      order : InOrder k ((f, t) ∷ arcsOfWords ws (at + 2) (left - 1))
      order = subst (InOrder k) split a.asked.order

      rising : Rising 0 ((f, t) ∷ arcsOfWords ws (at + 2) (left - 1))
      rising = subst (Rising 0) split a.asked.rising

      few : met k ((f, t) ∷ arcsOfWords ws (at + 2) (left - 1)) ≤ node_limit
      few = rw split at a.asked.few

      pub arcwise_next : Sendable t k
      arcwise_next =
          let q = order.0 in
          record { next = q; few = omega (arith, few, met_ge (max k (suc t)) (arcsOfWords ws (at + 2) (left - 1))) }

      pub arcwise_none : (r : Option Found) → r ≡ None → FindsTarget s e more f r → NoMap L j (λ m. SentArcs B m l)
      arcwise_none r is n =
          comes_refused L j (λ m. SentArcs B m l) M k (λ m. SentArcs (lastArcs s e more) m (arcsOfWords ws at left)) a.comes
          (λ m g o. subst (FindsTarget s e more f) is n (m t) (subst (SentArcs (lastArcs s e more) m) split o).0)

      module _ (z : Option Found) (u i : ℕ) (is : z ≡ hit u i) (finds : FindsTarget s e more f z) where
        found : FindsTarget s e more f (hit u i)
        found = subst (FindsTarget s e more f) is finds

        same : (m : ℕ → ℕ) → SentArcs (lastArcs s e more) m (arcsOfWords ws at left)
            ↔ ((m t ≡ u) × SentArcs (lastArcs s e i) m (arcsOfWords ws (at + 2) (left - 1)))
        same m = rw split (sent_first (lastArcs s e more) (lastArcs s e i) f u found.1 m t (arcsOfWords ws (at + 2) (left - 1)) rising)

        pub arcwise_stop : (k' : ℕ) (M' : List ℕ) (y : Option ℕ) → y ≡ None → Steps M k (λ m. m t ≡ u) k' M' y →
            NoMap L j (λ m. SentArcs B m l)
        arcwise_stop k' M' y d n =
            comes_refused L j (λ m. SentArcs B m l) M k (λ m. SentArcs (lastArcs s e more) m (arcsOfWords ws at left)) a.comes
            (λ m g o. subst (Steps M k (λ m. m t ≡ u) k' M') d n m g ((same m).0 o).0)

        pub arcwise_step : (M' : List ℕ) (y : Option ℕ) (r : ℕ) → y ≡ Some r → Steps M k (λ m. m t ≡ u) (max k (suc t)) M' y →
            Arcwise i (at + 2) (left - 1) M' r
        arcwise_step M' y r d steps =
            let g = subst (Steps M k (λ m. m t ≡ u) (max k (suc t)) M') d steps in
            let z = g.0 in
            let there = a.asked.there in
            rw z (record {
              asked = record {
                findable = found.0;
                there = omega arith;
                rising = rising_all (suc f) (arcsOfWords ws (at + 2) (left - 1)) rising.1;
                order = order.1;
                few = few;
              };
              sum = rw split at a.sum;
              comes = comes_on L j (λ m. SentArcs B m l) M k (λ m. SentArcs (lastArcs s e more) m (arcsOfWords ws at left)) a.comes
                  (λ m. m t ≡ u) M' (max k (suc t)) (λ m. SentArcs (lastArcs s e i) m (arcsOfWords ws (at + 2) (left - 1))) same g.1;
            })

pub arcwise_start : (s : List ℕ) (e more : ℕ) (ws : List ℕ) (at left : ℕ) (M : List ℕ) (k : ℕ) → ArcsAsked s e more ws at left k
    → Arcwise s e ws (lastArcs s e more) (arcsOfWords ws at left) M k more at left M k
arcwise_start s e more ws at left M k a =
    record { asked = a; sum = refl; comes = comes_start M k (λ m. SentArcs (lastArcs s e more) m (arcsOfWords ws at left)) }
