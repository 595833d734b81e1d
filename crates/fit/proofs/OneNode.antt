-- Sending one node: to the same atom, or along arcs of the same features.
-- Assumes nothing.
use Prim.Native.Nat.{ℕ, ◌+◌, ◌-◌, ◌*◌, ◌≤◌, ◌<◌}
use native.Mathlib.Omega.{arith}
use mathlib.Core.Path.{◌≡◌, sym, subst, ap, ◌∙◌}
use mathlib.Core.Logic.{◌↔◌}
use mathlib.Core.Bool.{Bool}
use mathlib.Core.List.{List}
use lib.ListN.{length, get_or}
use Rattle.theory.specs.Limits.{code_limit}
use Rattle.theory.specs.Net.{atom, Graph, nodeAt, arcsOf, met}
use Rattle.theory.proofs.Number.{TestLt, less, geq, test_lt}
use Rattle.theory.proofs.Fit.{numbered_rising}
use Rattle.fit.specs.Parts.{arcs_in, after_node, arcsOfWords, lastArcs, nodeFrom, graphIn}
use Rattle.fit.specs.Sending.{SentArcs, Sent, SentHere, Agrees, NoMap, Sends, ArcsAsked, NodeAsked, Walks, Noted}
use Rattle.std.specs.Prelude.{Option, Some, None}
use Rattle.graphs.specs.Graph.{went}
use Rattle.fit.proofs.Parts.{arcs_in_low, arcs_in_high, node_arcs, node_atom, node_its}

-- where the structure node of node i stands
pub place_is : (M P : List ℕ) (i u v w : ℕ) → u ≡ i → v ≡ get_or M u 0 → w ≡ get_or P v 0 → w ≡ get_or P (get_or M i 0) 0
place_is M P i u v w a b c = c ∙ ap (λ (x : ℕ). get_or P x 0) (b ∙ ap (λ (x : ℕ). get_or M x 0) a)

module _ (s P ws : List ℕ) (p i : ℕ) (M : List ℕ) (k : ℕ) (noted : Noted s P) (asked : NodeAsked s ws p i M k) where
  abbrev H : Graph
  H = graphIn s 0

  abbrev x : ℕ
  x = get_or M i 0

  abbrev h : ℕ
  h = get_or ws p 0

  abbrev Here : (ℕ → ℕ) → Type 0
  Here m = SentHere H m i (nodeFrom ws p)

  low : x < length H
  low = asked.low i asked.known

  module _ (q : ℕ) (place : q ≡ get_or P (get_or M i 0) 0) where
    pub inside : after_node s q ≤ length s
    inside = rw place (noted.noted x low).0

    is : nodeFrom s q ≡ nodeAt H x
    is = rw place (noted.noted x low).1

    module _ (high : code_limit ≤ h) where
      pub atom_same : h ≡ get_or s q 0 → Walks H ws p i M k M (went (p + 1) k)
      atom_same e =
          let v = node_atom ws p high in
          let a = arcs_in_high h high in
          let w : nodeAt H x ≡ atom (h - code_limit) = sym is ∙ node_atom s q (omega arith) ∙ rw (← e) in
          let d : k ≡ met k (arcsOf (nodeFrom ws p)) = rw v in (
            omega arith,
            d,
            record {
              onward = λ m g o. (g, tt);
              back = λ m g _.
                  let z : m i ≡ x = g i asked.known in
                  let l = low in
                  let b : (m i < length H) × Sent H m (atom (h - code_limit)) (m i) = (omega arith, rw z w) in
                  (g, subst (SentHere H m i) (sym v) b);
            },
          )

      other : (get_or s q 0 ≡ h → ⊥) → nodeAt H x ≡ atom (h - code_limit) → {t : Bool} → TestLt (get_or s q 0) code_limit t → ⊥
      other n e (less l) = let a = node_arcs s q l in let b = is in let z : ◌≡◌ {A = ℕ} 0 1 = cc in omega arith
      other n e (geq l) =
          let a = node_atom s q l in
          let b = is in
          let z : get_or s q 0 - code_limit ≡ h - code_limit = cc in
          n (omega arith)

      pub atom_other : (h ≡ get_or s q 0 → ⊥) → NoMap M k Here
      atom_other n m g o =
          let z : m i ≡ x = g i asked.known in
          let b = (subst (SentHere H m i) (node_atom ws p high) o).1 in
          other (λ e. n (sym e)) (rw (← z) b) (test_lt (get_or s q 0) code_limit)

    module _ (low : h < code_limit) (e ahead : ℕ) (count : ahead ≡ arcs_in (get_or s q 0)) (ends : e ≡ q + 1 + 2 * ahead) where
      ahead_is : lastArcs s e ahead ≡ arcsOf (nodeAt H x)
      ahead_is = let z : e - 2 * ahead ≡ q + 1 = omega arith in rw (z, count) (sym (node_its s q) ∙ ap arcsOf is)

      its : arcsOfWords ws (p + 1) h ≡ arcsOf (nodeFrom ws p)
      its = sym (ap arcsOf (node_arcs ws p low))

      pub arcs_asked : ArcsAsked s e ahead ws (p + 1) h k
      arcs_asked =
          let z = its in
          let y = ahead_is in
          record {
            findable = record {
              room = omega arith;
              inside = omega (arith, inside);
              rising =
                  rw y (numbered_rising 0 1 H noted.canonical x);
            };
            there = omega (arith, asked.there, arcs_in_low h low);
            rising = rw z asked.rising;
            order = rw z asked.order;
            few = rw z asked.few;
          }

      same : (m : ℕ → ℕ) → Agrees M k m → Here m ↔ SentArcs (lastArcs s e ahead) m (arcsOfWords ws (p + 1) h)
      same m g =
          let z : m i ≡ x = g i asked.known in
          let y = ahead_is in
          let v = node_arcs ws p low in
          rw (v, z, y) (λ o. o.1, λ o. (asked.low i asked.known, o))

      pub arcs_stuck : (M' : List ℕ) (y : Option ℕ) → y ≡ None → Sends (lastArcs s e ahead) (arcsOfWords ws (p + 1) h) M k M' y →
          NoMap M k Here
      arcs_stuck M' y d n m g o = subst (Sends (lastArcs s e ahead) (arcsOfWords ws (p + 1) h) M k M') d n m g ((same m g).0 o)

      pub arcs_went : (M' : List ℕ) (y : Option ℕ) (r : ℕ) → y ≡ Some r → Sends (lastArcs s e ahead) (arcsOfWords ws (p + 1) h) M k M' y →
          (n : ℕ) →
          n ≡ p + 1 + 2 * h → Walks H ws p i M k M' (went n r)
      arcs_went M' y r d sends n far =
          let t = subst (Sends (lastArcs s e ahead) (arcsOfWords ws (p + 1) h) M k M') d sends in
          let z = its in
          let a = arcs_in_low h low in (
            omega arith,
            t.0 ∙ rw z,
            record {
              onward = λ m g o. rw t.0 (t.1.onward m g ((same m g).0 o));
              back = λ m g u. let b = t.1.back m (rw t.0 at g) u in (b.0, (same m b.0).1 b.1);
            },
          )
