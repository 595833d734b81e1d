-- Noting where the nodes of the structure stand, one after the other.
-- Assumes nothing.
use Prim.Native.Nat.{ℕ, ◌+◌, ◌-◌, ◌*◌, ◌≤◌, ◌<◌}
use native.Mathlib.Omega.{arith}
use native.Mathlib.Nat.{sub-zero}
use native.Mathlib.Numerals.{add-one}
use mathlib.Core.Path.{◌≡◌, sym, ap, ◌∙◌}
use mathlib.Core.Bool.{Bool}
use mathlib.Core.List.{List, [], ◌∷◌}
use lib.ListN.{length, get_or, set, length-set, drop}
use lib.Seq.{get_or-set_same, get_or-set_other, drop-cons}
use Rattle.theory.specs.Net.{arcs, nodeAt}
use Rattle.theory.proofs.Number.{TestLt, less, geq, test_lt}
use Rattle.fit.specs.Parts.{node_limit, arcs_in, after_node, nodeFrom, nodesFrom, nodesEnd, graphIn}
use Rattle.fit.specs.Sending.{NodeStands, Notable, Noted}
use Rattle.fit.proofs.Parts.{nodes_step, nodes_length, nodes_few, end_step, end_far}

-- the first i nodes are noted, and the others stand from p on
pub record Noting (s P : List ℕ) (i p : ℕ) : Type 0 where
  pub part : i ≤ get_or s 0 0
  pub few : get_or s 0 0 ≤ node_limit
  pub size : get_or s 0 0 ≤ length P
  pub done : (x : ℕ) → x < i → NodeStands s (get_or P x 0) (nodeAt (graphIn s 0) x)
  pub others : drop i (graphIn s 0) ≡ nodesFrom s p (get_or s 0 0 - i)
  pub there : nodesEnd s p (get_or s 0 0 - i) ≤ length s

module _ (s : List ℕ) where
  abbrev n : ℕ
  n = get_or s 0 0

  pub noting_start : (P : List ℕ) → Notable s → node_limit ≤ length P → Noting s P 0 1
  noting_start P a h = let few = nodes_few s 1 n 0 1 a.canonical in
      record {
        part = omega arith;
        few = omega (arith, a.few, a.there);
        size = omega (arith, a.few, a.there);
        done =
            λ x l. absurd (omega arith);
        others = rw sub-zero;
        there = rw sub-zero a.there;
      }

  module _ (P : List ℕ) (i p : ℕ) (a : Noting s P i p) where
    pub noting_end : n ≤ i → Notable s → Noted s P
    noting_end h b =
        let l = nodes_length s 1 n in
        record {
          few = omega (arith, a.few);
          canonical = b.canonical;
          noted = λ x q. a.done x (omega (arith, a.part));
        }

    module _ (h : i < n) where
      -- the words of the next node are there
      within : after_node s p ≤ length s
      within = omega (arith, a.there, end_step s p n i h, end_far s (after_node s p) (n - (i + 1)))

      pub noting_there : (q : ℕ) → q ≡ p → after_node s q ≤ length s
      noting_there q is = rw is within

      split : drop i (graphIn s 0) ≡ nodeAt (graphIn s 0) i ∷ drop (i + 1) (graphIn s 0)
      split = drop-cons (graphIn s 0) i (arcs []) (omega (arith, nodes_length s 1 n))
          ∙ ap (λ (k : ℕ). nodeAt (graphIn s 0) i ∷ drop k (graphIn s 0)) (sym (add-one i))

      both : nodeAt (graphIn s 0) i ∷ drop (i + 1) (graphIn s 0) ≡ nodeFrom s p ∷ nodesFrom s (after_node s p) (n - (i + 1))
      both = sym split ∙ a.others ∙ nodes_step s p n i h

      pub noting_step : (q k : ℕ) → q ≡ p → k ≡ arcs_in (get_or s q 0) → Noting s (set P i p) (i + 1) (p + 1 + 2 * k)
      noting_step q k is m =
          let e = both in
          let l : k ≡ arcs_in (get_or s p 0) = rw (← is) m in
          rw l (record {
            part = omega arith;
            few = a.few;
            size = simp length-set a.size;
            done = λ x l. go x l (test_lt x i);
            others = cc;
            there = omega (arith, a.there, end_step s p n i h);
          })
        where
          go : (x : ℕ) → x < i + 1 → {b : Bool} → TestLt x i b → NodeStands s (get_or (set P i p) x 0) (nodeAt (graphIn s 0) x)
          go x l (less k) = let z = get_or-set_other P i x p 0 (λ e. omega arith) in rw z (a.done x k)
          go x l (geq k) =
              let z : x ≡ i = omega arith in
              let y = get_or-set_same P i p 0 (omega (arith, a.size)) in
              let e = both in
              rw (z, y) (within, (cc))
