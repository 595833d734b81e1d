-- Laws of the ends, in the form in which the functions' returns ask them.
-- Assumes nothing.
use Prim.Native.Nat.{ℕ, zero, suc, ◌+◌, ◌-◌, ◌≤◌, ◌<◌}
use mathlib.Core.Path.{◌≡◌, refl}
use mathlib.Core.List.{List}
use lib.ListN.{length, get_or}
use borrow.Author.Tests.{le-ltb, lt-ltb, le-leb, lt-leb}
use native.Mathlib.Nat.{not-suc-le-zero}
use native.Mathlib.Numerals.{sub-one, add-one}
use Rattle.theory.specs.Limits.{code_limit}
use Rattle.layout.specs.Skipping.{ends, nodeEnd, graphEnd, descriptionEndOf, disjunctionEnd, nestedEnd}

module _ (ws : List ℕ) (p : ℕ) where
  pub node_end_none : length ws ≤ p → length ws ≡ nodeEnd ws p
  unfolding nodeEnd
  node_end_none h = simp (le-ltb _ _ h)

  pub node_end_atom : p < length ws → code_limit ≤ get_or ws p 0 → p + 1 ≡ nodeEnd ws p
  unfolding nodeEnd
  node_end_atom h k = simp (lt-ltb _ _ h, le-ltb _ _ k)

  module _ (there : p < length ws) (arcs : get_or ws p 0 < code_limit) where
    pub node_end_short : length ws < p + 1 + (get_or ws p 0 + get_or ws p 0) → length ws ≡ nodeEnd ws p
    unfolding nodeEnd
    node_end_short h = simp (lt-ltb _ _ there, lt-ltb _ _ arcs, lt-leb _ _ h)

    pub node_end_arcs : p + 1 + (get_or ws p 0 + get_or ws p 0) ≤ length ws → p + 1 + (get_or ws p 0 + get_or ws p 0) ≡ nodeEnd ws p
    unfolding nodeEnd
    node_end_arcs h = simp (lt-ltb _ _ there, lt-ltb _ _ arcs, le-leb _ _ h)

module _ (ws : List ℕ) (f : ℕ → ℕ) where
  pub ends_done : (k p : ℕ) → k ≤ 0 → p ≡ ends ws f k p
  unfolding ends
  ends_done zero p h = refl
  ends_done (suc k) p h = absurd (not-suc-le-zero h)

  pub ends_out : (k p : ℕ) → 0 < k → length ws ≤ p → length ws ≡ ends ws f k p
  unfolding ends
  ends_out zero p h l = absurd (not-suc-le-zero h)
  ends_out (suc k) p h l = simp (le-ltb _ _ l)

  pub ends_step : (k k' p q : ℕ) → k ≡ k' + 1 → p < length ws → q ≡ f p → ends ws f k p ≡ ends ws f k' q
  unfolding ends
  ends_step k k' p q h l e = rw (h, add-one, e) (simp (lt-ltb _ _ l))

module _ (ws : List ℕ) (p : ℕ) where
  pub graph_end_none : length ws ≤ p → length ws ≡ graphEnd ws p
  unfolding graphEnd
  graph_end_none h = simp (le-ltb _ _ h)

  pub graph_end_nodes : p < length ws → graphEnd ws p ≡ ends ws (nodeEnd ws) (get_or ws p 0) (p + 1)
  unfolding graphEnd
  graph_end_nodes h = simp (lt-ltb _ _ h)

module _ (left : ℕ) (ws : List ℕ) (p q : ℕ) (graph : q ≡ graphEnd ws p) where
  pub nested_end_none : length ws ≤ q → length ws ≡ nestedEnd left ws p
  unfolding nestedEnd descriptionEndOf
  nested_end_none h = rw (← graph) (simp (le-ltb _ _ h))

  pub nested_end_disjunctions : q < length ws → nestedEnd left ws p ≡ ends ws (disjunctionEnd left ws) (get_or ws q 0) (q + 1)
  unfolding nestedEnd descriptionEndOf
  nested_end_disjunctions h = rw (← graph) (simp (lt-ltb _ _ h))

pub disjunction_end_deep : (left : ℕ) (ws : List ℕ) (p : ℕ) → left ≡ 0 → length ws ≡ disjunctionEnd left ws p
unfolding disjunctionEnd
disjunction_end_deep left ws p h = rw h

pub disjunction_end_none : (left : ℕ) (ws : List ℕ) (p : ℕ) → 0 < left → length ws ≤ p → length ws ≡ disjunctionEnd left ws p
unfolding disjunctionEnd
disjunction_end_none zero ws p l h = absurd (not-suc-le-zero l)
disjunction_end_none (suc left) ws p l h = simp (le-ltb _ _ h)

pub disjunction_end_alternatives : (left : ℕ) (ws : List ℕ) (p : ℕ) → 0 < left → p < length ws
    → disjunctionEnd left ws p ≡ ends ws (nestedEnd (left - 1) ws) (get_or ws p 0) (p + 1)
unfolding disjunctionEnd nestedEnd
disjunction_end_alternatives zero ws p l h = absurd (not-suc-le-zero l)
disjunction_end_alternatives (suc left) ws p l h = rw sub-one (simp (lt-ltb _ _ h))
