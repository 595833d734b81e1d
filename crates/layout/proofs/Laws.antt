-- Laws of the readings, in the form in which the functions' returns ask them.
-- Assumes nothing.
use Prim.Native.Nat.{ℕ, zero, suc, ◌+◌, ◌-◌, ◌≤◌, ◌<◌}
use mathlib.Core.Path.{◌≡◌, refl}
use mathlib.Core.List.{List}
use lib.ListN.{length, get_or}
use borrow.Author.Tests.{le-ltb, lt-ltb, le-leb, lt-leb}
use native.Mathlib.Nat.{not-suc-le-zero}
use native.Mathlib.Numerals.{sub-one, add-one}
use Rattle.std.specs.Prelude.{Option, Some, None}
use Rattle.layout.specs.Reading.{times, disjunctionOf, descriptionOf, readDisjunction, readDescription}
use Rattle.graphs.specs.Graph.{readGraph}

module _ (f : ℕ → Option ℕ) where
  pub times_done : (k p : ℕ) → k ≤ 0 → Some p ≡ times f k p
  unfolding times
  times_done zero p h = refl
  times_done (suc k) p h = absurd (not-suc-le-zero h)

  pub times_stop : (k p : ℕ) → 0 < k → None ≡ f p → None ≡ times f k p
  unfolding times
  times_stop zero p h e = absurd (not-suc-le-zero h)
  times_stop (suc k) p h e = rw (← e)

  pub times_step : (k k' p q : ℕ) → k ≡ k' + 1 → Some q ≡ f p → times f k p ≡ times f k' q
  unfolding times
  times_step k k' p q h e = rw (h, add-one, ← e)

module _ (left : ℕ) (ws : List ℕ) (p : ℕ) where
  pub description_no_graph : None ≡ readGraph ws p → None ≡ readDescription left ws p
  unfolding readDescription descriptionOf
  description_no_graph e = rw (← e)

  module _ (q : ℕ) (graph : Some q ≡ readGraph ws p) where
    pub description_none : length ws ≤ q → None ≡ readDescription left ws p
    unfolding readDescription descriptionOf
    description_none h = rw (← graph) (simp (le-ltb _ _ h))

    pub description_times : q < length ws → readDescription left ws p ≡ times (readDisjunction left ws) (get_or ws q 0) (q + 1)
    unfolding readDescription descriptionOf
    description_times h = rw (← graph) (simp (lt-ltb _ _ h))

pub disjunction_deep : (left : ℕ) (ws : List ℕ) (p : ℕ) → left ≡ 0 → None ≡ readDisjunction left ws p
unfolding readDisjunction
disjunction_deep left ws p h = rw h

pub disjunction_none : (left : ℕ) (ws : List ℕ) (p : ℕ) → 0 < left → length ws ≤ p → None ≡ readDisjunction left ws p
unfolding readDisjunction disjunctionOf
disjunction_none zero ws p l h = absurd (not-suc-le-zero l)
disjunction_none (suc left) ws p l h = simp (le-ltb _ _ h)

pub disjunction_few : (left : ℕ) (ws : List ℕ) (p : ℕ) → 0 < left → p < length ws → get_or ws p 0 < 2 → None ≡ readDisjunction left ws p
unfolding readDisjunction disjunctionOf
disjunction_few zero ws p l h k = absurd (not-suc-le-zero l)
disjunction_few (suc left) ws p l h k = simp (lt-ltb _ _ h, lt-leb _ _ k)

pub disjunction_times : (left : ℕ) (ws : List ℕ) (p : ℕ) → 0 < left → p < length ws → 2 ≤ get_or ws p 0
    → readDisjunction left ws p ≡ times (readDescription (left - 1) ws) (get_or ws p 0) (p + 1)
unfolding readDisjunction disjunctionOf readDescription
disjunction_times zero ws p l h k = absurd (not-suc-le-zero l)
disjunction_times (suc left) ws p l h k = rw sub-one (simp (lt-ltb _ _ h, le-leb _ _ k))
