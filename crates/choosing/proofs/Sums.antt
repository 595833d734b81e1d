-- The number of choices with one of some alternatives: a sum so far, and what is still to come.
-- Assumes nothing.
use Prim.Native.Nat.{ℕ, ◌+◌, ◌-◌, ◌≤◌, ◌<◌, min}
use native.Mathlib.Omega.{arith}
use mathlib.Core.Path.{◌≡◌, sym, ap, ◌∙◌}
use mathlib.Core.Bool.{true, false}
use mathlib.Core.List.{List}
use lib.ListN.{length}
use Rattle.theory.specs.Limits.{choice_stop}
use Rattle.descriptions.specs.Descr.{number, number_any}
use Rattle.engine.specs.Placed.{Placed, Options, option, strip, strip_any}
use Rattle.engine.specs.Marks.{Marking, keep, keep_any}
use Rattle.modes_by_marks.proofs.Counting.{count_left}
use Rattle.modes_by_marks.proofs.Marks.{keep_true, keep_false}
use Rattle.loading.specs.Lying.{Lying, RestAny}
use Rattle.marks.specs.Positions.{tail_at, mark_at, after_at}
use Rattle.marks.specs.Readable.{Readable}
use Rattle.marks.specs.Marked.{marking}
use Rattle.marks.proofs.Reading.{readable}
use Rattle.counting.specs.Counted.{Counted}
use Rattle.choosing.specs.Ways.{choices_any_of}
use Rattle.choosing.specs.Chosen.{Summing}
use Rattle.choosing.proofs.Walks.{Still, still_all, still_none, Next, next, next_here, next_mark, next_lies, next_on}

-- ---- the number of choices with the first of some alternatives, and with a later one
module _ (m : Marking) (x : ℕ) (d : Placed) (b : Options) where
  pub number_kept : m x ≡ true →
      number_any (strip_any (keep_any m (option x d b))) ≡ number (strip (keep m d)) + number_any (strip_any (keep_any m b))
  unfolding number
  number_kept e = ap (λ (a : Options). number_any (strip_any a)) (keep_true m x d b e)

  pub number_dropped : m x ≡ false → number_any (strip_any (keep_any m (option x d b))) ≡ number_any (strip_any (keep_any m b))
  number_dropped e = ap (λ (a : Options). number_any (strip_any a)) (keep_false m x d b e)

-- what is counted of a description that stands loaded
pub counted_of : {w : List ℕ} {p count left : ℕ} (c : Summing w p count left) (at r : ℕ) → Counted w at left r →
    (l : Lying c.n c.t at left) → r ≡ min (number (strip (keep (marking w) l.d))) choice_stop
counted_of {w} c at r counted l = counted.is (readable w c.room c.loaded c.few l)
    ∙ count_left l.d choice_stop (omega arith) (marking w)

-- what a turn at `at` does to the sum
pub data Turn (w : List ℕ) (left at x sum sum' : ℕ) : Type 0 where
  one : (r : ℕ) → marking w x ≡ true → Counted w at left r → sum' ≡ min (sum + r) choice_stop → Turn w left at x sum sum'
  none : marking w x ≡ false → sum' ≡ sum → Turn w left at x sum sum'

module _ {w : List ℕ} {p count left : ℕ} (c : Summing w p count left) where
  -- the sum so far and what is still to come are the whole
  abbrev pub Adds : (sum : ℕ) (at l : ℕ) (b : Options) → RestAny c.lies at l b → Type 0
  Adds sum at l b s = min (choices_any_of (marking w) c.lies) choice_stop
      ≡ min (sum + number_any (strip_any (keep_any (marking w) b))) choice_stop

  pub sum_none : Still c (Adds 0) count p
  sum_none = still_all c (Adds 0) (omega arith)

  module _ {more at : ℕ} (sum : ℕ) (s : Still c (Adds sum) more at) where
    pub sum_all : more ≤ 0 → sum ≤ choice_stop → sum ≡ min (choices_any_of (marking w) c.lies) choice_stop
    unfolding number
    sum_all h small = still_none c (Adds sum) s (sum ≡ min (choices_any_of (marking w) c.lies) choice_stop) h (λ o e. omega arith)

    module _ (h : 0 < more) where
      pub sum_here : ((at < 2048) × (16384 ≤ length w)) × (tail_at w at < 2048)
      sum_here = next_here c (Adds sum) (next c (Adds sum) s h)

      pub sum_asks : Readable w at left
      sum_asks = readable w c.room c.loaded c.few (next_lies c (Adds sum) (next c (Adds sum) s h))

      pub sum_on : (x : ℕ) → (x ≡ mark_at w at) × (x < 1024) → (sum' : ℕ) → Turn w left at x sum sum' → (at' : ℕ) → at' ≡ after_at w at →
          Still c (Adds sum') (more - 1) at'
      sum_on x is sum' turn at' e = next_on c (Adds sum) (Adds sum') n (go turn) at' e
        where
          n : Next c (Adds sum) more at
          n = next c (Adds sum) s h

          own : x ≡ n.x
          own = next_mark c (Adds sum) n x is

          go : Turn w left at x sum sum' → Adds sum' n.o.0 n.o.1 n.b n.o.4
          go (one r f counted g) =
              let z = counted_of c at r counted (next_lies c (Adds sum) n) in
              omega (arith, n.holds, number_kept (marking w) n.x n.d n.b (ap (marking w) (sym own) ∙ f))
          go (none f g) = omega (arith, n.holds, number_dropped (marking w) n.x n.d n.b (ap (marking w) (sym own) ∙ f))
