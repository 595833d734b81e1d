-- What narrowing asks and what it does: engine's steps, on the area.
-- Assumes nothing: these are definitions.
use Rattle.std.specs.Prelude.{Option, Some, None, ℕ, zero, suc, ◌+◌, ◌≤◌, ◌<◌, ◌≡◌, ◌⊎◌, true, false}
use mathlib.Core.List.{List, Memᴰ}
use Rattle.area.specs.Map.{NODES}
use Rattle.theory.specs.Net.{Graph}
use Rattle.engine.specs.Marks.{Marking}
use Rattle.engine.specs.Quickly as quickly
use Rattle.engine.specs.Quickly.{fails, stands, try_at, any_at, inside_at, sift_at}
use Rattle.loading.specs.Entry.{Entry, graphs}
use Rattle.loading.specs.Lying.{Lying, LyingAny}
use Rattle.marks.specs.Positions.{tail_at, disjunctions_at}
use Rattle.marks.specs.Marked.{marking}
use Rattle.classes.specs.Holds.{Holds}
use Rattle.quick.specs.declared.step.Step.{Step}
use Rattle.entering.specs.Taken.{AmongOf, AmongAnyOf, Inside}
use Rattle.entering.specs.Footing.{Footing}
use Rattle.entering.specs.Entered.{Entering}
use Rattle.entering.specs.Settled.{Alternating}
use Rattle.entering.specs.Clear.{ClearOf, ClearAnyOf}
use Rattle.entering.specs.Moved.{Moved}

-- a step that stands, with k entries in the log and after i drops
abbrev pub stepped : ℕ → ℕ → Step
stepped k i = record { log = k; drops = i }

-- ---- marks
-- how many of the numbers below c are kept
abbrev pub kept_below : Marking → ℕ → ℕ
kept_below k zero = 0
kept_below k (suc c) = elim (k c) [ true ↦ suc (kept_below k c) | false ↦ kept_below k c ]

-- how many of all
unfoldable pub total : Marking → ℕ
total k = kept_below k NODES

-- at least i alternatives were dropped, and none where i is 0
pub record Fewer (i : ℕ) (k k' : Marking) : Type 0 where
  pub same : i ≡ 0 → k' ≡ k
  pub fewer : total k' + i ≤ total k

-- ---- the area
-- the graphs es' are pushed: those of es, and some with numbers from `from` up to `to`
pub record Stood (n : ℕ) (U es : List Entry) (from to k' : ℕ) (w' : List ℕ) (es' : List Entry) : Type 0 where
  pub holds : Holds n es' k' w'
  pub inside : Inside U es'
  pub old : (o : Entry) → Memᴰ o es → Memᴰ o es'
  pub fresh : (o : Entry) → Memᴰ o es' → Memᴰ o es ⊎ ((from ≤ o.number) × (o.number < to))

-- ---- the disjunctions of a description
-- what is certain in the description that stands loaded at g is pushed
pub record Narrowing (n k : ℕ) (w : List ℕ) (g left : ℕ) : Type 0 where
  pub es : List Entry
  pub s : Footing n k w es
  pub lies : Lying n s.t g left
  pub among : AmongOf s.U lies
  pub clear : ClearOf es (marking w) lies

pub record NarrowStands (n k : ℕ) (w : List ℕ) (g left k' : ℕ) (w' : List ℕ) (c : Narrowing n k w g left) : Type 0 where
  pub es' : List Entry
  pub stood : Stood n c.s.U c.es (c.lies.from + 1) c.lies.to k' w' es'
  pub clear' : ClearOf es' (marking w') c.lies
  pub is : inside_at (graphs c.es) (marking w) c.lies.d ≡ stands (graphs es') (marking w')

pub record NarrowFails (n k : ℕ) (w : List ℕ) (g left : ℕ) (w' : List ℕ) (c : Narrowing n k w g left) : Type 0 where
  pub holds' : Holds n c.es k w'
  pub is : inside_at (graphs c.es) (marking w) c.lies.d ≡ fails (marking w')

-- engine's `inside_at`, which is `narrow_at` on the disjunctions
pub record Narrows (n k : ℕ) (w : List ℕ) (g left : ℕ) (r : Option Step) (w' : List ℕ) : Type 0 where
  pub standing : (k' i : ℕ) → r ≡ Some (stepped k' i) →
      Moved k w k' w' × Fewer i (marking w) (marking w') × ((c : Narrowing n k w g left) → NarrowStands n k w g left k' w' c)
  pub failing : r ≡ None → Moved k w k w' × (total (marking w') ≤ total (marking w))
      × ((c : Narrowing n k w g left) → NarrowFails n k w g left w' c)

-- ---- one disjunction
pub record Choosing (n k : ℕ) (w : List ℕ) (p count left : ℕ) : Type 0 where
  pub es : List Entry
  pub s : Footing n k w es
  pub lies : LyingAny n s.t p count left
  pub among : AmongAnyOf s.U lies
  pub clear : ClearAnyOf es (marking w) lies

pub record ChooseStands (n k : ℕ) (w : List ℕ) (p count left k' : ℕ) (w' : List ℕ) (c : Choosing n k w p count left) : Type 0 where
  pub es' : List Entry
  pub stood : Stood n c.s.U c.es c.lies.from c.lies.to k' w' es'
  pub clear' : ClearAnyOf es' (marking w') c.lies
  pub is : any_at (graphs c.es) (marking w) c.lies.a ≡ stands (graphs es') (marking w')

pub record ChooseFails (n k : ℕ) (w : List ℕ) (p count left : ℕ) (w' : List ℕ) (c : Choosing n k w p count left) : Type 0 where
  pub holds' : Holds n c.es k w'
  pub is : any_at (graphs c.es) (marking w) c.lies.a ≡ fails (marking w')

-- engine's `any_at`
pub record Chooses (n k : ℕ) (w : List ℕ) (p count left : ℕ) (r : Option Step) (w' : List ℕ) : Type 0 where
  pub standing : (k' i : ℕ) → r ≡ Some (stepped k' i) →
      Moved k w k' w' × Fewer i (marking w) (marking w') × ((c : Choosing n k w p count left) → ChooseStands n k w p count left k' w' c)
  pub failing : r ≡ None → Moved k w k w' × (total (marking w') ≤ total (marking w))
      × ((c : Choosing n k w p count left) → ChooseFails n k w p count left w' c)

-- ---- an alternative that is tried
pub record Tried (n k : ℕ) (w : List ℕ) (g left : ℕ) (w' : List ℕ) (c : Entering n k w g left) (s : quickly.Step) : Type 0 where
  pub holds' : Holds n c.es k w'
  pub is : try_at (graphs c.es) (marking w) c.lies.d ≡ s

-- engine's `try_at`; nothing that was pushed for it stays
pub record Tries (n k : ℕ) (w : List ℕ) (g left : ℕ) (r : Option Step) (w' : List ℕ) : Type 0 where
  pub moved : Moved k w k w'
  pub standing : (k' i : ℕ) → r ≡ Some (stepped k' i) →
      Fewer i (marking w) (marking w')
      × ((c : Entering n k w g left) → (T : List Graph) × Tried n k w g left w' c (stands T (marking w')))
  pub failing : r ≡ None → (total (marking w') ≤ total (marking w))
      × ((c : Entering n k w g left) → Tried n k w g left w' c (fails (marking w')))

-- the same of an alternative without disjunctions, however deep it may nest
pub record TriesBare (n k : ℕ) (w : List ℕ) (g : ℕ) (r : Option Step) (w' : List ℕ) : Type 0 where
  pub tries : (left : ℕ) → Entering n k w g left → disjunctions_at w (tail_at w g) ≡ 0 → Tries n k w g left r w'

-- ---- the alternatives of one disjunction are tried: engine's `sift_at`
pub record Sifted (n k : ℕ) (w : List ℕ) (p count left : ℕ) (w' : List ℕ) (c : Alternating n k w p count left) : Type 0 where
  pub holds' : Holds n c.es k w'
  pub is : sift_at (graphs c.es) (marking w) c.lies.a ≡ marking w'

pub record Sifts (n k : ℕ) (w : List ℕ) (p count left r : ℕ) (w' : List ℕ) : Type 0 where
  pub moved : Moved k w k w'
  pub fewer : Fewer r (marking w) (marking w')
  pub sifted : (c : Alternating n k w p count left) → Sifted n k w p count left w' c
