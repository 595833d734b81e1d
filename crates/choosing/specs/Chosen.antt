-- What writing down the way with a given number asks, and what it promises.
-- Assumes nothing: these are definitions.
use Rattle.std.specs.Prelude.{ℕ, ◌+◌, ◌≤◌, ◌<◌, min, ◌≡◌, ◌⊎◌, Bool, List, length, get_or}
use Rattle.theory.specs.Limits.{choice_limit, choice_stop}
use Rattle.area.specs.Map.{SIZE, RESULT, NODES}
use Rattle.area.specs.Region.{loaded_words}
use Rattle.packing.specs.Packed.{number_step}
use Rattle.layout.specs.Standing.{Stands}
use Rattle.loading.specs.Lying.{Lying, LyingAny}
use Rattle.marks.specs.Marked.{marking}
use Rattle.entering.specs.Inputs.{Inputs}
use Rattle.choosing.specs.Ways.{words_of, way_of, way_any_of, choices_of, choices_any_of, number_both, way_both}

-- ---- the number of choices with one of some alternatives
-- `count` alternatives stand loaded from p on that nest at most `left` deep
pub record Summing (w : List ℕ) (p count left : ℕ) : Type 0 where
  pub room : SIZE ≤ length w
  pub t : List ℕ
  pub loaded : loaded_words w ≡ t
  pub n : ℕ
  pub few : n < number_step
  pub lies : LyingAny n t p count left

-- over the kept ones, "stopping at 4,097"
pub record Sums (w : List ℕ) (p count left r : ℕ) : Type 0 where
  pub small : r ≤ choice_stop
  pub is : (c : Summing w p count left) → r ≡ min (choices_any_of (marking w) c.lies) choice_stop

-- ---- a way is written
-- the words xs stand at the result from `at` up to r
abbrev pub Written : List ℕ → ℕ → List ℕ → ℕ → Type 0
Written w at xs r = Stands w (RESULT + at) xs (RESULT + r)

-- only words of the result from `at` on have changed, of which there are as many as nodes
pub record Beyond (w : List ℕ) (at : ℕ) (w' : List ℕ) : Type 0 where
  pub len : length w' ≡ length w
  pub rest : (j : ℕ) → (j < RESULT + at) ⊎ (RESULT + NODES ≤ j) → get_or w' j 0 ≡ get_or w j 0

-- a description stands loaded at g, of which so many choices are kept, and no more words are written than there are nodes before it
pub record ChoosingIn (w : List ℕ) (g left total at : ℕ) : Type 0 where
  pub room : SIZE ≤ length w
  pub t : List ℕ
  pub loaded : loaded_words w ≡ t
  pub n : ℕ
  pub few : n < number_step
  pub lies : Lying n t g left
  pub all : choices_of (marking w) lies ≡ total
  pub some : 0 < total
  pub most : total ≤ choice_limit
  pub fits : at ≤ lies.from + 1

pub record ChoosesIn (w : List ℕ) (g left c total : ℕ) (new : Bool) (at r : ℕ) (w' : List ℕ) : Type 0 where
  pub beyond : Beyond w at w'
  pub writes : (k : ChoosingIn w g left total at) → Written w' at (words_of (way_of (marking w) new k.lies c)) r

-- `count` alternatives stand so from p on
pub record Picking (w : List ℕ) (p count left at : ℕ) : Type 0 where
  pub sums : Summing w p count left
  pub most : choices_any_of (marking w) sums.lies ≤ choice_limit
  pub fits : at ≤ sums.lies.from

pub record Picks (w : List ℕ) (p count left i : ℕ) (new : Bool) (at r : ℕ) (w' : List ℕ) : Type 0 where
  pub beyond : Beyond w at w'
  pub writes : (k : Picking w p count left at) → Written w' at (words_of (way_any_of (marking w) new k.sums.lies i)) r

-- ---- both inputs
-- both inputs stand loaded, and c is below the number of their kept choices, which is at most 4,096
pub record ChoosingBoth (w : List ℕ) (c : ℕ) : Type 0 where
  pub room : SIZE ≤ length w
  pub n : ℕ
  pub t : List ℕ
  pub loaded : loaded_words w ≡ t
  pub inputs : Inputs n t
  pub below : c < number_both inputs (marking w)
  pub most : number_both inputs (marking w) ≤ choice_limit

-- the way with the number c stands at the result, and no other word has changed
pub record ChoosesBoth (w : List ℕ) (c r : ℕ) (w' : List ℕ) : Type 0 where
  pub beyond : Beyond w 0 w'
  pub long : (k : ChoosingBoth w c) → r ≡ length (way_both k.inputs (marking w) c)
  pub stands : (k : ChoosingBoth w c) → Stands w' RESULT (words_of (way_both k.inputs (marking w) c)) (RESULT + r)
