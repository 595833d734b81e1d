-- What settling an alternative, and a disjunction, asks and promises.
-- Assumes nothing: these are definitions.
use Rattle.std.specs.Prelude.{ℕ, suc, ◌+◌, ◌*◌, ◌<◌, ◌≤◌, ◌≡◌, ◌⊎◌, ◌≢◌, Bool, true, false, Some, None, List, [], ◌∷◌, ◌++◌, length, get_or}
use Rattle.std.specs.Prelude as rust
use Rattle.std.proofs.Math.Option.{Option, none, some}
use Rattle.theory.specs.Limits.{code_limit, input_limit}
use Rattle.theory.specs.Net.{Graph}
use Rattle.theory.specs.Descr.{disjs}
use Rattle.theory.specs.Layout.{words, disjs_words}
use Rattle.layout.specs.Standing.{graph_words}
use Rattle.formulas.specs.Sheet.{Sheet, Sound, laid, Rows, Cells, sheet_graph}
use Rattle.formulas.specs.Flat.{Item, wide_rows, wide_cells}
use Rattle.formulas.specs.Homes.{Home, home_desc, HandedOver, house, house_left, handed_over}
use Rattle.formulas.specs.Tables.{Tables, Lies, LiesCells, SoundLaid, SoundCells, NestsLaid, NestsCells, TablesFit}
use Rattle.folding.specs.Buffer.{WordsEnd, Grows, PutsBefore}
use Rattle.parting.specs.Parted.{Part}
use Rattle.folding.specs.Homing.{Rehomes, Untouched, WithinHomes, BranchHomes, NamedCome}
use Rattle.folding.specs.declared.settle.Settled.{Settled}
use Rattle.folding.specs.declared.settle.Kept.{Kept}
use Rattle.folding.specs.declared.settle.Branch.{Branch}

-- the tables have a row for each alternative, of which there are few, and the words go to a slice of their limit
pub record SettlingRoom (hm alts b : List ℕ) (len : ℕ) : Type 0 where
  pub rows : 4 * length hm ≤ length alts
  pub few : length hm ≤ code_limit
  pub words : length b ≡ input_limit
  pub fits : len ≤ suc input_limit

-- c is an alternative, and of the disjunction that begins with g
pub record Beside (alts : List ℕ) (c g : ℕ) (r : Bool) : Type 0 where
  pub is : r ≡ true → (c ≢ 0) × (get_or alts (4 * c) 0 ≡ g)
  pub not : r ≡ false → (c ≡ 0) ⊎ (get_or alts (4 * c) 0 ≢ g)

-- ---- an alternative
-- the alternative k lies in the tables, where nothing has moved yet
pub record Settling (T : Tables) (hm : List ℕ) (k left : ℕ) : Type 0 where
  pub L : List Item
  pub O : Sheet
  pub A : Sheet
  pub ds : Rows
  pub fit : TablesFit T L (length hm)
  pub lies : Lies T L k O (laid A ds)
  pub sound : SoundLaid (laid A ds)
  pub nests : NestsLaid (laid A ds) left
  pub few : suc k + wide_rows ds ≤ length hm
  pub fresh : Untouched hm k (suc k + wide_rows ds)

-- the words of its graph, and the number of its disjunctions, have come before those of its disjunctions; none: a clash
abbrev pub ClosedBy : (b b' : List ℕ) (len count : ℕ) → Option Graph → rust.Option Settled → Type 0
ClosedBy b b' len count none r = r ≡ None
ClosedBy b b' len count (some g) r = (whole : ℕ) × (r ≡ Some (record { count = count; inner = len; whole = whole }))
    × PutsBefore b len (graph_words g ++ count ∷ []) b' whole

pub record AlternativeCloses (T : Tables) (hm b : List ℕ) (len count k : ℕ) (r : rust.Option Settled) (b' : List ℕ) : Type 0 where
  pub kept : Grows b len b' len
  pub answer : (A : Sheet) → Sound A → Part T hm k A → ClosedBy b b' len count (sheet_graph A) r

-- its words, and those of its disjunctions, have come before those that were there; it has as many disjunctions, and those named in
-- it have come to it
pub record SettlesAs (hm' b b' : List ℕ) (len k m : ℕ) (x : Home) (count inner whole : ℕ) : Type 0 where
  pub count_is : count ≡ disjs x.rest
  pub small : suc k + count ≤ m
  pub come : NamedCome hm' k m k x.names
  pub more : (len ≤ inner) × (inner ≤ whole)
  pub most : whole ≤ suc (length b)
  pub inner_is : (ws : List ℕ) → WordsEnd b len ws → WordsEnd b' inner (disjs_words x.rest ++ ws)
  pub whole_is : (ws : List ℕ) → WordsEnd b len ws → WordsEnd b' whole (words (home_desc x) ++ ws)

-- none: a clash
abbrev pub SettledBy : (hm' b b' : List ℕ) (len k m : ℕ) → Option Home → rust.Option Settled → Type 0
SettledBy hm' b b' len k m none r = r ≡ None
SettledBy hm' b b' len k m (some x) r = (y : Settled) × (r ≡ Some y) × SettlesAs hm' b b' len k m x y.count y.inner y.whole

pub record AlternativeSettles (T : Tables) (hm b : List ℕ) (len k left : ℕ) (r : rust.Option Settled) (hm' b' : List ℕ) : Type 0 where
  pub size : length hm' ≡ length hm
  pub kept : Grows b len b' len
  pub homes : (c : Settling T hm k left) → WithinHomes hm hm' k (suc k + wide_rows c.ds)
  pub answer : (c : Settling T hm k left) →
      SettledBy hm' b b' len k (suc k + wide_rows c.ds) (house c.L k (laid c.A c.ds)) r

-- ---- a disjunction of the alternative k
-- its alternatives lie in the tables from g on; the last of them is `last`
pub record BranchSettling (T : Tables) (hm : List ℕ) (k last left : ℕ) : Type 0 where
  pub L : List Item
  pub O : Sheet
  pub a : Cells
  pub g : ℕ
  pub z : ℕ
  pub fit : TablesFit T L (length hm)
  pub after : k < g
  pub some_left : 0 < wide_cells a
  pub lies : LiesCells T L g g z O a last
  pub others : (z ≡ 0) ⊎ ((z < g) × (T.group z < g))
  pub sound : SoundCells a
  pub nests : NestsCells a left
  pub few : g + wide_cells a ≤ length hm
  pub fresh : Untouched hm g (g + wide_cells a)
  pub owner : get_or hm k 0 ≡ k

-- the first alternative that is left, the number of its disjunctions, and how many words there are from them on
abbrev pub alternative_of : rust.Option Kept → ℕ
alternative_of None = 0
alternative_of (Some y) = y.alternative

abbrev pub count_of : rust.Option Kept → ℕ
count_of None = 0
count_of (Some y) = y.settled.count

abbrev pub inner_of : rust.Option Kept → ℕ
inner_of None = 0
inner_of (Some y) = y.settled.inner

-- of `kept` that are left there is a first, unless there are none
abbrev pub KeptFirst : ℕ → rust.Option Kept → Type 0
KeptFirst kept None = kept ≡ 0
KeptFirst kept (Some y) = (0 < kept) × (y.alternative < code_limit)

-- of its alternatives `kept` are left: none; one, which is folded; or several, whose number comes before their words
pub record Concludes (hm b : List ℕ) (at k kept sole count inner before : ℕ) (r : rust.Option Branch)
    (hm' b' : List ℕ) : Type 0 where
  pub size : length hm' ≡ length hm
  pub grows : Grows b at b' at
  pub none_left : kept ≡ 0 → (r ≡ None) × (hm' ≡ hm) × (b' ≡ b)
  pub one_left : kept ≡ 1 → (r ≡ Some (record { count = count; inner = inner; before = before })) × Rehomes hm sole k hm' × (b' ≡ b)
  pub several_left : 2 ≤ kept → (from : ℕ) × (r ≡ Some (record { count = 1; inner = from; before = before }))
      × (hm' ≡ hm) × PutsBefore b at (kept ∷ []) b' from

-- what is left of the disjunction has come before what was there: `more` disjunctions, in words from `inner` on, and what is named
-- has come to k
pub record BranchesAs (hm' b b' : List ℕ) (len k g m : ℕ) (old new : HandedOver) (more inner : ℕ) : Type 0 where
  pub more_is : disjs new.left ≡ more + disjs old.left
  pub small : g + more ≤ m
  pub further : len ≤ inner
  pub most : inner ≤ suc (length b)
  pub inner_is : (ws : List ℕ) → WordsEnd b len (disjs_words old.left ++ ws) → WordsEnd b' inner (disjs_words new.left ++ ws)
  pub come : (names : List ℕ) × (new.names ≡ names ++ old.names) × NamedCome hm' g m k names

-- none: no alternative is left
abbrev pub BranchedBy : (hm' b b' : List ℕ) (len k g m z : ℕ) (old : HandedOver) → Option HandedOver →
    rust.Option Branch → Type 0
BranchedBy hm' b b' len k g m z old none r = r ≡ None
BranchedBy hm' b b' len k g m z old (some new) r = (y : Branch) × (r ≡ Some y) × (y.before ≡ z)
    × BranchesAs hm' b b' len k g m old new y.count y.inner

pub record BranchSettles (T : Tables) (hm b : List ℕ) (len k last left : ℕ) (r : rust.Option Branch) (hm' b' : List ℕ) : Type 0 where
  pub size : length hm' ≡ length hm
  pub kept : Grows b len b' len
  pub homes : (c : BranchSettling T hm k last left) → BranchHomes hm hm' k c.g (c.g + wide_cells c.a)
  pub answer : (c : BranchSettling T hm k last left) (old : HandedOver) →
      BranchedBy hm' b b' len k c.g (c.g + wide_cells c.a) c.z old (handed_over (house_left c.L c.g c.a) old) r
