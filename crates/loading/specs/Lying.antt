-- What stands loaded: a description, some disjunctions of one, or the alternatives of one. Every contract that asks for such a thing
-- asks for one of these.
-- Assumes nothing: these are definitions.
use Rattle.std.specs.Prelude.{ℕ, ◌≤◌, ◌≡◌, List, length}
use Rattle.engine.specs.Placed.{Placed, Places, Options}
use Rattle.loading.specs.Numbered.{places, options}
use Rattle.loading.specs.At.{marked, At, AtAll, AtAny}
use Rattle.loading.specs.Nesting.{Nests, NestsAll, NestsAny}

-- the description d stands loaded at g of the words t and up to `end`, its nodes are numbered from `from` up to `to`, all below n, and
-- its alternatives nest at most `left` deep
pub record Lying (n : ℕ) (t : List ℕ) (g left : ℕ) : Type 0 where
  pub d : Placed
  pub from : ℕ
  pub end : ℕ
  pub to : ℕ
  pub at : At t g from d end to
  pub low : to ≤ n
  pub nests : Nests d left

-- the disjunctions ds stand so, `more` of them, from p on
pub record LyingAll (n : ℕ) (t : List ℕ) (p more left : ℕ) : Type 0 where
  pub ds : Places
  pub from : ℕ
  pub end : ℕ
  pub to : ℕ
  pub at : AtAll t p from ds end to
  pub within : p ≤ length t
  pub low : to ≤ n
  pub many : places ds ≡ more
  pub nests : NestsAll ds left

-- the alternatives a stand so, `count` of them, from p on
pub record LyingAny (n : ℕ) (t : List ℕ) (p count left : ℕ) : Type 0 where
  pub a : Options
  pub from : ℕ
  pub end : ℕ
  pub to : ℕ
  pub at : AtAny t p from a end to
  pub within : p ≤ length t
  pub low : to ≤ n
  pub many : options a ≡ count
  pub nests : NestsAny a left

-- the mark of what stands loaded, as its words have it
abbrev pub mark_of : {n : ℕ} {t : List ℕ} {g left : ℕ} → Lying n t g left → ℕ
mark_of {n} {t} {g} {left} l = marked t g l.d

-- another description in the place of l
abbrev pub Here : {n : ℕ} {t : List ℕ} {p left : ℕ} → Lying n t p left → Placed → Type 0
Here {n} {t} {p} {left} l d = At t p l.from d l.end l.to

-- alternatives from a later place and number on up to the end of l
abbrev pub RestAny : {n : ℕ} {t : List ℕ} {p count left : ℕ} → LyingAny n t p count left → (at from : ℕ) → Options → Type 0
RestAny {n} {t} {p} {count} {left} l at from a = AtAny t at from a l.end l.to
