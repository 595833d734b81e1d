-- What is left of a description that stands loaded, from a later place on: its disjunctions, what is certain in them, and which
-- graphs of them are on the stack.
-- Assumes nothing.
use Prim.Native.Nat.{ℕ}
use mathlib.Core.List.{List}
use Rattle.engine.specs.Placed.{Places}
use Rattle.engine.specs.Marks.{Marking}
use Rattle.loading.specs.Entry.{Entry}
use Rattle.loading.specs.At.{AtAll}
use Rattle.loading.specs.Lying.{Lying, LyingAny}
use Rattle.entering.specs.Taken.{taken_all, AmongAll}
use Rattle.entering.specs.Clear.{ClearAll, ClearLone}

module _ {n : ℕ} {t : List ℕ} {p left : ℕ} where
  -- disjunctions from a later place and number on up to the end of l
  abbrev pub Rest : (l : Lying n t p left) (at from : ℕ) → Places → Type 0
  Rest l at from ds = AtAll t at from ds l.end l.to

  abbrev pub taken_rest : Marking → (l : Lying n t p left) (at from : ℕ) (ds : Places) → Rest l at from ds → List Entry
  taken_rest m l at from ds s = taken_all t m at from ds l.end l.to s

  abbrev pub AmongRest : List Entry → (l : Lying n t p left) (at from : ℕ) (ds : Places) → Rest l at from ds → Type 0
  AmongRest U l at from ds s = AmongAll U t at from ds l.end l.to s

  module _ (es : List Entry) (m : Marking) where
    abbrev pub ClearRest : (l : Lying n t p left) (at from : ℕ) (ds : Places) → Rest l at from ds → Type 0
    ClearRest l at from ds s = ClearAll es t m at from ds l.end l.to s

    abbrev pub ClearLoneOf : {count : ℕ} → LyingAny n t p count left → Type 0
    ClearLoneOf l = ClearLone es t m p l.from l.a l.end l.to l.at
