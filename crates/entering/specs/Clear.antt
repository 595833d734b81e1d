-- Which graphs are on the stack while disjunctions are narrowed: of an alternative that stands alone all that is certain, of one among
-- several none.
-- Assumes nothing: these are definitions.
use Rattle.std.specs.Prelude.{ℕ, ◌+◌, ◌≤◌, ◌<◌, ◌⊎◌, Bool, true, false, List, length}
use Rattle.engine.specs.Placed.{Placed, place, Places, stop, ◌also◌, Options, no_more, option}
use Rattle.engine.specs.Marks.{Marking, kept_of}
use Rattle.descriptions.specs.Remnant.{Remnant, remnant, nothing, alone, several}
use Rattle.loading.specs.Entry.{Entry}
use Rattle.loading.specs.Loaded.{extent}
use Rattle.loading.specs.At.{At, AtAll, AtAny}
use Rattle.loading.specs.Lying.{Lying, LyingAll, LyingAny, Here}
use Rattle.entering.specs.Taken.{Free}

-- the number y is not from n up to m
abbrev pub Outside : ℕ → ℕ → ℕ → Type 0
Outside n m y = (y < n) ⊎ (m ≤ y)

-- what holds of a disjunction with one left, and with several
abbrev pub ByRemnant : Remnant → Type 0 → Type 0 → Type 0
ByRemnant nothing one more = Unit {0}
ByRemnant alone one more = one
ByRemnant several one more = more

abbrev pub ByMark : Bool → Type 0 → Type 0 → Type 0
ByMark true kept dropped = kept
ByMark false kept dropped = dropped

-- a disjunction with several kept alternatives has no number on the stack; inside one that stands alone the same holds
abbrev mutual
  pub Clear : (es : List Entry) (t : List ℕ) (k : Marking) (p n : ℕ) (d : Placed) (q m : ℕ) → At t p n d q m → Type 0
  Clear es t k p n (place g ds) q m at = ClearAll es t k (p + extent g + 1) (n + length g) ds q m at.6

  pub ClearAll : (es : List Entry) (t : List ℕ) (k : Marking) (p n : ℕ) (ds : Places) (q m : ℕ) → AtAll t p n ds q m → Type 0
  ClearAll es t k p n stop q m at = Unit {0}
  ClearAll es t k p n (a also ds) q m at =
      ByRemnant (remnant (kept_of k a)) (ClearLone es t k (p + 1) n a at.0 at.1 at.4) (Free n at.1 es)
      × ClearAll es t k at.0 at.1 ds q m at.5

  pub ClearLone : (es : List Entry) (t : List ℕ) (k : Marking) (p n : ℕ) (a : Options) (q m : ℕ) → AtAny t p n a q m → Type 0
  ClearLone es t k p n no_more q m at = Unit {0}
  ClearLone es t k p n (option x d a) q m at =
      ByMark (k x) (Clear es t k p n d at.0 at.1 at.3) (ClearLone es t k at.0 at.1 a q m at.4)

-- one disjunction
abbrev pub ClearAny : (es : List Entry) (t : List ℕ) (k : Marking) (p n : ℕ) (a : Options) (q m : ℕ) → AtAny t p n a q m → Type 0
ClearAny es t k p n a q m at = ByRemnant (remnant (kept_of k a)) (ClearLone es t k p n a q m at) (Free n m es)

-- by what stands loaded
module _ {n : ℕ} {t : List ℕ} {p left : ℕ} (es : List Entry) (m : Marking) where
  abbrev pub ClearHere : (l : Lying n t p left) (d : Placed) → Here l d → Type 0
  ClearHere l d s = Clear es t m p l.from d l.end l.to s

  abbrev pub ClearOf : Lying n t p left → Type 0
  ClearOf l = ClearHere l l.d l.at

  abbrev pub ClearAllOf : {count : ℕ} → LyingAll n t p count left → Type 0
  ClearAllOf l = ClearAll es t m p l.from l.ds l.end l.to l.at

  abbrev pub ClearAnyOf : {count : ℕ} → LyingAny n t p count left → Type 0
  ClearAnyOf l = ClearAny es t m p l.from l.a l.end l.to l.at
