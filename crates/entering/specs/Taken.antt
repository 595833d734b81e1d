-- What is certain in a description that stands loaded: the same graphs as engine's `flat` and `sure`, with their positions and numbers.
-- Assumes nothing: these are definitions.
use Rattle.std.specs.Prelude.{ℕ, suc, ◌+◌, ◌≤◌, ◌<◌, true, false, ◌⊎◌, length}
use mathlib.Core.List.{List, [], ◌∷◌, ◌++◌, Memᴰ}
use Rattle.engine.specs.Placed.{Placed, place, Places, stop, ◌also◌, Options, no_more, option}
use Rattle.engine.specs.Marks.{Marking, kept_of}
use Rattle.descriptions.specs.Remnant.{remnant, nothing, alone, several}
use Rattle.loading.specs.Entry.{Entry, entry}
use Rattle.loading.specs.Loaded.{extent}
use Rattle.loading.specs.At.{At, AtAll, AtAny}
use Rattle.loading.specs.Lying.{Lying, LyingAll, LyingAny, Here, RestAny}

-- "One with exactly one left is folded: its graph is joined to the definite graph": a description's own graph, and those of
-- alternatives that stand alone in it, at every depth
abbrev mutual
  pub taken : (t : List ℕ) (k : Marking) (p n : ℕ) (d : Placed) (q m : ℕ) → At t p n d q m → List Entry
  taken t k p n (place g ds) q m at = entry p n g ∷ taken_all t k (p + extent g + 1) (n + length g) ds q m at.6

  pub taken_all : (t : List ℕ) (k : Marking) (p n : ℕ) (ds : Places) (q m : ℕ) → AtAll t p n ds q m → List Entry
  taken_all t k p n stop q m at = []
  taken_all t k p n (a also ds) q m at = taken_any t k (p + 1) n a at.0 at.1 at.4 ++ taken_all t k at.0 at.1 ds q m at.5

  pub taken_any : (t : List ℕ) (k : Marking) (p n : ℕ) (a : Options) (q m : ℕ) → AtAny t p n a q m → List Entry
  taken_any t k p n no_more q m at = []
  taken_any t k p n (option x d a) q m at =
      elim (k x) [
        | true ↦ elim (remnant (suc (kept_of k a))) [
          | nothing ↦ []
          | alone ↦ taken t k p n d at.0 at.1 at.3
          | several ↦ []
        ]
        | false ↦ taken_any t k at.0 at.1 a q m at.4
      ]

-- each graph of a description that stands loaded is one of U
abbrev mutual
  pub Among : (U : List Entry) (t : List ℕ) (p n : ℕ) (d : Placed) (q m : ℕ) → At t p n d q m → Type 0
  Among U t p n (place g ds) q m at = Memᴰ (entry p n g) U × AmongAll U t (p + extent g + 1) (n + length g) ds q m at.6

  pub AmongAll : (U : List Entry) (t : List ℕ) (p n : ℕ) (ds : Places) (q m : ℕ) → AtAll t p n ds q m → Type 0
  AmongAll U t p n stop q m at = Unit {0}
  AmongAll U t p n (a also ds) q m at = AmongAny U t (p + 1) n a at.0 at.1 at.4 × AmongAll U t at.0 at.1 ds q m at.5

  pub AmongAny : (U : List Entry) (t : List ℕ) (p n : ℕ) (a : Options) (q m : ℕ) → AtAny t p n a q m → Type 0
  AmongAny U t p n no_more q m at = Unit {0}
  AmongAny U t p n (option x d a) q m at = Among U t p n d at.0 at.1 at.3 × AmongAny U t at.0 at.1 a q m at.4

-- all of es are among U
abbrev pub Inside : List Entry → List Entry → Type 0
Inside U es = (o : Entry) → Memᴰ o es → Memᴰ o U

-- none of es has a number from n up to m
abbrev pub Free : ℕ → ℕ → List Entry → Type 0
Free n m es = (o : Entry) → Memᴰ o es → (o.number < n) ⊎ (m ≤ o.number)

-- ---- by what stands loaded
module _ {n : ℕ} {t : List ℕ} {p left : ℕ} where
  abbrev pub taken_here : Marking → (l : Lying n t p left) (d : Placed) → Here l d → List Entry
  taken_here m l d s = taken t m p l.from d l.end l.to s

  abbrev pub taken_of : Marking → Lying n t p left → List Entry
  taken_of m l = taken_here m l l.d l.at

  abbrev pub AmongHere : List Entry → (l : Lying n t p left) (d : Placed) → Here l d → Type 0
  AmongHere U l d s = Among U t p l.from d l.end l.to s

  abbrev pub AmongOf : List Entry → Lying n t p left → Type 0
  AmongOf U l = AmongHere U l l.d l.at

  abbrev pub FreeOf : Lying n t p left → List Entry → Type 0
  FreeOf l es = Free l.from l.to es

  module _ {count : ℕ} where
    abbrev pub AmongAllOf : List Entry → LyingAll n t p count left → Type 0
    AmongAllOf U l = AmongAll U t p l.from l.ds l.end l.to l.at

    abbrev pub taken_any_of : Marking → LyingAny n t p count left → List Entry
    taken_any_of m l = taken_any t m p l.from l.a l.end l.to l.at

    abbrev pub AmongRestAny : List Entry → (l : LyingAny n t p count left) (at from : ℕ) (a : Options) → RestAny l at from a →
        Type 0
    AmongRestAny U l at from a s = AmongAny U t at from a l.end l.to s

    abbrev pub AmongAnyOf : List Entry → LyingAny n t p count left → Type 0
    AmongAnyOf U l = AmongRestAny U l p l.from l.a l.at

    abbrev pub FreeAnyOf : LyingAny n t p count left → List Entry → Type 0
    FreeAnyOf l es = Free l.from l.to es
