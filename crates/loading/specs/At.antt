-- Where a placed description stands loaded: the relation by which code walks it.
-- Assumes nothing: these are definitions.
use Rattle.std.specs.Prelude.{ℕ, ◌+◌, ◌<◌, ◌≡◌, List, [], ◌∷◌, length, get_or}
use Rattle.modes_by_marks.specs.Names.{names, names_all, names_any, Apart}
use Rattle.engine.specs.Placed.{Placed, place, Places, stop, ◌also◌, Options, no_more, option, own}
use Rattle.packing.specs.Packed.{word_disjunctions, word_mark, word_end}
use Rattle.layout.specs.Standing.{Stands}
use Rattle.loading.specs.Loaded.{extent, header, located}
use Rattle.loading.specs.Numbered.{places, options}

-- the mark of d, which stands at p, as the word after its graph has it
abbrev pub marked : List ℕ → ℕ → Placed → ℕ
marked t p d = word_mark (get_or t (p + extent (own d)) 0)

-- d stands loaded in t from position p up to q, its nodes numbered from n up to m: "graph: node count (at least 1), then each node in
-- order", "then the number of disjunctions, and each disjunction: number of alternatives (at least 2), then each alternative as a
-- description"; an alternative has its mark, and no other has the same
abbrev mutual
  pub At : List ℕ → ℕ → ℕ → Placed → ℕ → ℕ → Type 0
  At t p n (place g ds) q m =
      (0 < length g) × (p < length t) × (get_or t p 0 ≡ header n g) × Stands t (p + 1) (located n g) (p + extent g)
      × (p + extent g < length t)
      × ((word_disjunctions (get_or t (p + extent g) 0) ≡ places ds) × (word_end (get_or t (p + extent g) 0) ≡ q))
      × AtAll t (p + extent g + 1) (n + length g) ds q m

  pub AtAll : List ℕ → ℕ → ℕ → Places → ℕ → ℕ → Type 0
  AtAll t p n stop q m = (p ≡ q) × (n ≡ m)
  AtAll t p n (a also ds) q m = (r : ℕ) × (l : ℕ) × (p < length t) × (get_or t p 0 ≡ options a) × AtAny t (p + 1) n a r l
      × AtAll t r l ds q m × Apart (names_any a) (names_all ds)

  pub AtAny : List ℕ → ℕ → ℕ → Options → ℕ → ℕ → Type 0
  AtAny t p n no_more q m = (p ≡ q) × (n ≡ m)
  AtAny t p n (option x d a) q m = (r : ℕ) × (l : ℕ) × (marked t p d ≡ x) × At t p n d r l × AtAny t r l a q m
      × Apart (x ∷ []) (names d) × Apart (x ∷ []) (names_any a) × Apart (names d) (names_any a)
