-- The two inputs placed side by side: without the numbers they are the joined description, and the numbers stay distinct.
-- Assumes nothing.
use mathlib.Core.Path.{◌≡◌, refl, ap, sym}
use mathlib.Core.Logic.{◌⊎◌, inl, inr, ⊎_elim}
use mathlib.Core.Option.{Option, none, some}
use mathlib.Core.List.Memᴰ
use mathlib.Core.List.{[], ◌∷◌, Memᴰ}
use Prim.Native.Nat.{ℕ}
use Rattle.descriptions.specs.Descr.{Desc, Disjs, ◌and◌, ◌then◌, desc}
use Rattle.descriptions.specs.Modes.{joined}
use Rattle.modes_by_marks.specs.Placed.{Placed, Places, ◌also◌, place, stop, strip, strip_all, strip_any}
use Rattle.modes_by_marks.specs.Beside.{◌next◌, joined_placed}
use Rattle.modes_by_marks.specs.Names.{Apart, Distinct, DistinctAll, names, names_all, names_any}
use Rattle.descriptions.specs.Joining.{Joining}

module _ {Graph : Type 0} where
  pub strip_next : (ds es : Places Graph) → strip_all (ds next es) ≡ strip_all ds then strip_all es
  strip_next stop es = refl
  strip_next (a also ds) es = ap (λ (z : Disjs Graph). strip_any a and z) (strip_next ds es)

  names_next : (ds es : Places Graph) (y : ℕ) → Memᴰ y (names_all (ds next es)) →
      Memᴰ y (names_all ds) ⊎ Memᴰ y (names_all es)
  names_next stop es y i = inr i
  names_next (a also ds) es y i =
      ⊎_elim (λ h. inl (Memᴰ.append_left (names_all ds) h))
      (λ h. ⊎_elim (λ k. inl (Memᴰ.append_right (names_any a) k)) (λ k. inr k) (names_next ds es y h))
      (Memᴰ.append_cases (names_any a) i)

  pub distinct_next : (ds es : Places Graph) → DistinctAll ds → DistinctAll es → Apart (names_all ds) (names_all es) →
      DistinctAll (ds next es)
  distinct_next stop es p q w = q
  distinct_next (a also ds) es p q w = (
    p.0,
    distinct_next ds es p.1 q (λ y i j. w y (Memᴰ.append_right (names_any a) i) j),
    λ y i j. ⊎_elim (λ k. p.2 y i k) (λ k. w y (Memᴰ.append_left (names_all ds) i) k) (names_next ds es y j),
  )

  -- mode 0
  abbrev pub strip_some : Option (Placed Graph) → Option (Desc Graph)
  strip_some none = none
  strip_some (some d) = some (strip d)

  abbrev pub SomeDistinct : Option (Placed Graph) → Type 0
  SomeDistinct none = Unit {0}
  SomeDistinct (some d) = Distinct d

module _ {Graph : Type 0} (J : Joining Graph) where
  open J use {join}

  pub joined_strip : (a b : Placed Graph) → joined J (strip a) (strip b) ≡ strip_some (joined_placed J a b)
  unfolding joined
  joined_strip (place g ds) (place h es) = go (join (g ∷ h ∷ []))
    where
      go : (o : Option Graph) → ◌≡◌ {A = Option (Desc Graph)}
          (elim o [ none ↦ none | some k ↦ some (desc k (strip_all ds then strip_all es)) ])
          (strip_some {Graph = Graph} (elim o [ none ↦ none | some k ↦ some (place k (ds next es)) ]))
      go none = refl
      go (some k) = ap (λ (z : Disjs Graph). some (desc k z)) (sym (strip_next ds es))

  pub joined_distinct : (a b : Placed Graph) → Distinct a → Distinct b → Apart (names a) (names b) → SomeDistinct (joined_placed J a b)
  joined_distinct (place g ds) (place h es) p q w = go (join (g ∷ h ∷ []))
    where
      go : (o : Option Graph) → SomeDistinct {Graph = Graph} (elim o [ none ↦ none | some k ↦ some (place k (ds next es)) ])
      go none = tt
      go (some k) = distinct_next ds es p q w
