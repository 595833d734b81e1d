-- A sign's word tells its kind and its number.
-- Assumes nothing.
use Prim.Native.Nat.{ℕ, ◌+◌, ◌*◌, ◌≤◌, ◌/◌, ◌%◌}
use mathlib.Core.Path.{◌≡◌, refl, sym, subst}
use mathlib.Core.List.{List, [], ◌∷◌, ◌++◌}
use native.Mathlib.Omega.{arith}
use Rattle.signs.specs.Limits.{largest_number, kind_unit}
use Rattle.signs.specs.Signs.{Sign, nil_sign, top_sign, atom_sign, feature_sign, mark, sign_word, Spells, spells_nil, spells_top}
use Rattle.signs.specs.Signs.{spells_atom, spells_feature, spells_mark, Spelt, one_sign, next_sign}

-- the byte that ends a sign, or the letter before its number
abbrev pub kind : Sign → ℕ
kind nil_sign = 76
kind top_sign = 80
kind (atom_sign a) = 97
kind (feature_sign f) = 102
kind (mark b) = b

abbrev pub number : Sign → ℕ
number nil_sign = 0
number top_sign = 0
number (atom_sign a) = a
number (feature_sign f) = f
number (mark b) = 0

pub spells_small : (s : Sign) (t : List ℕ) → Spells s t → number s ≤ largest_number
spells_small s t (spells_nil e) = omega arith
spells_small s t (spells_top e) = omega arith
spells_small s t (spells_atom u n e) = n.small
spells_small s t (spells_feature u n e) = n.small
spells_small s t (spells_mark e) = omega arith

word_is : (s : Sign) → sign_word s ≡ kind s * kind_unit + number s
unfolding sign_word
word_is nil_sign = refl
word_is top_sign = refl
word_is (atom_sign a) = refl
word_is (feature_sign f) = refl
word_is (mark b) = omega arith

pub word_kind : (s : Sign) → number s ≤ largest_number → sign_word s / kind_unit ≡ kind s
word_kind s h = let e = word_is s in omega arith

pub word_number : (s : Sign) → number s ≤ largest_number → sign_word s % kind_unit ≡ number s
word_number s h = let e = word_is s in omega arith

-- all signs of a text have small numbers
abbrev pub Each : (Sign → Type 0) → List Sign → Type 0
Each P [] = Unit {0}
Each P (s ∷ σ) = P s × Each P σ

each_snoc : (P : Sign → Type 0) (σ : List Sign) (s : Sign) → Each P σ → P s → Each P (σ ++ (s ∷ []))
each_snoc P [] s a p = (p, tt)
each_snoc P (x ∷ σ) s a p = (a.0, each_snoc P σ s a.1 p)

abbrev pub Fits : Sign → Type 0
Fits s = number s ≤ largest_number

pub spelt_small : {σ : List Sign} {t : List ℕ} → Spelt σ t → Each Fits σ
spelt_small {σ} {t} (one_sign s p e) = subst (Each Fits) (sym e) (spells_small s t p, tt)
spelt_small (next_sign τ u n s v q p e i) = subst (Each Fits) (sym e) (each_snoc Fits τ s (spelt_small q) (spells_small s v p))
