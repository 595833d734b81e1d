-- What is left of a disjunction, by the number of its kept alternatives, and the number by what is left.
-- Assumes nothing.
use Prim.Native.Nat.{ℕ, zero, suc, ◌<◌}
use native.Mathlib.Omega.{arith}
use mathlib.Core.Path.{◌≡◌, refl, sym, subst, ◌∙◌}
use mathlib.Core.Logic.{◌⊎◌, inl, inr}
use mathlib.Core.List.{List}
use denote.Enum.Declared.{tag_of}
use Rattle.area.specs.Region.{loaded_words}
use Rattle.engine.specs.Marks.{kept_of}
use Rattle.loading.specs.At.{AtAny}
use Rattle.marks.specs.Marked.{marking}
use Rattle.marks.specs.Readable.{Alternatives}
use Rattle.marks.specs.Tallied.{from_kept, remnant_of, Tallied}
use Rattle.marks.specs.declared.tally.Remnant.{Remnant}
use Rattle.marks.specs.declared.tally.Remnant.TheVariants.{Nothing, One, Several}
use Rattle.marks.specs.contracts.tally.Remnant.{the_type}

-- ---- what is left, by the number
pub remnant_none : (kept first : ℕ) → kept ≡ 0 → Nothing ≡ remnant_of kept first
unfolding remnant_of
remnant_none zero first h = refl
remnant_none (suc k) first h = absurd (omega arith)

pub remnant_alone : (kept first : ℕ) → kept ≡ 1 → One first ≡ remnant_of kept first
unfolding remnant_of
remnant_alone zero first h = absurd (omega arith)
remnant_alone (suc zero) first h = refl
remnant_alone (suc (suc k)) first h = absurd (omega arith)

pub remnant_several : (kept first : ℕ) → 1 < kept → Several kept ≡ remnant_of kept first
unfolding remnant_of
remnant_several zero first h = absurd (omega arith)
remnant_several (suc zero) first h = absurd (omega arith)
remnant_several (suc (suc k)) first h = refl

-- ---- the number, by what is left
none_counts : (kept first : ℕ) → Nothing ≡ remnant_of kept first → kept ≡ 0
unfolding remnant_of
none_counts zero first e = refl
none_counts (suc zero) first e = let z : ◌≡◌ {A = ℕ} 0 1 = cc in absurd (omega arith)
none_counts (suc (suc k)) first e = let z : ◌≡◌ {A = ℕ} 0 1 = cc in absurd (omega arith)

alone_counts : (x kept first : ℕ) → One x ≡ remnant_of kept first → (kept ≡ 1) × (first ≡ x)
unfolding remnant_of
alone_counts x zero first e = let z : ◌≡◌ {A = ℕ} 0 1 = cc in absurd (omega arith)
alone_counts x (suc zero) first e = (refl, cc)
alone_counts x (suc (suc k)) first e = let z : ◌≡◌ {A = ℕ} 0 1 = cc in absurd (omega arith)

several_counts : (n kept first : ℕ) → Several n ≡ remnant_of kept first → (k : ℕ) × (kept ≡ suc (suc k)) × (kept ≡ n)
unfolding remnant_of
several_counts n zero first e = let z : ◌≡◌ {A = ℕ} 0 1 = cc in absurd (omega arith)
several_counts n (suc zero) first e = let z : ◌≡◌ {A = ℕ} 0 1 = cc in absurd (omega arith)
several_counts n (suc (suc k)) first e = (k, refl, cc)

-- ---- where a test finds that not one is left
pub not_one : (which : Remnant) → (tag_of the_type which ≡ 0) ⊎ (tag_of the_type which ≡ 2) → (x : ℕ) → which ≡ One x → ⊥
not_one Nothing tag x e = let z : ◌≡◌ {A = ℕ} 0 1 = cc in omega arith
not_one (One y) (inl tag) x e = omega arith
not_one (One y) (inr tag) x e = omega arith
not_one (Several n) tag x e = let z : ◌≡◌ {A = ℕ} 0 1 = cc in omega arith

module _ (w : List ℕ) {p count : ℕ} (s : Alternatives w p count) (which : Remnant) (after : ℕ) (tally : Tallied w s which after) where
  pub kept_none : which ≡ Nothing → kept_of (marking w) s.lies.a ≡ 0
  kept_none e = none_counts _ _ (sym e ∙ tally.remnant_is)

  module _ (n : ℕ) (e : which ≡ Several n) where
    pub kept_several : (k : ℕ) × (kept_of (marking w) s.lies.a ≡ suc (suc k))
    kept_several = let told = several_counts n _ _ (sym e ∙ tally.remnant_is) in (told.0, told.1)

    pub kept_many : kept_of (marking w) s.lies.a ≡ n
    kept_many = (several_counts n _ _ (sym e ∙ tally.remnant_is)).2

  pub kept_other : ((x : ℕ) → which ≡ One x → ⊥) → kept_of (marking w) s.lies.a ≡ 1 → ⊥
  kept_other no_one e = no_one tally.first (tally.remnant_is ∙ sym (remnant_alone _ _ e))

  module _ (x : ℕ) (e : which ≡ One x) where
    pub kept_alone : kept_of (marking w) s.lies.a ≡ 1
    kept_alone = (alone_counts x _ _ (sym e ∙ tally.remnant_is)).0

    -- it stands at x
    pub alone_at : (k : ℕ) × AtAny (loaded_words w) x k (from_kept (marking w) s.lies.a) s.lies.end s.lies.to
    alone_at = subst (λ (f : ℕ). (k : ℕ) × AtAny (loaded_words w) f k (from_kept (marking w) s.lies.a) s.lies.end s.lies.to)
        (alone_counts x _ _ (sym e ∙ tally.remnant_is)).1 tally.first_is
