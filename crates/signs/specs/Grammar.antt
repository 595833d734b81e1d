-- The texts of formulas, and the first byte at which none can go on.
-- Assumes nothing: these are definitions.
use Rattle.std.specs.Prelude.{ℕ, suc, ◌<◌, ◌≤◌, ◌≡◌, List, [], ◌∷◌, ◌++◌, length, take}
use Rattle.formulas.specs.Formula.{Path, Formula, nil, top, atom, at, same, all, any, Formulas, one, ◌also◌}
use Rattle.signs.specs.Signs.{Sign, nil_sign, top_sign, atom_sign, feature_sign, colon, bracket, unbracket, less}
use Rattle.signs.specs.Signs.{greater, comma, and, or, left, right, Spelt}

-- one formula stands for itself, several for their conjunction or disjunction
abbrev pub conjunction : Formulas → Formula
conjunction (one φ) = φ
conjunction (φ also φs) = all φ φs

abbrev pub disjunction : Formulas → Formula
disjunction (one φ) = φ
disjunction (φ also φs) = any φ φs

-- "shared paths `[<f1 f2>,<f3>]`": the features of a path, then what follows it up to the bracket
abbrev pub features : Path → List Sign
features [] = []
features (f ∷ p) = feature_sign f ∷ features p

abbrev pub path_rest : List Path → List Sign
path_rest [] = unbracket ∷ []
path_rest (p ∷ ps) = comma ∷ less ∷ (features p ++ (greater ∷ path_rest ps))

abbrev pub path_list : Path → List Path → List Sign
path_list p ps = less ∷ (features p ++ (greater ∷ path_rest ps))

-- "`:` binds tightest, then `&`"
mutual
  pub data Unit_is : List Sign → Formula → Type 0 where
    is_nil : {σ : List Sign} {φ : Formula} → σ ≡ nil_sign ∷ [] → φ ≡ nil → Unit_is σ φ
    is_top : {σ : List Sign} {φ : Formula} → σ ≡ top_sign ∷ [] → φ ≡ top → Unit_is σ φ
    is_atom : {σ : List Sign} {φ : Formula} (a : ℕ) → σ ≡ atom_sign a ∷ [] → φ ≡ atom a → Unit_is σ φ
    is_at : {σ : List Sign} {φ : Formula} (f : ℕ) (τ : List Sign) (ψ : Formula) → Unit_is τ ψ →
        σ ≡ feature_sign f ∷ colon ∷ τ → φ ≡ at f ψ → Unit_is σ φ
    is_same : {σ : List Sign} {φ : Formula} (p : Path) (ps : List Path) → σ ≡ bracket ∷ path_list p ps → φ ≡ same p ps →
        Unit_is σ φ
    is_group : {σ : List Sign} {φ : Formula} (τ : List Sign) (φs : Formulas) → Parts τ φs →
        σ ≡ left ∷ (τ ++ (right ∷ [])) → φ ≡ disjunction φs → Unit_is σ φ

  -- units parted by `&`
  pub data Units : List Sign → Formulas → Type 0 where
    one_unit : {σ : List Sign} {φs : Formulas} (φ : Formula) → Unit_is σ φ → φs ≡ one φ → Units σ φs
    more_units : {σ : List Sign} {φs : Formulas} (τ ρ : List Sign) (φ : Formula) (ψs : Formulas) → Unit_is τ φ →
        Units ρ ψs → σ ≡ τ ++ (and ∷ ρ) → φs ≡ φ also ψs → Units σ φs

  -- conjunctions parted by `|`
  pub data Parts : List Sign → Formulas → Type 0 where
    one_part : {σ : List Sign} {φs : Formulas} (us : Formulas) → Units σ us → φs ≡ one (conjunction us) → Parts σ φs
    more_parts : {σ : List Sign} {φs : Formulas} (τ ρ : List Sign) (us ψs : Formulas) → Units τ us → Parts ρ ψs →
        σ ≡ τ ++ (or ∷ ρ) → φs ≡ conjunction us also ψs → Parts σ φs

pub data Whole : List Sign → Formula → Type 0 where
  whole : {σ : List Sign} {φ : Formula} (φs : Formulas) → Parts σ φs → φ ≡ disjunction φs → Whole σ φ

-- the text of a formula
pub record Reads (t : List ℕ) (φ : Formula) : Type 0 where
  pub signs : List Sign
  pub spelt : Spelt signs t
  pub formula : Whole signs φ

-- "a formula can go on": some formula's text begins so
abbrev pub Viable : List ℕ → Type 0
Viable u = (v : List ℕ) × (φ : Formula) × Reads (u ++ v) φ

-- "the first byte, from 0, at which no formula can go on"; the text's length where it stops early
pub record BadAt (t : List ℕ) (i : ℕ) : Type 0 where
  pub inside : i ≤ length t
  pub before : Viable (take i t)
  pub here : i < length t → Viable (take (suc i) t) → ⊥
  pub unread : (φ : Formula) → Reads t φ → ⊥
