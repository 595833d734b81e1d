-- A text of at most 4,096 bytes gives few rows: each sign has its least number of bytes.
-- Assumes nothing.
use Prim.Native.Nat.{ℕ, suc, ◌+◌, ◌*◌, ◌≤◌}
use mathlib.Core.Path.{◌≡◌, refl, sym, ap, subst, ◌∙◌}
use mathlib.Core.List.{List, [], ◌∷◌, ◌++◌}
use native.Mathlib.Omega.{arith}
use lib.ListN.{length, length-append}
use Rattle.formulas.specs.Formula.{Path, Formula, nil, top, atom, at, same, all, any, Formulas, one, ◌also◌}
use Rattle.formulas.specs.Sheet.{lengths, count, counts}
use Rattle.formulas.specs.Flat.{width, widths, ranks}
use Rattle.signs.specs.Signs.{Sign, nil_sign, top_sign, atom_sign, feature_sign, mark, colon, bracket, left, and, or, right, greater}
use Rattle.signs.specs.Signs.{Decimal, digit, longer, Spells, spells_nil, spells_top, spells_atom, spells_feature, spells_mark, spaces}
use Rattle.signs.specs.Signs.{Spelt, one_sign, next_sign}
use Rattle.signs.specs.Grammar.{conjunction, disjunction, features, path_rest, path_list, Unit_is, is_nil, is_top, is_atom, is_at, is_same}
use Rattle.signs.specs.Grammar.{is_group, Units, one_unit, more_units, Parts, one_part, more_parts, Whole, whole}

-- the least number of bytes of a sign
abbrev weight : Sign → ℕ
weight nil_sign = 3
weight top_sign = 3
weight (atom_sign a) = 2
weight (feature_sign f) = 2
weight (mark b) = 1

abbrev pub weights : List Sign → ℕ
weights [] = 0
weights (s ∷ σ) = weight s + weights σ

weights_both : (σ τ : List Sign) → weights (σ ++ τ) ≡ weights σ + weights τ
weights_both [] τ = omega arith
weights_both (s ∷ σ) τ = let e = weights_both σ τ in omega (arith, e)

decimal_some : {t : List ℕ} {n : ℕ} → Decimal t n → 1 ≤ length t
decimal_some (digit l e) = let j = ap length e in omega (arith, j)
decimal_some (longer u m d p z l e q) = let i = length-append u ((48 + d) ∷ []) in let j = ap length e in omega (arith, i, j)

spells_weight : (s : Sign) (t : List ℕ) → Spells s t → weight s ≤ length t
spells_weight s t (spells_nil e) = let j = ap length e in omega (arith, j)
spells_weight s t (spells_top e) = let j = ap length e in omega (arith, j)
spells_weight s t (spells_atom u n e) = let j = ap length e in let d = decimal_some n.decimal in omega (arith, j, d)
spells_weight s t (spells_feature u n e) = let j = ap length e in let d = decimal_some n.decimal in omega (arith, j, d)
spells_weight s t (spells_mark e) = let j = ap length e in omega (arith, j)

pub spelt_weight : {σ : List Sign} {t : List ℕ} → Spelt σ t → weights σ ≤ length t
spelt_weight {σ} {t} (one_sign s p e) = let j = ap weights e in let l = spells_weight s t p in omega (arith, j, l)
spelt_weight {σ} {t} (next_sign τ u n s v q p e i) =
    let j = ap weights e ∙ weights_both τ (s ∷ []) in
    let k = ap length i ∙ length-append u (spaces n ++ v) in
    let k' = length-append (spaces n) v in
    let l = spells_weight s v p in
    let r = spelt_weight q in
    omega (arith, j, k, k', l, r)

-- the atom rows and the tie rows of a formula
abbrev mutual
  pub bearing : Formula → ℕ
  bearing nil = 0
  bearing top = 2
  bearing (atom a) = 1
  bearing (at f φ) = bearing φ
  bearing (same p ps) = 0
  bearing (all φ φs) = bearing φ + bearings φs
  bearing (any φ φs) = bearing φ + bearings φs

  pub bearings : Formulas → ℕ
  bearings (one φ) = bearing φ
  bearings (φ also φs) = bearing φ + bearings φs

abbrev mutual
  pub sharing : Formula → ℕ
  sharing nil = 0
  sharing top = 0
  sharing (atom a) = 0
  sharing (at f φ) = sharing φ
  sharing (same p ps) = length ps
  sharing (all φ φs) = sharing φ + sharings φs
  sharing (any φ φs) = sharing φ + sharings φs

  pub sharings : Formulas → ℕ
  sharings (one φ) = sharing φ
  sharings (φ also φs) = sharing φ + sharings φs

-- what signs of this weight give at most: spots, atom rows and tie rows
pub record Few (w n a t : ℕ) : Type 0 where
  pub spots : suc (2 * n) ≤ w
  pub atoms : a ≤ w
  pub ties : t ≤ w

few_both : {w v n m a b t u : ℕ} → Few w n a t → Few v m b u → Few (w + suc v) (n + m) (a + b) (t + u)
few_both x y =
    let x0 = x.spots in
    let x1 = x.atoms in
    let x2 = x.ties in
    let y0 = y.spots in
    let y1 = y.atoms in
    let y2 = y.ties in
    record { spots = omega (arith, x0, y0); atoms = omega (arith, x1, y1); ties = omega (arith, x2, y2) }

few_more : {w v n a t : ℕ} → w ≤ v → Few w n a t → Few v n a t
few_more l x =
    let x0 = x.spots in
    let x1 = x.atoms in
    let x2 = x.ties in
    record { spots = omega (arith, x0, l); atoms = omega (arith, x1, l); ties = omega (arith, x2, l) }

abbrev FewIn : List Sign → Formula → Type 0
FewIn σ φ = Few (weights σ) (count φ) (bearing φ) (sharing φ)

abbrev FewAll : List Sign → Formulas → Type 0
FewAll σ φs = Few (weights σ) (counts φs) (bearings φs) (sharings φs)

abbrev FewUnit : List Sign → Formula → Type 0
FewUnit σ φ = (2 + 2 * width φ ≤ weights σ) × FewIn σ φ

abbrev FewUnits : List Sign → Formulas → Type 0
FewUnits σ us = (2 + 2 * widths us ≤ weights σ) × FewAll σ us

abbrev FewParts : List Sign → Formulas → Type 0
FewParts σ φs = (2 * ranks φs ≤ weights σ) × (suc (2 * width (disjunction φs)) ≤ weights σ) × FewAll σ φs

few_as : {σ ρ : List Sign} {φ ψ : Formula} → σ ≡ ρ → φ ≡ ψ → FewUnit ρ ψ → FewUnit σ φ
few_as {ρ = ρ} {φ = φ} e q x = subst (λ (l : List Sign). FewUnit l φ) (sym e) (subst (FewUnit ρ) (sym q) x)

features_weight : (p : Path) → weights (features p) ≡ 2 * length p
features_weight [] = refl
features_weight (f ∷ p) = let e = features_weight p in omega (arith, e)

path_weight : (p : Path) (l : List Sign) → weights (features p ++ (greater ∷ l)) ≡ 2 * length p + suc (weights l)
path_weight p l = let e = features_weight p in let i = weights_both (features p) (greater ∷ l) in omega (arith, e, i)

rest_weight : (ps : List Path) → weights (path_rest ps) ≡ 1 + 2 * lengths ps + 3 * length ps
rest_weight [] = refl
rest_weight (q ∷ ps) = let e = rest_weight ps in let i = path_weight q (path_rest ps) in omega (arith, e, i)

same_few : (p : Path) (ps : List Path) → FewUnit (bracket ∷ path_list p ps) (same p ps)
same_few p ps =
    let e = rest_weight ps in
    let i = path_weight p (path_rest ps) in
    (omega (arith, e, i), record { spots = omega (arith, e, i); atoms = omega (arith, e, i); ties = omega (arith, e, i) })

at_few : (f : ℕ) (τ : List Sign) (ψ : Formula) → FewUnit τ ψ → FewUnit (feature_sign f ∷ colon ∷ τ) (at f ψ)
at_few f τ ψ x =
    let x0 = x.0 in
    let x1 = x.1.spots in
    let x2 = x.1.atoms in
    let x3 = x.1.ties in
    (omega (arith, x0), record { spots = omega (arith, x1); atoms = omega (arith, x2); ties = omega (arith, x3) })

group_few : (τ : List Sign) (φs : Formulas) → FewParts τ φs → FewUnit (left ∷ (τ ++ (right ∷ []))) (disjunction φs)
group_few τ (one φ) x =
    let e = weights_both τ (right ∷ []) in
    let r = x.0 in
    (omega (arith, e, r), few_more (omega (arith, e)) x.2)
group_few τ (φ also φs) x =
    let e = weights_both τ (right ∷ []) in
    let r = x.0 in
    (omega (arith, e, r), few_more (omega (arith, e)) x.2)

-- a unit and units, or units and parts, with a sign between
joined_few : (τ ρ : List Sign) (b : ℕ) (n m a c t u : ℕ) → Few (weights τ) n a t → Few (weights ρ) m c u →
    Few (weights (τ ++ (mark b ∷ ρ))) (n + m) (a + c) (t + u)
joined_few τ ρ b n m a c t u x y = few_more (let e = weights_both τ (mark b ∷ ρ) in omega (arith, e)) (few_both x y)

conjunction_few : (σ : List Sign) (us : Formulas) → FewUnits σ us → FewUnit σ (conjunction us)
conjunction_few σ (one φ) x = x
conjunction_few σ (φ also φs) x = x

mutual
  unit_few : {σ : List Sign} {φ : Formula} → Unit_is σ φ → FewUnit σ φ
  unit_few (is_nil e q) = few_as e q (omega arith, record { spots = omega arith; atoms = omega arith; ties = omega arith })
  unit_few (is_top e q) = few_as e q (omega arith, record { spots = omega arith; atoms = omega arith; ties = omega arith })
  unit_few (is_atom a e q) = few_as e q (omega arith, record { spots = omega arith; atoms = omega arith; ties = omega arith })
  unit_few (is_at f τ ψ u e q) = few_as e q (at_few f τ ψ (unit_few u))
  unit_few (is_same p ps e q) = few_as e q (same_few p ps)
  unit_few (is_group τ φs p e q) = few_as e q (group_few τ φs (parts_few p))

  units_few : {σ : List Sign} {us : Formulas} → Units σ us → FewUnits σ us
  units_few {σ} (one_unit φ u e) = subst (FewUnits σ) (sym e) (unit_few u)
  units_few {σ} {us} (more_units τ ρ φ ψs u vs e q) =
      let x = unit_few u in
      let y = units_few vs in
      let x0 = x.0 in
      let y0 = y.0 in
      let i = weights_both τ (and ∷ ρ) in
      subst (λ (l : List Sign). FewUnits l us) (sym e) (subst (FewUnits (τ ++ (and ∷ ρ))) (sym q)
      (omega (arith, x0, y0, i), joined_few τ ρ 38 (count φ) (counts ψs) (bearing φ) (bearings ψs) (sharing φ) (sharings ψs) x.1 y.1))

  parts_few : {σ : List Sign} {φs : Formulas} → Parts σ φs → FewParts σ φs
  parts_few {σ} (one_part us u e) =
      let x = conjunction_few σ us (units_few u) in
      let x0 = x.0 in
      subst (FewParts σ) (sym e) (omega (arith, x0), omega (arith, x0), x.1)
  parts_few {σ} {φs} (more_parts τ ρ us ψs u p e q) =
      let x = conjunction_few τ us (units_few u) in
      let y = parts_few p in
      let c = conjunction us in
      let x0 = x.0 in
      let y0 = y.0 in
      let i = weights_both τ (or ∷ ρ) in
      subst (λ (l : List Sign). FewParts l φs) (sym e) (subst (FewParts (τ ++ (or ∷ ρ))) (sym q) (
        omega (arith, x0, y0, i),
        omega (arith, x0, y0, i),
        joined_few τ ρ 124 (count c) (counts ψs) (bearing c) (bearings ψs) (sharing c) (sharings ψs) x.1 y.2,
      ))

disjunction_few : (σ : List Sign) (φs : Formulas) → FewAll σ φs → FewIn σ (disjunction φs)
disjunction_few σ (one φ) x = x
disjunction_few σ (φ also φs) x = x

-- a formula's text gives few rows and few alternatives
pub whole_few : {σ : List Sign} {φ : Formula} → Whole σ φ → FewIn σ φ × (suc (2 * width φ) ≤ weights σ)
whole_few {σ} (whole φs p e) =
    let x = parts_few p in
    subst (λ (φ : Formula). FewIn σ φ × (suc (2 * width φ) ≤ weights σ)) (sym e) (disjunction_few σ φs x.2, x.1)
