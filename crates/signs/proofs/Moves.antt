-- A machine over signs, with a count of open groups, goes through exactly the formulas.
-- Assumes nothing.
use Prim.Native.Nat.{ℕ, zero, suc}
use mathlib.Core.Path.{◌≡◌, refl, sym, ap, subst, ◌∙◌}
use mathlib.Core.List.{List, [], ◌∷◌, ◌++◌, append_assoc, append-nil}
use Rattle.signs.specs.declared.machine.Due.{Due}
use Rattle.signs.specs.declared.machine.Due.TheVariants.{Operand, Colon, Path, Steps, Listed, After}
use Rattle.signs.specs.Signs.{Sign, nil_sign, top_sign, atom_sign, feature_sign, colon, bracket, unbracket, less, greater, comma, and}
use Rattle.signs.specs.Signs.{or, left, right}
use Rattle.formulas.specs.Formula.{Formula, nil, top, atom, at, same, all, Formulas, one, ◌also◌}
use Rattle.signs.specs.Grammar.{conjunction, disjunction, features, path_rest, path_list, Unit_is, is_nil, is_top, is_atom, is_at}
use Rattle.signs.specs.Grammar.{is_same, is_group, Units, one_unit, more_units, Parts, one_part, more_parts, Whole, whole}

-- what a sign does
pub data Moves : Due → ℕ → Sign → Due → ℕ → Type 0 where
  by_nil : {g : ℕ} → Moves Operand g nil_sign After g
  by_top : {g : ℕ} → Moves Operand g top_sign After g
  by_atom : {g : ℕ} (a : ℕ) → Moves Operand g (atom_sign a) After g
  by_arc : {g : ℕ} (f : ℕ) → Moves Operand g (feature_sign f) Colon g
  by_colon : {g : ℕ} → Moves Colon g colon Operand g
  by_bracket : {g : ℕ} → Moves Operand g bracket Path g
  by_less : {g : ℕ} → Moves Path g less Steps g
  by_step : {g : ℕ} (f : ℕ) → Moves Steps g (feature_sign f) Steps g
  by_greater : {g : ℕ} → Moves Steps g greater Listed g
  by_comma : {g : ℕ} → Moves Listed g comma Path g
  by_unbracket : {g : ℕ} → Moves Listed g unbracket After g
  by_and : {g : ℕ} → Moves After g and Operand g
  by_or : {g : ℕ} → Moves After g or Operand g
  by_left : {g : ℕ} → Moves Operand g left Operand (suc g)
  by_right : {g : ℕ} → Moves After (suc g) right After g

pub data Route : Due → ℕ → List Sign → Due → ℕ → Type 0 where
  stay : {d : Due} {g : ℕ} → Route d g [] d g
  move : {d d' e : Due} {g g' h : ℕ} {s : Sign} {σ : List Sign} → Moves d g s d' g' → Route d' g' σ e h → Route d g (s ∷ σ) e h

pub route_append : {d e e' : Due} {g h h' : ℕ} {σ τ : List Sign} → Route d g σ e h → Route e h τ e' h' → Route d g (σ ++ τ) e' h'
route_append stay r = r
route_append (move m q) r = move m (route_append q r)

pub route_one : {d e : Due} {g h : ℕ} {s : Sign} → Moves d g s e h → Route d g (s ∷ []) e h
route_one m = move m stay

-- what is left of a text whose groups are open: a formula to the next parenthesis, and the same again
abbrev Open : ℕ → List Sign → Type 0
Open zero σ = (φs : Formulas) × Parts σ φs
Open (suc g) σ =
    (α : List Sign) × (β : List Sign) × (φs : Formulas) × Parts α φs × (σ ≡ α ++ (right ∷ β)) × ((γ : List Sign) (φ : Formula) →
    Unit_is γ φ → Open g (γ ++ β))

abbrev Ended : ℕ → List Sign → Type 0
Ended g σ = (γ : List Sign) (φ : Formula) → Unit_is γ φ → Open g (γ ++ σ)

abbrev Rest : Due → ℕ → List Sign → Type 0
Rest Operand g σ = Open g σ
Rest Colon g σ = (f : ℕ) → Open g (feature_sign f ∷ σ)
Rest Path g σ = (p : List ℕ) × (ps : List (List ℕ)) × (β : List Sign) × (σ ≡ path_list p ps ++ β) × Ended g β
Rest Steps g σ = (p : List ℕ) × (ps : List (List ℕ)) × (β : List Sign) × (σ ≡ (features p ++ (greater ∷ path_rest ps)) ++ β) × Ended g β
Rest Listed g σ = (ps : List (List ℕ)) × (β : List Sign) × (σ ≡ path_rest ps ++ β) × Ended g β
Rest After g σ = Ended g σ

-- a feature before the first unit
units_arc : (f : ℕ) {σ : List Sign} {us : Formulas} → Units σ us → (vs : Formulas) × Units (feature_sign f ∷ colon ∷ σ) vs
units_arc f {σ} (one_unit φ u e) = (one (at f φ), one_unit (at f φ) (is_at f σ φ u refl refl) refl)
units_arc f {σ} (more_units τ ρ φ ψs u us e q) = (
  at f φ also ψs,
  more_units (feature_sign f ∷ colon ∷ τ) ρ (at f φ) ψs (is_at f τ φ u refl refl) us
      (ap (λ (l : List Sign). feature_sign f ∷ colon ∷ l) e) refl,
)

parts_arc : (f : ℕ) {σ : List Sign} {φs : Formulas} → Parts σ φs → (ψs : Formulas) × Parts (feature_sign f ∷ colon ∷ σ) ψs
parts_arc f (one_part us u e) = let v = units_arc f u in (one (conjunction v.0), one_part v.0 v.1 refl)
parts_arc f (more_parts τ ρ us ψs u p e q) = let v = units_arc f u in (
  conjunction v.0 also ψs,
  more_parts (feature_sign f ∷ colon ∷ τ) ρ v.0 ψs v.1 p
      (ap (λ (l : List Sign). feature_sign f ∷ colon ∷ l) e) refl,
)

arc_first : (g f : ℕ) (σ : List Sign) → Open g σ → Open g (feature_sign f ∷ colon ∷ σ)
arc_first zero f σ o = parts_arc f o.1
arc_first (suc g) f σ o = let v = parts_arc f o.3 in
    (feature_sign f ∷ colon ∷ o.0, o.1, v.0, v.1, ap (λ (l : List Sign). feature_sign f ∷ colon ∷ l) o.4, o.5)

-- a unit and a sign before the first unit
module _ (γ : List Sign) (φ : Formula) (u : Unit_is γ φ) where
  parts_and : {σ : List Sign} {φs : Formulas} → Parts σ φs → (ψs : Formulas) × Parts (γ ++ (and ∷ σ)) ψs
  parts_and {σ} (one_part us v e) = (one (all φ us), one_part (φ also us) (more_units γ σ φ us u v refl refl) refl)
  parts_and {σ} (more_parts τ ρ us ψs v p e q) = (
    all φ us also ψs,
    more_parts (γ ++ (and ∷ τ)) ρ (φ also us) ψs (more_units γ τ φ us u v refl refl) p
        (ap (λ (l : List Sign). γ ++ (and ∷ l)) e ∙ sym (append_assoc γ (and ∷ τ) (or ∷ ρ))) refl,
  )

  parts_or : {σ : List Sign} {φs : Formulas} → Parts σ φs → (ψs : Formulas) × Parts (γ ++ (or ∷ σ)) ψs
  parts_or {σ} {φs} p = (φ also φs, more_parts γ σ (one φ) φs (one_unit φ u refl) p refl refl)

  and_first : (g : ℕ) (σ : List Sign) → Open g σ → Open g (γ ++ (and ∷ σ))
  and_first zero σ o = parts_and o.1
  and_first (suc g) σ o = let v = parts_and o.3 in (
    γ ++ (and ∷ o.0),
    o.1,
    v.0,
    v.1,
    ap (λ (l : List Sign). γ ++ (and ∷ l)) o.4
        ∙ sym (append_assoc γ (and ∷ o.0) (right ∷ o.1)),
    o.5,
  )

  or_first : (g : ℕ) (σ : List Sign) → Open g σ → Open g (γ ++ (or ∷ σ))
  or_first zero σ o = parts_or o.1
  or_first (suc g) σ o = let v = parts_or o.3 in (
    γ ++ (or ∷ o.0),
    o.1,
    v.0,
    v.1,
    ap (λ (l : List Sign). γ ++ (or ∷ l)) o.4
        ∙ sym (append_assoc γ (or ∷ o.0) (right ∷ o.1)),
    o.5,
  )

group_first : (g : ℕ) (σ : List Sign) → Open (suc g) σ → Open g (left ∷ σ)
group_first g σ o =
    subst
    (Open g)
    (ap (λ (l : List Sign). left ∷ l) (append_assoc o.0 (right ∷ []) o.1 ∙ sym o.4))
    (o.5 (left ∷ (o.0 ++ (right ∷ []))) (disjunction o.2) (is_group o.0 o.2 o.3 refl refl))

paths_first : (g : ℕ) (σ : List Sign) → Rest Path g σ → Open g (bracket ∷ σ)
paths_first g σ r = subst (Open g) (ap (λ (l : List Sign). bracket ∷ l) (sym r.3))
    (r.4 (bracket ∷ path_list r.0 r.1) (same r.0 r.1) (is_same r.0 r.1 refl refl))

back : {d d' : Due} {g g' : ℕ} {s : Sign} (σ : List Sign) → Moves d g s d' g' → Rest d' g' σ → Rest d g (s ∷ σ)
back σ by_nil r = r (nil_sign ∷ []) nil (is_nil refl refl)
back σ by_top r = r (top_sign ∷ []) top (is_top refl refl)
back σ (by_atom a) r = r (atom_sign a ∷ []) (atom a) (is_atom a refl refl)
back σ (by_arc f) r = r f
back {g = g} σ by_colon r = λ f. arc_first g f σ r
back {g = g} σ by_bracket r = paths_first g σ r
back σ by_less r = (r.0, r.1, r.2, ap (λ (l : List Sign). less ∷ l) r.3, r.4)
back σ (by_step f) r = (f ∷ r.0, r.1, r.2, ap (λ (l : List Sign). feature_sign f ∷ l) r.3, r.4)
back σ by_greater r = ([], r.0, r.1, ap (λ (l : List Sign). greater ∷ l) r.2, r.3)
back σ by_comma r = (r.0 ∷ r.1, r.2, ap (λ (l : List Sign). comma ∷ l) r.3, r.4)
back σ by_unbracket r = ([], σ, refl, r)
back {g = g} σ by_and r = λ γ φ u. and_first γ φ u g σ r
back {g = g} σ by_or r = λ γ φ u. or_first γ φ u g σ r
back {g = g} σ by_left r = group_first g σ r
back σ by_right r = λ γ φ u. (γ, σ, one φ, one_part (one φ) (one_unit φ u refl) refl, refl, r)

ended_nothing : Ended 0 []
ended_nothing γ φ u = (one φ, subst (λ (l : List Sign). Parts l (one φ)) (sym (append-nil γ)) (one_part (one φ) (one_unit φ u refl) refl))

rest_end : {d : Due} {g : ℕ} → d ≡ After → g ≡ 0 → Rest d g []
rest_end {d} {g} e z = subst (λ (x : Due). Rest x g []) (sym e) (subst (λ (k : ℕ). Rest After k []) (sym z) ended_nothing)

route_rest : {d e : Due} {g h : ℕ} {σ : List Sign} → Route d g σ e h → e ≡ After → h ≡ 0 → Rest d g σ
route_rest stay a z = rest_end a z
route_rest {σ = s ∷ σ} (move m r) a z = back σ m (route_rest r a z)

-- a way through the signs is a formula
pub route_whole : {σ : List Sign} → Route Operand 0 σ After 0 → (φ : Formula) × Whole σ φ
route_whole r = let o = route_rest r refl refl in (disjunction o.0, whole o.0 o.1 refl)

-- a formula is a way through the signs, whatever is open
steps_route : (g : ℕ) (p : List ℕ) (τ : List Sign) (e : Due) (h : ℕ) → Route Steps g τ e h → Route Steps g (features p ++ τ) e h
steps_route g [] τ e h r = r
steps_route g (f ∷ p) τ e h r = move (by_step f) (steps_route g p τ e h r)

rest_route : (g : ℕ) (ps : List (List ℕ)) → Route Listed g (path_rest ps) After g
rest_route g [] = route_one by_unbracket
rest_route g (p ∷ ps) = move by_comma (move by_less (steps_route g p (greater ∷ path_rest ps) After g (move by_greater (rest_route g ps))))

list_route : (g : ℕ) (p : List ℕ) (ps : List (List ℕ)) → Route Path g (path_list p ps) After g
list_route g p ps = move by_less (steps_route g p (greater ∷ path_rest ps) After g (move by_greater (rest_route g ps)))

abbrev Through : ℕ → List Sign → Type 0
Through g σ = Route Operand g σ After g

mutual
  unit_route : {σ : List Sign} {φ : Formula} (g : ℕ) → Unit_is σ φ → Through g σ
  unit_route g (is_nil e q) = subst (Through g) (sym e) (route_one by_nil)
  unit_route g (is_top e q) = subst (Through g) (sym e) (route_one by_top)
  unit_route g (is_atom a e q) = subst (Through g) (sym e) (route_one (by_atom a))
  unit_route g (is_at f τ ψ u e q) = subst (Through g) (sym e) (move (by_arc f) (move by_colon (unit_route g u)))
  unit_route g (is_same p ps e q) = subst (Through g) (sym e) (move by_bracket (list_route g p ps))
  unit_route g (is_group τ φs p e q) = subst (Through g) (sym e) (move by_left (route_append (parts_route (suc g) p) (route_one by_right)))

  units_route : {σ : List Sign} {us : Formulas} (g : ℕ) → Units σ us → Through g σ
  units_route g (one_unit φ u e) = unit_route g u
  units_route g (more_units τ ρ φ ψs u us e q) = subst (Through g) (sym e) (route_append (unit_route g u) (move by_and (units_route g us)))

  parts_route : {σ : List Sign} {φs : Formulas} (g : ℕ) → Parts σ φs → Through g σ
  parts_route g (one_part us u e) = units_route g u
  parts_route g (more_parts τ ρ us ψs u p e q) = subst (Through g) (sym e) (route_append (units_route g u) (move by_or (parts_route g p)))

pub whole_route : {σ : List Sign} {φ : Formula} → Whole σ φ → Route Operand 0 σ After 0
whole_route (whole φs p e) = parts_route 0 p
