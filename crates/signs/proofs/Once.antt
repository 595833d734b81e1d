-- A text has at most one tree: every formula's signs lead a machine that builds trees to the formula itself.
-- Assumes nothing.
use Prim.Native.Nat.{ℕ}
use mathlib.Core.Path.{◌≡◌, refl, sym, ap, subst, ◌∙◌}
use mathlib.Core.Option.{Option, none, some}
use mathlib.Core.List.{List, [], ◌∷◌, ◌++◌, append_assoc, append-nil}
use lib.Dec.{eqb}
use Rattle.signs.specs.Signs.{Sign, nil_sign, top_sign, atom_sign, feature_sign, mark, greater, and, or, right}
use Rattle.formulas.specs.Formula.{Path, Formula, nil, top, atom, at, same, Formulas, one, ◌also◌}
use Rattle.signs.specs.Grammar.{conjunction, disjunction, features, path_rest, Unit_is, is_nil, is_top, is_atom, is_at, is_same}
use Rattle.signs.specs.Grammar.{is_group, Units, one_unit, more_units, Parts, one_part, more_parts, Whole, whole, Reads}
use Rattle.signs.specs.Machine.{if_so}
use Rattle.signs.specs.declared.machine.Due.TheVariants.{After}
use Rattle.signs.specs.declared.machine.Place.{Place}
use Rattle.signs.specs.declared.machine.Place.TheVariants.{Start}
use Rattle.signs.proofs.Moves.{route_whole, whole_route}
use Rattle.signs.proofs.Run.{on, run, rev, rev_rev}
use Rattle.signs.proofs.Sofar.{sofar}
use Rattle.signs.proofs.Through.{Stood, spelt_reaches}
use Rattle.signs.proofs.Exact.{stood_full}

-- what stands open: the parts before, the units before, the features before the unit, each the last one first
pub record Frame : Type 0 where
  pub parts : List Formula
  pub units : List Formula
  pub arcs : List ℕ

-- what may come next, with what a list of paths has so far, or the last unit
pub data Stage : Type 0 where
  unit_due : Stage
  colon_due : ℕ → Stage
  path_due : List Path → Stage
  steps_due : List Path → Path → Stage
  listed : List Path → Path → Stage
  after_unit : Formula → Stage

-- what stands before, the last one first, and then what follows
abbrev pub onto : {A : Type 0} → List A → List A → List A
onto [] l = l
onto (x ∷ xs) l = onto xs (x ∷ l)

abbrev pub gathered : List Formula → Formulas → Formulas
gathered [] φs = φs
gathered (φ ∷ l) φs = gathered l (φ also φs)

abbrev pub shared : List Path → Path → List Path → Formula
shared [] p ps = same p ps
shared (q ∷ done) p ps = shared done q (p ∷ ps)

-- the features before a unit, the last one innermost
abbrev pub under : List ℕ → Formula → Formula
under [] φ = φ
under (f ∷ fs) φ = under fs (at f φ)

abbrev pub framed : List Formula → List Formula → List ℕ → Frame
framed ps us fs = record { parts = ps; units = us; arcs = fs }

abbrev pub bare : Frame
bare = framed [] [] []

-- the conjunction that ends with this unit, and what is parted by `|`
abbrev pub part : Frame → Formula → Formula
part f φ = conjunction (gathered f.units (one φ))

abbrev pub parts_of : Frame → Formula → Formulas
parts_of f φ = gathered f.parts (one (part f φ))

abbrev pub Build : Type 0
Build = Stage → Frame → List Frame → Option Formula

-- a unit is complete
abbrev pub ends : Build → Formula → Frame → List Frame → Option Formula
ends k φ f fs = k (after_unit (under f.arcs φ)) (framed f.parts f.units []) fs

-- a parenthesis ends the innermost group
abbrev pub group_ends : Build → Formula → List Frame → Option Formula
group_ends k φ [] = none
group_ends k φ (f ∷ fs) = ends k φ f fs

abbrev pub marked : ℕ → Build → Build
marked b k unit_due f fs = if_so (eqb b 91) (k (path_due []) f fs) (if_so (eqb b 40) (k unit_due bare (f ∷ fs)) none)
marked b k (colon_due a) f fs = if_so (eqb b 58) (k unit_due (framed f.parts f.units (a ∷ f.arcs)) fs) none
marked b k (path_due ps) f fs = if_so (eqb b 60) (k (steps_due ps []) f fs) none
marked b k (steps_due ps p) f fs = if_so (eqb b 62) (k (listed ps (onto p [])) f fs) none
marked b k (listed ps p) f fs = if_so (eqb b 44) (k (path_due (p ∷ ps)) f fs) (if_so (eqb b 93) (ends k (shared ps p []) f fs) none)
marked b k (after_unit φ) f fs =
    if_so (eqb b 38) (k unit_due (framed f.parts (φ ∷ f.units) []) fs)
    (if_so (eqb b 124) (k unit_due (framed (part f φ ∷ f.parts) [] []) fs)
    (if_so (eqb b 41) (group_ends k (disjunction (parts_of f φ)) fs) none))

abbrev pub only_unit : Stage → Option Formula → Option Formula
only_unit unit_due x = x
only_unit (colon_due a) x = none
only_unit (path_due ps) x = none
only_unit (steps_due ps p) x = none
only_unit (listed ps p) x = none
only_unit (after_unit φ) x = none

abbrev pub featured : ℕ → Build → Build
featured a k unit_due f fs = k (colon_due a) f fs
featured a k (colon_due b) f fs = none
featured a k (path_due ps) f fs = none
featured a k (steps_due ps p) f fs = k (steps_due ps (a ∷ p)) f fs
featured a k (listed ps p) f fs = none
featured a k (after_unit φ) f fs = none

abbrev pub signed : Sign → Build → Build
signed nil_sign k s f fs = only_unit s (ends k nil f fs)
signed top_sign k s f fs = only_unit s (ends k top f fs)
signed (atom_sign a) k s f fs = only_unit s (ends k (atom a) f fs)
signed (feature_sign a) k s f fs = featured a k s f fs
signed (mark b) k s f fs = marked b k s f fs

abbrev pub built : Build
built (after_unit φ) f [] = some (disjunction (parts_of f φ))
built (after_unit φ) f (f' ∷ fs) = none
built unit_due f fs = none
built (colon_due a) f fs = none
built (path_due ps) f fs = none
built (steps_due ps p) f fs = none
built (listed ps p) f fs = none

abbrev pub build : List Sign → Build
build [] = built
build (s ∷ σ) = signed s (build σ)

onto_back : {A : Type 0} (p q : List A) → onto (onto p q) [] ≡ onto q p
onto_back [] q = refl
onto_back (x ∷ p) q = onto_back p (x ∷ q)

steps_built : (p q : Path) (ps : List Path) (τ : List Sign) (f : Frame) (fs : List Frame) →
    build (features p ++ τ) (steps_due ps q) f fs ≡ build τ (steps_due ps (onto p q)) f fs
steps_built [] q ps τ f fs = refl
steps_built (a ∷ p) q ps τ f fs = steps_built p (a ∷ q) ps τ f fs

module _ (τ : List Sign) (f : Frame) (fs : List Frame) where
  path_built : (p : Path) (ps done : List Path) →
      build (path_rest ps ++ τ) (listed done p) f fs ≡ ends (build τ) (shared done p ps) f fs →
      build ((features p ++ (greater ∷ path_rest ps)) ++ τ) (steps_due done []) f fs ≡ ends (build τ) (shared done p ps) f fs
  path_built p ps done h =
      ap (λ (l : List Sign). build l (steps_due done []) f fs) (append_assoc (features p) (greater ∷ path_rest ps) τ)
      ∙ steps_built p [] done ((greater ∷ path_rest ps) ++ τ) f fs
      ∙ ap (λ (q : Path). build (path_rest ps ++ τ) (listed done q) f fs) (onto_back p [])
      ∙ h

  rest_built : (ps done : List Path) (p : Path) → build (path_rest ps ++ τ) (listed done p) f fs ≡ ends (build τ) (shared done p ps) f fs
  rest_built [] done p = refl
  rest_built (q ∷ ps) done p = path_built q ps (p ∷ done) (rest_built ps (p ∷ done) q)

  -- a unit by its equations
  unit_as : {σ ρ : List Sign} {φ ψ : Formula} → σ ≡ ρ → φ ≡ ψ → build (ρ ++ τ) unit_due f fs ≡ ends (build τ) ψ f fs →
      build (σ ++ τ) unit_due f fs ≡ ends (build τ) φ f fs
  unit_as e q h = ap (λ (l : List Sign). build (l ++ τ) unit_due f fs) e ∙ h ∙ ap (λ (x : Formula). ends (build τ) x f fs) (sym q)

-- signs lead to a last unit, and to a frame that holds the units before it
record HeldUnits (σ τ : List Sign) (ps vs : List Formula) (us : Formulas) (fs : List Frame) : Type 0 where
  last : Formula
  before : List Formula
  is : build (σ ++ τ) unit_due (framed ps vs []) fs ≡ build τ (after_unit last) (framed ps before []) fs
  units : gathered before (one last) ≡ gathered vs us

record HeldParts (σ τ : List Sign) (ps : List Formula) (φs : Formulas) (fs : List Frame) : Type 0 where
  last : Formula
  frame : Frame
  is : build (σ ++ τ) unit_due (framed ps [] []) fs ≡ build τ (after_unit last) frame fs
  parts : parts_of frame last ≡ gathered ps φs

mutual
  unit_built : {σ : List Sign} {φ : Formula} → Unit_is σ φ → (τ : List Sign) (f : Frame) (fs : List Frame) →
      build (σ ++ τ) unit_due f fs ≡ ends (build τ) φ f fs
  unit_built (is_nil e q) τ f fs = unit_as τ f fs e q refl
  unit_built (is_top e q) τ f fs = unit_as τ f fs e q refl
  unit_built (is_atom a e q) τ f fs = unit_as τ f fs e q refl
  unit_built (is_at a ρ ψ u e q) τ f fs = unit_as τ f fs e q (unit_built u τ (framed f.parts f.units (a ∷ f.arcs)) fs)
  unit_built (is_same p ps e q) τ f fs = unit_as τ f fs e q (path_built τ f fs p ps [] (rest_built τ f fs ps [] p))
  unit_built (is_group ρ φs p e q) τ f fs =
      let w = parts_built p (right ∷ τ) [] (f ∷ fs) in
      unit_as τ f fs e q
      (ap (λ (l : List Sign). build l unit_due bare (f ∷ fs)) (append_assoc ρ (right ∷ []) τ)
      ∙ w.is
      ∙ ap (λ (x : Formulas). ends (build τ) (disjunction x) f fs) w.parts)

  units_built : {σ : List Sign} {us : Formulas} → Units σ us → (τ : List Sign) (ps vs : List Formula) (fs : List Frame) →
      HeldUnits σ τ ps vs us fs
  units_built (one_unit φ u e) τ ps vs fs = record {
    last = φ;
    before = vs;
    is = unit_built u τ (framed ps vs []) fs;
    units = ap (gathered vs) (sym e);
  }
  units_built (more_units ρ π φ ψs u us e q) τ ps vs fs =
      let w = units_built us τ ps (φ ∷ vs) fs in record {
        last = w.last;
        before = w.before;
        is = ap (λ (l : List Sign). build l unit_due (framed ps vs []) fs) (ap (λ (l : List Sign). l ++ τ) e ∙ append_assoc ρ (and ∷ π) τ)
            ∙ unit_built u ((and ∷ π) ++ τ) (framed ps vs []) fs
            ∙ w.is;
        units = w.units ∙ ap (gathered vs) (sym q);
      }

  parts_built : {σ : List Sign} {φs : Formulas} → Parts σ φs → (τ : List Sign) (ps : List Formula) (fs : List Frame) →
      HeldParts σ τ ps φs fs
  parts_built (one_part us u e) τ ps fs =
      let w = units_built u τ ps [] fs in record {
        last = w.last;
        frame = framed ps w.before [];
        is = w.is;
        parts = ap (λ (x : Formulas). gathered ps (one (conjunction x))) w.units ∙ ap (gathered ps) (sym e);
      }
  parts_built (more_parts ρ π us ψs u p e q) τ ps fs =
      let v = units_built u ((or ∷ π) ++ τ) ps [] fs in
      let x = conjunction (gathered v.before (one v.last)) in
      let w = parts_built p τ (x ∷ ps) fs in record {
        last = w.last;
        frame = w.frame;
        is = ap (λ (l : List Sign). build l unit_due (framed ps [] []) fs) (ap (λ (l : List Sign). l ++ τ) e ∙ append_assoc ρ (or ∷ π) τ)
            ∙ v.is
            ∙ w.is;
        parts = w.parts ∙ ap (λ (y : Formulas). gathered ps (conjunction y also ψs)) v.units ∙ ap (gathered ps) (sym q);
      }

-- the tree of signs
abbrev pub tree_of : List Sign → Option Formula
tree_of σ = build σ unit_due bare []

-- it is the formula's
pub whole_built : {σ : List Sign} {φ : Formula} → Whole σ φ → tree_of σ ≡ some φ
whole_built {σ} (whole φs p e) =
    let w = parts_built p [] [] [] in
    ap (λ (l : List Sign). build l unit_due bare []) (sym (append-nil σ))
    ∙ w.is
    ∙ ap (λ (x : Formulas). some (disjunction x)) w.parts
    ∙ ap some (sym e)

-- the signs of a text, too, are its own
pub one_spelling : (t : List ℕ) (φ ψ : Formula) (r : Reads t φ) (q : Reads t ψ) → r.signs ≡ q.signs
one_spelling t φ ψ r q =
    let a = spelt_reaches r.spelt (whole_route r.formula) in
    let b = spelt_reaches q.spelt (whole_route q.formula) in
    let e : on a.place 0 (rev r.signs) ≡ on b.place 0 (rev q.signs) = sym a.is ∙ b.is in
    let f : rev r.signs ≡ rev q.signs = cc in
    sym (rev_rev r.signs) ∙ ap rev f ∙ rev_rev q.signs

-- a text has at most one tree
pub one_reading : (t : List ℕ) (φ ψ : Formula) → Reads t φ → Reads t ψ → φ ≡ ψ
one_reading t φ ψ r q =
    let e : some φ ≡ some ψ = sym (whole_built r.formula) ∙ ap (λ (l : List Sign). build l unit_due bare []) (one_spelling t φ ψ r q)
    ∙ whole_built q.formula in
    cc

-- the tree of a text that the machine goes through
pub reads_is : (t : List ℕ) (p : Place) (ss : List Sign) (φ : Formula) → Stood p After → run t Start 0 [] ≡ on p 0 ss →
    tree_of (rev ss) ≡ some φ → Reads t φ
reads_is t p ss φ s e q =
    let f = stood_full 0 s (sofar t p 0 ss e) in
    let w = route_whole f.route in
    let z : some w.0 ≡ some φ = sym (whole_built w.1) ∙ q in
    let y : w.0 ≡ φ = cc in
    record { signs = rev ss; spelt = f.spelt; formula = subst (Whole (rev ss)) y w.1 }
