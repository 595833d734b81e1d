-- What the tables hold when a formula is laid out in them.
-- Assumes nothing: these are definitions.
use Rattle.std.specs.Prelude.{ℕ, zero, suc, ◌+◌, ◌*◌, ◌/◌, ◌%◌, ◌<◌, ◌≤◌, ◌≡◌, List, [], ◌∷◌, length}
use Rattle.theory.specs.Limits.{code_limit}
use Rattle.theory.specs.Join.{Edge}
use Rattle.formulas.specs.Formula.{Formula}
use Rattle.formulas.specs.Sheet.{count, laid_out}
use Rattle.formulas.specs.Flat.{width, flattened}
use Rattle.rows.specs.Machine.{rows_of}
use Rattle.rows.specs.Plan.{Plan, PlanLies}
use Rattle.rows.specs.Memory.{row_limit, Memory, ListedFrom}

-- spots and alternatives are below it; a row's word is a spot and this times a feature, an atom or a spot
abbrev pub spot_unit : ℕ
spot_unit = 2048

abbrev pub mapped : {A : Type 0} → (A → ℕ) → List A → List ℕ
mapped f [] = []
mapped f (x ∷ l) = f x ∷ mapped f l

-- an arc's word has its parent and its feature: its spot is one more than the row's number
abbrev pub arc_word : ℕ × Edge → ℕ
arc_word e = e.1.0 + spot_unit * e.1.1

abbrev pub pair_word : ℕ × (ℕ × ℕ) → ℕ
pair_word x = x.1.0 + spot_unit * x.1.1

abbrev pub home_of_arc : ℕ × Edge → ℕ
home_of_arc e = e.0

abbrev pub pair_home : ℕ × (ℕ × ℕ) → ℕ
pair_home x = x.0

-- arcs lead to the spots from n on, each from a lower one
abbrev pub ArcsNumbered : ℕ → List (ℕ × Edge) → Type 0
ArcsNumbered n [] = Unit {0}
ArcsNumbered n (e ∷ l) = (e.1.2 ≡ n) × (e.1.0 < n) × ArcsNumbered (suc n) l

-- features and atoms are below 65,536
abbrev pub LowArcs : List (ℕ × Edge) → Type 0
LowArcs [] = Unit {0}
LowArcs (e ∷ l) = (e.1.1 < code_limit) × LowArcs l

abbrev pub LowAtoms : List (ℕ × (ℕ × ℕ)) → Type 0
LowAtoms [] = Unit {0}
LowAtoms (x ∷ l) = (x.1.1 < code_limit) × LowAtoms l

abbrev pub row_before : ℕ → ℕ
row_before zero = 0
row_before (suc i) = i

-- the plan that the memory has
abbrev pub memory_plan : Memory → Plan
memory_plan M = record {
  parent = λ s. M 0 (row_before s) % spot_unit;
  feature = λ s. M 0 (row_before s) / spot_unit;
  group = M 6;
  before = M 7;
  last = M 8;
  spot = M 9;
}

-- the rows of a formula, in the order of the text, with their alternatives; and its alternatives
pub record LaidIn (M : Memory) (φ : Formula) : Type 0 where
  pub few_spots : count φ < spot_unit
  pub few_alts : width φ < spot_unit
  pub arcs : ListedFrom (M 0) 0 (mapped arc_word (rows_of (flattened φ)).arcs)
  pub homes : ListedFrom (M 1) 0 (mapped home_of_arc (rows_of (flattened φ)).arcs)
  pub atoms : ListedFrom (M 2) 0 (mapped pair_word (rows_of (flattened φ)).bears)
  pub atom_homes : ListedFrom (M 3) 0 (mapped pair_home (rows_of (flattened φ)).bears)
  pub ties : ListedFrom (M 4) 0 (mapped pair_word (rows_of (flattened φ)).shares)
  pub tie_homes : ListedFrom (M 5) 0 (mapped pair_home (rows_of (flattened φ)).shares)
  pub numbered : ArcsNumbered 1 (rows_of (flattened φ)).arcs
  pub features : LowArcs (rows_of (flattened φ)).arcs
  pub low_atoms : LowAtoms (rows_of (flattened φ)).bears
  pub few_atoms : length (rows_of (flattened φ)).bears ≤ row_limit
  pub few_ties : length (rows_of (flattened φ)).shares ≤ row_limit
  pub lies : PlanLies (memory_plan M) (flattened φ) 0 (laid_out φ)
