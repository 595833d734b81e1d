-- The rows and alternatives of a formula in tables: where each alternative stands, and the arcs that lead to it.
-- Assumes nothing: these are definitions.
use Rattle.std.specs.Prelude.{ℕ, zero, suc, ◌+◌, ◌<◌, ◌≤◌, ◌≡◌, List, [], ◌∷◌, ◌++◌, eqb}
use Rattle.theory.specs.Join.{Edge}
use Rattle.formulas.specs.Sheet.{◌plus◌, of_edges, Laid, laid, Rows, over, ◌besides◌, Cells, gone, ◌against◌}
use Rattle.formulas.specs.Flat.{Item, given_to, wide, wide_cells}
use Rattle.signs.specs.Machine.{if_so}
use Rattle.rows.specs.Machine.{Alt}

-- of a spot its parent and its feature; of an alternative the first one beside it, the one of the same owner before it, the last one
-- that stands in it, and its spot. 0 is the root, the whole, and none
pub record Plan : Type 0 where
  pub parent : ℕ → ℕ
  pub feature : ℕ → ℕ
  pub group : ℕ → ℕ
  pub before : ℕ → ℕ
  pub last : ℕ → ℕ
  pub spot : ℕ → ℕ

-- the arcs from the root to a spot: those to its parent, and its own; at most so many
abbrev pub trail_in : Plan → ℕ → ℕ → List Edge
trail_in T zero s = []
trail_in T (suc m) zero = []
trail_in T (suc m) (suc i) = trail_in T m (T.parent (suc i)) ++ ((T.parent (suc i), T.feature (suc i), suc i) ∷ [])

-- a parent has a lower number
abbrev pub plan_trail : Plan → ℕ → List Edge
plan_trail T s = trail_in T s s

-- the whole, or an alternative, has the number k: its sheet is the arcs that lead to it and what is given to it. From the last that
-- stands in it one goes back to the first: c is the last of these rows, z what came before them
abbrev mutual
  pub PlanLies : Plan → List Item → ℕ → Laid → Type 0
  PlanLies T L k (laid A ds) = (A ≡ of_edges (plan_trail T (T.spot k)) plus given_to k L) × PlanLiesRows T L (suc k) 0 ds (T.last k)

  pub PlanLiesRows : Plan → List Item → ℕ → ℕ → Rows → ℕ → Type 0
  PlanLiesRows T L k z over c = c ≡ z
  PlanLiesRows T L k z (a besides ds) c = (y : ℕ) × PlanLiesCells T L k k z a y × PlanLiesRows T L (k + wide_cells a) y ds c

  -- alternatives of one disjunction, g the first of them
  pub PlanLiesCells : Plan → List Item → ℕ → ℕ → ℕ → Cells → ℕ → Type 0
  PlanLiesCells T L g k z gone c = c ≡ z
  PlanLiesCells T L g k z (d against a) c =
      (T.before k ≡ z) × (T.group k ≡ g) × PlanLies T L k d × PlanLiesCells T L g (suc k + wide d) k a c

-- the last alternative of each owner, after a further one
abbrev pub renewed : (ℕ → ℕ) → ℕ → ℕ → ℕ → ℕ
renewed f o k j = if_so (eqb j o) k (f j)

-- after all of these, numbered from k on
abbrev pub lasts : (ℕ → ℕ) → ℕ → List Alt → ℕ → ℕ
lasts f k [] = f
lasts f k (a ∷ A) = lasts (renewed f a.owner k) (suc k) A

abbrev pub none_yet : ℕ → ℕ
none_yet j = 0

-- these alternatives stand in the tables from k on
abbrev pub AltsStand : Plan → (ℕ → ℕ) → ℕ → List Alt → Type 0
AltsStand T f k [] = Unit {0}
AltsStand T f k (a ∷ A) =
    (T.group k ≡ a.group) × (T.spot k ≡ a.spot) × (T.before k ≡ f a.owner) × AltsStand T (renewed f a.owner k) (suc k) A

-- so do these arcs, whose spots are at most N
abbrev pub ArcsLead : Plan → ℕ → List (ℕ × Edge) → Type 0
ArcsLead T N [] = Unit {0}
ArcsLead T N (e ∷ l) =
    ((e.1.0 < e.1.2) × (e.1.2 ≤ N) × (T.parent e.1.2 ≡ e.1.0) × (T.feature e.1.2 ≡ e.1.1)) × ArcsLead T N l
