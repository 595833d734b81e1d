-- The labels of spots in an array, and what closing does to them: rules that they break are mended one by one.
-- Assumes nothing: these are definitions.
use Rattle.std.specs.Prelude.{◌≡◌, ◌⊎◌, ◌≢◌, Bool, true, false, ℕ, ◌+◌, ◌<◌, ◌≤◌, length, get_or, eqb}
use mathlib.Core.List.{List, ◌∷◌, Memᴰ}
use Rattle.theory.proofs.Close.{count}
use Rattle.theory.specs.Join.{Rule, swap, merge, seed_rules}
use Rattle.closing.specs.Rows.{spot_limit, spot_of, spot_mark, in_pairs}

-- the label of any number: its own beyond the array
abbrev pub lab_of : List ℕ → ℕ → ℕ
lab_of L i = get_or L i i

-- the root and the ends of arcs
abbrev pub SpotLabelled : List ℕ → ℕ → Type 0
SpotLabelled ends i = (i ≡ 0) ⊎ Memᴰ i ends

abbrev pub Below : List ℕ → Type 0
Below l = (k : ℕ) → k < length l → get_or l k 0 < spot_limit

-- each class has the label of one of its spots
pub record Labels (ends L : List ℕ) : Type 0 where
  pub len : length L ≡ spot_limit
  pub low : (i : ℕ) → i < spot_limit → lab_of L i < spot_limit
  pub own : (i : ℕ) → (lab_of L i ≡ i) ⊎ SpotLabelled ends i
  pub stay : (i : ℕ) → SpotLabelled ends i → SpotLabelled ends (lab_of L i)
  pub idem : (i : ℕ) → lab_of L (lab_of L i) ≡ lab_of L i

-- the spots that are their own labels
abbrev pub reps : List ℕ → List ℕ → ℕ
reps ends L = count (λ i. eqb (lab_of L i) i) (0 ∷ ends)

abbrev pub change_bit : Bool → ℕ
change_bit false = 0
change_bit true = 1

-- labels reached by mending broken rules
pub data LabelsMerged (rs : List Rule) (lab : ℕ → ℕ) : (ℕ → ℕ) → Type 0 where
  same : {now : ℕ → ℕ} → ((i : ℕ) → now i ≡ lab i) → LabelsMerged rs lab now
  more : {now : ℕ → ℕ} (mid : ℕ → ℕ) → LabelsMerged rs lab mid → (q : Rule) → Memᴰ q rs →
      mid q.0 ≡ mid q.1 → mid q.2 ≢ mid q.3 →
      ((i : ℕ) → now i ≡ merge mid (mid q.2) (mid q.3) i) → LabelsMerged rs lab now

-- relabelling
pub record Relabelling (ends L : List ℕ) (a b : ℕ) : Type 0 where
  pub labels : Labels ends L
  pub ends_low : Below ends
  pub of : SpotLabelled ends b
  pub apart : a ≢ b

pub record Relabels (L : List ℕ) (a b : ℕ) (L' : List ℕ) : Type 0 where
  pub len : length L' ≡ spot_limit
  pub each : (i : ℕ) → lab_of L' i ≡ swap a b (lab_of L i)

-- at one spot
pub record Changes (L : List ℕ) (x a b : ℕ) (L' : List ℕ) : Type 0 where
  pub len : length L' ≡ spot_limit
  pub here : lab_of L' x ≡ swap a b (lab_of L x)
  pub rest : (i : ℕ) → i ≢ x → lab_of L' i ≡ lab_of L i

-- every spot has its own label
pub record LabelsStart (L : List ℕ) : Type 0 where
  pub len : length L ≡ spot_limit
  pub each : (i : ℕ) → lab_of L i ≡ i

-- two spots are given one label, unless they have one
pub record LabelsUniting (ends L : List ℕ) (x y : ℕ) : Type 0 where
  pub labels : Labels ends L
  pub ends_low : Below ends
  pub one : SpotLabelled ends x
  pub other : SpotLabelled ends y

pub record Unites (ends L : List ℕ) (x y : ℕ) (changed : Bool) (L' : List ℕ) : Type 0 where
  pub labels : Labels ends L'
  pub kept : changed ≡ false → (lab_of L x ≡ lab_of L y) × ((i : ℕ) → lab_of L' i ≡ lab_of L i)
  pub merged : changed ≡ true → (lab_of L x ≢ lab_of L y)
      × ((i : ℕ) → lab_of L' i ≡ merge (lab_of L) (lab_of L x) (lab_of L y) i)
  pub fewer : reps ends L' + change_bit changed ≤ reps ends L

-- tying
pub record Tying (ends L ties : List ℕ) : Type 0 where
  pub labels : Labels ends L
  pub ends_low : Below ends
  pub spots : (k : ℕ) → k < length ties → SpotLabelled ends (spot_of (get_or ties k 0)) × SpotLabelled ends (spot_mark (get_or ties k 0))

-- the first k ties are kept
pub record Ties (ends L ties : List ℕ) (k : ℕ) (L' : List ℕ) : Type 0 where
  pub labels : Labels ends L'
  pub merged : LabelsMerged (seed_rules (in_pairs ties)) (lab_of L) (lab_of L')
  pub tied : (j : ℕ) → j < k → lab_of L' (spot_of (get_or ties j 0)) ≡ lab_of L' (spot_mark (get_or ties j 0))
