-- What stands in a list, and in the lists of rows, by position.
-- Assumes nothing.
use mathlib.Core.Path.{◌≡◌, refl, sym, ◌∙◌}
use mathlib.Core.Logic.{◌⊎◌, inl, inr}
use mathlib.Core.List.Memᴰ
use mathlib.Core.List.{List, [], ◌∷◌, Memᴰ}
use Prim.Native.Nat.{ℕ, zero, suc, ◌<◌, ◌≤◌}
use native.Mathlib.Omega.{arith}
use lib.ListN.{length, get_or, replicate, length-replicate}
use Rattle.theory.specs.Join.{Edge}
use Rattle.std.specs.Prelude.{None}
use Rattle.closing.specs.Labels.{Labels}
use Rattle.closing.specs.Chains.{Clears}
use Rattle.closing.specs.Bearing.{AtomsBearing}
use Rattle.closing.specs.Rows.{spot_limit, spot_of, spot_mark, in_edges, in_pairs}

-- the default does not count within a list
pub getD_within : (l : List ℕ) (i d e : ℕ) → i < length l → get_or l i d ≡ get_or l i e
getD_within [] i d e h = absurd (omega arith)
getD_within (x ∷ l) zero d e h = refl
getD_within (x ∷ l) (suc i) d e h = getD_within l i d e (omega arith)

pub get_in : (l : List ℕ) (k : ℕ) → k < length l → Memᴰ (get_or l k 0) l
get_in [] k h = absurd (omega arith)
get_in (x ∷ l) zero h = Memᴰ.head refl
get_in (x ∷ l) (suc k) h = Memᴰ.tail (get_in l k (omega arith))

abbrev Where : {A : Type 0} → List ℕ → (ℕ → A) → A → Type 0
Where l f x = (k : ℕ) × (k < length l) × (f k ≡ x)

pub in_get : (l : List ℕ) (x : ℕ) → Memᴰ x l → Where l (λ k. get_or l k 0) x
in_get [] x m = absurd (Memᴰ.not-nil m)
in_get (y ∷ l) x m = go (Memᴰ.cases_cons m) (in_get l x)
  where
    go : (x ≡ y) ⊎ Memᴰ x l → (Memᴰ x l → Where l (λ k. get_or l k 0) x) → Where (y ∷ l) (λ k. get_or (y ∷ l) k 0) x
    go (inl e) s = (0, omega arith, sym e)
    go (inr i) s = let (k, h, e) = s i in (suc k, omega arith, e)

-- arc k
abbrev pub edge_at : List ℕ → List ℕ → ℕ → Edge
edge_at arcs ends k = (spot_of (get_or arcs k 0), spot_mark (get_or arcs k 0), get_or ends k 0)

pub edge_in : (arcs ends : List ℕ) → length ends ≡ length arcs → (k : ℕ) → k < length arcs →
    Memᴰ (edge_at arcs ends k) (in_edges arcs ends)
edge_in [] ends e k h = absurd (omega arith)
edge_in (a ∷ arcs) [] e k h = absurd (omega arith)
edge_in (a ∷ arcs) (b ∷ ends) e zero h = Memᴰ.head refl
edge_in (a ∷ arcs) (b ∷ ends) e (suc k) h = Memᴰ.tail (edge_in arcs ends (omega arith) k (omega arith))

pub edge_from : (arcs ends : List ℕ) (x : Edge) → Memᴰ x (in_edges arcs ends) → Where arcs (edge_at arcs ends) x
edge_from [] ends x m = absurd (Memᴰ.not-nil m)
edge_from (a ∷ arcs) [] x m = absurd (Memᴰ.not-nil m)
edge_from (a ∷ arcs) (b ∷ ends) x m = go (Memᴰ.cases_cons m) (edge_from arcs ends x)
  where
    go : (x ≡ edge_at (a ∷ arcs) (b ∷ ends) 0) ⊎ Memᴰ x (in_edges arcs ends) →
        (Memᴰ x (in_edges arcs ends) → Where arcs (edge_at arcs ends) x) → Where (a ∷ arcs) (edge_at (a ∷ arcs) (b ∷ ends)) x
    go (inl e) s = (0, omega arith, sym e)
    go (inr i) s = let (k, h, e) = s i in (suc k, omega arith, e)

-- pair k
abbrev pub pair_at : List ℕ → ℕ → ℕ × ℕ
pair_at rows k = (spot_of (get_or rows k 0), spot_mark (get_or rows k 0))

pub pair_in : (rows : List ℕ) (k : ℕ) → k < length rows → Memᴰ (pair_at rows k) (in_pairs rows)
pair_in [] k h = absurd (omega arith)
pair_in (a ∷ rows) zero h = Memᴰ.head refl
pair_in (a ∷ rows) (suc k) h = Memᴰ.tail (pair_in rows k (omega arith))

pub pair_from : (rows : List ℕ) (x : ℕ × ℕ) → Memᴰ x (in_pairs rows) → Where rows (pair_at rows) x
pair_from [] x m = absurd (Memᴰ.not-nil m)
pair_from (a ∷ rows) x m = go (Memᴰ.cases_cons m) (pair_from rows x)
  where
    go : (x ≡ pair_at (a ∷ rows) 0) ⊎ Memᴰ x (in_pairs rows) → (Memᴰ x (in_pairs rows) → Where rows (pair_at rows) x) →
        Where (a ∷ rows) (pair_at (a ∷ rows)) x
    go (inl e) s = (0, omega arith, sym e)
    go (inr i) s = let (k, h, e) = s i in (suc k, omega arith, e)

pub edges_length : (arcs ends : List ℕ) → length (in_edges arcs ends) ≤ length arcs
edges_length [] ends = omega arith
edges_length (a ∷ arcs) [] = omega arith
edges_length (a ∷ arcs) (b ∷ ends) = omega (arith, edges_length arcs ends)

-- an array of one value
pub alike_all : {A : Type 0} (x : A) (n i : ℕ) → get_or (replicate n x) i x ≡ x
alike_all x zero i = refl
alike_all x (suc n) zero = refl
alike_all x (suc n) (suc i) = alike_all x n i

pub clears : (n : ℕ) → n ≡ spot_limit → Clears (replicate n 0)
clears n e = record { len = length-replicate n 0 ∙ e; each = alike_all 0 n }

-- no label holds an atom yet
pub none_held : (ends L : List ℕ) → Labels ends L → (n : ℕ) → n ≡ spot_limit → AtomsBearing L (replicate n None)
none_held ends L g n e = record {
  len = g.len;
  low = g.low;
  wide = length-replicate n None ∙ e;
  clear = alike_all None n;
}
