-- The rows of one part, gathered from the tables.
-- Assumes nothing: these are definitions.
use Rattle.std.specs.Prelude.{ℕ, ◌+◌, ◌*◌, ◌/◌, ◌<◌, ◌≤◌, ◌≡◌, ◌⊎◌, Bool, true, false, length, get_or, take}
use mathlib.Core.List.{List, [], Memᴰ}
use Rattle.theory.specs.Join.{Edge}
use Rattle.formulas.specs.Tables.{Tables, parted, tables, edge, Trail}
use Rattle.closing.specs.Rows.{spot_limit, in_edges, in_pairs}

-- the list has what f makes of the numbers below `count` of which P holds
pub record AmongRows {A : Type 0} (P : ℕ → Type 0) (f : ℕ → A) (count : ℕ) (l : List A) : Type 0 where
  pub in_list : (i : ℕ) → i < count → P i → Memᴰ (f i) l
  pub of_list : (x : A) → Memᴰ x l → (i : ℕ) × (i < count) × P i × (x ≡ f i)

-- rows of a table, `home` of which says to which alternative they were given, and hm to which that has come
abbrev pub Members : (hm : List ℕ) (k count : ℕ) (home : ℕ → ℕ) (row : ℕ → ℕ × ℕ) (l : List (ℕ × ℕ)) → Type 0
Members hm k count home row l = AmongRows (λ i. get_or hm (home i) 0 ≡ k) row count l

-- the rows of a table in words, and their alternatives
abbrev pub row_in : List ℕ → ℕ → ℕ × ℕ
row_in rows i = parted (get_or rows (2 * i) 0)

abbrev pub home_in : List ℕ → ℕ → ℕ
home_in rows i = get_or rows (2 * i + 1) 0

-- row i has come to k
abbrev pub RowCame : (rows hm : List ℕ) (k i : ℕ) → Type 0
RowCame rows hm k i = get_or hm (home_in rows i) 0 ≡ k

pub record RowComing (rows hm : List ℕ) (i : ℕ) : Type 0 where
  pub inside : i < length rows / 2
  pub home : home_in rows i < length hm

pub record RowComes (rows hm : List ℕ) (k i : ℕ) (r : Bool) : Type 0 where
  pub holds : r ≡ true → RowCame rows hm k i
  pub fails : r ≡ false → RowCame rows hm k i → ⊥

-- ---- atoms and ties
pub record Gathering (rows hm out : List ℕ) : Type 0 where
  pub homes : (i : ℕ) → i < length rows / 2 → home_in rows i < length hm
  pub room : length rows / 2 ≤ length out

-- the first n words of out are those of the first `count` rows that have come to k
pub record Gathers (rows hm : List ℕ) (k count : ℕ) (out : List ℕ) (n : ℕ) (out' : List ℕ) : Type 0 where
  pub same : length out' ≡ length out
  pub few : n ≤ count
  pub rows_are : Members hm k count (home_in rows) (row_in rows) (in_pairs (take n out'))

-- ---- the arcs from the root to a spot
-- tables that have arcs only
abbrev pub arc_table : List ℕ → Tables
arc_table arcs = tables arcs [] [] []

-- of the arcs of T exactly those of es are marked
abbrev pub TrailMarked : Tables → List Bool → List Edge → Type 0
TrailMarked T on es =
    (i : ℕ) → i < T.arcs → ((get_or on i false ≡ true) × Memᴰ (edge T i) es)
    ⊎ ((get_or on i false ≡ false) × (Memᴰ (edge T i) es → ⊥))

-- nothing is marked yet
pub record TrailMarking (T : Tables) (s : ℕ) (on : List Bool) : Type 0 where
  pub low : (i : ℕ) → i < T.arcs → (T.arc i).0 ≤ i
  pub trail : List Edge
  pub trails : Trail T s trail
  pub room : T.arcs ≤ length on
  pub clear : (i : ℕ) → i < T.arcs → get_or on i false ≡ false

pub record TrailMarks (T : Tables) (s : ℕ) (on on' : List Bool) : Type 0 where
  pub same : length on' ≡ length on
  pub marked : (es : List Edge) → Trail T s es → TrailMarked T on' es

-- ---- arcs
-- arc i is marked, or has come to k
abbrev pub Belong : (arcs hm : List ℕ) (on : List Bool) (k i : ℕ) → Type 0
Belong arcs hm on k i = (get_or on i false ≡ true) ⊎ RowCame arcs hm k i

pub record Belonging (arcs hm : List ℕ) (on : List Bool) (i : ℕ) : Type 0 where
  pub coming : RowComing arcs hm i
  pub marks : i < length on

pub record Belongs (arcs hm : List ℕ) (on : List Bool) (k i : ℕ) (r : Bool) : Type 0 where
  pub holds : r ≡ true → Belong arcs hm on k i
  pub fails : r ≡ false → Belong arcs hm on k i → ⊥

pub record GatheringArcs (arcs hm : List ℕ) (on : List Bool) (out ends : List ℕ) : Type 0 where
  pub homes : (i : ℕ) → i < length arcs / 2 → home_in arcs i < length hm
  pub few_arcs : length arcs / 2 < spot_limit
  pub marks : length arcs / 2 ≤ length on
  pub room : length arcs / 2 ≤ length out
  pub room_ends : length arcs / 2 ≤ length ends

-- the first n words of `out` and of `ends` are those of the first `count` arcs that belong to k
pub record GathersArcs (arcs hm : List ℕ) (on : List Bool) (k count : ℕ) (out ends : List ℕ) (n : ℕ) (out' ends' : List ℕ) : Type 0 where
  pub same : length out' ≡ length out
  pub same_ends : length ends' ≡ length ends
  pub few : n ≤ count
  pub arcs_are : AmongRows (Belong arcs hm on k) (edge (arc_table arcs)) count (in_edges (take n out') (take n ends'))
