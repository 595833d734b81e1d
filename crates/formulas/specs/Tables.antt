-- The rows and the alternatives of a formula as tables, and when what a formula lays out lies in them.
-- Assumes nothing: these are definitions.
use Rattle.std.specs.Prelude.{ℕ, suc, ◌+◌, ◌-◌, ◌*◌, ◌<◌, ◌≤◌, ◌/◌, ◌%◌, ◌≡◌, length, get_or}
use mathlib.Core.List.{List, [], ◌∷◌, ◌++◌, Memᴰ}
use Rattle.theory.specs.Join.{Edge}
use Rattle.formulas.specs.Sheet.{Sheet, Sound, ◌plus◌, of_edges, Laid, laid, Rows, over, ◌besides◌, Cells, gone, ◌against◌}
use Rattle.formulas.specs.Flat.{Item, given_to, wide, wide_cells}

-- arc i is that of spot i + 1: the spot before it, and its feature; an atom's spot and the atom; two spots that are tied; of each row
-- the number of its alternative. Of an alternative: the number of the first one of its disjunction, the one before it with the same
-- owner (0: none), its own last inner one (0: none), and the spot where it stands
pub record Tables : Type 0 where
  pub arcs : ℕ
  pub atoms : ℕ
  pub ties : ℕ
  pub arc : ℕ → ℕ × ℕ
  pub arc_home : ℕ → ℕ
  pub atom : ℕ → ℕ × ℕ
  pub atom_home : ℕ → ℕ
  pub tie : ℕ → ℕ × ℕ
  pub tie_home : ℕ → ℕ
  pub group : ℕ → ℕ
  pub before : ℕ → ℕ
  pub last : ℕ → ℕ
  pub spot : ℕ → ℕ

-- two numbers in a word
abbrev pub parted : ℕ → ℕ × ℕ
parted x = (x % 2048, x / 2048)

-- the tables in words: two words a row, four words an alternative
abbrev pub tables : (arcs atoms ties alts : List ℕ) → Tables
tables rs bs ts ks = record {
  arcs = length rs / 2;
  atoms = length bs / 2;
  ties = length ts / 2;
  arc = λ i. parted (get_or rs (2 * i) 0);
  arc_home = λ i. get_or rs (2 * i + 1) 0;
  atom = λ i. parted (get_or bs (2 * i) 0);
  atom_home = λ i. get_or bs (2 * i + 1) 0;
  tie = λ i. parted (get_or ts (2 * i) 0);
  tie_home = λ i. get_or ts (2 * i + 1) 0;
  group = λ j. get_or ks (4 * j) 0;
  before = λ j. get_or ks (4 * j + 1) 0;
  last = λ j. get_or ks (4 * j + 2) 0;
  spot = λ j. get_or ks (4 * j + 3) 0;
}

module _ (T : Tables) where
  abbrev pub edge : ℕ → Edge
  edge i = ((T.arc i).0, (T.arc i).1, suc i)

  -- the arcs from the root to the spot s
  pub data Trail : ℕ → List Edge → Type 0 where
    at_root : {s : ℕ} {es : List Edge} → s ≡ 0 → es ≡ [] → Trail s es
    further : {s : ℕ} {es : List Edge} (i : ℕ) (ds : List Edge) → s ≡ suc i → i < T.arcs → es ≡ ds ++ edge i ∷ [] →
        Trail (T.arc i).0 ds → Trail s es

  -- the rows of each alternative are those of the one list
  pub record Tabled (L : List Item) : Type 0 where
    pub low : (i : ℕ) → i < T.arcs → (T.arc i).0 ≤ i
    pub arc_in : (i : ℕ) → i < T.arcs → Memᴰ (edge i) (given_to (T.arc_home i) L).edges
    pub arc_of : (j : ℕ) (e : Edge) → Memᴰ e (given_to j L).edges → (i : ℕ) × (i < T.arcs) × (T.arc_home i ≡ j)
        × (e ≡ edge i)
    pub atom_in : (i : ℕ) → i < T.atoms → Memᴰ (T.atom i) (given_to (T.atom_home i) L).atoms
    pub atom_of : (j : ℕ) (p : ℕ × ℕ) → Memᴰ p (given_to j L).atoms →
        (i : ℕ) × (i < T.atoms) × (T.atom_home i ≡ j) × (p ≡ T.atom i)
    pub tie_in : (i : ℕ) → i < T.ties → Memᴰ (T.tie i) (given_to (T.tie_home i) L).ties
    pub tie_of : (j : ℕ) (p : ℕ × ℕ) → Memᴰ p (given_to j L).ties → (i : ℕ) × (i < T.ties) × (T.tie_home i ≡ j)
        × (p ≡ T.tie i)

  -- alternative k, which stands in a description with the sheet O, has the arcs to its spot and what is given to it, and its
  -- alternatives lie from k + 1 on; disjunctions lie from k on, where the one before them ends in z and the last of them in c; so do
  -- the alternatives of the disjunction that begins with g
  abbrev mutual
    pub Lies : List Item → ℕ → Sheet → Laid → Type 0
    Lies L k O (laid A ds) =
        ((es : List Edge) × Trail (T.spot k) es × (A ≡ of_edges es plus given_to k L)
        × ((e : Edge) → Memᴰ e es → Memᴰ e O.edges))
        × LiesRows L (suc k) 0 A ds (T.last k)

    pub LiesRows : List Item → ℕ → ℕ → Sheet → Rows → ℕ → Type 0
    LiesRows L k z O over c = c ≡ z
    LiesRows L k z O (a besides ds) c = (y : ℕ) × (0 < wide_cells a) × LiesCells L k k z O a y × LiesRows L (k + wide_cells a) y O ds c

    pub LiesCells : List Item → ℕ → ℕ → ℕ → Sheet → Cells → ℕ → Type 0
    LiesCells L g k z O gone c = c ≡ z
    LiesCells L g k z O (d against a) c =
        (T.before k ≡ z) × (T.group k ≡ g) × Lies L k O d × LiesCells L g (suc k + wide d) k O a c

-- every sheet is rooted
abbrev mutual
  pub SoundLaid : Laid → Type 0
  SoundLaid (laid A ds) = Sound A × SoundRows ds

  pub SoundRows : Rows → Type 0
  SoundRows over = Unit {0}
  SoundRows (a besides ds) = SoundCells a × SoundRows ds

  pub SoundCells : Cells → Type 0
  SoundCells gone = Unit {0}
  SoundCells (d against a) = SoundLaid d × SoundCells a

-- "over 4 disjunctions nested in the text": here at most `left`
abbrev mutual
  pub NestsLaid : Laid → ℕ → Type 0
  NestsLaid (laid A ds) left = NestsRows ds left

  pub NestsRows : Rows → ℕ → Type 0
  NestsRows over left = Unit {0}
  NestsRows (a besides ds) left = (0 < left) × NestsCells a (left - 1) × NestsRows ds left

  pub NestsCells : Cells → ℕ → Type 0
  NestsCells gone left = Unit {0}
  NestsCells (d against a) left = NestsLaid d left × NestsCells a left

-- the tables are those of the list L, and small; no row is given to an alternative from `count` on
pub record TablesFit (T : Tables) (L : List Item) (count : ℕ) : Type 0 where
  pub tabled : Tabled T L
  pub few_arcs : T.arcs < 2048
  pub few_atoms : T.atoms ≤ 4096
  pub few_ties : T.ties ≤ 4096
  pub arc_homes : (i : ℕ) → i < T.arcs → T.arc_home i < count
  pub atom_homes : (i : ℕ) → i < T.atoms → T.atom_home i < count
  pub tie_homes : (i : ℕ) → i < T.ties → T.tie_home i < count
