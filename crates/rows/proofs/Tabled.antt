-- The tables in words hold a formula's rows and alternatives, as what folds it asks for.
-- Assumes nothing.
use Prim.Native.Nat.{ℕ, suc, ◌+◌, ◌*◌, ◌/◌, ◌%◌, ◌<◌, ◌≤◌}
use mathlib.Core.Path.{◌≡◌, sym, ap, subst, ◌∙◌}
use mathlib.Core.List.Memᴰ
use mathlib.Core.List.{List, Memᴰ}
use native.Mathlib.Omega.{arith}
use lib.ListN.{length, get_or}
use Rattle.theory.specs.Join.{Edge}
use Rattle.formulas.specs.Formula.{Formula}
use Rattle.formulas.specs.Sheet.{Sheet, count}
use Rattle.formulas.specs.Flat.{Item, width, flattened, given_to}
use Rattle.formulas.specs.Tables.{Tables, parted, tables, edge, TablesFit}
use Rattle.rows.specs.Machine.{Out, rows_of}
use Rattle.rows.specs.Memory.{Memory, TablesHold, ListedFrom}
use Rattle.rows.specs.Laid.{spot_unit, mapped, arc_word, pair_word, home_of_arc, pair_home, LaidIn}
use Rattle.rows.proofs.Bounds.{bearing, sharing}
use Rattle.rows.proofs.Given.{given_rows}
use Rattle.rows.proofs.Numbered.{arcs_count, bears_count, shares_count}
use Rattle.rows.proofs.Columns.{Numbers, numbers_some, numbers_below, numbers_in, in_numbers, listed_at, numbered_at, Column}
use Rattle.rows.proofs.Columns.{arc_column, atom_column, tie_column, row_sourced, row_given, given_row, Fine, flattened_fine}

-- ---- a table's rows, one by one
-- the table has these rows in this order
pub record Reads {X : Type 0} (size : ℕ) (home : ℕ → ℕ) (cell : ℕ → X) (rows : List (ℕ × X)) : Type 0 where
  pub long : length rows ≡ size
  pub row : (i : ℕ) (p : ℕ × X) → Numbers rows i p → (home i ≡ p.0) × (cell i ≡ p.1)

module _ {X : Type 0} (kind : Sheet → List X) (rows : List Item → List (ℕ × X)) (column : Column kind rows)
    (size : ℕ) (home : ℕ → ℕ) (cell : ℕ → X) (L : List Item) (reads : Reads size home cell (rows L)) where
  -- the row with a number
  row_at : (i : ℕ) → i < size → (p : ℕ × X) × Numbers (rows L) i p
  row_at i b = let z = reads.long in numbers_some (rows L) i (omega (arith, z, b))

  -- it is given to its home
  cell_in : (i : ℕ) → i < size → Memᴰ (cell i) (kind (given_to (home i) L))
  cell_in i b =
      let r = row_at i b in
      let e = reads.row i r.0 r.1 in
      Memᴰ.cast e.1 (subst (λ (j : ℕ). Memᴰ r.0.1 (kind (given_to j L))) (sym e.0)
      (row_given kind rows column L r.0 (numbers_in (rows L) i r.0 r.1)))

  -- and all that is given to an alternative is one
  pub cell_of : (j : ℕ) (x : X) → Memᴰ x (kind (given_to j L)) → (i : ℕ) × (i < size) × (home i ≡ j) × (x ≡ cell i)
  cell_of j x m =
      let r = in_numbers (j, x) (rows L) (given_row kind rows column L j x m) in
      let z = reads.long in
      let b = numbers_below (rows L) r.0 (j, x) r.1 in
      let e = reads.row r.0 (j, x) r.1 in
      (r.0, omega (arith, z, b), e.0, sym e.1)

  -- homes are those of items
  home_below : (c u : ℕ) → ((x : Item) → Memᴰ x L → Fine c u x) → (i : ℕ) → i < size → home i < c
  home_below c u fine i b =
      let r = row_at i b in
      let e = (reads.row i r.0 r.1).0 in
      let s = row_sourced kind rows column L r.0 (numbers_in (rows L) i r.0 r.1) in
      let d = s.2 in
      let f = (fine s.0 s.1).home in
      omega (arith, e, d, f)

-- a word is parted into its two numbers
parted_word : (x a b : ℕ) → x ≡ a + spot_unit * b → a < spot_unit → parted x ≡ (a, b)
parted_word x a b e l =
    let p : x % 2048 ≡ a = omega arith in
    let q : x / 2048 ≡ b = omega arith in
    λ i. (p i, q i)

-- two words are a row
half : (x a b : ℕ) → x ≡ 2 * a → b ≡ a → b ≡ x / 2
half x a b e f = omega arith

-- a table of pairs has the rows that its columns list
pairs_read : (ws : List ℕ) (size : ℕ) (g h : ℕ → ℕ) (rows : List (ℕ × (ℕ × ℕ))) → length ws ≡ 2 * size → length rows ≡ size →
    ((i : ℕ) → get_or ws (2 * i) 0 ≡ g i) → ((i : ℕ) → get_or ws (2 * i + 1) 0 ≡ h i) → ListedFrom g 0 (mapped pair_word rows) →
    ListedFrom h 0 (mapped pair_home rows) → ((p : ℕ × (ℕ × ℕ)) → Memᴰ p rows → p.1.0 < spot_unit) →
    Reads (length ws / 2) (λ i. get_or ws (2 * i + 1) 0) (λ i. parted (get_or ws (2 * i) 0)) rows
pairs_read ws size g h rows d e word home words homes low = record {
  long = half (length ws) size (length rows) d e;
  row = λ i p n.
      let o : 0 + i ≡ i = omega arith in (
        home i ∙ ap h (sym o) ∙ listed_at h pair_home 0 rows i p homes n,
        parted_word (get_or ws (2 * i) 0) p.1.0 p.1.1 (word i ∙ ap g (sym o) ∙ listed_at g pair_word 0 rows i p words n)
            (low p (numbers_in rows i p n)),
      );
}

module _ (rs bs ts ks fs : List ℕ) (M : Memory) (φ : Formula) (hold : TablesHold rs bs ts ks fs M) (l : LaidIn M φ) where
  abbrev T : Tables
  T = tables rs bs ts ks

  abbrev L : List Item
  L = flattened φ

  -- the number of arcs
  arcs_long : length (rows_of L).arcs ≡ count φ
  arcs_long = subst (λ (y : Out). length y.arcs ≡ count φ) (given_rows 1 1 0 0 0 φ) (arcs_count 1 1 0 0 0 φ)

  -- of atoms
  atoms_long : length (rows_of L).bears ≡ bearing φ
  atoms_long = subst (λ (y : Out). length y.bears ≡ bearing φ) (given_rows 1 1 0 0 0 φ) (bears_count 1 1 0 0 0 φ)

  -- of ties
  ties_long : length (rows_of L).shares ≡ sharing φ
  ties_long = subst (λ (y : Out). length y.shares ≡ sharing φ) (given_rows 1 1 0 0 0 φ) (shares_count 1 1 0 0 0 φ)

  -- an arc's word has its parent and its feature
  arc_is : (i : ℕ) (e : ℕ × Edge) → Numbers (rows_of L).arcs i e → T.arc i ≡ (e.1.0, e.1.1)
  arc_is i e n =
      let few = l.few_spots in
      let z = arcs_long in
      let b = numbers_below (rows_of L).arcs i e n in
      let low = (numbered_at 1 (rows_of L).arcs i e l.numbered n).1 in
      let o : 0 + i ≡ i = omega arith in
      parted_word (get_or rs (2 * i) 0) e.1.0 e.1.1
      (hold.arcs i ∙ ap (M 0) (sym o) ∙ listed_at (M 0) arc_word 0 (rows_of L).arcs i e l.arcs n)
      (omega (arith, few, z, b, low))

  -- its parent is lower
  pub arc_low : (i : ℕ) → i < count φ → (T.arc i).0 ≤ i
  arc_low i b =
      let z = arcs_long in
      let r = numbers_some (rows_of L).arcs i (omega (arith, z, b)) in
      let low = (numbered_at 1 (rows_of L).arcs i r.0 l.numbered r.1).1 in
      let e = ap (λ (p : ℕ × ℕ). p.0) (arc_is i r.0 r.1) in
      omega (arith, low, e)

  -- the table has the arcs
  module _ (long : length rs ≡ 2 * count φ) where
    pub read_arcs : Reads T.arcs T.arc_home (edge T) (rows_of L).arcs
    read_arcs = record {
      long = half (length rs) (count φ) (length (rows_of L).arcs) long arcs_long;
      row = λ i e n.
          let o : 0 + i ≡ i = omega arith in
          let p = arc_is i e n in
          let q = (numbered_at 1 (rows_of L).arcs i e l.numbered n).0 in
          let w : suc i ≡ e.1.2 = omega (arith, q) in (
            hold.arc_homes i ∙ ap (M 1) (sym o) ∙ listed_at (M 1) home_of_arc 0 (rows_of L).arcs i e l.homes n,
            λ j. ((p j).0, (p j).1, w j),
          );
    }

  -- the spots of atoms are small
  bearer_low : (p : ℕ × (ℕ × ℕ)) → Memᴰ p (rows_of L).bears → p.1.0 < spot_unit
  bearer_low p m =
      let s = row_sourced (λ A. A.atoms) (λ K. (rows_of K).bears) atom_column L p m in
      let b = (flattened_fine φ s.0 s.1).bearers p.1 s.3 in
      let few = l.few_spots in
      omega (arith, b, few)

  -- and the first of each tie
  sharer_low : (p : ℕ × (ℕ × ℕ)) → Memᴰ p (rows_of L).shares → p.1.0 < spot_unit
  sharer_low p m =
      let s = row_sourced (λ A. A.ties) (λ K. (rows_of K).shares) tie_column L p m in
      let b = (flattened_fine φ s.0 s.1).sharers p.1 s.3 in
      let few = l.few_spots in
      omega (arith, b, few)

  -- the table has the atoms
  read_atoms : length bs ≡ 2 * bearing φ → Reads T.atoms T.atom_home T.atom (rows_of L).bears
  read_atoms d = pairs_read bs (bearing φ) (M 2) (M 3) (rows_of L).bears d atoms_long hold.atoms hold.atom_homes l.atoms
      l.atom_homes bearer_low

  -- and the ties
  read_ties : length ts ≡ 2 * sharing φ → Reads T.ties T.tie_home T.tie (rows_of L).shares
  read_ties d = pairs_read ts (sharing φ) (M 4) (M 5) (rows_of L).shares d ties_long hold.ties hold.tie_homes l.ties
      l.tie_homes sharer_low

-- the tables of a formula that is laid out are those of its list, and small
pub laid_fit : (rs bs ts ks fs : List ℕ) (M : Memory) (φ : Formula) → TablesHold rs bs ts ks fs M → LaidIn M φ →
    length rs ≡ 2 * count φ → length bs ≡ 2 * bearing φ → length ts ≡ 2 * sharing φ →
    TablesFit (tables rs bs ts ks) (flattened φ) (suc (width φ))
laid_fit rs bs ts ks fs M φ hold l d e f =
    let T : Tables = tables rs bs ts ks in
    let K = flattened φ in
    let arcs = read_arcs rs bs ts ks fs M φ hold l d in
    let atoms = read_atoms rs bs ts ks fs M φ hold l e in
    let ties = read_ties rs bs ts ks fs M φ hold l f in
    let few = l.few_spots in
    let few-a = l.few_atoms in
    let few-t = l.few_ties in
    let long-a = atoms.long in
    let long-t = ties.long in
    record {
      tabled = record {
        low = λ i b. arc_low rs bs ts ks fs M φ hold l i (omega (arith, b, d));
        arc_in = cell_in (λ A. A.edges) (λ L. (rows_of L).arcs) arc_column T.arcs T.arc_home (edge T) K arcs;
        arc_of = cell_of (λ A. A.edges) (λ L. (rows_of L).arcs) arc_column T.arcs T.arc_home (edge T) K arcs;
        atom_in = cell_in (λ A. A.atoms) (λ L. (rows_of L).bears) atom_column T.atoms T.atom_home T.atom K atoms;
        atom_of = cell_of (λ A. A.atoms) (λ L. (rows_of L).bears) atom_column T.atoms T.atom_home T.atom K atoms;
        tie_in = cell_in (λ A. A.ties) (λ L. (rows_of L).shares) tie_column T.ties T.tie_home T.tie K ties;
        tie_of = cell_of (λ A. A.ties) (λ L. (rows_of L).shares) tie_column T.ties T.tie_home T.tie K ties;
      };
      few_arcs = omega (arith, few, d);
      few_atoms = omega (arith, few-a, long-a);
      few_ties = omega (arith, few-t, long-t);
      arc_homes = home_below (λ A. A.edges) (λ L. (rows_of L).arcs) arc_column T.arcs T.arc_home (edge T) K arcs
          (suc (width φ)) (suc (count φ)) (flattened_fine φ);
      atom_homes = home_below (λ A. A.atoms) (λ L. (rows_of L).bears) atom_column T.atoms T.atom_home T.atom K atoms
          (suc (width φ)) (suc (count φ)) (flattened_fine φ);
      tie_homes = home_below (λ A. A.ties) (λ L. (rows_of L).shares) tie_column T.ties T.tie_home T.tie K ties
          (suc (width φ)) (suc (count φ)) (flattened_fine φ);
    }
