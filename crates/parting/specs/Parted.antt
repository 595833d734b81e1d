-- One definite part among the tables, and what it comes to.
-- Assumes nothing: these are definitions.
use Rattle.std.specs.Prelude.{ℕ, ◌/◌, ◌<◌, ◌≤◌, ◌≡◌, ◌⊎◌, Result, Ok, Err, length, get_or}
use Rattle.std.proofs.Math.Option.{Option, none, some}
use mathlib.Core.List.{List, Memᴰ}
use Rattle.theory.specs.Net.{Graph}
use Rattle.theory.specs.Join.{Edge}
use Rattle.layout.specs.Standing.{Stands, graph_words}
use Rattle.formulas.specs.Sheet.{Sheet, Sound, sheet_graph}
use Rattle.formulas.specs.Flat.{Item}
use Rattle.formulas.specs.Tables.{Tables, tables, edge, Trail, TablesFit}
use Rattle.closing.specs.Rows.{in_edges}
use Rattle.closing.specs.Chains.{Arcs}
use Rattle.sheets.specs.declared.drawing.Undrawn.{Undrawn}
use Rattle.sheets.specs.declared.drawing.Undrawn.TheVariants.{Clash, Long}
use Rattle.parting.specs.Gathered.{Members, row_in, home_in}
use Rattle.parting.specs.declared.tables.Tables as declared

-- the tables that are handed on
abbrev pub tables_of : declared.Tables → Tables
tables_of t = tables t.arcs.now t.atoms.now t.ties.now t.alts.now

-- the sheet A has the arcs from the root to the spot of k, and the rows that have come to k
pub record Part (T : Tables) (hm : List ℕ) (k : ℕ) (A : Sheet) : Type 0 where
  pub trail : List Edge
  pub trails : Trail T (T.spot k) trail
  pub on_trail : (e : Edge) → Memᴰ e trail → Memᴰ e A.edges
  pub arc_in : (i : ℕ) → i < T.arcs → get_or hm (T.arc_home i) 0 ≡ k → Memᴰ (edge T i) A.edges
  pub arc_of : (e : Edge) → Memᴰ e A.edges →
      Memᴰ e trail ⊎ ((i : ℕ) × (i < T.arcs) × (get_or hm (T.arc_home i) 0 ≡ k) × (e ≡ edge T i))
  pub atoms : Members hm k T.atoms T.atom_home T.atom A.atoms
  pub ties : Members hm k T.ties T.tie_home T.tie A.ties

-- what is asked: the tables are those of a formula, and the part of k is a sheet that is sound
pub record Parting (T : Tables) (hm : List ℕ) (k : ℕ) : Type 0 where
  pub L : List Item
  pub fit : TablesFit T L (length hm)
  pub A : Sheet
  pub sound : Sound A
  pub part : Part T hm k A

-- the graph of a part in words, unless it clashes or is longer than the room for it
abbrev pub Drawn_as : Option Graph → Result ℕ Undrawn → List ℕ → Type 0
Drawn_as none r out = r ≡ Err Clash
Drawn_as (some g) r out =
    ((r ≡ Err Long) × (length out < length (graph_words g)))
    ⊎ ((r ≡ Ok (length (graph_words g))) × Stands out 0 (graph_words g) (length (graph_words g)))

-- what is promised
abbrev pub PartDrawn : (T : Tables) (hm : List ℕ) (k : ℕ) (out : List ℕ) (r : Result ℕ Undrawn) (out' : List ℕ) → Type 0
PartDrawn T hm k out r out' = (length out' ≡ length out)
    × ((A : Sheet) → Sound A → Part T hm k A → Drawn_as (sheet_graph A) r out')

-- ---- a part whose arcs are gathered
-- the sheet A has these arcs, and the atoms and ties that have come to k
pub record Half_part (arcs ends atoms ties hm : List ℕ) (k : ℕ) (A : Sheet) : Type 0 where
  pub arc_in : (e : Edge) → Memᴰ e (in_edges arcs ends) → Memᴰ e A.edges
  pub arc_of : (e : Edge) → Memᴰ e A.edges → Memᴰ e (in_edges arcs ends)
  pub atoms_are : Members hm k (length atoms / 2) (home_in atoms) (row_in atoms) A.atoms
  pub ties_are : Members hm k (length ties / 2) (home_in ties) (row_in ties) A.ties

pub record HalfParting (arcs ends atoms ties hm : List ℕ) (k : ℕ) : Type 0 where
  pub A : Sheet
  pub sound : Sound A
  pub part : Half_part arcs ends atoms ties hm k A
  pub rows : Arcs arcs ends
  pub few_atoms : length atoms / 2 ≤ 4096
  pub few_ties : length ties / 2 ≤ 4096
  pub atom_homes : (i : ℕ) → i < length atoms / 2 → home_in atoms i < length hm
  pub tie_homes : (i : ℕ) → i < length ties / 2 → home_in ties i < length hm

pub record HalfParts (arcs ends atoms ties hm : List ℕ) (k : ℕ) (out : List ℕ) (r : Result ℕ Undrawn) (out' : List ℕ) : Type 0 where
  pub same : length out' ≡ length out
  pub drawn : (A : Sheet) → Sound A → Half_part arcs ends atoms ties hm k A → Drawn_as (sheet_graph A) r out'
