-- Both inputs in the working area: what stands there once they are loaded, and what their opening comes to.
-- Assumes nothing: these are definitions.
use Rattle.std.specs.Prelude.{ℕ, ◌+◌, ◌*◌, ◌≤◌, ◌≡◌, List, [], ◌∷◌, length, get_or, Option, Some, None}
use Rattle.theory.specs.Limits.{input_limit, depth_limit}
use Rattle.theory.specs.Net.{Clash}
use Rattle.theory.specs.Descr.{Desc, desc}
use Rattle.theory.specs.Layout.{words, WellFormed}
use Rattle.theory.specs.LayoutOne.{Image}
use Rattle.layout.specs.Standing.{Stands}
use Rattle.loading.specs.Entry.{Entry}
use Rattle.loading.specs.Loaded.{nodes_in, input_loaded}
use Rattle.area.specs.Map.{SECOND, WORDS, MARKS, SIZE, LOADED}
use Rattle.area.specs.Region.{region}
use Rattle.classes.specs.Holds.{Holds, Undoable}
use Rattle.opening.specs.declared.Opened.{Opened}

-- two inputs that are well formed and not too long
pub record Acceptable (a b : List ℕ) : Type 0 where
  pub first : Image a
  pub second : Image b
  pub first_few : length a ≤ input_limit
  pub second_few : length b ≤ input_limit

-- what loading both asks: room for them
pub record Pairing (t a b : List ℕ) : Type 0 where
  pub room : 2 * input_limit ≤ length t
  pub inputs : Acceptable a b

-- two inputs are the words of two well-formed descriptions
pub record Read (a b : List ℕ) (d e : Desc) : Type 0 where
  pub first_well : WellFormed d depth_limit
  pub second_well : WellFormed e depth_limit
  pub first_is : a ≡ words d
  pub second_is : b ≡ words e

-- the descriptions d and e stand loaded in the words t, and have n nodes together
pub record Stand (t : List ℕ) (d e : Desc) (n : ℕ) : Type 0 where
  pub count : n ≡ nodes_in d + nodes_in e
  pub first : Stands t 0 (input_loaded 0 0 d) (length (words d))
  pub second : Stands t SECOND (input_loaded SECOND (nodes_in d) e) (SECOND + length (words e))

pub record Paired (t a b : List ℕ) (n : ℕ) (t' : List ℕ) : Type 0 where
  pub len : length t' ≡ length t
  pub stand : (d e : Desc) → Read a b d e → Stand t' d e n

-- what opening asks: an area, and two inputs
pub record Opening (w a b : List ℕ) : Type 0 where
  pub long : SIZE ≤ length w
  pub inputs : Acceptable a b

-- the entry of a definite graph at p, whose node 0 has the number n
abbrev pub definite : ℕ → ℕ → Desc → Entry
definite p n (desc g ds) = record { at = p; number = n; graph = g }

-- "0, join. The graph is the join of both definite graphs (a clash there is a clash in all modes).": both are pushed and can be taken
-- back, or they clash
abbrev pub OpenedAs : List ℕ → Desc → Desc → Option Opened → Type 0
OpenedAs w d e (Some o) = Stand (region WORDS LOADED w) d e o.nodes.count
    × Holds o.nodes.count (definite 0 0 d ∷ definite SECOND (nodes_in d) e ∷ []) o.log w × Undoable o.nodes.count o.log w
OpenedAs w (desc g ds) (desc h es) None = Clash (g ∷ h ∷ [])

pub record Opens (w a b : List ℕ) (r : Option Opened) (w' : List ℕ) : Type 0 where
  pub len : length w' ≡ length w
  pub rest : (j : ℕ) → MARKS ≤ j → get_or w' j 0 ≡ get_or w j 0
  pub stands : (d e : Desc) → Read a b d e → (n : ℕ) × Stand (region WORDS LOADED w') d e n
  pub told : (d e : Desc) → Read a b d e → OpenedAs w' d e r
