-- What a mode makes of two inputs that are accepted, before the result area is looked at.
-- Assumes nothing: these are definitions.
use Rattle.std.specs.Prelude.{Result, Ok, Err, ℕ, ◌+◌, ◌≤◌, ◌≡◌, List, length, get_or}
use Rattle.std.proofs.Math.Option.{none, some}
use Rattle.theory.specs.Descr.{Desc, definite_graph}
use Rattle.theory.specs.ClashNode.{ClashNode}
use Rattle.theory.specs.Layout.{words}
use Rattle.theory.specs.Answer.{consistent}
use Rattle.theory.specs.Rules as rules
use Rattle.theory.specs.Rules.{mode_result, mode_readings, Clashes}
use Rattle.layout.specs.Standing.{Stands}
use Rattle.theory.specs.Modes.{joined, quick}
use Rattle.engine.specs.Marks.{all_kept}
use Rattle.engine.specs.Quickly.{Leaves}
use Rattle.area.specs.Map.{RESULT, SIZE}
use Rattle.area.specs.Region as area
use Rattle.area.specs.declared.map.Nodes.{Nodes}
use Rattle.marks.specs.Marked.{marking}
use Rattle.opening.specs.Opening.{Read}
use Rattle.opening.specs.declared.Opened.{Opened}
use Rattle.entering.specs.Stage.{Pair, Stage}
use Rattle.answering.specs.declared.hand.Failure.{Failure}
use Rattle.answering.specs.declared.hand.Failure.TheVariants.{Clash, QuickFails, TooMany, NoChoice}
use Rattle.answering.specs.Answer.{Made}

-- "6 definite graphs clash, with the node"
abbrev pub DefiniteClash : Desc → Desc → ℕ → Type 0
DefiniteClash d e i = (joined d e ≡ none) × ClashNode (definite_graph d) (definite_graph e) i

-- both inputs are opened, with n nodes and k entries in the log
abbrev pub begun : Nodes → ℕ → Opened
begun n k = record { nodes = n; log = k }

-- "0, join. The graph is the join of both definite graphs (a clash there is a clash in all modes).": both stand loaded with all
-- alternatives kept, or they clash, at a node: "Joining two graphs shall tell the smallest node …. Unification passes it on"
abbrev pub Begun : Desc → Desc → List ℕ → Result Opened Failure → Type 0
Begun d e w (Ok o) = (p : Pair o.nodes.count (area.loaded_words w)) × (p.d ≡ d) × (p.e ≡ e)
    × Stage o.nodes.count (area.loaded_words w) p o.log w × (marking w ≡ all_kept)
Begun d e w (Err f) = (i : ℕ) × (f ≡ Clash i) × DefiniteClash d e i

pub record Begins (w a b : List ℕ) (r : Result Opened Failure) (w' : List ℕ) : Type 0 where
  pub len : length w' ≡ length w
  pub rest : (j : ℕ) → RESULT ≤ j → get_or w' j 0 ≡ get_or w j 0
  pub told : (d e : Desc) → Read a b d e → Begun d e w' r

-- "6 definite graphs clash, with the node; 10 the quick step failed; 11 no consistent choice", "7 | mode 2, quick step did not fail, its
-- result has over 4,096 choices"; and else the mode's result, whose words stand in the area
abbrev pub Meant : ℕ → Desc → Desc → List ℕ → Made → Type 0
Meant mode d e w (Err (Clash i)) = DefiniteClash d e i
Meant mode d e w (Err QuickFails) = ¬ (joined d e ≡ none) × (1 ≤ mode) × (quick d e ≡ none)
Meant mode d e w (Err TooMany) = ¬ (Clashes mode d e) × rules.TooMany mode d e
Meant mode d e w (Err NoChoice) = ¬ (Clashes mode d e) × ¬ (rules.TooMany mode d e) × (mode ≡ 2) × (consistent d e ≡ 0)
Meant mode d e w (Ok u) = ¬ (Clashes mode d e) × ¬ (rules.TooMany mode d e) × (s : Desc) × (mode_result mode d e ≡ some s)
    × (u.length ≡ length (words s)) × (u.readings ≡ mode_readings mode d e) × Stands w RESULT (words s) (RESULT + u.length)

-- the words from 16,384 on stay as they were
pub record Makes (mode : ℕ) (w a b : List ℕ) (r : Made) (w' : List ℕ) : Type 0 where
  pub len : length w' ≡ length w
  pub rest : (j : ℕ) → SIZE ≤ j → get_or w' j 0 ≡ get_or w j 0
  pub told : (d e : Desc) → Read a b d e → Meant mode d e w' r

-- the full step asks for what the quick step leaves
pub record Completing (n k : ℕ) (w : List ℕ) : Type 0 where
  pub t : List ℕ
  pub p : Pair n t
  pub stage : Stage n t p k w
  pub left : Leaves p.j (marking w)

pub record Completes (n k : ℕ) (w : List ℕ) (r : Made) (w' : List ℕ) : Type 0 where
  pub len : length w' ≡ length w
  pub rest : (j : ℕ) → SIZE ≤ j → get_or w' j 0 ≡ get_or w j 0
  pub told : (t : List ℕ) (p : Pair n t) → Stage n t p k w → Leaves p.j (marking w) → Meant 2 p.d p.e w' r
