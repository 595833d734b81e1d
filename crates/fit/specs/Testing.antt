-- Testing what stands in words against a structure: one promise for each kind of thing that words stand for.
-- Assumes nothing: these are definitions.
use Rattle.std.specs.Prelude.{ℕ, ◌-◌, ◌≤◌, ◌<◌, ◌≡◌, List, length, Bool, true, false, Option, Some, None}
use Rattle.theory.specs.Limits.{depth_limit, input_limit}
use Rattle.theory.specs.Net.{Graph, graph, Canonical}
use Rattle.theory.specs.Descr.{Desc, Alts, alts}
use Rattle.theory.specs.Layout.{words, alts_words, GraphFits, WellFormed, WellAny}
use Rattle.theory.specs.LayoutOne.{Image}
use Rattle.theory.specs.FitTest.{Map, Fits, FitsAny}
use Rattle.layout.specs.Standing.{Stands, graph_words, disjunction_words}
use Rattle.fit.specs.Parts.{graphIn}
use Rattle.fit.specs.Sending.{Notable}

-- a kind of thing: when it may come, its words, and when the structure satisfies it
pub record Subject : Type 1 where
  pub Thing : Type 0
  pub Fine : Thing → Type 0
  pub text : Thing → List ℕ
  pub Holds : Thing → Type 0

-- "A structure satisfies a description when it satisfies its graph and, for each disjunction, at least one alternative."
module _ (H : Graph) where
  abbrev pub graph_subject : Subject
  graph_subject = record {
    Thing = Graph;
    Fine = λ g. Canonical g
        × GraphFits g;
    text = graph_words;
    Holds = λ g. Map (graph g) (graph H);
  }

  -- under which alternatives nest at most `left` deep
  module _ (left : ℕ) where
    abbrev pub description_subject : Subject
    description_subject = record { Thing = Desc; Fine = λ d. (left ≤ depth_limit) × WellFormed d left; text = words; Holds = Fits H }

    -- its own alternatives are one of the `left` levels
    abbrev pub disjunction_subject : Subject
    disjunction_subject = record {
      Thing = Alts;
      Fine = λ a. (0 < left) × (left ≤ depth_limit) × WellAny a (left - 1);
      text = disjunction_words;
      Holds = FitsAny H;
    }

-- a thing of the kind stands at p
abbrev pub Testable : Subject → List ℕ → ℕ → Type 0
Testable K ws p = (length ws ≤ input_limit) × ((x : K.Thing) × (q : ℕ) × K.Fine x × Stands ws p (K.text x) q)

-- what an answer says of a thing that ends at q
abbrev pub Decides : Type 0 → ℕ → Option ℕ → Type 0
Decides X q (Some r) = (r ≡ q) × X
Decides X q None = ¬ X

-- and of whatever thing of the kind stands at p
abbrev pub Answers : Subject → List ℕ → ℕ → Option ℕ → Type 0
Answers K ws p r = (x : K.Thing) (q : ℕ) → K.Fine x → Stands ws p (K.text x) q → Decides (K.Holds x) q r

-- the k alternatives that stand at p end at r
abbrev pub Skips : List ℕ → ℕ → ℕ → ℕ → Type 0
Skips ws p k r = (a : Alts) (left q : ℕ) → alts a ≡ k → left ≤ depth_limit → WellAny a left → Stands ws p (alts_words a) q →
    r ≡ q

pub record TestAsked (s ws : List ℕ) : Type 0 where
  pub structure : Notable s
  pub few : length ws ≤ input_limit
  pub image : Image ws

-- what a verdict says
abbrev pub Says : Type 0 → Bool → Type 0
Says X true = X
Says X false = ¬ X

abbrev pub Tested : List ℕ → List ℕ → Bool → Type 0
Tested s ws r = (d : Desc) → WellFormed d depth_limit → ws ≡ words d → Says (Fits (graphIn s 0) d) r
