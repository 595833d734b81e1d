-- What words break of document 01's section "Word layout", and which word decides, as request Two has it.
-- Assumes nothing: these are definitions.
use Rattle.std.specs.Prelude.{◌≡◌, ◌⊎◌, ◌≢◌, Bool, true, false, List, [], ◌∷◌, ℕ, zero, suc, ◌+◌, ◌-◌, ◌<◌, max, length, take, get_or, eqb, ltb, leb}
use Rattle.std.proofs.Math.Option.{Option, none, some}
use Rattle.theory.specs.Limits.{code_limit, depth_limit}

-- "words end, words left over, no nodes, bad head and its value, feature out of range or not rising, target out of turn and that target,
-- node not yet met, fewer than two alternatives, nested too deep"
pub data Cause : Type 0 where
  words_end : Cause
  words_left_over : Cause
  no_nodes : Cause
  bad_head : ℕ → Cause
  bad_feature : Cause
  bad_target : ℕ → Cause
  not_met : Cause
  few_alternatives : Cause
  too_deep : Cause

-- what a word has to be
pub data Role : Type 0 where
  node_count : Role
  -- of node i of n, where the nodes below m are met
  node_head : (n i m : ℕ) → Role
  -- of an arc of that node: k arcs follow it, and features from b on may stand here
  arc_feature : (n i m k b : ℕ) → Role
  -- of such an arc, after which features from b on may stand
  arc_target : (n i m k b : ℕ) → Role
  disjunction_count : Role
  -- of a disjunction that d others follow
  alternative_count : (d : ℕ) → Role
  the_end : Role

-- the open alternatives, the innermost first; of each, how many alternatives follow it and how many disjunctions follow its disjunction
abbrev pub Nesting : Type 0
Nesting = List (ℕ × ℕ)

-- what the words before determine; how deep alternatives are nested is the length of the second part
pub data Expected : Type 0 where
  expect : Role → Nesting → Expected

abbrev pub role : Expected → Role
role (expect r s) = r

-- a test that breaks a rule, then the others
abbrev pub broken_if : Bool → Cause → Option Cause → Option Cause
broken_if true c o = some c
broken_if false c o = o

-- "Alternatives may be nested at most 4 deep": told "at the number of disjunctions"
abbrev pub breaks_depth : Nesting → ℕ → Option Cause
breaks_depth s zero = none
breaks_depth s (suc d) = broken_if (leb depth_limit (length s)) too_deep none

-- The rule that a word breaks "by itself or with the words before it": "node count (at least 1)"; "each node has been met before its own
-- head is read", which "shows at its own head, before a bad head"; "feature 0..65,535", "Features rise strictly within a node"; "a target
-- is either a number already met or the next unused one, and below the node count"; "number of alternatives (at least 2)"
abbrev pub breaks : Expected → ℕ → Option Cause
breaks (expect node_count s) w = broken_if (eqb w 0) no_nodes none
breaks (expect (node_head n i m) s) w = broken_if (leb m i) not_met (broken_if (leb (code_limit + code_limit) w) (bad_head w) none)
breaks (expect (arc_feature n i m k b) s) w = broken_if (ltb w b) bad_feature (broken_if (leb code_limit w) bad_feature none)
breaks (expect (arc_target n i m k b) s) w = broken_if (ltb m w) (bad_target w) (broken_if (leb n w) (bad_target w) none)
breaks (expect disjunction_count s) w = breaks_depth s w
breaks (expect (alternative_count d) s) w = broken_if (ltb w 2) few_alternatives none
breaks (expect the_end s) w = some words_left_over

-- "each node in order": after node i the next one, or what follows the graph
abbrev pub next_node : (n i m : ℕ) → Role
next_node n i m = elim (ltb (suc i) n) [ true ↦ node_head n (suc i) m | false ↦ disjunction_count ]

-- "a head, then its arcs": k more of them, their features from b on
abbrev pub next_arc : (n i m k b : ℕ) → Role
next_arc n i m zero b = next_node n i m
next_arc n i m (suc k) b = arc_feature n i m k b

-- "Head 0..65,535 is the number of arcs; head 65,536..131,071 is the atom numbered head - 65,536, with no arcs."
abbrev pub after_head : (n i m w : ℕ) → Role
after_head n i m w = elim (ltb w code_limit) [ true ↦ next_arc n i m w 0 | false ↦ next_node n i m ]

-- a description is complete: the next alternative, or the next disjunction; else that description is complete in which its disjunction
-- was the last
abbrev pub completed : Nesting → Expected
completed [] = expect the_end []
completed ((suc a, d) ∷ s) = expect node_count ((a, d) ∷ s)
completed ((zero, suc d) ∷ s) = expect (alternative_count d) s
completed ((zero, zero) ∷ s) = completed s

-- so many disjunctions more
abbrev pub disjunctions_from : ℕ → Nesting → Expected
disjunctions_from zero s = completed s
disjunctions_from (suc d) s = expect (alternative_count d) s

-- what is expected after a word that breaks no rule; "0 counts as met"
abbrev pub expected_after : Expected → ℕ → Expected
expected_after (expect node_count s) w = expect (node_head w 0 1) s
expected_after (expect (node_head n i m) s) w = expect (after_head n i m w) s
expected_after (expect (arc_feature n i m k b) s) w = expect (arc_target n i m k (suc w)) s
expected_after (expect (arc_target n i m k b) s) w = expect (next_arc n i (max m (suc w)) k b) s
expected_after (expect disjunction_count s) w = disjunctions_from w s
expected_after (expect (alternative_count d) s) w = expect node_count ((w - 1, d) ∷ s)
expected_after (expect the_end s) w = expect the_end s

-- after several words
abbrev pub expected_from : Expected → List ℕ → Expected
expected_from e [] = e
expected_from e (w ∷ ws) = expected_from (expected_after e w) ws

-- what word p has to be
abbrev pub expected_at : List ℕ → ℕ → Expected
expected_at ws p = expected_from (expect node_count []) (take p ws)

-- "The first word, in reading order, that breaks a rule by itself or with the words before it decides"; words that end too early break
-- one at their length
pub record Faulty (ws : List ℕ) (c : Cause) (p : ℕ) : Type 0 where
  pub before : (i : ℕ) → i < p → breaks (expected_at ws i) (get_or ws i 0) ≡ none
  pub here : ((p < length ws) × (breaks (expected_at ws p) (get_or ws p 0) ≡ some c))
      ⊎ ((p ≡ length ws) × (role (expected_at ws p) ≢ the_end) × (c ≡ words_end))
