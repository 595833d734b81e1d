-- What could stand where a word breaks a rule, as one number.
-- Assumes nothing: these are definitions.
use Rattle.std.specs.Prelude.{◌≡◌, true, false, List, ℕ, ◌-◌, ltb}
use Rattle.roles.specs.Faults.{Cause, words_end, words_left_over, no_nodes, bad_head, bad_feature, bad_target, not_met}
use Rattle.roles.specs.Faults.{few_alternatives, too_deep, Role, node_count, node_head, arc_feature, arc_target, disjunction_count}
use Rattle.roles.specs.Faults.{alternative_count, the_end, role, expected_at, Faulty}

-- what was to come where words end
abbrev pub kind : Role → ℕ
kind node_count = 1
kind (node_head n i m) = 2
kind (arc_feature n i m k b) = 3
kind (arc_target n i m k b) = 4
kind disjunction_count = 5
kind (alternative_count d) = 6
kind the_end = 0

-- "a target is either a number already met or the next unused one, and below the node count"
abbrev pub greatest_target : (n m : ℕ) → ℕ
greatest_target n m = elim (ltb m n) [ true ↦ m | false ↦ n - 1 ]

-- the node of a head, the least feature, the greatest target
abbrev pub bound : Role → ℕ
bound node_count = 0
bound (node_head n i m) = i
bound (arc_feature n i m k b) = b
bound (arc_target n i m k b) = greatest_target n m
bound disjunction_count = 0
bound (alternative_count d) = 0
bound the_end = 0

abbrev pub hint : Cause → Role → ℕ
hint words_end r = kind r
hint words_left_over r = 0
hint no_nodes r = 0
hint (bad_head w) r = 0
hint bad_feature r = bound r
hint (bad_target w) r = bound r
hint not_met r = bound r
hint few_alternatives r = 0
hint too_deep r = 0

-- of words that have a fault
abbrev pub Hinted : List ℕ → ℕ → Type 0
Hinted ws h = (c : Cause) (p : ℕ) → Faulty ws c p → h ≡ hint c (role (expected_at ws p))
