-- The number and the data of a cause.
-- Assumes nothing: these are definitions.
use Rattle.std.specs.Prelude.{ℕ}
use Rattle.roles.specs.Faults.{Cause, words_end, words_left_over, no_nodes, bad_head, bad_feature, bad_target, not_met}
use Rattle.roles.specs.Faults.{few_alternatives, too_deep}

-- the causes by number, in that order; "each carries its cause with the cause's own data"
abbrev pub cause_number : Cause → ℕ
cause_number words_end = 1
cause_number words_left_over = 2
cause_number no_nodes = 3
cause_number (bad_head w) = 4
cause_number bad_feature = 5
cause_number (bad_target w) = 6
cause_number not_met = 7
cause_number few_alternatives = 8
cause_number too_deep = 9

abbrev pub cause_data : Cause → ℕ
cause_data words_end = 0
cause_data words_left_over = 0
cause_data no_nodes = 0
cause_data (bad_head w) = w
cause_data bad_feature = 0
cause_data (bad_target w) = w
cause_data not_met = 0
cause_data few_alternatives = 0
cause_data too_deep = 0
