-- What the values of the code stand for: causes, what is broken, and roles.
-- Assumes nothing: these are definitions.
use Rattle.std.specs.Prelude.{Option, Some, None}
use Rattle.std.proofs.Math.Option as M
use Rattle.std.proofs.Math.Option.{none, some}
use Rattle.roles.specs.Faults as F
use Rattle.roles.specs.Faults.{words_end, words_left_over, no_nodes, bad_head, bad_feature, bad_target, not_met, few_alternatives}
use Rattle.roles.specs.Faults.{too_deep, node_count, node_head, arc_feature, arc_target, disjunction_count}
use Rattle.roles.specs.Faults.{alternative_count, the_end}
use Rattle.roles.specs.declared.cause.Cause.{Cause}
use Rattle.roles.specs.declared.cause.Cause.TheVariants.{WordsEnd, WordsLeftOver, NoNodes, BadHead, BadFeature, BadTarget, NotMet}
use Rattle.roles.specs.declared.cause.Cause.TheVariants.{FewAlternatives, TooDeep}
use Rattle.roles.specs.declared.role.Role.{Role}
use Rattle.roles.specs.declared.role.Role.TheVariants.{NodeCount, Head, Feature, Target, DisjunctionCount, AlternativeCount, End}

abbrev pub cause_of : Cause → F.Cause
cause_of WordsEnd = words_end
cause_of WordsLeftOver = words_left_over
cause_of NoNodes = no_nodes
cause_of (BadHead w) = bad_head w
cause_of BadFeature = bad_feature
cause_of (BadTarget w) = bad_target w
cause_of NotMet = not_met
cause_of FewAlternatives = few_alternatives
cause_of TooDeep = too_deep

abbrev pub broken_of : Option Cause → M.Option F.Cause
broken_of None = none
broken_of (Some c) = some (cause_of c)

abbrev pub role_of : Role → F.Role
role_of NodeCount = node_count
role_of (Head g) = node_head g.count g.node g.met
role_of (Feature g k b) = arc_feature g.count g.node g.met k b
role_of (Target g k b) = arc_target g.count g.node g.met k b
role_of DisjunctionCount = disjunction_count
role_of (AlternativeCount d) = alternative_count d
role_of End = the_end
