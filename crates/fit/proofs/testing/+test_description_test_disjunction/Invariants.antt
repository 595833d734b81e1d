use Rattle.fit.specs.Parts.{graphIn}
use Rattle.fit.specs.Testing.{description_subject, disjunction_subject}
use Rattle.fit.proofs.Things.{Left}
use Rattle.fit.proofs.Things.{its_disjunctions}
use Rattle.fit.proofs.Alternatives.{its_alternatives}
use Prim.Native.Nat.{◌+◌, ◌*◌, ◌-◌}
use Rattle.fit.proofs.testing.+test_description_test_disjunction.Given as goal

abbrev pub decreases-test_description : goal.decreases-test_description
decreases-test_description l = 2 * l.left + 1

abbrev pub decreases-test_disjunction : goal.decreases-test_disjunction
decreases-test_disjunction l = 2 * l.left

abbrev pub invariant-test_description-loop : goal.invariant-test_description-loop
invariant-test_description-loop l =
    Left l.ws (description_subject (graphIn l.structure.words.now 0) l.left) l.p
    (its_disjunctions (graphIn l.structure.words.now 0) l.left (l.end - l.counter)) l.at

abbrev pub invariant-test_disjunction-loop-others : goal.invariant-test_disjunction-loop-others
invariant-test_disjunction-loop-others l =
    Left l.ws (disjunction_subject (graphIn l.structure.words.now 0) l.left) l.p
    (its_alternatives (graphIn l.structure.words.now 0) (l.left - 1) l.others) l.at
