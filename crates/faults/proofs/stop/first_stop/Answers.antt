-- `faults::stop::first_stop` meets its contract.
-- Assumes nothing.
use mathlib.Core.Path.{sym, ap, ◌∙◌}
use Rattle.roles.specs.Coded.{broken_of}
use Rattle.faults.specs.Coded.{nesting_of, expected_of}
use Rattle.faults.proofs.Laws.{nesting_depth}
use Rattle.faults.proofs.Going.{going_on, going_stop}
use Rattle.faults.proofs.stop.first_stop.Goals as goal

pub returns-in-Some : goal.returns-in-Some
returns-in-Some c =
    let broken = c.breaks.ensures (nesting_of c.loop-at.expected.nesting) (nesting_depth c.loop-at.expected.nesting) in
    going_stop c.args.ws.now (expected_of c.loop-at.expected) c.loop-at.at c.loop-at.invariant c.loop-at-test.true _
    (sym broken ∙ ap broken_of c.in-Some.is)

pub expected_after-expected-requires : goal.expected_after-expected-requires
expected_after-expected-requires c =
    let broken = c.breaks.ensures (nesting_of c.loop-at.expected.nesting) (nesting_depth c.loop-at.expected.nesting) in
    (c.loop-at.invariant.bounded, sym broken ∙ ap broken_of c.in_default.is)

pub loop-at-preserved : goal.loop-at-preserved
loop-at-preserved c =
    let broken = c.breaks.ensures (nesting_of c.loop-at.expected.nesting) (nesting_depth c.loop-at.expected.nesting) in
    going_on c.args.ws.now (expected_of c.loop-at.expected) c.loop-at.at c.loop-at.invariant c.loop-at-test.true
    (sym broken ∙ ap broken_of c.in_default.is) _ c.expected_after-expected.ensures
