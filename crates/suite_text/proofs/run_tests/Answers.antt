-- `suite_text::run_tests` meets its contract. The loop's invariant: what is left of the report is that of the tests that are left.
-- Assumes nothing.
use mathlib.Core.Path.{refl, sym, ◌∙◌}
use native.Mathlib.Omega.{arith}
use lib.ListN.{drop}
use Rattle.std.specs.Prelude.{Some, None}
use Rattle.answer_text.proofs.Goings.{named}
use Rattle.suite_reading.specs.Tests.{tests_in}
use Rattle.verdicts.specs.Verdicts.{cell_of}
use Rattle.suite_text.proofs.Reporting.{whole_starts, wrote_whole, mode_low}
use Rattle.suite_text.proofs.Reporting.{reporting_stops, reporting_goes, reporting_ends, reporting_same}
use Rattle.suite_text.proofs.Stepping.{lowest, none_wrong, stepping, came_small, name_order, verdict_is, line_is, raised, summed}
use Rattle.suite_text.proofs.run_tests.Goals as goal

pub loop-i-init : goal.loop-i-init
loop-i-init c =
    reporting_same (sym c.requires.table_value) (sym c.none-totals.ensures)
    (whole_starts c.args.text.now c.args.numbers.now c.args.p c.args.n c.requires.numbers_len.1 c.args.out.now)

pub returns-in_err-place : goal.returns-in_err-place
returns-in_err-place c = absurd (none_wrong c.loop-i.invariant c.loop-i-test.true _ c.in_err-place.ensures refl)

pub run_test-seen-requires : goal.run_test-seen-requires
run_test-seen-requires c =
    let step = stepping c.loop-i.invariant c.loop-i-test.true _ c.in_ok-place.ensures refl in
    record {
      first_len = (c.loop-i.auto.first ∙ c.requires.first_len.0, c.loop-i.auto.second ∙ c.requires.first_len.1);
      res_len = (c.loop-i.auto.res ∙ c.requires.res_len.0, c.loop-i.auto.working ∙ c.requires.res_len.1);
      firsts_le_count_limit = (step.places.the_first.few, step.places.the_second.few);
    }

pub slice_bounds-put_line-count : goal.slice_bounds-put_line-count
slice_bounds-put_line-count c =
    let step = stepping c.loop-i.invariant c.loop-i-test.true _ c.in_ok-place.ensures refl in
    name_order step c.requires.numbers_len.0 (lowest _ _ _ c.min-from.ensures).0
    (lowest _ _ _ c.min-from.ensures).1 (lowest _ _ _ c.min.ensures).0 (lowest _ _ _ c.min.ensures).1 c.after_spaces-to.ensures

pub slice_bounds-put_line-start : goal.slice_bounds-put_line-start
slice_bounds-put_line-start c =
    let step = stepping c.loop-i.invariant c.loop-i-test.true _ c.in_ok-place.ensures refl in
    let order = name_order step c.requires.numbers_len.0 (lowest _ _ _ c.min-from.ensures).0
    (lowest _ _ _ c.min-from.ensures).1 (lowest _ _ _ c.min.ensures).0 (lowest _ _ _ c.min.ensures).1 c.after_spaces-to.ensures in
    omega arith

pub slice_bounds-put_line-end : goal.slice_bounds-put_line-end
slice_bounds-put_line-end c =
    let step = stepping c.loop-i.invariant c.loop-i-test.true _ c.in_ok-place.ensures refl in
    let order = name_order step c.requires.numbers_len.0 (lowest _ _ _ c.min-from.ensures).0
    (lowest _ _ _ c.min-from.ensures).1 (lowest _ _ _ c.min.ensures).0 (lowest _ _ _ c.min.ensures).1 c.after_spaces-to.ensures in
    omega arith

pub returns-in_err-end : goal.returns-in_err-end
returns-in_err-end c =
    let step = stepping c.loop-i.invariant c.loop-i-test.true _ c.in_ok-place.ensures refl in
    let shown = named _ _ c.loop-i.out c.loop-i.end c.put_line.new.out None
    (line_is step c.requires.numbers_len.0 (lowest _ _ _ c.min-from.ensures).0
    (lowest _ _ _ c.min-from.ensures).1 (lowest _ _ _ c.min.ensures).0 (lowest _ _ _ c.min.ensures).1 c.after_spaces-to.ensures
    c.expected-test.ensures c.run_test-seen.ensures c.verdict_of-what.ensures) c.in_err-end.ensures in
    rw c.from_residual-in_err-end.ensures
    (wrote_whole c.args.text.now c.args.n (tests_in c.args.n (drop c.args.p c.args.numbers.now)) c.args.out.now _ None c.requires.numbers_len.1
    (reporting_stops _ _ _ _ _ _ _ _ _ _ _ c.loop-i.invariant step.going c.put_line.new.out None shown refl))

pub raise-requires : goal.raise-requires
raise-requires c =
    let step = stepping c.loop-i.invariant c.loop-i-test.true _ c.in_ok-place.ensures refl in
    let mode = step.places.mode in
    let low = mode_low _ _ _ _ _ _ _ _ _ _ _ c.loop-i.invariant step.going in
    let cell = c.loop-i.invariant.low (cell_of c.in_ok-place.place.mode c.run_test-seen.result.number) in
    record {
      table_len = c.loop-i.invariant.size;
      mode_bound = (omega arith, (came_small step c.run_test-seen.ensures, omega arith));
    }

pub loop-i-preserved : goal.loop-i-preserved
loop-i-preserved c =
    let step = stepping c.loop-i.invariant c.loop-i-test.true _ c.in_ok-place.ensures refl in
    let shown = named _ _ c.loop-i.out c.loop-i.end c.put_line.new.out (Some c.in_ok-end.end)
    (line_is step c.requires.numbers_len.0 (lowest _ _ _ c.min-from.ensures).0
    (lowest _ _ _ c.min-from.ensures).1 (lowest _ _ _ c.min.ensures).0 (lowest _ _ _ c.min.ensures).1 c.after_spaces-to.ensures
    c.expected-test.ensures c.run_test-seen.ensures c.verdict_of-what.ensures) c.in_ok-end.ensures in
    let says = verdict_is step c.requires.numbers_len.0 (lowest _ _ _ c.min-from.ensures).0
    (lowest _ _ _ c.min-from.ensures).1 (lowest _ _ _ c.min.ensures).0 (lowest _ _ _ c.min.ensures).1 c.after_spaces-to.ensures
    c.expected-test.ensures c.run_test-seen.ensures c.verdict_of-what.ensures in
    let on = reporting_goes _ _ _ _ _ _ _ _ _ _ _ c.loop-i.invariant step.going c.put_line.new.out (Some c.in_ok-end.end) shown
    _ refl _ step.places.after in
    reporting_same (raised step c.run_test-seen.ensures c.raise.ensures) (summed step says c.added-totals.ensures) on

pub returns : goal.returns
returns c =
    wrote_whole c.args.text.now c.args.n (tests_in c.args.n (drop c.args.p c.args.numbers.now)) c.args.out.now c.put_summary.new.out
    c.put_summary.result c.requires.numbers_len.1
    (reporting_ends _ _ _ _ _ _ _ _ _ _ _ c.loop-i.invariant (omega arith) c.put_summary.new.out c.put_summary.result c.put_summary.ensures)
