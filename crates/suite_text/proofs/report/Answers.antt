-- `suite_text::report` meets its contract. Assumes nothing.
use native.Mathlib.Omega.{arith}
use lib.ListN.{length, length-take}
use Rattle.reply.proofs.Replies.{take_count, wrote_same}
use Rattle.suite_text.proofs.Printed.{printed_long, printed_short}
use Rattle.suite_text.proofs.report.Goals as goal

pub returns-then-n-gt-TEXT_LIMIT : goal.returns-then-n-gt-TEXT_LIMIT
returns-then-n-gt-TEXT_LIMIT c =
    wrote_same _ _ c.args.out.now c.write_bad.new.dst c.write_bad.result (printed_long c.args.text.now c.if-n-gt-TEXT_LIMIT.true) c.write_bad.ensures

pub slice_bounds-report_in-end : goal.slice_bounds-report_in-end
slice_bounds-report_in-end c = take_count _ _ (omega arith)

pub report_in-requires : goal.report_in-requires
report_in-requires c =
    let taken = length-take (length c.args.text.now) c.numbers_space-numbers.result in record {
      first_len = (c.zeros-first.ensures, c.zeros-second.ensures);
      res_len = (c.zeros-result.ensures, c.zeros-working.ensures);
      table_value = c.no_table-table.ensures;
      numbers_len = omega arith;
    }

pub returns : goal.returns
returns c =
    wrote_same _ _ c.args.out.now _ c.report_in.result (printed_short c.args.text.now c.if-n-gt-TEXT_LIMIT.false) c.report_in.ensures
