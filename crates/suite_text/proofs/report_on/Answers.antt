-- `suite_text::report_on` meets its contract. Assumes nothing.
use mathlib.Core.Path.{refl, sym, ◌∙◌}
use Rattle.reply.proofs.Replies.{wrote_same}
use Rattle.suite_text.proofs.Printed.{blanked_length, printed_no_number, printed_bad_tests, wrote_refused, may_run, wrote_run}
use Rattle.suite_text.proofs.report_on.Goals as goal

pub returns-in_default : goal.returns-in_default
returns-in_default c =
    wrote_same _ _ c.args.out.now c.write_bad.new.dst c.write_bad.result
    (printed_no_number c.args.text.now c.args.numbers.now c.requires.numbers_value c.read_token.result c.read_token.ensures
    c.in_default.not-Is) c.write_bad.ensures

pub returns-in_default-judge_tests : goal.returns-in_default-judge_tests
returns-in_default-judge_tests c =
    wrote_same _ _ c.args.out.now c.write_bad-in_default-judge_tests.new.dst c.write_bad-in_default-judge_tests.result
    (printed_bad_tests c.args.text.now c.args.numbers.now c.requires.numbers_value c.read_token.result c.read_token.ensures _ _ c.in-Is.is
    _ c.in_default-judge_tests.ensures refl) c.write_bad-in_default-judge_tests.ensures

pub returns-then-refusal-ne0 : goal.returns-then-refusal-ne0
returns-then-refusal-ne0 c =
    wrote_refused c.args.text.now c.args.numbers.now c.requires.numbers_value c.read_token.result c.read_token.ensures _ _ c.in-Is.is
    _ c.in-Some.ensures c.in-Some.verdict refl (λ z. c.if-refusal-ne0.true (c.number-refusal.ensures ∙ z)) _
    (c.from.ensures ∙ c.number-refusal.ensures) c.args.out.now c.put_last.new.dst c.put_last.result c.put_last.ensures

pub run_tests-requires : goal.run_tests-requires
run_tests-requires c =
    record {
      first_len = c.requires.first_len;
      res_len = c.requires.res_len;
      table_value = c.requires.table_value;
      numbers_len = (
        blanked_length c.args.text.now c.args.numbers.now c.requires.numbers_value,
        may_run c.args.text.now c.args.numbers.now c.requires.numbers_value c.read_token.result c.read_token.ensures _ _ c.in-Is.is
            _ c.in-Some.ensures c.in-Some.verdict refl (sym c.number-refusal.ensures ∙ c.if-refusal-ne0.false),
      );
    }

pub returns : goal.returns
returns c =
    wrote_run c.args.text.now c.args.numbers.now c.requires.numbers_value c.read_token.result c.read_token.ensures _ _ c.in-Is.is
    _ c.in-Some.ensures c.in-Some.verdict refl (sym c.number-refusal.ensures ∙ c.if-refusal-ne0.false) c.args.out.now _ c.run_tests.result
    c.run_tests.ensures
