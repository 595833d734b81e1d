-- `formula_text::text::write_formula` meets its contract: the first line, then after 0 the second.
-- Assumes nothing.
use mathlib.Core.Path.{sym, ◌∙◌}
use mathlib.Core.List.{[], ◌++◌}
use Rattle.std.specs.Prelude.{Some, None}
use Rattle.translate.specs.Row.{number_in}
use Rattle.answer_text.specs.Answer.{spaced, newline, second_line}
use Rattle.answer_text.proofs.Goings.{named, nothing, both, first_stops, wrote}
use Rattle.answer_text.proofs.Answers.{second-some, second_none}
use Rattle.formula_text.specs.Printed.{told_line, formula_text}
use Rattle.formula_text.proofs.Lines.{line_told}
use Rattle.formula_text.proofs.text.write_formula.Goals as goal

pub returns-in_err-at : goal.returns-in_err-at
unfolding formula_text
returns-in_err-at c =
    let n = number_in c.args.answer in
    let one = told_line n c.args.answer in
    let two = second_line n c.args.words.now in
    let mid = c.put_told_line.new.dst in
    let first = line_told c.args.answer _ c.args.dst.now mid c.put_told_line.result c.told-number.ensures.0 c.put_told_line.ensures in
    rw c.from_residual.ensures
    (wrote (one ++ two) c.args.dst.now mid None (first_stops one two c.args.dst.now mid 0 c.put_told_line.result first (sym c.in_err-at.was)))

pub returns-then-number-eq0 : goal.returns-then-number-eq0
unfolding formula_text
returns-then-number-eq0 c =
    let n = number_in c.args.answer in
    let one = told_line n c.args.answer in
    let two = second_line n c.args.words.now in
    let mid = c.put_told_line.new.dst in
    let first = line_told c.args.answer _ c.args.dst.now mid c.put_told_line.result c.told-number.ensures.0 c.put_told_line.ensures in
    wrote (one ++ two) c.args.dst.now c.put_words_line.new.dst c.put_words_line.result
    (both one two c.args.dst.now mid 0 c.put_told_line.result first c.in_ok-at.at c.in_ok-at.was c.put_words_line.new.dst c.put_words_line.result
    (named (spaced c.args.words.now ++ newline) two mid c.in_ok-at.at c.put_words_line.new.dst c.put_words_line.result
    (second-some n c.args.words.now (sym c.told-number.ensures.0 ∙ c.if-number-eq0.true)) c.put_words_line.ensures))

pub returns-else-number-eq0 : goal.returns-else-number-eq0
unfolding formula_text
returns-else-number-eq0 c =
    let n = number_in c.args.answer in
    let one = told_line n c.args.answer in
    let two = second_line n c.args.words.now in
    let mid = c.put_told_line.new.dst in
    let first = line_told c.args.answer _ c.args.dst.now mid c.put_told_line.result c.told-number.ensures.0 c.put_told_line.ensures in
    wrote (one ++ two) c.args.dst.now mid (Some c.in_ok-at.at)
    (both one two c.args.dst.now mid 0 c.put_told_line.result first c.in_ok-at.at c.in_ok-at.was mid (Some c.in_ok-at.at)
    (named [] two mid c.in_ok-at.at mid (Some c.in_ok-at.at)
    (second_none n c.args.words.now (λ e. c.if-number-eq0.false (c.told-number.ensures.0 ∙ e))) (nothing mid c.in_ok-at.at)))
