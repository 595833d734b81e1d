-- `suite_text::run_test` meets its contract. Assumes nothing.
use native.Mathlib.Omega.{arith}
use Rattle.reply.proofs.Replies.{take_count}
use Rattle.suite_text.proofs.Answers.{test-answered}
use Rattle.suite_text.proofs.run_test.Goals as goal

pub slice_bounds-unify-end-2 : goal.slice_bounds-unify-end-2
slice_bounds-unify-end-2 c = take_count _ _ (omega arith)

pub slice_bounds-unify-end-4 : goal.slice_bounds-unify-end-4
slice_bounds-unify-end-4 c = take_count _ _ (omega arith)

pub returns : goal.returns
returns c =
    let answers = test-answered c.args.numbers.now c.args.place _ _ _ _ c.read_words.ensures
    c.read_words-2.ensures _ _ _ c.requires.res_len.0 c.requires.res_len.1 c.unify-answer.ensures.outcome in
    rw (c.told.ensures.0, c.told.ensures.1.1.0) answers
