-- `answer_text::answer::write_answer` meets its contract: the first line, then after 0 the second.
-- Assumes nothing.
use Prim.Native.Nat.{ℕ}
use mathlib.Core.Path.{refl}
use mathlib.Core.List.{List, [], ◌++◌}
use Rattle.std.specs.Prelude.{Some, None}
use Rattle.answer_text.specs.Answer.{spaced, newline, first_line, second_line, answer_text}
use Rattle.answer_text.proofs.Goings.{named, nothing, both, first_stops, wrote}
use Rattle.answer_text.proofs.Answers.{second-some, second_none}
use Rattle.answer_text.proofs.answer.write_answer.Goals as goal

pub returns-in_err-at : goal.returns-in_err-at
unfolding answer_text
returns-in_err-at c =
    let one : List ℕ = first_line c.args.number c.args.length c.args.readings in
    let two : List ℕ = second_line c.args.number c.args.words.now in
    rw c.from_residual.ensures
    (wrote (one ++ two) c.args.dst.now c.put_first_line.new.dst None
    (first_stops one two c.args.dst.now c.put_first_line.new.dst 0 None c.in_err-at.ensures refl))

pub returns-then-number-eq0 : goal.returns-then-number-eq0
unfolding answer_text
returns-then-number-eq0 c =
    let one : List ℕ = first_line c.args.number c.args.length c.args.readings in
    let two : List ℕ = second_line c.args.number c.args.words.now in
    wrote (one ++ two) c.args.dst.now c.put_words_line.new.dst c.put_words_line.result
    (both one two c.args.dst.now c.put_first_line.new.dst 0 (Some c.in_ok-at.at) c.in_ok-at.ensures c.in_ok-at.at refl c.put_words_line.new.dst
    c.put_words_line.result (named (spaced c.args.words.now ++ newline) two c.put_first_line.new.dst c.in_ok-at.at c.put_words_line.new.dst
    c.put_words_line.result (second-some c.args.number c.args.words.now c.if-number-eq0.true) c.put_words_line.ensures))

pub returns : goal.returns
unfolding answer_text
returns c =
    let one : List ℕ = first_line c.args.number c.args.length c.args.readings in
    let two : List ℕ = second_line c.args.number c.args.words.now in
    wrote (one ++ two) c.args.dst.now c.put_first_line.new.dst (Some c.in_ok-at.at)
    (both one two c.args.dst.now c.put_first_line.new.dst 0 (Some c.in_ok-at.at) c.in_ok-at.ensures c.in_ok-at.at refl c.put_first_line.new.dst
    (Some c.in_ok-at.at) (named [] two c.put_first_line.new.dst c.in_ok-at.at c.put_first_line.new.dst (Some c.in_ok-at.at)
    (second_none c.args.number c.args.words.now c.if-number-eq0.false)
    (nothing c.put_first_line.new.dst c.in_ok-at.at)))
