-- `library_text::lines::write_words` meets its contract: the first line, then after 0 the second.
-- Assumes nothing.
use Prim.Native.Nat.{ℕ}
use mathlib.Core.Path.{refl}
use mathlib.Core.List.{List, [], ◌++◌}
use lib.ListN.{take}
use Rattle.std.specs.Prelude.{Some, None}
use Rattle.answer_text.specs.Answer.{words_label, spaced, newline, second_line}
use Rattle.answer_text.proofs.Goings.{named, nothing, both, first_stops, wrote}
use Rattle.answer_text.proofs.Answers.{second-some, second_none}
use Rattle.library_text.specs.Lines.{extent_line, words_text}
use Rattle.library_text.proofs.lines.write_words.Goals as goal

pub returns-in_err-at : goal.returns-in_err-at
unfolding words_text
returns-in_err-at c =
    let one : List ℕ = extent_line c.args.number words_label c.args.extent in
    let two : List ℕ = second_line c.args.number (take c.args.extent c.args.area.now) in
    rw c.from_residual.ensures
    (wrote (one ++ two) c.args.dst.now c.put_extent_line.new.dst None
    (first_stops one two c.args.dst.now c.put_extent_line.new.dst 0 None c.in_err-at.ensures refl))

pub returns-then-number-eq0 : goal.returns-then-number-eq0
unfolding words_text
returns-then-number-eq0 c =
    let ws = take c.args.extent c.args.area.now in
    let one : List ℕ = extent_line c.args.number words_label c.args.extent in
    let two : List ℕ = second_line c.args.number ws in
    wrote (one ++ two) c.args.dst.now c.put_words_line.new.dst c.put_words_line.result
    (both one two c.args.dst.now c.put_extent_line.new.dst 0 (Some c.in_ok-at.at) c.in_ok-at.ensures c.in_ok-at.at refl c.put_words_line.new.dst c.put_words_line.result
    (named (spaced ws ++ newline) two c.put_extent_line.new.dst c.in_ok-at.at c.put_words_line.new.dst c.put_words_line.result (second-some c.args.number ws c.if-number-eq0.true) c.put_words_line.ensures))

pub returns : goal.returns
unfolding words_text
returns c =
    let ws = take c.args.extent c.args.area.now in
    let one : List ℕ = extent_line c.args.number words_label c.args.extent in
    let two : List ℕ = second_line c.args.number ws in
    let end = Some c.in_ok-at.at in
    wrote (one ++ two) c.args.dst.now c.put_extent_line.new.dst end
    (both one two c.args.dst.now c.put_extent_line.new.dst 0 end c.in_ok-at.ensures c.in_ok-at.at refl c.put_extent_line.new.dst end
    (named [] two c.put_extent_line.new.dst c.in_ok-at.at c.put_extent_line.new.dst end (second_none c.args.number ws c.if-number-eq0.false) (nothing c.put_extent_line.new.dst c.in_ok-at.at)))
