-- `library_text::writing::write_runs` meets its contract.
-- Assumes nothing.
use mathlib.Core.Path.{sym}
use lib.ListN.{length, drop}
use Rattle.answer_text.specs.Answer.{bad_text}
use Rattle.library_text.specs.Serves.{made_text, runs_text}
use Rattle.library_text.proofs.Parts.{wrote_as}
use Rattle.library_text.proofs.Tellings.{runs_none, runs_stop, runs_over, runs_more}
use Rattle.library_text.proofs.writing.write_runs.Goals as goal

pub returns-in_default : goal.returns-in_default
returns-in_default c =
    let here = drop c.args.p c.args.text.now in
    wrote_as bad_text (runs_text (length c.args.entries.now) (length c.args.words.now) here) c.args.out.now c.write_bad.new.dst c.write_bad.result
    (runs_none (length c.args.entries.now) (length c.args.words.now) here c.in_default.ensures) c.write_bad.ensures

pub returns-in_default-read_run : goal.returns-in_default-read_run
returns-in_default-read_run c =
    let here = drop c.args.p c.args.text.now in
    let there = drop c.in-Some.middle c.args.text.now in
    wrote_as bad_text (runs_text (length c.args.entries.now) (length c.args.words.now) here) c.args.out.now c.write_bad-in_default-read_run.new.dst c.write_bad-in_default-read_run.result
    (runs_stop (length c.args.entries.now) (length c.args.words.now) here c.read_run.new.dst there c.in-Some.ensures c.in_default-read_run.ensures) c.write_bad-in_default-read_run.ensures

pub returns-then-is_over : goal.returns-then-is_over
returns-then-is_over c =
    let here = drop c.args.p c.args.text.now in
    wrote_as (made_text c.read_run.new.dst c.read_run-2.new.dst) (runs_text (length c.args.entries.now) (length c.args.words.now) here)
    c.args.out.now c.write_made.new.out c.write_made.result
    (runs_over (length c.args.entries.now) (length c.args.words.now) here c.read_run.new.dst (drop c.in-Some.middle c.args.text.now) c.in-Some.ensures
    c.read_run-2.new.dst (drop c.in-Some-read_run.end c.args.text.now) c.in-Some-read_run.ensures (sym c.if-is_over.ensures))
    c.write_made.ensures

pub returns-else-is_over : goal.returns-else-is_over
returns-else-is_over c =
    let here = drop c.args.p c.args.text.now in
    wrote_as bad_text (runs_text (length c.args.entries.now) (length c.args.words.now) here) c.args.out.now c.write_bad-else-is_over.new.dst c.write_bad-else-is_over.result
    (runs_more (length c.args.entries.now) (length c.args.words.now) here c.read_run.new.dst (drop c.in-Some.middle c.args.text.now) c.in-Some.ensures
    c.read_run-2.new.dst (drop c.in-Some-read_run.end c.args.text.now) c.in-Some-read_run.ensures (sym c.if-is_over.ensures))
    c.write_bad-else-is_over.ensures
