-- `library_text::writing::read_run` meets its contract: the words so far stand in dst, and those left read as the whole does.
-- Assumes nothing.
use native.Mathlib.Omega.{arith}
use mathlib.Core.Path.{sym, ap, ◌∙◌}
use Prim.Native.Nat.{ℕ}
use mathlib.Core.List.{List}
use mathlib.Core.Option.{some}
use lib.ListN.{length, drop}
use lib.Seq.{take_all}
use Rattle.call_text.specs.Call.{words_in}
use Rattle.call_text.proofs.Tokens.{meant, said}
use Rattle.call_text.proofs.Runs.{run_goes}
use Rattle.library_text.proofs.Parts.{run_whole, run_missing}
use Rattle.library_text.proofs.writing.read_run.Goals as goal

pub returns-in_default : goal.returns-in_default
returns-in_default c =
    run_missing c.args.text.now (words_in (length c.args.dst.now) (drop c.args.p c.args.text.now)) c.args.dst.now (length c.args.dst.now) c.loop-word.dst c.loop-word.at c.loop-word.word-index c.loop-word.invariant
    c.loop-word-test.true c.read_token.result (said c.args.text.now c.loop-word.at c.read_token.result c.read_token.ensures)
    c.in_default.not-Is

pub loop-word-preserved : goal.loop-word-preserved
loop-word-preserved c =
    run_goes c.args.text.now c.args.p (length c.args.dst.now) c.args.dst.now c.loop-word.dst c.loop-word.at c.loop-word.word-index c.loop-word.invariant c.loop-word-test.true
    c.in-Is.value c.in-Is.next (omega (arith, c.loop-word.invariant.size)) (ap (meant c.args.text.now) (sym c.in-Is.is) ∙ said c.args.text.now c.loop-word.at c.read_token.result c.read_token.ensures)

pub returns : goal.returns
returns c =
    run_whole c.args.text.now (words_in (length c.args.dst.now) (drop c.args.p c.args.text.now)) c.args.dst.now (length c.args.dst.now) c.loop-word.dst c.loop-word.at c.loop-word.word-index c.loop-word.invariant (omega arith)
    ∙ ap (λ (l : List ℕ). some (l, drop c.loop-word.at c.args.text.now)) (take_all (length c.args.dst.now) c.loop-word.dst (omega arith))
