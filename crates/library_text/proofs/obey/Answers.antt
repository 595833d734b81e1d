-- `library_text::obey` meets its contract.
-- Assumes nothing.
use Prim.Native.Nat.{ℕ}
use mathlib.Core.Path.{sym, ap}
use mathlib.Core.List.{List}
use Rattle.answer_text.specs.Answer.{bad_text}
use Rattle.library_text.specs.Serves.{obeys}
use Rattle.library_text.proofs.Parts.{wrote_as}
use Rattle.library_text.proofs.Tellings.{obeys_other}
use native.Mathlib.Omega.{arith}
use Rattle.library_text.proofs.obey.Goals as goal

pub returns-in-1 : goal.returns-in-1
unfolding obeys
returns-in-1 c =
    let asked : ℕ → List ℕ = λ n. obeys n c.args.identifier c.args.rest.now in
    wrote_as (asked 1) (asked c.args.command) c.args.out.now c.write_listed.new.out c.write_listed.result (ap asked (sym c.in-1.is)) c.write_listed.ensures

pub returns-in-2 : goal.returns-in-2
unfolding obeys
returns-in-2 c =
    let asked : ℕ → List ℕ = λ n. obeys n c.args.identifier c.args.rest.now in
    wrote_as (asked 2) (asked c.args.command) c.args.out.now c.write_fetched.new.out c.write_fetched.result (ap asked (sym c.in-2.is)) c.write_fetched.ensures

pub returns-in-3 : goal.returns-in-3
unfolding obeys
returns-in-3 c =
    let asked : ℕ → List ℕ = λ n. obeys n c.args.identifier c.args.rest.now in
    wrote_as (asked 3) (asked c.args.command) c.args.out.now c.write_check.new.out c.write_check.result (ap asked (sym c.in-3.is)) c.write_check.ensures

pub returns-in-4 : goal.returns-in-4
unfolding obeys
returns-in-4 c =
    let asked : ℕ → List ℕ = λ n. obeys n c.args.identifier c.args.rest.now in
    wrote_as (asked 4) (asked c.args.command) c.args.out.now c.write_order.new.out c.write_order.result (ap asked (sym c.in-4.is)) c.write_order.ensures

pub returns-in_default : goal.returns-in_default
returns-in_default c =
    wrote_as bad_text (obeys c.args.command c.args.identifier c.args.rest.now) c.args.out.now c.write_bad.new.dst c.write_bad.result
    (obeys_other c.args.identifier c.args.rest.now c.args.command (omega arith) (omega arith) (omega arith) (omega arith)) c.write_bad.ensures
