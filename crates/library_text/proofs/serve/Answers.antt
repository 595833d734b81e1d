-- `library_text::serve` meets its contract.
-- Assumes nothing.
use Prim.Native.Nat.{◌+◌}
use native.Mathlib.Omega.{arith}
use Rattle.call_text.proofs.Tokens.{said}
use Rattle.answer_text.specs.Answer.{bad_text}
use Rattle.library_text.specs.Serves.{obeys, serves}
use Rattle.library_text.proofs.Parts.{wrote_as, number_said, rest_of}
use Rattle.library_text.proofs.Tellings.{serves_none, serves_stop, serves_over, serves_other, serves_there}
use Rattle.library_text.proofs.serve.Goals as goal

pub returns-in_default : goal.returns-in_default
returns-in_default c =
    wrote_as bad_text (serves c.args.text.now) c.args.out.now c.write_bad.new.dst c.write_bad.result
    (serves_none c.args.text.now c.read_token.result (said c.args.text.now 0 c.read_token.result c.read_token.ensures) c.in_default.not-Is) c.write_bad.ensures

pub returns-in_default-read_token : goal.returns-in_default-read_token
returns-in_default-read_token c =
    let first = number_said c.args.text.now 0 c.read_token.result c.read_token.ensures c.in-Is.command c.in-Is.next c.in-Is.is in
    wrote_as bad_text (serves c.args.text.now) c.args.out.now c.write_bad-in_default-read_token.new.dst c.write_bad-in_default-read_token.result
    (serves_stop c.args.text.now c.in-Is.command c.in-Is.next first c.read_token-2.result (said c.args.text.now c.in-Is.next c.read_token-2.result c.read_token-2.ensures) c.in_default-read_token.not-Is)
    c.write_bad-in_default-read_token.ensures

pub returns-then-text-end : goal.returns-then-text-end
returns-then-text-end c =
    let first = number_said c.args.text.now 0 c.read_token.result c.read_token.ensures c.in-Is.command c.in-Is.next c.in-Is.is in
    let second = number_said c.args.text.now c.in-Is.next c.read_token-2.result c.read_token-2.ensures c.in-Is-read_token.identifier c.in-Is-read_token.end c.in-Is-read_token.is in
    wrote_as bad_text (serves c.args.text.now) c.args.out.now c.write_bad-then-text-end.new.dst c.write_bad-then-text-end.result
    (serves_over c.args.text.now c.in-Is.command c.in-Is.next first c.in-Is-read_token.identifier c.in-Is-read_token.end second c.if-text-end.true) c.write_bad-then-text-end.ensures

pub returns-then-text-end-ne10 : goal.returns-then-text-end-ne10
returns-then-text-end-ne10 c =
    let first = number_said c.args.text.now 0 c.read_token.result c.read_token.ensures c.in-Is.command c.in-Is.next c.in-Is.is in
    let second = number_said c.args.text.now c.in-Is.next c.read_token-2.result c.read_token-2.ensures c.in-Is-read_token.identifier c.in-Is-read_token.end c.in-Is-read_token.is in
    wrote_as bad_text (serves c.args.text.now) c.args.out.now c.write_bad-then-text-end-ne10.new.dst c.write_bad-then-text-end-ne10.result
    (serves_other c.args.text.now c.in-Is.command c.in-Is.next first c.in-Is-read_token.identifier c.in-Is-read_token.end second (omega arith) c.if-text-end-ne10.true) c.write_bad-then-text-end-ne10.ensures

pub returns : goal.returns
returns c =
    let first = number_said c.args.text.now 0 c.read_token.result c.read_token.ensures c.in-Is.command c.in-Is.next c.in-Is.is in
    let second = number_said c.args.text.now c.in-Is.next c.read_token-2.result c.read_token-2.ensures c.in-Is-read_token.identifier c.in-Is-read_token.end c.in-Is-read_token.is in
    wrote_as (obeys c.in-Is.command c.in-Is-read_token.identifier (rest_of (c.in-Is-read_token.end + 1) c.args.text.now)) (serves c.args.text.now) c.args.out.now c.obey.new.out c.obey.result
    (serves_there c.args.text.now c.in-Is.command c.in-Is.next first c.in-Is-read_token.identifier c.in-Is-read_token.end second (omega arith) c.if-text-end-ne10.false) c.obey.ensures
