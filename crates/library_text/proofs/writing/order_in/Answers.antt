-- `library_text::writing::order_in` meets its contract.
-- Assumes nothing.
use native.Mathlib.Omega.{arith}
use lib.ListN.{length, take, drop}
use lib.Seq.{length-take-le}
use Rattle.call_text.proofs.Tokens.{said}
use Rattle.answer_text.specs.Answer.{bad_text}
use Rattle.library_text.specs.Serves.{runs_text, order_text}
use Rattle.library_text.proofs.Parts.{wrote_as, number_said}
use Rattle.library_text.proofs.Tellings.{order_none, order_stop, order_many, order_long, order_fine}
use Rattle.library_text.proofs.writing.order_in.Goals as goal

pub returns-in_default : goal.returns-in_default
returns-in_default c =
    wrote_as bad_text (order_text c.args.text.now) c.args.out.now c.write_bad.new.dst c.write_bad.result
    (order_none c.args.text.now c.read_token.result (said c.args.text.now 0 c.read_token.result c.read_token.ensures) c.in_default.not-Is) c.write_bad.ensures

pub returns-in_default-read_token : goal.returns-in_default-read_token
returns-in_default-read_token c =
    let first = number_said c.args.text.now 0 c.read_token.result c.read_token.ensures c.in-Is.count c.in-Is.next c.in-Is.is in
    wrote_as bad_text (order_text c.args.text.now) c.args.out.now c.write_bad-in_default-read_token.new.dst c.write_bad-in_default-read_token.result
    (order_stop c.args.text.now c.in-Is.count c.in-Is.next first c.read_token-2.result (said c.args.text.now c.in-Is.next c.read_token-2.result c.read_token-2.ensures) c.in_default-read_token.not-Is)
    c.write_bad-in_default-read_token.ensures

pub returns-then-many-gt-ENTRY_WORDS : goal.returns-then-many-gt-ENTRY_WORDS
returns-then-many-gt-ENTRY_WORDS c =
    let first = number_said c.args.text.now 0 c.read_token.result c.read_token.ensures c.in-Is.count c.in-Is.next c.in-Is.is in
    let second = number_said c.args.text.now c.in-Is.next c.read_token-2.result c.read_token-2.ensures c.in-Is-read_token.total c.in-Is-read_token.start c.in-Is-read_token.is in
    wrote_as bad_text (order_text c.args.text.now) c.args.out.now c.write_bad-then-many-gt-ENTRY_WORDS.new.dst c.write_bad-then-many-gt-ENTRY_WORDS.result
    (order_many c.args.text.now c.in-Is.count c.in-Is.next first c.in-Is-read_token.total c.in-Is-read_token.start second c.wide-many.result c.wide-many.ensures c.if-many-gt-ENTRY_WORDS.true) c.write_bad-then-many-gt-ENTRY_WORDS.ensures

pub returns-then-long-gt-WORDS : goal.returns-then-long-gt-WORDS
returns-then-long-gt-WORDS c =
    let first = number_said c.args.text.now 0 c.read_token.result c.read_token.ensures c.in-Is.count c.in-Is.next c.in-Is.is in
    let second = number_said c.args.text.now c.in-Is.next c.read_token-2.result c.read_token-2.ensures c.in-Is-read_token.total c.in-Is-read_token.start c.in-Is-read_token.is in
    wrote_as bad_text (order_text c.args.text.now) c.args.out.now c.write_bad-then-long-gt-WORDS.new.dst c.write_bad-then-long-gt-WORDS.result
    (order_long c.args.text.now c.in-Is.count c.in-Is.next first c.in-Is-read_token.total c.in-Is-read_token.start second c.wide-many.result c.wide-many.ensures (omega arith)
    c.wide-long.result c.wide-long.ensures c.if-long-gt-WORDS.true)
    c.write_bad-then-long-gt-WORDS.ensures

pub returns : goal.returns
returns c =
    let first = number_said c.args.text.now 0 c.read_token.result c.read_token.ensures c.in-Is.count c.in-Is.next c.in-Is.is in
    let second = number_said c.args.text.now c.in-Is.next c.read_token-2.result c.read_token-2.ensures c.in-Is-read_token.total c.in-Is-read_token.start c.in-Is-read_token.is in
    let entries = length-take-le c.wide-many.result c.args.entries.now (omega arith) in
    let words = length-take-le c.wide-long.result c.args.words.now (omega arith) in
    wrote_as (runs_text (length (take c.wide-many.result c.args.entries.now)) (length (take c.wide-long.result c.args.words.now)) (drop c.in-Is-read_token.start c.args.text.now))
    (order_text c.args.text.now) c.args.out.now c.write_runs.new.out c.write_runs.result
    (rw entries (rw words (order_fine c.args.text.now c.in-Is.count c.in-Is.next first c.in-Is-read_token.total c.in-Is-read_token.start second c.wide-many.result c.wide-many.ensures (omega arith)
    c.wide-long.result c.wide-long.ensures (omega arith))))
    c.write_runs.ensures
