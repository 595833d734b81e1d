-- The proof of the cycle of calls {put_decimal}. The measure is the number: without its last digit it is smaller.
-- Assumes nothing.
use Prim.Native.Nat.{ℕ}
use mathlib.Core.Path.{ap, ◌∙◌}
use mathlib.Core.List.{[], ◌∷◌, append_assoc}
use Rattle.answer_text.specs.Answer.{decimal}
use Rattle.answer_text.proofs.Goings.{named}
use Rattle.answer_text.proofs.Decimals.{decimal_one, decimal_more}
use Rattle.answer_text.proofs.line.+put_decimal.Goals as goal

pub returns-then-value-lt10 : goal.returns-then-value-lt10
returns-then-value-lt10 t c =
    named (c.digit_byte.result ∷ []) (decimal c.args.value) c.args.dst.now c.args.at c.put.new.dst c.put.result
    (ap (λ (n : ℕ). n ∷ []) c.digit_byte.ensures ∙ decimal_one c.args.value c.if-value-lt10.true) c.put.ensures

pub returns-in_err-next : goal.returns-in_err-next
returns-in_err-next t c = λ old whole left g.
    rw c.from_residual.ensures (c.in_err-next.ensures old whole _
    (rw (← decimal_more c.args.value c.if-value-lt10.false, append_assoc) at g))

pub returns : goal.returns
returns t c = λ old whole left g.
    c.put-2.ensures old whole left (rw c.digit_byte-2.ensures (c.in_ok-next.ensures old whole _
    (rw (← decimal_more c.args.value c.if-value-lt10.false, append_assoc) at g)))
