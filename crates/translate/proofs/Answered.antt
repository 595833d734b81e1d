-- Number, length and byte of an answer: they are small, and one row only is allowed.
-- Assumes nothing.
use Prim.Native.Nat.{ℕ, ◌≤◌}
use Rattle.std.specs.Prelude.{Ok, Err}
use native.Mathlib.Omega.{arith}
use mathlib.Core.Path.{◌≡◌, sym, ap, ◌∙◌}
use mathlib.Core.List.{List}
use Rattle.theory.specs.Limits.{input_limit}
use Rattle.signs.specs.Limits.{formula_limit}
use Rattle.translate.specs.Row.{number_in, length_in, byte_in}
use Rattle.translate.specs.Translated.{Translated}
use Rattle.translate.specs.Answered.{Answered}
use Rattle.translate.specs.Answer.{Answer}
use Rattle.translate.specs.declared.answer.Refusal.TheVariants.{BadText, TooDeep, Clash, TooLong, NoRoom, LongText}
use Rattle.translate.proofs.Outcome.{one_translation}

-- a length is at most 1,024, a byte at most 4,096
pub told_small : (t room : List ℕ) (r : Answer) (out : List ℕ) → Translated t room r out →
    (length_in r ≤ input_limit) × (byte_in r ≤ formula_limit)
told_small t room (Err LongText) out h = (omega arith, omega arith)
told_small t room (Err (BadText i)) out (h, b, e) = let k = b.inside in (omega arith, omega arith)
told_small t room (Err TooDeep) out h = (omega arith, omega arith)
told_small t room (Err Clash) out h = (omega arith, omega arith)
told_small t room (Err TooLong) out h = (omega arith, omega arith)
told_small t room (Err (NoRoom n)) out ((φ, d, c, h, i, l), e) = (omega arith, omega arith)
told_small t room (Ok n) out (φ, d, c, h, i, l, e) = (omega arith, omega arith)

module _ (t room : List ℕ) (n e b : ℕ) (out : List ℕ) (p : Answered t room n e b out) where
  -- one row and one result area for each text and room
  pub one_answered : (m f c : ℕ) (end : List ℕ) → Answered t room m f c end → (n ≡ m) × (e ≡ f) × (b ≡ c) × (out ≡ end)
  one_answered m f c end q =
      let o = one_translation t room p.answer q.answer out end p.translated q.translated in (
        p.the_number ∙ ap number_in o.0 ∙ sym q.the_number,
        p.the_extent ∙ ap length_in o.0 ∙ sym q.the_extent,
        p.the_byte ∙ ap byte_in o.0 ∙ sym q.the_byte,
        o.1,
      )
