-- `call_text::number::is_digit` meets its contract.
-- Assumes nothing.
use native.Mathlib.Omega.{arith}
use Rattle.std.proofs.lemmas.Grind.{common_steps}
use Rattle.call_text.specs.Token.{digit}
use Rattle.call_text.proofs.number.is_digit.Goals as goal

pub returns : goal.returns
unfolding digit
returns c = grind (arith, common_steps, c.is_ascii_digit.ensures.value)
