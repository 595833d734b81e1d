-- `choosing::word::word_of` meets its contract. Assumes nothing.
use Prim.Native.Nat.{◌+◌}
use native.Mathlib.Omega.{arith}
use mathlib.Core.Path.{◌≡◌, sym, ap, ◌∙◌}
use mathlib.Core.Bool.{Bool, true, false}
use Rattle.choosing.specs.Ways.{new_part}
use Rattle.choosing.proofs.word.word_of.Goals as goal

pub returns-then-new : goal.returns-then-new
returns-then-new c = let e : c.args.new ≡ true = cc in ap (λ (b : Bool). c.args.p + new_part b) (sym e)

pub returns-else-new : goal.returns-else-new
returns-else-new c =
    let e : c.args.new ≡ false = cc in
    let z : c.args.p ≡ c.args.p + 0 = omega arith in
    z ∙ ap (λ (b : Bool). c.args.p + new_part b) (sym e)
