-- `library::read::is_whole` meets its contract: the blocks left are judged as all are.
-- Assumes nothing.
use native.Mathlib.Omega.{arith}
use Prim.Native.Nat.{ℕ, ◌+◌, ◌-◌}
use mathlib.Core.Path.{◌≡◌, sym, ap, ◌∙◌}
use Rattle.library.specs.Index.{first_part, room_of}
use Rattle.library.specs.Read.{whole_blocks}
use Rattle.library.proofs.Reading.{not_stop, not_go, whole_stop, whole_step, whole_done}
use Rattle.library.proofs.read.is_whole.Goals as goal

pub returns-then-is_damaged : goal.returns-then-is_damaged
returns-then-is_damaged c = whole_stop c.args.file.now (c.args.first + room_of c.args.words - c.loop-k.k) c.loop-k.k c.loop-k.rest (omega arith) (not_stop _ (rw c.first_part-here.ensures at (sym c.is_damaged.ensures ∙ c.if-is_damaged.true))) ∙ sym c.loop-k.invariant.1

pub loop-k-preserved : goal.loop-k-preserved
loop-k-preserved c =
    let fewer : c.args.first + room_of c.args.words - c.loop-k.k - 1 ≡ c.args.first + room_of c.args.words - (c.loop-k.k + 1) = omega arith in
    let step = whole_step c.args.file.now (c.args.first + room_of c.args.words - c.loop-k.k) c.loop-k.k c.loop-k.rest (omega arith) (not_go _ (rw c.first_part-here.ensures at (sym c.is_damaged.ensures ∙ c.if-is_damaged.false))) in
    (omega arith, c.loop-k.invariant.1 ∙ step ∙ rw c.first_part-here.ensures (ap (λ (n : ℕ). whole_blocks n (c.loop-k.k + 1) (c.loop-k.rest - first_part c.loop-k.rest) c.args.file.now) fewer))

pub returns : goal.returns
returns c = whole_done c.args.file.now (c.args.first + room_of c.args.words - c.loop-k.k) c.loop-k.k c.loop-k.rest (omega arith) ∙ sym c.loop-k.invariant.1
