-- There is always room.
use Rattle.std.proofs.Common.{◌≡◌, refl, arith}
use Rattle.programs.proofs.Written.{answered_exactly}
use Rattle.reply.specs.Printed.{printed}
use Rattle.reply.proofs.Lengths.{printed_small}
use Rattle.meet.proofs.MeetExact.answer.Goals as goal

pub returns : goal.returns
returns c =
    (answered_exactly (λ said. said ≡ printed c.args.text.now) _ _ _ _ c.reply.ensures refl
    (λ long any. absurd (omega (arith, printed_small c.args.text.now, c.requires, long))))
