-- What may be said is what comes of the text alone.
use Rattle.std.proofs.Common.{length, take}
use Rattle.reply.specs.Printed.{printed}
use Rattle.programs.proofs.Printing.{one_text}
use Rattle.meet.proofs.run.Goals as goal

pub returns : goal.returns
returns g c = one_text _ _ _ _ (λ all. printed (take (length c.args.text.now) all)) c.run.ensures
