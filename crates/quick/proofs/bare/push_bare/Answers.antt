-- `quick::bare::push_bare` meets its contract: the graph is pushed and taken back, or clashes.
-- Assumes nothing.
use Rattle.quick.proofs.Plain.{bare_clash, bare_stands}
use Rattle.quick.proofs.bare.push_bare.Goals as goal

pub returns-in_err-log : goal.returns-in_err-log
returns-in_err-log c =
    rw c.from_residual.ensures (record { tries = λ left e z. bare_clash _ _ _ _ left _ _ c.push.ensures e c.in_err-log.was })

pub back-requires : goal.back-requires
back-requires c = record { w₀ = c.args.w.now; since = (c.push.ensures.inside _ c.in_ok-log.was).0 }

pub returns : goal.returns
returns c =
    record { tries = λ left e z. bare_stands _ _ _ _ left _ _ c.push.ensures e _ c.in_ok-log.was z _ c.back.ensures }
