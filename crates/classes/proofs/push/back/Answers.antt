-- `classes::push::back` meets its contract. Assumes nothing.
use Rattle.classes.proofs.Laws.{backs}
use Rattle.classes.proofs.push.back.Goals as goal

pub returns : goal.returns
returns c =
    backs c.args.m c.args.k c.args.w.now c.undo.new.w c.undo.ensures c.requires.w₀ c.requires.since
