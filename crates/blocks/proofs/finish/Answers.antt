-- `blocks::finish` meets its contract.
-- Assumes nothing.
use Rattle.blocks.proofs.Laws.{finished}
use Rattle.blocks.proofs.finish.Goals as goal

pub returns : goal.returns
returns c =
    finished c.args.bytes.now c.fill.new.self c.seal.new.block c.args.used c.args.number c.requires.0 c.requires.1
    (c.fill.ensures.after (λ y e. e)) c.seal.ensures
