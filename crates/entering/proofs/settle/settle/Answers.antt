-- `entering::settle::settle` meets its contract: none, one or several are left.
-- Assumes nothing.
use Rattle.entering.proofs.Alone.{counted}
use Rattle.entering.proofs.Settling.{settles_none, settles_several, asks_inner, settles_one}
use Rattle.entering.proofs.settle.settle.Goals as goal

pub count_kept-tally-requires : goal.count_kept-tally-requires
count_kept-tally-requires c = counted _ _ _ _ _ _ c.requires

pub enter-requires : goal.enter-requires
enter-requires c = asks_inner _ _ _ _ _ _ _ _ c.count_kept-tally.ensures _
    c.in-One.is c.requires

pub returns-in-Nothing : goal.returns-in-Nothing
returns-in-Nothing c = settles_none _ _ _ _ _ _ _ _ c.count_kept-tally.ensures c.requires
    c.in-Nothing.is

pub returns-in-One : goal.returns-in-One
returns-in-One c = settles_one _ _ _ _ _ _ _ _ c.count_kept-tally.ensures _
    c.in-One.is _ _ c.enter.ensures

pub returns-in-Several : goal.returns-in-Several
returns-in-Several c = settles_several _ _ _ _ _ _ _ _ c.count_kept-tally.ensures c.requires _
    c.in-Several.is
