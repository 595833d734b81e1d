-- `unify::making::complete` meets its contract: each return is what mode 2 makes. Assumes nothing.
use Rattle.unify.proofs.Completed.{asks_full, completes_many, completes_nothing, asks_show_full, completes_left}
use Rattle.unify.proofs.making.complete.Goals as goal

pub full-requires : goal.full-requires
full-requires c = asks_full _ _ _ _ c.douse.ensures c.requires

pub show-length-requires : goal.show-length-requires
show-length-requires c = asks_show_full _ _ _ _ c.douse.ensures c.full.result _ c.full.ensures _ _ c.in-Ok.is c.requires

pub returns-in-Err-TooMany : goal.returns-in-Err-TooMany
returns-in-Err-TooMany c = completes_many _ _ _ _ c.douse.ensures c.full.result _ c.full.ensures (cc)

pub returns-in-Err-NoChoice : goal.returns-in-Err-NoChoice
returns-in-Err-NoChoice c = completes_nothing _ _ _ _ c.douse.ensures c.full.result _ c.full.ensures (cc)

pub returns-in-Ok : goal.returns-in-Ok
returns-in-Ok c =
    completes_left _ _ _ _ c.douse.ensures c.full.result _ c.full.ensures _ _ c.in-Ok.is _ _ c.show-length.ensures
