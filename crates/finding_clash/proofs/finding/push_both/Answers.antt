-- `finding_clash::finding::push_both` meets its contract. Assumes nothing.
use mathlib.Core.Path.{refl}
use Rattle.finding_clash.proofs.Pushes.{asks_first, pushes_never, asks_second, pushes_both}
use Rattle.finding_clash.proofs.finding.push_both.Goals as goal

pub push-requires : goal.push-requires
push-requires c = asks_first _ _ _ c.start.ensures c.requires

pub returns-in_default : goal.returns-in_default
returns-in_default c = pushes_never _ _ _ c.start.ensures c.requires _ _ c.in_default.ensures refl

pub push-requires-2 : goal.push-requires-2
push-requires-2 c = asks_second _ _ _ c.start.ensures c.requires _ _ c.in-Some.ensures c.in-Some.k refl

pub returns : goal.returns
returns c = pushes_both _ _ _ c.start.ensures c.requires _ _ c.in-Some.ensures c.in-Some.k refl _ _ c.push-2.ensures
