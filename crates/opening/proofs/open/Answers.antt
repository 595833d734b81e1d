-- `opening::open` meets its contract.
-- Assumes nothing.
use mathlib.Core.Path.{refl}
use Rattle.opening.proofs.Opens.{nodes_few, asks_first, opens_clash, asks_second, opens_clash_2, opens_joined}
use Rattle.opening.proofs.open.Goals as goal

pub push-requires : goal.push-requires
push-requires c =
    asks_first c.args.w.now c.args.a.now c.args.b.now c.load_both-count.new.t c.requires c.load_both-count.result c.load_both-count.ensures c.start.new.w c.start.ensures

pub returns-in_err-first : goal.returns-in_err-first
returns-in_err-first c =
    rw c.from_residual.ensures
    (opens_clash c.args.w.now c.args.a.now c.args.b.now c.load_both-count.new.t c.requires c.load_both-count.result c.load_both-count.ensures c.start.new.w c.start.ensures c.push.new.w
    _ c.in_err-first.ensures refl)

pub push-requires-2 : goal.push-requires-2
push-requires-2 c =
    asks_second c.args.w.now c.args.a.now c.args.b.now c.load_both-count.new.t c.requires c.load_both-count.result c.load_both-count.ensures c.start.new.w c.start.ensures c.push.new.w
    _ c.in_ok-first.ensures c.in_ok-first.first refl

pub returns-in_err-log : goal.returns-in_err-log
returns-in_err-log c =
    rw c.from_residual-in_err-log.ensures
    (opens_clash_2 c.args.w.now c.args.a.now c.args.b.now c.load_both-count.new.t c.requires c.load_both-count.result c.load_both-count.ensures c.start.new.w c.start.ensures c.push.new.w
    _ c.in_ok-first.ensures c.in_ok-first.first refl c.push-2.new.w _ c.in_err-log.ensures refl)

pub returns : goal.returns
returns c =
    opens_joined c.args.w.now c.args.a.now c.args.b.now c.load_both-count.new.t c.requires c.load_both-count.result c.load_both-count.ensures c.start.new.w c.start.ensures c.push.new.w
    _ c.in_ok-first.ensures c.in_ok-first.first refl c.push-2.new.w _ c.in_ok-log.ensures _ refl c.in_ok-log.log refl

pub invariant_of-nodes : goal.invariant_of-nodes
invariant_of-nodes c = record {
  in_area = nodes_few c.args.w.now c.args.a.now c.args.b.now c.load_both-count.new.t c.requires c.load_both-count.result c.load_both-count.ensures c.start.new.w c.start.ensures;
}
