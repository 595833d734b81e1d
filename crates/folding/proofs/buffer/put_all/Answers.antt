-- `folding::buffer::put_all` meets its contract: the words that the iterator has given are written. Assumes nothing.
use native.Mathlib.Omega.{arith}
use Rattle.folding.proofs.Ending.{backwards_start, backwards_more, backwards_done}
use Rattle.folding.proofs.buffer.put_all.Goals as goal

pub loop-x-init : goal.loop-x-init
loop-x-init c = (
  tt,
  tt,
  backwards_start _ _ _ _ (omega arith)
      (rw (c.into_iter-x-iterator.ensures.into_iter_gives, c.rev-x-items.ensures.source) c.iter.ensures.rest),
)

pub put-at-requires : goal.put-at-requires
put-at-requires c = let g = c.loop-x.invariant.2.puts.grows in let same = g.same in let most = g.most in (omega arith, omega arith)

pub loop-x-preserved : goal.loop-x-preserved
loop-x-preserved c = (
  tt,
  tt,
  backwards_more _ _ _ _ _ _ c.loop-x.invariant.2 _ _ _ _ c.in-Some.ensures.steps c.put-at.ensures,
)

pub returns : goal.returns
returns c = backwards_done _ _ _ _ _ _ c.loop-x.invariant.2 c.in-None.ensures.steps.0
