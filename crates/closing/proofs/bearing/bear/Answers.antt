-- `closing::bearing::bear` meets its contract: each row passed has given its label an atom.
-- Assumes nothing.
use native.Mathlib.Omega.{arith}
use Rattle.closing.proofs.Atoms.{bear_start, bear_low, bear_arcs, bear_atoms, bear_step, bear_done}
use Rattle.closing.proofs.bearing.bear.Goals as goal
use Rattle.closing.proofs.bearing.bear.Goals.{
  then-heads-label-ne0-via-then-heads-label-ne0,
  then-heads-label-ne0-via-else-heads-label-ne0+then-against,
}

pub loop-row-init : goal.loop-row-init
loop-row-init c = bear_start _ _ _ _ c.requires

pub bounds-heads-label : goal.bounds-heads-label
bounds-heads-label c = bear_low _ _ _ _ _ _ c.requires c.loop-row.invariant (omega arith) _ _ c.spot.ensures c.wide-label.ensures

pub bounds-holds-label : goal.bounds-holds-label
bounds-holds-label c = bear_low _ _ _ _ _ _ c.requires c.loop-row.invariant (omega arith) _ _ c.spot.ensures c.wide-label.ensures

pub returns-then-heads-label-ne0 : goal.returns-then-heads-label-ne0
returns-then-heads-label-ne0 c = elim c.then-heads-label-ne0.branch [
  | then-heads-label-ne0-via-then-heads-label-ne0 w ↦ bear_arcs _ _ _ _ _ _ c.requires c.loop-row.invariant (omega arith) _ _ c.spot.ensures c.wide-label.ensures w.if-heads-label-ne0.true
  | then-heads-label-ne0-via-else-heads-label-ne0+then-against w ↦ let (a, is, other) = w.against.ensures.other w.if-against.true in
      bear_atoms _ _ _ _ _ _ c.requires c.loop-row.invariant (omega arith) _ _ c.spot.ensures c.wide-label.ensures _ c.mark-given.ensures a is other
]

pub bounds-holds-label-in-loop-row : goal.bounds-holds-label-in-loop-row
bounds-holds-label-in-loop-row c = bear_low _ _ _ _ _ _ c.requires c.loop-row.invariant (omega arith) _ _ c.spot.ensures c.wide-label.ensures

pub loop-row-preserved : goal.loop-row-preserved
loop-row-preserved c = bear_step _ _ _ _ _ _ c.requires c.loop-row.invariant (omega arith) _ _ c.spot.ensures c.wide-label.ensures
    _ c.mark-given.ensures c.if-heads-label-ne0.false (c.against.ensures.fine c.if-against.false)
    (omega (arith, c.mark-given.ensures))

pub returns : goal.returns
returns c = bear_done _ _ _ _ _ c.loop-row.invariant (omega arith)
