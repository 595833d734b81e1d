-- `rows::flags::mark_groups` meets its contract.
-- Assumes nothing.
use mathlib.Core.Path.{◌∙◌}
use mathlib.Core.Bool.{false}
use native.Mathlib.Omega.{arith}
use lib.ListN.{length-set}
use Rattle.rows.proofs.Turns.{going_start, going_turning, going_on, going_end}
use Rattle.rows.proofs.flags.mark_groups.Goals as goal

pub turn-top-requires-clause-i_in_bounds : goal.turn-top-requires-clause-i_in_bounds
turn-top-requires-clause-i_in_bounds c =
    let few = (c.loop-i.invariant c.requires.signs (going_start _ _ _ c.requires)).few in
    let room = c.requires.room in
    let size = length-set c.args.flags.now 0 false in
    (omega arith, omega arith)

pub turn-top-requires-clause-sign_turning : goal.turn-top-requires-clause-sign_turning
turn-top-requires-clause-sign_turning c =
    going_turning c.requires.signs _ _ _ _ _ c.loop-i-test.true (c.loop-i.invariant c.requires.signs (going_start _ _ _ c.requires))

pub loop-i-preserved : goal.loop-i-preserved
loop-i-preserved c =
    λ ts g. going_on ts _ _ _ _ _ c.loop-i-test.true (c.loop-i.invariant ts g) c.turn-top.result _ _ c.turn-top.ensures

pub last-requires : goal.last-requires
last-requires c =
    let few = (c.loop-i.invariant c.requires.signs (going_start _ _ _ c.requires)).few in
    let room = c.requires.room in
    let size = length-set c.args.flags.now 0 false in
    omega arith

pub returns : goal.returns
returns c =
    record {
      written = λ p. (going_end p.signs _ c.loop-i.signs c.loop-i.flags c.loop-i.top c.loop-i.i (omega arith)
          (c.loop-i.invariant p.signs (going_start _ _ _ p))).0;
      whole = λ p. c.last.ensures ∙ (going_end p.signs _ c.loop-i.signs c.loop-i.flags c.loop-i.top c.loop-i.i (omega arith)
          (c.loop-i.invariant p.signs (going_start _ _ _ p))).1;
    }
