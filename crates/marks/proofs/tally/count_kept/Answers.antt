-- `marks::tally::count_kept` meets its contract: what is left of the alternatives goes on to count them all. Assumes nothing.
use native.Mathlib.Omega.{arith}
use Rattle.marks.proofs.Tallying.{one, none, more, tally_read, tally_step, tally_all}
use Rattle.marks.proofs.tally.count_kept.Goals as goal
use Rattle.marks.proofs.tally.count_kept.Goals.{then-here, else-here+then-found-eq0, else-here+else-found-eq0}

pub mark_at-requires : goal.mark_at-requires
mark_at-requires c =
    let r = tally_read _ _ _ c.requires _ _ _ _ (c.loop.invariant.0 c.requires) (omega arith) in
    record { p_bound = r.0; p_bound_2 = r.1 }

pub after_at-at-requires : goal.after_at-at-requires
after_at-at-requires c =
    let r = tally_read _ _ _ c.requires _ _ _ _ (c.loop.invariant.0 c.requires) (omega arith) in
    record { p_bound = r.0; p_bound_2 = r.1 }

pub loop-preserved : goal.loop-preserved
loop-preserved c = (
  λ s. tally_step _ _ _ s _ _ _ _ _ _ _ _ (c.loop.invariant.0 s) (omega arith) c.after_at-at.ensures
      (elim c.if-here.branch [
        | then-here w ↦ one (cc) w.first-is w.found-is
        | else-here+then-found-eq0 w ↦ none (cc) w.if-found-eq0.true w.first-is w.found-is
        | else-here+else-found-eq0 w ↦ more (cc) w.if-found-eq0.false w.first-is w.found-is
      ]),
  elim c.if-here.branch [
    | then-here w ↦ omega arith
    | else-here+then-found-eq0 w ↦ omega arith
    | else-here+else-found-eq0 w ↦ omega arith
  ],
)

pub returns : goal.returns
returns c = λ s. tally_all _ _ _ s _ _ _ _ (c.loop.invariant.0 s) (omega arith) _ c.remnant_of.ensures
