-- `signs::reading::scan` meets its contract.
-- Assumes nothing.
use mathlib.Core.Path.{refl, sym, subst}
use native.Mathlib.Omega.{arith}
use Rattle.std.proofs.lemmas.Result.{err_from_is_err_and}
use Rattle.signs.specs.Judged.{SignsJudged}
use Rattle.signs.proofs.Going.{going_start, going_few, going_small, going_last, going_next_small, going_on, going_stop}
use Rattle.signs.proofs.Going.{going_end, ok_or_err}
use Rattle.signs.proofs.reading.scan.Goals as goal

pub loop-at-init : goal.loop-at-init
loop-at-init c = going_start _ _

pub step-requires : goal.step-requires
step-requires c =
    let few = going_few _ _ _ _ _ _ c.loop-at.invariant in
    (omega arith, going_small _ _ _ _ _ _ c.loop-at.invariant)

pub returns-in_err-seen : goal.returns-in_err-seen
returns-in_err-seen c =
    let p = err_from_is_err_and c.from_residual.result c.from_residual.ensures.1 in
    rw (p.1, p.2, ok_or_err c.step.result _ _ c.in_err-seen.ensures.ok_part c.in_err-seen.ensures.value) (
      c.requires.0,
      going_stop _ _ _ _ _ _ c.loop-at.invariant _ c.step.result c.loop-at-test.true refl c.step.ensures c.in_err-seen.ensures.ok_part,
    )

pub note-count-requires : goal.note-count-requires
note-count-requires c =
    let o = c.loop-at.invariant.room in (
      omega arith,
      going_last _ _ _ _ _ _ c.loop-at.invariant,
      going_next_small _ _ _ _ _ _ c.loop-at.invariant _ c.step.result _ c.in_ok-seen.seen.groups c.loop-at-test.true refl
          c.step.ensures c.in_ok-seen.ensures.ok_part,
    )

pub loop-at-preserved : goal.loop-at-preserved
loop-at-preserved c =
    going_on _ _ _ _ _ _ c.loop-at.invariant _ c.step.result _ _ _ _ c.loop-at-test.true refl c.step.ensures
    c.in_ok-seen.ensures.ok_part
    c.note-count.ensures

pub returns : goal.returns
returns c =
    subst (SignsJudged c.args.text.now c.loop-at.signs) (sym c.ended.ensures)
    (going_end _ _ _ _ _ _ c.loop-at.invariant c.requires.0 (omega arith) (omega arith))
