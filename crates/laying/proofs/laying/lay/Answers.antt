-- `laying::laying::lay` meets its contract.
-- Assumes nothing.
use mathlib.Core.Path.{refl}
use native.Mathlib.Omega.{arith}
use Rattle.laying.proofs.Along.{along_begin, sign_comes, along_next, along_deep, along_done, roomy_as}
use Rattle.laying.proofs.Held.{tabs}
use Rattle.laying.proofs.laying.lay.Goals as goal

pub loop-word-init : goal.loop-word-init
loop-word-init c =
    let T = tabs c.args.arcs.now c.args.atoms.now c.args.ties.now c.args.alts.now c.args.frames.now in (
      roomy_as T _ c.requires.roomy refl refl refl c.begin-at.auto.alts refl,
      along_begin T _ _ _ _ c.begin-at.result c.begin-at.ensures.0 c.begin-at.ensures.1,
    )

pub sign-requires : goal.sign-requires
sign-requires c =
    let laid = c.requires.lays_out in
    sign_comes _ _ _ _ _ _ (c.loop-word.invariant.1 laid) c.loop-word-test.true laid.few laid.short c.loop-word.invariant.0 _ refl

pub returns-in_err-at : goal.returns-in_err-at
returns-in_err-at c =
    λ laid. rw c.from_residual.ensures (along_deep _ _ _ _ _ _ (c.loop-word.invariant.1 laid) c.loop-word-test.true laid.few
    laid.short c.loop-word.invariant.0 _ refl _ c.sign.result c.in_err-at.was c.sign.ensures)

pub loop-word-preserved : goal.loop-word-preserved
loop-word-preserved c = (
  roomy_as _ _ c.loop-word.invariant.0 c.sign.auto.arcs c.sign.auto.atoms c.sign.auto.ties c.sign.auto.alts c.sign.auto.frames,
  λ laid. along_next _ _ _ _ _ _ (c.loop-word.invariant.1 laid) c.loop-word-test.true laid.few laid.short c.loop-word.invariant.0 _ refl _ _
      c.sign.result c.in_ok-at.was c.sign.ensures,
)

pub overflow_sub-result : goal.overflow_sub-result
overflow_sub-result c =
    let so_far = (c.loop-word.invariant.1 c.requires.lays_out).so_far in
    let spots = so_far.views.spots in
    let count = so_far.stands.spots in
    omega arith

pub returns : goal.returns
returns c = λ laid. along_done _ _ _ _ _ _ (c.loop-word.invariant.1 laid) (omega arith)
