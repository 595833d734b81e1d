-- `sieving::gather::gather` meets its contract. The loop's invariant: a feature is on the chain where it is found from the arc that is
-- noted for it on, or ahead. Assumes nothing.
use Prim.Native.Nat.{ℕ, ◌%◌, ◌<◌}
use mathlib.Core.Path.{refl, sym, ap, ◌∙◌, subst}
use mathlib.Core.Logic.{⊎_elim}
use native.Mathlib.Omega.{arith}
use lib.ListN.{length}
use Rattle.forest.specs.State.{Runs}
use Rattle.forest.proofs.Contents.{told_arcs, told_other}
use Rattle.forest.proofs.Walks.{some, runs_below, runs_less}
use Rattle.sieving.specs.Sieved.{Sieves}
use Rattle.sieving.proofs.Gathering.{Noted, noted_new, noted_old, note_start, note_turn, note_end, note_none, note_all}
use Rattle.sieving.proofs.Keeping.{roots_run}
use Rattle.sieving.proofs.gather.gather.Goals as goal
use Rattle.sieving.proofs.gather.gather.Goals.{then-t-i-eq0, else-t-i-eq0}

pub find-c-requires : goal.find-c-requires
find-c-requires c =
    record {
      i_lt_n = c.requires.n_nonzero.0;
      shape = c.requires.labelled.holds.state.shape;
    }

pub held_by-held-requires : goal.held_by-held-requires
held_by-held-requires c =
    omega arith

pub returns-in_default : goal.returns-in_default
returns-in_default c =
    let none = note_none _ _ _ c.requires.blank (told_other _ _ _ c.held_by-held.ensures c.in_default.not-Arcs) in
    note_all _ _ _ c.requires.labelled _ c.find-c.ensures none

pub loop-y-init : goal.loop-y-init
loop-y-init c =
    let chain = told_arcs _ _ _ (sym c.held_by-held.ensures ∙ c.in-Arcs.is) in
    let runs = roots_run _ _ c.requires.n_nonzero.0 c.requires.labelled _ c.find-c.ensures (omega arith) in
    (refl, note_start _ _ _ c.requires.blank (subst (Runs c.args.w.now) (sym chain.0) runs))

pub overflow_sub-j : goal.overflow_sub-j
overflow_sub-j c =
    some _ c.loop-y-test.true

pub loaded-requires : goal.loaded-requires
loaded-requires c = runs_below _ _ c.loop-y.invariant.1.runs (some _ c.loop-y-test.true)

pub bounds-t-i : goal.bounds-t-i
bounds-t-i c =
    omega (arith, c.loop-y.invariant.0, c.requires.n_nonzero.1)

pub overflow_cast-t : goal.overflow_cast-t
overflow_cast-t c =
    let l = runs_below _ _ c.loop-y.invariant.1.runs
    (some _ c.loop-y-test.true) in omega arith

pub bounds-t-i-then-t-i-eq0 : goal.bounds-t-i-then-t-i-eq0
bounds-t-i-then-t-i-eq0 c =
    omega (
      arith,
      c.loop-y.invariant.0,
      c.requires.n_nonzero.1,
    )

pub next-y-requires : goal.next-y-requires
next-y-requires c = runs_below _ _ c.loop-y.invariant.1.runs
    (some _ c.loop-y-test.true)

pub loop-y-smaller : goal.loop-y-smaller
loop-y-smaller c =
    runs_less _ _ _ c.loop-y.invariant.1.runs
    (some _ c.loop-y-test.true) c.next-y.ensures

pub loop-y-preserved : goal.loop-y-preserved
loop-y-preserved c =
    let i = c.wide-i.result % 256 in
    let l : i < length c.loop-y.t = omega (
      arith,
      c.loop-y.invariant.0,
      c.requires.n_nonzero.1,
    ) in
    let n : Noted c.loop-y.t i c.loop-y.y c.if-t-i-eq0.t =
    elim c.if-t-i-eq0.branch [
      | then-t-i-eq0 u ↦ noted_new _ _ _ _ l u.if-t-i-eq0.true u.t-is
      | else-t-i-eq0 u ↦ noted_old _ _ _ _ u.if-t-i-eq0.false u.t-is
    ] in (
      n.len ∙ c.loop-y.invariant.0,
      note_turn _ _ _ _ c.loop-y.invariant.1 c.loop-y-test.true _ c.next-y.ensures _
          (ap (λ (z : ℕ). z % 256) (c.wide-i.ensures ∙ c.loaded.ensures)) _ n,
    )

pub shape_of-t : goal.shape_of-t
shape_of-t c =
    c.loop-y.invariant.0

pub returns : goal.returns
returns c =
    let chain = told_arcs _ _ _ (sym c.held_by-held.ensures ∙ c.in-Arcs.is) in
    let told = note_end _ _ _ _ c.loop-y.invariant.1 c.loop-y-test.false in
    note_all _ _ _ c.requires.labelled _ c.find-c.ensures (subst (Sieves c.args.w.now c.loop-y.t) chain.0 told)
