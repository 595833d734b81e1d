-- `classes::ask::target_of` meets its contract. Assumes nothing.
use Prim.Native.Nat.{ℕ, suc}
use mathlib.Core.Path.{sym, ◌∙◌, subst}
use mathlib.Core.Logic.{⊎_elim}
use native.Mathlib.Omega.{arith}
use lib.ListN.{get_or}
use Rattle.area.specs.Region.{loaded_words}
use Rattle.forest.specs.State.{Runs, Looked}
use Rattle.classes.specs.Holds.{Classed}
use Rattle.forest.proofs.Contents.{told_arcs, told_other}
use Rattle.classes.proofs.Answers.{asked_low, asked-runs, target-bare, target-void, target_none, target_low, target-there}
use Rattle.classes.proofs.ask.target_of.Goals as goal

pub held_by-requires : goal.held_by-requires
held_by-requires c =
    let l = asked_low c.args.n.count c.args.w.now c.args.x c.requires.x_lt_n c.class_of-c.result c.class_of-c.ensures c.requires.labelled in
    omega arith

pub returns-in_default : goal.returns-in_default
returns-in_default c =
    ⊎_elim (target-void c.args.n.count c.args.w.now c.args.x c.requires.x_lt_n c.class_of-c.result c.class_of-c.ensures c.args.f)
    (target-bare c.args.n.count c.args.w.now c.args.x c.requires.x_lt_n c.class_of-c.result c.class_of-c.ensures c.args.f)
    (told_other _ _ _ c.held_by.ensures c.in_default.not-Arcs)

pub look-requires : goal.look-requires
look-requires c =
    let chain = told_arcs _ _ _ (sym c.held_by.ensures ∙ c.in-Arcs.is) in
    record {
      runs = subst (Runs c.args.w.now) (sym chain.0)
          (asked-runs c.args.n.count c.args.w.now c.args.x c.requires.x_lt_n
          c.class_of-c.result c.class_of-c.ensures
          c.requires.labelled (omega arith));
    }

pub returns-in_err-arc : goal.returns-in_err-arc
returns-in_err-arc c =
    let chain = told_arcs _ _ _ (sym c.held_by.ensures ∙ c.in-Arcs.is) in
    rw c.from_residual.ensures
    (target_none c.args.n.count c.args.w.now c.args.x c.requires.x_lt_n c.class_of-c.result c.class_of-c.ensures c.args.f (omega arith)
    (subst (λ (z : ℕ). Looked (loaded_words c.args.w.now) c.args.w.now c.args.f z 0) chain.0 c.in_err-arc.ensures))

pub target-y-requires : goal.target-y-requires
target-y-requires c =
    let chain = told_arcs _ _ _ (sym c.held_by.ensures ∙ c.in-Arcs.is) in
    let k : Looked (loaded_words c.args.w.now) c.args.w.now c.args.f (get_or c.args.w.now c.class_of-c.result 0)
    (suc c.in_ok-arc.arc) = subst (λ (z : ℕ). Looked (loaded_words c.args.w.now) c.args.w.now c.args.f z (suc c.in_ok-arc.arc))
    chain.0 c.in_ok-arc.ensures in (target_low c.args.n.count c.args.w.now c.args.x c.requires.x_lt_n
    c.class_of-c.result c.class_of-c.ensures c.args.f
    (omega arith) c.in_ok-arc.arc
    k
    c.requires.labelled).0

pub class_of-requires : goal.class_of-requires
class_of-requires c =
    let chain = told_arcs _ _ _ (sym c.held_by.ensures ∙ c.in-Arcs.is) in
    let k : Looked (loaded_words c.args.w.now) c.args.w.now c.args.f (get_or c.args.w.now c.class_of-c.result 0)
    (suc c.in_ok-arc.arc) =
    subst (λ (z : ℕ). Looked (loaded_words c.args.w.now) c.args.w.now c.args.f z (suc c.in_ok-arc.arc)) chain.0
    c.in_ok-arc.ensures in
    let l = (target_low c.args.n.count c.args.w.now c.args.x c.requires.x_lt_n
    c.class_of-c.result
    c.class_of-c.ensures c.args.f (omega arith)
    c.in_ok-arc.arc
    k
    c.requires.labelled).1 in
    record {
      x_lt_n = omega arith;
      labelled = c.requires.labelled;
    }

pub returns : goal.returns
returns c =
    let chain = told_arcs _ _ _ (sym c.held_by.ensures ∙ c.in-Arcs.is) in
    let k : Looked (loaded_words c.args.w.now) c.args.w.now c.args.f (get_or c.args.w.now c.class_of-c.result 0)
    (suc c.in_ok-arc.arc) =
    subst (λ (z : ℕ). Looked (loaded_words c.args.w.now) c.args.w.now c.args.f z (suc c.in_ok-arc.arc))
    chain.0 c.in_ok-arc.ensures in
    let v = subst (λ (z : ℕ). Classed c.args.n.count c.args.w.now z c.class_of.result) c.target-y.ensures c.class_of.ensures in
    target-there c.args.n.count c.args.w.now c.args.x c.requires.x_lt_n
    c.class_of-c.result
    c.class_of-c.ensures c.args.f
    (omega arith) c.in_ok-arc.arc
    k
    c.class_of.result v
