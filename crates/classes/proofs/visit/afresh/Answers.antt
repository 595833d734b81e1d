-- `classes::visit::afresh` meets its contract. Assumes nothing.
use mathlib.Core.Path.{sym, ◌∙◌, subst}
use Prim.Native.Nat.{ℕ}
use native.Mathlib.Omega.{arith}
use Rattle.area.specs.Region.{loaded_words}
use Rattle.forest.specs.State.{Runs}
use Rattle.forest.specs.Order.{Risen}
use Rattle.forest.proofs.Contents.{told_nothing, told_arcs}
use Rattle.classes.proofs.Visits.{ordered_hint, hint_none, hint_first, class_runs}
use Rattle.classes.proofs.visit.afresh.Goals as goal

pub rises-requires : goal.rises-requires
rises-requires c =
    let chain = told_arcs _ _ _ (sym c.held_by.ensures ∙ c.in-Arcs.is) in record {
      runs = subst (Runs c.args.w.now) (sym chain.0)
          (class_runs c.requires.steady.F c.requires.steady.T c.args.n.count c.args.k c.args.w.now (omega arith) (omega arith) c.args.x (omega arith) c.find-c.result
          c.find-c.ensures c.requires.steady.G c.requires.steady.H c.requires.steady.state (omega arith));
    }

pub returns-in-Nothing : goal.returns-in-Nothing
returns-in-Nothing c =
    let none = told_nothing _ _ (sym c.held_by.ensures ∙ c.in-Nothing.is) in
    ordered_hint (loaded_words c.args.w.now) c.args.n.count c.args.k c.args.w.now c.args.x c.find-c.result 1 c.requires.steady c.find-c.ensures
    (hint_none (loaded_words c.args.w.now) c.args.w.now c.find-c.result none)

pub returns-then-rises : goal.returns-then-rises
returns-then-rises c =
    let F = loaded_words c.args.w.now in
    let chain = told_arcs _ _ _ (sym c.held_by.ensures ∙ c.in-Arcs.is) in
    ordered_hint F c.args.n.count c.args.k c.args.w.now c.args.x c.find-c.result 1 c.requires.steady c.find-c.ensures
    (hint_first F c.args.w.now c.find-c.result c.rises.result
    (subst (λ (z : ℕ). Risen F c.args.w.now z c.rises.result) chain.0 c.rises.ensures) c.if-rises.true)
