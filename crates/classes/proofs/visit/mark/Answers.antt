-- `classes::visit::mark` meets its contract. Assumes nothing.
use Prim.Native.Nat.{ℕ}
use mathlib.Core.Path.{sym, ◌∙◌, subst}
use native.Mathlib.Omega.{arith}
use Rattle.area.specs.Region.{loaded_words}
use Rattle.area.specs.Log.{Stores}
use Rattle.area.proofs.Region.{held_at}
use Rattle.forest.specs.State.{targets}
use Rattle.forest.proofs.Contents.{told_nothing, told_arcs, told_atom}
use Rattle.classes.proofs.Visits.{mark_new, mark_clash, mark_same}
use Rattle.classes.proofs.visit.mark.Goals as goal

pub returns-in-Nothing : goal.returns-in-Nothing
returns-in-Nothing c =
    let none = told_nothing _ _
    (sym c.held_by.ensures ∙ c.in-Nothing.is) in
    mark_new (loaded_words c.args.w.now) (targets c.args.w.now) c.args.n.count c.args.k c.args.w.now (omega arith) (omega arith) c.args.x (omega arith) c.find-c.result c.find-c.ensures
    c.args.v c.requires.atom_code.0 none (omega arith) c.put.result c.put.new.w
    (subst (λ (i : ℕ). Stores c.args.k c.args.w.now i c.args.v c.put.result c.put.new.w) (held_at c.find-c.result) c.put.ensures)

pub returns-in-Arcs : goal.returns-in-Arcs
returns-in-Arcs c =
    let chain = told_arcs _ _ _ (sym c.held_by.ensures ∙ c.in-Arcs.is) in
    mark_clash (loaded_words c.args.w.now) (targets c.args.w.now) c.args.n.count c.args.k c.args.w.now (omega arith) (omega arith) c.args.x (omega arith) c.find-c.result
    c.find-c.ensures c.args.v c.requires.atom_code.0 c.requires.heading.state.logged (λ e. omega (arith, chain)) (λ e. omega (arith, chain, c.requires.atom_code.0))

pub returns-then-h-v : goal.returns-then-h-v
returns-then-h-v c =
    let bears = told_atom _ _ _ (sym c.held_by.ensures ∙ c.in-Atom.is) in
    mark_same (loaded_words c.args.w.now) (targets c.args.w.now) c.args.n.count c.args.k c.args.w.now (omega arith) (omega arith) c.args.x (omega arith) c.find-c.result
    c.find-c.ensures c.args.v c.requires.atom_code.0 c.requires.heading.state.logged (sym bears.0 ∙ c.if-h-v.true)

pub returns-else-h-v : goal.returns-else-h-v
returns-else-h-v c =
    let bears = told_atom _ _ _ (sym c.held_by.ensures ∙ c.in-Atom.is) in
    mark_clash (loaded_words c.args.w.now) (targets c.args.w.now) c.args.n.count c.args.k c.args.w.now (omega arith) (omega arith) c.args.x (omega arith) c.find-c.result
    c.find-c.ensures c.args.v c.requires.atom_code.0 c.requires.heading.state.logged (λ e. omega (arith, bears))
    (λ e. c.if-h-v.false (bears.0 ∙ e))
