-- `classes::ask::atom_of` meets its contract. Assumes nothing.
use mathlib.Core.Path.{sym, ◌∙◌, subst}
use Prim.Native.Nat.{ℕ, ◌-◌}
use mathlib.Core.Logic.{⊎_elim}
use native.Mathlib.Omega.{arith}
use Rattle.forest.proofs.Contents.{told_atom, told_chain}
use Rattle.classes.specs.Ask.{AtomOf}
use Rattle.std.specs.Prelude.{Some}
use Rattle.classes.proofs.Answers.{asked_low, asked-head, atom-there, atom-none}
use Rattle.classes.proofs.ask.atom_of.Goals as goal

pub held_by-requires : goal.held_by-requires
held_by-requires c =
    let l = asked_low c.args.n.count c.args.w.now c.args.x c.requires.x_lt_n c.class_of-c.result c.class_of-c.ensures c.requires.labelled in
    omega arith

pub overflow_sub-result : goal.overflow_sub-result
overflow_sub-result c =
    let bears = told_atom _ _ _ (sym c.held_by.ensures ∙ c.in-Atom.is) in
    let l = asked-head c.args.n.count c.args.w.now c.args.x c.requires.x_lt_n c.class_of-c.result c.class_of-c.ensures c.requires.labelled (omega arith) in
    omega arith

pub returns-in-Atom : goal.returns-in-Atom
returns-in-Atom c =
    let bears = told_atom _ _ _ (sym c.held_by.ensures ∙ c.in-Atom.is) in
    subst (λ (v : ℕ). AtomOf c.args.n.count c.args.w.now c.args.x (Some (v - 65536))) (sym bears.0)
    (atom-there c.args.n.count c.args.w.now c.args.x c.requires.x_lt_n c.class_of-c.result c.class_of-c.ensures (omega arith))

pub returns-in-Nothing : goal.returns-in-Nothing
returns-in-Nothing c =
    atom-none c.args.n.count c.args.w.now c.args.x c.requires.x_lt_n c.class_of-c.result c.class_of-c.ensures
    (told_chain _ _ _ c.held_by.ensures (λ x e. ⊎_elim (λ i. cc) (λ i. let k = i.1 in cc) c.in-Nothing.is))
