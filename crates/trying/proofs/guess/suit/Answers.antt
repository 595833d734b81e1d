-- `trying::guess::suit` meets its contract. Assumes nothing.
use Prim.Native.Nat.{ℕ, suc}
use mathlib.Core.Path.{refl, sym, ◌∙◌, subst}
use native.Mathlib.Omega.{arith}
use Rattle.classes.specs.Holds.{Classed}
use Rattle.forest.proofs.Contents.{told_arcs, told_atom}
use Rattle.trying.proofs.Suiting.{anchored_runs, suits_free, suits_low, suits_inside, suits_same, suits_other, suits_unsure}
use Rattle.trying.proofs.guess.suit.Goals as goal

pub look_through-requires : goal.look_through-requires
look_through-requires c =
    record {
      runs = anchored_runs c.args.n.count c.args.w.now c.args.x c.requires.anchored;
      sieves = c.requires.sieves;
    }

pub returns-in_default : goal.returns-in_default
returns-in_default c = suits_free c.args.n.count c.args.w.now c.args.x c.requires.anchored c.args.f c.args.v 0 c.in_default.ensures refl

pub target-y-requires : goal.target-y-requires
target-y-requires c = (suits_low c.args.n.count c.args.w.now c.args.x c.requires.anchored c.args.f c.args.v (suc c.in-Some.arc) c.in-Some.ensures c.in-Some.arc refl).0

pub class_of-c-requires : goal.class_of-c-requires
class_of-c-requires c =
    let l = (suits_low c.args.n.count c.args.w.now c.args.x c.requires.anchored c.args.f c.args.v (suc c.in-Some.arc) c.in-Some.ensures c.in-Some.arc refl).1 in
    record {
      x_lt_n = omega arith;
      labelled = c.requires.anchored.labelled;
    }

pub held_by-held-requires : goal.held_by-held-requires
held_by-held-requires c =
    let v = subst (λ (z : ℕ). Classed c.args.n.count c.args.w.now z c.class_of-c.result) c.target-y.ensures c.class_of-c.ensures in
    let l = suits_inside c.args.n.count c.args.w.now c.args.x c.requires.anchored c.args.f c.args.v (suc c.in-Some.arc) c.in-Some.ensures c.in-Some.arc refl c.class_of-c.result v in
    omega arith

pub returns-then-z-v : goal.returns-then-z-v
returns-then-z-v c =
    let v = subst (λ (z : ℕ). Classed c.args.n.count c.args.w.now z c.class_of-c.result)
    c.target-y.ensures c.class_of-c.ensures in
    let bears = told_atom _ _ _ (sym c.held_by-held.ensures ∙ c.in-Atom.is) in
    suits_same c.args.n.count c.args.w.now c.args.x c.requires.anchored c.args.f c.args.v (suc c.in-Some.arc) c.in-Some.ensures c.in-Some.arc refl c.class_of-c.result v
    (sym bears.0 ∙ c.if-z-v.true)

pub returns-in-Nothing : goal.returns-in-Nothing
returns-in-Nothing c = suits_unsure _ _ _ _

pub returns-in-Arcs : goal.returns-in-Arcs
returns-in-Arcs c =
    let v = subst (λ (z : ℕ). Classed c.args.n.count c.args.w.now z c.class_of-c.result) c.target-y.ensures
    c.class_of-c.ensures in
    let chain = told_arcs _ _ _ (sym c.held_by-held.ensures ∙ c.in-Arcs.is) in
    suits_other c.args.n.count c.args.w.now c.args.x c.requires.anchored c.args.f c.args.v (suc c.in-Some.arc) c.in-Some.ensures c.in-Some.arc refl c.class_of-c.result v
    (λ e. omega (arith, chain, c.requires.atom_code)) (λ e. omega (arith, chain))

pub returns-else-z-v : goal.returns-else-z-v
returns-else-z-v c =
    let v = subst (λ (z : ℕ). Classed c.args.n.count c.args.w.now z c.class_of-c.result)
    c.target-y.ensures c.class_of-c.ensures in
    let bears = told_atom _ _ _ (sym c.held_by-held.ensures ∙ c.in-Atom.is) in
    suits_other c.args.n.count c.args.w.now c.args.x c.requires.anchored c.args.f c.args.v (suc c.in-Some.arc) c.in-Some.ensures c.in-Some.arc refl c.class_of-c.result v
    (λ e. c.if-z-v.false (bears.0 ∙ e)) (λ e. omega (arith, bears))
