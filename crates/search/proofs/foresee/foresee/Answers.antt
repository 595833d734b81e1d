-- `search::foresee::foresee` meets its contract. Assumes nothing.
use Prim.Native.Nat.{ℕ}
use mathlib.Core.Path.{◌≡◌, sym, ap, subst, ◌∙◌}
use mathlib.Core.Logic.{⊎_elim}
use native.Mathlib.Omega.{arith}
use Rattle.marks.specs.Positions.{disjunctions_at}
use Rattle.trying.specs.Guessed.{Guesses}
use Rattle.search.proofs.Foreseeing.{foresee_asks, foresee_here, foresees_unsure, foresees_other, foresees_one}
use Rattle.search.proofs.foresee.foresee.Goals as goal

pub guess-told-requires : goal.guess-told-requires
guess-told-requires c = foresee_asks _ _ _ _ _ c.requires

pub returns-in_default : goal.returns-in_default
returns-in_default c = foresees_other _ _ _ _ _ c.guess-told.result c.guess-told.ensures
    c.in_default.not-Agrees

pub returns-then-left-ne0 : goal.returns-then-left-ne0
returns-then-left-ne0 c = foresees_unsure _ _ _ _ _

pub tail_at-e-requires : goal.tail_at-e-requires
tail_at-e-requires c = (foresee_here _ _ _ _ _ c.requires).0.0

pub disjunctions_at-more-requires : goal.disjunctions_at-more-requires
disjunctions_at-more-requires c =
    let h = foresee_here _ _ _ _ _ c.requires in
    let l = h.1 in
    omega arith

pub returns-then-more-ne0 : goal.returns-then-more-ne0
returns-then-more-ne0 c = foresees_unsure _ _ _ _ _

pub returns : goal.returns
returns c =
    let none = ap (disjunctions_at c.args.w.now) (sym c.tail_at-e.ensures) ∙ sym c.disjunctions_at-more.ensures
    ∙ c.if-more-ne0.false in
    foresees_one c.args.n.count c.args.k c.args.w.now c.args.g c.args.left c.if-left-ne0.false none
    (subst (Guesses c.args.n.count c.args.k c.args.w.now c.args.g) c.in-Agrees.is
    c.guess-told.ensures)
