-- `bublastyr::bublastyr_fit` meets its contract. Assumes nothing.
use mathlib.Core.Path.{sym, subst}
use Rattle.theory.specs.FitTest.{FitGiven}
use Rattle.bublastyr.proofs.bublastyr_fit.Goals as goal

pub returns : goal.returns
returns c = subst (λ x. FitGiven c.args.structure.now
    c.args.description.now x) (sym c.number.ensures) c.fit-verdict.ensures
