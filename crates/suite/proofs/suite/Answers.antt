-- `suite::suite` meets its contract. Assumes nothing.
use Rattle.std.proofs.Common.{refl, sym}
use Rattle.std.proofs.lemmas.Result.{err_from_is_err_and}
use Rattle.suite.proofs.Runs.{refused, found_fine, suited_refused, suited_run}
use Rattle.suite.proofs.suite.Goals as goal

pub returns-in_err-checked : goal.returns-in_err-checked
returns-in_err-checked c =
    let p = err_from_is_err_and c.from_residual.result c.from_residual.ensures.1 in
    rw (p.1, p.2) (suited_refused _ _ _ _ c.in_err-checked.ensures (refused c.in_err-checked.field-0.0))

pub each-all-requires : goal.each-all-requires
each-all-requires c = found_fine _ _ (sym c.in_ok-checked.ensures)

pub returns : goal.returns
returns c = suited_run _ _ _ _ _ c.in_ok-checked.ensures refl c.each-all.ensures
