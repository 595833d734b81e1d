-- `translate::formula::settle_rows` meets its contract.
-- Assumes nothing.
use mathlib.Core.Path.{refl}
use native.Mathlib.Omega.{arith}
use Rattle.translate.proofs.Cutting.{long_taken, tabled_at}
use Rattle.translate.proofs.formula.settle_rows.Goals as goal

pub settle_in-requires : goal.settle_in-requires
settle_in-requires c =
    let few = c.requires.1.few in
    let same = c.wide-4.ensures in (
      (
        c.requires.0,
        tabled_at _ _ _ _ _ _ _ _ _ c.requires.1 _ _ _ _ c.wide.ensures c.wide-2.ensures c.wide-3.ensures
            (long_taken _ _ _ (omega arith) c.wide-4.ensures),
      ),
      refl,
    )

pub returns : goal.returns
returns c =
    λ φ laid.
    let few = laid.few in
    let same = c.wide-4.ensures in
    c.settle_in.ensures φ (tabled_at φ _ _ _ _ _ _ _ _ laid _ _ _ _ c.wide.ensures c.wide-2.ensures c.wide-3.ensures
    (long_taken _ _ _ (omega arith) c.wide-4.ensures))
