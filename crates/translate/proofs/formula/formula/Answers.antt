-- `translate::formula::formula` meets its contract.
-- Assumes nothing.
use native.Mathlib.Omega.{arith}
use Rattle.signs.specs.Grammar.{Reads}
use Rattle.translate.proofs.Trees.{read_of, read_whole, told_translated}
use Rattle.translate.proofs.formula.formula.Goals as goal

pub returns : goal.returns
returns c =
    let short = c.in_ok-count.ensures.0 in
    let good = c.in_ok-count.ensures.1 in
    let reads : Reads c.args.text.now good.tree = record { signs = good.signs; spelt = good.spelt; formula = good.formula } in
    told_translated _ _ good.tree c.mark_tree.result _ short reads (c.mark_tree.ensures good.tree (read_whole good.tree _ _
    (read_of _ c.read_signs.new.signs _ good short (omega arith))))
