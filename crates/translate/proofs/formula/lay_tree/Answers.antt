-- `translate::formula::lay_tree` meets its contract.
-- Assumes nothing.
use Rattle.std.proofs.lemmas.Result.{err_from_is_err_and}
use Rattle.signs.proofs.Going.{ok_or_err}
use native.Mathlib.Omega.{arith}
use Rattle.laying.specs.Laying.{Roomy}
use Rattle.laying.proofs.Held.{tabs}
use Rattle.translate.proofs.Trees.{lays_out, deep_told, laid_of, rows_told}
use Rattle.translate.proofs.formula.lay_tree.Goals as goal

pub lay-laid-requires-clause-lays_out : goal.lay-laid-requires-clause-lays_out
lay-laid-requires-clause-lays_out c = lays_out _ _ _ _ c.requires.1

pub returns-in_err-rows : goal.returns-in_err-rows
returns-in_err-rows c =
    let p = err_from_is_err_and c.from_residual.result c.from_residual.ensures.1 in
    let none = c.in_err-rows.ensures.ok_part in
    λ φ marked. rw (p.1, p.2, ok_or_err c.lay-laid.result _ _ none c.in_err-rows.ensures.value)
    (deep_told φ _ _ _ marked _ c.lay-laid.result c.lay-laid.ensures none _)

pub settle_rows-requires : goal.settle_rows-requires
settle_rows-requires c =
    let room : Roomy (tabs c.lay-laid.new.arcs c.lay-laid.new.atoms c.lay-laid.new.ties c.lay-laid.new.alts c.lay-laid.new.frames) = record {
      arcs = omega arith;
      atoms = omega arith;
      ties = omega arith;
      alts = omega arith;
      frames = omega arith;
    } in
    (c.requires.0, laid_of _ _ _ _ c.requires.1 _ c.lay-laid.result c.lay-laid.ensures _ c.in_ok-rows.ensures.ok_part room)

pub returns : goal.returns
returns c =
    let room : Roomy (tabs c.lay-laid.new.arcs c.lay-laid.new.atoms c.lay-laid.new.ties c.lay-laid.new.alts c.lay-laid.new.frames) = record {
      arcs = omega arith;
      atoms = omega arith;
      ties = omega arith;
      alts = omega arith;
      frames = omega arith;
    } in
    let some = c.in_ok-rows.ensures.ok_part in
    λ φ marked. rows_told φ _ _ _ marked _ c.lay-laid.result c.lay-laid.ensures _ some _ c.settle_rows.result _
    (c.settle_rows.ensures φ (laid_of φ _ _ _ marked _ c.lay-laid.result c.lay-laid.ensures _ some room))
