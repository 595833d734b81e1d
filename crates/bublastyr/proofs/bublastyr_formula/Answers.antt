-- `bublastyr::bublastyr_formula` meets its contract. Assumes nothing.
use native.Mathlib.Omega.{arith}
use Rattle.translate.proofs.Answered.{told_small}
use Rattle.bublastyr.proofs.bublastyr_formula.Goals as goal

pub overflow_cast-told : goal.overflow_cast-told
overflow_cast-told c =
    let h = told_small c.args.text.now c.args.res.now c.formula-answer.result _ c.formula-answer.ensures in
    omega arith

pub overflow_cast-told-2 : goal.overflow_cast-told-2
overflow_cast-told-2 c =
    let h = told_small c.args.text.now c.args.res.now c.formula-answer.result _ c.formula-answer.ensures in
    omega arith

pub returns : goal.returns
returns c =
    record { answer = c.formula-answer.result; translated = c.formula-answer.ensures; the_number = c.told-row.ensures.0; the_extent = c.told-row.ensures.1; the_byte = c.told-row.ensures.2 }
