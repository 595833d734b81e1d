-- There is always room.
use Rattle.std.proofs.Common.{arith}
use Rattle.formula_text.specs.Printed.{Prints}
use Rattle.formula_text.proofs.Printing.{prints_small}
use Rattle.programs.proofs.Written.{answered_exactly}
use Rattle.formula.proofs.FormulaExact.answer.Goals as goal

pub returns : goal.returns
returns c =
    let replied = c.reply.ensures in
    (answered_exactly (Prints c.args.text.now) _ _ _ _ replied.wrote replied.prints
    (λ long any. absurd (omega (arith, prints_small c.args.text.now replied.text replied.prints, c.requires, long))))
