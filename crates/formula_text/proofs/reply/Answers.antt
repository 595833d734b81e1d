-- `formula_text::reply` meets its contract.
-- Assumes nothing.
use mathlib.Core.Path.{refl}
use Rattle.std.specs.Prelude.{replicate}
use Rattle.formula_text.proofs.Printing.{replied}
use Rattle.formula_text.proofs.reply.Goals as goal

pub returns : goal.returns
returns c =
    replied c.args.text.now (replicate 1024 0) refl c.formula-answer.result c.formula-answer.new.res c.formula-answer.ensures _
    c.told-length.ensures.1 c.args.out.now c.write_formula.new.dst c.write_formula.result c.write_formula.ensures
