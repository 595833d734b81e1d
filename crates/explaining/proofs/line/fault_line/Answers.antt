-- `explaining::line::fault_line` meets its contract.
-- Assumes nothing.
use native.Mathlib.Omega.{arith}
use Rattle.explaining.proofs.Lines.{told_of, fault_small}
use Rattle.explaining.proofs.line.fault_line.Goals as goal

pub returns : goal.returns
returns c = (
  told_of _ c.args.fault _ _ _ c.requires.1 c.cause_number.ensures c.word_at.ensures c.hint.ensures,
  fault_small _ _ _ _ (omega arith) (omega arith) (omega arith) (omega arith),
)
