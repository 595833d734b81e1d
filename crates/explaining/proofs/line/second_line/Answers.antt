-- `explaining::line::second_line` meets its contract.
-- Assumes nothing.
use native.Mathlib.Omega.{arith}
use Rattle.explaining.proofs.Lines.{lined_node, nothing_above, nothing_neither, nothing_long, lined_first, lined_second}
use Rattle.explaining.proofs.line.second_line.Goals as goal

pub returns-then-number-eq6 : goal.returns-then-number-eq6
returns-then-number-eq6 c = lined_node _ c.args.number c.args.node c.requires.0 c.requires.1 (omega arith)

pub returns-then-mode-gt2 : goal.returns-then-mode-gt2
returns-then-mode-gt2 c = (nothing_above _ (omega arith), omega arith)

pub returns-in-Some-First : goal.returns-in-Some-First
returns-in-Some-First c =
    let found = rw c.in-Some-First.field-0-is at c.in-Some-First.ensures in
    (lined_first _ (omega arith) _ _ found c.fault_line.ensures.0, c.fault_line.ensures.1)

pub returns-in-Some-Second : goal.returns-in-Some-Second
returns-in-Some-Second c =
    let found = rw c.in-Some-Second.field-0-is at c.in-Some-Second.ensures in
    (lined_second _ (omega arith) _ _ found c.fault_line-in-Some-Second.ensures.0, c.fault_line-in-Some-Second.ensures.1)

pub returns-in-Some-TooLong : goal.returns-in-Some-TooLong
returns-in-Some-TooLong c =
    let found = rw c.in-Some-TooLong.field-0-is at c.in-Some-TooLong.ensures in
    (nothing_long _ (omega arith) found, omega arith)

pub returns-in-None : goal.returns-in-None
returns-in-None c = (nothing_neither _ (omega arith) c.in-None.ensures (λ e. omega arith), omega arith)
