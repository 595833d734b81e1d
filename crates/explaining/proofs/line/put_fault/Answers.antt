-- `explaining::line::put_fault` meets its contract: a piece after a piece is written.
-- Assumes nothing.
use mathlib.Core.List.{append_assoc}
use Rattle.explaining.specs.Explained.{fault_text}
use Rattle.explaining.proofs.line.put_fault.Goals as goal

pub returns-in_err-caused : goal.returns-in_err-caused
unfolding fault_text
returns-in_err-caused c = λ old whole left g.
    let one = rw c.from.ensures at c.in_err-caused.ensures in
    rw c.from_residual.ensures (one old whole _ (rw append_assoc at g))

pub returns-in_err-placed : goal.returns-in_err-placed
unfolding fault_text
returns-in_err-placed c = λ old whole left g.
    let one = rw c.from.ensures at c.in_ok-caused.ensures in
    rw c.from_residual-in_err-placed.ensures (c.in_err-placed.ensures old whole _ (rw append_assoc at (one old whole _ (rw append_assoc at g))))

pub returns-in_err-stood : goal.returns-in_err-stood
unfolding fault_text
returns-in_err-stood c = λ old whole left g.
    let one = rw c.from.ensures at c.in_ok-caused.ensures in
    let two = c.in_ok-placed.ensures old whole _ (rw append_assoc at (one old whole _ (rw append_assoc at g))) in
    let three = rw c.from-2.ensures at c.in_err-stood.ensures in
    rw c.from_residual-in_err-stood.ensures (three old whole _ (rw append_assoc at two))

pub returns : goal.returns
unfolding fault_text
returns c = λ old whole left g.
    let one = rw c.from.ensures at c.in_ok-caused.ensures in
    let two = c.in_ok-placed.ensures old whole _ (rw append_assoc at (one old whole _ (rw append_assoc at g))) in
    let three = rw c.from-2.ensures at c.in_ok-stood.ensures in
    let four = rw c.from-3.ensures at c.put_last.ensures in
    four old whole left (three old whole _ (rw append_assoc at two))
