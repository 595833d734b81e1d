-- `library_text::lines::put_number_line` meets its contract.
-- Assumes nothing.
use Rattle.library_text.specs.Lines.{number_line}
use Rattle.library_text.proofs.lines.put_number_line.Goals as goal

pub returns : goal.returns
unfolding number_line
returns c = rw c.from.ensures at c.put_last.ensures
