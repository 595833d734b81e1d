-- `library::read::fetch` meets its contract.
-- Assumes nothing.
use mathlib.Core.Path.{sym, ◌∙◌}
use Rattle.library.proofs.Reading.{fetches_good}
use Rattle.library.proofs.read.fetch.Goals as goal

pub returns : goal.returns
returns c = fetches_good c.args.file.now c.args.identifier c.args.area.now c.read_indexed.new.area c.in_ok-count.count c.read_indexed.result (sym c.in_ok-count.was ∙ c.judge_index.ensures) (rw c.wide.ensures at c.read_indexed.ensures)
