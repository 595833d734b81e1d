-- `library::index::judge_index` meets its contract.
-- Assumes nothing.
use mathlib.Core.Path.{◌∙◌}
use Rattle.library.proofs.Opening.{starts}
use Rattle.library.proofs.index.judge_index.Goals as goal

pub returns : goal.returns
returns c =
    let first = c.in-Some.ensures.cases in
    c.judge_start.ensures ∙ starts c.args.file.now _ first.same c.if-file-ne0.false first.enough
