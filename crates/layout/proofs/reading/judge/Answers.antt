-- `layout::reading::judge` meets its contract: the reading is sound and complete.
-- Assumes nothing.
use Rattle.layout.proofs.Whole.{judged_wrong, judged_end}
use Rattle.layout.proofs.reading.judge.Goals as goal

pub returns-in_default : goal.returns-in_default
returns-in_default c = judged_wrong _ (cc)

pub returns : goal.returns
returns c = judged_end _ _ (cc)
