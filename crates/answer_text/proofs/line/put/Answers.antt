-- `answer_text::line::put` meets its contract.
-- Assumes nothing.
use Rattle.answer_text.proofs.Goings.{put_fits, put_stops}
use Rattle.answer_text.proofs.line.put.Goals as goal

pub returns-then-at-dst : goal.returns-then-at-dst
returns-then-at-dst c = put_fits _ _ _ c.if-at-dst.true

pub returns : goal.returns
returns c = put_stops _ _ _ c.if-at-dst.false
