-- `answer_text::answer::write_bad` meets its contract.
-- Assumes nothing.
use Rattle.answer_text.specs.Answer.{bad_text}
use Rattle.answer_text.proofs.Goings.{wrote}
use Rattle.answer_text.proofs.answer.write_bad.Goals as goal

pub returns : goal.returns
returns c = wrote bad_text c.args.dst.now c.put_run.new.dst c.put_run.result c.put_run.ensures
