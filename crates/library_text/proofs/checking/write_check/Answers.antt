-- `library_text::checking::write_check` meets its contract.
-- Assumes nothing.
use mathlib.Core.Path.{sym, ap, ◌∙◌}
use Rattle.answer_text.proofs.Goings.{wrote}
use Rattle.library_text.specs.Lines.{number_line}
use Rattle.library_text.specs.Serves.{good_text, check_text}
use Rattle.library_text.proofs.Parts.{wrote_as}
use Rattle.library_text.proofs.Tellings.{check_printed}
use Rattle.library_text.proofs.checking.write_check.Goals as goal

pub returns-in-Ok : goal.returns-in-Ok
returns-in-Ok c =
    wrote_as (good_text c.args.file.now) (check_text c.args.file.now) c.args.out.now c.write_good.new.out c.write_good.result
    (check_printed c.args.file.now _ (sym c.in-Ok.is ∙ c.judge_index.ensures)) c.write_good.ensures

pub returns-in-Err : goal.returns-in-Err
returns-in-Err c =
    wrote_as (number_line c.from.result.number) (check_text c.args.file.now) c.args.out.now c.put_number_line.new.dst c.put_number_line.result
    (ap number_line c.from.ensures.0 ∙ check_printed c.args.file.now _ (sym c.in-Err.is ∙ c.judge_index.ensures))
    (wrote (number_line c.from.result.number) c.args.out.now c.put_number_line.new.dst c.put_number_line.result c.put_number_line.ensures)
