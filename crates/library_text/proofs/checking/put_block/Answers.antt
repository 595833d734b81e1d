-- `library_text::checking::put_block` meets its contract.
-- Assumes nothing.
use mathlib.Core.Path.{refl, sym, ◌∙◌}
use Rattle.std.specs.Prelude.{Some, None, Ok}
use Rattle.answer_text.proofs.Goings.{named}
use Rattle.library_text.specs.Lines.{cost_line}
use Rattle.library_text.specs.Serves.{block_line}
use Rattle.library_text.proofs.Tellings.{line_checked, line_none}
use Rattle.library_text.proofs.checking.put_block.Goals as goal

pub returns-in-Ok-Some : goal.returns-in-Ok-Some
returns-in-Ok-Some c =
    let said = sym c.in-Ok-Some.is ∙ c.check_held.ensures c.requires in
    named (cost_line c.args.k c.in-Ok-Some.identifier) (block_line c.args.k c.args.file.now) c.args.dst.now c.args.at c.put_cost.new.dst c.put_cost.result
    (line_checked c.args.k c.args.file.now (Ok (Some c.in-Ok-Some.identifier)) (rw c.in-Ok-Some.field-0-is at said)) c.put_cost.ensures

pub returns-in-Ok-None : goal.returns-in-Ok-None
returns-in-Ok-None c =
    let said = sym c.in-Ok-None.is ∙ c.check_held.ensures c.requires in
    line_none c.args.k c.args.file.now (Ok None) (rw c.in-Ok-None.field-0-is at said) refl c.args.dst.now c.args.at

pub returns-in-Err : goal.returns-in-Err
returns-in-Err c =
    let said = sym c.in-Err.is ∙ c.check_held.ensures c.requires in
    line_none c.args.k c.args.file.now _ said refl c.args.dst.now c.args.at
