-- `suite_lines::lines::put_name` meets its contract. Assumes nothing.
use native.Mathlib.Omega.{arith}
use Rattle.answer_text.proofs.Goings.{named}
use Rattle.suite_reading.specs.Text.{name_in}
use Rattle.suite_lines.proofs.Pieces.{unnamed, so_named}
use Rattle.suite_lines.proofs.lines.put_name.Goals as goal

pub returns-then-name : goal.returns-then-name
returns-then-name c =
    named _ _ c.args.out.now c.args.at c.put_labelled.new.dst c.put_labelled.result
    (unnamed c.args.run.now (name_in c.args.run.now) c.find_name-name.result.from c.find_name-name.result.to c.args.i
    c.find_name-name.ensures c.if-name.true) c.put_labelled.ensures

pub returns : goal.returns
returns c =
    named _ _ c.args.out.now c.args.at c.put_run.new.dst c.put_run.result
    (so_named c.args.run.now (name_in c.args.run.now) c.find_name-name.result.from c.find_name-name.result.to c.args.i
    c.find_name-name.ensures c.if-name.false) c.put_run.ensures
