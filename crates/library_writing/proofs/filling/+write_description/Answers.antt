-- The proof of the cycle of calls {write_description}. The measure is the number of words.
-- Assumes nothing.
use native.Mathlib.Omega.{arith}
use Rattle.library_writing.proofs.Poured.{one_block, no_block}
use Rattle.library_writing.proofs.filling.+write_description.Goals as goal

pub returns-in-Some : goal.returns-in-Some
returns-in-Some t c =
    let enough = c.in-Some.ensures.cases.2 in
    one_block c.write_block.new.bytes c.write_description.new.out c.args.words.now c.args.first c.first_part-here.result
    c.first_part-here.ensures (omega arith) c.write_block.ensures c.write_description.ensures

pub returns-in_default : goal.returns-in_default
returns-in_default t c =
    let short = c.in_default.ensures.cases in
    no_block c.args.out.now c.args.words.now c.args.first (omega arith) c.requires.0
