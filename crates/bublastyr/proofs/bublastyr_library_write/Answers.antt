-- `bublastyr::bublastyr_library_write` meets its contract. Assumes nothing.
use native.Mathlib.Omega.{arith}
use Rattle.library_writing.proofs.Single.{write_small}
use Rattle.bublastyr.proofs.bublastyr_library_write.Goals as goal

pub overflow_cast-told : goal.overflow_cast-told
overflow_cast-told c =
    let h = write_small c.args.entries.now c.args.words.now c.args.file.now _ c.write-answer.result c.write-answer.ensures in
    omega arith

pub returns : goal.returns
returns c =
    record { answer = c.write-answer.result; writes = c.write-answer.ensures; the_number = c.write_told-row.ensures.0; the_extent = c.write_told-row.ensures.1 }
