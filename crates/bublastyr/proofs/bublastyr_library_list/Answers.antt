-- `bublastyr::bublastyr_library_list` meets its contract. Assumes nothing.
use native.Mathlib.Omega.{arith}
use Rattle.library.proofs.Single.{list_small}
use Rattle.bublastyr.proofs.bublastyr_library_list.Goals as goal

pub overflow_cast-told : goal.overflow_cast-told
overflow_cast-told c =
    let h = list_small c.args.file.now c.args.entries.now _ c.list-answer.result c.list-answer.ensures in
    omega arith

pub returns : goal.returns
returns c =
    record { answer = c.list-answer.result; lists = c.list-answer.ensures; the_number = c.list_told-row.ensures.0; the_extent = c.list_told-row.ensures.1 }
