-- `bublastyr::bublastyr_library_read` meets its contract. Assumes nothing.
use native.Mathlib.Omega.{arith}
use Rattle.library.proofs.Single.{fetch_small}
use Rattle.bublastyr.proofs.bublastyr_library_read.Goals as goal

pub overflow_cast-told : goal.overflow_cast-told
overflow_cast-told c =
    let h = fetch_small c.args.file.now _ c.args.res.now _ c.fetch-answer.result c.fetch-answer.ensures in
    omega arith

pub returns : goal.returns
returns c =
    record { answer = c.fetch-answer.result; fetches = c.fetch-answer.ensures; the_number = c.fetch_told-row.ensures.0; the_extent = c.fetch_told-row.ensures.1 }
