-- `search::search::note` meets its contract. Assumes nothing.
use Rattle.search.proofs.Finding.{notes_none, notes_some}
use native.Mathlib.Omega.{arith}
use Rattle.search.proofs.search.note.Goals as goal

pub returns-then-found-gt0 : goal.returns-then-found-gt0
returns-then-found-gt0 c = notes_some _ _ _ _ _ (omega arith)
    c.mark_at-x.ensures c.light.ensures

pub returns-else-found-gt0 : goal.returns-else-found-gt0
returns-else-found-gt0 c = notes_none _ _ _ (omega arith)
