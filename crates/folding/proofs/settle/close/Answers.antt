-- `folding::settle::close` meets its contract. Assumes nothing.
use mathlib.Core.Path.{sym}
use lib.Seq.{length-take-le}
use Rattle.formulas.specs.Sheet.{sheet_graph}
use Rattle.folding.proofs.Ending.{grows_less, grows_on}
use Rattle.folding.proofs.Closing.{drawn_fits, closed_words}
use Rattle.folding.proofs.settle.close.Goals as goal

pub slice_bounds-out-end : goal.slice_bounds-out-end
slice_bounds-out-end c =
    let p = c.requires.parting in
    drawn_fits (sheet_graph p.A) _ _ _ (c.part.ensures.1 p.A p.sound p.part) c.in-Ok.is

pub slice_bounds-put_all-end : goal.slice_bounds-put_all-end
slice_bounds-put_all-end c =
    let p = c.requires.parting in
    sym (length-take-le _ _ (drawn_fits (sheet_graph p.A) _ _ _ (c.part.ensures.1 p.A p.sound p.part) c.in-Ok.is))

pub returns-in-Ok : goal.returns-in-Ok
returns-in-Ok c = record {
  kept = grows_less _ _ _ _ (grows_on _ _ _ _ _ _ c.put-tail.ensures.grows c.put_all-whole.ensures.grows);
  answer = λ A s p. closed_words _ _ _ (sheet_graph A) _ _ _ (c.part.ensures.1 A s p) c.in-Ok.is
      _ _ _ _ c.put-tail.ensures c.put_all-whole.ensures;
}
