-- `library_text::reading::write_listed` meets its contract.
-- Assumes nothing.
use Prim.Native.Nat.{ℕ}
use native.Mathlib.Omega.{arith}
use lib.ListN.{length-replicate, take}
use Rattle.library_text.specs.Lines.{words_text}
use Rattle.library_text.specs.Serves.{list_text}
use Rattle.library_text.proofs.Parts.{wrote_as}
use Rattle.library_text.proofs.Tellings.{list_within, list_printed}
use Rattle.library_text.proofs.reading.write_listed.Goals as goal

pub write_words-requires : goal.write_words-requires
write_words-requires c =
    let h = list_within c.args.file.now _ c.list.new.area (length-replicate {A = ℕ} 120 0) c.list.result c.list.ensures in
    omega arith

pub returns : goal.returns
returns c =
    wrote_as (words_text c.list_told-row.result.number c.list_told-row.result.extent (take c.list_told-row.result.extent c.list.new.area)) (list_text c.args.file.now)
    c.args.out.now c.write_words.new.dst c.write_words.result
    (list_printed c.args.file.now _ c.list.new.area (length-replicate {A = ℕ} 120 0) c.list.result c.list.ensures c.list.auto.area
    c.list_told-row.result.number c.list_told-row.result.extent c.list_told-row.ensures.0 c.list_told-row.ensures.1)
    c.write_words.ensures
