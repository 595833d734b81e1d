-- `library_text::reading::write_fetched` meets its contract.
-- Assumes nothing.
use Prim.Native.Nat.{ℕ}
use native.Mathlib.Omega.{arith}
use lib.ListN.{length-replicate, take}
use Rattle.library_text.specs.Lines.{words_text}
use Rattle.library_text.specs.Serves.{description_text}
use Rattle.library_text.proofs.Parts.{wrote_as}
use Rattle.library_text.proofs.Tellings.{fetch_within, fetch_printed}
use Rattle.library_text.proofs.reading.write_fetched.Goals as goal

pub write_words-requires : goal.write_words-requires
write_words-requires c =
    let h = fetch_within c.args.file.now c.args.identifier _ c.fetch.new.area (length-replicate {A = ℕ} 1024 0) c.fetch.result c.fetch.ensures in
    omega arith

pub returns : goal.returns
returns c =
    wrote_as (words_text c.fetch_told-row.result.number c.fetch_told-row.result.extent (take c.fetch_told-row.result.extent c.fetch.new.area)) (description_text c.args.identifier c.args.file.now)
    c.args.out.now c.write_words.new.dst c.write_words.result
    (fetch_printed c.args.file.now c.args.identifier _ c.fetch.new.area (length-replicate {A = ℕ} 1024 0) c.fetch.result c.fetch.ensures c.fetch.auto.area
    c.fetch_told-row.result.number c.fetch_told-row.result.extent c.fetch_told-row.ensures.0 c.fetch_told-row.ensures.1)
    c.write_words.ensures
