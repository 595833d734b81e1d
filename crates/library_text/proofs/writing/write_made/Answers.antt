-- `library_text::writing::write_made` meets its contract: after 0 the line and the bytes, else the number alone.
-- Assumes nothing.
use Prim.Native.Nat.{ℕ}
use native.Mathlib.Omega.{arith}
use mathlib.Core.Path.{refl, sym, ap, ◌∙◌}
use mathlib.Core.List.{List, ◌++◌}
use lib.ListN.{take}
use lib.Seq.{length-take-le}
use Rattle.std.specs.Prelude.{Some, None}
use Rattle.answer_text.proofs.Goings.{both, first_stops, wrote}
use Rattle.library_text.specs.Lines.{bytes_label, number_line, extent_line}
use Rattle.library_text.specs.Serves.{made_text}
use Rattle.library_text.proofs.Parts.{wrote_as}
use Rattle.library_text.proofs.Tellings.{made_within, made_printed, made_refused}
use Rattle.library_text.proofs.writing.write_made.Goals as goal

pub returns-in_err-at-in-Ok : goal.returns-in_err-at-in-Ok
returns-in_err-at-in-Ok c =
    let one : List ℕ = extent_line 0 bytes_label c.in-Ok.bytes in
    let two : List ℕ = take c.in-Ok.bytes c.write.new.file in
    rw c.from_residual.ensures
    (wrote_as (one ++ two) (made_text c.args.entries.now c.args.words.now) c.args.out.now c.put_extent_line.new.dst None
    (made_printed c.args.entries.now c.args.words.now c.args.file.now c.write.new.file c.requires c.in-Ok.bytes c.in-Ok.ensures c.write.auto.file)
    (wrote (one ++ two) c.args.out.now c.put_extent_line.new.dst None
    (first_stops one two c.args.out.now c.put_extent_line.new.dst 0 None c.in_err-at-in-Ok.ensures refl)))

pub slice_bounds-put_run-end : goal.slice_bounds-put_run-end
slice_bounds-put_run-end c =
    let h = made_within c.args.entries.now c.args.words.now c.args.file.now c.write.new.file c.requires c.in-Ok.bytes c.in-Ok.ensures in
    omega arith

pub slice_bounds-put_run-end-in-Ok : goal.slice_bounds-put_run-end-in-Ok
slice_bounds-put_run-end-in-Ok c =
    let h = made_within c.args.entries.now c.args.words.now c.args.file.now c.write.new.file c.requires c.in-Ok.bytes c.in-Ok.ensures in
    sym (length-take-le c.in-Ok.bytes c.write.new.file (omega arith))

pub returns-in_ok-at-in-Ok : goal.returns-in_ok-at-in-Ok
returns-in_ok-at-in-Ok c =
    let one : List ℕ = extent_line 0 bytes_label c.in-Ok.bytes in
    let two : List ℕ = take c.in-Ok.bytes c.write.new.file in
    wrote_as (one ++ two) (made_text c.args.entries.now c.args.words.now) c.args.out.now c.put_run.new.dst c.put_run.result
    (made_printed c.args.entries.now c.args.words.now c.args.file.now c.write.new.file c.requires c.in-Ok.bytes c.in-Ok.ensures c.write.auto.file)
    (wrote (one ++ two) c.args.out.now c.put_run.new.dst c.put_run.result
    (both one two c.args.out.now c.put_extent_line.new.dst 0 (Some c.in_ok-at-in-Ok.at) c.in_ok-at-in-Ok.ensures c.in_ok-at-in-Ok.at refl c.put_run.new.dst c.put_run.result c.put_run.ensures))

pub returns-in-Err : goal.returns-in-Err
returns-in-Err c =
    wrote_as (number_line c.from.result.number) (made_text c.args.entries.now c.args.words.now) c.args.out.now c.put_number_line.new.dst c.put_number_line.result
    (ap number_line c.from.ensures.0 ∙ made_refused c.args.entries.now c.args.words.now c.args.file.now c.write.new.file c.requires c.in-Err.error c.in-Err.ensures)
    (wrote (number_line c.from.result.number) c.args.out.now c.put_number_line.new.dst c.put_number_line.result c.put_number_line.ensures)
