-- What was answered is printed.
use Rattle.std.proofs.Common.{List, ℕ, length, sym, arith}
use Rattle.std.specs.Io.KnownBytes.{Appends}
use Rattle.std.specs.Prelude.{Option}
use Rattle.std.proofs.lemmas.List.{length-take-le}
use Rattle.std.proofs.lemmas.Result.{on_ok_weaker}
use Rattle.programs.specs.Said.{Prints}
use Rattle.programs.proofs.Written.{read_off}
use Rattle.programs.proofs.print.Goals as goal

pub slice_bounds-write_all-end : goal.slice_bounds-write_all-end
slice_bounds-write_all-end g c =
    let Says = g.P.Program.says (length c.args.out.now) c.args.text.now in
    let read = read_off Says c.answer.new.out c.answer.result c.answer.ensures in
    omega (arith, c.unwrap_or-n.ensures, read.inside)

pub slice_bounds-write_all-end-2 : goal.slice_bounds-write_all-end-2
slice_bounds-write_all-end-2 g c =
    let Says = g.P.Program.says (length c.args.out.now) c.args.text.now in
    let read = read_off Says c.answer.new.out c.answer.result c.answer.ensures in
    sym (length-take-le _ _ (omega (arith, c.unwrap_or-n.ensures, read.inside)))

printed : (Says : List ℕ → Type 0) (said : List ℕ) (old new : Option (List ℕ)) → Says said → Appends old new said → Prints Says old new
printed Says said old new s appended = (said, s, appended)

pub returns : goal.returns
returns g c =
    let Says = g.P.Program.says (length c.args.out.now) c.args.text.now in
    let read = rw (← c.unwrap_or-n.ensures) at (read_off Says c.answer.new.out c.answer.result c.answer.ensures) in
    on_ok_weaker _ (printed _ _ _ _ read.said) c.write_all.ensures.bytes
