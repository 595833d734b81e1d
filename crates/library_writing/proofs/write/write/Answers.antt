-- `library_writing::write::write` meets its contract.
-- Assumes nothing.
use native.Mathlib.Omega.{arith}
use mathlib.Core.Path.{refl, sym, ap, ◌∙◌}
use Prim.Native.Nat.{ℕ, ◌+◌, ◌*◌}
use mathlib.Core.List.{List, ◌++◌}
use lib.ListN.{drop}
use lib.Seq.{length-take-le}
use Rattle.library_writing.proofs.Asked.{listable_pairs}
use Rattle.library_writing.proofs.Answers.{need-is, writes-unlisted, writes-malformed, writes_short, writes-file}
use Rattle.library_writing.proofs.write.write.Goals as goal

pub returns-then-not-is_listable : goal.returns-then-not-is_listable
returns-then-not-is_listable c =
    writes-unlisted c.args.entries.now c.args.words.now c.args.file.now c.args.file.now
    (sym c.is_listable.ensures ∙ c.if-not-is_listable.true) refl

pub count_blocks-requires : goal.count_blocks-requires
count_blocks-requires c =
    let listed = sym c.is_listable.ensures ∙ c.if-not-is_listable.false in
    listable_pairs 60 0 c.args.entries.now listed

pub overflow_mul-need : goal.overflow_mul-need
overflow_mul-need c =
    let listed = sym c.is_listable.ensures ∙ c.if-not-is_listable.false in
    let short = (listable_pairs 60 0 c.args.entries.now listed).1 in
    record { fits = omega arith }

pub returns-then-not-is_sound : goal.returns-then-not-is_sound
returns-then-not-is_sound c =
    let listed = sym c.is_listable.ensures ∙ c.if-not-is_listable.false in
    writes-malformed c.args.entries.now c.args.words.now c.args.file.now c.args.file.now listed
    (sym c.is_sound.ensures ∙ c.if-not-is_sound.true) refl

pub returns-then-file-need : goal.returns-then-file-need
returns-then-file-need c =
    let listed = sym c.is_listable.ensures ∙ c.if-not-is_listable.false in
    let pairs = listable_pairs 60 0 c.args.entries.now listed in
    let good = sym c.is_sound.ensures ∙ c.if-not-is_sound.false in
    let short = pairs.1 in
    let need = need-is c.args.entries.now c.args.words.now pairs.0 good short in
    writes_short c.args.entries.now c.args.words.now c.args.file.now c.args.file.now listed good (512 * (1 + c.count_blocks.result)) (omega arith)
    c.if-file-need.true refl

pub write_file-requires : goal.write_file-requires
write_file-requires c =
    let listed = sym c.is_listable.ensures ∙ c.if-not-is_listable.false in
    let pairs = listable_pairs 60 0 c.args.entries.now listed in
    let good = sym c.is_sound.ensures ∙ c.if-not-is_sound.false in
    let short = pairs.1 in
    let size = length-take-le (512 * (1 + c.count_blocks.result)) c.args.file.now c.if-file-need.false in
    (record { pairs = pairs.0; near = omega arith }, short, good, omega arith)

pub returns : goal.returns
returns c =
    let listed = sym c.is_listable.ensures ∙ c.if-not-is_listable.false in
    let pairs = listable_pairs 60 0 c.args.entries.now listed in
    let good = sym c.is_sound.ensures ∙ c.if-not-is_sound.false in
    let short = pairs.1 in
    let need = need-is c.args.entries.now c.args.words.now pairs.0 good short in
    let total = 512 * (1 + c.count_blocks.result) in
    writes-file c.args.entries.now c.args.words.now c.args.file.now _ listed good total (omega arith) c.if-file-need.false
    (ap (λ (l : List ℕ). l ++ drop total c.args.file.now) c.write_file.ensures)
