-- The proof of the cycle of calls {is_sound}. The measure is the number of words that the entries have.
-- Assumes nothing.
use native.Mathlib.Omega.{arith}
use mathlib.Core.Path.{◌∙◌}
use lib.ListN.{take}
use Rattle.library.proofs.Reading.{imaged_yes, imaged_not}
use Rattle.library_writing.proofs.Asked.{none_sound, sound_short, sound_stop, sound_step}
use Rattle.library_writing.proofs.entries.+is_sound.Goals as goal

pub returns-then-entries-lt2 : goal.returns-then-entries-lt2
returns-then-entries-lt2 t c = none_sound c.args.entries.now c.args.words.now c.if-entries-lt2.true

pub returns-then-words-count : goal.returns-then-words-count
returns-then-words-count t c =
    sound_short c.args.entries.now c.args.words.now c.if-entries-lt2.false (omega arith)

pub returns-then-judge : goal.returns-then-judge
returns-then-judge t c =
    let good = imaged_yes (take c.wide-count.result c.args.words.now) c.judge.result c.judge.ensures c.if-judge.true in
    c.is_sound.ensures ∙ rw c.wide-count.ensures (sound_step c.args.entries.now c.args.words.now c.if-entries-lt2.false (omega arith) (rw c.wide-count.ensures at good))

pub returns-else-judge : goal.returns-else-judge
returns-else-judge t c =
    let bad = imaged_not (take c.wide-count.result c.args.words.now) c.judge.result c.judge.ensures c.if-judge.false in
    c.if-judge.false ∙ sound_stop c.args.entries.now c.args.words.now c.if-entries-lt2.false (omega arith) (rw c.wide-count.ensures at bad)
