-- `library::read::read_description` meets its contract.
-- Assumes nothing.
use Prim.Native.Nat.{ℕ}
use mathlib.Core.List.{List, ◌++◌}
use mathlib.Core.Path.{refl, sym, ap, ◌∙◌}
use lib.ListN.{drop, length-replicate}
use Rattle.library.proofs.Reading.{copied_words, copied_yes, copied_not, fetches_malformed, fetches_short, fetches_words}
use Rattle.library.proofs.read.read_description.Goals as goal

pub returns-then-not-judge : goal.returns-then-not-judge
returns-then-not-judge c = fetches_malformed c.args.first c.args.words c.args.file.now c.args.area.now c.args.area.now (sym c.if-not-is_whole.ensures)
    (copied_not c.args.file.now c.fill.new.dst _ c.args.first c.args.words (length-replicate {A = ℕ} 1024 0) c.requires.few c.fill.ensures c.judge.result c.judge.ensures c.if-not-judge.true) refl

pub returns-then-area-words : goal.returns-then-area-words
returns-then-area-words c = fetches_short c.args.first c.args.words c.args.file.now c.args.area.now c.args.area.now (sym c.if-not-is_whole.ensures)
    (copied_yes c.args.file.now c.fill.new.dst _ c.args.first c.args.words (length-replicate {A = ℕ} 1024 0) c.requires.few c.fill.ensures c.judge.result c.judge.ensures c.if-not-judge.false)
    c.if-area-words.true refl

pub returns : goal.returns
returns c = fetches_words c.args.first c.args.words c.args.file.now c.args.area.now _ (sym c.if-not-is_whole.ensures)
    (copied_yes c.args.file.now c.fill.new.dst _ c.args.first c.args.words (length-replicate {A = ℕ} 1024 0) c.requires.few c.fill.ensures c.judge.result c.judge.ensures c.if-not-judge.false)
    c.if-area-words.false
    (ap (λ (l : List ℕ). l ++ drop c.args.words c.args.area.now)
    (c.copy_from_slice.ensures.after ∙ copied_words c.args.file.now c.fill.new.dst _ c.args.first c.args.words (length-replicate {A = ℕ} 1024 0) c.requires.few c.fill.ensures))
