-- `signs::reading::note_number` meets its contract.
-- Assumes nothing.
use mathlib.Core.Path.{ap, ◌∙◌}
use native.Mathlib.Omega.{arith}
use Prim.Native.Nat.{ℕ, ◌+◌}
use Rattle.signs.proofs.Notes.{letter_low, letter_word, slot_low, number_notes}
use Rattle.signs.proofs.reading.note_number.Goals as goal

pub overflow_add-signs : goal.overflow_add-signs
overflow_add-signs c =
    omega (
      arith,
      c.slot-at.ensures,
      slot_low c.args.old c.args.count,
      c.letter-base.ensures,
      letter_low c.args.due,
      c.requires,
    )

pub offset_bounds-signs-at : goal.offset_bounds-signs-at
offset_bounds-signs-at c =
    omega (
      arith,
      c.slot-at.ensures,
      slot_low c.args.old c.args.count,
      c.letter-base.ensures,
      letter_low c.args.due,
      c.requires,
    )

pub bounds-signs-at : goal.bounds-signs-at
bounds-signs-at c =
    omega (
      arith,
      c.slot-at.ensures,
      slot_low c.args.old c.args.count,
      c.letter-base.ensures,
      letter_low c.args.due,
      c.requires,
    )

pub overflow_add-result : goal.overflow_add-result
overflow_add-result c =
    omega (
      arith,
      c.slot-at.ensures,
      slot_low c.args.old c.args.count,
      c.letter-base.ensures,
      letter_low c.args.due,
      c.requires,
    )

pub returns : goal.returns
returns c = number_notes c.args.old _ _ c.args.count _ _ c.requires.1 c.requires.0 c.slot-at.ensures
    (ap (λ (k : ℕ). k + c.args.value) c.letter-base.ensures ∙ letter_word c.args.due c.args.value)
