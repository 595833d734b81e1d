use mathlib.Core.List.{List}
use Rattle.rows.specs.Tokens.{Token}
use Rattle.rows.proofs.Turns.{Going}
use Rattle.rows.proofs.flags.mark_groups.Given as goal

abbrev pub invariant-loop-i : goal.invariant-loop-i
invariant-loop-i l =
    (ts : List Token) → Going ts l.initial.i l.initial.signs l.initial.flags l.initial.top l.initial.i →
    Going ts l.initial.i l.signs l.flags l.top l.i
