use lib.ListN.{length}
use Rattle.laying.specs.Laying.{Roomy, all_given, LaysOut}
use Rattle.laying.proofs.Held.{tabs}
use Rattle.laying.proofs.Along.{Along}
use Rattle.laying.proofs.laying.lay.Given as goal

-- there is still room, and the signs so far were gone through
abbrev pub invariant-loop-word : goal.invariant-loop-word
invariant-loop-word l =
    Roomy (tabs l.arcs l.atoms l.ties l.alts l.frames)
    × ((c : LaysOut l.signs (length l.signs) l.flagged) →
    Along l.signs (length l.signs) l.word-index (all_given l.flagged c.marks) (tabs l.arcs l.atoms l.ties l.alts l.frames) l.at)
