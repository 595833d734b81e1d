use Rattle.finding_clash.specs.Notes.{NotesAsked}
use Rattle.finding_clash.proofs.Passing.{NotesUpTo}
use Rattle.finding_clash.proofs.notes.note_heads.Given as goal

abbrev pub invariant-loop-i : goal.invariant-loop-i
invariant-loop-i l = NotesAsked l.n.count l.c l.b l.m l.w × NotesUpTo l.n.count l.c l.b l.m l.i l.initial.w l.w
