-- `finding_clash::notes::note_head` meets its contract. Assumes nothing.
use native.Mathlib.Omega.{arith}
use Rattle.finding_clash.proofs.Passing.{notes_one}
use Rattle.finding_clash.proofs.notes.note_head.Goals as goal

pub find-r-requires : goal.find-r-requires
find-r-requires c =
    let a = c.requires.notes_asked.inside _ c.requires.i_lt_m.0 in
    record {
      i_lt_n = omega arith;
      shape = c.requires.notes_asked.labels.shape;
    }

pub returns : goal.returns
returns c =
    notes_one _ _ _ _ _ c.requires.notes_asked.long c.requires.notes_asked.below _ _ _ c.engine_number-x.ensures (c.requires.notes_asked.inside _
    c.requires.i_lt_m.0) c.find-r.ensures
    c.mix.ensures
