-- `finding_clash::notes::note_heads` meets its contract. The loop's invariant: the heads of the first i nodes are noted. Assumes nothing.
use mathlib.Core.Path.{◌≡◌, subst}
use Prim.Native.Nat.{ℕ}
use native.Mathlib.Omega.{arith}
use Rattle.finding_clash.proofs.Passing.{only_zeroed, noting_on, NotesUpTo, up_to_none, up_to_more, up_to_all}
use Rattle.finding_clash.proofs.notes.note_heads.Goals as goal

pub loop-i-init : goal.loop-i-init
loop-i-init c = (
  noting_on _ _ _ c.requires.notes_asked.long c.requires.notes_asked.below (only_zeroed _ _ _ c.clear.ensures) _ _ _ c.requires.notes_asked,
  up_to_none _ _ _ _ _ _ c.clear.ensures,
)

pub loop-i-preserved : goal.loop-i-preserved
loop-i-preserved c = (
  noting_on _ _ _ c.loop-i.invariant.0.long c.requires.notes_asked.below c.note_head.ensures.only _ _ _ c.loop-i.invariant.0,
  up_to_more _ _ _ _ _ _ _ _ (omega (arith, c.clear.ensures.len, c.requires.notes_asked.long)) c.requires.notes_asked.below (omega arith) c.requires.notes_asked.few
      c.loop-i.invariant.1 c.note_head.ensures,
)

pub returns : goal.returns
returns c =
    let e : c.loop-i.i ≡ c.args.m = omega arith in
    up_to_all _ _ _ _ _ c.clear.new.w _ c.requires.notes_asked.long c.requires.notes_asked.below c.requires.notes_asked.few (only_zeroed _ _ _ c.clear.ensures)
    (subst (λ (k : ℕ). NotesUpTo c.args.n.count c.args.c c.args.b c.args.m k c.clear.new.w c.loop-i.w) e c.loop-i.invariant.1)
