-- What stands pushed once a description was entered, and that it is clear.
-- Assumes nothing.
use Prim.Native.Nat.{ℕ, ◌<◌}
use native.Mathlib.Omega.{arith}
use mathlib.Core.Path.{◌≡◌, ap, subst, ◌∙◌}
use mathlib.Core.Logic.{inl, inr, ⊎_elim}
use mathlib.Core.List.Memᴰ
use mathlib.Core.List.{List, ◌++◌}
use lib.ListN.{length-append}
use Rattle.theory.specs.Net.{Graph}
use Rattle.theory.specs.Canonical.{Fine}
use Rattle.engine.specs.Placed.{strip}
use Rattle.engine.specs.Marks.{keep}
use Rattle.engine.specs.Certain.{flat}
use Rattle.loading.specs.Entry.{Entry, graphs}
use Rattle.marks.specs.Positions.{tail_at}
use Rattle.marks.specs.Marked.{marking}
use Rattle.marks.proofs.Reading.{readable, reads}
use Rattle.classes.proofs.Comings.{graphs_append}
use Rattle.entering.specs.Taken.{taken_of, Inside}
use Rattle.entering.specs.Entered.{Entering, entered}
use Rattle.entering.specs.Clear.{ClearOf}
use Rattle.entering.proofs.Certain.{flat_of, inside_of}
use Rattle.entering.proofs.Entering.{inside_append, canonical_all}
use Rattle.entering.proofs.Settling.{some_of}
use Rattle.entering.proofs.Clearing.{clear_of}

module _ (n k : ℕ) (w : List ℕ) (g left : ℕ) where
  module _ (c : Entering n k w g left) where
    abbrev list : List Entry
    list = taken_of (marking w) c.lies

    pub tried_starts : (g < 2048) × (tail_at w g < 2048)
    tried_starts =
        let s = reads (readable w c.s.holds.long c.s.loaded c.s.ground.few c.lies) in
        (s.here, s.inside)

    pub entered_graphs : graphs (entered c) ≡ graphs c.es ++ flat (strip (keep (marking w) c.lies.d))
    entered_graphs = graphs_append c.es list
        ∙ ap (λ (l : List Graph). graphs c.es ++ l) (flat_of (marking w) c.lies)

    pub entered_inside : Inside c.s.U (entered c)
    entered_inside = inside_append c.s.U c.es list c.s.inside
        (inside_of (marking w) c.lies c.s.U c.among)

    pub fine : Fine (graphs c.es ++ flat (strip (keep (marking w) c.lies.d)))
    fine =
        let some = some_of (marking w) c.lies in
        subst Fine entered_graphs (
          (rw (graphs_append c.es list) (simp length-append (omega arith))),
          canonical_all n c.s.t c.s.U (entered c) c.s.ground entered_inside,
        )

    -- the stack is clear in it
    pub entered_clear : ClearOf (entered c) (marking w) c.lies
    entered_clear = clear_of (marking w) (entered c) c.lies
        (λ o i. ⊎_elim (λ j. inl (c.free o j)) (λ j. inr j) (Memᴰ.append_cases c.es i))
