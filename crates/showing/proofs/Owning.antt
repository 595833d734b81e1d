-- A graph that nothing is joined to is put out as it is.
-- Assumes nothing.
use Prim.Native.Nat.{ℕ, ◌+◌}
use native.Mathlib.Omega.{arith}
use mathlib.Core.Path.{◌≡◌, sym, ap, subst, ◌∙◌}
use mathlib.Core.Logic.{inl, inr}
use mathlib.Core.Bool.{Bool, false}
use mathlib.Core.List.{List, []}
use lib.ListN.{length}
use Rattle.theory.specs.Net.{Graph}
use Rattle.theory.specs.Modes.{glue}
use Rattle.theory.specs.Canonical.{Can}
use Rattle.area.specs.Map.{RESULT}
use Rattle.layout.specs.Standing.{Stands, graph_words}
use Rattle.engine.specs.Placed.{Placed, place, strip, own}
use Rattle.engine.specs.Marks.{Marking, keep}
use Rattle.engine.specs.Certain.{sure}
use Rattle.engine.specs.Shown.{or_else}
use Rattle.loading.specs.Loading.{Put}
use Rattle.marks.specs.Readable.{Readable}
use Rattle.marks.proofs.Reading.{readable}
use Rattle.classes.proofs.Laws.{holds_frame}
use Rattle.showing.specs.Putting.{Written, Describing, lead, left_all}
use Rattle.showing.specs.Alone.{Looks}
use Rattle.showing.specs.Copying.{Graphing, Graphs}
use Rattle.showing.proofs.Leading.{lead_room}

lead_own : (d : Placed) (m : Marking) → Can (strip (keep m d)) → sure (left_all m d) ≡ [] → lead (strip (keep m d)) ≡ own d
lead_own (place g ds) m c e = ap (λ (l : List Graph). or_else g (glue g l)) e

module _ (n : ℕ) (w : List ℕ) (g left o : ℕ) (c : Describing n w g left o) where
  abbrev read : Readable w g left
  read = readable w c.base.holds.long c.base.loaded c.base.ground.few c.lies

  pub asks_look : (left : ℕ) × Readable w g left
  asks_look = (left, read)

  module _ (r : Bool) (u : Looks w g r) (e : r ≡ false) where
    unjoined : lead (strip (keep c.base.m c.lies.d)) ≡ own c.lies.d
    unjoined = lead_own c.lies.d c.base.m c.can (ap (λ (m : Marking). sure (left_all m c.lies.d)) (sym c.base.marks)
        ∙ u left read e)

    pub asks_copy : Graphing w g o
    asks_copy = record {
      left = left;
      read = read;
      room = omega (arith, lead_room n w g left o c, ap (λ (G : Graph). length (graph_words G)) unjoined);
    }

    pub owned : (q : ℕ) (w₁ : List ℕ) → Graphs w g o q w₁ → Written n w o (graph_words (lead (strip (keep c.base.m c.lies.d)))) q w₁
    unfolding asks_copy
    owned q w₁ v =
        let put : Put w w₁ (RESULT + o) (graph_words (own c.lies.d)) (RESULT + q) = v asks_copy in
        record {
          len = put.same;
          mid = λ j h k. put.rest j (inl k);
          high = λ j h. put.rest j (inr h);
          stands = subst (λ (G : Graph). Stands w₁ (RESULT + o) (graph_words G) (RESULT + q)) (sym unjoined) put.stands;
          holds = holds_frame n [] 0 w c.base.holds w₁ put.same (λ j h. put.rest j (inl (omega arith)));
        }
