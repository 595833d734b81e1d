-- The graph of a description: what is entered joins to it.
-- Assumes nothing.
use Prim.Native.Nat.{ℕ, suc, ◌+◌, ◌≤◌}
use native.Mathlib.Omega.{arith}
use mathlib.Core.Path.{◌≡◌, refl, sym, ap, subst, ◌∙◌}
use mathlib.Core.Option.{Option, none, some}
use mathlib.Core.List.Memᴰ
use mathlib.Core.List.{List, [], ◌∷◌}
use lib.ListN.{length, length-append}
use Rattle.theory.specs.Net.{Graph, Clash, Joined}
use Rattle.theory.proofs.Laws.{glue_joins, joined_of}
use Rattle.theory.specs.Join.{join}
use Rattle.theory.specs.Descr.{Desc, desc, disjs}
use Rattle.theory.specs.Layout.{disjs_words}
use Rattle.theory.proofs.Instance.{none_join}
use Rattle.theory.specs.Canonical.{Ctx, Fine, Can}
use Rattle.theory.proofs.Live.{not_none}
use Rattle.theory.specs.Weight.{weight}
use Rattle.area.specs.Map.{RESULT}
use Rattle.layout.specs.Standing.{graph_words}
use Rattle.engine.specs.Placed.{strip}
use Rattle.engine.specs.Marks.{Marking, keep}
use Rattle.engine.specs.Certain.{flat, sure}
use Rattle.engine.specs.Shown.{or_else, shown_all}
use Rattle.engine.proofs.Sane.{fine_flat}
use Rattle.engine.specs.Sane.{Sane}
use Rattle.loading.specs.Entry.{graphs}
use Rattle.layout.proofs.Standing.{stands_frame}
use Rattle.marks.specs.Marked.{marking}
use Rattle.classes.specs.Holds.{Backs, Remembers}
use Rattle.std.specs.Prelude.{Some, None}
use Rattle.entering.specs.Entered.{Entering, entered, Enters}
use Rattle.entering.proofs.Certain.{flat_of}
use Rattle.writing.specs.Writing.{Writing, Writes}
use Rattle.showing.specs.Putting.{Written, Describing, lead, left_all}
use Rattle.showing.proofs.Leaving.{description_words}

-- what agrees joins to the graph that a description leads with
pub lead_joins : (d : Desc) → Can d → Sane d → join (flat d) ≡ some (lead d)
lead_joins (desc g ds) c s = glue_joins g c.0 (sure ds) s.0.0 s.0.1
    ∙ sym (ap (λ (o : Option Graph). some (or_else g o)) s.0.1)

clashes : (gs : Ctx) → Fine gs → Clash gs → join gs ≡ none
clashes [] f k = let h = f.0 in absurd (omega arith)
clashes (g ∷ gs) f k = none_join g gs f.1 k

pub weight_words : (G : Graph) → suc (weight G) ≡ length (graph_words G)
unfolding weight
weight_words G = refl

module _ (n : ℕ) (w : List ℕ) (g left o : ℕ) (c : Describing n w g left o) where
  abbrev whole : Desc
  whole = strip (keep c.base.m c.lies.d)

  -- the description may be entered
  pub asks_enter : Entering n 0 w g left
  asks_enter = record { es = []; s = c.base; lies = c.lies; among = c.among; free = λ e i. absurd (Memᴰ.not-nil i) }

  pushed_flat : graphs (entered asks_enter) ≡ flat whole
  unfolding asks_enter
  pushed_flat = flat_of (marking w) c.lies
      ∙ ap (λ (m : Marking). flat (strip (keep m c.lies.d))) c.base.marks

  joined_lead : Joined (graphs (entered asks_enter)) (lead whole)
  joined_lead = subst (λ (l : List Graph). Joined l (lead whole)) (sym pushed_flat)
      (joined_of (flat whole) (fine_flat whole c.can) (lead whole) (lead_joins whole c.can c.sane))

  never : Clash (graphs (entered asks_enter)) → ⊥
  never k = not_none (flat whole) (lead whole, lead_joins whole c.can c.sane)
      (clashes (flat whole) (fine_flat whole c.can) (subst Clash pushed_flat k))

  pub lead_room : o + length (graph_words (lead whole)) + 1 + length (disjs_words (shown_all (left_all c.base.m c.lies.d))) ≤ 2048
  lead_room =
      let room = c.room in
      let e = ap length (description_words c.lies.d c.base.m) in
      let s = length-append (graph_words (lead whole))
      (disjs (shown_all (left_all c.base.m c.lies.d)) ∷ disjs_words (shown_all (left_all c.base.m c.lies.d))) in
      omega arith

  module _ (p : Rattle.std.specs.Prelude.Option ℕ) (w₁ : List ℕ) (u : Enters n 0 w g left p w₁) where
    pub not_clashed : p ≡ None → ⊥
    not_clashed z = never ((u.clashed z).1 asks_enter).0

    module _ (k : ℕ) (z : p ≡ Some k) where
      pub asks_write : Writing n k w₁ o
      asks_write = record {
        es = entered asks_enter;
        G = lead whole;
        holds = (u.pushed k z).1 asks_enter;
        joined = joined_lead;
        room = omega (arith, lead_room, weight_words (lead whole));
      }

      module _ (r : ℕ) (w₂ : List ℕ) (v : Writes n k w₁ o r w₂) where
        pub asks_back : Remembers 0 k w₂
        asks_back = record { w₀ = w; since = v.since 0 w (u.pushed k z).0 }

        pub led : (w₃ : List ℕ) → Backs 0 k w₂ w₃ → Written n w o (graph_words (lead whole)) r w₃
        led w₃ b =
            let told = v.told (entered asks_enter) (lead whole) ((u.pushed k z).1 asks_enter) joined_lead in
            let kept = v.kept in
            let more = kept.more in
            record {
              len = b.len ∙ kept.len ∙ u.len;
              mid = λ j h i. b.rest j h ∙ kept.mid j h i ∙ u.rest j h;
              high = λ j h. b.rest j (omega arith) ∙ kept.high j h ∙ u.rest j (omega arith);
              stands = stands_frame w₂ w₃ (graph_words (lead whole)) (RESULT + o) (RESULT + r) (λ j h i l. let len = b.len in
                  (omega arith, b.rest j (omega arith))) told.1.0;
              holds = b.holds n [] w c.base.holds (v.since 0 w (u.pushed k z).0);
            }
