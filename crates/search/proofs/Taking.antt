-- An alternative is taken: it is entered, what is left is gone through after it, and it is taken back; engine's `dive_at`, return by
-- return.
-- Assumes nothing.
use Prim.Native.Nat.{ℕ, ◌+◌, ◌≤◌, ◌<◌}
use native.Mathlib.Omega.{arith}
use mathlib.Core.Path.{◌≡◌, refl, sym, ap, subst, ◌∙◌}
use mathlib.Core.Logic.{◌⊎◌, inl, inr, ⊎_elim}
use mathlib.Core.Bool.{Bool, true, false}
use mathlib.Core.List.Memᴰ
use mathlib.Core.List.{List, [], ◌∷◌, ◌++◌}
use lib.ListN.{length}
use Rattle.theory.specs.Limits.{depth_limit}
use Rattle.theory.specs.Net.{Graph, Clash, Agree}
use Rattle.theory.specs.Descr.{agree}
use Rattle.area.specs.Region.{loaded_words}
use Rattle.area.proofs.Region.{words_same, words_many}
use Rattle.engine.specs.Placed.{Placed, place, Places, strip, inner}
use Rattle.engine.specs.Marks.{Marking, keep}
use Rattle.engine.specs.Certain.{flat}
use Rattle.engine.specs.Search.{taking}
use Rattle.engine.specs.Agenda.{resume_at, dive_at}
use Rattle.engine.proofs.Agenda.{dive_at_clash, dive_at_push}
use Rattle.loading.specs.Entry.{Entry, graphs}
use Rattle.loading.specs.Lying.{mark_of}
use Rattle.marks.specs.Positions.{tail_at, disjunctions_at}
use Rattle.marks.specs.Marked.{marking, lights}
use Rattle.marks.proofs.Marks.{marking_frame, lights_frame}
use Rattle.marks.proofs.Reading.{Read, reads_lying}
use Rattle.classes.specs.Holds.{Since, Remembers, Backs}
use Rattle.std.specs.Prelude.{Option, Some, None}
use Rattle.classes.proofs.Laws.{holds_agree, since_trans}
use Rattle.entering.specs.Entered.{Entering, entered, Enters}
use Rattle.entering.specs.Footing.{Footing}
use Rattle.entering.specs.Clear.{ClearOf}
use Rattle.entering.specs.Moved.{Moved}
use Rattle.entering.proofs.Certain.{between_of}
use Rattle.entering.proofs.Settling.{agrees_true, clash_false}
use Rattle.entering.proofs.Within.{entered_graphs, entered_inside, entered_clear, fine}
use Rattle.entering.proofs.Moves.{moved_words}
use Rattle.search.specs.declared.agenda.Agenda.{Agenda}
use Rattle.search.specs.Frames.{Slot, slots, Lists, onto, FramesOn, plan_on}
use Rattle.leaving.specs.Found.{Finds}
use Rattle.search.specs.Searched.{Noting, Notes, Resuming, resumed, Resumes, Taking, taken_with, Takes}
use Rattle.search.proofs.Planning.{lying_deeper, reach, frames_reach, frames_wide, frames_pushed, Before, Opened, opened}
use Rattle.search.proofs.Planning.{open_asks}
use Rattle.search.proofs.Finding.{finds_none, finds_same, finds_under, finds_taking, moved_noted}

dive_pushed : (m : Marking) (S : List Graph) (d : Placed) (fs : List Places) → agree (S ++ flat (strip (keep m d))) ≡ true →
    dive_at m S d fs ≡ resume_at m (inner d ∷ fs) (S ++ flat (strip (keep m d)))
dive_pushed m S (place K ds) fs e = dive_at_push m S K ds fs e

dive_clashed : (m : Marking) (S : List Graph) (d : Placed) (fs : List Places) → agree (S ++ flat (strip (keep m d))) ≡ false →
    dive_at m S d fs ≡ []
dive_clashed m S (place K ds) fs e = dive_at_clash m S K ds fs e

module _ (n k : ℕ) (w : List ℕ) (g : ℕ) (a : Agenda) where
  module _ (c : Taking n k w g a) where
    abbrev left_of : List Places
    left_of = plan_on c.s c.l c.lies.end c.lies.to c.frames

    abbrev pub asks_enter : Entering n k w g depth_limit
    asks_enter = record { es = c.es; s = c.s; lies = lying_deeper c.shallow c.lies; among = c.among; free = c.free }

    abbrev pushed_all : List Entry
    pushed_all = entered asks_enter

    all_graphs : graphs pushed_all ≡ graphs c.es ++ flat (strip (keep c.s.m c.lies.d))
    all_graphs = entered_graphs n k w g depth_limit asks_enter
        ∙ ap (λ (m : Marking). graphs c.es ++ flat (strip (keep m c.lies.d))) c.s.marks

    agree_is : (b : Bool) → agree (graphs c.es ++ flat (strip (keep (marking w) c.lies.d))) ≡ b →
        agree (graphs c.es ++ flat (strip (keep c.s.m c.lies.d))) ≡ b
    agree_is b e = ap (λ (m : Marking). agree (graphs c.es ++ flat (strip (keep m c.lies.d)))) (sym c.s.marks) ∙ e

    -- nothing is found with one that clashes
    pub clash_none : Clash (graphs pushed_all) → taken_with c ≡ []
    clash_none z =
        let bad = agree_is false (clash_false (graphs c.es ++ flat (strip (keep (marking w) c.lies.d)))
        (fine n k w g depth_limit asks_enter) (subst Clash (entered_graphs n k w g depth_limit asks_enter) z)) in
        ap (taking (mark_of c.lies)) (dive_clashed c.s.m (graphs c.es) c.lies.d left_of bad)

    -- what is read of it
    pub read : (v : List ℕ) → 16384 ≤ length v → loaded_words v ≡ c.s.t → Read v g (mark_of c.lies) c.lies.end
    read v room e = reads_lying v room e c.s.ground.few c.lies

  module _ (o : Option ℕ) (w₁ : List ℕ) (u : Enters n k w g depth_limit o w₁) (c₀ : Taking n k w g a) where
    marks₁ : marking w₁ ≡ marking w
    marks₁ = marking_frame w w₁ c₀.s.holds.long u.len (λ j x y. u.rest j (omega arith))

    lights₁ : lights w₁ ≡ lights w
    lights₁ = lights_frame w w₁ c₀.s.holds.long u.len (λ j x y. u.rest j (omega arith))

    words₁ : loaded_words w₁ ≡ loaded_words w
    words₁ = words_same w w₁ c₀.s.holds.long u.len (λ j x y. u.rest j x)

    room₁ : 16384 ≤ length w₁
    room₁ = omega (arith, u.len, c₀.s.holds.long)

    -- a clash: nothing is found
    pub takes_clash : o ≡ None → Takes n k w g a 0 w₁
    takes_clash z = record {
      moved = record { len = u.len; rest = λ j h. u.rest j (omega arith); since = (u.clashed z).0 };
      found = λ c.
          let told = (u.clashed z).1 (asks_enter c) in
          finds_same n k w c.es [] (taken_with c) 0 w₁ (clash_none c told.0)
          (finds_under n k k w w₁ w₁ w₁ c.es c.es [] 0 lights₁ marks₁ (finds_none n k w₁ c.es told.1) refl refl
          told.1);
    }

    module _ (e : ℕ) (z : o ≡ Some e) where
      abbrev standing₁ : (c : Taking n k w g a) → Footing n e w₁ (pushed_all c)
      standing₁ c = record {
        t = c.s.t;
        loaded = words₁ ∙ c.s.loaded;
        m = c.s.m;
        marks = marks₁ ∙ c.s.marks;
        U = c.s.U;
        ground = c.s.ground;
        holds = (u.pushed e z).1 (asks_enter c);
        inside = entered_inside n k w g depth_limit (asks_enter c);
      }

      abbrev later : (c : Taking n k w g a) →
          (G : FramesOn (standing₁ c) c.l c.lies.end c.lies.to)
          × (plan_on (standing₁ c) c.l c.lies.end c.lies.to G ≡ left_of c)
      later c = frames_pushed n c.s.t c.s.U c.s.m c.es (pushed_all c) c.l c.lies.end c.lies.to
          (λ o i. ⊎_elim (λ j. inl j) (λ j. inr (between_of (marking w) c.lies o j).1)
          (Memᴰ.append_cases c.es i)) c.frames

      abbrev before₁ : (c : Taking n k w g a) → Before (standing₁ c) g c.left c.l c.lies.end c.lies.to (later c).0
      before₁ c = record {
        lies = c.lies;
        among = c.among;
        clear = subst (λ (m : Marking). ClearOf (pushed_all c) m c.lies) c.s.marks
            (entered_clear n k w g depth_limit (asks_enter c));
        here = omega arith;
        low = omega arith;
        deep = c.deep;
      }

      pub take_opens : ((g < 2048) × (16384 ≤ length w₁))
          × ((tail_at w₁ g < 2048) × ((disjunctions_at w₁ (tail_at w₁ g) ≡ 0) ⊎ (a.frames < 5)))
      take_opens = open_asks (standing₁ c₀) (before₁ c₀) a c₀.lists

      opened₁ : (c : Taking n k w g a) → Opened (standing₁ c) (before₁ c)
      opened₁ c = opened (standing₁ c) (before₁ c)

      module _ (b : Agenda) (lists : (l : List Slot) → Lists a l →
          Lists b (onto (tail_at w₁ g + 1) (disjunctions_at w₁ (tail_at w₁ g)) l)) where
        abbrev slots₁ : (c : Taking n k w g a) → List Slot
        slots₁ c = onto (tail_at w₁ g + 1) (disjunctions_at w₁ (tail_at w₁ g)) c.l

        abbrev wide₁ : (c : Taking n k w g a) →
            (G : FramesOn (standing₁ c) (slots₁ c) 0 0)
            × (plan_on (standing₁ c) (slots₁ c) 0 0 G ≡ plan_on (standing₁ c) (slots₁ c) (g + 1) c.lies.from (opened₁ c).frames)
        wide₁ c = frames_wide n c.s.t c.s.U c.s.m (pushed_all c) (slots₁ c) (g + 1) c.lies.from 0 0 (omega arith)
            (omega arith)
            (opened₁ c).frames

        abbrev resuming₁ : Taking n k w g a → Resuming n e w₁ b
        resuming₁ c = record { es = pushed_all c; s = standing₁ c; l = slots₁ c; lists = lists c.l c.lists; frames = (wide₁ c).0 }

        pub take_asks : Resuming n e w₁ b
        take_asks = resuming₁ c₀

        pub take_falls : g < reach (slots b)
        take_falls =
            let c = c₀ in
            let many : length c.s.t ≡ 2048 = ap length (sym c.s.loaded) ∙ words_many w c.s.holds.long in
            let r = frames_reach n c.s.t c.s.U c.s.m (pushed_all c) many (slots₁ c) (g + 1) c.lies.from
            (opened₁ c).frames in
            let e : reach (slots b) ≡ reach (slots₁ c) = ap reach (lists c.l c.lists).is in
            omega arith

        -- what is found after it
        resumed_is : (c : Taking n k w g a) → taken_with c ≡ taking (mark_of c.lies) (resumed (resuming₁ c))
        resumed_is c =
            let S = graphs (pushed_all c) in
            let m = c.s.m in
            let good = agree_is c true (agrees_true (graphs c.es ++ flat (strip (keep (marking w) c.lies.d)))
            (fine n k w g depth_limit (asks_enter c))
            (subst Agree (entered_graphs n k w g depth_limit (asks_enter c))
            (holds_agree n (pushed_all c) e w₁ ((u.pushed e z).1 (asks_enter c))))) in
            ap (taking (mark_of c.lies)) (
            dive_pushed m (graphs c.es) c.lies.d (left_of c) good
            ∙ ap (resume_at m (inner c.lies.d ∷ left_of c)) (sym (all_graphs c))
            ∙ ap (λ (fs : List Places). resume_at m (inner c.lies.d ∷ fs) S) (sym (later c).1)
            ∙ sym ((opened₁ c).is S)
            ∙ ap (λ (fs : List Places). resume_at m fs S) (sym (wide₁ c).1)
            )

        module _ (r : ℕ) (w₂ : List ℕ) (v : Resumes n e w₁ b r w₂) where
          since₂ : Since k w e w₂
          since₂ = since_trans k w e w₁ e w₂ (u.pushed e z).0 v.moved.since

          pub take_back : Remembers k e w₂
          take_back = record { w₀ = w; since = since₂ }

          module _ (w₃ : List ℕ) (q : Backs k e w₂ w₃) where
            room₂ : 16384 ≤ length w₂
            room₂ = omega (arith, v.moved.len, room₁)

            moved₃ : Moved k w k w₃
            moved₃ = record {
              len = q.len ∙ v.moved.len ∙ u.len;
              rest = λ j h. q.rest j (omega arith) ∙ v.moved.rest j h
                  ∙ u.rest j (omega arith);
              since = q.since w since₂;
            }

            room₃ : 16384 ≤ length w₃
            room₃ = omega (arith, q.len, room₂)

            words₃ : loaded_words w₃ ≡ loaded_words w
            words₃ = moved_words k w k w₃ c₀.s.holds.long moved₃

            pub take_notes : Noting w₃ g
            take_notes = let x = read c₀ w₃ room₃ (words₃ ∙ c₀.s.loaded) in
                record { room = room₃; here = x.here; inside = x.inside }

            found₃ : (c : Taking n k w g a) → Finds n k w c.es (resumed (resuming₁ c)) r w₃
            found₃ c = finds_under n k e w w₁ w₂ w₃ c.es (pushed_all c) (resumed (resuming₁ c)) r lights₁ marks₁
                (v.found (resuming₁ c)) (lights_frame w₂ w₃ room₂ q.len (λ j x y. q.rest j (omega arith)))
                (marking_frame w₂ w₃ room₂ q.len (λ j x y. q.rest j (omega arith))) (q.holds n c.es w c.s.holds since₂)

            pub takes_found : (w₄ : List ℕ) → Notes w₃ g r w₄ → Takes n k w g a r w₄
            takes_found w₄ y = record {
              moved = moved_noted k w k w₃ w₄ g r room₃ moved₃ y;
              found = λ c. finds_same n k w c.es (taking (mark_of c.lies) (resumed (resuming₁ c))) (taken_with c) r w₄ (resumed_is c)
                  (finds_taking n k w c.es (mark_of c.lies) (resumed (resuming₁ c)) g r w₃ w₄ room₃ (found₃ c) y
                  (read c w₃ room₃ (words₃ ∙ c.s.loaded)).mark (ap (λ (m : Marking). m (mark_of c.lies)) c.s.marks ∙ c.kept));
            }
