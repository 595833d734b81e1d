-- An alternative that is not entered: what is told of it is what would be found.
-- Assumes nothing.
use Prim.Native.Nat.{ℕ, ◌≤◌, ◌<◌}
use native.Mathlib.Omega.{arith}
use mathlib.Core.Path.{◌≡◌, refl, sym, ap, subst, ◌∙◌}
use mathlib.Core.List.{List, [], ◌∷◌, ◌++◌}
use lib.ListN.{length}
use Rattle.theory.specs.Limits.{depth_limit}
use Rattle.engine.specs.Placed.{Placed, Places, stop}
use Rattle.engine.specs.Marks.{Marking}
use Rattle.engine.specs.Search.{taking}
use Rattle.engine.specs.Agenda.{resume_at, dive_at}
use Rattle.engine.proofs.Agenda.{resume_at_leaf, resume_at_stop, dive_at_push}
use Rattle.loading.specs.Entry.{graphs}
use Rattle.loading.specs.Lying.{mark_of}
use Rattle.marks.specs.Positions.{tail_at, disjunctions_at}
use Rattle.classes.specs.Holds.{Pushing}
use Rattle.classes.proofs.Laws.{since_refl}
use Rattle.entering.specs.Moved.{Moved}
use Rattle.entering.proofs.Entering.{asks_own}
use Rattle.entering.proofs.Bare.{told_enters, bare_one, bare_good}
use Rattle.trying.specs.Guessed.{Guesses}
use Rattle.trying.specs.declared.told.Guess.{Guess}
use Rattle.trying.specs.declared.told.Guess.TheVariants.{Agrees, Clashes, Unsure}
use Rattle.search.specs.declared.agenda.Agenda.{Agenda}
use Rattle.search.specs.Frames.{Slot, FramesOn, plan_on}
use Rattle.search.specs.Searched.{Noting, Notes, Taking, taken_with, Takes}
use Rattle.search.specs.Foreseen.{Foreseeing, Foresees}
use Rattle.search.proofs.Slots.{slots_none}
use Rattle.search.proofs.Finding.{finds_none, finds_leaf, finds_same, finds_taking, moved_noted}
use Rattle.search.proofs.Taking.{asks_enter, clash_none, read}

module _ (n k : ℕ) (w : List ℕ) (g : ℕ) where
  -- ---- what is told
  module _ (left : ℕ) where
    pub foresee_asks : Foreseeing n k w g left → Pushing n k w g
    foresee_asks f = asks_own n k w g depth_limit (asks_enter n k w g f.a f.taking)

    pub foresee_here : Foreseeing n k w g left → ((g < 2048) × (16384 ≤ length w)) × (tail_at w g < 2048)
    foresee_here f =
        let c = f.taking in
        let r = read n k w g f.a c w c.s.holds.long c.s.loaded in
        ((r.here, c.s.holds.long), r.inside)

    pub foresees_unsure : Foresees n k w g left Unsure
    foresees_unsure = record {
      clashes = λ y. let i : ◌≡◌ {A = ℕ} 0 1 = cc in absurd (omega arith);
      agrees = λ y. let i : ◌≡◌ {A = ℕ} 0 1 = cc in absurd (omega arith);
    }

    -- it does not agree for certain
    pub foresees_other : (r : Guess) → Guesses n k w g r → (r ≡ Agrees → ⊥) → Foresees n k w g left r
    foresees_other r s z = record {
      clashes = λ y a c. clash_none n k w g a c
          (((told_enters n k w g depth_limit (asks_enter n k w g a c) (subst (Guesses n k w g) y s)).clashed refl).1
          (asks_enter n k w g a c)).0;
      agrees = λ y. absurd (z y);
    }

    -- it agrees, and nothing is left
    pub foresees_one : left ≡ 0 → disjunctions_at w (tail_at w g) ≡ 0 → Guesses n k w g Agrees → Foresees n k w g left Agrees
    foresees_one z none s = record {
      clashes = λ y. let i : ◌≡◌ {A = ℕ} 0 1 = cc in absurd (omega arith);
      agrees = λ y a e c.
          let d = asks_enter n k w g a c in
          let S = graphs c.es in
          let m = c.s.m in
          let K = (bare_one n k w g depth_limit d none).0 in
          ap (taking (mark_of c.lies)) (
          ap (λ (p : Placed). dive_at m S p (plan_on c.s c.l c.lies.end c.lies.to c.frames))
          (bare_one n k w g depth_limit d none).1.0
          ∙ dive_at_push m S K stop (plan_on c.s c.l c.lies.end c.lies.to c.frames)
          (bare_good n k w g depth_limit d none s)
          ∙ resume_at_stop m (plan_on c.s c.l c.lies.end c.lies.to c.frames) (S ++ K ∷ [])
          ∙ ap (λ (fs : List Places). resume_at m fs (S ++ K ∷ []))
          (bare_plan a c c.l c.frames (sym c.lists.is ∙ slots_none a (e ∙ z)))
          ∙ resume_at_leaf m (S ++ K ∷ [])
          );
    }
      where
        bare_plan : (a : Agenda) (c : Taking n k w g a) (l : List Slot)
            (F : FramesOn c.s l c.lies.end c.lies.to) → l ≡ [] →
            plan_on c.s l c.lies.end c.lies.to F ≡ []
        bare_plan a c [] F e = refl
        bare_plan a c (x ∷ l) F e = let z : ◌≡◌ {A = ℕ} 0 1 = cc in absurd (omega arith)

  -- ---- what `take` answers then
  module _ (a : Agenda) (c₀ : Taking n k w g a) where
    stays : Moved k w k w
    stays = record { len = refl; rest = λ j h. refl; since = since_refl n c₀.es k w c₀.s.holds }

    pub takes_none : (r : Guess) → Foresees n k w g a.frames r → r ≡ Clashes → Takes n k w g a 0 w
    takes_none r f y = record {
      moved = stays;
      found =
          λ c. finds_same n k w c.es [] (taken_with c) 0 w (f.clashes y a c) (finds_none n k w c.es c.s.holds);
    }

    pub alone_notes : Noting w g
    alone_notes = let x = read n k w g a c₀ w c₀.s.holds.long c₀.s.loaded in
        record { room = c₀.s.holds.long; here = x.here; inside = x.inside }

    pub takes_one : (r : Guess) → Foresees n k w g a.frames r → r ≡ Agrees → (w₁ : List ℕ) → Notes w g 1 w₁ → Takes n k w g a 1 w₁
    takes_one r f y w₁ v = record {
      moved = moved_noted k w k w w₁ g 1 c₀.s.holds.long stays v;
      found = λ c. finds_same n k w c.es ((mark_of c.lies ∷ []) ∷ []) (taken_with c) 1 w₁ (f.agrees y a refl c)
          (finds_taking n k w c.es (mark_of c.lies) ([] ∷ []) g 1 w w₁ c.s.holds.long (finds_leaf n k w c.es c.s.holds) v
          (read n k w g a c w c.s.holds.long c.s.loaded).mark (ap (λ (m : Marking). m (mark_of c.lies)) c.s.marks
          ∙ c.kept));
    }
