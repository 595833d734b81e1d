-- The full step, return by return: too many choices, or what is kept of what an engine found.
-- Assumes nothing.
use Prim.Native.Nat.{ℕ, zero, suc, ◌≤◌, ◌<◌}
use native.Mathlib.Omega.{arith}
use mathlib.Core.Path.{◌≡◌, refl, sym, ap, subst, ◌∙◌}
use mathlib.Core.Logic.{inl, inr}
use mathlib.Core.Bool.{Bool, true, false, ◌||◌}
use mathlib.Core.Option.{Option, none, some}
use mathlib.Core.List.{List}
use lib.Dec.{ltb}
use lib.ListN.{length}
use borrow.Author.Tests.{ltb-true, ltb-false}
use Rattle.theory.specs.Limits.{depth_limit, choice_limit, choice_stop}
use Rattle.theory.specs.Descr.{Desc}
use Rattle.theory.specs.Canonical.{Can}
use Rattle.area.specs.Map.{SECOND}
use Rattle.area.specs.Region.{loaded_words}
use Rattle.area.proofs.Region.{words_same}
use Rattle.engine.specs.Placed.{Placed, strip}
use Rattle.engine.specs.Marks.{Marking, keep}
use Rattle.engine.specs.Counting.{count_at}
use Rattle.engine.specs.Search.{Found, lit, full_left, full_readings_by}
use Rattle.engine.specs.Search as engine
use Rattle.engine.specs.Sane.{Sane}
use Rattle.marks.specs.Readable.{Readable}
use Rattle.marks.specs.Marked.{marking, LitKept}
use Rattle.marks.proofs.Reading.{readable}
use Rattle.marks.proofs.Marks.{marking_frame}
use Rattle.counting.specs.Counted.{CountedBoth}
use Rattle.counting.proofs.Both.{counted_joined}
use Rattle.classes.specs.Holds.{Undoable}
use Rattle.classes.proofs.Laws.{undoable_on, undoable_frame}
use Rattle.std.specs.Prelude.{Some, None}
use Rattle.leaving.specs.Found.{Finds, Searching, Searches}
use Rattle.std.specs.Prelude.{Result, Ok, Err}
use Rattle.leaving.specs.declared.leave.Left.{Left}
use Rattle.leaving.specs.declared.leave.NoneLeft.{NoneLeft}
use Rattle.leaving.specs.declared.leave.NoneLeft.TheVariants.{TooMany, NoChoice}
use Rattle.leaving.specs.Restarted.{Restarting, Restarts}
use Rattle.leaving.specs.Fulled.{Fulling, few_enough, remaining, Leaving, Fulls}
use Rattle.leaving.specs.Kept.{Ended, Keeping, Keeps}
use Rattle.leaving.proofs.Premises.{pair_full, readings_few}
use Rattle.leaving.proofs.Stages.{pair_keeps, both_agrees, both_stage}

-- ---- engine's full step, by whether anything was found
left_none : (m : Marking) (d : Placed) → length (engine.search (keep m d)) ≡ 0 → full_left m d ≡ none
unfolding Rattle.modes_by_marks.specs.Search.full_left
left_none m d e = ap (λ (c : ℕ). elim c [ zero ↦ none | suc k ↦ some (strip (keep (lit (engine.search (keep m d))) d)) ]) e

left_some : (m : Marking) (d : Placed) (k : ℕ) → length (engine.search (keep m d)) ≡ suc k →
    full_left m d ≡ some (strip (keep (lit (engine.search (keep m d))) d))
unfolding Rattle.modes_by_marks.specs.Search.full_left
left_some m d k e = ap {B = Option Desc}
    (λ (c : ℕ). elim c [ zero ↦ none | suc k ↦ some (strip (keep (lit (engine.search (keep m d))) d)) ]) e

same_left : (a b : Left) → ◌≡◌ {A = Result Left NoneLeft} (Ok a) (Ok b) → a ≡ b
same_left a b e = cc

over_true : (L x : ℕ) → L < x → ltb L x ≡ true
over_true L x h = go (ltb L x) refl
  where
    go : (b : Bool) → ltb L x ≡ b → b ≡ true
    go true e = refl
    go false e = let less = ltb-false L x e in absurd (omega arith)

over_false : (L x : ℕ) → x ≤ L → ltb L x ≡ false
over_false L x h = go (ltb L x) refl
  where
    go : (b : Bool) → ltb L x ≡ b → b ≡ false
    go true e = let more = ltb-true L x e in absurd (omega arith)
    go false e = refl

module _ (n k : ℕ) (w : List ℕ) where
  module _ (c : Fulling n k w) where
    abbrev first : Readable w 0 depth_limit
    first = readable w c.stage.ready.holds.long c.stage.ready.loaded c.p.inputs.ground.few c.p.inputs.first

    abbrev second : Readable w SECOND depth_limit
    second = readable w c.stage.ready.holds.long c.stage.ready.loaded c.p.inputs.ground.few c.p.inputs.second

    pub full_counts : Readable w 0 depth_limit × Readable w SECOND depth_limit
    full_counts = (first, second)

    abbrev searching : Searching n k w
    searching = record { t = c.t; p = c.p; stage = c.stage }

    abbrev found : Found
    found = engine.search (keep (marking w) c.p.j)

  module _ (count : ℕ) (counted : CountedBoth w depth_limit count) where
    count_is : (c : Fulling n k w) → count ≡ count_at choice_stop (marking w) c.p.j
    count_is c = counted_joined w depth_limit count counted (first c) (second c) c.p.j c.p.joined

    -- too many choices
    pub fulls_over : choice_limit < count → Fulls n k w (Err TooMany) w
    fulls_over h = record {
      len = refl;
      rest = λ j h. refl;
      over = λ y c. ap (ltb choice_limit) (sym (count_is c)) ∙ over_true choice_limit count h;
      nothing = λ y c. let z : ◌≡◌ {A = ℕ} 0 1 = cc in absurd (omega arith);
      leaves = λ a b y c. let z : ◌≡◌ {A = ℕ} 0 1 = cc in absurd (omega arith);
    }

    module _ (few : count ≤ choice_limit) (r : ℕ) (w₁ : List ℕ) (v : Searches n k w r w₁) where
      few_is : (c : Fulling n k w) → few_enough (marking w) c.p.j
      few_is c = ap (ltb choice_limit) (sym (count_is c)) ∙ over_false choice_limit count few

      finds : (c : Fulling n k w) → Finds n k w c.stage.es (found c) r w₁
      finds c = v.found (searching c)

      readings_is : (c : Fulling n k w) → r ≡ length (found c)
      readings_is c = omega (arith, (finds c).count, readings_few n c.t c.p (marking w) (omega (arith, count_is c)))

      -- no consistent choice
      fulls_nothing : r ≡ 0 → Fulls n k w (Err NoChoice) w₁
      fulls_nothing z = record {
        len = v.len;
        rest = v.rest;
        over = λ y c. let x : ◌≡◌ {A = ℕ} 0 1 = cc in absurd (omega arith);
        nothing = λ y c. (few_is c, left_none (marking w) c.p.j (sym (readings_is c) ∙ z));
        leaves = λ a b y c. let x : ◌≡◌ {A = ℕ} 0 1 = cc in absurd (omega arith);
      }

      module _ (more : r ≡ 0 → ⊥) where
        one_more : (c : Fulling n k w) → (i : ℕ) × (length (found c) ≡ suc i)
        one_more c = go (length (found c)) (readings_is c)
          where
            go : (x : ℕ) → r ≡ x → (i : ℕ) × (x ≡ suc i)
            go zero e = absurd (more e)
            go (suc i) e = (i, refl)

        module _ (w₂ : List ℕ) (l : LitKept w₁ n w₂) where
          module _ (c : Fulling n k w) where
            room₁ : 16384 ≤ length w₁
            room₁ = omega (arith, v.len, c.stage.ready.holds.long)

            loaded₂ : loaded_words w₂ ≡ c.t
            loaded₂ = words_same w₁ w₂ room₁ l.len (λ j a b. l.rest j (inl b))
                ∙ words_same w w₁ c.stage.ready.holds.long v.len v.since.same ∙ c.stage.ready.loaded

            undoable₂ : Undoable n k w₂
            undoable₂ = undoable_frame n k w₁ (undoable_on n k w c.stage.undoable k w₁ v.since) w₂ l.len
                (λ j h. l.rest j (inl h))

            abbrev restarting : Restarting n k w₂
            restarting = record {
              room = omega (arith, l.len, room₁);
              t = c.t;
              loaded = loaded₂;
              inputs = c.p.inputs;
              undoable =
                  undoable₂;
            }

            full_restarts : Restarting n k w₂
            full_restarts = restarting

            -- the marks are now those that the search lit
            lit_marks : (y : ℕ) → y < n → marking w₂ y ≡ lit (found c) y
            lit_marks y h = l.marks y h ∙ (finds c).seen y ∙ ap (λ (b : Bool). b || lit (found c) y) (c.dark y)

            keeps : keep (marking w₂) c.p.j ≡ keep (lit (found c)) c.p.j
            keeps = pair_keeps n c.t c.p (marking w₂) (lit (found c)) lit_marks

            folds : Can (strip (keep (marking w₂) c.p.j)) × Sane (strip (keep (marking w₂) c.p.j))
            folds = subst (λ (d : Placed). Can (strip d) × Sane (strip d)) (sym keeps)
                (pair_full n c.t c.p (marking w) c.left (one_more c).0 (one_more c).1)

          module _ (o : Rattle.std.specs.Prelude.Option ℕ) (w₃ : List ℕ) (q : Restarts n k w₂ o w₃) where
            -- every consistent choice takes what is certain: there is no clash
            never : o ≡ None → Fulling n k w → ⊥
            never z c = both_agrees n c.t c.p (marking w₂) (folds c).0 (folds c).1 (q.clashed z (restarting c))

            module _ (log : ℕ) (z : o ≡ Some log) where
              left : (c : Fulling n k w) → Leaving n c.t c.p (marking w) log r w₃
              unfolding Rattle.modes_by_marks.specs.Search.full_readings_by
              left c =
                  let room₂ : 16384 ≤ length w₂ = omega (arith, l.len, room₁ c) in
                  let marks₃ : marking w₃ ≡ marking w₂ = marking_frame w₂ w₃ room₂ q.len (λ j a b. q.rest j (omega arith)) in
                  let words₃ : loaded_words w₃ ≡ loaded_words w₂ = words_same w₂ w₃ room₂ q.len (λ j a b. q.rest j a) in
                  let same : keep (marking w₃) c.p.j ≡ keep (marking w₂) c.p.j = ap (λ (m : Marking). keep m c.p.j) marks₃ in
                  let (held, undoable₃) = q.pushed log z (restarting c) in
                  record {
                    readings_are = readings_is c;
                    left_is = left_some (marking w) c.p.j (one_more c).0 (one_more c).1
                        ∙ ap (λ (d : Placed). some (strip d)) (sym (same ∙ keeps c));
                    stage = both_stage n c.t c.p (marking w₂) log w₃ (words₃ ∙ loaded₂ c) marks₃ held undoable₃;
                    can = subst (λ (d : Placed). Can (strip d)) (sym same) (folds c).0;
                    sane = subst (λ (d : Placed). Sane (strip d)) (sym same) (folds c).1;
                  }

              fulls_left : n ≤ 1024 → Fulls n k w (Ok (remaining log r)) w₃
              fulls_left small = record {
                len = q.len ∙ l.len ∙ v.len;
                rest = λ j h. q.rest j (omega arith) ∙ l.rest j (inr (omega arith)) ∙ v.rest j h;
                over = λ y c. let x : ◌≡◌ {A = ℕ} 0 1 = cc in absurd (omega arith);
                nothing = λ y c. let x : ◌≡◌ {A = ℕ} 0 1 = cc in absurd (omega arith);
                leaves = λ a b y c.
                    let e : log ≡ a = ap (λ (l : Left). l.log) (same_left _ _ y) in
                    let f : r ≡ b = ap (λ (l : Left). l.readings) (same_left _ _ y) in (
                      few_is c,
                      subst (λ (a : ℕ). Leaving n c.t c.p (marking w) a b w₃) e
                          (subst (λ (b : ℕ). Leaving n c.t c.p (marking w) log b w₃) f (left c)),
                    );
              }

-- ---- what is kept of what was found
module _ (n k : ℕ) (w₁ : List ℕ) (r : ℕ) where
  pub keeps_nothing : r ≡ 0 → Keeps n k w₁ r (Err NoChoice) w₁
  keeps_nothing z = record {
    len = refl;
    told = λ w e. fulls_nothing n k w e.count e.counted e.few r w₁ e.searches z;
  }

  module _ (more : r ≡ 0 → ⊥) (w₂ : List ℕ) (l : LitKept w₁ n w₂) where
    pub keep_restarts : Keeping n k w₁ r → Restarting n k w₂
    keep_restarts c = let e = c.ended in
        full_restarts n k c.w e.count e.counted e.few r w₁ e.searches more w₂ l c.fulling

    module _ (o : Rattle.std.specs.Prelude.Option ℕ) (w₃ : List ℕ) (q : Restarts n k w₂ o w₃) where
      pub keep_never : o ≡ None → Keeping n k w₁ r → ⊥
      keep_never z c = let e = c.ended in never n k c.w e.count e.counted e.few r w₁ e.searches more w₂ l o w₃ q z c.fulling

      pub keeps_left : (log : ℕ) → o ≡ Some log → Keeping n k w₁ r → Keeps n k w₁ r (Ok (remaining log r)) w₃
      keeps_left log z c = record {
        len = q.len ∙ l.len;
        told = λ w e. fulls_left n k w e.count e.counted e.few r w₁ e.searches more w₂ l o w₃ q log z
            (omega (arith, c.fulling.p.inputs.ground.few));
      }
