-- All that is certain in both inputs is pushed anew: the first, then the second.
-- Assumes nothing.
use Prim.Native.Nat.{ℕ, ◌≤◌}
use native.Mathlib.Omega.{arith}
use mathlib.Core.Path.{◌≡◌, refl, ap, subst, ◌∙◌}
use mathlib.Core.Logic.{inl}
use mathlib.Core.List.Memᴰ
use mathlib.Core.List.{List, [], ◌++◌}
use lib.ListN.{length}
use Rattle.theory.specs.Limits.{depth_limit}
use Rattle.theory.specs.Net.{Clash}
use Rattle.area.specs.Map.{SECOND}
use Rattle.area.specs.Region.{loaded_words}
use Rattle.area.proofs.Region.{words_same}
use Rattle.engine.specs.Marks.{Marking}
use Rattle.loading.specs.Entry.{Entry, graphs}
use Rattle.marks.specs.Marked.{marking}
use Rattle.marks.proofs.Marks.{marking_frame}
use Rattle.classes.specs.Holds.{Holds, Remembers, Backs, Undoable}
use Rattle.classes.proofs.Laws.{undoable_start, undoable_on, undoable_asks, undoable_back}
use Rattle.std.specs.Prelude.{Option, Some, None}
use Rattle.entering.specs.Taken.{taken_of, Inside}
use Rattle.entering.specs.Entered.{Entering, entered, Enters}
use Rattle.entering.specs.Inputs.{Inputs}
use Rattle.entering.proofs.Certain.{between_of, inside_of}
use Rattle.entering.proofs.Entering.{inside_append, clash_more}
use Rattle.leaving.specs.Restarted.{Restarting, certain_both, Restarts}

-- what is certain in both is among the graphs that lie in the words
pub certain_inside : (n : ℕ) (t : List ℕ) (i : Inputs n t) (m : Marking) → Inside i.U (certain_both i m)
certain_inside n t i m = inside_append i.U (taken_of m i.first)
    (taken_of m i.second)
    (inside_of m i.first i.U i.among_first)
    (inside_of m i.second i.U i.among_second)

pub restart_back : (n k : ℕ) (w : List ℕ) → Restarting n k w → Remembers 0 k w
restart_back n k w c = undoable_asks n k w c.undoable

module _ (n k : ℕ) (w w₁ : List ℕ) (s : Backs 0 k w w₁) where
  module _ (c : Restarting n k w) where
    abbrev one : List Entry
    one = taken_of (marking w) c.inputs.first

    abbrev two : List Entry
    two = taken_of (marking w) c.inputs.second

    marks₁ : marking w₁ ≡ marking w
    marks₁ = marking_frame w w₁ c.room s.len (λ j a b. s.rest j (omega arith))

    loaded₁ : loaded_words w₁ ≡ c.t
    loaded₁ = words_same w w₁ c.room s.len (λ j a b. s.rest j a) ∙ c.loaded

    empty : Holds n [] 0 w₁
    empty = undoable_back n k w c.undoable w₁ s

    abbrev first : Entering n 0 w₁ 0 depth_limit
    first = record {
      es = [];
      s = record {
        t = c.t;
        loaded = loaded₁;
        m = marking w₁;
        marks = refl;
        U = c.inputs.U;
        ground = c.inputs.ground;
        holds = empty;
        inside = λ o i. absurd (Memᴰ.not-nil i);
      };
      lies = c.inputs.first;
      among = c.inputs.among_first;
      free = λ o i. absurd (Memᴰ.not-nil i);
    }

    pub restart_first : Entering n 0 w₁ 0 depth_limit
    restart_first = first

    first_is : entered first ≡ one
    first_is = ap (λ (m : Marking). taken_of m c.inputs.first) marks₁

  module _ (o : Option ℕ) (w₂ : List ℕ) (u : Enters n 0 w₁ 0 depth_limit o w₂) where
    pub restarts_clash : o ≡ None → Restarts n k w None w₂
    restarts_clash z = record {
      len = u.len ∙ s.len;
      rest = λ j h. u.rest j h ∙ s.rest j h;
      pushed = λ log y c. let x : ◌≡◌ {A = ℕ} 0 1 = cc in absurd (omega arith);
      clashed = λ y c. clash_more n c.t c.inputs.U (one c) (two c) c.inputs.ground
          (certain_inside n c.t c.inputs (marking w))
          (subst (λ (l : List Entry). Clash (graphs l)) (first_is c) ((u.clashed z).1 (first c)).0);
    }

    module _ (j : ℕ) (z : o ≡ Some j) where
      module _ (c : Restarting n k w) where
        room₁ : 16384 ≤ length w₁
        room₁ = omega (arith, s.len, c.room)

        marks₂ : marking w₂ ≡ marking w
        marks₂ = marking_frame w₁ w₂ room₁ u.len (λ j a b. u.rest j (omega arith)) ∙ marks₁ c

        loaded₂ : loaded_words w₂ ≡ c.t
        loaded₂ = words_same w₁ w₂ room₁ u.len (λ j a b. u.rest j a) ∙ loaded₁ c

        abbrev second : Entering n j w₂ SECOND depth_limit
        second = record {
          es = one c;
          s = record {
            t = c.t;
            loaded = loaded₂;
            m = marking w₂;
            marks = refl;
            U = c.inputs.U;
            ground = c.inputs.ground;
            holds = subst (λ (l : List Entry). Holds n l j w₂) (first_is c) ((u.pushed j z).1 (first c));
            inside = inside_of (marking w) c.inputs.first c.inputs.U c.inputs.among_first;
          };
          lies = c.inputs.second;
          among = c.inputs.among_second;
          free = λ o i. let low = (between_of (marking w) c.inputs.first o i).1 in inl (omega (arith, c.inputs.apart));
        }

        pub restart_second : Entering n j w₂ SECOND depth_limit
        restart_second = second

        undoable₂ : Undoable n j w₂
        undoable₂ = undoable_on n 0 w₁ (undoable_start n w₁ (empty c)) j w₂ (u.pushed j z).0

        second_is : entered second ≡ certain_both c.inputs (marking w)
        second_is = ap (λ (m : Marking). one c
            ++ taken_of m c.inputs.second) marks₂

      pub restarts : (r : Option ℕ) (w₃ : List ℕ) → Enters n j w₂ SECOND depth_limit r w₃ → Restarts n k w r w₃
      restarts r w₃ v = record {
        len = v.len ∙ u.len ∙ s.len;
        rest = λ i h. v.rest i h ∙ u.rest i h ∙ s.rest i h;
        pushed = λ log y c. (
          subst (λ (l : List Entry). Holds n l log w₃) (second_is c) ((v.pushed log y).1 (second c)),
          undoable_on n j w₂ (undoable₂ c) log w₃ (v.pushed log y).0,
        );
        clashed = λ y c. subst (λ (l : List Entry). Clash (graphs l)) (second_is c) ((v.clashed y).1 (second c)).0;
      }
