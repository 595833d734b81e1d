-- An alternative without disjunctions is tried: it is entered by one push, or what its graph would do is told without one, and there
-- is nothing to narrow.
-- Assumes nothing.
use Prim.Native.Nat.{ℕ, ◌+◌}
use native.Mathlib.Omega.{arith}
use mathlib.Core.Path.{◌≡◌, refl, sym, ap, subst, ◌∙◌}
use mathlib.Core.Bool.{Bool, true, false}
use mathlib.Core.List.{List, [], ◌∷◌, ◌++◌}
use lib.ListN.{get_or}
use Rattle.area.specs.Region.{loaded_words}
use Rattle.area.proofs.Region.{words_same}
use Rattle.engine.specs.Quickly.{fails, stands, try_at}
use Rattle.loading.specs.Entry.{graphs}
use Rattle.packing.specs.Packed.{word_extent, word_disjunctions}
use Rattle.marks.specs.Positions.{tail_at, disjunctions_at}
use Rattle.marks.specs.Marked.{marking}
use Rattle.classes.specs.Holds.{Pushes, Backs}
use Rattle.classes.proofs.Laws.{since_refl}
use Rattle.trying.specs.Guessed.{Guesses}
use Rattle.trying.specs.declared.told.Guess.TheVariants.{Agrees, Clashes}
use Rattle.std.specs.Prelude.{Option, Some, None}
use Rattle.entering.specs.Entered.{Entering, Enters}
use Rattle.quick.specs.Stepped.{stepped, Fewer, Narrows, Tries}
use Rattle.quick.proofs.Stepping.{same_log, same_drops}
use Rattle.entering.proofs.Entering.{Reached, walk_start, walk_done, reach_own, enters_own, enters_all}
use Rattle.quick.proofs.Trying.{tries_clash, asks_narrow, tries_stands}
use Rattle.quick.proofs.Sifting.{fewer_none}
use Rattle.quick.proofs.Narrowing.{moved_start, narrow_begin, narrow_done, narrows_stands}
use Rattle.entering.proofs.Bare.{told_enters, bare_one, bare_good}

-- what is read of the same words
none_same : (v w : List ℕ) (g : ℕ) → loaded_words v ≡ loaded_words w → disjunctions_at v (tail_at v g) ≡ disjunctions_at w (tail_at w g)
unfolding disjunctions_at tail_at
none_same v w g e = ap (λ (t : List ℕ). word_disjunctions (get_or t (g + word_extent (get_or t g 0)) 0)) e

module _ (n k : ℕ) (w : List ℕ) (g left : ℕ) (o : Option ℕ) (w₁ : List ℕ) (u : Pushes n k w g o w₁) (c : Entering n k w g left) where
  -- its graph clashes
  pub bare_clash : o ≡ None → Tries n k w g left None w₁
  bare_clash z = tries_clash n k w g left None w₁ (enters_own n k w g left o w₁ u z) c refl

  module _ (e : ℕ) (z : o ≡ Some e) where
    reached : Reached k w e w₁
    reached = reach_own n k w g o e w₁ u z

    -- its graph is in, and is taken back
    module _ (none : disjunctions_at w (tail_at w g) ≡ 0) where
      none₁ : 0 ≡ disjunctions_at w₁ (tail_at w₁ g)
      none₁ = sym (none_same w₁ w g (words_same w w₁ c.s.holds.long u.len (λ j a b. u.rest j a)) ∙ none)

      enters : Enters n k w g left (Some e) w₁
      enters = enters_all n k w g left e w₁ reached
          (λ d. walk_done n k w g left d e w₁ reached 0 (tail_at w₁ g + 1)
          (walk_start n k w g left d e w₁ reached o u z (tail_at w₁ g) 0 refl none₁) (omega arith))

      narrows : Narrows n e w₁ g left (Some (stepped e 0)) w₁
      narrows = narrows_stands n e w₁ g left e 0 w₁ (moved_start n e w₁ g left (asks_narrow n k w g left (Some e) w₁ enters c e refl))
          (fewer_none (marking w₁))
          (λ d. narrow_done n e w₁ g left d 0 (tail_at w₁ g + 1) e w₁ (moved_start n e w₁ g left d)
          (narrow_begin n e w₁ g left d (tail_at w₁ g) 0 refl none₁) (omega arith))

      pub bare_stands : (w₃ : List ℕ) → Backs k e w₁ w₃ → Tries n k w g left (Some (stepped k 0)) w₃
      bare_stands w₃ b = tries_stands n k w g left (Some e) w₁ enters c e refl (Some (stepped e 0)) w₁ narrows e 0 refl w₃ b

-- ---- what its graph would do is told
module _ (n k : ℕ) (w : List ℕ) (g left : ℕ) (c : Entering n k w g left) where
  pub told_clash : Guesses n k w g Clashes → Tries n k w g left None w
  told_clash s = tries_clash n k w g left None w (told_enters n k w g left c s) c refl

  module _ (none : disjunctions_at w (tail_at w g) ≡ 0) where
    -- it agrees
    module _ (s : Guesses n k w g Agrees) where
      bare_stays : try_at (graphs c.es) (marking w) c.lies.d ≡ stands (graphs c.es ++ (bare_one n k w g left c none).0 ∷ [])
          (marking w)
      unfolding Rattle.modes_by_marks.specs.Quickly.try_at
      bare_stays = ap (try_at (graphs c.es) (marking w)) (bare_one n k w g left c none).1.0
          ∙ ap (λ (b : Bool). elim b [
            | false ↦ fails (marking w)
            | true ↦ stands (graphs c.es ++ (bare_one n k w g left c none).0 ∷ []) (marking w)
          ]) (bare_good n k w g left c none s)

pub told_stands : (n k : ℕ) (w : List ℕ) (g left : ℕ) → Entering n k w g left → disjunctions_at w (tail_at w g) ≡ 0 →
    Guesses n k w g Agrees → Tries n k w g left (Some (stepped k 0)) w
told_stands n k w g left c none s = record {
  moved = record { len = refl; rest = λ j h. refl; since = since_refl n c.es k w c.s.holds };
  standing = λ j i y.
      let x : 0 ≡ i = same_drops _ _ _ _ y in (
        subst (λ (i : ℕ). Fewer i (marking w) (marking w)) x (fewer_none (marking w)),
        λ d. (
          graphs d.es ++ (bare_one n k w g left d none).0 ∷ [],
          record { holds' = d.s.holds; is = bare_stays n k w g left d none s },
        ),
      );
  failing = λ y. let x : ◌≡◌ {A = ℕ} 0 1 = cc in absurd (omega arith);
}
