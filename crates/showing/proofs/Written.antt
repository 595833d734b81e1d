-- Words put into the result, one run after another, and a word before others; what is loaded stays.
-- Assumes nothing.
use Prim.Native.Nat.{ℕ, ◌+◌, ◌≤◌, ◌<◌}
use native.Mathlib.Omega.{arith}
use mathlib.Core.Path.{◌≡◌, refl, subst, ◌∙◌}
use mathlib.Core.List.{List, [], ◌∷◌, ◌++◌}
use lib.ListN.{length, get_or, set, length-set}
use lib.Seq.{get_or-set_same, get_or-set_other}
use Rattle.area.specs.Map.{RESULT}
use Rattle.area.specs.Region.{loaded_words}
use Rattle.area.proofs.Region.{words_same}
use Rattle.layout.specs.Standing.{Stands}
use Rattle.layout.proofs.Standing.{stands_append, stands_nil, stands_cons, stands_order, stands_length, stands_frame}
use Rattle.marks.specs.Marked.{marking}
use Rattle.marks.proofs.Marks.{marking_frame}
use Rattle.classes.specs.Holds.{Holds}
use Rattle.classes.proofs.Laws.{holds_frame}
use Rattle.showing.specs.Putting.{Written, Base}

module _ (n : ℕ) (w : List ℕ) where
  pub written_none : (o : ℕ) → Holds n [] 0 w → Written n w o [] o w
  written_none o h = record {
    len = refl;
    mid = λ j a b. refl;
    high = λ j a. refl;
    stands = (stands_nil w (RESULT + o) (RESULT + o)).1 refl;
    holds = h;
  }

  pub written_order : (o : ℕ) (xs : List ℕ) (r : ℕ) (w₁ : List ℕ) → Written n w o xs r w₁ → r ≡ o + length xs
  written_order o xs r w₁ a = omega (arith, stands_length w₁ xs (RESULT + o) (RESULT + r) a.stands)

  pub written_append : (o : ℕ) (xs : List ℕ) (p : ℕ) (w₁ ys : List ℕ) (r : ℕ) (w₂ : List ℕ) → Written n w o xs p w₁ →
      Written n w₁ p ys r w₂ → Written n w o (xs ++ ys) r w₂
  written_append o xs p w₁ ys r w₂ a b =
      let near = written_order o xs p w₁ a in
      let far = stands_order w₂ ys (RESULT + p) (RESULT + r) b.stands in
      let len = b.len in
      record {
        len = b.len ∙ a.len;
        mid = λ j h k. b.mid j h (omega arith) ∙ a.mid j h k;
        high = λ j h. b.high j h ∙ a.high j (omega arith);
        stands = (stands_append w₂ xs ys (RESULT + o) (RESULT + r)).1 (
          RESULT + p,
          stands_frame w₁ w₂ xs (RESULT + o) (RESULT + p) (λ j h k l. (omega arith, b.mid j (omega arith) k)) a.stands,
          b.stands,
        );
        holds = b.holds;
      }

  -- one word
  pub written_word : (o v : ℕ) → o < 2048 → Holds n [] 0 w → Written n w o (v ∷ []) (o + 1) (set w (RESULT + o) v)
  written_word o v low h =
      let same = length-set w (RESULT + o) v in
      let long = h.long in
      record {
        len = same;
        mid = λ j a b. get_or-set_other w (RESULT + o) j v 0 (λ e. omega arith);
        high = λ j a. get_or-set_other w (RESULT + o) j v 0 (λ e. omega arith);
        stands = (stands_cons (set w (RESULT + o) v) v [] (RESULT + o) (RESULT + (o + 1))).1 (
          omega arith,
          get_or-set_same w (RESULT + o) v 0 (omega arith),
          (stands_nil (set w (RESULT + o) v) (RESULT + o + 1) (RESULT + (o + 1))).1 (omega arith),
        );
        holds = holds_frame n [] 0 w h (set w (RESULT + o) v) same (λ j a. get_or-set_other w (RESULT + o) j v 0 (λ e. omega arith));
      }

  -- a word is put last, between what stands before it and after it
  pub written_between : (o : ℕ) (xs : List ℕ) (e : ℕ) (w₁ ys : List ℕ) (r : ℕ) (w₂ : List ℕ) (v : ℕ) → Written n w o xs e w₁ →
      Written n w₁ (e + 1) ys r w₂ → e < 2048 → Written n w o (xs ++ v ∷ ys) r (set w₂ (RESULT + e) v)
  written_between o xs e w₁ ys r w₂ v a b low =
      let near = written_order o xs e w₁ a in
      let far = stands_order w₂ ys (RESULT + (e + 1)) (RESULT + r) b.stands in
      let same = length-set w₂ (RESULT + e) v in
      let long = b.holds.long in
      let len = b.len in
      let w₃ = set w₂ (RESULT + e) v in
      let other : (j : ℕ) → (j ≡ RESULT + e → ⊥) → get_or w₃ j 0 ≡ get_or w₂ j 0 = λ j h. get_or-set_other w₂ (RESULT + e) j v 0 h in
      let next : RESULT + (e + 1) ≡ RESULT + e + 1 = omega arith in
      record {
        len = same ∙ b.len ∙ a.len;
        mid = λ j h k. other j (λ q. omega arith) ∙ b.mid j h (omega arith) ∙ a.mid j h k;
        high = λ j h. other j (λ q. omega arith) ∙ b.high j h ∙ a.high j (omega arith);
        stands = (stands_append w₃ xs (v ∷ ys) (RESULT + o) (RESULT + r)).1 (
          RESULT + e,
          stands_frame w₁ w₃ xs (RESULT + o) (RESULT + e)
              (λ j h k l. (omega arith, other j (λ q. omega arith) ∙ b.mid j (omega arith) (omega arith))) a.stands,
          (stands_cons w₃ v ys (RESULT + e) (RESULT + r)).1 (
            omega arith,
            get_or-set_same w₂ (RESULT + e) v 0 (omega arith),
            stands_frame w₂ w₃ ys (RESULT + e + 1) (RESULT + r) (λ j h k l. (omega arith, other j (λ q. omega arith)))
                (subst (λ (j : ℕ). Stands w₂ j ys (RESULT + r)) next b.stands),
          ),
        );
        holds = holds_frame n [] 0 w₂ b.holds w₃ same (λ j h. other j (λ q. omega arith));
      }

  -- what is loaded and marked stays
  pub written_same : (o : ℕ) (xs : List ℕ) (r : ℕ) (w₁ : List ℕ) → 16384 ≤ length w → Written n w o xs r w₁ →
      (loaded_words w₁ ≡ loaded_words w) × (marking w₁ ≡ marking w)
  written_same o xs r w₁ long a = (
    words_same w w₁ long a.len (λ j h k. a.mid j h (omega arith)),
    marking_frame w w₁ long a.len (λ j h k. a.mid j (omega arith) (omega arith)),
  )

  abbrev pub based : (b : Base n w) (o : ℕ) (xs : List ℕ) (r : ℕ) (w₁ : List ℕ) → Written n w o xs r w₁ → Base n w₁
  based b o xs r w₁ a =
      let same = written_same o xs r w₁ b.holds.long a in
      record {
        t = b.t;
        loaded = same.0 ∙ b.loaded;
        m = b.m;
        marks = same.1
            ∙ b.marks;
        U = b.U;
        ground = b.ground;
        holds = a.holds;
        inside = b.inside;
      }
