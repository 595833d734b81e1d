-- What stays where only words of the result change, and what stands there.
-- Assumes nothing.
use Prim.Native.Nat.{ℕ, ◌+◌, ◌≤◌, ◌<◌}
use native.Mathlib.Omega.{arith}
use mathlib.Core.Path.{◌≡◌, refl, sym, ap, subst, ◌∙◌}
use mathlib.Core.Logic.{inl, inr, ⊎_elim}
use mathlib.Core.List.{List, [], ◌∷◌, ◌++◌}
use lib.ListN.{length, set, length-set}
use lib.Seq.{get_or-set_same, get_or-set_other}
use Rattle.area.specs.Map.{SIZE, RESULT, NODES}
use Rattle.area.specs.Region.{loaded_words}
use Rattle.area.proofs.Region.{words_same}
use Rattle.layout.specs.Standing.{Stands}
use Rattle.layout.proofs.Standing.{stands_append, stands_cons, stands_nil, stands_length, stands_frame}
use Rattle.marks.specs.Marked.{marking}
use Rattle.marks.proofs.Marks.{marking_frame}
use Rattle.choosing.specs.Ways.{Take, take_word, words_of}
use Rattle.choosing.specs.Chosen.{Written, Beyond}

-- ---- what stays
pub beyond_none : (w : List ℕ) (at : ℕ) → Beyond w at w
beyond_none w at = record { len = refl; rest = λ j h. refl }

pub beyond_trans : (w : List ℕ) (at : ℕ) (w₁ : List ℕ) (to : ℕ) (w₂ : List ℕ) → at ≤ to → Beyond w at w₁ → Beyond w₁ to w₂ → Beyond w at w₂
beyond_trans w at w₁ to w₂ h b c = record {
  len = c.len ∙ b.len;
  rest = λ j. ⊎_elim (λ l. c.rest j (inl (omega arith)) ∙ b.rest j (inl l)) (λ l. c.rest j (inr l) ∙ b.rest j (inr l));
}

pub beyond_set : (w : List ℕ) (at v : ℕ) → at < NODES → Beyond w at (set w (RESULT + at) v)
beyond_set w at v h = record {
  len = length-set w (RESULT + at) v;
  rest = λ j. ⊎_elim (λ l. get_or-set_other w (RESULT + at) j v 0 (λ e. omega arith))
      (λ l. get_or-set_other w (RESULT + at) j v 0 (λ e. omega arith));
}

module _ (w : List ℕ) (at : ℕ) (w' : List ℕ) (room : SIZE ≤ length w) (b : Beyond w at w') where
  pub beyond_room : SIZE ≤ length w'
  beyond_room = omega (arith, b.len)

  pub beyond_words : loaded_words w' ≡ loaded_words w
  beyond_words = words_same w w' room b.len (λ j l u. b.rest j (inl (omega arith)))

  pub beyond_marks : marking w' ≡ marking w
  beyond_marks = marking_frame w w' room b.len (λ j l u. b.rest j (inl (omega arith)))

-- ---- what stands
pub written_none : (w : List ℕ) (at : ℕ) → Written w at [] at
written_none w at = (stands_nil w (RESULT + at) (RESULT + at)).1 refl

words_append : (ks os : List Take) → words_of (ks ++ os) ≡ words_of ks ++ words_of os
words_append [] os = refl
words_append (k ∷ ks) os = ap (λ (z : List ℕ). take_word k ∷ z) (words_append ks os)

words_long : (ks : List Take) → length (words_of ks) ≡ length ks
words_long [] = refl
words_long (k ∷ ks) = let e = words_long ks in omega arith

pub written_long : (w : List ℕ) (at : ℕ) (ks : List Take) (r : ℕ) → Written w at (words_of ks) r → r ≡ at + length ks
written_long w at ks r s = omega (arith, stands_length w (words_of ks) (RESULT + at) (RESULT + r) s, words_long ks)

-- more stands after what stood
pub written_append : (w : List ℕ) (at : ℕ) (ks : List Take) (to : ℕ) (w' : List ℕ) (os : List Take) (r : ℕ) → SIZE ≤ length w →
    Written w at (words_of ks) to → Beyond w to w' → Written w' to (words_of os) r → Written w' at (words_of (ks ++ os)) r
written_append w at ks to w' os r room s b u =
    subst (λ (xs : List ℕ). Written w' at xs r) (sym (words_append ks os))
    ((stands_append w' (words_of ks) (words_of os) (RESULT + at) (RESULT + r)).1 (
      RESULT + to,
      stands_frame w w' (words_of ks) (RESULT + at) (RESULT + to) (λ j l v i. (omega (arith, b.len), b.rest j (inl v))) s,
      u,
    ))

-- a word, and then more
pub written_cons : (w : List ℕ) (at v : ℕ) (w' : List ℕ) (k : Take) (ks : List Take) (r : ℕ) → SIZE ≤ length w → at < NODES →
    v ≡ take_word k → Beyond (set w (RESULT + at) v) (at + 1) w' → Written w' (at + 1) (words_of ks) r →
    Written w' at (words_of (k ∷ ks)) r
written_cons w at v w' k ks r room h e b u =
    let long : length w' ≡ length w = b.len ∙ length-set w (RESULT + at) v in
    let here : RESULT + (at + 1) ≡ RESULT + at + 1 = omega arith in
    (stands_cons w' (take_word k) (words_of ks) (RESULT + at) (RESULT + r)).1 (
      omega arith,
      b.rest (RESULT + at) (inl (omega arith)) ∙ get_or-set_same w (RESULT + at) v 0 (omega arith) ∙ e,
      subst (λ (j : ℕ). Stands w' j (words_of ks) (RESULT + r)) here u,
    )
