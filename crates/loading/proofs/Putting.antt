-- Words that are put somewhere: one after the other, and one before others.
-- Assumes nothing.
use Prim.Native.Nat.{ℕ, ◌+◌, ◌<◌}
use native.Mathlib.Omega.{arith}
use mathlib.Core.Path.{refl, ◌∙◌}
use mathlib.Core.Logic.{inl, inr, ⊎_elim}
use mathlib.Core.List.{List, [], ◌∷◌, ◌++◌}
use lib.ListN.{length, set, length-set}
use lib.Seq.{get_or-set_same, get_or-set_other}
use Rattle.layout.proofs.Standing.{stands_append, stands_nil, stands_cons, stands_order, stands_frame}
use Rattle.loading.specs.Loading.{Put}

pub put_nil : (t : List ℕ) (p : ℕ) → Put t t p [] p
put_nil t p = record { same = refl; stands = (stands_nil t p p).1 refl; rest = λ j h. refl }

pub put_append : (t u v xs ys : List ℕ) (p q r : ℕ) → Put t u p xs q → Put u v q ys r → Put t v p (xs ++ ys) r
put_append t u v xs ys p q r a b =
    let size = b.same in
    let near = stands_order u xs p q a.stands in
    let far = stands_order v ys q r b.stands in
    record {
      same = b.same ∙ a.same;
      stands = (stands_append v xs ys p r).1 (
        q,
        stands_frame u v xs p q (λ j h k l. (omega arith, b.rest j (inl k))) a.stands,
        b.stands,
      );
      rest = λ j. ⊎_elim (λ h. b.rest j (inl (omega arith)) ∙ a.rest j (inl h)) (λ h. b.rest j (inr h) ∙ a.rest j (inr (omega arith)));
    }

-- a word put last, before the others
pub put_before : (t u : List ℕ) (x : ℕ) (xs : List ℕ) (p q : ℕ) → p < length t → Put t u (p + 1) xs q → Put t (set u p x) p (x ∷ xs) q
put_before t u x xs p q h a =
    let size = a.same in
    let same = length-set u p x in
    let far = stands_order u xs (p + 1) q a.stands in
    record {
      same = same ∙ size;
      stands = (stands_cons (set u p x) x xs p q).1 (
        omega arith,
        get_or-set_same u p x 0 (omega arith),
        stands_frame u (set u p x) xs (p + 1) q (λ j h k l. (omega arith, get_or-set_other u p j x 0 (λ e. omega arith))) a.stands,
      );
      rest = λ j. ⊎_elim (λ h. get_or-set_other u p j x 0 (λ e. omega arith)
          ∙ a.rest j (inl (omega arith))) (λ h. get_or-set_other u p j x 0 (λ e. omega arith) ∙ a.rest j (inr h));
    }

pub put_one : (t : List ℕ) (x p : ℕ) → p < length t → Put t (set t p x) p (x ∷ []) (p + 1)
put_one t x p h = put_before t t x [] p (p + 1) h (put_nil t (p + 1))

-- a word put first, and others after it
pub put_then : (t u : List ℕ) (x : ℕ) (xs : List ℕ) (p q : ℕ) → p < length t → Put (set t p x) u (p + 1) xs q → Put t u p (x ∷ xs) q
put_then t u x xs p q h a = put_append t (set t p x) u (x ∷ []) xs p (p + 1) q (put_one t x p h) a
