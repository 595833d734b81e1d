-- What was found: nothing, a leaf, one after the other, and with an alternative.
-- Assumes nothing.
use Prim.Native.Nat.{ℕ, ◌+◌, ◌≤◌, ◌<◌, min}
use native.Mathlib.Omega.{arith}
use mathlib.Core.Path.{◌≡◌, refl, sym, ap, ap₂, subst, ◌∙◌}
use mathlib.Core.Logic.{inl, inr, ⊎_elim}
use mathlib.Core.Bool.{Bool, true, false, ◌||◌, ◌&&◌}
use mathlib.Core.List.{List, [], ◌∷◌, ◌++◌}
use lib.Dec.{eqb, ltb}
use lib.ListN.{length, length-append}
use borrow.Author.Tests.{ltb-true, ltb-false}
use Rattle.theory.specs.Limits.{choice_stop}
use Rattle.engine.specs.Search.{Found, taking, lit}
use Rattle.engine.specs.Marks.{Marking}
use Rattle.modes_by_marks.proofs.Agenda.{taking_count, lit_append, lit_taking, any_found}
use Rattle.loading.specs.Entry.{Entry}
use Rattle.marks.specs.Marked.{marking, lights, Lighted}
use Rattle.marks.specs.Positions.{mark_at}
use Rattle.marks.proofs.Marks.{or_none, or_assoc}
use Rattle.classes.specs.Holds.{Holds}
use Rattle.classes.proofs.Laws.{holds_frame, since_frame}
use Rattle.entering.specs.Moved.{Moved}
use Rattle.leaving.specs.Found.{Finds}
use Rattle.search.specs.Searched.{Notes}

-- ---- an alternative is noted
pub notes_none : (w : List ℕ) (g found : ℕ) → found ≤ 0 → Notes w g found w
notes_none w g found h = record {
  len = refl;
  rest = λ j o. refl;
  seen = λ y. or_none (lights w y) ∙ ap (λ (b : Bool). lights w y || (b && eqb y (mark_at w g))) (none (ltb 0 found) refl);
  marks = λ e. refl;
}
  where
    none : (b : Bool) → ltb 0 found ≡ b → false ≡ ltb 0 found
    none true e = let more = ltb-true 0 found e in absurd (omega arith)
    none false e = sym e

pub notes_some : (w : List ℕ) (g found x : ℕ) (w' : List ℕ) → 0 < found → (x ≡ mark_at w g) × (x < 1024) → Lighted w x w' →
    Notes w g found w'
notes_some w g found x w' h e u = record {
  len = u.len;
  rest = λ j o. u.rest j (λ z. ⊎_elim (λ b. omega (arith, e.1)) (λ b. omega (arith, e.1)) o);
  seen = λ y. u.found y ∙ ap (λ (z : ℕ). lights w y || eqb y z) e.0
      ∙ ap (λ (b : Bool). lights w y || (b && eqb y (mark_at w g))) (some (ltb 0 found) refl);
  marks = λ k. u.marks (ap (marking w) e.0 ∙ k);
}
  where
    some : (b : Bool) → ltb 0 found ≡ b → true ≡ ltb 0 found
    some true e = sym e
    some false e = let less = ltb-false 0 found e in absurd (omega arith)

-- ---- what is found
-- what was found with x is found together with it
with_own : (a f u s : Bool) → ((a || f) || (u && s)) ≡ (a || ((u && s) || f))
with_own true f u s = refl
with_own false true true true = refl
with_own false true true false = refl
with_own false true false s = refl
with_own false false true true = refl
with_own false false true false = refl
with_own false false false s = refl

any_counted : (f : Found) (r : ℕ) → r ≡ min (length f) choice_stop → ltb 0 r ≡ any_found f
any_counted [] r e = ap (ltb 0) (e ∙ zero_is)
  where
    zero_is : min 0 choice_stop ≡ 0
    zero_is = omega arith
any_counted (l ∷ f) r e = go (ltb 0 r) refl
  where
    go : (b : Bool) → ltb 0 r ≡ b → ltb 0 r ≡ true
    go true q = q
    go false q = let h = ltb-false 0 r q in absurd (omega arith)

module _ (n k : ℕ) (w : List ℕ) (es : List Entry) where
  pub finds_none : Holds n es k w → Finds n k w es [] 0 w
  finds_none h = record { count = omega arith; seen = λ y. or_none (lights w y); marks = refl; holds = h }

  pub finds_leaf : Holds n es k w → Finds n k w es ([] ∷ []) 1 w
  finds_leaf h = record { count = omega arith; seen = λ y. or_none (lights w y); marks = refl; holds = h }

  pub finds_same : (f f' : Found) (r : ℕ) (w' : List ℕ) → f' ≡ f → Finds n k w es f r w' → Finds n k w es f' r w'
  finds_same f f' r w' e u = subst (λ (z : Found). Finds n k w es z r w') (sym e) u

  pub finds_small : (f : Found) (r : ℕ) (w' : List ℕ) → Finds n k w es f r w' → r ≤ choice_stop
  finds_small f r w' u = omega (arith, u.count)

  -- one after the other
  pub finds_append : (f g : Found) (r s q : ℕ) (w₁ w₂ : List ℕ) → Finds n k w es f r w₁ → Finds n k w₁ es g s w₂ →
      q ≡ min (r + s) choice_stop → Finds n k w es (f ++ g) q w₂
  finds_append f g r s q w₁ w₂ u v e = record {
    count = omega (arith, u.count, v.count, length-append f g);
    seen = λ y. v.seen y ∙ ap (λ (b : Bool). b || lit g y) (u.seen y) ∙ or_assoc (lights w y) (lit f y) (lit g y)
        ∙ ap (λ (b : Bool). lights w y || b) (sym (lit_append f g y));
    marks = v.marks ∙ u.marks;
    holds = v.holds;
  }

  -- with the alternative at g
  pub finds_taking : (x : ℕ) (f : Found) (g r : ℕ) (w₁ w₂ : List ℕ) → 16384 ≤ length w₁ → Finds n k w es f r w₁ → Notes w₁ g r w₂ →
      mark_at w₁ g ≡ x → marking w x ≡ true → Finds n k w es (taking x f) r w₂
  finds_taking x f g r w₁ w₂ room u v e own = record {
    count = u.count ∙ ap (λ (c : ℕ). min c choice_stop) (sym (taking_count x f));
    seen = λ y.
        v.seen y
        ∙ ap₂ {C = Bool} (λ (a b : Bool). a || (b && eqb y (mark_at w₁ g))) (u.seen y) (any_counted f r u.count)
        ∙ ap (λ (z : ℕ). (lights w y || lit f y) || (any_found f && eqb y z)) e
        ∙ with_own (lights w y) (lit f y) (any_found f) (eqb y x)
        ∙ ap (λ (b : Bool). lights w y || b) (sym (lit_taking x f y));
    marks = v.marks (ap (marking w₁) e ∙ ap (λ (m : Marking). m x) u.marks ∙ own) ∙ u.marks;
    holds = holds_frame n es k w₁ u.holds w₂ v.len (λ j h. v.rest j (inl h));
  }

-- what was found on top of more graphs, once they are taken back
pub finds_under : (n k e : ℕ) (w w₁ w₂ w₃ : List ℕ) (es es₁ : List Entry) (f : Found) (r : ℕ) → lights w₁ ≡ lights w →
    marking w₁ ≡ marking w → Finds n e w₁ es₁ f r w₂ → lights w₃ ≡ lights w₂ → marking w₃ ≡ marking w₂ → Holds n es k w₃ →
    Finds n k w es f r w₃
finds_under n k e w w₁ w₂ w₃ es es₁ f r l m u l' m' h = record {
  count = u.count;
  seen = λ y. ap (λ (x : Marking). x y) l' ∙ u.seen y ∙ ap (λ (x : Marking). x y || lit f y) l;
  marks = m' ∙ u.marks ∙ m;
  holds = h;
}

-- ---- what moved
pub moved_noted : (k : ℕ) (w : List ℕ) (k' : ℕ) (w₁ w₂ : List ℕ) (g found : ℕ) → 16384 ≤ length w₁ → Moved k w k' w₁ → Notes w₁ g found w₂ →
    Moved k w k' w₂
moved_noted k w k' w₁ w₂ g found room m v =
    record {
      len = v.len ∙ m.len;
      rest = λ j h. v.rest j (inr h)
          ∙ m.rest j h;
      since = since_frame k w k' w₁ w₂ v.len room (λ j h. v.rest j (inl h)) m.since;
    }
