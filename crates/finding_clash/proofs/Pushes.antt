-- Two graphs that lie in the loaded words and do not clash are pushed, one after the other.
-- Assumes nothing.
use mathlib.Core.Path.{◌≡◌, refl, sym, ◌∙◌, subst}
use mathlib.Core.Logic.{inr, ⊎_elim}
use mathlib.Core.List.Memᴰ
use mathlib.Core.List.{List, [], ◌∷◌, Memᴰ}
use Prim.Native.Nat.{ℕ, suc, ◌+◌, ◌*◌, ◌≤◌}
use native.Mathlib.Omega.{arith}
use lib.ListN.{length}
use Rattle.theory.specs.Net.{Graph, Agree}
use Rattle.theory.specs.Weight.{weight}
use Rattle.theory.proofs.Sets.{clash_within}
use Rattle.area.specs.Map.{SECOND}
use Rattle.loading.specs.Entry.{Entry, entry}
use Rattle.classes.specs.Entry.{Aside, Comes}
use Rattle.classes.specs.Holds.{Holds, Pushing, Pushes, Starts}
use Rattle.std.specs.Prelude.{Option, Some, None}
use Rattle.classes.proofs.Laws.{lies_frame}
use Rattle.finding_clash.specs.TwoGraphs.{TwoLie, BothPushing, BothPushes}

module _ (n : ℕ) (w : List ℕ) (w₂ : List ℕ) (s : Starts w w₂) where
  module _ (g h : Graph) (b : ℕ) (lie : TwoLie w g h b) (agree : Agree (g ∷ h ∷ [])) (many : n ≡ b + length h) where
    abbrev one : Entry
    one = entry 0 0 g

    abbrev two : Entry
    two = entry SECOND b h

    small : (3 * n ≤ 2048) × (length g ≤ b) × (suc (weight g) ≤ 1024) × (1024 + suc (weight h) ≤ 2048)
    small = let f = lie.few in (omega arith, lie.numbers, lie.before, lie.second.fits)

    empty : Holds n [] 0 w₂
    empty = s.holds n (let f = small.0 in omega arith)

    first_comes : Comes n [] one w₂
    first_comes =
        let (x, y, z, u) = small in
        record {
          lies = lies_frame w w₂ 0 0 g (λ j a c. s.rest j a) lie.first;
          canonical = lie.first_canonical;
          fits = lie.first_fits;
          inside = omega arith;
          aside = λ o i. absurd (Memᴰ.not-nil i);
          room = omega arith;
        }

    pub first_pushing : Pushing n 0 w₂ 0
    first_pushing = record { es = []; e = one; is = refl; holds = empty; comes = first_comes }

    module _ (w₃ : List ℕ) (x : Option ℕ) (u : Pushes n 0 w₂ 0 x w₃) where
      -- the first graph alone cannot clash
      pub first_goes_in : x ≡ None → ⊥
      first_goes_in z = agree (clash_within (g ∷ []) (g ∷ h ∷ []) (lie.first_canonical, tt)
          (lie.first_canonical, (lie.second_canonical, tt))
          (λ y i. ⊎_elim (λ m. Memᴰ.head m) (λ m. absurd (Memᴰ.not-nil m)) (Memᴰ.cases_cons i))
          ((u.clashed z).1 [] one refl empty first_comes).0)

      module _ (k : ℕ) (z : x ≡ Some k) where
        held : Holds n (one ∷ []) k w₃
        held = (u.inside k z).1 [] one refl empty first_comes

        only_one : (y : Entry) → Memᴰ y (one ∷ []) → y ≡ one
        only_one y i = ⊎_elim (λ q. q) (λ j. absurd (Memᴰ.not-nil j)) (Memᴰ.cases_cons i)

        second_comes : Comes n (one ∷ []) two w₃
        second_comes =
            let (x, y, z, t) = small in
            record {
              lies = lies_frame w w₃ SECOND b h (λ j a c. u.rest j a ∙ s.rest j a) lie.second;
              canonical = lie.second_canonical;
              fits = lie.second_fits;
              inside = omega arith;
              aside = λ o i. subst (Aside two) (sym (only_one o i)) (inr (omega arith), inr (omega arith));
              room = omega arith;
            }

        pub second_pushing : Pushing n k w₃ SECOND
        second_pushing = record { es = one ∷ []; e = two; is = refl; holds = held; comes = second_comes }

        pub both_in : (w₄ : List ℕ) (y : Option ℕ) → Pushes n k w₃ SECOND y w₄ → (j : ℕ) × Holds n (one ∷ two ∷ []) j w₄
        both_in w₄ y v = go y refl
          where
            go : (p : Option ℕ) → y ≡ p → (j : ℕ) × Holds n (one ∷ two ∷ []) j w₄
            go (Some j) e = (j, (v.inside j e).1 (one ∷ []) two refl held second_comes)
            go None e = absurd (agree ((v.clashed e).1 (one ∷ []) two refl held second_comes).0)

  module _ (a : BothPushing n w) where
    pub asks_first : Pushing n 0 w₂ 0
    asks_first = first_pushing a.g a.h a.b a.lie a.agree a.many

    module _ (w₃ : List ℕ) (x : Option ℕ) (u : Pushes n 0 w₂ 0 x w₃) where
      pub pushes_never : x ≡ None → BothPushes n w w₃
      pushes_never z = absurd (first_goes_in a.g a.h a.b a.lie a.agree a.many w₃ x u z)

      module _ (k : ℕ) (z : x ≡ Some k) where
        pub asks_second : Pushing n k w₃ SECOND
        asks_second = second_pushing a.g a.h a.b a.lie a.agree a.many w₃ x u k z

        pub pushes_both : (w₄ : List ℕ) (y : Option ℕ) → Pushes n k w₃ SECOND y w₄ → BothPushes n w w₄
        pushes_both w₄ y v = record {
          len = v.len ∙ u.len ∙ s.len;
          rest = λ j h. v.rest j h ∙ u.rest j h ∙ s.rest j h;
          holds = λ g h b lie agree many. both_in g h b lie agree many w₃ x u k z w₄ y v;
        }
