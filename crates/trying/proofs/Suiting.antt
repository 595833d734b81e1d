-- What the roots say under a feature, as it is looked up. Assumes nothing.
use mathlib.Core.Path.{◌≡◌, sym, ap, ◌∙◌, subst}
use mathlib.Core.List.{List, []}
use Prim.Native.Nat.{ℕ, suc, ◌<◌}
use native.Mathlib.Omega.{arith}
use lib.ListN.{get_or}
use Rattle.area.specs.Region.{loaded_words}
use Rattle.loading.specs.Entry.{Entry}
use Rattle.forest.specs.Held.{ChainCode}
use Rattle.forest.specs.State.{targets, Chain, Runs, Looked}
use Rattle.classes.specs.Holds.{Holds, class, Classed}
use Rattle.forest.proofs.Links.{first_det, none_first}
use Rattle.classes.proofs.Answers.{root-classed, asked_low, target_low}
use Rattle.classes.proofs.Writer.{class_low, class_top}
use Rattle.sieving.proofs.Keeping.{roots_run}
use Rattle.trying.specs.Leaf.{Anchored, Under, target_code, Suits}
use Rattle.trying.specs.declared.told.Guess.TheVariants.{Agrees, Clashes, Unsure}

-- a chain begins with what the class of all roots holds
pub root_chain : (n : ℕ) (es : List Entry) (k : ℕ) (w : List ℕ) (h : Holds n es k w) → 0 < n → ChainCode (get_or w (class h 0) 0) →
    (xs : List ℕ) × Chain w (get_or w (class h 0) 0) xs
root_chain n es k w h some low = let l = class_low n es k w h 0 some in
    (get_or h.state.C (class h 0) [], h.state.chain (class h 0) (omega arith) (class_top n es k w h 0 some) low)

module _ (n : ℕ) (w : List ℕ) (x : ℕ) (a : Anchored n w x) where
  classed : Classed n w 0 a.c
  classed = root-classed n w 0 a.c a.root

  pub anchored_runs : Runs w x
  anchored_runs = let l = a.low in let e = a.is in
      subst (Runs w) (sym a.is) (roots_run n w a.some a.labelled a.c a.root (omega arith))

  head_is : (es : List Entry) (k : ℕ) (h : Holds n es k w) → x ≡ get_or w (class h 0) 0
  head_is es k h = a.is ∙ ap (λ (z : ℕ). get_or w z 0) (classed.is es k h)

  module _ (f v r : ℕ) (m : Looked (loaded_words w) w f x r) where
    chained : (es : List Entry) (k : ℕ) (h : Holds n es k w) → Looked (loaded_words w) w f (get_or w (class h 0) 0) r
    chained es k h = subst (λ (z : ℕ). Looked (loaded_words w) w f z r) (head_is es k h) m

    pub suits_free : r ≡ 0 → Suits n w f v Agrees
    suits_free z = record {
      agrees = λ y es k h q p.
          let e = head_is es k h in
          let t = root_chain n es k w h a.some (omega (arith, a.low)) in
          absurd (none_first (loaded_words w) f t.0 q ((chained es k h).miss z t.0 t.1) (p t.0 t.1));
      clashes = λ y. let i : ◌≡◌ {A = ℕ} 0 1 = cc in absurd (omega arith);
    }

    module _ (j : ℕ) (found_is : r ≡ suc j) where
      found : (es : List Entry) (k : ℕ) (h : Holds n es k w) → Under h f j
      found es k h xs t = (chained es k h).hit j found_is xs t

      pub suits_low : (j < 2047) × (get_or (targets w) j 0 < n)
      suits_low =
          let l = a.low in let e = a.is in
          target_low n w 0 a.some a.c classed f (omega arith) j
          (subst (Looked (loaded_words w) w f (get_or w a.c 0)) found_is (subst (λ (z : ℕ). Looked (loaded_words w) w f z r) a.is m))
          a.labelled

      module _ (c : ℕ) (cl : Classed n w (get_or (targets w) j 0) c) where
        held_is : (es : List Entry) (k : ℕ) (h : Holds n es k w) → target_code h j ≡ get_or w c 0
        held_is es k h = ap (λ (z : ℕ). get_or w z 0) (sym (cl.is es k h))

        pub suits_inside : c < n
        suits_inside = asked_low n w (get_or (targets w) j 0) suits_low.1 c cl a.labelled

        pub suits_same : get_or w c 0 ≡ v → Suits n w f v Agrees
        suits_same z = record {
          agrees = λ y es k h q p.
              let e = head_is es k h in
              let t = root_chain n es k w h a.some (omega (arith, a.low)) in
              let d : q ≡ j = first_det (loaded_words w) f t.0 q j (p t.0 t.1) (found es k h t.0 t.1) in
              ap (λ (i : ℕ). target_code h i) d ∙ held_is es k h ∙ z;
          clashes = λ y. let i : ◌≡◌ {A = ℕ} 0 1 = cc in absurd (omega arith);
        }

        pub suits_other : (get_or w c 0 ≡ v → ⊥) → (get_or w c 0 ≡ 0 → ⊥) → Suits n w f v Clashes
        suits_other u z = record {
          agrees = λ y. let i : ◌≡◌ {A = ℕ} 0 1 = cc in absurd (omega arith);
          clashes = λ y es k h. (j, (found es k h, ((λ i. u (sym (held_is es k h) ∙ i)), λ i. z (sym (held_is es k h) ∙ i))));
        }

pub suits_unsure : (n : ℕ) (w : List ℕ) (f v : ℕ) → Suits n w f v Unsure
suits_unsure n w f v = record {
  agrees = λ y. let i : ◌≡◌ {A = ℕ} 0 1 = cc in absurd (omega arith);
  clashes = λ y. let i : ◌≡◌ {A = ℕ} 0 1 = cc in absurd (omega arith);
}
