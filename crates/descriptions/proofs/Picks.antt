-- The list of choices holds each choice once: it is the list of all picks, without repetition, each as the graphs that it takes.
-- Assumes nothing.
use mathlib.Core.Path.{◌≡◌, refl, ap, ap₂, sym, ◌∙◌, subst}
use mathlib.Core.Logic.{◌⊎◌, inl, inr, ⊎_elim}
use mathlib.Core.List.Memᴰ
use mathlib.Core.List.{List, [], ◌∷◌, ◌++◌, map, Memᴰ}
use Prim.Native.Nat.{ℕ}
use native.Mathlib.Omega.{arith}
use Rattle.descriptions.specs.Descr.{Alts, Desc, Disjs, ◌and◌, ◌or◌, choices, choices_all, choices_any, desc, each, end, fail, pairs}
use Rattle.descriptions.specs.Places.{Pick, PickAll, PickAny, picked, picked_all, picked_any}
use Rattle.descriptions.proofs.Tests.{Distinct, distinct_append, map_in}

abbrev beside_all : {A B : Type 0} → List A → List B → List (A × B)
beside_all [] l = []
beside_all (x ∷ k) l = map (λ y. (x, y)) l ++ beside_all k l

map_append : {A B : Type 0} (f : A → B) (l m : List A) → map f (l ++ m) ≡ map f l ++ map f m
map_append f [] m = refl
map_append {A} {B} f (x ∷ l) m = ap (λ (z : List B). f x ∷ z) (map_append f l m)

map_map : {A B C : Type 0} (f : A → B) (g : B → C) (l : List A) → map g (map f l) ≡ map (λ x. g (f x)) l
map_map f g [] = refl
map_map {A} {B} {C} f g (x ∷ l) = ap (λ (z : List C). g (f x) ∷ z) (map_map f g l)

-- every pick is there
beside_in : {A B : Type 0} (k : List A) (l : List B) (x : A) (y : B) → Memᴰ x k → Memᴰ y l → Memᴰ (x, y) (beside_all k l)
beside_in [] l x y i j = absurd (Memᴰ.not-nil i)
beside_in {A} {B} (z ∷ k) l x y i j = ⊎_elim
    (λ e. Memᴰ.append_left (beside_all k l)
    (subst (λ (w : A). Memᴰ {A = A × B} (w, y) (map (λ (v : B). (z, v)) l)) (sym e) (map_in (λ (v : B). (z, v)) l y j)))
    (λ h. Memᴰ.append_right (map (λ (v : B). (z, v)) l) (beside_in k l x y h j)) (Memᴰ.cases_cons i)

-- and once
map_from : {A B : Type 0} (f : A → B) (l : List A) (y : B) → Memᴰ y (map f l) → (x : A) × Memᴰ x l × (y ≡ f x)
map_from f [] y i = absurd (Memᴰ.not-nil i)
map_from {A} {B} f (z ∷ l) y i = go (Memᴰ.cases_cons i) (map_from f l y)
  where
    go : (y ≡ f z) ⊎ Memᴰ y (map f l) → (Memᴰ y (map f l) → (x : A) × Memᴰ x l × (y ≡ f x)) →
        (x : A) × Memᴰ x (z ∷ l) × (y ≡ f x)
    go (inl e) s = (z, Memᴰ.head refl, e)
    go (inr j) s = let (x, k, e) = s j in (x, Memᴰ.tail k, e)

map_distinct : {A B : Type 0} (f : A → B) → ((x y : A) → f x ≡ f y → x ≡ y) → (l : List A) → Distinct l → Distinct (map f l)
map_distinct f h [] d = tt
map_distinct {A} f h (x ∷ l) d =
    (λ i. let (y, j, e) = map_from f l (f x) i in d.0 (subst (λ (z : A). Memᴰ z l) (sym (h x y e)) j), map_distinct f h l d.1)

beside_first : {A B : Type 0} (k : List A) (l : List B) (p : A × B) → Memᴰ p (beside_all k l) → Memᴰ p.0 k
beside_first [] l p i = absurd (Memᴰ.not-nil i)
beside_first {A} {B} (x ∷ k) l p i = ⊎_elim
    (λ j. let (y, m, e) = map_from (λ (v : B). (x, v)) l p j in Memᴰ.head (ap (λ (z : A × B). z.0) e))
    (λ j. Memᴰ.tail (beside_first k l p j)) (Memᴰ.append_cases (map (λ (v : B). (x, v)) l) i)

beside_distinct : {A B : Type 0} (k : List A) (l : List B) → Distinct k → Distinct l → Distinct (beside_all k l)
beside_distinct [] l p q = tt
beside_distinct {A} {B} (x ∷ k) l p q = distinct_append (map (λ (v : B). (x, v)) l) (beside_all k l)
    (map_distinct (λ (v : B). (x, v)) (λ u v e. ap (λ (z : A × B). z.1) e) l q) (beside_distinct k l p.1 q)
    (λ z i j. let (y, m, e) = map_from (λ (v : B). (x, v)) l z i in
    p.0 (subst (λ (w : A). Memᴰ w k) (ap (λ (z : A × B). z.0) e) (beside_first k l z j)))

module _ {Graph : Type 0} where
  abbrev mutual
    pub picks : (d : Desc Graph) → List (Pick d)
    picks (desc g ds) = picks_all ds

    pub picks_all : (ds : Disjs Graph) → List (PickAll ds)
    picks_all end = tt ∷ []
    picks_all (a and ds) = beside_all (picks_any a) (picks_all ds)

    pub picks_any : (a : Alts Graph) → List (PickAny a)
    picks_any fail = []
    picks_any (d or a) = map inl (picks d) ++ map inr (picks_any a)

  each_map : {B : Type 0} (c : List Graph) (g : B → List Graph) (l : List B) → each c (map g l) ≡ map (λ y. c ++ g y) l
  each_map c g [] = refl
  each_map c g (y ∷ l) = ap (λ (z : List (List Graph)). (c ++ g y) ∷ z) (each_map c g l)

  pairs_map : {A B : Type 0} (f : A → List Graph) (g : B → List Graph) (k : List A) (l : List B) →
      pairs (map f k) (map g l) ≡ map (λ (p : A × B). f p.0 ++ g p.1) (beside_all k l)
  pairs_map f g [] l = refl
  pairs_map {A} {B} f g (x ∷ k) l =
      ap₂ {C = List (List Graph)} ◌++◌ (each_map (f x) g l ∙ sym (map_map (λ (y : B). (x, y)) (λ (p : A × B). f p.0 ++ g p.1) l))
      (pairs_map f g k l)
      ∙ sym (map_append (λ (p : A × B). f p.0 ++ g p.1) (map (λ (y : B). (x, y)) l) (beside_all k l))

  mutual
    pub choices_picks : (d : Desc Graph) → choices d ≡ map (picked d) (picks d)
    choices_picks (desc g ds) = ap (each (g ∷ [])) (choices_all_picks ds) ∙ each_map (g ∷ []) (picked_all ds) (picks_all ds)

    choices_all_picks : (ds : Disjs Graph) → choices_all ds ≡ map (picked_all ds) (picks_all ds)
    choices_all_picks end = refl
    choices_all_picks (a and ds) = ap₂ {C = List (List Graph)} pairs (choices_any_picks a) (choices_all_picks ds)
        ∙ pairs_map (picked_any a) (picked_all ds) (picks_any a) (picks_all ds)

    choices_any_picks : (a : Alts Graph) → choices_any a ≡ map (picked_any a) (picks_any a)
    choices_any_picks fail = refl
    choices_any_picks (d or a) = ap₂ {C = List (List Graph)} ◌++◌
        (choices_picks d ∙ sym (map_map inl (picked_any (d or a)) (picks d)))
        (choices_any_picks a ∙ sym (map_map inr (picked_any (d or a)) (picks_any a)))
        ∙ sym (map_append (picked_any (d or a)) (map inl (picks d)) (map inr (picks_any a)))

  mutual
    pub every_pick : (d : Desc Graph) (p : Pick d) → Memᴰ p (picks d)
    every_pick (desc g ds) p = every_all ds p

    every_all : (ds : Disjs Graph) (p : PickAll ds) → Memᴰ p (picks_all ds)
    every_all end p = Memᴰ.head refl
    every_all (a and ds) p = beside_in (picks_any a) (picks_all ds) p.0 p.1 (every_any a p.0) (every_all ds p.1)

    every_any : (a : Alts Graph) (p : PickAny a) → Memᴰ p (picks_any a)
    every_any fail p = absurd p
    every_any (d or a) (inl p) = Memᴰ.append_left (map inr (picks_any a)) (map_in inl (picks d) p (every_pick d p))
    every_any (d or a) (inr p) = Memᴰ.append_right (map inl (picks d)) (map_in inr (picks_any a) p (every_any a p))

  mutual
    pub picks_distinct : (d : Desc Graph) → Distinct (picks d)
    picks_distinct (desc g ds) = picks_all_distinct ds

    picks_all_distinct : (ds : Disjs Graph) → Distinct (picks_all ds)
    picks_all_distinct end = (λ i. Memᴰ.not-nil i, tt)
    picks_all_distinct (a and ds) = beside_distinct (picks_any a) (picks_all ds) (picks_any_distinct a) (picks_all_distinct ds)

    picks_any_distinct : (a : Alts Graph) → Distinct (picks_any a)
    picks_any_distinct fail = tt
    picks_any_distinct (d or a) = distinct_append (map inl (picks d)) (map inr (picks_any a))
        (map_distinct inl (λ x y e. cc) (picks d) (picks_distinct d)) (map_distinct inr (λ x y e. cc) (picks_any a) (picks_any_distinct a))
        (λ z i j. let (x, m, e) = map_from inl (picks d) z i in let (y, n, f) = map_from inr (picks_any a) z j in
        let w : ◌≡◌ {A = ℕ} 0 1 = cc in omega arith)
