-- The alternatives that the search marks are those that stand in a consistent choice: what is left is the pruned description.
-- Assumes nothing.
use mathlib.Core.Path.{◌≡◌, refl, ap, ap₂, sym, ◌∙◌, subst}
use mathlib.Core.Logic.{◌⊎◌, inl, inr, ⊎_elim, ◌↔◌}
use mathlib.Core.Bool.{Bool, true, false, ◌||◌}
use mathlib.Core.Option.{none}
use mathlib.Core.List.{List, [], ◌∷◌, ◌++◌, append_assoc, Memᴰ}
use Prim.Native.Nat.{ℕ}
use lib.Dec.{eqb}
use Rattle.descriptions.specs.Descr.{Alts, Disjs, ◌and◌, ◌or◌, agree, choices, choices_all, choices_any, desc, pairs}
use Rattle.descriptions.specs.Modes.{prune, prune_all, prune_any, some_agree}
use Rattle.descriptions.proofs.Tests.{Test, differ, equal, test}
use Rattle.descriptions.proofs.Laws.{Laws}
use Rattle.descriptions.proofs.Mean.{AllFine, Can, CanAll, CanAny, Fine, canon_append, choices_all_fine, choices_any_fine, fine_append}
use Rattle.descriptions.proofs.Full.{AllFull, SomeAgree, full_graph, full_pairs, none_agrees, pairs_from, pairs_in, some_agree_view, whole}
use Rattle.descriptions.proofs.Full.{whole_fine}
use Rattle.descriptions.proofs.Live.{Agrees, agrees_within, beside_within, not_none, some_agree_from}
use Rattle.modes_by_marks.specs.Placed.{Options, Placed, Places, ◌also◌, no_more, option, place, stop, strip, strip_all, strip_any}
use Rattle.modes_by_marks.specs.Marks.{Marking, keep, keep_all, keep_any}
use Rattle.modes_by_marks.specs.Search.{Found, among, lit, search}
use Rattle.modes_by_marks.specs.Names.{Apart, Distinct, DistinctAll, DistinctAny, names, names_all, names_any}
use Rattle.modes_by_marks.proofs.Passes.{Agreeing, agreeing_view, can, cannot}
use Rattle.modes_by_marks.proofs.Marks.{false_true}
use Rattle.modes_by_marks.proofs.Finding.{Pick, choice_all_of, choice_any_of, choice_of, found, graphs, graphs_all_are}
use Rattle.modes_by_marks.proofs.Finding.{graphs_any_are, graphs_are, pick_after, pick_as, pick_each, pick_pairs, picks, picks_all}
use Rattle.modes_by_marks.proofs.Finding.{picks_any, search_ok}
use Rattle.descriptions.specs.Joining.{Joining}
use Rattle.descriptions.specs.Canonical.{All}

-- marks of what was found
or_left : (a b : Bool) → a ≡ true → a || b ≡ true
or_left true b e = refl
or_left false b e = absurd (false_true e)

or_right : (a b : Bool) → b ≡ true → a || b ≡ true
or_right true b e = refl
or_right false b e = e

or_cases : (a b : Bool) → a || b ≡ true → (a ≡ true) ⊎ (b ≡ true)
or_cases true b e = inl refl
or_cases false b e = inr e

pub among_in : (x : ℕ) (l : List ℕ) → Memᴰ x l → among x l ≡ true
among_in x [] m = absurd (mathlib.Core.List.Memᴰ.not-nil m)
among_in x (y ∷ l) m = go (eqb x y) (test x y) (mathlib.Core.List.Memᴰ.cases_cons m) (among_in x l)
  where
    go : (t : Bool) → Test x y t → (x ≡ y) ⊎ Memᴰ x l → (Memᴰ x l → among x l ≡ true) → t || among x l ≡ true
    go true v i f = refl
    go false (differ n) (inl e) f = absurd (n e)
    go false (differ n) (inr i) f = f i

pub in_among : (x : ℕ) (l : List ℕ) → among x l ≡ true → Memᴰ x l
in_among x [] e = absurd (false_true e)
in_among x (y ∷ l) e = go (eqb x y) (test x y) e (in_among x l)
  where
    go : (t : Bool) → Test x y t → t || among x l ≡ true → (among x l ≡ true → Memᴰ x l) → Memᴰ x (y ∷ l)
    go true (equal q) h f = mathlib.Core.List.Memᴰ.head q
    go false (differ n) h f = mathlib.Core.List.Memᴰ.tail (f h)

module _ {Graph : Type 0} where
  -- picks, in and out
  each_pick : (g : Graph) (l : List (Pick Graph)) (p : Pick Graph) → Memᴰ p l →
      Memᴰ {A = Pick Graph} (g ∷ p.0, p.1) (pick_each g l)
  each_pick g [] p m = absurd (mathlib.Core.List.Memᴰ.not-nil m)
  each_pick g (q ∷ l) p m = ⊎_elim (λ e. mathlib.Core.List.Memᴰ.head (ap (λ (z : Pick Graph). (g ∷ z.0, z.1)) e))
      (λ i. mathlib.Core.List.Memᴰ.tail (each_pick g l p i)) (mathlib.Core.List.Memᴰ.cases_cons m)

  each_back : (g : Graph) (l : List (Pick Graph)) (p : Pick Graph) → Memᴰ p (pick_each g l) →
      (q : Pick Graph) × Memᴰ q l × (◌≡◌ {A = Pick Graph} p (g ∷ q.0, q.1))
  each_back g [] p m = absurd (mathlib.Core.List.Memᴰ.not-nil m)
  each_back g (q ∷ l) p m = ⊎_elim (λ e. (q, mathlib.Core.List.Memᴰ.head refl, e)) (λ i. let (x, j, e) = each_back g l p i in
      (x, mathlib.Core.List.Memᴰ.tail j, e)) (mathlib.Core.List.Memᴰ.cases_cons m)

  as_pick : (x : ℕ) (l : List (Pick Graph)) (p : Pick Graph) → Memᴰ p l → Memᴰ {A = Pick Graph} (p.0, x ∷ p.1) (pick_as x l)
  as_pick x [] p m = absurd (mathlib.Core.List.Memᴰ.not-nil m)
  as_pick x (q ∷ l) p m = ⊎_elim (λ e. mathlib.Core.List.Memᴰ.head (ap (λ (z : Pick Graph). (z.0, x ∷ z.1)) e)) (λ i. mathlib.Core.List.Memᴰ.tail (as_pick x l p i))
      (mathlib.Core.List.Memᴰ.cases_cons m)

  as_back : (x : ℕ) (l : List (Pick Graph)) (p : Pick Graph) → Memᴰ p (pick_as x l) →
      (q : Pick Graph) × Memᴰ q l × (◌≡◌ {A = Pick Graph} p (q.0, x ∷ q.1))
  as_back x [] p m = absurd (mathlib.Core.List.Memᴰ.not-nil m)
  as_back x (q ∷ l) p m = ⊎_elim (λ e. (q, mathlib.Core.List.Memᴰ.head refl, e)) (λ i. let (y, j, e) = as_back x l p i in
      (y, mathlib.Core.List.Memᴰ.tail j, e)) (mathlib.Core.List.Memᴰ.cases_cons m)

  after_pick : (p : Pick Graph) (l : List (Pick Graph)) (q : Pick Graph) → Memᴰ q l →
      Memᴰ {A = Pick Graph} (p.0 ++ q.0, p.1 ++ q.1) (pick_after p l)
  after_pick p [] q m = absurd (mathlib.Core.List.Memᴰ.not-nil m)
  after_pick p (r ∷ l) q m = ⊎_elim (λ e. mathlib.Core.List.Memᴰ.head (ap (λ (z : Pick Graph). (p.0 ++ z.0, p.1 ++ z.1)) e))
      (λ i. mathlib.Core.List.Memᴰ.tail (after_pick p l q i)) (mathlib.Core.List.Memᴰ.cases_cons m)

  after_back : (p : Pick Graph) (l : List (Pick Graph)) (r : Pick Graph) → Memᴰ r (pick_after p l) →
      (q : Pick Graph) × Memᴰ q l × (◌≡◌ {A = Pick Graph} r (p.0 ++ q.0, p.1 ++ q.1))
  after_back p [] r m = absurd (mathlib.Core.List.Memᴰ.not-nil m)
  after_back p (q ∷ l) r m = ⊎_elim (λ e. (q, mathlib.Core.List.Memᴰ.head refl, e)) (λ i. let (y, j, e) = after_back p l r i in
      (y, mathlib.Core.List.Memᴰ.tail j, e)) (mathlib.Core.List.Memᴰ.cases_cons m)

  pairs_pick : (k l : List (Pick Graph)) (p q : Pick Graph) → Memᴰ p k → Memᴰ q l →
      Memᴰ {A = Pick Graph} (p.0 ++ q.0, p.1 ++ q.1) (pick_pairs k l)
  pairs_pick [] l p q m n = absurd (mathlib.Core.List.Memᴰ.not-nil m)
  pairs_pick (r ∷ k) l p q m n =
      ⊎_elim (λ e. mathlib.Core.List.Memᴰ.append_left (pick_pairs k l)
      (subst (λ (z : Pick Graph). Memᴰ {A = Pick Graph} (z.0 ++ q.0, z.1 ++ q.1) (pick_after r l)) (sym e) (after_pick r l q n)))
      (λ i. mathlib.Core.List.Memᴰ.append_right (pick_after r l) (pairs_pick k l p q i n)) (mathlib.Core.List.Memᴰ.cases_cons m)

  pairs_back : (k l : List (Pick Graph)) (r : Pick Graph) → Memᴰ r (pick_pairs k l) →
      (p : Pick Graph) × (q : Pick Graph) × Memᴰ p k × Memᴰ q l × (◌≡◌ {A = Pick Graph} r (p.0 ++ q.0, p.1 ++ q.1))
  pairs_back [] l r m = absurd (mathlib.Core.List.Memᴰ.not-nil m)
  pairs_back (p ∷ k) l r m = ⊎_elim (λ i. let (q, j, e) = after_back p l r i in
      (p, q, mathlib.Core.List.Memᴰ.head refl, j, e)) (λ i. let (x, y, a, b, e) = pairs_back k l r i in
      (x, y, mathlib.Core.List.Memᴰ.tail a, b, e)) (mathlib.Core.List.Memᴰ.append_cases (pick_after p l) m)

  graph_from : (l : List (Pick Graph)) (r : List Graph) → Memᴰ r (graphs l) → (p : Pick Graph) × Memᴰ p l × (r ≡ p.0)
  graph_from [] r m = absurd (mathlib.Core.List.Memᴰ.not-nil m)
  graph_from (p ∷ l) r m = ⊎_elim (λ e. (p, mathlib.Core.List.Memᴰ.head refl, e)) (λ i. let (q, j, e) = graph_from l r i in
      (q, mathlib.Core.List.Memᴰ.tail j, e)) (mathlib.Core.List.Memᴰ.cases_cons m)

  -- a pick takes numbers of its description only
  mutual
    pub picks_names : (d : Placed Graph) (p : Pick Graph) → Memᴰ p (picks d) → (y : ℕ) → Memᴰ y p.1 → Memᴰ y (names d)
    picks_names (place g ds) p m y i = let (q, j, e) = each_back g (picks_all ds) p m in
        picks_all_names ds q j y (subst (λ (z : Pick Graph). Memᴰ y z.1) e i)

    picks_all_names : (ds : Places Graph) (p : Pick Graph) → Memᴰ p (picks_all ds) → (y : ℕ) → Memᴰ y p.1 →
        Memᴰ y (names_all ds)
    picks_all_names stop p m y i =
        ⊎_elim (λ e. subst (λ (z : Pick Graph). Memᴰ y z.1) e i) (λ j. absurd (mathlib.Core.List.Memᴰ.not-nil j)) (mathlib.Core.List.Memᴰ.cases_cons m)
    picks_all_names (a also ds) p m y i =
        let (q, r, j, k, e) = pairs_back (picks_any a) (picks_all ds) p m in
        ⊎_elim (λ h. mathlib.Core.List.Memᴰ.append_left (names_all ds) (picks_any_names a q j y h))
        (λ h. mathlib.Core.List.Memᴰ.append_right (names_any a) (picks_all_names ds r k y h))
        (mathlib.Core.List.Memᴰ.append_cases q.1 (subst (λ (z : Pick Graph). Memᴰ y z.1) e i))

    picks_any_names : (a : Options Graph) (p : Pick Graph) → Memᴰ p (picks_any a) → (y : ℕ) → Memᴰ y p.1 →
        Memᴰ y (names_any a)
    picks_any_names no_more p m y i = absurd (mathlib.Core.List.Memᴰ.not-nil m)
    picks_any_names (option x d a) p m y i = ⊎_elim
        (λ j. let (q, k, e) = as_back x (picks d) p j in
        ⊎_elim (λ h. mathlib.Core.List.Memᴰ.head h) (λ h. mathlib.Core.List.Memᴰ.tail (mathlib.Core.List.Memᴰ.append_left (names_any a) (picks_names d q k y h)))
        (mathlib.Core.List.Memᴰ.cases_cons (subst (λ (z : Pick Graph). Memᴰ y z.1) e i)))
        (λ j. mathlib.Core.List.Memᴰ.tail (mathlib.Core.List.Memᴰ.append_right (names d) (picks_any_names a p j y i)))
        (mathlib.Core.List.Memᴰ.append_cases (pick_as x (picks d)) m)

module _ {Graph : Type 0} (J : Joining Graph) where
  open J use {join}

  -- some list of graphs among these agrees
  pub data Some (l : List (List Graph)) : Bool → Type 0 where
    one_does : (c : List Graph) → Memᴰ c l → Agrees J c → Some l true
    none_does : ((c : List Graph) → Memᴰ c l → join c ≡ none) → Some l false

  pub some_view : (l : List (List Graph)) → Some l (some_agree J l)
  some_view l = go (some_agree J l) refl (some_agree_view J l)
    where
      go : (t : Bool) → some_agree J l ≡ t → SomeAgree J l t → Some l t
      go true e s = let (c, i, a) = some_agree_from J l e in one_does c i a
      go false e (none_agrees n) = none_does n

  -- y is taken in a choice that agrees with one of the others
  abbrev pub Hit : List (List Graph) → List (Pick Graph) → ℕ → Type 0
  Hit others l y = (o : List Graph) × (p : Pick Graph) × Memᴰ o others × Memᴰ p l × Memᴰ y p.1 × Agrees J (o ++ p.0)

  -- the marks m are those of the hits
  abbrev pub Marks : Marking → List (List Graph) → List ℕ → List (Pick Graph) → Type 0
  Marks m others ns l = (y : ℕ) → Memᴰ y ns → (m y ≡ true) ↔ Hit others l y

  pub lit_hit : (l : List (Pick Graph)) (y : ℕ) → lit (found J l) y ≡ true → Hit whole l y
  lit_hit [] y e = absurd (false_true e)
  lit_hit (p ∷ l) y e = go (agree J p.0) (agreeing_view J p.0) e (lit_hit l y)
    where
      up : Hit whole l y → Hit whole (p ∷ l) y
      up (o, q, i, j, h, a) = (o, q, i, mathlib.Core.List.Memᴰ.tail j, h, a)

      go : (t : Bool) → Agreeing J p.0 t → lit (elim t [ true ↦ p.1 ∷ found J l | false ↦ found J l ]) y ≡ true →
          (lit (found J l) y ≡ true → Hit whole l y) → Hit whole (p ∷ l) y
      go true (can a) h f = ⊎_elim (λ z. ([], p, mathlib.Core.List.Memᴰ.head refl, mathlib.Core.List.Memᴰ.head refl, in_among y p.1 z, a)) (λ z. up (f z))
          (or_cases (among y p.1) (lit (found J l) y) h)
      go false (cannot z) h f = up (f h)

  hit_lit : (l : List (Pick Graph)) (y : ℕ) → (p : Pick Graph) → Memᴰ p l → Memᴰ y p.1 → Agrees J p.0 →
      lit (found J l) y ≡ true
  hit_lit [] y p m i a = absurd (mathlib.Core.List.Memᴰ.not-nil m)
  hit_lit (q ∷ l) y p m i a = go (agree J q.0) (agreeing_view J q.0) (mathlib.Core.List.Memᴰ.cases_cons m) (λ k. hit_lit l y p k i a)
    where
      go : (t : Bool) → Agreeing J q.0 t → (p ≡ q) ⊎ Memᴰ p l → (Memᴰ p l → lit (found J l) y ≡ true) →
          lit (elim t [ true ↦ q.1 ∷ found J l | false ↦ found J l ]) y ≡ true
      go true v (inl e) f = or_left (among y q.1) (lit (found J l) y)
          (among_in y q.1 (subst (λ (z : Pick Graph). Memᴰ y z.1) e i))
      go true v (inr k) f = or_right (among y q.1) (lit (found J l) y) (f k)
      go false (cannot z) (inl e) f = absurd (not_none J q.0 (subst (λ (w : Pick Graph). Agrees J w.0) e a) z)
      go false v (inr k) f = f k

  hit_whole : (l : List (Pick Graph)) (y : ℕ) → Hit whole l y → lit (found J l) y ≡ true
  hit_whole l y (o, p, i, j, h, a) =
      hit_lit l y p j h (subst (Agrees J)
      (ap (λ (w : List Graph). w ++ p.0) (⊎_elim (λ e. e) (λ n. absurd (mathlib.Core.List.Memᴰ.not-nil n)) (mathlib.Core.List.Memᴰ.cases_cons i))) a)

module _ {Graph : Type 0} {J : Joining Graph} (𝓛 : Laws J) where
  open 𝓛 use {Canonical}

  pub agrees_swap : (o a b : List Graph) → Fine 𝓛 o → All Canonical a → All Canonical b → Agrees J (o ++ (a ++ b)) →
      Agrees J ((o ++ b) ++ a)
  agrees_swap o a b f p q h = agrees_within 𝓛 ((o ++ b) ++ a) (o ++ (a ++ b)) (fine_append 𝓛 (o ++ b) a (fine_append 𝓛 o b f q) p)
      (fine_append 𝓛 o (a ++ b) f (canon_append 𝓛 a b p q)) (beside_within o a b) h

  pub agrees_back : (o a b : List Graph) → Fine 𝓛 o → All Canonical a → All Canonical b → Agrees J ((o ++ b) ++ a) →
      Agrees J (o ++ (a ++ b))
  agrees_back o a b f p q h = subst (Agrees J) (append_assoc o a b) (agrees_swap o b a f q p (subst (Agrees J) (append_assoc o b a) h))

  -- the hits of a description, of its disjunctions, of an alternative
  module _ (others : List (List Graph)) where
    hit_in : (g : Graph) (l : List (Pick Graph)) (y : ℕ) → Hit J others (pick_each g l) y → Hit J (pairs others ((g ∷ []) ∷ [])) l y
    hit_in g l y (o, p, i, j, h, a) = let (q, k, e) = each_back g l p j in (
      o ++ g ∷ [],
      q,
      pairs_in others ((g ∷ []) ∷ []) o (g ∷ []) i (mathlib.Core.List.Memᴰ.head refl),
      k,
      subst (λ (z : Pick Graph). Memᴰ y z.1) e h,
      subst (Agrees J) (ap (λ (z : Pick Graph). o ++ z.0) e ∙ sym (append_assoc o (g ∷ []) q.0)) a,
    )

    hit_out : (g : Graph) (l : List (Pick Graph)) (y : ℕ) → Hit J (pairs others ((g ∷ []) ∷ [])) l y → Hit J others (pick_each g l) y
    hit_out g l y (o, p, i, j, h, a) =
        let (x, z, ix, iz, e) = pairs_from others ((g ∷ []) ∷ []) o i in
        let ez : z ≡ g ∷ [] = ⊎_elim (λ q. q) (λ n. absurd (mathlib.Core.List.Memᴰ.not-nil n)) (mathlib.Core.List.Memᴰ.cases_cons iz) in (
          x,
          (g ∷ p.0, p.1),
          ix,
          each_pick g l p j,
          h,
          subst (Agrees J) (ap (λ (w : List Graph). w ++ p.0) (e ∙ ap (λ (w : List Graph). x ++ w) ez)
              ∙ append_assoc x (g ∷ []) p.0) a,
        )

    module _ (a : Options Graph) (ds : Places Graph) (ca : CanAny 𝓛 (strip_any a)) (cd : CanAll 𝓛 (strip_all ds)) (full : AllFull 𝓛 others)
        (apart : Apart (names_any a) (names_all ds)) where
      fa : (p : Pick Graph) → Memᴰ p (picks_any a) → All Canonical p.0
      fa p m = choices_any_fine 𝓛 (strip_any a) ca p.0 (choice_any_of a p m)

      fd : (p : Pick Graph) → Memᴰ p (picks_all ds) → All Canonical p.0
      fd p m = choices_all_fine 𝓛 (strip_all ds) cd p.0 (choice_all_of ds p m)

      hit_first : (y : ℕ) → Memᴰ y (names_any a) → Hit J others (pick_pairs (picks_any a) (picks_all ds)) y →
          Hit J (pairs others (choices_all (strip_all ds))) (picks_any a) y
      hit_first y n (o, p, i, j, h, g) =
          let (q, r, jq, jr, e) = pairs_back (picks_any a) (picks_all ds) p j in
          let t : Memᴰ y q.1 = ⊎_elim (λ x. x) (λ x. absurd (apart y n (picks_all_names ds r jr y x)))
          (mathlib.Core.List.Memᴰ.append_cases q.1 (subst (λ (z : Pick Graph). Memᴰ y z.1) e h)) in (
            o ++ r.0,
            q,
            pairs_in others (choices_all (strip_all ds)) o r.0 i (choice_all_of ds r jr),
            jq,
            t,
            agrees_swap o q.0 r.0 (full o i) (fa q jq) (fd r jr) (subst (Agrees J) (ap (λ (z : Pick Graph). o ++ z.0) e) g),
          )

      first_hit : (y : ℕ) → Hit J (pairs others (choices_all (strip_all ds))) (picks_any a) y →
          Hit J others (pick_pairs (picks_any a) (picks_all ds)) y
      first_hit y (o, q, i, j, h, g) =
          let (x, s, ix, is, e) = pairs_from others (choices_all (strip_all ds)) o i in
          let (r, jr, er) = graph_from (picks_all ds) s (subst (Memᴰ s) (sym (graphs_all_are ds)) is) in (
            x,
            (q.0 ++ r.0, q.1 ++ r.1),
            ix,
            pairs_pick (picks_any a) (picks_all ds) q r j jr,
            mathlib.Core.List.Memᴰ.append_left r.1 h,
            agrees_back x q.0 r.0 (full x ix) (fa q j) (fd r jr)
                (subst (Agrees J) (ap (λ (w : List Graph). w ++ q.0) (e ∙ ap (λ (w : List Graph). x ++ w) er)) g),
          )

      hit_later : (y : ℕ) → Memᴰ y (names_all ds) → Hit J others (pick_pairs (picks_any a) (picks_all ds)) y →
          Hit J (pairs others (choices_any (strip_any a))) (picks_all ds) y
      hit_later y n (o, p, i, j, h, g) =
          let (q, r, jq, jr, e) = pairs_back (picks_any a) (picks_all ds) p j in
          let t : Memᴰ y r.1 = ⊎_elim (λ x. absurd (apart y (picks_any_names a q jq y x) n)) (λ x. x)
          (mathlib.Core.List.Memᴰ.append_cases q.1 (subst (λ (z : Pick Graph). Memᴰ y z.1) e h)) in (
            o ++ q.0,
            r,
            pairs_in others (choices_any (strip_any a)) o q.0 i (choice_any_of a q jq),
            jr,
            t,
            subst (Agrees J) (ap (λ (z : Pick Graph). o ++ z.0) e ∙ sym (append_assoc o q.0 r.0)) g,
          )

      later_hit : (y : ℕ) → Hit J (pairs others (choices_any (strip_any a))) (picks_all ds) y →
          Hit J others (pick_pairs (picks_any a) (picks_all ds)) y
      later_hit y (o, r, i, j, h, g) =
          let (x, s, ix, is, e) = pairs_from others (choices_any (strip_any a)) o i in
          let (q, jq, eq) = graph_from (picks_any a) s (subst (Memᴰ s) (sym (graphs_any_are a)) is) in (
            x,
            (q.0 ++ r.0, q.1 ++ r.1),
            ix,
            pairs_pick (picks_any a) (picks_all ds) q r jq j,
            mathlib.Core.List.Memᴰ.append_right q.1 h,
            subst (Agrees J) (ap (λ (w : List Graph). w ++ r.0) (e ∙ ap (λ (w : List Graph). x ++ w) eq) ∙ append_assoc x q.0 r.0) g,
          )

    module _ (x : ℕ) (d : Placed Graph) (a : Options Graph) where
      -- x itself
      hit_self : Apart (x ∷ []) (names_any a) → Hit J others (pick_as x (picks d) ++ picks_any a) x →
          (c : List Graph) × Memᴰ c (pairs others (choices (strip d))) × Agrees J c
      hit_self n (o, p, i, j, h, g) = ⊎_elim
          (λ k. let (q, jq, e) = as_back x (picks d) p k in (
            o ++ q.0,
            pairs_in others (choices (strip d)) o q.0 i (choice_of d q jq),
            subst (Agrees J) (ap (λ (z : Pick Graph). o ++ z.0) e) g,
          ))
          (λ k. absurd (n x (mathlib.Core.List.Memᴰ.head refl) (picks_any_names a p k x h)))
          (mathlib.Core.List.Memᴰ.append_cases (pick_as x (picks d)) j)

      self_hit : (c : List Graph) → Memᴰ c (pairs others (choices (strip d))) → Agrees J c →
          Hit J others (pick_as x (picks d) ++ picks_any a) x
      self_hit c m g =
          let (o, s, i, is, e) = pairs_from others (choices (strip d)) c m in
          let (q, jq, eq) = graph_from (picks d) s (subst (Memᴰ s) (sym (graphs_are d)) is) in (
            o,
            (q.0, x ∷ q.1),
            i,
            mathlib.Core.List.Memᴰ.append_left (picks_any a) (as_pick x (picks d) q jq),
            mathlib.Core.List.Memᴰ.head refl,
            subst (Agrees J) (e ∙ ap (λ (w : List Graph). o ++ w) eq) g,
          )

      hit_under : Apart (x ∷ []) (names d) → Apart (names d) (names_any a) → (y : ℕ) → Memᴰ y (names d) →
          Hit J others (pick_as x (picks d) ++ picks_any a) y → Hit J others (picks d) y
      hit_under n m y k (o, p, i, j, h, g) = ⊎_elim
          (λ t. let (q, jq, e) = as_back x (picks d) p t in (
            o,
            q,
            i,
            jq,
            ⊎_elim (λ z. absurd (n y (mathlib.Core.List.Memᴰ.head z) k)) (λ z. z)
                (mathlib.Core.List.Memᴰ.cases_cons (subst (λ (z : Pick Graph). Memᴰ y z.1) e h)),
            subst (Agrees J) (ap (λ (z : Pick Graph). o ++ z.0) e) g,
          ))
          (λ t. absurd (m y k (picks_any_names a p t y h)))
          (mathlib.Core.List.Memᴰ.append_cases (pick_as x (picks d)) j)

      under_hit : (y : ℕ) → Hit J others (picks d) y → Hit J others (pick_as x (picks d) ++ picks_any a) y
      under_hit y (o, q, i, j, h, g) =
          (o, (q.0, x ∷ q.1), i, mathlib.Core.List.Memᴰ.append_left (picks_any a) (as_pick x (picks d) q j), mathlib.Core.List.Memᴰ.tail h, g)

      hit_beside : Apart (x ∷ []) (names_any a) → Apart (names d) (names_any a) → (y : ℕ) → Memᴰ y (names_any a) →
          Hit J others (pick_as x (picks d) ++ picks_any a) y → Hit J others (picks_any a) y
      hit_beside n m y k (o, p, i, j, h, g) = ⊎_elim
          (λ t. let (q, jq, e) = as_back x (picks d) p t in
          ⊎_elim (λ z. absurd (n y (mathlib.Core.List.Memᴰ.head z) k)) (λ z. absurd (m y (picks_names d q jq y z) k))
          (mathlib.Core.List.Memᴰ.cases_cons (subst (λ (z : Pick Graph). Memᴰ y z.1) e h)))
          (λ t. (o, p, i, t, h, g))
          (mathlib.Core.List.Memᴰ.append_cases (pick_as x (picks d)) j)

      beside_hit : (y : ℕ) → Hit J others (picks_any a) y → Hit J others (pick_as x (picks d) ++ picks_any a) y
      beside_hit y (o, q, i, j, h, g) = (o, q, i, mathlib.Core.List.Memᴰ.append_right (pick_as x (picks d)) j, h, g)

  keep_or : (m : Marking) (x : ℕ) (d : Placed Graph) (a : Options Graph) (others : List (List Graph)) → Apart (x ∷ []) (names_any a) →
      (m x ≡ true) ↔ Hit J others (pick_as x (picks d) ++ picks_any a) x →
      strip (keep m d) ≡ prune J others (strip d) → strip_any (keep_any m a) ≡ prune_any J others (strip_any a) → (t : Bool) → m x ≡ t →
      (u : Bool) → Some J (pairs others (choices (strip d))) u →
      strip_any {Graph = Graph} (elim t [ true ↦ option x (keep m d) (keep_any m a) | false ↦ keep_any m a ])
      ≡ elim u [ true ↦ prune J others (strip d) or prune_any J others (strip_any a) | false ↦ prune_any J others (strip_any a) ]
  keep_or m x d a others n h e f true z true (one_does c i g) = ap₂ {C = Alts Graph} ◌or◌ e f
  keep_or m x d a others n h e f true z false (none_does w) = let (c, i, g) = hit_self others x d a n (h.0 z) in
      absurd (not_none J c g (w c i))
  keep_or m x d a others n h e f false z true (one_does c i g) = absurd (false_true (sym z ∙ h.1 (self_hit others x d a c i g)))
  keep_or m x d a others n h e f false z false (none_does w) = f

  mutual
    unfolding prune

    pub keep_prune : (d : Placed Graph) → Can 𝓛 (strip d) → Distinct d → (m : Marking) (others : List (List Graph)) → AllFine 𝓛 others →
        Marks J m others (names d) (picks d) → strip (keep m d) ≡ prune J others (strip d)
    keep_prune (place g ds) c w m others fo h =
        ap (desc g) (keep_prune_all ds c.1 w m (pairs others ((g ∷ []) ∷ [])) (full_graph 𝓛 others g c.0 fo)
        (λ y n. (λ t. hit_in others g (picks_all ds) y ((h y n).0 t), λ t. (h y n).1 (hit_out others g (picks_all ds) y t))))

    pub keep_prune_all : (ds : Places Graph) → CanAll 𝓛 (strip_all ds) → DistinctAll ds → (m : Marking) (others : List (List Graph)) →
        AllFull 𝓛 others → Marks J m others (names_all ds) (picks_all ds) → strip_all (keep_all m ds) ≡ prune_all J others (strip_all ds)
    keep_prune_all stop c w m others fo h = refl
    keep_prune_all (a also ds) c w m others fo h = ap₂ {C = Disjs Graph} ◌and◌
        (keep_prune_any a c.0 w.0 m (pairs others (choices_all (strip_all ds)))
        (full_pairs 𝓛 others (choices_all (strip_all ds)) fo (choices_all_fine 𝓛 (strip_all ds) c.1))
        (λ y n. let b = h y (mathlib.Core.List.Memᴰ.append_left (names_all ds) n) in (
          λ t. hit_first others a ds c.0 c.1 fo w.2 y n (b.0 t),
          λ t. b.1 (first_hit others a ds c.0 c.1 fo w.2 y t),
        )))
        (keep_prune_all ds c.1 w.1 m (pairs others (choices_any (strip_any a)))
        (full_pairs 𝓛 others (choices_any (strip_any a)) fo (choices_any_fine 𝓛 (strip_any a) c.0))
        (λ y n. let b = h y (mathlib.Core.List.Memᴰ.append_right (names_any a) n) in (
          λ t. hit_later others a ds c.0 c.1 fo w.2 y n (b.0 t),
          λ t. b.1 (later_hit others a ds c.0 c.1 fo w.2 y t),
        )))

    pub keep_prune_any : (a : Options Graph) → CanAny 𝓛 (strip_any a) → DistinctAny a → (m : Marking) (others : List (List Graph)) →
        AllFull 𝓛 others → Marks J m others (names_any a) (picks_any a) → strip_any (keep_any m a) ≡ prune_any J others (strip_any a)
    keep_prune_any no_more c w m others fo h = refl
    keep_prune_any (option x d a) c w m others fo h = keep_or m x d a others w.3 (h x (mathlib.Core.List.Memᴰ.head refl))
        (keep_prune d c.0 w.0 m others (λ o i. (fo o i).1) (λ y n. let b = h y (mathlib.Core.List.Memᴰ.tail (mathlib.Core.List.Memᴰ.append_left (names_any a) n)) in
        (λ t. hit_under others x d a w.2 w.4 y n (b.0 t), λ t. b.1 (under_hit others x d a y t))))
        (keep_prune_any a c.1 w.1 m others fo (λ y n. let b = h y (mathlib.Core.List.Memᴰ.tail (mathlib.Core.List.Memᴰ.append_right (names d) n)) in
        (λ t. hit_beside others x d a w.3 w.4 y n (b.0 t), λ t. b.1 (beside_hit others x d a y t))))
        (m x) refl (some_agree J (pairs others (choices (strip d)))) (some_view J (pairs others (choices (strip d))))

  -- what the search marks is what pruning leaves
  pub search_prune : (d : Placed Graph) → Can 𝓛 (strip d) → Distinct d → strip (keep (lit (search J d)) d) ≡ prune J whole (strip d)
  search_prune d c w = subst (λ (f : Found). strip (keep (lit f) d) ≡ prune J whole (strip d)) (sym (search_ok 𝓛 d c))
      (keep_prune d c w (lit (found J (picks d))) whole (whole_fine 𝓛) (λ y n. (lit_hit J (picks d) y, hit_whole J (picks d) y)))
