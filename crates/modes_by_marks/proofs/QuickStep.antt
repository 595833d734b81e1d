-- The quick step on marks does what the quick step on descriptions does.
-- Assumes nothing.
use mathlib.Core.Path.{◌≡◌, refl, ap, ap₂, sym, ◌∙◌, subst}
use mathlib.Core.Bool.{Bool, true, false}
use mathlib.Core.Option.{Option, none, some}
use mathlib.Core.List.Memᴰ
use mathlib.Core.List.{List, [], ◌∷◌, ◌++◌, Memᴰ}
use Prim.Native.Nat.{ℕ, zero, suc}
use native.Mathlib.Omega.{arith}
use lib.Dec.{eqb}
use Rattle.descriptions.specs.Descr.{Alts, Desc, Disjs, ◌and◌, ◌or◌, agree, alts, desc, fail}
use Rattle.descriptions.specs.Modes.{size}
use Rattle.descriptions.specs.Remnant.{Remnant, remnant, nothing, alone, several}
use Rattle.descriptions.proofs.Mean.{Can}
use Rattle.modes_by_marks.specs.Placed.{Options, Placed, Places, ◌also◌, no_more, option, place, stop, strip, strip_all, strip_any}
use Rattle.modes_by_marks.specs.Marks.{Marking, all_kept, drop, keep, keep_all, keep_any, kept_of, left_by}
use Rattle.modes_by_marks.specs.Certain.{certain, certain_any, sure_any}
use Rattle.modes_by_marks.specs.Quickly.{Step, any_at, fails, inside_at, narrow_at, passes_at, quick_at, settle_at, sift_at, stands}
use Rattle.modes_by_marks.specs.Quickly.{tried, try_at}
use Rattle.modes_by_marks.specs.Names.{Apart, Distinct, DistinctAll, DistinctAny, names, names_all, names_any}
use Rattle.modes_by_marks.proofs.Dropping.{Left, inside, narrow, narrow_any, passes, settle, sift, try}
use Rattle.modes_by_marks.proofs.Passes.{Passed, passes_ok}
use Rattle.modes_by_marks.proofs.Marks.{drop_other, drop_self, keep_all_marked, keep_all_same, keep_any_same, keep_false, keep_same}
use Rattle.modes_by_marks.proofs.Marks.{keep_true, kept_alts}
use Rattle.descriptions.proofs.Laws.{Laws}
use Rattle.descriptions.specs.Joining.{Joining}

-- n differs from m only at these numbers
abbrev pub Only : List ℕ → Marking → Marking → Type 0
Only ns m n = (y : ℕ) → ¬ (Memᴰ y ns) → n y ≡ m y

only_trans : (ns : List ℕ) (k m n : Marking) → Only ns k m → Only ns m n → Only ns k n
only_trans ns k m n p q y h = q y h ∙ p y h

only_more : (ns ms : List ℕ) (m n : Marking) → ((y : ℕ) → Memᴰ y ns → Memᴰ y ms) → Only ns m n → Only ms m n
only_more ns ms m n w p y h = p y (λ i. h (w y i))

apart_same : (ns ms : List ℕ) (m n : Marking) → Apart ns ms → Only ns m n → (y : ℕ) → Memᴰ y ms → n y ≡ m y
apart_same ns ms m n w p y i = p y (λ j. w y j i)

apart_back : (ns ms : List ℕ) (m n : Marking) → Apart ns ms → Only ms m n → (y : ℕ) → Memᴰ y ns → n y ≡ m y
apart_back ns ms m n w p y i = p y (λ j. w y i j)

module _ {Graph : Type 0} where
  no_alts : (b : Alts Graph) → 0 ≡ alts b → b ≡ fail
  no_alts fail e = refl
  no_alts (d or b) e = absurd (omega arith)

module _ {Graph : Type 0} (J : Joining Graph) where
  -- what the steps on marks say of the steps on descriptions
  abbrev TriedAt : List Graph → Marking → Placed Graph → Step Graph → Type 0
  TriedAt S m d (fails n) = (try J S (strip (keep m d)) ≡ none) × Only (names d) m n
  TriedAt S m d (stands T n) = (try J S (strip (keep m d)) ≡ some (strip (keep n d))) × Only (names d) m n

  abbrev pub NarrowedAt : List Graph → Marking → Places Graph → Step Graph → Type 0
  NarrowedAt S m ds (fails n) = (narrow J S (strip_all (keep_all m ds)) ≡ none) × Only (names_all ds) m n
  NarrowedAt S m ds (stands T n) = (narrow J S (strip_all (keep_all m ds)) ≡ some (record { stack = T; left = strip_all (keep_all n ds) }))
      × Only (names_all ds) m n

  abbrev AnyAt : List Graph → Marking → Options Graph → Step Graph → Type 0
  AnyAt S m a (fails n) = (narrow_any J S (strip_any (keep_any m a)) ≡ none) × Only (names_any a) m n
  AnyAt S m a (stands T n) = (narrow_any J S (strip_any (keep_any m a)) ≡ some (record { stack = T; left = strip_any (keep_any n a) }))
      × Only (names_any a) m n

  abbrev InAt : List Graph → Marking → Placed Graph → Step Graph → Type 0
  InAt S m d (fails n) = (inside J S (strip (keep m d)) ≡ none) × Only (names d) m n
  InAt S m d (stands T n) = (inside J S (strip (keep m d)) ≡ some (record { stack = T; left = strip (keep n d) })) × Only (names d) m n

  abbrev pub SiftedAt : List Graph → Marking → Options Graph → Marking → Type 0
  SiftedAt S m a n = (sift J S (strip_any (keep_any m a)) ≡ strip_any (keep_any n a)) × Only (names_any a) m n

  try_at_desc : (S : List Graph) (m : Marking) (g : Graph) (ds : Places Graph) (t : Bool) (o : Step Graph) →
      NarrowedAt (S ++ g ∷ certain m ds) m ds o → agree J (S ++ g ∷ certain m ds) ≡ t →
      TriedAt S m (place g ds) (elim t [ false ↦ fails m | true ↦ o ])
  unfolding try
  try_at_desc S m g ds t o N e = go t o N e
    where
      ask : Bool → Option (Left Graph (Disjs Graph)) → Option (Desc Graph)
      ask t o = elim t [ false ↦ none | true ↦ elim o [ none ↦ none | some r ↦ some (desc g r.left) ] ]

      go : (t : Bool) (o : Step Graph) → NarrowedAt (S ++ g ∷ certain m ds) m ds o → agree J (S ++ g ∷ certain m ds) ≡ t →
          TriedAt S m (place g ds) (elim t [ false ↦ fails m | true ↦ o ])
      go false o N e = (ap (λ (t : Bool). ask t (narrow J (S ++ g ∷ certain m ds) (strip_all (keep_all m ds)))) e, λ y h. refl)
      go true (fails n) N e = (ap₂ {C = Option (Desc Graph)} ask e N.0, N.1)
      go true (stands T n) N e = (ap₂ {C = Option (Desc Graph)} ask e N.0, N.1)

  in_at_desc : (S : List Graph) (m : Marking) (g : Graph) (ds : Places Graph) (o : Step Graph) → NarrowedAt S m ds o →
      InAt S m (place g ds) o
  unfolding try
  in_at_desc S m g ds o N = go o N
    where
      put : Option (Left Graph (Disjs Graph)) → Option (Left Graph (Desc Graph))
      put o = elim o [ none ↦ none | some r ↦ some (record { stack = r.stack; left = desc g r.left }) ]

      go : (o : Step Graph) → NarrowedAt S m ds o → InAt S m (place g ds) o
      go (fails n) N = (ap put N.0, N.1)
      go (stands T n) N = (ap put N.0, N.1)

  module _ (S : List Graph) (m : Marking) (a : Options Graph) (ds : Places Graph) (w : Apart (names_any a) (names_all ds)) where
    here_first : (n : Marking) → Only (names_any a) m n → Only (names_any a ++ names_all ds) m n
    here_first n u = only_more (names_any a) (names_any a ++ names_all ds) m n (λ y i. Memᴰ.append_left (names_all ds) i) u

    narrow_at_more : (o : Step Graph) → AnyAt S m a o → (q : List Graph → Marking → Step Graph) →
        ((T : List Graph) (n : Marking) → NarrowedAt T n ds (q T n)) →
        NarrowedAt S m (a also ds) (elim o [ fails n ↦ fails n | stands T n ↦ q T n ])
    unfolding try
    narrow_at_more (fails n) A q Q = (
      ap (λ (o : Option (Left Graph (Alts Graph))). elim o [
        | none ↦ none
        | some r ↦ elim (narrow J r.stack (strip_all (keep_all m ds))) [
          | none ↦ none
          | some q ↦ some (record { stack = q.stack; left = r.left and q.left })
        ]
      ]) A.0,
      here_first n A.1,
    )
    narrow_at_more (stands T n) A q Q = go (q T n) (Q T n)
      where
        D : Disjs Graph
        D = strip_all (keep_all m ds)

        D_same : strip_all (keep_all n ds) ≡ D
        D_same = ap strip_all (keep_all_same ds n m (apart_same (names_any a) (names_all ds) m n w A.1))

        before : Option (Left Graph (Disjs Graph)) → Option (Left Graph (Disjs Graph))
        before o = elim o [ none ↦ none | some q ↦ some (record { stack = q.stack; left = strip_any (keep_any n a) and q.left }) ]

        first : narrow J S (strip_any (keep_any m a) and D) ≡ before (narrow J T (strip_all (keep_all n ds)))
        first = ap (λ (o : Option (Left Graph (Alts Graph))). elim o [
          | none ↦ none
          | some r ↦ elim (narrow J r.stack D) [
            | none ↦ none
            | some q ↦ some (record { stack = q.stack; left = r.left and q.left })
          ]
        ]) A.0
            ∙ ap (λ (z : Disjs Graph). before (narrow J T z)) (sym D_same)

        only : (k : Marking) → Only (names_all ds) n k → Only (names_any a ++ names_all ds) m k
        only k u = only_trans (names_any a ++ names_all ds) m n k (here_first n A.1)
            (only_more (names_all ds) (names_any a ++ names_all ds) n k (λ y i. Memᴰ.append_right (names_any a) i) u)

        go : (o : Step Graph) → NarrowedAt T n ds o → NarrowedAt S m (a also ds) o
        go (fails k) N = (first ∙ ap before N.0, only k N.1)
        go (stands U k) N = (
          first ∙ ap before N.0
              ∙ ap (λ (z : Options Graph). some (record { stack = U; left = strip_any z and strip_all (keep_all k ds) }))
              (keep_any_same a n k (λ y i. sym (apart_back (names_any a) (names_all ds) n k w N.1 y i))),
          only k N.1,
        )

  -- one alternative tried, the later ones sifted
  module _ (S : List Graph) (x : ℕ) (d : Placed Graph) (a : Options Graph) (w : DistinctAny (option x d a)) (q : Marking →
      Marking) (Q : (n : Marking) → SiftedAt S n a (q n)) where
    off_any : ¬ (Memᴰ x (names_any a))
    off_any i = w.3 x (Memᴰ.head refl) i

    off_in : ¬ (Memᴰ x (names d))
    off_in i = w.2 x (Memᴰ.head refl) i

    abbrev here : List ℕ
    here = x ∷ (names d ++ names_any a)

    any_here : (m n : Marking) → Only (names_any a) m n → Only here m n
    any_here m n = only_more (names_any a) here m n (λ y i. Memᴰ.tail (Memᴰ.append_right (names d) i))

    in_here : (m n : Marking) → Only (names d) m n → Only here m n
    in_here m n = only_more (names d) here m n (λ y i. Memᴰ.tail (Memᴰ.append_left (names_any a) i))

    -- an alternative that failed is dropped; whatever the failed attempt did to the marks inside it does not count
    step_dropped : (m n : Marking) → try J S (strip (keep m d)) ≡ none → Only (names d) m n →
        (elim (try J S (strip (keep m d))) [
          | none ↦ sift J S (strip_any (keep_any m a))
          | some f ↦ f or sift J S (strip_any (keep_any m a))
        ] ≡ strip_any (keep_any (q (drop x n)) (option x d a)))
        × Only here m (q (drop x n))
    step_dropped m n T u =
        let k : Marking = drop x n in
        let A : Alts Graph = strip_any (keep_any m a) in
        let s : keep_any k a ≡ keep_any m a =
        keep_any_same a k n (λ y i. drop_other x n y (λ h. off_any (subst (λ (z : ℕ). Memᴰ z (names_any a)) h i)))
        ∙ keep_any_same a n m (apart_same (names d) (names_any a) m n w.4 u) in (
          ap (λ (o : Option (Desc Graph)). elim o [ none ↦ sift J S A | some f ↦ f or sift J S A ]) T
              ∙ ap (λ (z : Options Graph). sift J S (strip_any z)) (sym s) ∙ (Q k).0
              ∙ ap strip_any (sym (keep_false (q k) x d a ((Q k).1 x off_any ∙ drop_self x n))),
          only_trans here m n (q k) (in_here m n u)
              (only_trans here n k (q k) (λ y h. drop_other x n y (λ z. h (Memᴰ.head z))) (any_here k (q k) (Q k).1)),
        )

    step_at : (m : Marking) → (o : Step Graph) → TriedAt S m d o → m x ≡ true →
        (elim (try J S (strip (keep m d))) [
          | none ↦ sift J S (strip_any (keep_any m a))
          | some f ↦ f or sift J S (strip_any (keep_any m a))
        ] ≡ strip_any (keep_any (q (tried x o)) (option x d a)))
        × Only here m (q (tried x o))
    step_at m (fails n) T e = step_dropped m n T.0 T.1
    step_at m (stands U n) T e =
        let A : Alts Graph = strip_any (keep_any m a) in
        let s : keep_any n a ≡ keep_any m a = keep_any_same a n m (apart_same (names d) (names_any a) m n w.4 T.1) in
        let k : keep n d ≡ keep (q n) d =
        keep_same d n (q n) (λ y i. sym (apart_back (names d) (names_any a) n (q n) w.4 (Q n).1 y i)) in (
          ap (λ (o : Option (Desc Graph)). elim o [ none ↦ sift J S A | some f ↦ f or sift J S A ]) T.0
              ∙ ap₂ {C = Alts Graph} (λ (u : Placed Graph) (v : Alts Graph). strip u or v) k
              (ap (λ (z : Options Graph). sift J S (strip_any z)) (sym s) ∙ (Q n).0)
              ∙ ap strip_any (sym (keep_true (q n) x d a ((Q n).1 x off_any ∙ T.1 x off_in ∙ e))),
          only_trans here m n (q n) (in_here m n T.1) (any_here n (q n) (Q n).1),
        )

    sift_at_more : (m : Marking) (o : Step Graph) → TriedAt S m d o → (t : Bool) → m x ≡ t →
        SiftedAt S m (option x d a) (elim t [ false ↦ q m | true ↦ q (tried x o) ])
    unfolding try
    sift_at_more m o T false e = (
      ap (λ (z : Options Graph). sift J S (strip_any z)) (keep_false m x d a e) ∙ (Q m).0
          ∙ ap strip_any (sym (keep_false (q m) x d a ((Q m).1 x off_any ∙ e))),
      any_here m (q m) (Q m).1,
    )
    sift_at_more m o T true e = let r = step_at m o T e in
        (ap (λ (z : Options Graph). sift J S (strip_any z)) (keep_true m x d a e) ∙ r.0, r.1)

  -- after the alternatives were tried
  abbrev settling : (S : List Graph) (B : Alts Graph) → Remnant → Option (Left Graph (Alts Graph))
  settling S B nothing = none
  settling S B alone = elim (agree J (S ++ sure_any B)) [ false ↦ none | true ↦ some (record { stack = S ++ sure_any B; left = B }) ]
  settling S B several = some (record { stack = S; left = B })

  settle_by : (S : List Graph) (B : Alts Graph) → settle J S B ≡ settling S B (remnant (alts B))
  settle_by S fail = refl
  settle_by S (d or fail) = refl
  settle_by S (d or (e or b)) = refl

  abbrev SettledAt : List Graph → Marking → Options Graph → Step Graph → Type 0
  SettledAt S n a (fails k) = (settle J S (strip_any (keep_any n a)) ≡ none) × (k ≡ n)
  SettledAt S n a (stands T k) = (settle J S (strip_any (keep_any n a)) ≡ some (record { stack = T; left = strip_any (keep_any k a) }))
      × (k ≡ n)

  settle_at_ok : (S : List Graph) (n : Marking) (a : Options Graph) → SettledAt S n a (settle_at J S n a)
  settle_at_ok S n a = go (kept_of n a) (kept_alts n a) (agree J (S ++ certain_any n a)) refl
    where
      B : Alts Graph
      B = strip_any (keep_any n a)

      by : (k : ℕ) → k ≡ alts B → settle J S B ≡ settling S B (remnant k)
      by k e = settle_by S B ∙ ap (λ (k : ℕ). settling S B (remnant k)) (sym e)

      ask : Bool → Option (Left Graph (Alts Graph))
      ask t = elim t [ false ↦ none | true ↦ some (record { stack = S ++ sure_any B; left = B }) ]

      go : (k : ℕ) → k ≡ alts B → (t : Bool) → agree J (S ++ sure_any B) ≡ t →
          SettledAt S n a (elim (remnant k) [
            | nothing ↦ fails n
            | alone ↦ elim t [ false ↦ fails n | true ↦ stands (S ++ sure_any B) n ]
            | several ↦ stands S n
          ])
      go zero e t h = (by zero e, refl)
      go (suc zero) e false h = (by (suc zero) e ∙ ap ask h, refl)
      go (suc zero) e true h = (by (suc zero) e ∙ ap ask h, refl)
      go (suc (suc l)) e t h = (by (suc (suc l)) e, refl)

  many_any : (S : List Graph) (d : Desc Graph) (b : Alts Graph) (k : ℕ) → suc k ≡ alts b →
      narrow_any J S (d or b) ≡ settle J S (elim (try J S d) [ none ↦ sift J S b | some f ↦ f or sift J S b ])
  unfolding try
  many_any S d fail k e = absurd (omega arith)
  many_any S d (f or b) k e = refl

  any_at_more : (S : List Graph) (x : ℕ) (d : Placed Graph) (a : Options Graph) → DistinctAny (option x d a) → (m : Marking) →
      (o : Step Graph) → TriedAt S m d o → (i : Step Graph) → InAt S m d i → (l : Step Graph) → AnyAt S m a l →
      (q : Marking → Marking) → ((n : Marking) → SiftedAt S n a (q n)) → (t : Bool) → m x ≡ t → (k : ℕ) → kept_of m a ≡ k →
      AnyAt S m (option x d a) (elim t [
        | false ↦ l
        | true ↦ elim (remnant (suc k)) [ nothing ↦ fails m | alone ↦ i | several ↦ settle_at J S (q (tried x o)) (option x d a) ]
      ])
  unfolding try
  any_at_more S x d a w m o T i I l L q Q false e k h = go l L
    where
      only : (n : Marking) → Only (names_any a) m n → Only (x ∷ (names d ++ names_any a)) m n
      only n u = only_more (names_any a) (x ∷ (names d ++ names_any a)) m n (λ y j. Memᴰ.tail (Memᴰ.append_right (names d) j)) u

      start : narrow_any J S (strip_any (keep_any m (option x d a))) ≡ narrow_any J S (strip_any (keep_any m a))
      start = ap (λ (y : Options Graph). narrow_any J S (strip_any y)) (keep_false m x d a e)

      go : (l : Step Graph) → AnyAt S m a l → AnyAt S m (option x d a) l
      go (fails n) z = (start ∙ z.0, only n z.1)
      go (stands U n) z = (
        start ∙ z.0
            ∙ ap (λ (y : Options Graph). some (record { stack = U; left = strip_any y }))
            (sym (keep_false n x d a (z.1 x (λ j. w.3 x (Memᴰ.head refl) j) ∙ e))),
        only n z.1,
      )
  any_at_more S x d a w m o T i I l L q Q true e zero h = go i I
    where
      A : Alts Graph
      A = strip_any (keep_any m a)

      none_else : A ≡ fail
      none_else = no_alts A (sym h ∙ kept_alts m a)

      lone : Option (Left Graph (Desc Graph)) → Option (Left Graph (Alts Graph))
      lone o = elim o [ none ↦ none | some r ↦ some (record { stack = r.stack; left = r.left or fail }) ]

      start : narrow_any J S (strip_any (keep_any m (option x d a))) ≡ lone (inside J S (strip (keep m d)))
      start = ap (λ (y : Options Graph). narrow_any J S (strip_any y)) (keep_true m x d a e)
          ∙ ap (λ (y : Alts Graph). narrow_any J S (strip (keep m d) or y)) none_else

      only : (n : Marking) → Only (names d) m n → Only (x ∷ (names d ++ names_any a)) m n
      only n u = only_more (names d) (x ∷ (names d ++ names_any a)) m n (λ y j. Memᴰ.tail (Memᴰ.append_left (names_any a) j)) u

      go : (i : Step Graph) → InAt S m d i → AnyAt S m (option x d a) i
      go (fails n) z = (start ∙ ap lone z.0, only n z.1)
      go (stands U n) z = (
        start ∙ ap lone z.0
            ∙ ap (λ (y : Alts Graph). some (record { stack = U; left = strip (keep n d) or y }))
            (sym (ap strip_any (keep_any_same a n m (apart_same (names d) (names_any a) m n w.4 z.1)) ∙ none_else))
            ∙ ap (λ (y : Options Graph). some (record { stack = U; left = strip_any y }))
            (sym (keep_true n x d a (z.1 x (λ j. w.2 x (Memᴰ.head refl) j) ∙ e))),
        only n z.1,
      )
  any_at_more S x d a w m o T i I l L q Q true e (suc k) h = go (settle_at J S new (option x d a)) (settle_at_ok S new (option x d a))
    where
      new : Marking
      new = q (tried x o)

      st : (elim (try J S (strip (keep m d))) [
        | none ↦ sift J S (strip_any (keep_any m a))
        | some f ↦ f or sift J S (strip_any (keep_any m a))
      ] ≡ strip_any (keep_any new (option x d a)))
          × Only (x ∷ (names d ++ names_any a)) m new
      st = step_at S x d a w q Q m o T e

      start : narrow_any J S (strip_any (keep_any m (option x d a))) ≡ settle J S (strip_any (keep_any new (option x d a)))
      start = ap (λ (y : Options Graph). narrow_any J S (strip_any y)) (keep_true m x d a e)
          ∙ many_any S (strip (keep m d)) (strip_any (keep_any m a)) k (sym h ∙ kept_alts m a) ∙ ap (settle J S) st.0

      go : (r : Step Graph) → SettledAt S new (option x d a) r → AnyAt S m (option x d a) r
      go (fails n) z = (start ∙ z.0, subst (Only (x ∷ (names d ++ names_any a)) m) (sym z.1) st.1)
      go (stands U n) z = (start ∙ z.0, subst (Only (x ∷ (names d ++ names_any a)) m) (sym z.1) st.1)

  mutual
    unfolding try_at try

    pub try_at_ok : (d : Placed Graph) → Distinct d → (S : List Graph) (m : Marking) → TriedAt S m d (try_at J S m d)
    try_at_ok (place g ds) w S m =
        try_at_desc S m g ds (agree J (S ++ g ∷ certain m ds)) (narrow_at J (S ++ g ∷ certain m ds) m ds)
        (narrow_at_ok ds w (S ++ g ∷ certain m ds) m) refl

    pub narrow_at_ok : (ds : Places Graph) → DistinctAll ds → (S : List Graph) (m : Marking) → NarrowedAt S m ds (narrow_at J S m ds)
    narrow_at_ok stop w S m = (refl, λ y h. refl)
    narrow_at_ok (a also ds) w S m =
        narrow_at_more S m a ds w.2 (any_at J S m a) (any_at_ok a w.0 S m) (λ T n. narrow_at J T n ds)
        (λ T n. narrow_at_ok ds w.1 T n)

    pub any_at_ok : (a : Options Graph) → DistinctAny a → (S : List Graph) (m : Marking) → AnyAt S m a (any_at J S m a)
    any_at_ok no_more w S m = (refl, λ y h. refl)
    any_at_ok (option x d a) w S m =
        any_at_more S x d a w m (try_at J S m d) (try_at_ok d w.0 S m) (inside_at J S m d) (inside_at_ok d w.0 S m) (any_at J S m a)
        (any_at_ok a w.1 S m) (λ n. sift_at J S n a) (λ n. sift_at_ok a w.1 S n) (m x) refl (kept_of m a) refl

    pub inside_at_ok : (d : Placed Graph) → Distinct d → (S : List Graph) (m : Marking) → InAt S m d (inside_at J S m d)
    inside_at_ok (place g ds) w S m = in_at_desc S m g ds (narrow_at J S m ds) (narrow_at_ok ds w S m)

    pub sift_at_ok : (a : Options Graph) → DistinctAny a → (S : List Graph) (m : Marking) → SiftedAt S m a (sift_at J S m a)
    sift_at_ok no_more w S m = (refl, λ y h. refl)
    sift_at_ok (option x d a) w S m =
        sift_at_more S x d a w (λ n. sift_at J S n a) (λ n. sift_at_ok a w.1 S n) m (try_at J S m d) (try_at_ok d w.0 S m) (m x) refl

  -- the passes
  pub passes_at_ok : (n : ℕ) (d : Placed Graph) → Distinct d → (m : Marking) → passes J n (strip (keep m d)) ≡ left_by d (passes_at J n m d)
  unfolding passes passes_at
  passes_at_ok zero d w m = refl
  passes_at_ok (suc n) d w m = go (try_at J [] m d) (try_at_ok d w [] m) (λ k. passes_at_ok n d w k)
    where
      now : Desc Graph
      now = strip (keep m d)

      go : (o : Step Graph) → TriedAt [] m d o → ((k : Marking) → passes J n (strip (keep k d)) ≡ left_by d (passes_at J n k d)) →
          elim (try J [] now) [ none ↦ none | some e ↦ elim (eqb (size e) (size now)) [ true ↦ some e | false ↦ passes J n e ] ]
          ≡ left_by d (elim o [
            | fails k ↦ none
            | stands U k ↦ elim (eqb (size (strip (keep k d))) (size now)) [ true ↦ some k | false ↦ passes_at J n k d ]
          ])
      go (fails k) T ih = ap (λ (o : Option (Desc Graph)). elim o [
        | none ↦ none
        | some e ↦ elim (eqb (size e) (size now)) [ true ↦ some e | false ↦ passes J n e ]
      ]) T.0
      go (stands U k) T ih = ap (λ (o : Option (Desc Graph)). elim o [
        | none ↦ none
        | some e ↦ elim (eqb (size e) (size now)) [ true ↦ some e | false ↦ passes J n e ]
      ]) T.0
          ∙ two (eqb (size (strip (keep k d))) (size now))
        where
          two : (t : Bool) → ◌≡◌ {A = Option (Desc Graph)}
              (elim t [ true ↦ some (strip (keep k d)) | false ↦ passes J n (strip (keep k d)) ])
              (left_by d (elim t [ true ↦ some k | false ↦ passes_at J n k d ]))
          two true = refl
          two false = ih k

  pub quick_at_ok : (d : Placed Graph) → Distinct d → passes J (size (strip d)) (strip d) ≡ left_by d (quick_at J d)
  unfolding quick_at
  quick_at_ok d w = ap (λ (z : Placed Graph). passes J (size (strip d)) (strip z)) (sym (keep_all_marked d))
      ∙ passes_at_ok (size (strip d)) d w all_kept

module _ {Graph : Type 0} {J : Joining Graph} (𝓛 : Laws J) where
  -- the marks of the quick step leave the greatest stable part, or there is none
  pub quick_passed : (d : Placed Graph) → Can 𝓛 (strip d) → Distinct d → Passed J (strip d) (left_by d (quick_at J d))
  quick_passed d c w = subst (Passed J (strip d)) (quick_at_ok J d w) (passes_ok 𝓛 (size (strip d)) (strip d) c (omega arith))
