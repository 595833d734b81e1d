-- Laws of marks: which alternatives are left, with which numbers, and when two markings leave the same.
-- Assumes nothing.
use mathlib.Core.Path.{◌≡◌, refl, ap, ap₂, sym, ◌∙◌}
use mathlib.Core.Logic.{⊎_elim, ◌≢◌}
use mathlib.Core.Bool.{Bool, true, false}
use mathlib.Core.List.Memᴰ
use mathlib.Core.List.{◌∷◌, ◌++◌, Memᴰ}
use Prim.Native.Nat.{ℕ, suc}
use native.Mathlib.Omega.{arith}
use Rattle.descriptions.specs.Descr.{alts}
use Rattle.descriptions.proofs.Tests.{eqb_no, eqb_yes}
use Rattle.modes_by_marks.specs.Placed.{Options, Placed, Places, ◌also◌, no_more, option, place, stop, strip_any}
use Rattle.modes_by_marks.specs.Marks.{Marking, all_kept, drop, keep, keep_all, keep_any, kept_of}
use Rattle.modes_by_marks.specs.Names.{Distinct, DistinctAll, DistinctAny, names, names_all, names_any}

-- dropping one mark leaves the others
pub drop_self : (x : ℕ) (m : Marking) → drop x m x ≡ false
drop_self x m = ap (λ (t : Bool). elim t [ true ↦ false | false ↦ m x ]) (eqb_yes x x refl)

pub drop_other : (x : ℕ) (m : Marking) (y : ℕ) → y ≢ x → drop x m y ≡ m y
drop_other x m y h = ap (λ (t : Bool). elim t [ true ↦ false | false ↦ m y ]) (eqb_no y x h)

pub false_true : false ≡ true → ⊥
false_true e = let z : ◌≡◌ {A = ℕ} 0 1 = cc in omega arith

module _ {Graph : Type 0} where
  -- one alternative, kept or not
  pub keep_true : (m : Marking) (x : ℕ) (d : Placed Graph) (a : Options Graph) → m x ≡ true →
      keep_any m (option x d a) ≡ option x (keep m d) (keep_any m a)
  keep_true m x d a e = ap (λ (t : Bool). elim t [ true ↦ option x (keep m d) (keep_any m a) | false ↦ keep_any m a ]) e

  pub keep_false : (m : Marking) (x : ℕ) (d : Placed Graph) (a : Options Graph) → m x ≡ false → keep_any m (option x d a) ≡ keep_any m a
  keep_false m x d a e = ap (λ (t : Bool). elim t [ true ↦ option x (keep m d) (keep_any m a) | false ↦ keep_any m a ]) e

  -- as many alternatives are left as are kept
  pub kept_alts : (m : Marking) (a : Options Graph) → kept_of m a ≡ alts (strip_any (keep_any m a))
  kept_alts m no_more = refl
  kept_alts m (option x d a) = go (m x) (kept_alts m a)
    where
      go : (t : Bool) → kept_of m a ≡ alts (strip_any (keep_any m a)) →
          elim t [ true ↦ suc (kept_of m a) | false ↦ kept_of m a ]
          ≡ alts (strip_any {Graph = Graph} (elim t [ true ↦ option x (keep m d) (keep_any m a) | false ↦ keep_any m a ]))
      go true e = ap suc e
      go false e = e

  -- where all are kept, all are left
  mutual
    pub keep_all_marked : (d : Placed Graph) → keep all_kept d ≡ d
    keep_all_marked (place g ds) = ap (place g) (keep_all_marked_all ds)

    keep_all_marked_all : (ds : Places Graph) → keep_all all_kept ds ≡ ds
    keep_all_marked_all stop = refl
    keep_all_marked_all (a also ds) = ap₂ {C = Places Graph} ◌also◌ (keep_all_marked_any a) (keep_all_marked_all ds)

    keep_all_marked_any : (a : Options Graph) → keep_any all_kept a ≡ a
    keep_all_marked_any no_more = refl
    keep_all_marked_any (option x d a) = ap₂ {C = Options Graph} (option x) (keep_all_marked d) (keep_all_marked_any a)

  -- marks elsewhere do not count
  or_same : (m n : Marking) (x : ℕ) (d : Placed Graph) (a : Options Graph) → m x ≡ n x → keep m d ≡ keep n d → keep_any m a ≡ keep_any n a →
      keep_any m (option x d a) ≡ keep_any n (option x d a)
  or_same m n x d a e f g = ap₂ {C = Options Graph} (λ (t : Bool) (z : Options Graph). elim t [ true ↦ option x (keep m d) z | false ↦ z ])
      e g ∙ ap (λ (z : Placed Graph). elim (n x) [ true ↦ option x z (keep_any n a) | false ↦ keep_any n a ]) f

  mutual
    pub keep_same : (d : Placed Graph) (m n : Marking) → ((y : ℕ) → Memᴰ y (names d) → m y ≡ n y) → keep m d ≡ keep n d
    keep_same (place g ds) m n h = ap (place g) (keep_all_same ds m n h)

    pub keep_all_same : (ds : Places Graph) (m n : Marking) → ((y : ℕ) → Memᴰ y (names_all ds) → m y ≡ n y) →
        keep_all m ds ≡ keep_all n ds
    keep_all_same stop m n h = refl
    keep_all_same (a also ds) m n h =
        ap₂ {C = Places Graph} ◌also◌ (keep_any_same a m n (λ y i. h y (Memᴰ.append_left (names_all ds) i)))
        (keep_all_same ds m n (λ y i. h y (Memᴰ.append_right (names_any a) i)))

    pub keep_any_same : (a : Options Graph) (m n : Marking) → ((y : ℕ) → Memᴰ y (names_any a) → m y ≡ n y) →
        keep_any m a ≡ keep_any n a
    keep_any_same no_more m n h = refl
    keep_any_same (option x d a) m n h =
        or_same m n x d a (h x (Memᴰ.head refl)) (keep_same d m n (λ y i. h y (Memᴰ.tail (Memᴰ.append_left (names_any a) i))))
        (keep_any_same a m n (λ y i. h y (Memᴰ.tail (Memᴰ.append_right (names d) i))))

  -- only marked numbers are left
  or_names : (m : Marking) (x : ℕ) (d : Placed Graph) (a : Options Graph) (y : ℕ) →
      (Memᴰ y (names (keep m d)) → (m y ≡ true) × Memᴰ y (names d)) →
      (Memᴰ y (names_any (keep_any m a)) → (m y ≡ true) × Memᴰ y (names_any a)) →
      (t : Bool) → m x ≡ t → Memᴰ y
      (names_any {Graph = Graph} (elim t [ true ↦ option x (keep m d) (keep_any m a) | false ↦ keep_any m a ])) →
      (m y ≡ true) × Memᴰ y (x ∷ (names d ++ names_any a))
  or_names m x d a y f g true e i = ⊎_elim (λ h. (ap m h ∙ e, Memᴰ.head h))
      (λ j. ⊎_elim (λ h. let q = f h in (q.0, Memᴰ.tail (Memᴰ.append_left (names_any a) q.1))) (λ h. let q = g h in
      (q.0, Memᴰ.tail (Memᴰ.append_right (names d) q.1))) (Memᴰ.append_cases (names (keep m d)) j))
      (Memᴰ.cases_cons i)
  or_names m x d a y f g false e i = let q = g i in (q.0, Memᴰ.tail (Memᴰ.append_right (names d) q.1))

  mutual
    pub keep_names : (d : Placed Graph) (m : Marking) (y : ℕ) → Memᴰ y (names (keep m d)) → (m y ≡ true) × Memᴰ y (names d)
    keep_names (place g ds) m y i = keep_all_names ds m y i

    keep_all_names : (ds : Places Graph) (m : Marking) (y : ℕ) → Memᴰ y (names_all (keep_all m ds)) →
        (m y ≡ true) × Memᴰ y (names_all ds)
    keep_all_names stop m y i = absurd (Memᴰ.not-nil i)
    keep_all_names (a also ds) m y i =
        ⊎_elim (λ h. let q = keep_any_names a m y h in (q.0, Memᴰ.append_left (names_all ds) q.1)) (λ h. let q =
        keep_all_names ds m y h in (q.0, Memᴰ.append_right (names_any a) q.1)) (Memᴰ.append_cases (names_any (keep_any m a)) i)

    keep_any_names : (a : Options Graph) (m : Marking) (y : ℕ) → Memᴰ y (names_any (keep_any m a)) →
        (m y ≡ true) × Memᴰ y (names_any a)
    keep_any_names no_more m y i = absurd (Memᴰ.not-nil i)
    keep_any_names (option x d a) m y i = or_names m x d a y (λ h. keep_names d m y h) (λ h. keep_any_names a m y h) (m x) refl i

  or_distinct : (m : Marking) (x : ℕ) (d : Placed Graph) (a : Options Graph) → Distinct (keep m d) → DistinctAny (keep_any m a) →
      DistinctAny (option x d a) → (t : Bool) →
      DistinctAny {Graph = Graph} (elim t [ true ↦ option x (keep m d) (keep_any m a) | false ↦ keep_any m a ])
  or_distinct m x d a p q w true = (
    p,
    q,
    (λ y i j. w.2 y i (keep_names d m y j).1),
    (λ y i j. w.3 y i (keep_any_names a m y j).1),
    λ y i j. w.4 y (keep_names d m y i).1 (keep_any_names a m y j).1,
  )
  or_distinct m x d a p q w false = q

  mutual
    pub keep_distinct : (d : Placed Graph) (m : Marking) → Distinct d → Distinct (keep m d)
    keep_distinct (place g ds) m w = keep_all_distinct ds m w

    keep_all_distinct : (ds : Places Graph) (m : Marking) → DistinctAll ds → DistinctAll (keep_all m ds)
    keep_all_distinct stop m w = tt
    keep_all_distinct (a also ds) m w = (
      keep_any_distinct a m w.0,
      keep_all_distinct ds m w.1,
      λ y i j. w.2 y (keep_any_names a m y i).1 (keep_all_names ds m y j).1,
    )

    keep_any_distinct : (a : Options Graph) (m : Marking) → DistinctAny a → DistinctAny (keep_any m a)
    keep_any_distinct no_more m w = tt
    keep_any_distinct (option x d a) m w = or_distinct m x d a (keep_distinct d m w.0) (keep_any_distinct a m w.1) w (m x)

  -- fewer marks, after more
  or_keep : (m n : Marking) (x : ℕ) (d : Placed Graph) (a : Options Graph) → (m x ≡ true → n x ≡ true) → keep m d ≡ keep m (keep n d) →
      keep_any m a ≡ keep_any m (keep_any n a) → (t u : Bool) → m x ≡ t → n x ≡ u →
      elim t [ true ↦ option x (keep m d) (keep_any m a) | false ↦ keep_any m a ]
      ≡ keep_any {Graph = Graph} m (elim u [ true ↦ option x (keep n d) (keep_any n a) | false ↦ keep_any n a ])
  or_keep m n x d a h e f true true p q = ap₂ {C = Options Graph} (option x) e f ∙ sym (keep_true m x (keep n d) (keep_any n a) p)
  or_keep m n x d a h e f true false p q = absurd (false_true (sym q ∙ h p))
  or_keep m n x d a h e f false true p q = f ∙ sym (keep_false m x (keep n d) (keep_any n a) p)
  or_keep m n x d a h e f false false p q = f

  mutual
    pub keep_keep : (d : Placed Graph) (m n : Marking) → ((y : ℕ) → m y ≡ true → n y ≡ true) → keep m d ≡ keep m (keep n d)
    keep_keep (place g ds) m n h = ap (place g) (keep_all_keep ds m n h)

    keep_all_keep : (ds : Places Graph) (m n : Marking) → ((y : ℕ) → m y ≡ true → n y ≡ true) → keep_all m ds ≡ keep_all m (keep_all n ds)
    keep_all_keep stop m n h = refl
    keep_all_keep (a also ds) m n h = ap₂ {C = Places Graph} ◌also◌ (keep_any_keep a m n h) (keep_all_keep ds m n h)

    keep_any_keep : (a : Options Graph) (m n : Marking) → ((y : ℕ) → m y ≡ true → n y ≡ true) → keep_any m a ≡ keep_any m (keep_any n a)
    keep_any_keep no_more m n h = refl
    keep_any_keep (option x d a) m n h = or_keep m n x d a (h x) (keep_keep d m n h) (keep_any_keep a m n h) (m x) (n x) refl refl
