-- The quick step sees a stack only by what it joins to. So an engine may push in another order, and may leave the stack of the whole
-- description standing between passes.
-- Assumes nothing.
use mathlib.Core.Path.{◌≡◌, refl, ap, ap₂, ◌∙◌, subst}
use mathlib.Core.Bool.{Bool, true, false}
use mathlib.Core.Option.{Option, none, some}
use mathlib.Core.List.{◌∷◌, ◌++◌, List}
use Rattle.descriptions.specs.Descr.{Alts, Desc, Disjs, ◌and◌, ◌or◌, agree, answers, desc, end, fail}
use Rattle.descriptions.proofs.Laws.{Laws}
use Rattle.descriptions.proofs.Mean.{Can, CanAll, CanAny, fine_append}
use Rattle.modes_by_marks.specs.Certain.{flat, sure}
use Rattle.modes_by_marks.proofs.Entail.{join_both}
use Rattle.modes_by_marks.proofs.Stable.{flat_can, part_any_can, says_left, sure_can}
use Rattle.modes_by_marks.proofs.Dropping.{Left, inside, narrow, narrow_any, settle, sift, try}
use Rattle.modes_by_marks.proofs.Passes.{sift_ok}
use Rattle.descriptions.specs.Joining.{Joining}
use Rattle.descriptions.specs.Canonical.{All}

module _ {Graph : Type 0} where
  sift_go : (o q : Option (Desc Graph)) → o ≡ q → (a b : Alts Graph) → a ≡ b →
      ◌≡◌ {A = Alts Graph} (elim o [ none ↦ a | some f ↦ f or a ]) (elim q [ none ↦ b | some f ↦ f or b ])
  sift_go o q e a b h = ap₂ {C = Alts Graph} (λ (o : Option (Desc Graph)) (a : Alts Graph). elim o [ none ↦ a | some f ↦ f or a ]) e h

module _ {Graph : Type 0} {J : Joining Graph} (𝓛 : Laws J) where
  open J use {join}
  open 𝓛 use {Canonical}

  -- two stacks that join alike, whatever is pushed on them
  abbrev pub Same : (S T : List Graph) → Type 0
  Same = Rattle.modes_by_marks.specs.Stack.Equivalent J Canonical

  pub same_on : (S T X : List Graph) → Same S T → All Canonical X → Same (S ++ X) (T ++ X)
  same_on S T X s c = record {
    fine₁ = fine_append 𝓛 S X s.fine₁ c;
    fine₂ = fine_append 𝓛 T X s.fine₂ c;
    to = says_left 𝓛 S T X s.fine₁ s.fine₂ c s.to;
    from = says_left 𝓛 T S X s.fine₂ s.fine₁ c s.from;
  }

  pub agree_same : (S T : List Graph) → Same S T → agree J S ≡ agree J T
  unfolding agree
  agree_same S T s = ap answers (join_both 𝓛 S T s.fine₁ s.fine₂ s.to s.from)

  abbrev pub LeftSame : (A : Type 0) → Option (Left Graph A) → Option (Left Graph A) → Type 0
  LeftSame A none none = Unit {0}
  LeftSame A none (some q) = ⊥
  LeftSame A (some r) none = ⊥
  LeftSame A (some r) (some q) = (r.left ≡ q.left) × Same r.stack q.stack

  settle_same : (S T : List Graph) (b : Alts Graph) → CanAny 𝓛 b → Same S T → LeftSame (Alts Graph) (settle J S b) (settle J T b)
  settle_same S T fail c s = tt
  settle_same S T (d or fail) c s = go (agree J (S ++ flat d)) (agree J (T ++ flat d)) (agree_same (S ++ flat d) (T ++ flat d) u)
    where
      u : Same (S ++ flat d) (T ++ flat d)
      u = same_on S T (flat d) s (flat_can 𝓛 d c.0)

      one : (t : Bool) → LeftSame (Alts Graph) (elim t [ false ↦ none | true ↦ some (record { stack = S ++ flat d; left = d or fail }) ])
          (elim t [ false ↦ none | true ↦ some (record { stack = T ++ flat d; left = d or fail }) ])
      one false = tt
      one true = (refl, u)

      go : (t v : Bool) → t ≡ v → LeftSame (Alts Graph)
          (elim t [ false ↦ none | true ↦ some (record { stack = S ++ flat d; left = d or fail }) ])
          (elim v [ false ↦ none | true ↦ some (record { stack = T ++ flat d; left = d or fail }) ])
      go t v e = subst (λ (v : Bool). LeftSame (Alts Graph)
          (elim t [ false ↦ none | true ↦ some (record { stack = S ++ flat d; left = d or fail }) ])
          (elim v [ false ↦ none | true ↦ some (record { stack = T ++ flat d; left = d or fail }) ])) e (one t)
  settle_same S T (d or (e or b)) c s = (refl, s)

  try_go : (g : Graph) (t v : Bool) → t ≡ v → (o q : Option (Left Graph (Disjs Graph))) → LeftSame (Disjs Graph) o q →
      ◌≡◌ {A = Option (Desc Graph)} (elim t [ false ↦ none | true ↦ elim o [ none ↦ none | some r ↦ some (desc g r.left) ] ])
      (elim v [ false ↦ none | true ↦ elim q [ none ↦ none | some r ↦ some (desc g r.left) ] ])
  try_go g t v e o q l = ap (λ (t : Bool). elim t [ false ↦ none | true ↦ elim o [ none ↦ none | some r ↦ some (desc g r.left) ] ]) e
      ∙ go v o q l
    where
      go : (v : Bool) (o q : Option (Left Graph (Disjs Graph))) → LeftSame (Disjs Graph) o q →
          ◌≡◌ {A = Option (Desc Graph)} (elim v [ false ↦ none | true ↦ elim o [ none ↦ none | some r ↦ some (desc g r.left) ] ])
          (elim v [ false ↦ none | true ↦ elim q [ none ↦ none | some r ↦ some (desc g r.left) ] ])
      go false o q l = refl
      go true none none l = refl
      go true none (some q) l = absurd l
      go true (some r) none l = absurd l
      go true (some r) (some q) l = ap (λ (z : Disjs Graph). some (desc g z)) l.0

  in_go : (g : Graph) (o q : Option (Left Graph (Disjs Graph))) → LeftSame (Disjs Graph) o q →
      LeftSame (Desc Graph) (elim o [ none ↦ none | some r ↦ some (record { stack = r.stack; left = desc g r.left }) ])
      (elim q [ none ↦ none | some r ↦ some (record { stack = r.stack; left = desc g r.left }) ])
  in_go g none none l = tt
  in_go g none (some q) l = absurd l
  in_go g (some r) none l = absurd l
  in_go g (some r) (some q) l = (ap (desc g) l.0, l.1)

  lone_go : (o q : Option (Left Graph (Desc Graph))) → LeftSame (Desc Graph) o q →
      LeftSame (Alts Graph) (elim o [ none ↦ none | some r ↦ some (record { stack = r.stack; left = r.left or fail }) ])
      (elim q [ none ↦ none | some r ↦ some (record { stack = r.stack; left = r.left or fail }) ])
  lone_go none none l = tt
  lone_go none (some q) l = absurd l
  lone_go (some r) none l = absurd l
  lone_go (some r) (some q) l = (ap (λ (z : Desc Graph). z or fail) l.0, l.1)

  all_go : (k : List Graph → Option (Left Graph (Disjs Graph))) → ((S T : List Graph) → Same S T → LeftSame (Disjs Graph) (k S) (k T)) →
      (o q : Option (Left Graph (Alts Graph))) → LeftSame (Alts Graph) o q →
      LeftSame (Disjs Graph) (elim o [
        | none ↦ none
        | some r ↦ elim (k r.stack) [ none ↦ none | some u ↦ some (record { stack = u.stack; left = r.left and u.left }) ]
      ])
      (elim q [
        | none ↦ none
        | some r ↦ elim (k r.stack) [
          | none ↦ none
          | some u ↦ some (record { stack = u.stack; left = r.left and u.left })
        ]
      ])
  all_go k K none none l = tt
  all_go k K none (some q) l = absurd l
  all_go k K (some r) none l = absurd l
  all_go k K (some r) (some q) l = go (k r.stack) (k q.stack) (K r.stack q.stack l.1)
    where
      go : (x y : Option (Left Graph (Disjs Graph))) → LeftSame (Disjs Graph) x y →
          LeftSame (Disjs Graph) (elim x [ none ↦ none | some u ↦ some (record { stack = u.stack; left = r.left and u.left }) ])
          (elim y [ none ↦ none | some u ↦ some (record { stack = u.stack; left = q.left and u.left }) ])
      go none none m = tt
      go none (some v) m = absurd m
      go (some u) none m = absurd m
      go (some u) (some v) m = (ap₂ {C = Disjs Graph} ◌and◌ l.0 m.0, m.1)

  mutual
    unfolding try

    pub try_same : (d : Desc Graph) → Can 𝓛 d → (S T : List Graph) → Same S T → try J S d ≡ try J T d
    try_same (desc g ds) c S T s =
        let u = same_on S T (g ∷ sure ds) s (c.0, sure_can 𝓛 ds c.1) in
        try_go g (agree J (S ++ g ∷ sure ds)) (agree J (T ++ g ∷ sure ds)) (agree_same (S ++ g ∷ sure ds) (T ++ g ∷ sure ds) u)
        (narrow J (S ++ g ∷ sure ds) ds) (narrow J (T ++ g ∷ sure ds) ds)
        (narrow_same ds c.1 (S ++ g ∷ sure ds) (T ++ g ∷ sure ds) u)

    pub narrow_same : (ds : Disjs Graph) → CanAll 𝓛 ds → (S T : List Graph) → Same S T →
        LeftSame (Disjs Graph) (narrow J S ds) (narrow J T ds)
    narrow_same end c S T s = (refl, s)
    narrow_same (a and ds) c S T s =
        all_go (λ X. narrow J X ds) (λ X Y x. narrow_same ds c.1 X Y x) (narrow_any J S a) (narrow_any J T a) (any_same a c.0 S T s)

    any_same : (a : Alts Graph) → CanAny 𝓛 a → (S T : List Graph) → Same S T → LeftSame (Alts Graph) (narrow_any J S a) (narrow_any J T a)
    any_same fail c S T s = tt
    any_same (d or a) c S T s = go a c (inside_same d c.0 S T s) (try_same d c.0 S T s) (sift_same a c.1 S T s)
      where
        go : (a : Alts Graph) → CanAny 𝓛 (d or a) → LeftSame (Desc Graph) (inside J S d) (inside J T d) → try J S d ≡ try J T d →
            sift J S a ≡ sift J T a → LeftSame (Alts Graph) (narrow_any J S (d or a)) (narrow_any J T (d or a))
        go fail c i t r = lone_go (inside J S d) (inside J T d) i
        go (e or b) c i t r =
            let x : Alts Graph = elim (try J S d) [ none ↦ sift J S (e or b) | some f ↦ f or sift J S (e or b) ] in
            let y : Alts Graph = elim (try J T d) [ none ↦ sift J T (e or b) | some f ↦ f or sift J T (e or b) ] in
            let h : x ≡ y = sift_go (try J S d) (try J T d) t (sift J S (e or b)) (sift J T (e or b)) r in
            let p = sift_ok 𝓛 (d or (e or b)) c S s.fine₁.1 in
            subst (λ (z : Alts Graph). LeftSame (Alts Graph) (settle J S x) (settle J T z)) h
            (settle_same S T x (part_any_can 𝓛 (d or (e or b)) x p.part c) s)

    inside_same : (d : Desc Graph) → Can 𝓛 d → (S T : List Graph) → Same S T → LeftSame (Desc Graph) (inside J S d) (inside J T d)
    inside_same (desc g ds) c S T s = in_go g (narrow J S ds) (narrow J T ds) (narrow_same ds c.1 S T s)

    sift_same : (a : Alts Graph) → CanAny 𝓛 a → (S T : List Graph) → Same S T → sift J S a ≡ sift J T a
    sift_same fail c S T s = refl
    sift_same (d or a) c S T s = sift_go (try J S d) (try J T d) (try_same d c.0 S T s) (sift J S a) (sift J T a)
        (sift_same a c.1 S T s)
