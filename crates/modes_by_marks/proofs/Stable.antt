-- Stable descriptions: what is left of a description when alternatives are dropped, and when nothing more has to be.
-- Assumes nothing.
use mathlib.Core.Path.{◌≡◌, refl, ap₂, ◌∙◌, subst}
use mathlib.Core.Logic.{◌⊎◌, inl, inr}
use mathlib.Core.List.Memᴰ
use mathlib.Core.List.{[], ◌∷◌, ◌++◌, List}
use Prim.Native.Nat.{◌≤◌, ◌<◌}
use native.Mathlib.Omega.{arith}
use Rattle.descriptions.specs.Descr.{Alts, Desc, Disjs, ◌and◌, ◌or◌, desc, end, fail}
use Rattle.descriptions.specs.Modes.{size, size_all, size_any}
use Rattle.descriptions.proofs.Laws.{Laws, Within}
use Rattle.descriptions.proofs.Mean.{Can, CanAll, CanAny, Fine, canon_append, fine_append, in_l, in_r, within_both}
use Rattle.descriptions.proofs.Live.{Agrees}
use Rattle.modes_by_marks.specs.Certain.{flat, sure, sure_any}
use Rattle.modes_by_marks.proofs.Entail.{SaysAll, agrees_says, canon_in, says_append, says_more, says_within, w_cons, w_left}
use Rattle.modes_by_marks.proofs.Entail.{w_right, w_self, w_tail}
use Rattle.descriptions.specs.Joining.{Joining}
use Rattle.descriptions.specs.Canonical.{All}

module _ {Graph : Type 0} where
  -- Part d e: e is d with alternatives dropped
  abbrev mutual
    pub Part : Desc Graph → Desc Graph → Type 0
    Part (desc g ds) (desc h es) = (g ≡ h) × PartAll ds es

    pub PartAll : Disjs Graph → Disjs Graph → Type 0
    PartAll end end = Unit {0}
    PartAll end (b and es) = ⊥
    PartAll (a and ds) end = ⊥
    PartAll (a and ds) (b and es) = PartAny a b × PartAll ds es

    pub PartAny : Alts Graph → Alts Graph → Type 0
    PartAny fail fail = Unit {0}
    PartAny fail (e or b) = ⊥
    PartAny (d or a) fail = Unit {0}
    PartAny (d or a) (e or b) = (Part d e × PartAny a b) ⊎ PartAny a (e or b)

  mutual
    pub part_trans : (d e f : Desc Graph) → Part d e → Part e f → Part d f
    part_trans (desc g ds) (desc h es) (desc k fs) p q = (p.0 ∙ q.0, part_all_trans ds es fs p.1 q.1)

    pub part_all_trans : (ds es fs : Disjs Graph) → PartAll ds es → PartAll es fs → PartAll ds fs
    part_all_trans end end end p q = tt
    part_all_trans end end (c and fs) p q = absurd q
    part_all_trans end (b and es) fs p q = absurd p
    part_all_trans (a and ds) end fs p q = absurd p
    part_all_trans (a and ds) (b and es) end p q = absurd q
    part_all_trans (a and ds) (b and es) (c and fs) p q = (part_any_trans a b c p.0 q.0, part_all_trans ds es fs p.1 q.1)

    pub part_any_trans : (a b c : Alts Graph) → PartAny a b → PartAny b c → PartAny a c
    part_any_trans fail fail fail p q = tt
    part_any_trans fail fail (f or c) p q = absurd q
    part_any_trans fail (e or b) c p q = absurd p
    part_any_trans (d or a) fail fail p q = tt
    part_any_trans (d or a) fail (f or c) p q = absurd q
    part_any_trans (d or a) (e or b) fail p q = tt
    part_any_trans (d or a) (e or b) (f or c) (inl p) (inl q) = inl (part_trans d e f p.0 q.0, part_any_trans a b c p.1 q.1)
    part_any_trans (d or a) (e or b) (f or c) (inl p) (inr q) = inr (part_any_trans a b (f or c) p.1 q)
    part_any_trans (d or a) (e or b) (f or c) (inr p) q = inr (part_any_trans a (e or b) (f or c) p q)

  -- a part is smaller, or the same
  mutual
    unfolding size

    pub part_size : (d e : Desc Graph) → Part d e → (size e ≤ size d) × (size d ≤ size e → d ≡ e)
    part_size (desc g ds) (desc h es) p = let q = part_all_size ds es p.1 in let l = q.0 in
        (omega arith, λ k. ap₂ {C = Desc Graph} desc p.0 (q.1 (omega arith)))

    pub part_all_size : (ds es : Disjs Graph) → PartAll ds es → (size_all es ≤ size_all ds) × (size_all ds ≤ size_all es → ds ≡ es)
    part_all_size end end p = (omega arith, λ k. refl)
    part_all_size end (b and es) p = absurd p
    part_all_size (a and ds) end p = absurd p
    part_all_size (a and ds) (b and es) p =
        let q = part_any_size a b p.0 in let r = part_all_size ds es p.1 in
        let l = q.0 in let m = r.0 in
        (omega arith, λ k. ap₂ {C = Disjs Graph} ◌and◌ (q.1 (omega arith)) (r.1 (omega arith)))

    pub part_any_size : (a b : Alts Graph) → PartAny a b → (size_any b ≤ size_any a) × (size_any a ≤ size_any b → a ≡ b)
    part_any_size fail fail p = (omega arith, λ k. refl)
    part_any_size fail (e or b) p = absurd p
    part_any_size (d or a) fail p = (omega arith, λ k. absurd (omega (arith, some_size d)))
    part_any_size (d or a) (e or b) (inl p) =
        let q = part_size d e p.0 in let r = part_any_size a b p.1 in
        let l = q.0 in let m = r.0 in
        (omega arith, λ k. ap₂ {C = Alts Graph} ◌or◌ (q.1 (omega arith)) (r.1 (omega arith)))
    part_any_size (d or a) (e or b) (inr p) =
        let r = part_any_size a (e or b) p in let m = r.0 in
        (omega arith, λ k. absurd (omega (arith, some_size d)))

    pub some_size : (d : Desc Graph) → 0 < size d
    some_size (desc g ds) = omega arith

  pub part_both : (d e : Desc Graph) → Part d e → Part e d → d ≡ e
  part_both d e p q = (part_size d e p).1 (part_size e d q).0

module _ {Graph : Type 0} (J : Joining Graph) where
  -- stable under S: each alternative that does not stand alone agrees with S and all that stands for certain around it, and is itself
  -- stable there; no disjunction is empty
  abbrev mutual
    pub Stable : List Graph → Desc Graph → Type 0
    Stable S (desc g ds) = Agrees J (S ++ g ∷ sure ds) × StableAll (S ++ g ∷ sure ds) ds

    pub StableIn : List Graph → Desc Graph → Type 0
    StableIn S (desc g ds) = StableAll S ds

    pub StableAll : List Graph → Disjs Graph → Type 0
    StableAll S end = Unit {0}
    StableAll S (a and ds) = StableSome S a × StableAll S ds

    pub StableSome : List Graph → Alts Graph → Type 0
    StableSome S fail = ⊥
    StableSome S (d or a) = elim a [ fail ↦ StableIn S d | e or b ↦ Stable S d × StableEach S a ]

    pub StableEach : List Graph → Alts Graph → Type 0
    StableEach S fail = Unit {0}
    StableEach S (d or a) = Stable S d × StableEach S a

  -- the best that is left of d under S: nothing, where no part is stable; else the greatest stable part
  pub record Best (S : List Graph) (d e : Desc Graph) : Type 0 where
    pub part : Part d e
    pub stable : Stable S e
    pub greatest : (f : Desc Graph) → Part d f → Stable S f → Part e f

  abbrev pub Hopeless : List Graph → Desc Graph → Type 0
  Hopeless S d = (f : Desc Graph) → Part d f → Stable S f → ⊥

  pub best_one : (S : List Graph) (d e f : Desc Graph) → Best S d e → Best S d f → e ≡ f
  best_one S d e f p q = part_both e f (p.greatest f q.part q.stable) (q.greatest e p.part p.stable)

  -- what stands for certain does so in every stable part
  mutual
    pub flat_part : (d e : Desc Graph) (S : List Graph) → Part d e → StableIn S e → Within (flat d) (flat e)
    flat_part (desc g ds) (desc h es) S p s =
        w_cons g (sure ds) (h ∷ sure es) (Memᴰ.head p.0) (w_tail h (sure ds) (sure es) (sure_part ds es S p.1 s))

    pub sure_part : (ds es : Disjs Graph) (S : List Graph) → PartAll ds es → StableAll S es → Within (sure ds) (sure es)
    sure_part end end S p s = w_self []
    sure_part end (b and es) S p s = absurd p
    sure_part (a and ds) end S p s = absurd p
    sure_part (a and ds) (b and es) S p s =
        within_both (sure_any a) (sure ds) (sure_any b ++ sure es)
        (w_left (sure_any a) (sure_any b) (sure es) (sure_any_part a b S p.0 s.0))
        (w_right (sure ds) (sure_any b) (sure es) (sure_part ds es S p.1 s.1))

    pub sure_any_part : (a b : Alts Graph) (S : List Graph) → PartAny a b → StableSome S b → Within (sure_any a) (sure_any b)
    sure_any_part fail b S p s = λ g m. absurd (Memᴰ.not-nil m)
    sure_any_part (d or fail) fail S p s = absurd s
    sure_any_part (d or fail) (e or fail) S (inl p) s = flat_part d e S p.0 s
    sure_any_part (d or fail) (e or fail) S (inr p) s = absurd p
    sure_any_part (d or fail) (e or (f or b)) S (inl p) s = absurd p.1
    sure_any_part (d or fail) (e or (f or b)) S (inr p) s = absurd p
    sure_any_part (d or (c or a)) b S p s = λ g m. absurd (Memᴰ.not-nil m)

module _ {Graph : Type 0} {J : Joining Graph} (𝓛 : Laws J) where
  open 𝓛 use {Canonical}

  mutual
    pub flat_can : (d : Desc Graph) → Can 𝓛 d → All Canonical (flat d)
    flat_can (desc g ds) c = (c.0, sure_can ds c.1)

    pub sure_can : (ds : Disjs Graph) → CanAll 𝓛 ds → All Canonical (sure ds)
    sure_can end c = tt
    sure_can (a and ds) c = canon_append 𝓛 (sure_any a) (sure ds) (sure_any_can a c.0) (sure_can ds c.1)

    pub sure_any_can : (a : Alts Graph) → CanAny 𝓛 a → All Canonical (sure_any a)
    sure_any_can fail c = tt
    sure_any_can (d or fail) c = flat_can d c.0
    sure_any_can (d or (e or b)) c = tt

  mutual
    pub part_can : (d e : Desc Graph) → Part d e → Can 𝓛 d → Can 𝓛 e
    part_can (desc g ds) (desc h es) p c = (subst Canonical p.0 c.0, part_all_can ds es p.1 c.1)

    pub part_all_can : (ds es : Disjs Graph) → PartAll ds es → CanAll 𝓛 ds → CanAll 𝓛 es
    part_all_can end end p c = tt
    part_all_can end (b and es) p c = absurd p
    part_all_can (a and ds) end p c = absurd p
    part_all_can (a and ds) (b and es) p c = (part_any_can a b p.0 c.0, part_all_can ds es p.1 c.1)

    pub part_any_can : (a b : Alts Graph) → PartAny a b → CanAny 𝓛 a → CanAny 𝓛 b
    part_any_can fail fail p c = tt
    part_any_can fail (e or b) p c = absurd p
    part_any_can (d or a) fail p c = tt
    part_any_can (d or a) (e or b) (inl p) c = (part_can d e p.0 c.0, part_any_can a b p.1 c.1)
    part_any_can (d or a) (e or b) (inr p) c = part_any_can a (e or b) p c.1

  -- under less, stable still
  pub says_left : (S T X : List Graph) → Fine 𝓛 S → Fine 𝓛 T → All Canonical X → SaysAll 𝓛 S T → SaysAll 𝓛 (S ++ X) (T ++ X)
  says_left S T X fs ft fx s = let fsx = fine_append 𝓛 S X fs fx in
      says_append 𝓛 (S ++ X) T X (λ g m. says_more 𝓛 S (S ++ X) g fs fsx (canon_in 𝓛 T ft.1 g m) (in_l S X) (s g m))
      (says_within 𝓛 (S ++ X) X fsx (in_r S X))

  mutual
    pub stable_less : (d : Desc Graph) (S T : List Graph) → Can 𝓛 d → Fine 𝓛 S → Fine 𝓛 T → SaysAll 𝓛 S T → Stable J S d → Stable J T d
    stable_less (desc g ds) S T c fs ft s k =
        let fx : All Canonical (g ∷ sure ds) = (c.0, sure_can ds c.1) in
        let s' = says_left S T (g ∷ sure ds) fs ft fx s in
        let fS = fine_append 𝓛 S (g ∷ sure ds) fs fx in
        let fT = fine_append 𝓛 T (g ∷ sure ds) ft fx in (
          agrees_says 𝓛 (S ++ g ∷ sure ds) (T ++ g ∷ sure ds) fS fT s' k.0,
          stable_all_less ds (S ++ g ∷ sure ds) (T ++ g ∷ sure ds) c.1 fS fT s' k.1,
        )

    pub stable_in_less : (d : Desc Graph) (S T : List Graph) → Can 𝓛 d → Fine 𝓛 S → Fine 𝓛 T → SaysAll 𝓛 S T → StableIn J S d →
        StableIn J T d
    stable_in_less (desc g ds) S T c fs ft s k = stable_all_less ds S T c.1 fs ft s k

    pub stable_all_less : (ds : Disjs Graph) (S T : List Graph) → CanAll 𝓛 ds → Fine 𝓛 S → Fine 𝓛 T → SaysAll 𝓛 S T → StableAll J S ds →
        StableAll J T ds
    stable_all_less end S T c fs ft s k = tt
    stable_all_less (a and ds) S T c fs ft s k =
        (stable_some_less a S T c.0 fs ft s k.0, stable_all_less ds S T c.1 fs ft s k.1)

    pub stable_some_less : (a : Alts Graph) (S T : List Graph) → CanAny 𝓛 a → Fine 𝓛 S → Fine 𝓛 T → SaysAll 𝓛 S T → StableSome J S a →
        StableSome J T a
    stable_some_less fail S T c fs ft s k = absurd k
    stable_some_less (d or a) S T c fs ft s k =
        go a (λ x. stable_less d S T c.0 fs ft s x) (λ x. stable_in_less d S T c.0 fs ft s x)
        (λ x. stable_each_less a S T c.1 fs ft s x) k
      where
        go : (a : Alts Graph) → (Stable J S d → Stable J T d) → (StableIn J S d → StableIn J T d) → (StableEach J S a → StableEach J T a) →
            StableSome J S (d or a) → StableSome J T (d or a)
        go fail f g h k = g k
        go (e or b) f g h k = (f k.0, h k.1)

    pub stable_each_less : (a : Alts Graph) (S T : List Graph) → CanAny 𝓛 a → Fine 𝓛 S → Fine 𝓛 T → SaysAll 𝓛 S T → StableEach J S a →
        StableEach J T a
    stable_each_less fail S T c fs ft s k = tt
    stable_each_less (d or a) S T c fs ft s k = (stable_less d S T c.0 fs ft s k.0, stable_each_less a S T c.1 fs ft s k.1)

  -- one that stands alone is stable by itself
  pub stable_alone : (d : Desc Graph) (S T : List Graph) → Can 𝓛 d → Fine 𝓛 S → Fine 𝓛 T → SaysAll 𝓛 S T → Agrees J S → Within (flat d) S →
      StableIn J S d → Stable J T d
  stable_alone (desc g ds) S T c fs ft s a w k =
      let fx : All Canonical (g ∷ sure ds) = (c.0, sure_can ds c.1) in
      let fT = fine_append 𝓛 T (g ∷ sure ds) ft fx in
      let s' : SaysAll 𝓛 S (T ++ g ∷ sure ds) = says_append 𝓛 S T (g ∷ sure ds) s (says_within 𝓛 S (g ∷ sure ds) fs w) in
      (agrees_says 𝓛 S (T ++ g ∷ sure ds) fs fT s' a, stable_all_less ds S (T ++ g ∷ sure ds) c.1 fs fT s' k)

  pub stable_each : (a : Alts Graph) (S T : List Graph) → CanAny 𝓛 a → Fine 𝓛 S → Fine 𝓛 T → SaysAll 𝓛 S T → Agrees J S →
      Within (sure_any a) S → StableSome J S a → StableEach J T a
  stable_each fail S T c fs ft s a w k = tt
  stable_each (d or fail) S T c fs ft s a w k = (stable_alone d S T c.0 fs ft s a w k, tt)
  stable_each (d or (e or b)) S T c fs ft s a w k = stable_each_less (d or (e or b)) S T c fs ft s k
