-- Descriptions that can be folded: where all that is certain agrees, at every depth, folding joins exactly that.
-- Assumes nothing.
use mathlib.Core.Path.{◌≡◌, refl, ap, sym, ◌∙◌, subst}
use mathlib.Core.Option.{Option, some}
use mathlib.Core.List.Memᴰ
use mathlib.Core.List.{[], ◌∷◌, ◌++◌, List}
use Prim.Native.Nat.{ℕ}
use native.Mathlib.Omega.{arith}
use Rattle.descriptions.specs.Descr.{Alts, Desc, Disjs, ◌and◌, ◌or◌, ◌then◌, desc, end, fail}
use Rattle.descriptions.specs.Modes.{Round, after, fold, fold_all, fold_any, folded_in, glue, in_place, Glues}
use Rattle.descriptions.proofs.Laws.{Laws, Within}
use Rattle.descriptions.proofs.Mean.{Alike, Can, CanAll, CanAny, Fine, fine_append, glue_alike, glue_canonical, glue_same, glues_of}
use Rattle.descriptions.proofs.Mean.{in_l, in_r}
use Rattle.descriptions.proofs.Full.{fold_all_ok}
use Rattle.descriptions.proofs.Live.{Agrees}
use Rattle.modes_by_marks.specs.Certain.{flat, sure, sure_any}
use Rattle.modes_by_marks.proofs.Entail.{Says, SaysAll, agrees_says, fine_cons, join_both, says_append, says_cons, says_cut}
use Rattle.modes_by_marks.proofs.Entail.{says_first, says_here, says_in, says_none, says_second, says_stands, says_there, says_trans}
use Rattle.modes_by_marks.proofs.Entail.{says_within, stands_says, w_right, w_self, w_tail, w_trans}
use Rattle.modes_by_marks.proofs.Stable.{Stable, StableAll, StableEach, stable_each, sure_can}
use Rattle.modes_by_marks.specs.Sane.{Sane, SaneAll, SaneAny}
use Rattle.descriptions.specs.Joining.{Joining}
use Rattle.descriptions.specs.Canonical.{All}

module _ {Graph : Type 0} where
  -- something is folded in exactly where something is certain
  pub flat_some : (d : Desc Graph) (l : List Graph) → flat d ++ l ≡ [] → ⊥
  flat_some (desc g ds) l e = let z : ◌≡◌ {A = ℕ} 0 1 = cc in omega arith

module _ {Graph : Type 0} (J : Joining Graph) where
  pub agrees_glues : (g : Graph) (hs : List Graph) → Agrees J (g ∷ hs) → Glues J g hs
  agrees_glues g hs a = glues_of J g hs a.0 a.1

  -- folding joins what stands for certain
  abbrev pub rest : Desc Graph → Disjs Graph
  rest (desc g ds) = (fold_all J ds).left

  -- its graph with all that is certain folded in
  abbrev pub glued : Desc Graph → Option Graph
  glued (desc g ds) = glue J g (sure ds)

  abbrev pub Shape : Desc Graph → Type 0
  Shape d = (k : Graph) × (glued d ≡ some k) × (fold J d ≡ desc k (rest d))

  -- an alternative alone, folded
  pub lone_in_place : (d : Desc Graph) (r : Round Graph) (k : Graph) → fold J d ≡ desc k (rest d) →
      in_place J (fold J d or fail) r ≡ record { folded = k ∷ r.folded; left = rest d then r.left }
  lone_in_place d r k e = ap (λ (z : Desc Graph). in_place J (z or fail) r) e

  pub lone_after : (d : Desc Graph) (r : Round Graph) (k : Graph) → fold J d ≡ desc k (rest d) →
      after J (fold J d or fail) r ≡ some (record { folded = k ∷ r.folded; left = rest d then r.left })
  lone_after d r k e = ap (λ (z : Desc Graph). after J (z or fail) r) e

  place_some : (d : Desc Graph) (r : Round Graph) → (in_place J (d or fail) r).folded ≡ [] → ⊥
  place_some (desc g ds) r e = let z : ◌≡◌ {A = ℕ} 0 1 = cc in omega arith

  fold_none : (ds : Disjs Graph) → (fold_all J ds).folded ≡ [] → sure ds ≡ []
  unfolding fold
  fold_none end e = refl
  fold_none (fail and ds) e = fold_none ds e
  fold_none ((d or fail) and ds) e = absurd (place_some (fold J d) (fold_all J ds) e)
  fold_none ((d or (x or b)) and ds) e = fold_none ds e

  none_fold : (ds : Disjs Graph) → sure ds ≡ [] → (fold_all J ds).folded ≡ []
  unfolding fold
  none_fold end e = refl
  none_fold (fail and ds) e = none_fold ds e
  none_fold ((d or fail) and ds) e = absurd (flat_some d (sure ds) e)
  none_fold ((d or (x or b)) and ds) e = none_fold ds e

module _ {Graph : Type 0} {J : Joining Graph} (𝓛 : Laws J) where
  open J use {join}
  open 𝓛 use {Canonical}

  mutual
    pub stable_sane : (d : Desc Graph) (S : List Graph) → Can 𝓛 d → Fine 𝓛 S → Stable J S d → Sane J d
    stable_sane (desc g ds) S c f s =
        let fx : All Canonical (g ∷ sure ds) = (c.0, sure_can 𝓛 ds c.1) in
        let fS = fine_append 𝓛 S (g ∷ sure ds) f fx in (
          agrees_glues J g (sure ds) (agrees_says 𝓛 (S ++ g ∷ sure ds) (g ∷ sure ds) fS (fine_cons 𝓛 g (sure ds) c.0 fx.1)
              (says_within 𝓛 (S ++ g ∷ sure ds) (g ∷ sure ds) fS (in_r S (g ∷ sure ds))) s.0),
          stable_all_sane ds (S ++ g ∷ sure ds) c.1 fS s.0
              (w_right (sure ds) S (g ∷ sure ds) (w_tail g (sure ds) (sure ds) (w_self (sure ds)))) s.1,
        )

    pub stable_all_sane : (ds : Disjs Graph) (S : List Graph) → CanAll 𝓛 ds → Fine 𝓛 S → Agrees J S → Within (sure ds) S →
        StableAll J S ds → SaneAll J ds
    stable_all_sane end S c f a w s = tt
    stable_all_sane (b and ds) S c f a w s = (
      stable_each_sane b S c.0 f (stable_each 𝓛 b S S c.0 f f (says_within 𝓛 S S f (w_self S)) a
          (w_trans (sure_any b) (sure_any b ++ sure ds) S (in_l (sure_any b) (sure ds)) w) s.0),
      stable_all_sane ds S c.1 f a (w_trans (sure ds) (sure_any b ++ sure ds) S (in_r (sure_any b) (sure ds)) w) s.1,
    )

    pub stable_each_sane : (a : Alts Graph) (S : List Graph) → CanAny 𝓛 a → Fine 𝓛 S → StableEach J S a → SaneAny J a
    stable_each_sane fail S c f s = tt
    stable_each_sane (d or a) S c f s = (stable_sane d S c.0 f s.0, stable_each_sane a S c.1 f s.1)

  pub fine_flat : (d : Desc Graph) → Can 𝓛 d → Fine 𝓛 (flat d)
  fine_flat (desc g ds) c = fine_cons 𝓛 g (sure ds) c.0 (sure_can 𝓛 ds c.1)

  pub glued_canonical : (d : Desc Graph) → Can 𝓛 d → (k : Graph) → glued J d ≡ some k → Canonical k
  glued_canonical (desc g ds) p k e = glue_canonical 𝓛 g p.0 (sure ds) (sure_can 𝓛 ds p.1) k e

  glued_alike : (d : Desc Graph) → Can 𝓛 d → (k : Graph) → glued J d ≡ some k → Alike 𝓛 (k ∷ []) (flat d)
  glued_alike (desc g ds) p k e = glue_alike 𝓛 g p.0 (sure ds) (sure_can 𝓛 ds p.1) k e

  pub graph_says : (d : Desc Graph) (c : List Graph) → Can 𝓛 d → Fine 𝓛 c → (k : Graph) → glued J d ≡ some k → Says 𝓛 c k →
      SaysAll 𝓛 c (flat d)
  graph_says d c p f k e s =
      let ff = fine_flat d p in
      says_trans 𝓛 c (k ∷ []) (flat d) f (fine_cons 𝓛 k [] (glued_canonical d p k e) tt) ff.1
      (says_cons 𝓛 c k [] s (λ g m. absurd (Memᴰ.not-nil m))) (stands_says 𝓛 (flat d) ff k (glued_alike d p k e))

  pub says_graph : (d : Desc Graph) (c : List Graph) → Can 𝓛 d → Fine 𝓛 c → (k : Graph) → glued J d ≡ some k → SaysAll 𝓛 c (flat d) →
      Says 𝓛 c k
  says_graph d c p f k e s =
      let ff = fine_flat d p in
      says_cut 𝓛 c (flat d) k f ff (glued_canonical d p k e) s (says_stands 𝓛 (flat d) ff k (glued_canonical d p k e) (glued_alike d p k e))

  mutual
    unfolding fold folded_in

    pub shape : (d : Desc Graph) → Can 𝓛 d → Sane J d → Shape J d
    shape (desc g ds) c s =
        let fs : All Canonical (fold_all J ds).folded = (fold_all_ok 𝓛 ds c.1).0 in
        let fa : Fine 𝓛 (g ∷ (fold_all J ds).folded) = fine_cons 𝓛 g (fold_all J ds).folded c.0 fs in
        let fb : Fine 𝓛 (g ∷ sure ds) = fine_cons 𝓛 g (sure ds) c.0 (sure_can 𝓛 ds c.1) in
        let a = g ∷ (fold_all J ds).folded in
        let b = g ∷ sure ds in
        let e : join a ≡ join b = join_both 𝓛 a b fa fb
        (says_cons 𝓛 a g (sure ds) (says_in 𝓛 a g fa c.0 (Memᴰ.head refl))
        (folded_says ds c.1 s.1 a fa (says_within 𝓛 a (fold_all J ds).folded fa (λ x m. Memᴰ.tail m))))
        (says_cons 𝓛 b g (fold_all J ds).folded (says_in 𝓛 b g fb c.0 (Memᴰ.head refl))
        (says_folded ds c.1 s.1 b fb (says_within 𝓛 b (sure ds) fb (λ x m. Memᴰ.tail m)))) in (
          s.0.0,
          s.0.1,
          ap (folded_in g (fold_all J ds))
              (glue_same J g (fold_all J ds).folded (sure ds) (fold_none J ds) (none_fold J ds) e ∙ s.0.1),
        )

    pub folded_says : (ds : Disjs Graph) → CanAll 𝓛 ds → SaneAll J ds → (c : List Graph) → Fine 𝓛 c → SaysAll 𝓛 c (fold_all J ds).folded →
        SaysAll 𝓛 c (sure ds)
    folded_says end p s c f h = h
    folded_says (a and ds) p s c f h =
        let q = any_folded a p.0 s.0 (fold_all J ds) c f h in
        says_append 𝓛 c (sure_any a) (sure ds) q.0 (folded_says ds p.1 s.1 c f q.1)

    pub says_folded : (ds : Disjs Graph) → CanAll 𝓛 ds → SaneAll J ds → (c : List Graph) → Fine 𝓛 c → SaysAll 𝓛 c (sure ds) →
        SaysAll 𝓛 c (fold_all J ds).folded
    says_folded end p s c f h = h
    says_folded (a and ds) p s c f h =
        any_says a p.0 s.0 (fold_all J ds) c f (says_first 𝓛 c (sure_any a) (sure ds) h)
        (says_folded ds p.1 s.1 c f (says_second 𝓛 c (sure_any a) (sure ds) h))

    any_folded : (a : Alts Graph) → CanAny 𝓛 a → SaneAny J a → (r : Round Graph) (c : List Graph) → Fine 𝓛 c →
        SaysAll 𝓛 c (in_place J (fold_any J a) r).folded → SaysAll 𝓛 c (sure_any a) × SaysAll 𝓛 c r.folded
    any_folded fail p s r c f h = (says_none 𝓛 c, h)
    any_folded (d or fail) p s r c f h =
        let (k, e, q) = shape d p.0 s.0 in
        let h' : SaysAll 𝓛 c (k ∷ r.folded) = subst (λ (z : Round Graph). SaysAll 𝓛 c z.folded) (lone_in_place J d r k q) h in
        (graph_says d c p.0 f k e (says_here 𝓛 c k r.folded h'), says_there 𝓛 c k r.folded h')
    any_folded (d or (e or b)) p s r c f h = (says_none 𝓛 c, h)

    any_says : (a : Alts Graph) → CanAny 𝓛 a → SaneAny J a → (r : Round Graph) (c : List Graph) → Fine 𝓛 c → SaysAll 𝓛 c (sure_any a) →
        SaysAll 𝓛 c r.folded → SaysAll 𝓛 c (in_place J (fold_any J a) r).folded
    any_says fail p s r c f h l = l
    any_says (d or fail) p s r c f h l =
        let (k, e, q) = shape d p.0 s.0 in
        subst (λ (z : Round Graph). SaysAll 𝓛 c z.folded) (sym (lone_in_place J d r k q))
        (says_cons 𝓛 c k r.folded (says_graph d c p.0 f k e h) l)
    any_says (d or (e or b)) p s r c f h l = l
