-- The passes come to the greatest stable part: each keeps it, and one that drops nothing has reached it.
-- Assumes nothing.
use mathlib.Core.Path.{◌≡◌, refl, ◌∙◌, subst, ap}
use mathlib.Core.Logic.{inl, inr}
use mathlib.Core.Bool.{Bool, true, false}
use mathlib.Core.Option.{Option, none, some}
use mathlib.Core.List.Memᴰ
use mathlib.Core.List.{[], ◌∷◌, ◌++◌, List}
use Prim.Native.Nat.{ℕ, zero, suc, ◌≤◌}
use native.Mathlib.Omega.{arith}
use lib.Dec.{eqb}
use Rattle.descriptions.specs.Descr.{Alts, Desc, Disjs, ◌and◌, ◌or◌, agree, answers, desc, end, fail}
use Rattle.descriptions.specs.Modes.{size, size_all, size_any}
use Rattle.descriptions.proofs.Tests.{Test, differ, equal, test}
use Rattle.descriptions.proofs.Laws.{Laws, Within}
use Rattle.descriptions.proofs.Mean.{Can, CanAll, CanAny, Fine, fine_append, in_l, in_r, within_both}
use Rattle.descriptions.proofs.Quick.{nil_holds}
use Rattle.descriptions.proofs.Live.{Agrees, not_none}
use Rattle.descriptions.proofs.Modes.{join_order}
use Rattle.modes_by_marks.specs.Certain.{flat, sure, sure_any}
use Rattle.modes_by_marks.proofs.Entail.{Says, SaysAll, agrees_says, canon_in, fine_before, fine_cons, says_append, says_cons}
use Rattle.modes_by_marks.proofs.Entail.{says_more, says_within, w_cons, w_right, w_self, w_tail, w_trans}
use Rattle.modes_by_marks.proofs.Stable.{Best, Hopeless, Part, PartAll, PartAny, Stable, StableAll, StableEach, StableIn, StableSome}
use Rattle.modes_by_marks.proofs.Stable.{best_one, flat_can, part_all_can, part_all_size, part_any_can, part_any_size, part_can}
use Rattle.modes_by_marks.proofs.Stable.{part_size, part_trans, some_size, stable_all_less, stable_each, sure_any_part, sure_can}
use Rattle.modes_by_marks.proofs.Stable.{sure_part}
use Rattle.modes_by_marks.proofs.Greatest.{drop_part, part_fail}
use Rattle.modes_by_marks.proofs.Tidy.{with_part}
use Rattle.modes_by_marks.proofs.Dropping.{Left, inside, narrow, narrow_any, passes, settle, sift, try}
use Rattle.descriptions.specs.Joining.{Joining}
use Rattle.descriptions.specs.Canonical.{All}

module _ {Graph : Type 0} (J : Joining Graph) where
  open J use {join, nil}

  pub data Agreeing (c : List Graph) : Bool → Type 0 where
    can : Agrees J c → Agreeing c true
    cannot : join c ≡ none → Agreeing c false

  pub agreeing_view : (c : List Graph) → Agreeing c (agree J c)
  unfolding agree
  agreeing_view c = go (join c) refl
    where
      go : (o : Option Graph) → join c ≡ o → Agreeing c (answers o)
      go none e = cannot e
      go (some K) e = can (K, e)

  abbrev pub Passed : Desc Graph → Option (Desc Graph) → Type 0
  Passed d none = Hopeless J (nil ∷ []) d
  Passed d (some e) = Best J (nil ∷ []) d e

  -- there is one such outcome
  pub passed_one : (d : Desc Graph) (o q : Option (Desc Graph)) → Passed d o → Passed d q → o ≡ q
  passed_one d none none p q = refl
  passed_one d none (some f) p q = absurd (p f q.part q.stable)
  passed_one d (some e) none p q = absurd (q e p.part p.stable)
  passed_one d (some e) (some f) p q = ap some (best_one J (nil ∷ []) d e f p q)

module _ {Graph : Type 0} {J : Joining Graph} (𝓛 : Laws J) where
  open J use {nil}
  open 𝓛 use {Canonical, nil_canonical}

  -- what a step under S may do: it drops only what no stable part under more than S can keep, and if it drops nothing, all was stable
  pub record TrySome (S : List Graph) (d e : Desc Graph) : Type 0 where
    pub part : Part d e
    pub greatest : (f : Desc Graph) → Part d f → (X : List Graph) → Fine 𝓛 X → SaysAll 𝓛 X S → Stable J X f → Part e f
    pub still : size d ≤ size e → Stable J S d

  abbrev pub Tries : List Graph → Desc Graph → Option (Desc Graph) → Type 0
  Tries S d none = (f : Desc Graph) → Part d f → (X : List Graph) → Fine 𝓛 X → SaysAll 𝓛 X S → Stable J X f → ⊥
  Tries S d (some e) = TrySome S d e

  pub record NarrowSome (S : List Graph) (ds : Disjs Graph) (r : Left Graph (Disjs Graph)) : Type 0 where
    pub part : PartAll ds r.left
    pub fine : Fine 𝓛 r.stack
    pub greatest : (fs : Disjs Graph) → PartAll ds fs → (X : List Graph) → Fine 𝓛 X → SaysAll 𝓛 X S → Agrees J X → Within (sure fs) X →
        StableAll J X fs → PartAll r.left fs × SaysAll 𝓛 X r.stack
    pub still : size_all ds ≤ size_all r.left → StableAll J S ds × (r.stack ≡ S)

  abbrev pub Narrows : List Graph → Disjs Graph → Option (Left Graph (Disjs Graph)) → Type 0
  Narrows S ds none = (fs : Disjs Graph) → PartAll ds fs → (X : List Graph) → Fine 𝓛 X → SaysAll 𝓛 X S → Agrees J X → Within (sure fs) X →
      StableAll J X fs → ⊥
  Narrows S ds (some r) = NarrowSome S ds r

  pub record AnySome (S : List Graph) (a : Alts Graph) (r : Left Graph (Alts Graph)) : Type 0 where
    pub part : PartAny a r.left
    pub fine : Fine 𝓛 r.stack
    pub greatest : (c : Alts Graph) → PartAny a c → (X : List Graph) → Fine 𝓛 X → SaysAll 𝓛 X S → Agrees J X → Within (sure_any c) X →
        StableSome J X c → PartAny r.left c × SaysAll 𝓛 X r.stack
    pub still : size_any a ≤ size_any r.left → StableSome J S a × (r.stack ≡ S)

  abbrev pub Anys : List Graph → Alts Graph → Option (Left Graph (Alts Graph)) → Type 0
  Anys S a none = (c : Alts Graph) → PartAny a c → (X : List Graph) → Fine 𝓛 X → SaysAll 𝓛 X S → Agrees J X → Within (sure_any c) X →
      StableSome J X c → ⊥
  Anys S a (some r) = AnySome S a r

  pub record InSome (S : List Graph) (d : Desc Graph) (r : Left Graph (Desc Graph)) : Type 0 where
    pub part : Part d r.left
    pub fine : Fine 𝓛 r.stack
    pub greatest : (f : Desc Graph) → Part d f → (X : List Graph) → Fine 𝓛 X → SaysAll 𝓛 X S → Agrees J X → Within (flat f) X →
        StableIn J X f → Part r.left f × SaysAll 𝓛 X r.stack
    pub still : size d ≤ size r.left → StableIn J S d × (r.stack ≡ S)

  abbrev pub Ins : List Graph → Desc Graph → Option (Left Graph (Desc Graph)) → Type 0
  Ins S d none = (f : Desc Graph) → Part d f → (X : List Graph) → Fine 𝓛 X → SaysAll 𝓛 X S → Agrees J X → Within (flat f) X →
      StableIn J X f → ⊥
  Ins S d (some r) = InSome S d r

  pub record Sifts (S : List Graph) (a b : Alts Graph) : Type 0 where
    pub part : PartAny a b
    pub greatest : (c : Alts Graph) → PartAny a c → (X : List Graph) → Fine 𝓛 X → SaysAll 𝓛 X S → StableEach J X c → PartAny b c
    pub still : size_any a ≤ size_any b → StableEach J S a

  -- an alternative
  try_desc : (S : List Graph) → All Canonical S → (g : Graph) (ds : Disjs Graph) → Can 𝓛 (desc g ds) → (t : Bool) →
      Agreeing J (S ++ g ∷ sure ds) t → (o : Option (Left Graph (Disjs Graph))) → Narrows (S ++ g ∷ sure ds) ds o →
      Tries S (desc g ds) (elim t [ false ↦ none | true ↦ elim o [ none ↦ none | some r ↦ some (desc g r.left) ] ])
  unfolding size
  try_desc S cS g ds c t v o N = go t v o N
    where
      T : List Graph
      T = S ++ g ∷ sure ds

      fT : Fine 𝓛 T
      fT = fine_before 𝓛 S (g ∷ sure ds) cS (fine_cons 𝓛 g (sure ds) c.0 (sure_can 𝓛 ds c.1))

      fY : (X : List Graph) → Fine 𝓛 X → (es : Disjs Graph) → PartAll ds es → Fine 𝓛 (X ++ g ∷ sure es)
      fY X fX es p = fine_append 𝓛 X (g ∷ sure es) fX (c.0, sure_can 𝓛 es (part_all_can 𝓛 ds es p c.1))

      says_T : (X : List Graph) → Fine 𝓛 X → SaysAll 𝓛 X S → (es : Disjs Graph) → PartAll ds es → StableAll J (X ++ g ∷ sure es) es →
          SaysAll 𝓛 (X ++ g ∷ sure es) T
      says_T X fX x es p s =
          let Y = X ++ g ∷ sure es in
          let f = fY X fX es p in
          says_append 𝓛 Y S (g ∷ sure ds)
          (λ h m. says_more 𝓛 X Y h fX f (canon_in 𝓛 S cS h m) (in_l X (g ∷ sure es)) (x h m))
          (says_within 𝓛 Y (g ∷ sure ds) f
          (w_right (g ∷ sure ds) X (g ∷ sure es)
          (w_cons g (sure ds) (g ∷ sure es) (Memᴰ.head refl) (w_tail g (sure ds) (sure es) (sure_part J ds es Y p s)))))

      inY : (X : List Graph) (es : Disjs Graph) → Within (sure es) (X ++ g ∷ sure es)
      inY X es = w_right (sure es) X (g ∷ sure es) (w_tail g (sure es) (sure es) (w_self (sure es)))

      go : (t : Bool) → Agreeing J T t → (o : Option (Left Graph (Disjs Graph))) → Narrows T ds o →
          Tries S (desc g ds) (elim t [ false ↦ none | true ↦ elim o [ none ↦ none | some r ↦ some (desc g r.left) ] ])
      go false (cannot z) o N = with_part g ds (λ f. (X : List Graph) → Fine 𝓛 X → SaysAll 𝓛 X S → Stable J X f → ⊥) (λ es p X fX x s.
          not_none J T (agrees_says 𝓛 (X ++ g ∷ sure es) T (fY X fX es p) fT (says_T X fX x es p s.1) s.0) z)
      go true (can a) none N = with_part g ds (λ f. (X : List Graph) → Fine 𝓛 X → SaysAll 𝓛 X S → Stable J X f → ⊥) (λ es p X fX x s.
          N es p (X ++ g ∷ sure es) (fY X fX es p) (says_T X fX x es p s.1) s.0 (inY X es) s.1)
      go true (can a) (some r) N = record {
        part = (refl, N.part);
        greatest = with_part g ds (λ f. (X : List Graph) → Fine 𝓛 X → SaysAll 𝓛 X S → Stable J X f →
            Part (desc g r.left) f) (λ es p X fX x s.
            (refl, (N.greatest es p (X ++ g ∷ sure es) (fY X fX es p) (says_T X fX x es p s.1) s.0 (inY X es) s.1).0));
        still = λ l. (a, (N.still (omega arith)).0);
      }

  in_desc : (S : List Graph) (g : Graph) (ds : Disjs Graph) (o : Option (Left Graph (Disjs Graph))) → Narrows S ds o →
      Ins S (desc g ds) (elim o [ none ↦ none | some r ↦ some (record { stack = r.stack; left = desc g r.left }) ])
  unfolding size
  in_desc S g ds none N = with_part g ds (λ f. (X : List Graph) → Fine 𝓛 X → SaysAll 𝓛 X S → Agrees J X → Within (flat f) X →
      StableIn J X f → ⊥)
      (λ es p X fX x a w s. N es p X fX x a (w_trans (sure es) (g ∷ sure es) X (w_tail g (sure es) (sure es) (w_self (sure es))) w) s)
  in_desc S g ds (some r) N = record {
    part = (refl, N.part);
    fine = N.fine;
    greatest = with_part g ds (λ f. (X : List Graph) → Fine 𝓛 X → SaysAll 𝓛 X S → Agrees J X → Within (flat f) X → StableIn J X f →
        Part (desc g r.left) f × SaysAll 𝓛 X r.stack)
        (λ es p X fX x a w s. let q = N.greatest es p X fX x a
        (w_trans (sure es) (g ∷ sure es) X (w_tail g (sure es) (sure es) (w_self (sure es))) w) s in ((refl, q.0), q.1));
    still = λ l. N.still (omega arith);
  }

  narrow_more : (S : List Graph) (a : Alts Graph) (ds : Disjs Graph) (o : Option (Left Graph (Alts Graph))) → Anys S a o →
      (q : List Graph → Option (Left Graph (Disjs Graph))) → ((T : List Graph) → Fine 𝓛 T → Narrows T ds (q T)) →
      Narrows S (a and ds) (elim o [
        | none ↦ none
        | some r ↦ elim (q r.stack) [ none ↦ none | some u ↦ some (record { stack = u.stack; left = r.left and u.left }) ]
      ])
  unfolding size
  narrow_more S a ds none A q Q = none_more
    where
      none_more : Narrows S (a and ds) none
      none_more end p X fX x g w s = p
      none_more (b and es) p X fX x g w s =
          A b p.0 X fX x g (w_trans (sure_any b) (sure_any b ++ sure es) X (in_l (sure_any b) (sure es)) w) s.0
  narrow_more S a ds (some r) A q Q = go (q r.stack) (Q r.stack A.fine)
    where
      first : (b : Alts Graph) (es : Disjs Graph) → PartAny a b → (X : List Graph) → Fine 𝓛 X → SaysAll 𝓛 X S → Agrees J X →
          Within (sure_any b ++ sure es) X → StableSome J X b → PartAny r.left b × SaysAll 𝓛 X r.stack
      first b es p X fX x g w s = A.greatest b p X fX x g (w_trans (sure_any b) (sure_any b ++ sure es) X (in_l (sure_any b) (sure es)) w)
          s

      later : (b : Alts Graph) (es : Disjs Graph) (X : List Graph) → Within (sure_any b ++ sure es) X → Within (sure es) X
      later b es X w = w_trans (sure es) (sure_any b ++ sure es) X (in_r (sure_any b) (sure es)) w

      none_left : Narrows r.stack ds none → Narrows S (a and ds) none
      none_left N end p X fX x g w s = p
      none_left N (b and es) p X fX x g w s = N es p.1 X fX (first b es p.0 X fX x g w s.0).1 g (later b es X w) s.1

      best : (u : Left Graph (Disjs Graph)) → NarrowSome r.stack ds u → (fs : Disjs Graph) → PartAll (a and ds) fs → (X : List Graph) →
          Fine 𝓛 X → SaysAll 𝓛 X S → Agrees J X → Within (sure fs) X → StableAll J X fs →
          PartAll (r.left and u.left) fs × SaysAll 𝓛 X u.stack
      best u N end p X fX x g w s = absurd p
      best u N (b and es) p X fX x g w s =
          let y = first b es p.0 X fX x g w s.0 in
          let z = N.greatest es p.1 X fX y.1 g (later b es X w) s.1 in
          ((y.0, z.0), z.1)

      go : (o : Option (Left Graph (Disjs Graph))) → Narrows r.stack ds o →
          Narrows S (a and ds) (elim o [ none ↦ none | some u ↦ some (record { stack = u.stack; left = r.left and u.left }) ])
      go none N = none_left N
      go (some u) N = record {
        part = (A.part, N.part);
        fine = N.fine;
        greatest = best u N;
        still = λ l.
            let m = (part_any_size a r.left A.part).0 in
            let k = (part_all_size ds u.left N.part).0 in
            let y = A.still (omega arith) in
            let z = N.still (omega arith) in
            ((y.0, subst (λ (T : List Graph). StableAll J T ds) y.1 z.0), z.1 ∙ y.1);
      }

  sift_more : (S : List Graph) (d : Desc Graph) (a b : Alts Graph) (o : Option (Desc Graph)) → Tries S d o → Sifts S a b →
      Sifts S (d or a) (elim o [ none ↦ b | some e ↦ e or b ])
  unfolding size
  sift_more S d a b none T r = record {
    part = drop_part d a b r.part;
    greatest = none_greatest;
    still = λ l. absurd (omega (arith, some_size d, (part_any_size a b r.part).0));
  }
    where
      none_greatest : (c : Alts Graph) → PartAny (d or a) c → (X : List Graph) → Fine 𝓛 X → SaysAll 𝓛 X S → StableEach J X c → PartAny b c
      none_greatest fail p X fX x s = part_fail b
      none_greatest (f or c) (inl p) X fX x s = absurd (T f p.0 X fX x s.0)
      none_greatest (f or c) (inr p) X fX x s = r.greatest (f or c) p X fX x s
  sift_more S d a b (some e) T r = record {
    part = inl (T.part, r.part);
    greatest = some_greatest;
    still = λ l.
        let m = (part_size d e T.part).0 in
        let k = (part_any_size a b r.part).0 in
        (T.still (omega arith), r.still (omega arith));
  }
    where
      some_greatest : (c : Alts Graph) → PartAny (d or a) c → (X : List Graph) → Fine 𝓛 X → SaysAll 𝓛 X S → StableEach J X c →
          PartAny (e or b) c
      some_greatest fail p X fX x s = tt
      some_greatest (f or c) (inl p) X fX x s = inl (T.greatest f p.0 X fX x s.0, r.greatest c p.1 X fX x s.1)
      some_greatest (f or c) (inr p) X fX x s = inr (r.greatest (f or c) p X fX x s)

  -- an alternative that stands alone
  any_lone : (S : List Graph) (d : Desc Graph) (o : Option (Left Graph (Desc Graph))) → Ins S d o →
      Anys S (d or fail) (elim o [ none ↦ none | some r ↦ some (record { stack = r.stack; left = r.left or fail }) ])
  unfolding size
  any_lone S d o I = go o I
    where
      lone : (P : Alts Graph → Type 0) → ((f : Desc Graph) → Part d f → P (f or fail)) → P fail → (c : Alts Graph) → PartAny (d or fail) c →
          P c
      lone P h z fail p = z
      lone P h z (f or fail) (inl p) = h f p.0
      lone P h z (f or fail) (inr p) = absurd p
      lone P h z (f or (e or b)) (inl p) = absurd p.1
      lone P h z (f or (e or b)) (inr p) = absurd p

      go : (o : Option (Left Graph (Desc Graph))) → Ins S d o →
          Anys S (d or fail) (elim o [ none ↦ none | some r ↦ some (record { stack = r.stack; left = r.left or fail }) ])
      go none I = lone (λ c. (X : List Graph) → Fine 𝓛 X → SaysAll 𝓛 X S → Agrees J X → Within (sure_any c) X → StableSome J X c →
          ⊥) I (λ X fX x a w s. s)
      go (some r) I = record {
        part = inl (I.part, tt);
        fine = I.fine;
        greatest = lone (λ c. (X : List Graph) → Fine 𝓛 X → SaysAll 𝓛 X S → Agrees J X → Within (sure_any c) X → StableSome J X c →
            PartAny (r.left or fail) c × SaysAll 𝓛 X r.stack)
            (λ f p X fX x a w s. let q = I.greatest f p X fX x a w s in (inl (q.0, tt), q.1)) (λ X fX x a w s. absurd s);
        still = λ l. I.still (omega arith);
      }

  -- two or more alternatives
  any_many : (S : List Graph) → Fine 𝓛 S → (d e : Desc Graph) (a : Alts Graph) → CanAny 𝓛 (d or (e or a)) → (b : Alts Graph) →
      Sifts S (d or (e or a)) b → Anys S (d or (e or a)) (settle J S b)
  unfolding size
  any_many S fS d e a ca fail r = refuse
    where
      refuse : Anys S (d or (e or a)) none
      refuse fail p X fX x g w s = s
      refuse (f or c) p X fX x g w s =
          r.greatest (f or c) p X fX x (stable_each 𝓛 (f or c) X X (part_any_can 𝓛 (d or (e or a)) (f or c) p ca) fX fX
          (says_within 𝓛 X X fX (w_self X)) g w s)
  any_many S fS d e a ca (f or fail) r = go (agree J (S ++ flat f)) (agreeing_view J (S ++ flat f))
    where
      cf : Can 𝓛 f
      cf = (part_any_can 𝓛 (d or (e or a)) (f or fail) r.part ca).0

      fT : Fine 𝓛 (S ++ flat f)
      fT = fine_append 𝓛 S (flat f) fS (flat_can 𝓛 f cf)

      part_of : (c : Alts Graph) → PartAny (d or (e or a)) c → (X : List Graph) → Fine 𝓛 X → SaysAll 𝓛 X S → Agrees J X →
          Within (sure_any c) X → StableSome J X c → PartAny (f or fail) c × SaysAll 𝓛 X (S ++ flat f)
      part_of c p X fX x g w s =
          let q : PartAny (f or fail) c =
          r.greatest c p X fX x (stable_each 𝓛 c X X (part_any_can 𝓛 (d or (e or a)) c p ca) fX fX
          (says_within 𝓛 X X fX (w_self X)) g w s) in (
            q,
            says_append 𝓛 X S (flat f) x
                (says_within 𝓛 X (flat f) fX (w_trans (flat f) (sure_any c) X (sure_any_part J (f or fail) c X q s) w)),
          )

      two_one : (x y : Desc Graph) (b : Alts Graph) → x or (y or b) ≡ f or fail → ⊥
      two_one x y b h = let z : ◌≡◌ {A = ℕ} 0 1 = cc in omega arith

      go : (t : Bool) → Agreeing J (S ++ flat f) t →
          Anys S (d or (e or a)) (elim t [ false ↦ none | true ↦ some (record { stack = S ++ flat f; left = f or fail }) ])
      go false (cannot z) = λ c p X fX x g w s. not_none J (S ++ flat f)
          (agrees_says 𝓛 X (S ++ flat f) fX fT (part_of c p X fX x g w s).1 g) z
      go true (can y) = record {
        part = r.part;
        fine = fT;
        greatest = part_of;
        still = λ l. absurd (two_one d e a ((part_any_size (d or (e or a)) (f or fail) r.part).1 l));
      }
  any_many S fS d e a ca (f or (h or b)) r = record {
    part = r.part;
    fine = fS;
    greatest = λ c p X fX x g w s. (
      r.greatest c p X fX x (stable_each 𝓛 c X X (part_any_can 𝓛 (d or (e or a)) c p ca) fX fX (says_within 𝓛 X X fX (w_self X)) g w s),
      x,
    );
    still = λ l. (r.still l, refl);
  }

  mutual
    unfolding try

    pub try_ok : (d : Desc Graph) → Can 𝓛 d → (S : List Graph) → All Canonical S → Tries S d (try J S d)
    try_ok (desc g ds) c S cS = try_desc S cS g ds c (agree J (S ++ g ∷ sure ds)) (agreeing_view J (S ++ g ∷ sure ds))
        (narrow J (S ++ g ∷ sure ds) ds)
        (narrow_ok ds c.1 (S ++ g ∷ sure ds) (fine_before 𝓛 S (g ∷ sure ds) cS (fine_cons 𝓛 g (sure ds) c.0 (sure_can 𝓛 ds c.1))))

    pub narrow_ok : (ds : Disjs Graph) → CanAll 𝓛 ds → (S : List Graph) → Fine 𝓛 S → Narrows S ds (narrow J S ds)
    narrow_ok end c S f = record { part = tt; fine = f; greatest = λ fs p X fX x a w s. (p, x); still = λ l. (tt, refl) }
    narrow_ok (a and ds) c S f = narrow_more S a ds (narrow_any J S a) (any_ok a c.0 S f) (λ T. narrow J T ds)
        (λ T fT. narrow_ok ds c.1 T fT)

    pub any_ok : (a : Alts Graph) → CanAny 𝓛 a → (S : List Graph) → Fine 𝓛 S → Anys S a (narrow_any J S a)
    any_ok fail c S f = refuse
      where
        refuse : Anys S fail none
        refuse fail p X fX x g w s = s
        refuse (e or b) p X fX x g w s = p
    any_ok (d or a) c S f = go a c (sift_ok a c.1 S f.1) (inside_ok d c.0 S f) (try_ok d c.0 S f.1)
      where
        go : (a : Alts Graph) → CanAny 𝓛 (d or a) → Sifts S a (sift J S a) → Ins S d (inside J S d) → Tries S d (try J S d) →
            Anys S (d or a) (narrow_any J S (d or a))
        go fail c r i t = any_lone S d (inside J S d) i
        go (e or b) c r i t = any_many S f d e b c (elim (try J S d) [ none ↦ sift J S (e or b) | some x ↦ x or sift J S (e or b) ])
            (sift_more S d (e or b) (sift J S (e or b)) (try J S d) t r)

    pub inside_ok : (d : Desc Graph) → Can 𝓛 d → (S : List Graph) → Fine 𝓛 S → Ins S d (inside J S d)
    inside_ok (desc g ds) c S f = in_desc S g ds (narrow J S ds) (narrow_ok ds c.1 S f)

    pub sift_ok : (a : Alts Graph) → CanAny 𝓛 a → (S : List Graph) → All Canonical S → Sifts S a (sift J S a)
    sift_ok fail c S cS = record { part = tt; greatest = λ b p X fX x s. p; still = λ l. tt }
    sift_ok (d or a) c S cS = sift_more S d a (sift J S a) (try J S d) (try_ok d c.0 S cS) (sift_ok a c.1 S cS)

  -- the condition that says nothing
  pub says_nil : (T : List Graph) → Fine 𝓛 T → Says 𝓛 T nil
  says_nil T f hs h =
      let th : Fine 𝓛 (T ++ hs) = fine_append 𝓛 T hs f h in
      nil_holds 𝓛 (T ++ hs) th.1 th.0
      ∙ join_order 𝓛 (nil ∷ (T ++ hs)) (T ++ nil ∷ hs) (fine_cons 𝓛 nil (T ++ hs) nil_canonical th.1)
      (fine_append 𝓛 T (nil ∷ hs) f (nil_canonical, h))
      (w_cons nil (T ++ hs) (T ++ nil ∷ hs) (Memᴰ.append_right T (Memᴰ.head refl))
      (within_both T hs (T ++ nil ∷ hs) (in_l T (nil ∷ hs)) (w_right hs T (nil ∷ hs) (w_tail nil hs hs (w_self hs)))))
      (within_both T (nil ∷ hs) (nil ∷ (T ++ hs)) (w_tail nil T (T ++ hs) (in_l T hs))
      (w_cons nil hs (nil ∷ (T ++ hs)) (Memᴰ.head refl) (w_tail nil hs (T ++ hs) (in_r T hs))))

  pub stable_nil : (d : Desc Graph) → Can 𝓛 d → Stable J [] d → Stable J (nil ∷ []) d
  stable_nil (desc g ds) c s =
      let f : Fine 𝓛 (g ∷ sure ds) = fine_cons 𝓛 g (sure ds) c.0 (sure_can 𝓛 ds c.1) in
      let f' : Fine 𝓛 (nil ∷ g ∷ sure ds) = fine_cons 𝓛 nil (g ∷ sure ds) nil_canonical f.1 in
      let k : SaysAll 𝓛 (g ∷ sure ds) (nil ∷ g ∷ sure ds) =
      says_cons 𝓛 (g ∷ sure ds) nil (g ∷ sure ds) (says_nil (g ∷ sure ds) f)
      (says_within 𝓛 (g ∷ sure ds) (g ∷ sure ds) f (w_self (g ∷ sure ds))) in (
        agrees_says 𝓛 (g ∷ sure ds) (nil ∷ g ∷ sure ds) f f' k s.0,
        stable_all_less 𝓛 ds (g ∷ sure ds) (nil ∷ g ∷ sure ds) c.1 f f' k s.1,
      )

  fine_nil : Fine 𝓛 (nil ∷ [])
  fine_nil = fine_cons 𝓛 nil [] nil_canonical tt

  none_said : SaysAll 𝓛 (nil ∷ []) []
  none_said g m = absurd (Memᴰ.not-nil m)

  -- a pass that fails: no part is stable
  pub pass_fails : (d : Desc Graph) → Can 𝓛 d → try J [] d ≡ none → Passed J d none
  pass_fails d c h f p s = tried f p (nil ∷ []) fine_nil none_said s
    where
      tried : Tries [] d none
      tried = subst (Tries [] d) h (try_ok d c [] tt)

  -- a pass that leaves e
  module _ (d e : Desc Graph) (c : Can 𝓛 d) (h : try J [] d ≡ some e) where
    tried : TrySome [] d e
    tried = subst (Tries [] d) h (try_ok d c [] tt)

    below : (f : Desc Graph) → Part d f → Stable J (nil ∷ []) f → Part e f
    below f p s = tried.greatest f p (nil ∷ []) fine_nil none_said s

    pub pass_can : Can 𝓛 e
    pass_can = part_can 𝓛 d e tried.part c

    -- it drops something exactly where the size falls
    pub pass_size : (size e ≤ size d) × (size d ≤ size e → d ≡ e)
    pass_size = part_size d e tried.part

    -- the greatest stable part of what is left is that of the whole
    pub pass_on : (o : Option (Desc Graph)) → Passed J e o → Passed J d o
    pass_on none k = λ f p s. k f (below f p s) s
    pass_on (some x) k = record {
      part = part_trans d e x tried.part k.part;
      stable = k.stable;
      greatest =
          λ f p s. k.greatest f (below f p s) s;
    }

    -- and what is left where nothing was dropped is that part
    pub pass_last : size d ≤ size e → Passed J d (some e)
    pass_last l = record {
      part = tried.part;
      stable = subst (Stable J (nil ∷ [])) (pass_size.1 l) (stable_nil d c (tried.still l));
      greatest = below;
    }

  -- as many passes as the size of the description are enough
  pub passes_ok : (n : ℕ) (d : Desc Graph) → Can 𝓛 d → size d ≤ n → Passed J d (passes J n d)
  unfolding passes
  passes_ok zero d c l = absurd (omega (arith, some_size d))
  passes_ok (suc n) d c l = go (try J [] d) refl (λ e. passes_ok n e)
    where
      go : (o : Option (Desc Graph)) → try J [] d ≡ o → ((e : Desc Graph) → Can 𝓛 e → size e ≤ n → Passed J e (passes J n e)) →
          Passed J d (elim o [ none ↦ none | some e ↦ elim (eqb (size e) (size d)) [ true ↦ some e | false ↦ passes J n e ] ])
      go none h ih = pass_fails d c h
      go (some e) h ih = two (eqb (size e) (size d)) (test (size e) (size d))
        where
          two : (t : Bool) → Test (size e) (size d) t → Passed J d (elim t [ true ↦ some e | false ↦ passes J n e ])
          two true (equal q) = pass_last d e c h (omega arith)
          two false (differ q) = pass_on d e c h (passes J n e) (ih e (pass_can d e c h) (small (pass_size d e c h).0 (λ h. q h)))
            where
              small : size e ≤ size d → (size e ≡ size d → ⊥) → size e ≤ n
              small a b = omega arith
