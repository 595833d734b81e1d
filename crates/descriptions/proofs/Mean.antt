-- What a description means: the joined graphs of its consistent choices, in order. Tidying keeps it.
-- Assumes nothing.
use mathlib.Core.Path.{◌≡◌, refl, ap, ap₂, sym, ◌∙◌, subst}
use mathlib.Core.Logic.{⊎_elim}
use mathlib.Core.Option.{Option, none, some}
use mathlib.Core.List.Memᴰ
use mathlib.Core.List.{List, [], ◌∷◌, ◌++◌, append_assoc, append-nil, Memᴰ}
use Prim.Native.Nat.{ℕ, zero, suc, ◌<◌}
use native.Mathlib.Omega.{arith}
use lib.ListN.{length, length-append}
use Rattle.descriptions.proofs.Laws.{Laws, Within}
use Rattle.descriptions.specs.Descr.{Alts, Desc, Disjs, ◌and◌, ◌or◌, ◌then◌, choices, choices_all, choices_any, desc, each, end, fail}
use Rattle.descriptions.specs.Descr.{pairs}
use Rattle.descriptions.specs.Modes.{Round, after, finish, glue, kept, round, tidy, Glues}
use Rattle.descriptions.specs.Joining.{Joining}
use Rattle.descriptions.specs.Canonical.{All}

module _ {Graph : Type 0} where
  pub within_left : (a b hs : List Graph) → Within a b → Within (a ++ hs) (b ++ hs)
  within_left a b hs w g m = ⊎_elim (λ i. Memᴰ.append_left hs (w g i)) (λ i. Memᴰ.append_right b i) (Memᴰ.append_cases a m)

  pub swap_within : (a b : List Graph) → Within (a ++ b) (b ++ a)
  swap_within a b g m = ⊎_elim (λ i. Memᴰ.append_right b i) (λ i. Memᴰ.append_left a i) (Memᴰ.append_cases a m)

  -- run through the choices
  abbrev pub run : List (List Graph) → List Graph → (List Graph → List Graph) → List Graph
  run [] c k = []
  run (r ∷ l) c k = k (c ++ r) ++ run l c k

  pub run_append : (l m : List (List Graph)) (c : List Graph) (k : List Graph → List Graph) → run (l ++ m) c k ≡ run l c k ++ run m c k
  run_append [] m c k = refl
  run_append (r ∷ l) m c k = rw (run_append l m c k) (sym (append_assoc (k (c ++ r)) (run l c k) (run m c k)))

  pub run_each : (a : List Graph) (l : List (List Graph)) (c : List Graph) (k : List Graph → List Graph) →
      run (each a l) c k ≡ run l (c ++ a) k
  run_each a [] c k = refl
  run_each a (r ∷ l) c k = rw (append_assoc c a r, run_each a l c k)

  pub run_pairs : (l m : List (List Graph)) (c : List Graph) (k : List Graph → List Graph) → run (pairs l m) c k ≡ run l c (λ d. run m d k)
  run_pairs [] m c k = refl
  run_pairs (r ∷ l) m c k = rw (run_append (each r m) (pairs l m) c k, run_each r m c k, run_pairs l m c k)

  pub run_cong : (l : List (List Graph)) (c d : List Graph) (k k' : List Graph → List Graph) →
      ((r : List Graph) → Memᴰ r l → k (c ++ r) ≡ k' (d ++ r)) → run l c k ≡ run l d k'
  run_cong [] c d k k' h = refl
  run_cong (r ∷ l) c d k k' h = ap₂ {C = List Graph} ◌++◌ (h r (Memᴰ.head refl)) (run_cong l c d k k' (λ s m. h s (Memᴰ.tail m)))

  pub run_none : (l : List (List Graph)) (c : List Graph) (k : List Graph → List Graph) →
      ((r : List Graph) → Memᴰ r l → k (c ++ r) ≡ []) → run l c k ≡ []
  run_none [] c k h = refl
  run_none (r ∷ l) c k h = rw (h r (Memᴰ.head refl), run_none l c k (λ s m. h s (Memᴰ.tail m)))

  pub run_then : (ds es : Disjs Graph) (c : List Graph) (k : List Graph → List Graph) →
      run (choices_all (ds then es)) c k ≡ run (choices_all ds) c (λ d. run (choices_all es) d k)
  run_then end es c k = rw (append-nil c) (sym (append-nil (run (choices_all es) c k)))
  run_then (a and ds) es c k =
      run_pairs (choices_any a) (choices_all (ds then es)) c k
      ∙ run_cong (choices_any a) c c (λ d. run (choices_all (ds then es)) d k) (λ d. run (choices_all ds) d (λ e. run (choices_all es) e k))
      (λ r m. run_then ds es (c ++ r) k)
      ∙ sym (run_pairs (choices_any a) (choices_all ds) c (λ d. run (choices_all es) d k))

  -- moving the middle
  move_within : (c a b hs : List Graph) → Within (c ++ (a ++ (b ++ hs))) (c ++ (b ++ (a ++ hs)))
  move_within c a b hs g m = ⊎_elim (λ i. Memᴰ.append_left (b ++ (a ++ hs)) i)
      (λ i. Memᴰ.append_right c (⊎_elim (λ j. Memᴰ.append_right b (Memᴰ.append_left hs j))
      (λ j. ⊎_elim (λ l. Memᴰ.append_left (a ++ hs) l) (λ l. Memᴰ.append_right b (Memᴰ.append_right a l)) (Memᴰ.append_cases b j))
      (Memᴰ.append_cases a i)))
      (Memᴰ.append_cases c m)

  pub within_both : (a b d : List Graph) → Within a d → Within b d → Within (a ++ b) d
  within_both a b d p q g m = ⊎_elim (p g) (q g) (Memᴰ.append_cases a m)

  pub in_l : (a b : List Graph) → Within a (a ++ b)
  in_l a b g m = Memᴰ.append_left b m

  pub in_r : (a b : List Graph) → Within b (a ++ b)
  in_r a b g m = Memᴰ.append_right a m

  in_lr : (a b d : List Graph) → Within b ((a ++ b) ++ d)
  in_lr a b d g m = Memᴰ.append_left d (Memᴰ.append_right a m)

  in_ll : (a b d : List Graph) → Within a ((a ++ b) ++ d)
  in_ll a b d g m = Memᴰ.append_left d (Memᴰ.append_left b m)

  shuffle_within : (c r b : List Graph) → Within ((c ++ r) ++ b) ((c ++ b) ++ r)
  shuffle_within c r b = within_both (c ++ r) b ((c ++ b) ++ r) (within_both c r ((c ++ b) ++ r) (in_ll c b r) (in_r (c ++ b) r))
      (in_lr c b r)

module _ {Graph : Type 0} (J : Joining Graph) where
  open J use {join}

  pub glue_none : (g : Graph) (hs : List Graph) → glue J g hs ≡ none → join (g ∷ hs) ≡ none
  glue_none g [] e = let z : ◌≡◌ {A = ℕ} 0 1 = cc in absurd (omega arith)
  glue_none g (h ∷ hs) e = e

  pub glues_of : (g : Graph) (hs : List Graph) (K : Graph) → join (g ∷ hs) ≡ some K → Glues J g hs
  glues_of g [] K e = (g, refl)
  glues_of g (h ∷ hs) K e = (K, e)

  pub glue_same : (g : Graph) (hs ks : List Graph) → (hs ≡ [] → ks ≡ []) → (ks ≡ [] → hs ≡ []) → join (g ∷ hs) ≡ join (g ∷ ks) →
      glue J g hs ≡ glue J g ks
  glue_same g [] [] p q e = refl
  glue_same g [] (k ∷ ks) p q e = let d : k ∷ ks ≡ [] = p refl in let z : ◌≡◌ {A = ℕ} 0 1 = cc in absurd (omega arith)
  glue_same g (h ∷ hs) [] p q e = let d : h ∷ hs ≡ [] = q refl in let z : ◌≡◌ {A = ℕ} 0 1 = cc in absurd (omega arith)
  glue_same g (h ∷ hs) (k ∷ ks) p q e = e

module _ {Graph : Type 0} {J : Joining Graph} (𝓛 : Laws J) where
  open J use {join}
  open 𝓛 use {Canonical}

  abbrev pub Fine : List Graph → Type 0
  Fine = Rattle.descriptions.specs.Canonical.Fine Canonical

  pub canon_append : (a b : List Graph) → All Canonical a → All Canonical b → All Canonical (a ++ b)
  canon_append [] b p q = q
  canon_append (g ∷ a) b p q = (p.0, canon_append a b p.1 q)

  pub fine_append : (a b : List Graph) → Fine a → All Canonical b → Fine (a ++ b)
  fine_append a b p q = (simp length-append (omega arith), canon_append a b p.1 q)

  -- c and d stand for each other in every join
  abbrev pub Alike : List Graph → List Graph → Type 0
  Alike c d = (hs : List Graph) → All Canonical hs → join (c ++ hs) ≡ join (d ++ hs)

  pub alike_set : (c d : List Graph) → Fine c → Fine d → Within c d → Within d c → Alike c d
  alike_set c d p q w v hs h =
      let fc : Fine (c ++ hs) = fine_append c hs p h in
      let fd : Fine (d ++ hs) = fine_append d hs q h in
      𝓛.order (c ++ hs) (d ++ hs) fc.0 fd.0 fc.1 fd.1 (within_left c d hs w) (within_left d c hs v)

  -- a clash stays
  pub clash_stays : (c d : List Graph) → Fine c → Fine d → Within c d → join c ≡ none → join d ≡ none
  clash_stays c d p q w e = 𝓛.stays c d p.0 q.0 p.1 q.1 w e

  pub join_canonical : (gs : List Graph) → Fine gs → (K : Graph) → join gs ≡ some K → Canonical K
  join_canonical gs f K e = 𝓛.fits gs f.0 f.1 K e

  -- a joined graph stands for what it joins
  pub alike_flat : (gs : List Graph) → Fine gs → (K : Graph) → join gs ≡ some K → Alike (K ∷ []) gs
  alike_flat gs f K e hs h = 𝓛.stands gs f.0 f.1 K e hs h

  pub alike_trans : (a b c : List Graph) → Alike a b → Alike b c → Alike a c
  alike_trans a b c p q hs h = p hs h ∙ q hs h

  pub alike_sym : (a b : List Graph) → Alike a b → Alike b a
  alike_sym a b p hs h = sym (p hs h)

  pub alike_more : (a b c : List Graph) → All Canonical c → Alike a b → Alike (a ++ c) (b ++ c)
  alike_more a b c f p hs h = rw (append_assoc a c hs, append_assoc b c hs) (p (c ++ hs) (canon_append c hs f h))

  -- the same after other graphs
  pub alike_after : (c gs : List Graph) → All Canonical c → Fine gs → (K : Graph) → join gs ≡ some K → Alike (c ++ K ∷ []) (c ++ gs)
  alike_after c gs fc f K e =
      let k : Canonical K = join_canonical gs f K e in
      let fK : Fine (K ∷ []) = (omega arith, (k, tt)) in
      let fKc : Fine ((K ∷ []) ++ c) = fine_append (K ∷ []) c fK fc in
      let fgc : Fine (gs ++ c) = fine_append gs c f fc in
      let fcK : Fine (c ++ K ∷ []) = (simp length-append (omega arith), canon_append c (K ∷ []) fc (k, tt)) in
      let f₀ = f.0 in
      let fcg : Fine (c ++ gs) = (simp length-append (omega arith), canon_append c gs fc f.1) in
      alike_trans (c ++ K ∷ []) ((K ∷ []) ++ c) (c ++ gs)
      (alike_set (c ++ K ∷ []) ((K ∷ []) ++ c) fcK fKc (swap_within c (K ∷ [])) (swap_within (K ∷ []) c))
      (alike_trans ((K ∷ []) ++ c) (gs ++ c) (c ++ gs) (alike_more (K ∷ []) gs c fc (alike_flat gs f K e))
      (alike_set (gs ++ c) (c ++ gs) fgc fcg (swap_within gs c) (swap_within c gs)))

  -- a graph with those folded into it stands for all of them
  module _ (g : Graph) (cg : Canonical g) where
    some_one : (K : Graph) → some g ≡ some K → g ≡ K
    some_one K e = cc

    pub glue_canonical : (hs : List Graph) → All Canonical hs → (K : Graph) → glue J g hs ≡ some K → Canonical K
    glue_canonical [] f K e = subst Canonical (some_one K e) cg
    glue_canonical (h ∷ hs) f K e = join_canonical (g ∷ h ∷ hs) (omega arith, (cg, f)) K e

    pub glue_alike : (hs : List Graph) → All Canonical hs → (K : Graph) → glue J g hs ≡ some K → Alike (K ∷ []) (g ∷ hs)
    glue_alike [] f K e = subst (λ (z : Graph). Alike (z ∷ []) (g ∷ [])) (some_one K e) (λ hs h. refl)
    glue_alike (h ∷ hs) f K e = alike_flat (g ∷ h ∷ hs) (omega arith, (cg, f)) K e

    pub glue_after : (c hs : List Graph) → All Canonical c → All Canonical hs → (K : Graph) → glue J g hs ≡ some K →
        Alike (c ++ K ∷ []) (c ++ g ∷ hs)
    glue_after c [] fc f K e = subst (λ (z : Graph). Alike (c ++ z ∷ []) (c ++ g ∷ [])) (some_one K e) (λ hs h. refl)
    glue_after c (h ∷ hs) fc f K e = alike_after c (g ∷ h ∷ hs) fc (omega arith, (cg, f)) K e

  -- what may follow: it sees only what the context joins to
  pub record Good (k : List Graph → List Graph) : Type 0 where
    pub same : (c d : List Graph) → Fine c → Fine d → Alike c d → k c ≡ k d
    pub dead : (c : List Graph) → Fine c → join c ≡ none → k c ≡ []

  abbrev pub AllFine : List (List Graph) → Type 0
  AllFine l = (r : List Graph) → Memᴰ r l → All Canonical r

  pub run_dead : (l : List (List Graph)) (c : List Graph) (k : List Graph → List Graph) → AllFine l → Good k → Fine c → join c ≡ none →
      run l c k ≡ []
  run_dead l c k a g f e = run_none l c k
      (λ r m. g.dead (c ++ r) (fine_append c r f (a r m))
      (clash_stays c (c ++ r) f (fine_append c r f (a r m)) (λ x i. Memᴰ.append_left r i) e))

  pub run_same : (l : List (List Graph)) (c d : List Graph) (k : List Graph → List Graph) → AllFine l → Good k → Fine c → Fine d →
      Alike c d → run l c k ≡ run l d k
  run_same l c d k a g f h p = run_cong l c d k k
      (λ r m. g.same (c ++ r) (d ++ r) (fine_append c r f (a r m)) (fine_append d r h (a r m)) (alike_more c d r (a r m) p))

  pub good_run : (l : List (List Graph)) (k : List Graph → List Graph) → AllFine l → Good k → Good (λ c. run l c k)
  good_run l k a g = record { same = λ c d f h p. run_same l c d k a g f h p; dead = λ c f e. run_dead l c k a g f e }

  -- descriptions of canonical graphs
  abbrev pub Can : Desc Graph → Type 0
  Can = Rattle.descriptions.specs.Canonical.Can Canonical

  abbrev pub CanAll : Disjs Graph → Type 0
  CanAll = Rattle.descriptions.specs.Canonical.CanAll Canonical

  abbrev pub CanAny : Alts Graph → Type 0
  CanAny = Rattle.descriptions.specs.Canonical.CanAny Canonical

  pub each_fine : (a : List Graph) (l : List (List Graph)) → All Canonical a → AllFine l → AllFine (each a l)
  each_fine a [] p q r m = absurd (Memᴰ.not-nil m)
  each_fine a (s ∷ l) p q r m = ⊎_elim (λ e. subst (All Canonical) (sym e) (canon_append a s p (q s (Memᴰ.head refl))))
      (each_fine a l p (λ t i. q t (Memᴰ.tail i)) r) (Memᴰ.cases_cons m)

  pub append_fine : (l m : List (List Graph)) → AllFine l → AllFine m → AllFine (l ++ m)
  append_fine l m p q r i = ⊎_elim (p r) (q r) (Memᴰ.append_cases l i)

  pub pairs_fine : (l m : List (List Graph)) → AllFine l → AllFine m → AllFine (pairs l m)
  pairs_fine [] m p q = λ r i. absurd (Memᴰ.not-nil i)
  pairs_fine (a ∷ l) m p q = append_fine (each a m) (pairs l m) (each_fine a m (p a (Memᴰ.head refl)) q)
      (pairs_fine l m (λ t i. p t (Memᴰ.tail i)) q)

  mutual
    pub choices_fine : (d : Desc Graph) → Can d → AllFine (choices d)
    choices_fine (desc g ds) c = each_fine (g ∷ []) (choices_all ds) (c.0, tt) (choices_all_fine ds c.1)

    pub choices_all_fine : (ds : Disjs Graph) → CanAll ds → AllFine (choices_all ds)
    choices_all_fine end c = λ r m. ⊎_elim (λ e. subst (All Canonical) (sym e) tt) (λ i. absurd (Memᴰ.not-nil i))
        (Memᴰ.cases_cons m)
    choices_all_fine (a and ds) c = pairs_fine (choices_any a) (choices_all ds) (choices_any_fine a c.0) (choices_all_fine ds c.1)

    pub choices_any_fine : (a : Alts Graph) → CanAny a → AllFine (choices_any a)
    choices_any_fine fail c = λ r m. absurd (Memᴰ.not-nil m)
    choices_any_fine (d or a) c = append_fine (choices d) (choices_any a) (choices_fine d c.0) (choices_any_fine a c.1)

  pub can_then : (ds es : Disjs Graph) → CanAll ds → CanAll es → CanAll (ds then es)
  can_then end es p q = q
  can_then (a and ds) es p q = (p.0, can_then ds es p.1 q)

  -- the context says what K says
  abbrev pub Holds : Graph → List Graph → Type 0
  Holds K c = (hs : List Graph) → All Canonical hs → 0 < length hs → join (c ++ hs) ≡ join (c ++ K ∷ hs)

  holds_more : (K : Graph) (c r : List Graph) → Canonical K → All Canonical c → All Canonical r → Holds K c → Holds K (c ++ r)
  holds_more K c r k fc fr h hs fh p =
      let frh : All Canonical (r ++ hs) = canon_append r hs fr fh in
      let e : join (c ++ (r ++ hs)) ≡ join (c ++ K ∷ (r ++ hs)) = h (r ++ hs) frh (simp length-append (omega arith)) in
      let a : List Graph = c ++ ((K ∷ []) ++ (r ++ hs)) in
      let b : List Graph = c ++ (r ++ ((K ∷ []) ++ hs)) in
      let fa : Fine a = (simp length-append (omega arith), canon_append c ((K ∷ []) ++ (r ++ hs)) fc (k, frh)) in
      let fb : Fine b = (
        simp length-append (omega arith),
        canon_append c (r ++ ((K ∷ []) ++ hs)) fc (canon_append r ((K ∷ []) ++ hs) fr (k, fh)),
      ) in
      let s : join (a ++ []) ≡ join (b ++ []) = alike_set a b fa fb (move_within c (K ∷ []) r hs) (move_within c r (K ∷ []) hs) [] tt in
      rw (append_assoc c r hs, append_assoc c r (K ∷ hs)) (e ∙ sym (ap join (append-nil a)) ∙ s ∙ ap join (append-nil b))

  pub shuffle : (c r b : List Graph) → Fine c → All Canonical r → All Canonical b → Alike ((c ++ r) ++ b) ((c ++ b) ++ r)
  shuffle c r b f p q = alike_set ((c ++ r) ++ b) ((c ++ b) ++ r) (fine_append (c ++ r) b (fine_append c r f p) q)
      (fine_append (c ++ b) r (fine_append c b f q) p) (shuffle_within c r b) (shuffle_within c b r)

  -- what a tidied description keeps, under the condition K
  abbrev pub Tidied : Graph → Desc Graph → Option (Desc Graph) → Type 0
  Tidied K d none = (c : List Graph) → All Canonical c → Holds K c → (k : List Graph → List Graph) → Good k → run (choices d) c k ≡ []
  Tidied K d (some e) = Can e × ((c : List Graph) → All Canonical c → Holds K c → (k : List Graph → List Graph) → Good k →
      run (choices d) c k ≡ run (choices e) c k)

  abbrev pub Rounded : Graph → Disjs Graph → Option (Round Graph) → Type 0
  Rounded K ds none = (c : List Graph) → Fine c → Holds K c → (k : List Graph → List Graph) → Good k → run (choices_all ds) c k ≡ []
  Rounded K ds (some r) = All Canonical r.folded × CanAll r.left
      × ((c : List Graph) → Fine c → Holds K c → (k : List Graph → List Graph) → Good k →
      run (choices_all ds) c k ≡ run (choices_all r.left) (c ++ r.folded) k)

  module _ (K : Graph) (cK : Canonical K) where
    module _ (t : Desc Graph → Option (Desc Graph)) (T : (d : Desc Graph) → Can d → Tidied K d (t d)) where
      kept_ok : (a : Alts Graph) → CanAny a →
          CanAny (kept t a) × ((c : List Graph) → All Canonical c → Holds K c → (k : List Graph → List Graph) → Good k →
          run (choices_any a) c k ≡ run (choices_any (kept t a)) c k)
      kept_ok fail p = (tt, λ c f h k g. refl)
      kept_ok (d or a) p = go (t d) (T d p.0) (kept_ok a p.1)
        where
          Out : Alts Graph → Alts Graph → Type 0
          Out a b = CanAny b × ((c : List Graph) → All Canonical c → Holds K c → (k : List Graph → List Graph) → Good k →
              run (choices_any a) c k ≡ run (choices_any b) c k)

          go : (o : Option (Desc Graph)) → Tidied K d o → Out a (kept t a) →
              Out (d or a) (elim o [ none ↦ kept t a | some e ↦ e or kept t a ])
          go none s r = (r.0, λ c f h k g. rw (run_append (choices d) (choices_any a) c k, s c f h k g) (r.1 c f h k g))
          go (some e) s r = (
            (s.0, r.0),
            λ c f h k g. rw (
              run_append (choices d) (choices_any a) c k,
              run_append (choices e) (choices_any (kept t a)) c k,
              s.1 c f h k g,
              r.1 c f h k g,
            ),
          )

    -- all alternatives in a context, the later disjunctions in their round's form
    module _ (ds : Disjs Graph) (r : Round Graph) (R : Rounded K ds (some r)) where
      rest_is : (a : Alts Graph) → CanAny a → (c : List Graph) → Fine c → Holds K c → (k : List Graph → List Graph) → Good k →
          run (choices_all (a and ds)) c k ≡ run (choices_any a) c (λ d. run (choices_all r.left) (d ++ r.folded) k)
      rest_is a ca c f h k g = run_pairs (choices_any a) (choices_all ds) c k
          ∙ run_cong (choices_any a) c c (λ d. run (choices_all ds) d k) (λ d. run (choices_all r.left) (d ++ r.folded) k)
          (λ s m. let fs : All Canonical s = choices_any_fine a ca s m in
          R.2 (c ++ s) (fine_append c s f fs) (holds_more K c s cK f.1 fs h) k g)

      pub after_ok : (a : Alts Graph) → CanAny a → Rounded K (a and ds) (after J a r)
      after_ok fail ca = λ c f h k g. refl
      after_ok (desc g' ds' or fail) ca = (
        (ca.0.0, R.0),
        can_then ds' r.left ca.0.1 R.1,
        λ c f h k g.
            let fr : All Canonical r.folded = R.0 in
            let fg : All Canonical (g' ∷ []) = (ca.0.0, tt) in
            rest_is (desc g' ds' or fail) ca c f h k g
            ∙ run_append (choices (desc g' ds')) [] c (λ d. run (choices_all r.left) (d ++ r.folded) k)
            ∙ append-nil (run (choices (desc g' ds')) c (λ d. run (choices_all r.left) (d ++ r.folded) k))
            ∙ run_each (g' ∷ []) (choices_all ds') c (λ d. run (choices_all r.left) (d ++ r.folded) k)
            ∙ run_cong (choices_all ds') (c ++ g' ∷ []) (c ++ g' ∷ r.folded) (λ d. run (choices_all r.left) (d ++ r.folded) k)
            (λ d. run (choices_all r.left) d k)
            (λ s m.
            let fs : All Canonical s = choices_all_fine ds' ca.0.1 s m in
            let b : List Graph = c ++ g' ∷ [] in
            let fb : Fine b = fine_append c (g' ∷ []) f fg in
            let e : b ++ r.folded ≡ c ++ g' ∷ r.folded = append_assoc c (g' ∷ []) r.folded in
            subst (λ (z : List Graph). run (choices_all r.left) ((b ++ s) ++ r.folded) k ≡ run (choices_all r.left) (z ++ s) k) e
            (run_same (choices_all r.left) ((b ++ s) ++ r.folded) ((b ++ r.folded) ++ s) k (choices_all_fine r.left R.1) g
            (fine_append (b ++ s) r.folded (fine_append b s fb fs) fr)
            (fine_append (b ++ r.folded) s (fine_append b r.folded fb fr) fs) (shuffle b s r.folded fb fs fr)))
            ∙ sym (run_then ds' r.left (c ++ g' ∷ r.folded) k),
      )
      after_ok (d or (e or a)) ca = (
        R.0,
        (ca, R.1),
        λ c f h k g.
            let fr : All Canonical r.folded = R.0 in
            rest_is (d or (e or a)) ca c f h k g
            ∙ run_cong (choices_any (d or (e or a))) c (c ++ r.folded) (λ d. run (choices_all r.left) (d ++ r.folded) k)
            (λ d. run (choices_all r.left) d k)
            (λ s m.
            let fs : All Canonical s = choices_any_fine (d or (e or a)) ca s m in
            run_same (choices_all r.left) ((c ++ s) ++ r.folded) ((c ++ r.folded) ++ s) k (choices_all_fine r.left R.1) g
            (fine_append (c ++ s) r.folded (fine_append c s f fs) fr)
            (fine_append (c ++ r.folded) s (fine_append c r.folded f fr) fs) (shuffle c s r.folded f fs fr))
            ∙ sym (run_pairs (choices_any (d or (e or a))) (choices_all r.left) (c ++ r.folded) k),
      )

    round_ok : (t : Desc Graph → Option (Desc Graph)) → ((d : Desc Graph) → Can d → Tidied K d (t d)) → (ds : Disjs Graph) → CanAll ds →
        Rounded K ds (round J t ds)
    round_ok t T end p = (tt, tt, λ c f h k g. ap (λ (z : List Graph). k z ++ []) (sym (append-nil (c ++ []))))
    round_ok t T (a and ds) p = go (round J t ds) (round_ok t T ds p.1)
      where
        ok : CanAny (kept t a) × ((c : List Graph) → All Canonical c → Holds K c → (k : List Graph → List Graph) → Good k →
            run (choices_any a) c k ≡ run (choices_any (kept t a)) c k)
        ok = kept_ok t T a p.0

        -- the tidied alternatives for the old ones
        first : (c : List Graph) → Fine c → Holds K c → (k : List Graph → List Graph) → Good k →
            run (choices_all (a and ds)) c k ≡ run (choices_all (kept t a and ds)) c k
        first c f h k g = run_pairs (choices_any a) (choices_all ds) c k
            ∙ ok.1 c f.1 h (λ d. run (choices_all ds) d k) (good_run (choices_all ds) k (choices_all_fine ds p.1) g)
            ∙ sym (run_pairs (choices_any (kept t a)) (choices_all ds) c k)

        carry : (o : Option (Round Graph)) → Rounded K (kept t a and ds) o → Rounded K (a and ds) o
        carry none s = λ c f h k g. first c f h k g ∙ s c f h k g
        carry (some r) s = (s.0, s.1, λ c f h k g. first c f h k g ∙ s.2 c f h k g)

        go : (o : Option (Round Graph)) → Rounded K ds o → Rounded K (a and ds) (elim o [ none ↦ none | some r ↦ after J (kept t a) r ])
        go none s = λ c f h k g. run_pairs (choices_any a) (choices_all ds) c k
            ∙ run_none (choices_any a) c (λ d. run (choices_all ds) d k) (λ r m. let fr : All Canonical r = choices_any_fine a p.0 r m in
            s (c ++ r) (fine_append c r f fr) (holds_more K c r cK f.1 fr h) k g)
        go (some r) s = carry (after J (kept t a) r) (after_ok ds r s (kept t a) ok.0)

  -- the context with g, under a condition c that holds of it
  module _ (C : Graph) (cC : Canonical C) where
    pub finish_ok : (again : Desc Graph → Option (Desc Graph)) → ((d : Desc Graph) → Can d → Tidied C d (again d)) → (g : Graph) →
        Canonical g → (ds ds' : Disjs Graph) (folded : List Graph) → All Canonical folded → CanAll ds' →
        ((c : List Graph) → All Canonical c → Holds C c → (k : List Graph → List Graph) → Good k →
        run (choices_all ds) (c ++ g ∷ []) k ≡ run (choices_all ds') ((c ++ g ∷ []) ++ folded) k) →
        Tidied C (desc g ds) (finish J again g ds' folded)
    unfolding finish
    finish_ok again A g cg ds ds' [] f p s = (
      (cg, p),
      λ c fc h k gk. run_each (g ∷ []) (choices_all ds) c k ∙ s c fc h k gk
          ∙ ap (λ (z : List Graph). run (choices_all ds') z k) (append-nil (c ++ g ∷ [])) ∙ sym (run_each (g ∷ []) (choices_all ds') c k),
    )
    finish_ok again A g cg ds ds' (x ∷ xs) f p s = go (join gs) refl
      where
        gs : List Graph
        gs = g ∷ x ∷ xs

        fgs : Fine gs
        fgs = (omega arith, (cg, f))

        start : (c : List Graph) → All Canonical c → Holds C c → (k : List Graph → List Graph) → Good k →
            run (choices (desc g ds)) c k ≡ run (choices_all ds') (c ++ gs) k
        start c fc h k gk = run_each (g ∷ []) (choices_all ds) c k ∙ s c fc h k gk
            ∙ ap (λ (z : List Graph). run (choices_all ds') z k) (append_assoc c (g ∷ []) (x ∷ xs))

        fcgs : (c : List Graph) → All Canonical c → Fine (c ++ gs)
        fcgs c fc = (simp length-append (omega arith), canon_append c gs fc fgs.1)

        next : (g' : Graph) → join gs ≡ some g' → (o : Option (Desc Graph)) → Tidied C (desc g' ds') o → Tidied C (desc g ds) o
        next g' e o t = pick o t
          where
            cg' : Canonical g'
            cg' = join_canonical gs fgs g' e

            step : (c : List Graph) → All Canonical c → Holds C c → (k : List Graph → List Graph) → Good k →
                run (choices (desc g ds)) c k ≡ run (choices (desc g' ds')) c k
            step c fc h k gk = start c fc h k gk
                ∙ sym (run_same (choices_all ds') (c ++ g' ∷ []) (c ++ gs) k (choices_all_fine ds' p) gk (
                  simp length-append (omega arith),
                  canon_append c (g' ∷ []) fc (cg', tt),
                ) (fcgs c fc) (alike_after c gs fc fgs g' e))
                ∙ sym (run_each (g' ∷ []) (choices_all ds') c k)

            pick : (o : Option (Desc Graph)) → Tidied C (desc g' ds') o → Tidied C (desc g ds) o
            pick none t = λ c fc h k gk. step c fc h k gk ∙ t c fc h k gk
            pick (some e) t = (t.0, λ c fc h k gk. step c fc h k gk ∙ t.1 c fc h k gk)

        go : (o : Option Graph) → join gs ≡ o → Tidied C (desc g ds) (elim o [ none ↦ none | some g' ↦ again (desc g' ds') ])
        go none e = λ c fc h k gk. start c fc h k gk
            ∙ run_dead (choices_all ds') (c ++ gs) k (choices_all_fine ds' p) gk (fcgs c fc)
            (clash_stays gs (c ++ gs) fgs (fcgs c fc) (in_r c gs) e)
        go (some g') e = next g' e (again (desc g' ds')) (A (desc g' ds') (join_canonical gs fgs g' e, p))

  holds_both : (C g : Graph) → Canonical C → Canonical g → (K : Graph) → join (C ∷ g ∷ []) ≡ some K → (c : List Graph) → All Canonical c →
      Holds C c → Holds K (c ++ g ∷ [])
  holds_both C g cC cg K e c fc h hs fh q =
      let both : List Graph = C ∷ g ∷ [] in
      let cb : All Canonical both = (cC, (cg, tt)) in
      let cgs : List Graph = c ++ g ∷ [] in
      let fcgs : All Canonical cgs = canon_append c (g ∷ []) fc (cg, tt) in
      let fa : Fine (cgs ++ both) = (simp length-append (omega arith), canon_append cgs both fcgs cb) in
      let fb : Fine (c ++ both) = (simp length-append (omega arith), canon_append c both fc cb) in
      let e₁ : join (cgs ++ hs) ≡ join (c ++ g ∷ hs) = ap join (append_assoc c (g ∷ []) hs) in
      let e₂ : join (c ++ g ∷ hs) ≡ join (c ++ C ∷ g ∷ hs) = h (g ∷ hs) (cg, fh) (omega arith) in
      let e₃ : join ((c ++ both) ++ hs) ≡ join (c ++ C ∷ g ∷ hs) = ap join (append_assoc c both hs) in
      let e₄ : join ((cgs ++ both) ++ hs) ≡ join ((c ++ both) ++ hs) = alike_set (cgs ++ both) (c ++ both) fa fb
      (within_both cgs both (c ++ both) (within_both c (g ∷ []) (c ++ both) (in_l c both) (λ x m. Memᴰ.append_right c (Memᴰ.tail m)))
      (in_r c both))
      (within_both c both (cgs ++ both) (in_ll c (g ∷ []) both) (in_r cgs both)) hs fh in
      let e₅ : join ((cgs ++ K ∷ []) ++ hs) ≡ join ((cgs ++ both) ++ hs) = alike_after cgs both fcgs (omega arith, cb) K e hs fh in
      let e₆ : join ((cgs ++ K ∷ []) ++ hs) ≡ join (cgs ++ K ∷ hs) = ap join (append_assoc cgs (K ∷ []) hs) in
      e₁ ∙ e₂ ∙ sym e₃ ∙ sym e₄ ∙ sym e₅ ∙ e₆

  pub tidy_ok : (n : ℕ) (C : Graph) → Canonical C → (d : Desc Graph) → Can d → Tidied C d (tidy J n C d)
  unfolding tidy
  tidy_ok zero C cC d p = (p, λ c fc h k g. refl)
  tidy_ok (suc n) C cC (desc g ds) p = go (join (C ∷ g ∷ [])) refl (λ K cK. tidy_ok n K cK)
    where
      both : List Graph
      both = C ∷ g ∷ []

      fboth : Fine both
      fboth = (omega arith, (cC, (p.0, tt)))

      fcg : (c : List Graph) → All Canonical c → Fine (c ++ g ∷ [])
      fcg c fc = (simp length-append (omega arith), canon_append c (g ∷ []) fc (p.0, tt))

      fcb : (c : List Graph) → All Canonical c → Fine (c ++ both)
      fcb c fc = (simp length-append (omega arith), canon_append c both fc fboth.1)

      -- what holds of the context holds of it with g, and so does the join
      holds_join : (K : Graph) → join both ≡ some K → (c : List Graph) → All Canonical c → Holds C c → Holds K (c ++ g ∷ [])
      holds_join = holds_both C g cC p.0

      go : (o : Option Graph) → join both ≡ o → ((K : Graph) → Canonical K → (d : Desc Graph) → Can d → Tidied K d (tidy J n K d)) →
          Tidied C (desc g ds) (elim o [
            | none ↦ none
            | some K ↦ elim (round J (tidy J n K) ds) [ none ↦ none | some r ↦ finish J (tidy J n C) g r.left r.folded ]
          ])
      go none e t = λ c fc h k gk. run_each (g ∷ []) (choices_all ds) c k
          ∙ run_dead (choices_all ds) (c ++ g ∷ []) k (choices_all_fine ds p.1) gk (fcg c fc) (h (g ∷ []) (p.0, tt) (omega arith)
          ∙ clash_stays both (c ++ both) fboth (fcb c fc) (in_r c both) e)
      go (some K) e t = two (round J (tidy J n K) ds) (round_ok K cK (tidy J n K) (t K cK) ds p.1)
        where
          cK : Canonical K
          cK = join_canonical both fboth K e

          two : (o : Option (Round Graph)) → Rounded K ds o →
              Tidied C (desc g ds) (elim o [ none ↦ none | some r ↦ finish J (tidy J n C) g r.left r.folded ])
          two none s = λ c fc h k gk. run_each (g ∷ []) (choices_all ds) c k ∙ s (c ++ g ∷ []) (fcg c fc) (holds_join K e c fc h) k gk
          two (some r) s = finish_ok C cC (tidy J n C) (t C cC) g p.0 ds r.left r.folded s.0 s.1
              (λ c fc h k gk. s.2 (c ++ g ∷ []) (fcg c fc) (holds_join K e c fc h) k gk)
