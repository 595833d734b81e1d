-- Pruning keeps every consistent choice, what is left is live, and so folding after pruning never clashes and leaves no disjunction
-- with fewer than two alternatives.
-- Assumes nothing.
use mathlib.Core.Path.{◌≡◌, refl, ap, sym, ◌∙◌, subst}
use mathlib.Core.Logic.{◌⊎◌, inl, inr, ⊎_elim}
use mathlib.Core.Bool.{Bool, true, false}
use mathlib.Core.Option.{Option, none, some}
use mathlib.Core.List.Memᴰ
use mathlib.Core.List.{List, [], ◌∷◌, ◌++◌, append_assoc, Memᴰ}
use Prim.Native.Nat.{ℕ, zero, suc, ◌+◌, ◌≤◌, ◌<◌}
use native.Mathlib.Omega.{arith}
use lib.ListN.{length-append}
use Rattle.descriptions.specs.Descr.{Alts, Desc, Disjs, ◌and◌, ◌or◌, agree, alts, answers, choices, choices_all, choices_any, desc}
use Rattle.descriptions.specs.Descr.{end, fail, pairs}
use Rattle.descriptions.specs.Modes.{Round, fold, fold_all, fold_any, folded_in, full, glue, in_place, joined, prune, prune_all}
use Rattle.descriptions.specs.Modes.{prune_any, some_agree, Glues}
use Rattle.descriptions.proofs.Laws.{Laws, Within}
use Rattle.descriptions.proofs.Mean.{AllFine, Can, CanAll, CanAny, Fine, canon_append, choices_all_fine, choices_any_fine}
use Rattle.descriptions.proofs.Mean.{choices_fine, clash_stays, fine_append, in_l, in_r, run, within_both}
use Rattle.descriptions.proofs.Quick.{good_leaf, leaf, one}
use Rattle.descriptions.proofs.Full.{AllFull, SomeAgree, each_from, each_in, fine_full, fold_ok, full_graph, full_pairs, none_agrees}
use Rattle.descriptions.proofs.Full.{pairs_from, pairs_in, some_agree_view, whole, whole_fine}
use Rattle.descriptions.proofs.Soft.{JoinKept, RoundKept, Soft, SoftAll, SoftAny, glue_kept, joined_kept, len, len_all, len_any}
use Rattle.descriptions.proofs.Soft.{len_then, soft_all_up, soft_can, soft_then}
use Rattle.descriptions.specs.Joining.{Joining}
use Rattle.descriptions.proofs.Weights.{Weights}

module _ {Graph : Type 0} where
  -- pruning keeps the consistent choices
  pub beside_within : (o x y : List Graph) → Within ((o ++ y) ++ x) (o ++ (x ++ y))
  beside_within o x y = within_both (o ++ y) x (o ++ (x ++ y))
      (within_both o y (o ++ (x ++ y)) (in_l o (x ++ y)) (λ g m. Memᴰ.append_right o (Memᴰ.append_right x m)))
      (λ g m. Memᴰ.append_right o (Memᴰ.append_left y m))

  kept_or : (d e : Desc Graph) (a b : Alts Graph) (r : List Graph) (t : Bool) →
      (Memᴰ r (choices d) → (t ≡ true) × Memᴰ r (choices e)) → (Memᴰ r (choices_any a) → Memᴰ r (choices_any b)) →
      Memᴰ r (choices_any (d or a)) → Memᴰ r (choices_any {Graph = Graph} (elim t [ true ↦ e or b | false ↦ b ]))
  kept_or d e a b r true f g m =
      ⊎_elim (λ i. Memᴰ.append_left (choices_any b) (f i).1) (λ i. Memᴰ.append_right (choices e) (g i))
      (Memᴰ.append_cases (choices d) m)
  kept_or d e a b r false f g m =
      ⊎_elim (λ i. let h = (f i).0 in let z : ◌≡◌ {A = ℕ} 0 1 = cc in absurd (omega arith)) g (Memᴰ.append_cases (choices d) m)

  -- and by folding what is live
  some_alt : (a : Alts Graph) (x : List Graph) → Memᴰ x (choices_any a) → 0 < alts a
  some_alt fail x i = absurd (Memᴰ.not-nil i)
  some_alt (d or a) x i = omega arith

module _ {Graph : Type 0} (J : Joining Graph) where
  open J use {join}

  -- the graphs of a choice can be joined
  abbrev pub Agrees : List Graph → Type 0
  Agrees c = (G : Graph) × (join c ≡ some G)

  pub not_none : (c : List Graph) → Agrees c → join c ≡ none → ⊥
  not_none c a e = let d = a.1 in let z : ◌≡◌ {A = ℕ} 0 1 = cc in omega arith

  pub some_agree_in : (l : List (List Graph)) (c : List Graph) → Memᴰ c l → Agrees c → some_agree J l ≡ true
  some_agree_in l c i a = go (some_agree J l) (some_agree_view J l)
    where
      go : (t : Bool) → SomeAgree J l t → t ≡ true
      go true s = refl
      go false (none_agrees n) = absurd (not_none c a (n c i))

  pub some_agree_from : (l : List (List Graph)) → some_agree J l ≡ true → (c : List Graph) × Memᴰ c l × Agrees c
  unfolding some_agree agree
  some_agree_from [] e = let z : ◌≡◌ {A = ℕ} 0 1 = cc in absurd (omega arith)
  some_agree_from (c ∷ l) e = go (join c) refl (some_agree_from l) e
    where
      go : (o : Option Graph) → join c ≡ o → (some_agree J l ≡ true → (c : List Graph) × Memᴰ c l × Agrees c) →
          ◌≡◌ {A = Bool} (elim (answers o) [ true ↦ true | false ↦ some_agree J l ]) true →
          (d : List Graph) × Memᴰ d (c ∷ l) × Agrees d
      go none e s h = let (d, i, a) = s h in (d, Memᴰ.tail i, a)
      go (some G) e s h = (c, Memᴰ.head refl, (G, e))

  -- a live description has a consistent choice, and so has every alternative, at every depth
  abbrev mutual
    pub Live : Desc Graph → Type 0
    Live (desc g ds) = ((r : List Graph) × Memᴰ r (choices (desc g ds)) × Agrees r) × LiveAll ds

    pub LiveAll : Disjs Graph → Type 0
    LiveAll end = Unit {0}
    LiveAll (a and ds) = LiveAny a × LiveAll ds

    pub LiveAny : Alts Graph → Type 0
    LiveAny fail = Unit {0}
    LiveAny (d or a) = Live d × LiveAny a

  live_or : (e : Desc Graph) (b : Alts Graph) (t : Bool) → (t ≡ true → Live e) → LiveAny b → LiveAny (elim t [ true ↦ e or b | false ↦ b ])
  live_or e b true f g = (f refl, g)
  live_or e b false f g = g

  -- folding a live description does not clash
  run_some : (l : List (List Graph)) (r : List Graph) → Memᴰ r l → Agrees r → run l [] (leaf J) ≡ [] → ⊥
  run_some [] r i a e = Memᴰ.not-nil i
  run_some (c ∷ l) r i a e = go (Memᴰ.cases_cons i) (run_some l r) (join c) refl e
    where
      go : (r ≡ c) ⊎ Memᴰ r l → (Memᴰ r l → Agrees r → run l [] (leaf J) ≡ [] → ⊥) → (o : Option Graph) → join c ≡ o →
          one o ++ run l [] (leaf J) ≡ [] → ⊥
      go (inl d) s none f e = not_none r a (ap join d ∙ f)
      go (inr j) s none f e = s j a e
      go w s (some G) f e = let z : ◌≡◌ {A = ℕ} 0 1 = cc in omega arith

  alts_fold : (a : Alts Graph) → alts (fold_any J a) ≡ alts a
  unfolding fold
  alts_fold fail = refl
  alts_fold (d or a) = ap suc (alts_fold a)

module _ {Graph : Type 0} {J : Joining Graph} (𝓛 : Laws J) where
  open J use {join}

  -- what agrees, agrees in part, and in another order
  pub agrees_within : (c d : List Graph) → Fine 𝓛 c → Fine 𝓛 d → Within c d → Agrees J d → Agrees J c
  agrees_within c d p q w a = go (join c) refl
    where
      go : (o : Option Graph) → join c ≡ o → Agrees J c
      go none e = absurd (not_none J d a (clash_stays 𝓛 c d p q w e))
      go (some G) e = (G, e)

  mutual
    unfolding prune

    pub keep : (d : Desc Graph) → Can 𝓛 d → (others : List (List Graph)) → AllFine 𝓛 others → (o r : List Graph) → Memᴰ o others →
        Memᴰ r (choices d) → Agrees J (o ++ r) → Memᴰ r (choices (prune J others d))
    keep (desc g ds) p others fo o r i m a =
        let (s, j, e) = each_from (g ∷ []) (choices_all ds) r m in
        let a' : Agrees J ((o ++ g ∷ []) ++ s) = subst (Agrees J) (ap (λ (z : List Graph). o ++ z) e ∙ sym (append_assoc o (g ∷ []) s)) a in
        subst (λ (z : List Graph). Memᴰ z (choices (prune J others (desc g ds)))) (sym e)
        (each_in (g ∷ []) (choices_all (prune_all J (pairs others ((g ∷ []) ∷ [])) ds)) s
        (keep_all ds p.1 (pairs others ((g ∷ []) ∷ [])) (full_graph 𝓛 others g p.0 fo) (o ++ g ∷ []) s
        (pairs_in others ((g ∷ []) ∷ []) o (g ∷ []) i (Memᴰ.head refl)) j a'))

    pub keep_all : (ds : Disjs Graph) → CanAll 𝓛 ds → (others : List (List Graph)) → AllFull 𝓛 others → (o r : List Graph) →
        Memᴰ o others → Memᴰ r (choices_all ds) → Agrees J (o ++ r) → Memᴰ r (choices_all (prune_all J others ds))
    keep_all end p others fo o r i m a = m
    keep_all (a and ds) p others fo o r i m ag =
        let (x, y, j, k, e) = pairs_from (choices_any a) (choices_all ds) r m in
        let fa = choices_any_fine 𝓛 a p.0 in
        let fd = choices_all_fine 𝓛 ds p.1 in
        let o₁ = pairs others (choices_all ds) in
        let o₂ = pairs others (choices_any a) in
        let fO : Fine 𝓛 o = fo o i in
        let whole_ag : Agrees J (o ++ (x ++ y)) = subst (Agrees J) (ap (λ (z : List Graph). o ++ z) e) ag in
        let f₁ : Fine 𝓛 ((o ++ y) ++ x) = fine_append 𝓛 (o ++ y) x (fine_append 𝓛 o y fO (fd y k)) (fa x j) in
        let f₂ : Fine 𝓛 (o ++ (x ++ y)) = fine_append 𝓛 o (x ++ y) fO (canon_append 𝓛 x y (fa x j) (fd y k)) in
        let u = keep_any a p.0 o₁ (full_pairs 𝓛 others (choices_all ds) fo fd) (o ++ y) x (pairs_in others (choices_all ds) o y i k) j
        (agrees_within ((o ++ y) ++ x) (o ++ (x ++ y)) f₁ f₂ (beside_within o x y) whole_ag) in
        let v = keep_all ds p.1 o₂ (full_pairs 𝓛 others (choices_any a) fo fa) (o ++ x) y (pairs_in others (choices_any a) o x i j) k
        (subst (Agrees J) (sym (append_assoc o x y)) whole_ag) in
        subst (λ (z : List Graph). Memᴰ z (choices_all (prune_all J others (a and ds)))) (sym e)
        (pairs_in (choices_any (prune_any J o₁ a)) (choices_all (prune_all J o₂ ds)) x y u v)

    pub keep_any : (a : Alts Graph) → CanAny 𝓛 a → (others : List (List Graph)) → AllFull 𝓛 others → (o r : List Graph) →
        Memᴰ o others → Memᴰ r (choices_any a) → Agrees J (o ++ r) → Memᴰ r (choices_any (prune_any J others a))
    keep_any fail p others fo o r i m ag = m
    keep_any (d or a) p others fo o r i m ag =
        kept_or d (prune J others d) a (prune_any J others a) r (some_agree J (pairs others (choices d)))
        (λ j. (
          some_agree_in J (pairs others (choices d)) (o ++ r) (pairs_in others (choices d) o r i j) ag,
          keep d p.0 others (fine_full 𝓛 others fo) o r i j ag,
        ))
        (λ j. keep_any a p.1 others fo o r i j ag) m

  choice_full : (d : Desc Graph) → Can 𝓛 d → (r : List Graph) → Memᴰ r (choices d) → Fine 𝓛 r
  choice_full (desc g ds) p r m = let (s, j, e) = each_from (g ∷ []) (choices_all ds) r m in
      (rw e (omega arith), choices_fine 𝓛 (desc g ds) p r m)

  mutual
    unfolding prune

    pub prune_live : (d : Desc Graph) → Can 𝓛 d → (others : List (List Graph)) → AllFine 𝓛 others → (o r : List Graph) →
        Memᴰ o others → Memᴰ r (choices d) → Agrees J (o ++ r) → Live J (prune J others d)
    prune_live (desc g ds) p others fo o r i m a =
        let fr : Fine 𝓛 r = choice_full (desc g ds) p r m in
        let h = fr.0 in
        let f : Fine 𝓛 (o ++ r) = (simp length-append (omega (arith, h)), canon_append 𝓛 o r (fo o i) fr.1) in (
          (r, keep (desc g ds) p others fo o r i m a, agrees_within r (o ++ r) fr f (in_r o r) a),
          prune_all_live ds p.1 (pairs others ((g ∷ []) ∷ [])) (full_graph 𝓛 others g p.0 fo),
        )

    prune_all_live : (ds : Disjs Graph) → CanAll 𝓛 ds → (others : List (List Graph)) → AllFull 𝓛 others → LiveAll J (prune_all J others ds)
    prune_all_live end p others fo = tt
    prune_all_live (a and ds) p others fo = (
      prune_any_live a p.0 (pairs others (choices_all ds)) (full_pairs 𝓛 others (choices_all ds) fo (choices_all_fine 𝓛 ds p.1)),
      prune_all_live ds p.1 (pairs others (choices_any a)) (full_pairs 𝓛 others (choices_any a) fo (choices_any_fine 𝓛 a p.0)),
    )

    prune_any_live : (a : Alts Graph) → CanAny 𝓛 a → (others : List (List Graph)) → AllFull 𝓛 others → LiveAny J (prune_any J others a)
    prune_any_live fail p others fo = tt
    prune_any_live (d or a) p others fo = live_or J (prune J others d) (prune_any J others a) (some_agree J (pairs others (choices d)))
        (λ e. let (c, i, ag) = some_agree_from J (pairs others (choices d)) e in
        let (o, r, j, k, q) = pairs_from others (choices d) c i in
        prune_live d p.0 others (fine_full 𝓛 others fo) o r j k (subst (Agrees J) q ag))
        (prune_any_live a p.1 others fo)

  pub fold_joins : (g : Graph) (ds : Disjs Graph) → Can 𝓛 (desc g ds) → Live J (desc g ds) → Glues J g (fold_all J ds).folded
  unfolding fold folded_in
  fold_joins g ds p l = go (glue J g (fold_all J ds).folded) refl ((fold_ok 𝓛 (desc g ds) p).1 [] tt (leaf J) (good_leaf 𝓛))
    where
      go : (o : Option Graph) → glue J g (fold_all J ds).folded ≡ o →
          run (choices (desc g ds)) [] (leaf J) ≡ run (choices (folded_in g (fold_all J ds) o)) [] (leaf J) →
          Glues J g (fold_all J ds).folded
      go none e h = absurd (run_some J (choices (desc g ds)) l.0.0 l.0.1 l.0.2 h)
      go (some G) e h = (G, e)

  -- a description with a consistent choice is live when pruned
  pub whole_live : (d : Desc Graph) → Can 𝓛 d → some_agree J (choices d) ≡ true → Live J (prune J whole d)
  whole_live d c e = let (r, i, a) = some_agree_from J (choices d) e in prune_live d c whole (whole_fine 𝓛) [] r (Memᴰ.head refl) i a

module _ {Graph : Type 0} {J : Joining Graph} {𝓛 : Laws J} (𝓦 : Weights 𝓛) where
  open 𝓛 use {Canonical}
  open 𝓦 use {SoftGraph}

  -- the limits are kept: by pruning
  prune_or_soft : (n : ℕ) (d e : Desc Graph) (a b : Alts Graph) (t : Bool) → Soft 𝓦 0 e n × (len 𝓦 e ≤ len 𝓦 d) →
      SoftAny 𝓦 0 b n × (len_any 𝓦 b ≤ len_any 𝓦 a) →
      SoftAny 𝓦 0 (elim t [ true ↦ e or b | false ↦ b ]) n × (len_any 𝓦 (elim t [ true ↦ e or b | false ↦ b ]) ≤ len_any 𝓦 (d or a))
  unfolding len
  prune_or_soft n d e a b true p q = let h = p.1 in let k = q.1 in ((p.0, q.0), omega (arith, h, k))
  prune_or_soft n d e a b false p q = let k = q.1 in (q.0, omega (arith, k))

  mutual
    unfolding prune len

    prune_soft : (d : Desc Graph) (m n : ℕ) (others : List (List Graph)) → Soft 𝓦 m d n →
        Soft 𝓦 0 (prune J others d) n × (len 𝓦 (prune J others d) ≤ len 𝓦 d)
    prune_soft (desc g ds) m n others p = let r = prune_all_soft ds m n (pairs others ((g ∷ []) ∷ [])) p.2 in let h = r.1 in
        ((p.0, p.1, r.0), omega (arith, h))

    prune_all_soft : (ds : Disjs Graph) (m n : ℕ) (others : List (List Graph)) → SoftAll 𝓦 m ds n →
        SoftAll 𝓦 0 (prune_all J others ds) n × (len_all 𝓦 (prune_all J others ds) ≤ len_all 𝓦 ds)
    prune_all_soft end m n others p = (tt, omega arith)
    prune_all_soft (a and ds) m zero others p = absurd p
    prune_all_soft (a and ds) m (suc n) others p =
        let u = prune_any_soft a m n (pairs others (choices_all ds)) p.1 in
        let v = prune_all_soft ds m (suc n) (pairs others (choices_any a)) p.2 in
        let h = u.1 in
        let k = v.1 in
        ((omega arith, u.0, v.0), omega (arith, h, k))

    prune_any_soft : (a : Alts Graph) (m n : ℕ) (others : List (List Graph)) → SoftAny 𝓦 m a n →
        SoftAny 𝓦 0 (prune_any J others a) n × (len_any 𝓦 (prune_any J others a) ≤ len_any 𝓦 a)
    prune_any_soft fail m n others p = (tt, omega arith)
    prune_any_soft (d or a) m n others p =
        prune_or_soft n d (prune J others d) a (prune_any J others a) (some_agree J (pairs others (choices d)))
        (prune_soft d m n others p.0) (prune_any_soft a m n others p.1)

  in_place_kept : (n : ℕ) (b a : Alts Graph) (ds : Disjs Graph) (r : Round Graph) → 0 < alts a → SoftAny 𝓦 2 a n →
      len_any 𝓦 a ≤ len_any 𝓦 b → RoundKept 𝓦 (suc n) ds (some r) → RoundKept 𝓦 (suc n) (b and ds) (some (in_place J a r))
  unfolding len
  in_place_kept n b fail ds r z p h R = absurd (omega arith)
  in_place_kept n b (desc g es or fail) ds r z p h R =
      let l = len_then 𝓦 es r.left in
      let k = R.3 in
      ((p.0.0, R.0), (p.0.1, R.1), soft_then 𝓦 2 es r.left (suc n) (soft_all_up 𝓦 2 es n p.0.2) R.2, omega (arith, l, k, h))
  in_place_kept n b (d or (e or a)) ds r z p h R = let k = R.3 in (R.0, R.1, (omega arith, p, R.2), omega (arith, k, h))

  folded_kept : (g : Graph) (ds : Disjs Graph) (n : ℕ) (r : Round Graph) → Canonical g → SoftGraph g → RoundKept 𝓦 n ds (some r) →
      (o : Option Graph) → glue J g r.folded ≡ o → Glues J g r.folded →
      Soft 𝓦 2 (folded_in g r o) n × (len 𝓦 (folded_in g r o) ≤ len 𝓦 (desc g ds))
  unfolding folded_in len
  folded_kept g ds n r c s R none e a = let d : none ≡ some a.0 = sym e ∙ a.1 in let z : ◌≡◌ {A = ℕ} 0 1 = cc in absurd (omega arith)
  folded_kept g ds n r c s R (some k) e a =
      let j = glue_kept 𝓦 g r.folded c R.0 s R.1 k e in
      let w = j.2 in
      let h = R.3 in
      ((j.0, j.1, R.2), omega (arith, w, h))

  mutual
    unfolding fold len

    pub fold_kept : (d : Desc Graph) (n : ℕ) → Soft 𝓦 0 d n → Live J d → Soft 𝓦 2 (fold J d) n × (len 𝓦 (fold J d) ≤ len 𝓦 d)
    fold_kept (desc g ds) n p l =
        let (r, m, a) = l.0 in
        let (s, j, e) = each_from (g ∷ []) (choices_all ds) r m in
        folded_kept g ds n (fold_all J ds) p.0 p.1 (fold_all_kept ds n p.2 l.1 s j) (glue J g (fold_all J ds).folded) refl
        (fold_joins 𝓛 g ds (soft_can 𝓦 0 (desc g ds) n p) l)

    fold_all_kept : (ds : Disjs Graph) (n : ℕ) → SoftAll 𝓦 0 ds n → LiveAll J ds → (s : List Graph) → Memᴰ s (choices_all ds) →
        RoundKept 𝓦 n ds (some (fold_all J ds))
    fold_all_kept end n p l s i = (tt, tt, tt, omega arith)
    fold_all_kept (a and ds) zero p l s i = absurd p
    fold_all_kept (a and ds) (suc n) p l s i =
        let (x, y, j, k, e) = pairs_from (choices_any a) (choices_all ds) s i in
        let u = fold_any_kept a n p.1 l.0 in
        let z = some_alt a x j in
        let q = alts_fold J a in
        in_place_kept n a (fold_any J a) ds (fold_all J ds) (omega (arith, z, q)) u.0 u.1 (fold_all_kept ds (suc n) p.2 l.1 y k)

    fold_any_kept : (a : Alts Graph) (n : ℕ) → SoftAny 𝓦 0 a n → LiveAny J a →
        SoftAny 𝓦 2 (fold_any J a) n × (len_any 𝓦 (fold_any J a) ≤ len_any 𝓦 a)
    fold_any_kept fail n p l = (tt, omega arith)
    fold_any_kept (d or a) n p l = let u = fold_kept d n p.0 l.0 in let v = fold_any_kept a n p.1 l.1 in let h = u.1 in
        let k = v.1 in ((u.0, v.0), omega (arith, h, k))

  -- mode 2
  pub full_kept : (a b : Desc Graph) (n : ℕ) → Soft 𝓦 2 a n → Soft 𝓦 2 b n → JoinKept 𝓦 a b n (full J a b)
  unfolding full
  full_kept a b n p q = go (joined J a b) (joined_kept 𝓦 a b n p q)
    where
      two : (d : Desc Graph) → Soft 𝓦 2 d n → len 𝓦 d + 3 ≤ len 𝓦 a + len 𝓦 b → (t : Bool) → some_agree J (choices d) ≡ t →
          JoinKept 𝓦 a b n (elim t [ true ↦ some (fold J (prune J whole d)) | false ↦ none ])
      two d s h true e =
          let u = prune_soft d 2 n whole s in
          let v = fold_kept (prune J whole d) n u.0 (whole_live 𝓛 d (soft_can 𝓦 2 d n s) e) in
          let k = u.1 in
          let l = v.1 in
          (v.0, omega (arith, h, k, l))
      two d s h false e = tt

      go : (o : Option (Desc Graph)) → JoinKept 𝓦 a b n o →
          JoinKept 𝓦 a b n (elim o [
            | none ↦ none
            | some d ↦ elim (some_agree J (choices d)) [ true ↦ some (fold J (prune J whole d)) | false ↦ none ]
          ])
      go none k = tt
      go (some d) k = two d k.0 k.1 (some_agree J (choices d)) refl
