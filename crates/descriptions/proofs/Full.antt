-- Mode 2 keeps the readings.
-- Assumes nothing.
use mathlib.Core.Path.{◌≡◌, refl, ap, sym, ◌∙◌, subst}
use mathlib.Core.Logic.{◌⊎◌, inl, inr, ⊎_elim}
use mathlib.Core.Bool.{Bool, true, false}
use mathlib.Core.Option.{Option, none, some}
use mathlib.Core.List.Memᴰ
use mathlib.Core.List.{List, [], ◌∷◌, ◌++◌, append_assoc, append-nil, Memᴰ}
use native.Mathlib.Omega.{arith}
use lib.ListN.{length-append}
use Rattle.descriptions.proofs.Laws.{Laws}
use Rattle.descriptions.specs.Descr.{Alts, Desc, Disjs, ◌and◌, ◌or◌, agree, answers, choices, choices_all, choices_any, desc, each}
use Rattle.descriptions.specs.Descr.{end, fail, pairs}
use Rattle.descriptions.specs.Modes.{Round, fold, fold_all, fold_any, folded_in, glue, in_place, prune, prune_all, prune_any}
use Rattle.descriptions.specs.Modes.{some_agree}
use Rattle.descriptions.proofs.Mean.{AllFine, Can, CanAll, CanAny, Fine, Good, Holds, Rounded, after_ok, alike_set, canon_append}
use Rattle.descriptions.proofs.Mean.{choices_all_fine, choices_any_fine, choices_fine, clash_stays, fine_append, glue_after}
use Rattle.descriptions.proofs.Mean.{glue_canonical, glue_none, good_run, in_l, in_r, run, run_append, run_cong, run_dead, run_each}
use Rattle.descriptions.proofs.Mean.{run_none, run_pairs, run_same, within_both}
use Rattle.descriptions.proofs.Quick.{good_leaf, leaf, meanings, nil_holds, one}
use Rattle.descriptions.specs.Joining.{Joining}
use Rattle.descriptions.specs.Canonical.{All}

module _ {Graph : Type 0} where
  -- membership of a choice in a list of choices
  pub each_in : (a : List Graph) (l : List (List Graph)) (r : List Graph) → Memᴰ r l → Memᴰ (a ++ r) (each a l)
  each_in a [] r m = absurd (Memᴰ.not-nil m)
  each_in a (s ∷ l) r m = ⊎_elim (λ e. Memᴰ.head (ap (λ (z : List Graph). a ++ z) e)) (λ i. Memᴰ.tail (each_in a l r i))
      (Memᴰ.cases_cons m)

  pub each_from : (a : List Graph) (l : List (List Graph)) (r : List Graph) → Memᴰ r (each a l) →
      (s : List Graph) × Memᴰ s l × (r ≡ a ++ s)
  each_from a [] r m = absurd (Memᴰ.not-nil m)
  each_from a (s ∷ l) r m = go (Memᴰ.cases_cons m) (each_from a l r)
    where
      go : (r ≡ a ++ s) ⊎ Memᴰ r (each a l) → (Memᴰ r (each a l) → (s : List Graph) × Memᴰ s l × (r ≡ a ++ s)) →
          (t : List Graph) × Memᴰ t (s ∷ l) × (r ≡ a ++ t)
      go (inl e) f = (s, Memᴰ.head refl, e)
      go (inr i) f = let (t, j, e) = f i in (t, Memᴰ.tail j, e)

  pub pairs_in : (l m : List (List Graph)) (r s : List Graph) → Memᴰ r l → Memᴰ s m → Memᴰ (r ++ s) (pairs l m)
  pairs_in [] m r s i j = absurd (Memᴰ.not-nil i)
  pairs_in (a ∷ l) m r s i j = ⊎_elim
      (λ e. Memᴰ.append_left (pairs l m) (subst (λ (z : List Graph). Memᴰ (z ++ s) (each a m)) (sym e) (each_in a m s j)))
      (λ k. Memᴰ.append_right (each a m) (pairs_in l m r s k j)) (Memᴰ.cases_cons i)

  pub pairs_from : (l m : List (List Graph)) (r : List Graph) → Memᴰ r (pairs l m) →
      (x : List Graph) × (y : List Graph) × Memᴰ x l × Memᴰ y m × (r ≡ x ++ y)
  pairs_from [] m r i = absurd (Memᴰ.not-nil i)
  pairs_from (a ∷ l) m r i = go (Memᴰ.append_cases (each a m) i) (pairs_from l m r)
    where
      Out : List (List Graph) → Type 0
      Out l = (x : List Graph) × (y : List Graph) × Memᴰ x l × Memᴰ y m × (r ≡ x ++ y)

      go : Memᴰ r (each a m) ⊎ Memᴰ r (pairs l m) → (Memᴰ r (pairs l m) → Out l) → Out (a ∷ l)
      go (inl j) f = let (y, k, e) = each_from a m r j in (a, y, Memᴰ.head refl, k, e)
      go (inr j) f = let (x, y, p, q, e) = f j in (x, y, Memᴰ.tail p, q, e)

  abbrev pub whole : List (List Graph)
  whole = [] ∷ []

module _ {Graph : Type 0} (J : Joining Graph) where
  open J use {join}

  pub data SomeAgree (l : List (List Graph)) : Bool → Type 0 where
    agrees : SomeAgree l true
    none_agrees : ((c : List Graph) → Memᴰ c l → join c ≡ none) → SomeAgree l false

  pub some_agree_view : (l : List (List Graph)) → SomeAgree l (some_agree J l)
  unfolding some_agree agree
  some_agree_view [] = none_agrees (λ c m. absurd (Memᴰ.not-nil m))
  some_agree_view (c ∷ l) = go (join c) refl (some_agree J l) (some_agree_view l)
    where
      later : join c ≡ none → (b : Bool) → SomeAgree l b → SomeAgree (c ∷ l) b
      later e true agrees = agrees
      later e false (none_agrees f) = none_agrees (λ d m. ⊎_elim (λ p. ap join p ∙ e) (f d) (Memᴰ.cases_cons m))

      go : (o : Option Graph) → join c ≡ o → (b : Bool) → SomeAgree l b → SomeAgree (c ∷ l) (elim (answers o) [ true ↦ true | false ↦ b ])
      go none e b v = later e b v
      go (some G) e b v = agrees

  -- the choices left are among the choices
  sub_or : (d : Desc Graph) (a : Alts Graph) (others : List (List Graph)) (r : List Graph) (t : Bool) →
      (Memᴰ r (choices (prune J others d)) → Memᴰ r (choices d)) →
      (Memᴰ r (choices_any (prune_any J others a)) → Memᴰ r (choices_any a)) →
      Memᴰ r (choices_any {Graph = Graph} (elim t [ true ↦ prune J others d or prune_any J others a | false ↦ prune_any J others a ]))
      → Memᴰ r (choices_any (d or a))
  sub_or d a others r true f g m =
      ⊎_elim (λ i. Memᴰ.append_left (choices_any a) (f i)) (λ i. Memᴰ.append_right (choices d) (g i))
      (Memᴰ.append_cases (choices (prune J others d)) m)
  sub_or d a others r false f g m = Memᴰ.append_right (choices d) (g m)

  mutual
    unfolding prune

    sub : (d : Desc Graph) (others : List (List Graph)) (r : List Graph) → Memᴰ r (choices (prune J others d)) →
        Memᴰ r (choices d)
    sub (desc g ds) others r m = let (s, i, e) = each_from (g ∷ []) (choices_all (prune_all J (pairs others ((g ∷ []) ∷ [])) ds)) r m in
        subst (λ (z : List Graph). Memᴰ z (choices (desc g ds))) (sym e)
        (each_in (g ∷ []) (choices_all ds) s (sub_all ds (pairs others ((g ∷ []) ∷ [])) s i))

    sub_all : (ds : Disjs Graph) (others : List (List Graph)) (r : List Graph) → Memᴰ r (choices_all (prune_all J others ds)) →
        Memᴰ r (choices_all ds)
    sub_all end others r m = m
    sub_all (a and ds) others r m =
        let (x, y, i, j, e) = pairs_from (choices_any (prune_any J (pairs others (choices_all ds)) a))
        (choices_all (prune_all J (pairs others (choices_any a)) ds)) r m in
        subst (λ (z : List Graph). Memᴰ z (choices_all (a and ds))) (sym e)
        (pairs_in (choices_any a) (choices_all ds) x y (sub_any a (pairs others (choices_all ds)) x i)
        (sub_all ds (pairs others (choices_any a)) y j))

    sub_any : (a : Alts Graph) (others : List (List Graph)) (r : List Graph) → Memᴰ r (choices_any (prune_any J others a)) →
        Memᴰ r (choices_any a)
    sub_any fail others r m = m
    sub_any (d or a) others r m = sub_or d a others r (some_agree J (pairs others (choices d))) (λ i. sub d others r i)
        (λ i. sub_any a others r i) m

module _ {Graph : Type 0} {J : Joining Graph} (𝓛 : Laws J) where
  open J use {join, nil}
  open 𝓛 use {Canonical, nil_canonical}

  -- folding
  nil_holds_any : (c : List Graph) → All Canonical c → Holds 𝓛 nil c
  nil_holds_any c f hs fh p =
      let a : List Graph = c ++ hs in
      let fa : All Canonical a = canon_append 𝓛 c hs f fh in
      let e : join a ≡ join (nil ∷ a) = nil_holds 𝓛 a fa (simp length-append (omega arith)) in
      let b : List Graph = c ++ nil ∷ hs in
      let fb : Fine 𝓛 b = (simp length-append (omega arith), canon_append 𝓛 c (nil ∷ hs) f (nil_canonical, fh)) in
      let s : join ((nil ∷ a) ++ []) ≡ join (b ++ []) = alike_set 𝓛 (nil ∷ a) b (omega arith, (nil_canonical, fa)) fb
      (within_both (nil ∷ []) a b (λ g m. Memᴰ.append_right c (Memᴰ.append_left hs m))
      (within_both c hs b (in_l c (nil ∷ hs)) (λ g m. Memᴰ.append_right c (Memᴰ.tail m))))
      (within_both c (nil ∷ hs) (nil ∷ a) (λ g m. Memᴰ.tail (Memᴰ.append_left hs m))
      (within_both (nil ∷ []) hs (nil ∷ a) (in_l (nil ∷ []) a) (λ g m. Memᴰ.tail (Memᴰ.append_right c m)))) [] tt in
      e ∙ sym (ap join (append-nil (nil ∷ a))) ∙ s ∙ ap join (append-nil b)

  abbrev pub Keeps : Desc Graph → Desc Graph → Type 0
  Keeps d e = Can 𝓛 e × ((c : List Graph) → All Canonical c → (k : List Graph → List Graph) → Good 𝓛 k →
      run (choices d) c k ≡ run (choices e) c k)

  abbrev pub KeepsAny : Alts Graph → Alts Graph → Type 0
  KeepsAny a b = CanAny 𝓛 b × ((c : List Graph) → All Canonical c → (k : List Graph → List Graph) → Good 𝓛 k →
      run (choices_any a) c k ≡ run (choices_any b) c k)

  in_place_ok : (a : Alts Graph) → CanAny 𝓛 a → (ds : Disjs Graph) (r : Round Graph) → Rounded 𝓛 nil ds (some r) →
      Rounded 𝓛 nil (a and ds) (some (in_place J a r))
  in_place_ok fail ca ds r R = (R.0, (tt, R.1), λ c f h k g. refl)
  in_place_ok (desc g' ds' or fail) ca ds r R = after_ok 𝓛 nil nil_canonical ds r R (desc g' ds' or fail) ca
  in_place_ok (d or (e or a)) ca ds r R = after_ok 𝓛 nil nil_canonical ds r R (d or (e or a)) ca

  folded_ok : (g : Graph) → Canonical g → (ds : Disjs Graph) (r : Round Graph) → Rounded 𝓛 nil ds (some r) → (o : Option Graph) →
      glue J g r.folded ≡ o → Keeps (desc g ds) (folded_in g r o)
  unfolding folded_in
  folded_ok g cg ds r R o e = go o e
    where
      gs : List Graph
      gs = g ∷ r.folded

      fgs : Fine 𝓛 gs
      fgs = (omega arith, (cg, R.0))

      fcgs : (c : List Graph) → All Canonical c → Fine 𝓛 (c ++ gs)
      fcgs c fc = (simp length-append (omega arith), canon_append 𝓛 c gs fc fgs.1)

      start : (c : List Graph) → All Canonical c → (k : List Graph → List Graph) → Good 𝓛 k →
          run (choices (desc g ds)) c k ≡ run (choices_all r.left) (c ++ gs) k
      start c fc k gk =
          let f : Fine 𝓛 (c ++ g ∷ []) = (simp length-append (omega arith), canon_append 𝓛 c (g ∷ []) fc (cg, tt)) in
          run_each (g ∷ []) (choices_all ds) c k ∙ R.2 (c ++ g ∷ []) f (nil_holds_any (c ++ g ∷ []) f.1) k gk
          ∙ ap (λ (z : List Graph). run (choices_all r.left) z k) (append_assoc c (g ∷ []) r.folded)

      go : (o : Option Graph) → glue J g r.folded ≡ o → Keeps (desc g ds) (folded_in g r o)
      go none e = (
        (cg, (tt, tt)),
        λ c fc k gk. start c fc k gk
            ∙ run_dead 𝓛 (choices_all r.left) (c ++ gs) k (choices_all_fine 𝓛 r.left R.1) gk (fcgs c fc)
            (clash_stays 𝓛 gs (c ++ gs) fgs (fcgs c fc) (in_r c gs) (glue_none J g r.folded e)),
      )
      go (some K) e =
          let cK : Canonical K = glue_canonical 𝓛 g cg r.folded R.0 K e in (
            (cK, R.1),
            λ c fc k gk. start c fc k gk
                ∙ sym (run_same 𝓛 (choices_all r.left) (c ++ K ∷ []) (c ++ gs) k (choices_all_fine 𝓛 r.left R.1) gk
                (simp length-append (omega arith), canon_append 𝓛 c (K ∷ []) fc (cK, tt)) (fcgs c fc)
                (glue_after 𝓛 g cg c r.folded fc R.0 K e))
                ∙ sym (run_each (K ∷ []) (choices_all r.left) c k),
          )

  carry_any : (a b : Alts Graph) (ds : Disjs Graph) → KeepsAny a b → CanAll 𝓛 ds → (o : Option (Round Graph)) → Rounded 𝓛 nil (b and ds) o →
      Rounded 𝓛 nil (a and ds) o
  carry_any a b ds K p o s = go o s
    where
      first : (c : List Graph) → Fine 𝓛 c → (k : List Graph → List Graph) → Good 𝓛 k →
          run (choices_all (a and ds)) c k ≡ run (choices_all (b and ds)) c k
      first c f k g = run_pairs (choices_any a) (choices_all ds) c k
          ∙ K.1 c f.1 (λ d. run (choices_all ds) d k) (good_run 𝓛 (choices_all ds) k (choices_all_fine 𝓛 ds p) g)
          ∙ sym (run_pairs (choices_any b) (choices_all ds) c k)

      go : (o : Option (Round Graph)) → Rounded 𝓛 nil (b and ds) o → Rounded 𝓛 nil (a and ds) o
      go none s = λ c f h k g. first c f k g ∙ s c f h k g
      go (some r) s = (s.0, s.1, λ c f h k g. first c f k g ∙ s.2 c f h k g)

  mutual
    unfolding fold

    pub fold_ok : (d : Desc Graph) → Can 𝓛 d → Keeps d (fold J d)
    fold_ok (desc g ds) p = folded_ok g p.0 ds (fold_all J ds) (fold_all_ok ds p.1) (glue J g (fold_all J ds).folded) refl

    pub fold_all_ok : (ds : Disjs Graph) → CanAll 𝓛 ds → Rounded 𝓛 nil ds (some (fold_all J ds))
    fold_all_ok end p = (tt, tt, λ c f h k g. ap (λ (z : List Graph). k z ++ []) (sym (append-nil (c ++ []))))
    fold_all_ok (a and ds) p = carry_any a (fold_any J a) ds (fold_any_ok a p.0) p.1
        (some (in_place J (fold_any J a) (fold_all J ds)))
        (in_place_ok (fold_any J a) (fold_any_ok a p.0).0 ds (fold_all J ds) (fold_all_ok ds p.1))

    fold_any_ok : (a : Alts Graph) → CanAny 𝓛 a → KeepsAny a (fold_any J a)
    fold_any_ok fail p = (tt, λ c f k g. refl)
    fold_any_ok (d or a) p =
        let s = fold_ok d p.0 in
        let t = fold_any_ok a p.1 in (
          (s.0, t.0),
          λ c f k g. rw (
            run_append (choices d) (choices_any a) c k,
            run_append (choices (fold J d)) (choices_any (fold_any J a)) c k,
            s.1 c f k g,
            t.1 c f k g,
          ),
        )

  -- pruning: `others` refutes a continuation where all that stands beside does
  abbrev Cover : List (List Graph) → List Graph → (List Graph → List Graph) → Type 0
  Cover others c k = (hs : List Graph) → All Canonical hs → ((o : List Graph) → Memᴰ o others → join (o ++ hs) ≡ none) →
      k (c ++ hs) ≡ []

  abbrev pub AllFull : List (List Graph) → Type 0
  AllFull l = (o : List Graph) → Memᴰ o l → Fine 𝓛 o

  pub fine_full : (others : List (List Graph)) → AllFull others → AllFine 𝓛 others
  fine_full others f o m = (f o m).1

  cover_graph : (others : List (List Graph)) (c : List Graph) (k : List Graph → List Graph) (g : Graph) → Canonical g → Cover others c k →
      Cover (pairs others ((g ∷ []) ∷ [])) (c ++ g ∷ []) k
  cover_graph others c k g cg v hs f h = rw (append_assoc c (g ∷ []) hs) (v (g ∷ hs) (cg, f)
      (λ o m. ap join (sym (append_assoc o (g ∷ []) hs))
      ∙ h (o ++ g ∷ []) (pairs_in others ((g ∷ []) ∷ []) o (g ∷ []) m (Memᴰ.head refl))))

  -- beside an alternative stand the later disjunctions
  cover_rest : (others l : List (List Graph)) (c : List Graph) (k : List Graph → List Graph) → AllFull others → AllFine 𝓛 l →
      Cover others c k → Cover (pairs others l) c (λ d. run l d k)
  cover_rest others l c k fo fl v hs f h = run_none l (c ++ hs) k (λ y m.
      let fy : All Canonical y = fl y m in
      rw (append_assoc c hs y) (v (hs ++ y) (canon_append 𝓛 hs y f fy) (λ o i.
      let fO : Fine 𝓛 o = fo o i in
      let a : List Graph = (o ++ y) ++ hs in
      let b : List Graph = o ++ (hs ++ y) in
      clash_stays 𝓛 a b (fine_append 𝓛 (o ++ y) hs (fine_append 𝓛 o y fO fy) f) (fine_append 𝓛 o (hs ++ y) fO (canon_append 𝓛 hs y f fy))
      (within_both (o ++ y) hs b (within_both o y b (in_l o (hs ++ y)) (λ g j. Memᴰ.append_right o (Memᴰ.append_right hs j)))
      (λ g j. Memᴰ.append_right o (Memᴰ.append_left y j)))
      (h (o ++ y) (pairs_in others l o y i m)))))

  -- beside a later disjunction stands what was chosen
  cover_chosen : (others l : List (List Graph)) (c : List Graph) (k : List Graph → List Graph) (r : List Graph) → All Canonical r →
      Memᴰ r l → Cover others c k → Cover (pairs others l) (c ++ r) k
  cover_chosen others l c k r fr m v hs f h =
      rw (append_assoc c r hs) (v (r ++ hs) (canon_append 𝓛 r hs fr f) (λ o i. ap join (sym (append_assoc o r hs))
      ∙ h (o ++ r) (pairs_in others l o r i m)))

  pub full_pairs : (others l : List (List Graph)) → AllFull others → AllFine 𝓛 l → AllFull (pairs others l)
  full_pairs others l fo fl o m = let (x, y, i, j, e) = pairs_from others l o m in
      subst (Fine 𝓛) (sym e) (fine_append 𝓛 x y (fo x i) (fl y j))

  pub full_graph : (others : List (List Graph)) (g : Graph) → Canonical g → AllFine 𝓛 others → AllFull (pairs others ((g ∷ []) ∷ []))
  full_graph others g cg fo o m =
      let (x, y, i, j, e) = pairs_from others ((g ∷ []) ∷ []) o m in
      let p : y ≡ g ∷ [] = ⊎_elim (λ q. q) (λ n. absurd (Memᴰ.not-nil n)) (Memᴰ.cases_cons j) in
      let f : Fine 𝓛 (x ++ g ∷ []) = (simp length-append (omega arith), canon_append 𝓛 x (g ∷ []) (fo x i) (cg, tt)) in
      subst (Fine 𝓛) (sym (e ∙ ap (λ (z : List Graph). x ++ z) p)) f

  prune_or : (d : Desc Graph) (a : Alts Graph) (others : List (List Graph)) (c : List Graph) (k : List Graph → List Graph) → Can 𝓛 d →
      Cover others c k →
      (run (choices d) c k ≡ run (choices (prune J others d)) c k) →
      (run (choices_any a) c k ≡ run (choices_any (prune_any J others a)) c k) →
      (t : Bool) → SomeAgree J (pairs others (choices d)) t →
      run (choices_any (d or a)) c k
      ≡ run (choices_any {Graph = Graph} (elim t [ true ↦ prune J others d or prune_any J others a | false ↦ prune_any J others a ])) c
      k
  prune_or d a others c k p v e f true agrees =
      rw (
        run_append (choices d) (choices_any a) c k,
        run_append (choices (prune J others d)) (choices_any (prune_any J others a)) c k,
        e,
        f,
      )
  prune_or d a others c k p v e f false (none_agrees n) =
      let z : run (choices d) c k ≡ [] =
      run_none (choices d) c k (λ r m. v r (choices_fine 𝓛 d p r m) (λ o i. n (o ++ r) (pairs_in others (choices d) o r i m))) in
      rw (run_append (choices d) (choices_any a) c k, z) f

  mutual
    unfolding prune

    pub prune_ok : (d : Desc Graph) → Can 𝓛 d → (others : List (List Graph)) → AllFine 𝓛 others → (c : List Graph) → All Canonical c →
        (k : List Graph → List Graph) → Good 𝓛 k → Cover others c k → run (choices d) c k ≡ run (choices (prune J others d)) c k
    prune_ok (desc g ds) p others fo c fc k gk v =
        run_each (g ∷ []) (choices_all ds) c k
        ∙ prune_all_ok ds p.1 (pairs others ((g ∷ []) ∷ [])) (full_graph others g p.0 fo) (c ++ g ∷ [])
        (canon_append 𝓛 c (g ∷ []) fc (p.0, tt)) k gk (cover_graph others c k g p.0 v)
        ∙ sym (run_each (g ∷ []) (choices_all (prune_all J (pairs others ((g ∷ []) ∷ [])) ds)) c k)

    prune_all_ok : (ds : Disjs Graph) → CanAll 𝓛 ds → (others : List (List Graph)) → AllFull others → (c : List Graph) → All Canonical c →
        (k : List Graph → List Graph) → Good 𝓛 k → Cover others c k →
        run (choices_all ds) c k ≡ run (choices_all (prune_all J others ds)) c k
    prune_all_ok end p others fo c fc k gk v = refl
    prune_all_ok (a and ds) p others fo c fc k gk v =
        let fa = choices_any_fine 𝓛 a p.0 in
        let fd = choices_all_fine 𝓛 ds p.1 in
        let o₁ = pairs others (choices_all ds) in
        let o₂ = pairs others (choices_any a) in
        let a' = prune_any J o₁ a in
        let ds' = prune_all J o₂ ds in
        run_pairs (choices_any a) (choices_all ds) c k
        ∙ prune_any_ok a p.0 o₁ (full_pairs others (choices_all ds) fo fd) c fc (λ d. run (choices_all ds) d k)
        (good_run 𝓛 (choices_all ds) k fd gk) (cover_rest others (choices_all ds) c k fo fd v)
        ∙ run_cong (choices_any a') c c (λ d. run (choices_all ds) d k) (λ d. run (choices_all ds') d k)
        (λ r m. let i = sub_any J a o₁ r m in
        prune_all_ok ds p.1 o₂ (full_pairs others (choices_any a) fo fa) (c ++ r) (canon_append 𝓛 c r fc (fa r i)) k gk
        (cover_chosen others (choices_any a) c k r (fa r i) i v))
        ∙ sym (run_pairs (choices_any a') (choices_all ds') c k)

    prune_any_ok : (a : Alts Graph) → CanAny 𝓛 a → (others : List (List Graph)) → AllFull others → (c : List Graph) → All Canonical c →
        (k : List Graph → List Graph) → Good 𝓛 k → Cover others c k → run (choices_any a) c k ≡ run (choices_any (prune_any J others a)) c k
    prune_any_ok fail p others fo c fc k gk v = refl
    prune_any_ok (d or a) p others fo c fc k gk v =
        prune_or d a others c k p.0 v (prune_ok d p.0 others (fine_full others fo) c fc k gk v)
        (prune_any_ok a p.1 others fo c fc k gk v) (some_agree J (pairs others (choices d)))
        (some_agree_view J (pairs others (choices d)))

  can_or : (d e : Desc Graph) (a : Alts Graph) (t : Bool) → Can 𝓛 e → CanAny 𝓛 a → CanAny 𝓛 (elim t [ true ↦ e or a | false ↦ a ])
  can_or d e a true p q = (p, q)
  can_or d e a false p q = q

  mutual
    unfolding prune

    pub prune_can : (d : Desc Graph) → Can 𝓛 d → (others : List (List Graph)) → Can 𝓛 (prune J others d)
    prune_can (desc g ds) p others = (p.0, prune_all_can ds p.1 (pairs others ((g ∷ []) ∷ [])))

    prune_all_can : (ds : Disjs Graph) → CanAll 𝓛 ds → (others : List (List Graph)) → CanAll 𝓛 (prune_all J others ds)
    prune_all_can end p others = tt
    prune_all_can (a and ds) p others =
        (prune_any_can a p.0 (pairs others (choices_all ds)), prune_all_can ds p.1 (pairs others (choices_any a)))

    prune_any_can : (a : Alts Graph) → CanAny 𝓛 a → (others : List (List Graph)) → CanAny 𝓛 (prune_any J others a)
    prune_any_can fail p others = tt
    prune_any_can (d or a) p others =
        can_or d (prune J others d) (prune_any J others a) (some_agree J (pairs others (choices d))) (prune_can d p.0 others)
        (prune_any_can a p.1 others)

  pub whole_fine : AllFine 𝓛 whole
  whole_fine r m = ⊎_elim (λ e. subst (All Canonical) (sym e) tt) (λ i. absurd (Memᴰ.not-nil i)) (Memᴰ.cases_cons m)

  -- dropping and folding keep every reading, with its graph, in its place
  pub full_means : (d : Desc Graph) → Can 𝓛 d → meanings J (fold J (prune J whole d)) ≡ meanings J d
  unfolding meanings
  full_means d p =
      let e : Desc Graph = prune J whole d in
      let f = fold_ok e (prune_can d p whole) in
      sym (prune_ok d p whole whole_fine [] tt (leaf J) (good_leaf 𝓛) (λ hs fh h. ap one (h [] (Memᴰ.head refl)))
      ∙ f.1 [] tt (leaf J) (good_leaf 𝓛))
