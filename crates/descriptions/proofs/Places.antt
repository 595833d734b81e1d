-- `full` keeps exactly the alternatives that stand in a consistent choice of the whole, and folding them never clashes.
-- Assumes nothing.
use mathlib.Core.Path.{◌≡◌, refl, ap, ap₂, sym, ◌∙◌, subst}
use mathlib.Core.Logic.{inl, inr, ⊎_elim, ◌↔◌}
use mathlib.Core.Bool.{Bool, true, false}
use mathlib.Core.Option.{Option, none, some}
use mathlib.Core.List.Memᴰ
use mathlib.Core.List.{List, [], ◌∷◌, ◌++◌, append_assoc, Memᴰ}
use Prim.Native.Nat.{ℕ}
use native.Mathlib.Omega.{arith}
use Rattle.descriptions.specs.Descr.{Alts, Desc, Disjs, ◌and◌, ◌or◌, agree, answers, choices, choices_all, choices_any, desc, end}
use Rattle.descriptions.specs.Descr.{fail, pairs}
use Rattle.descriptions.specs.Modes.{fold, full, joined, prune, prune_all, prune_any, some_agree}
use Rattle.descriptions.specs.Places.{Pick, PickAll, PickAny, Place, PlaceAll, PlaceAny, Pruned, StandsIn, StandsInAll, StandsInAny}
use Rattle.descriptions.specs.Places.{only}
use Rattle.descriptions.specs.Places.{only_all, only_any, picked, picked_all, picked_any}
use Rattle.descriptions.proofs.Laws.{Laws, Within}
use Rattle.descriptions.proofs.Mean.{AllFine, Can, CanAll, CanAny, Fine, canon_append, choices_all_fine, choices_any_fine}
use Rattle.descriptions.proofs.Mean.{fine_append, within_both}
use Rattle.descriptions.proofs.Full.{AllFull, each_from, each_in, fine_full, full_graph, full_pairs, pairs_from, pairs_in, prune_can}
use Rattle.descriptions.proofs.Full.{whole, whole_fine}
use Rattle.descriptions.proofs.Live.{Agrees, Live, agrees_within, beside_within, some_agree_from, some_agree_in, whole_live}
use Rattle.descriptions.proofs.Model.{agree_view}
use Rattle.descriptions.specs.Joining.{Joining}
use Rattle.descriptions.specs.Canonical.{All}

module _ {Graph : Type 0} where
  -- the choices are the graphs of the picks
  mutual
    pub pick_in : (d : Desc Graph) (p : Pick d) → Memᴰ (picked d p) (choices d)
    pick_in (desc g ds) p = each_in (g ∷ []) (choices_all ds) (picked_all ds p) (pick_all_in ds p)

    pub pick_all_in : (ds : Disjs Graph) (p : PickAll ds) → Memᴰ (picked_all ds p) (choices_all ds)
    pick_all_in end p = Memᴰ.head refl
    pick_all_in (a and ds) p = pairs_in (choices_any a) (choices_all ds) (picked_any a p.0) (picked_all ds p.1) (pick_any_in a p.0)
        (pick_all_in ds p.1)

    pub pick_any_in : (a : Alts Graph) (p : PickAny a) → Memᴰ (picked_any a p) (choices_any a)
    pick_any_in fail p = absurd p
    pick_any_in (d or a) (inl p) = Memᴰ.append_left (choices_any a) (pick_in d p)
    pick_any_in (d or a) (inr p) = Memᴰ.append_right (choices d) (pick_any_in a p)

  mutual
    pub pick_of : (d : Desc Graph) (r : List Graph) → Memᴰ r (choices d) → (p : Pick d) × (r ≡ picked d p)
    pick_of (desc g ds) r m = let (s, j, e) = each_from (g ∷ []) (choices_all ds) r m in let (p, f) = pick_all_of ds s j in
        (p, e ∙ ap (λ (z : List Graph). g ∷ z) f)

    pub pick_all_of : (ds : Disjs Graph) (r : List Graph) → Memᴰ r (choices_all ds) → (p : PickAll ds) × (r ≡ picked_all ds p)
    pick_all_of end r m = (tt, ⊎_elim (λ e. e) (λ i. absurd (Memᴰ.not-nil i)) (Memᴰ.cases_cons m))
    pick_all_of (a and ds) r m =
        let (x, y, i, j, e) = pairs_from (choices_any a) (choices_all ds) r m in
        let (p, f) = pick_any_of a x i in
        let (q, g) = pick_all_of ds y j in
        ((p, q), e ∙ ap₂ {C = List Graph} ◌++◌ f g)

    pub pick_any_of : (a : Alts Graph) (r : List Graph) → Memᴰ r (choices_any a) → (p : PickAny a) × (r ≡ picked_any a p)
    pick_any_of fail r m = absurd (Memᴰ.not-nil m)
    pick_any_of (d or a) r m = ⊎_elim (λ i. let (p, e) = pick_of d r i in (inl p, e)) (λ i. let (p, e) = pick_any_of a r i in
        (inr p, e)) (Memᴰ.append_cases (choices d) m)

  or_same : (d e : Desc Graph) (a b : Alts Graph) (t : Bool) → d ≡ e → a ≡ b →
      ◌≡◌ {A = Alts Graph} (elim t [ true ↦ d or a | false ↦ a ]) (elim t [ true ↦ e or b | false ↦ b ])
  or_same d e a b true p q = ap₂ {C = Alts Graph} ◌or◌ p q
  or_same d e a b false p q = q

  aside_within : (o x y : List Graph) → Within (o ++ (x ++ y)) ((o ++ y) ++ x)
  aside_within o x y = within_both o (x ++ y) ((o ++ y) ++ x) (λ g m. Memᴰ.append_left x (Memᴰ.append_left y m))
      (within_both x y ((o ++ y) ++ x) (λ g m. Memᴰ.append_right (o ++ y) m) (λ g m. Memᴰ.append_left x (Memᴰ.append_right o m)))

module _ {Graph : Type 0} (J : Joining Graph) where
  -- the test that pruning makes at each place
  abbrev mutual
    keeps : (d : Desc Graph) → List (List Graph) → Place d → Bool
    keeps (desc g ds) others x = keeps_all ds (pairs others ((g ∷ []) ∷ [])) x

    keeps_all : (ds : Disjs Graph) → List (List Graph) → PlaceAll ds → Bool
    keeps_all end others x = false
    keeps_all (a and ds) others (inl x) = keeps_any a (pairs others (choices_all ds)) x
    keeps_all (a and ds) others (inr x) = keeps_all ds (pairs others (choices_any a)) x

    keeps_any : (a : Alts Graph) → List (List Graph) → PlaceAny a → Bool
    keeps_any fail others x = false
    keeps_any (d or a) others (inl (inl u)) = some_agree J (pairs others (choices d))
    keeps_any (d or a) others (inl (inr x)) = keeps d others x
    keeps_any (d or a) others (inr x) = keeps_any a others x

  mutual
    unfolding prune

    prune_only : (d : Desc Graph) (others : List (List Graph)) → prune J others d ≡ only d (keeps d others)
    prune_only (desc g ds) others = ap (desc g) (prune_all_only ds (pairs others ((g ∷ []) ∷ [])))

    prune_all_only : (ds : Disjs Graph) (others : List (List Graph)) → prune_all J others ds ≡ only_all ds (keeps_all ds others)
    prune_all_only end others = refl
    prune_all_only (a and ds) others =
        ap₂ {C = Disjs Graph} ◌and◌ (prune_any_only a (pairs others (choices_all ds))) (prune_all_only ds (pairs others (choices_any a)))

    prune_any_only : (a : Alts Graph) (others : List (List Graph)) → prune_any J others a ≡ only_any a (keeps_any a others)
    prune_any_only fail others = refl
    prune_any_only (d or a) others =
        or_same (prune J others d) (only d (keeps d others)) (prune_any J others a) (only_any a (keeps_any a others))
        (some_agree J (pairs others (choices d))) (prune_only d others) (prune_any_only a others)

  -- an alternative stands in a choice that agrees with one of the others
  abbrev Joins : List (List Graph) → List Graph → Type 0
  Joins others r = (o : List Graph) × Memᴰ o others × Agrees J (o ++ r)

  -- taking g, or what was chosen, among the others
  joins_graph : (others : List (List Graph)) (g : Graph) (s : List Graph) → Joins (pairs others ((g ∷ []) ∷ [])) s ↔ Joins others (g ∷ s)
  joins_graph others g s = (
    λ (o, i, a). let (x, y, j, k, e) = pairs_from others ((g ∷ []) ∷ []) o i in
        let f : y ≡ g ∷ [] = ⊎_elim (λ q. q) (λ n. absurd (Memᴰ.not-nil n)) (Memᴰ.cases_cons k) in
        (x, j, subst (Agrees J) (ap (λ (z : List Graph). z ++ s) (e ∙ ap (λ (z : List Graph). x ++ z) f) ∙ append_assoc x (g ∷ []) s) a),
    λ (o, i, a). (
      o ++ g ∷ [],
      pairs_in others ((g ∷ []) ∷ []) o (g ∷ []) i (Memᴰ.head refl),
      subst (Agrees J) (sym (append_assoc o (g ∷ []) s)) a,
    ),
  )

  agree_of : (r : List Graph) → Agrees J r → agree J r ≡ true
  unfolding agree
  agree_of r (G, e) = ap answers e

module _ {Graph : Type 0} {J : Joining Graph} (𝓛 : Laws J) where
  open J use {join}
  open 𝓛 use {Canonical}

  module _ (others : List (List Graph)) (fo : AllFull 𝓛 others) where
    -- beside an alternative stand the later disjunctions
    joins_later : (l : List (List Graph)) → AllFine 𝓛 l → (x : List Graph) → All Canonical x → Joins J (pairs others l) x →
        (y : List Graph) × Memᴰ y l × Joins J others (x ++ y)
    joins_later l fl x fx (o, i, a) =
        let (p, y, j, k, e) = pairs_from others l o i in
        let fp : Fine 𝓛 p = fo p j in
        let f₁ : Fine 𝓛 ((p ++ y) ++ x) = fine_append 𝓛 (p ++ y) x (fine_append 𝓛 p y fp (fl y k)) fx in
        let f₂ : Fine 𝓛 (p ++ (x ++ y)) = fine_append 𝓛 p (x ++ y) fp (canon_append 𝓛 x y fx (fl y k)) in (
          y,
          k,
          (
            p,
            j,
            agrees_within 𝓛 (p ++ (x ++ y)) ((p ++ y) ++ x) f₂ f₁ (aside_within p x y)
                (subst (Agrees J) (ap (λ (z : List Graph). z ++ x) e) a),
          ),
        )

    later_joins : (l : List (List Graph)) → AllFine 𝓛 l → (x : List Graph) → All Canonical x → (y : List Graph) → Memᴰ y l →
        Joins J others (x ++ y) → Joins J (pairs others l) x
    later_joins l fl x fx y k (o, i, a) =
        let fO : Fine 𝓛 o = fo o i in
        let f₁ : Fine 𝓛 ((o ++ y) ++ x) = fine_append 𝓛 (o ++ y) x (fine_append 𝓛 o y fO (fl y k)) fx in
        let f₂ : Fine 𝓛 (o ++ (x ++ y)) = fine_append 𝓛 o (x ++ y) fO (canon_append 𝓛 x y fx (fl y k)) in
        (o ++ y, pairs_in others l o y i k, agrees_within 𝓛 ((o ++ y) ++ x) (o ++ (x ++ y)) f₁ f₂ (beside_within o x y) a)

    -- beside a later disjunction stands what was chosen
    joins_chosen : (l : List (List Graph)) (y : List Graph) → Joins J (pairs others l) y →
        (x : List Graph) × Memᴰ x l × Joins J others (x ++ y)
    joins_chosen l y (o, i, a) = let (p, x, j, k, e) = pairs_from others l o i in
        (x, k, (p, j, subst (Agrees J) (ap (λ (z : List Graph). z ++ y) e ∙ append_assoc p x y) a))

    chosen_joins : (l : List (List Graph)) (y x : List Graph) → Memᴰ x l → Joins J others (x ++ y) → Joins J (pairs others l) y
    chosen_joins l y x k (o, i, a) = (o ++ x, pairs_in others l o x i k, subst (Agrees J) (sym (append_assoc o x y)) a)

  mutual
    kept_stands : (d : Desc Graph) → Can 𝓛 d → (others : List (List Graph)) → AllFine 𝓛 others → (x : Place d) → keeps J d others x ≡ true →
        (p : Pick d) × StandsIn d x p × Joins J others (picked d p)
    kept_stands (desc g ds) c others fo x h =
        let (p, s, j) = kept_all_stands ds c.1 (pairs others ((g ∷ []) ∷ [])) (full_graph 𝓛 others g c.0 fo) x h in
        (p, s, (joins_graph J others g (picked_all ds p)).0 j)

    kept_all_stands : (ds : Disjs Graph) → CanAll 𝓛 ds → (others : List (List Graph)) → AllFull 𝓛 others → (x : PlaceAll ds) →
        keeps_all J ds others x ≡ true → (p : PickAll ds) × StandsInAll ds x p × Joins J others (picked_all ds p)
    kept_all_stands end c others fo x h = absurd x
    kept_all_stands (a and ds) c others fo (inl x) h =
        let fd = choices_all_fine 𝓛 ds c.1 in
        let (p, s, j) = kept_any_stands a c.0 (pairs others (choices_all ds)) (full_pairs 𝓛 others (choices_all ds) fo fd) x h in
        let (y, k, i) = joins_later others fo (choices_all ds) fd (picked_any a p)
        (choices_any_fine 𝓛 a c.0 (picked_any a p) (pick_any_in a p)) j in
        let (q, e) = pick_all_of ds y k in
        ((p, q), s, subst (λ (z : List Graph). Joins J others (picked_any a p ++ z)) e i)
    kept_all_stands (a and ds) c others fo (inr x) h =
        let fa = choices_any_fine 𝓛 a c.0 in
        let (q, s, j) = kept_all_stands ds c.1 (pairs others (choices_any a)) (full_pairs 𝓛 others (choices_any a) fo fa) x h in
        let (y, k, i) = joins_chosen others fo (choices_any a) (picked_all ds q) j in
        let (p, e) = pick_any_of a y k in
        ((p, q), s, subst (λ (z : List Graph). Joins J others (z ++ picked_all ds q)) e i)

    kept_any_stands : (a : Alts Graph) → CanAny 𝓛 a → (others : List (List Graph)) → AllFull 𝓛 others → (x : PlaceAny a) →
        keeps_any J a others x ≡ true → (p : PickAny a) × StandsInAny a x p × Joins J others (picked_any a p)
    kept_any_stands fail c others fo x h = absurd x
    kept_any_stands (d or a) c others fo (inl (inl u)) h =
        let (r, i, ag) = some_agree_from J (pairs others (choices d)) h in
        let (o, s, j, k, e) = pairs_from others (choices d) r i in
        let (p, f) = pick_of d s k in
        (inl p, tt, (o, j, subst (Agrees J) (e ∙ ap (λ (z : List Graph). o ++ z) f) ag))
    kept_any_stands (d or a) c others fo (inl (inr x)) h = let (p, s, j) = kept_stands d c.0 others (fine_full 𝓛 others fo) x h in
        (inl p, s, j)
    kept_any_stands (d or a) c others fo (inr x) h = let (p, s, j) = kept_any_stands a c.1 others fo x h in (inr p, s, j)

  mutual
    stands_kept : (d : Desc Graph) → Can 𝓛 d → (others : List (List Graph)) → AllFine 𝓛 others → (x : Place d) (p : Pick d) →
        StandsIn d x p →
        Joins J others (picked d p) → keeps J d others x ≡ true
    stands_kept (desc g ds) c others fo x p s j =
        stands_all_kept ds c.1 (pairs others ((g ∷ []) ∷ [])) (full_graph 𝓛 others g c.0 fo) x p s
        ((joins_graph J others g (picked_all ds p)).1 j)

    stands_all_kept : (ds : Disjs Graph) → CanAll 𝓛 ds → (others : List (List Graph)) → AllFull 𝓛 others →
        (x : PlaceAll ds) (p : PickAll ds) → StandsInAll ds x p → Joins J others (picked_all ds p) → keeps_all J ds others x ≡ true
    stands_all_kept end c others fo x p s j = absurd x
    stands_all_kept (a and ds) c others fo (inl x) p s j =
        let fd = choices_all_fine 𝓛 ds c.1 in
        stands_any_kept a c.0 (pairs others (choices_all ds)) (full_pairs 𝓛 others (choices_all ds) fo fd) x p.0 s
        (later_joins others fo (choices_all ds) fd (picked_any a p.0)
        (choices_any_fine 𝓛 a c.0 (picked_any a p.0) (pick_any_in a p.0)) (picked_all ds p.1) (pick_all_in ds p.1) j)
    stands_all_kept (a and ds) c others fo (inr x) p s j =
        stands_all_kept ds c.1 (pairs others (choices_any a)) (full_pairs 𝓛 others (choices_any a) fo (choices_any_fine 𝓛 a c.0)) x
        p.1 s
        (chosen_joins others fo (choices_any a) (picked_all ds p.1) (picked_any a p.0) (pick_any_in a p.0) j)

    stands_any_kept : (a : Alts Graph) → CanAny 𝓛 a → (others : List (List Graph)) → AllFull 𝓛 others → (x : PlaceAny a) (p : PickAny a) →
        StandsInAny a x p → Joins J others (picked_any a p) → keeps_any J a others x ≡ true
    stands_any_kept fail c others fo x p s j = absurd x
    stands_any_kept (d or a) c others fo (inl (inl u)) (inl p) s (o, i, ag) =
        some_agree_in J (pairs others (choices d)) (o ++ picked d p) (pairs_in others (choices d) o (picked d p) i (pick_in d p)) ag
    stands_any_kept (d or a) c others fo (inl (inr x)) (inl p) s j = stands_kept d c.0 others (fine_full 𝓛 others fo) x p s j
    stands_any_kept (d or a) c others fo (inl x) (inr p) s j = absurd s
    stands_any_kept (d or a) c others fo (inr x) (inl p) s j = absurd s
    stands_any_kept (d or a) c others fo (inr x) (inr p) s j = stands_any_kept a c.1 others fo x p s j

  -- what pruning leaves
  pub pruned : (d : Desc Graph) → Can 𝓛 d → Pruned J d (prune J whole d)
  pruned d c = record {
    keep = keeps J d whole;
    left = prune_only J d whole;
    kept = λ x h. let (p, s, (o, i, a)) = kept_stands d c whole (whole_fine 𝓛) x h in
        (p, s, agree_of J (picked d p) (subst (λ (z : List Graph). Agrees J (z ++ picked d p)) (only_one o i) a));
    stays = λ x p s h. stands_kept d c whole (whole_fine 𝓛) x p s (
      [],
      Memᴰ.head refl,
      agree_view J (picked d p) (join (picked d p)) refl h,
    );
  }
    where
      only_one : (o : List Graph) → Memᴰ o whole → o ≡ []
      only_one o i = ⊎_elim (λ e. e) (λ n. absurd (Memᴰ.not-nil n)) (Memᴰ.cases_cons i)

  -- mode 2, in the document's words: drop, then fold, and folding never clashes at any depth
  pub full_is_pruned : (a b j r : Desc Graph) → Can 𝓛 j → joined J a b ≡ some j → full J a b ≡ some r →
      (e : Desc Graph) × Pruned J j e × Can 𝓛 e × Live J e × (r ≡ fold J e)
  unfolding full
  full_is_pruned a b j r c h f =
      go (some_agree J (choices j)) refl
      (subst (λ (o : Option (Desc Graph)). ◌≡◌ {A = Option (Desc Graph)}
      (elim o [ none ↦ none | some d ↦ elim (some_agree J (choices d)) [ true ↦ some (fold J (prune J whole d)) | false ↦ none ] ])
      (some r)) h f)
    where
      go : (t : Bool) → some_agree J (choices j) ≡ t →
          ◌≡◌ {A = Option (Desc Graph)} (elim t [ true ↦ some (fold J (prune J whole j)) | false ↦ none ]) (some r) →
          (e : Desc Graph) × Pruned J j e × Can 𝓛 e × Live J e × (r ≡ fold J e)
      go true s q = let k : fold J (prune J whole j) ≡ r = cc in
          (prune J whole j, pruned j c, prune_can 𝓛 j c whole, whole_live 𝓛 j c s, sym k)
      go false s q = let z : ◌≡◌ {A = ℕ} 0 1 = cc in absurd (omega arith)
