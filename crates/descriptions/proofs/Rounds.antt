-- `tidy` gives exactly what the rules of the rounds give.
-- Assumes nothing.
use mathlib.Core.Path.{◌≡◌, refl, ap, ap₂, sym, ◌∙◌, subst}
use mathlib.Core.Logic.{◌↔◌}
use mathlib.Core.Option.{Option, none, some}
use mathlib.Core.List.{List, [], ◌∷◌}
use Prim.Native.Nat.{ℕ, zero, suc, ◌+◌, ◌≤◌}
use native.Mathlib.Omega.{arith}
use lib.ListN.{length}
use Rattle.descriptions.specs.Descr.{Alts, Desc, Disjs, ◌and◌, ◌or◌, desc, end, fail}
use Rattle.descriptions.specs.Modes.{Round, after, finish, joined, kept, quick, round, size, size_all, size_any, tidy}
use Rattle.descriptions.specs.Rounds.{Keeps, Rounds, Tidies, again, clash, drops, emptied, fails, folds_clash, keeps, last, no_more}
use Rattle.descriptions.specs.Rounds.{one, over}
use Rattle.descriptions.proofs.Fuel.{Less, round_less, tidy_small}
use Rattle.descriptions.specs.Joining.{Joining}

module _ {Graph : Type 0} where
  size_some : (g : Graph) (ds : Disjs Graph) (n : ℕ) → size (desc g ds) ≤ suc n → size_all ds ≤ n
  unfolding size
  size_some g ds n h = omega arith

  size_none : (g : Graph) (ds : Disjs Graph) → size (desc g ds) ≤ 0 → ⊥
  unfolding size
  size_none g ds h = omega arith

  size_parts : (a : Alts Graph) (ds : Disjs Graph) (n : ℕ) → size_all (a and ds) ≤ suc n → (size_any a ≤ n) × (size_all ds ≤ suc n)
  unfolding size
  size_parts a ds n h = (omega arith, omega arith)

  size_either : (d : Desc Graph) (a : Alts Graph) (n : ℕ) → size_any (d or a) ≤ n → (size d ≤ n) × (size_any a ≤ n)
  unfolding size
  size_either d a n h = (omega arith, omega arith)

module _ {Graph : Type 0} (J : Joining Graph) where
  open J use {join, nil}

  -- the program follows the rules
  keep_one : (k : Graph) (d : Desc Graph) (a b : Alts Graph) (o : Option (Desc Graph)) → Tidies J k d o → Keeps J k a b →
      Keeps J k (d or a) (elim o [ none ↦ b | some e ↦ e or b ])
  keep_one k d a b none t s = drops k d a b t s
  keep_one k d a b (some e) t s = keeps k d e a b t s

  module _ (k : Graph) (t : Desc Graph → Option (Desc Graph)) (n : ℕ) (T : (d : Desc Graph) → size d ≤ n → Tidies J k d (t d)) where
    kept_keeps : (a : Alts Graph) → size_any a ≤ n → Keeps J k a (kept t a)
    unfolding size
    kept_keeps fail h = no_more k
    kept_keeps (d or a) h = keep_one k d a (kept t a) (t d) (T d (omega arith)) (kept_keeps a (omega arith))

    round_rounds : (ds : Disjs Graph) → size_all ds ≤ suc n → Rounds J k ds (round J t ds)
    unfolding size
    round_rounds end h = over k (record { folded = []; left = end }) refl
    round_rounds (a and ds) h = go (round J t ds) (round_rounds ds (omega arith))
      where
        go : (o : Option (Round Graph)) → Rounds J k ds o → Rounds J k (a and ds) (elim o [ none ↦ none | some r ↦ after J (kept t a) r ])
        go none r = fails k a ds r
        go (some r) s = one k a (kept t a) ds r (kept_keeps a (omega arith)) s (after J (kept t a) r) refl

  finish_tidies : (c : Graph) (t : Desc Graph → Option (Desc Graph)) (n : ℕ) → ((d : Desc Graph) → size d ≤ n → Tidies J c d (t d)) →
      (g : Graph) (ds : Disjs Graph) (k : Graph) → join (c ∷ g ∷ []) ≡ some k → (left : Disjs Graph) (folded : List Graph) →
      Rounds J k ds (some (record { folded = folded; left = left })) → size_all left + length folded ≤ n →
      Tidies J c (desc g ds) (finish J t g left folded)
  unfolding finish size
  finish_tidies c t n T g ds k e left [] r h = last c g ds k e left r
  finish_tidies c t n T g ds k e left (x ∷ xs) r h = go (join (g ∷ x ∷ xs)) refl
    where
      go : (o : Option Graph) → join (g ∷ x ∷ xs) ≡ o → Tidies J c (desc g ds) (elim o [ none ↦ none | some g' ↦ t (desc g' left) ])
      go none f = folds_clash c g ds k e x xs left r f
      go (some g') f = again c g ds k e x xs left r g' f (t (desc g' left)) (T (desc g' left) (omega arith))

  pub tidy_tidies : (n : ℕ) (c : Graph) (d : Desc Graph) → size d ≤ n → Tidies J c d (tidy J n c d)
  unfolding tidy size
  tidy_tidies zero c (desc g ds) h = absurd (omega arith)
  tidy_tidies (suc n) c (desc g ds) h = go (join (c ∷ g ∷ [])) refl (λ k d l. tidy_tidies n k d l)
    where
      go : (o : Option Graph) → join (c ∷ g ∷ []) ≡ o → ((k : Graph) (d : Desc Graph) → size d ≤ n → Tidies J k d (tidy J n k d)) →
          Tidies J c (desc g ds) (elim o [
            | none ↦ none
            | some k ↦ elim (round J (tidy J n k) ds) [ none ↦ none | some r ↦ finish J (tidy J n c) g r.left r.folded ]
          ])
      go none e T = clash c g ds e
      go (some k) e T = two (round J (tidy J n k) ds) (round_rounds k (tidy J n k) n (T k) ds (omega arith))
          (round_less J (tidy J n k) (tidy_small J n k) ds)
        where
          two : (o : Option (Round Graph)) → Rounds J k ds o → Less (size_all ds) o →
              Tidies J c (desc g ds) (elim o [ none ↦ none | some r ↦ finish J (tidy J n c) g r.left r.folded ])
          two none r l = emptied c g ds k e r
          two (some r) s l = finish_tidies c (tidy J n c) n (T c) g ds k e r.left r.folded s (omega (arith, l))

  -- and the rules give nothing else
  tidy_is : (n : ℕ) (c g : Graph) (ds : Disjs Graph) (k : Graph) (o : Option (Round Graph)) → join (c ∷ g ∷ []) ≡ some k →
      round J (tidy J n k) ds ≡ o →
      tidy J (suc n) c (desc g ds) ≡ elim o [ none ↦ none | some r ↦ finish J (tidy J n c) g r.left r.folded ]
  unfolding tidy
  tidy_is n c g ds k o e f =
      ap {B = Option (Desc Graph)} (λ
      (z : Option Graph). elim z [
        | none ↦ none
        | some k ↦ elim (round J (tidy J n k) ds) [ none ↦ none | some r ↦ finish J (tidy J n c) g r.left r.folded ]
      ]) e
      ∙ ap {B = Option (Desc Graph)}
      (λ (z : Option (Round Graph)). elim z [ none ↦ none | some r ↦ finish J (tidy J n c) g r.left r.folded ]) f

  tidy_clash : (n : ℕ) (c g : Graph) (ds : Disjs Graph) → join (c ∷ g ∷ []) ≡ none → tidy J (suc n) c (desc g ds) ≡ none
  unfolding tidy
  tidy_clash n c g ds e = ap {B = Option (Desc Graph)}
      (λ (z : Option Graph). elim z [
        | none ↦ none
        | some k ↦ elim (round J (tidy J n k) ds) [ none ↦ none | some r ↦ finish J (tidy J n c) g r.left r.folded ]
      ]) e

  finish_last : (t : Desc Graph → Option (Desc Graph)) (g : Graph) (left : Disjs Graph) → finish J t g left [] ≡ some (desc g left)
  unfolding finish
  finish_last t g left = refl

  finish_more : (t : Desc Graph → Option (Desc Graph)) (g : Graph) (left : Disjs Graph) (h : Graph) (hs : List Graph) (o : Option Graph) →
      join (g ∷ h ∷ hs) ≡ o → finish J t g left (h ∷ hs) ≡ elim o [ none ↦ none | some g' ↦ t (desc g' left) ]
  unfolding finish
  finish_more t g left h hs o e = ap {B = Option (Desc Graph)} (λ (z : Option Graph). elim z [ none ↦ none | some g' ↦ t (desc g' left) ]) e

  size_left : (n : ℕ) (k g' : Graph) (ds left : Disjs Graph) (h : Graph) (hs : List Graph) →
      round J (tidy J n k) ds ≡ some (record { folded = h ∷ hs; left = left }) → size_all ds ≤ n → size (desc g' left) ≤ n
  unfolding size
  size_left n k g' ds left h hs e l = let q : Less (size_all ds) (some (record { folded = h ∷ hs; left = left })) =
      subst (Less (size_all ds)) e (round_less J (tidy J n k) (tidy_small J n k) ds) in omega (arith, q, l)

  mutual
    pub tidies_tidy : (c : Graph) (d : Desc Graph) (o : Option (Desc Graph)) → Tidies J c d o → (n : ℕ) → size d ≤ n → tidy J n c d ≡ o
    tidies_tidy c₀ d₀ o₀ (clash c g ds e) zero h = absurd (size_none g ds h)
    tidies_tidy c₀ d₀ o₀ (clash c g ds e) (suc n) h = tidy_clash n c g ds e
    tidies_tidy c₀ d₀ o₀ (emptied c g ds k e r) zero h = absurd (size_none g ds h)
    tidies_tidy c₀ d₀ o₀ (emptied c g ds k e r) (suc n) h = let l = size_some g ds n h in
        tidy_is n c g ds k none e (rounds_round k ds none r n (omega (arith, l)))
    tidies_tidy c₀ d₀ o₀ (last c g ds k e left r) zero h = absurd (size_none g ds h)
    tidies_tidy c₀ d₀ o₀ (last c g ds k e left r) (suc n) h = let l = size_some g ds n h in
        tidy_is n c g ds k (some (record { folded = []; left = left })) e
        (rounds_round k ds (some (record { folded = []; left = left })) r n (omega (arith, l))) ∙ finish_last (tidy J n c) g left
    tidies_tidy c₀ d₀ o₀ (folds_clash c g ds k e x xs left r f) zero h = absurd (size_none g ds h)
    tidies_tidy c₀ d₀ o₀ (folds_clash c g ds k e x xs left r f) (suc n) h = let l = size_some g ds n h in
        tidy_is n c g ds k (some (record { folded = x ∷ xs; left = left })) e
        (rounds_round k ds (some (record { folded = x ∷ xs; left = left })) r n (omega (arith, l)))
        ∙ finish_more (tidy J n c) g left x xs none f
    tidies_tidy c₀ d₀ o₀ (again c g ds k e x xs left r g' f o t) zero h = absurd (size_none g ds h)
    tidies_tidy c₀ d₀ o₀ (again c g ds k e x xs left r g' f o t) (suc n) h =
        let l = size_some g ds n h in
        let q = rounds_round k ds (some (record { folded = x ∷ xs; left = left })) r n (omega (arith, l)) in
        tidy_is n c g ds k (some (record { folded = x ∷ xs; left = left })) e q ∙ finish_more (tidy J n c) g left x xs (some g') f
        ∙ tidies_tidy c (desc g' left) o t n (size_left n k g' ds left x xs q l)

    keeps_kept : (k : Graph) (a b : Alts Graph) → Keeps J k a b → (n : ℕ) → size_any a ≤ n → kept (tidy J n k) a ≡ b
    keeps_kept k₀ a₀ b₀ (no_more k) n h = refl
    keeps_kept k₀ a₀ b₀ (drops k d x b t s) n h = let l = size_either d x n h in
        ap₂ {C = Alts Graph} (λ (o : Option (Desc Graph)) (r : Alts Graph). elim o [ none ↦ r | some e ↦ e or r ])
        (tidies_tidy k d none t n l.0) (keeps_kept k x b s n l.1)
    keeps_kept k₀ a₀ b₀ (keeps k d e x y t s) n h = let l = size_either d x n h in
        ap₂ {C = Alts Graph} (λ (o : Option (Desc Graph)) (r : Alts Graph). elim o [ none ↦ r | some e ↦ e or r ])
        (tidies_tidy k d (some e) t n l.0) (keeps_kept k x y s n l.1)

    rounds_round : (k : Graph) (ds : Disjs Graph) (o : Option (Round Graph)) → Rounds J k ds o → (n : ℕ) → size_all ds ≤ suc n →
        round J (tidy J n k) ds ≡ o
    rounds_round k₀ ds₀ o₀ (over k r e) n h = ap some (sym e)
    rounds_round k₀ ds₀ o₀ (fails k a es r) n h = let l = size_parts a es n h in
        ap {B = Option (Round Graph)} (λ (z : Option (Round Graph)). elim z [ none ↦ none | some r ↦ after J (kept (tidy J n k) a) r ])
        (rounds_round k es none r n l.1)
    rounds_round k₀ ds₀ o₀ (one k a b es r s t o e) n h = let l = size_parts a es n h in
        ap₂ {C = Option (Round Graph)} (λ (z : Option (Round Graph)) (x : Alts Graph). elim z [ none ↦ none | some r ↦ after J x r ])
        (rounds_round k es (some r) t n l.1) (keeps_kept k a b s n l.0) ∙ e

  pub tidy_iff : (n : ℕ) (c : Graph) (d : Desc Graph) (o : Option (Desc Graph)) → size d ≤ n → (tidy J n c d ≡ o) ↔ Tidies J c d o
  tidy_iff n c d o h = (λ e. subst (Tidies J c d) e (tidy_tidies n c d h), λ t. tidies_tidy c d o t n h)

  -- mode 1 by the rules: the joined description, tidied under the graph that says nothing
  pub quick_iff : (a b j : Desc Graph) (o : Option (Desc Graph)) → joined J a b ≡ some j → (quick J a b ≡ o) ↔ Tidies J nil j o
  unfolding quick
  quick_iff a b j o h =
      let e : quick J a b ≡ tidy J (suc (size j)) nil j =
      ap {B = Option (Desc Graph)} (λ (z : Option (Desc Graph)). elim z [ none ↦ none | some d ↦ tidy J (suc (size d)) nil d ]) h in
      let i = tidy_iff (suc (size j)) nil j o (omega arith) in
      (λ f. i.0 (sym e ∙ f), λ t. e ∙ i.1 t)
