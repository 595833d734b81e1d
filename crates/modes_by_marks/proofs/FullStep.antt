-- Mode 2 by marks is mode 2: the number of readings, and the result word for word.
-- Assumes nothing.
use mathlib.Core.Path.{◌≡◌, refl, ap, sym, ◌∙◌, subst}
use mathlib.Core.Bool.{Bool, true, false}
use mathlib.Core.Option.{Option, none, some}
use mathlib.Core.List.{List, [], ◌∷◌, Memᴰ}
use Prim.Native.Nat.{ℕ, zero, suc, ◌≤◌}
use native.Mathlib.Omega.{arith}
use lib.ListN.{length}
use Rattle.descriptions.specs.Descr.{Desc, agree, agreeing, choices, readings}
use Rattle.descriptions.specs.Modes.{fold, full, joined, prune, size, some_agree, tidy}
use Rattle.descriptions.proofs.Mean.{Can}
use Rattle.descriptions.proofs.Quick.{good_leaf, leaf, meanings, readings_count}
use Rattle.descriptions.proofs.Full.{fold_ok, prune_can, whole}
use Rattle.descriptions.proofs.Sense.{quick_readings}
use Rattle.descriptions.proofs.Live.{Agrees}
use Rattle.modes_by_marks.specs.Placed.{Placed, strip}
use Rattle.modes_by_marks.specs.Marks.{Marking, keep}
use Rattle.modes_by_marks.specs.Search.{Found, full_left, full_readings_by, lit, search}
use Rattle.modes_by_marks.specs.Shown.{shown}
use Rattle.modes_by_marks.specs.Names.{Distinct, names}
use Rattle.modes_by_marks.proofs.Entail.{fine_cons}
use Rattle.modes_by_marks.proofs.Stable.{Best, Hopeless, part_can}
use Rattle.modes_by_marks.proofs.Sane.{stable_sane}
use Rattle.modes_by_marks.proofs.Greatest.{TidiedBest}
use Rattle.modes_by_marks.proofs.Tidy.{tidy_best}
use Rattle.modes_by_marks.proofs.Proper.{Proper, proper_fold, proper_sane, tidies_passed}
use Rattle.modes_by_marks.proofs.Marks.{false_true, keep_distinct, keep_keep, keep_names}
use Rattle.modes_by_marks.proofs.Finding.{picks, search_count, search_ok}
use Rattle.modes_by_marks.proofs.Lit.{Some, lit_hit, one_does, picks_names, search_prune, some_view}
use Rattle.modes_by_marks.proofs.Pruned.{prune_best, prune_part, pruned_stable}
use Rattle.modes_by_marks.proofs.Shown.{fold_some, shown_ok, shown_some}
use Rattle.modes_by_marks.specs.Sane.{Sane}
use Rattle.descriptions.proofs.Laws.{Laws}
use Rattle.descriptions.specs.Joining.{Joining}

-- no reading exactly where no choice agrees
abbrev any_left : ℕ → Bool
any_left zero = false
any_left (suc n) = true

module _ {Graph : Type 0} (J : Joining Graph) where
  agreeing_some : (l : List (List Graph)) → any_left (agreeing J l) ≡ some_agree J l
  unfolding agreeing some_agree
  agreeing_some [] = refl
  agreeing_some (c ∷ l) = go (agree J c) (agreeing_some l)
    where
      go : (t : Bool) → any_left (agreeing J l) ≡ some_agree J l →
          any_left (elim t [ true ↦ suc (agreeing J l) | false ↦ agreeing J l ]) ≡ elim t [ true ↦ true | false ↦ some_agree J l ]
      go true e = refl
      go false e = e

  -- mode 2 of the joined description, as document 01 says it
  unfoldable pub full_of : Desc Graph → Option (Desc Graph)
  full_of d = elim (some_agree J (choices d)) [ true ↦ some (fold J (prune J whole d)) | false ↦ none ]

  -- mode 2 is that of the joined description
  pub full_joined : (a b : Desc Graph) → full J a b ≡ elim (joined J a b) [ none ↦ none | some d ↦ full_of d ]
  unfolding full full_of
  full_joined a b = go (joined J a b)
    where
      go : (o : Option (Desc Graph)) →
          ◌≡◌ {A = Option (Desc Graph)} (elim o [
            | none ↦ none
            | some d ↦ elim (some_agree J (choices d)) [ true ↦ some (fold J (prune J whole d)) | false ↦ none ]
          ])
          (elim o [ none ↦ none | some d ↦ elim (some_agree J (choices d)) [ true ↦ some (fold J (prune J whole d)) | false ↦ none ] ])
      go o = refl

module _ {Graph : Type 0} {J : Joining Graph} (𝓛 : Laws J) where
  open J use {nil}
  open 𝓛 use {nil_canonical}

  -- the search marks only what it went through
  search_marks : (d : Placed Graph) → Can 𝓛 (strip d) → (y : ℕ) → lit (search J d) y ≡ true → Memᴰ y (names d)
  search_marks d c y e =
      let (o, p, i, j, h, a) = lit_hit J (picks d) y (subst (λ (f : Found). lit f y ≡ true) (search_ok 𝓛 d c) e) in
      picks_names d p j y h

  -- the readings of what the quick step leaves
  pub best_readings : (d e : Desc Graph) → Can 𝓛 d → Proper d → Best J (nil ∷ []) d e → readings J e ≡ readings J d
  unfolding meanings
  best_readings d e c p b =
      let s : fold J d ≡ d = proper_fold 𝓛 d c p in
      let n : ℕ = size d in
      let t : TidiedBest J (nil ∷ []) d (tidy J n nil d) =
      subst (λ (z : Desc Graph). TidiedBest J (nil ∷ []) d (tidy J n nil z)) s
      (tidy_best 𝓛 n nil nil_canonical d c (proper_sane 𝓛 d c p) (subst (λ (z : Desc Graph). size z ≤ n) (sym s) (omega arith))) in
      let k : tidy J n nil d ≡ some (fold J e) = tidies_passed J d (tidy J n nil d) (some e) t b in
      readings_count J e ∙ ap length ((fold_ok 𝓛 e (part_can 𝓛 d e b.part c)).1 [] tt (leaf J) (good_leaf 𝓛))
      ∙ sym (readings_count J (fold J e)) ∙ quick_readings 𝓛 n d (fold J e) c k

  module _ (d : Placed Graph) (c : Can 𝓛 (strip d)) (p : Proper (strip d)) (w : Distinct d) (m : Marking)
      (b : Best J (nil ∷ []) (strip d) (strip (keep m d))) where
    ck : Can 𝓛 (strip (keep m d))
    ck = part_can 𝓛 (strip d) (strip (keep m d)) b.part c

    -- the number of readings
    pub full_count : full_readings_by J m d ≡ readings J (strip d)
    unfolding full_readings_by
    full_count = search_count 𝓛 (keep m d) ck ∙ best_readings (strip d) (strip (keep m d)) c p b

    marks_left : (r : List Graph) → Memᴰ r (choices (strip d)) → Agrees J r →
        strip (keep (lit (search J (keep m d))) d) ≡ prune J whole (strip d)
    marks_left r i a =
        ap strip (keep_keep d (lit (search J (keep m d))) m (λ y e. (keep_names d m y (search_marks (keep m d) ck y e)).0))
        ∙ search_prune 𝓛 (keep m d) ck (keep_distinct d m w)
        ∙ prune_best 𝓛 (strip d) (strip (keep m d)) c b r i a

    -- the result
    pub full_result : fold_some J (full_left J m d) ≡ full_of J (strip d)
    unfolding full_left full_of full_readings_by readings
    full_result = go (length (search J (keep m d))) (some_agree J (choices (strip d))) (some_view J (choices (strip d)))
        (ap any_left full_count ∙ agreeing_some J (choices (strip d)))
      where
        go : (n : ℕ) (t : Bool) → Some J (choices (strip d)) t → any_left n ≡ t →
            fold_some J (elim n [ zero ↦ none | suc k ↦ some (strip (keep (lit (search J (keep m d))) d)) ])
            ≡ elim t [ true ↦ some (fold J (prune J whole (strip d))) | false ↦ none ]
        go zero true v e = absurd (false_true e)
        go zero false v e = refl
        go (suc n) true (one_does r i a) e = ap (λ (x : Desc Graph). some (fold J x)) (marks_left r i a)
        go (suc n) false v e = absurd (false_true (sym e))

    -- and as a writer puts it out
    pub full_writes : fold_some J (full_left J m d) ≡ shown_some J (full_left J m d)
    unfolding full_left full_readings_by readings
    full_writes = go (length (search J (keep m d))) (some_agree J (choices (strip d))) (some_view J (choices (strip d)))
        (ap any_left full_count ∙ agreeing_some J (choices (strip d)))
      where
        pruned_shown : (e : Desc Graph) → e ≡ prune J whole (strip d) → (r : List Graph) → Memᴰ r (choices (strip d)) → Agrees J r →
            fold J e ≡ shown J e
        pruned_shown e q r i a =
            let p : Desc Graph = prune J whole (strip d) in
            let cp : Can 𝓛 p = prune_can 𝓛 (strip d) c whole in
            subst (λ (z : Desc Graph). fold J z ≡ shown J z) (sym q)
            (shown_ok 𝓛 p cp (stable_sane 𝓛 p (nil ∷ []) cp (fine_cons 𝓛 nil [] nil_canonical tt) (pruned_stable 𝓛 (strip d) c r i a)))

        go : (n : ℕ) (t : Bool) → Some J (choices (strip d)) t → any_left n ≡ t →
            fold_some J (elim n [ zero ↦ none | suc k ↦ some (strip (keep (lit (search J (keep m d))) d)) ])
            ≡ shown_some J (elim n [ zero ↦ none | suc k ↦ some (strip (keep (lit (search J (keep m d))) d)) ])
        go zero t v e = refl
        go (suc n) true (one_does r i a) e = ap some (pruned_shown (strip (keep (lit (search J (keep m d))) d)) (marks_left r i a) r i a)
        go (suc n) false v e = absurd (false_true (sym e))

    -- what is left can be folded
    pub full_sane : (n : ℕ) → length (search J (keep m d)) ≡ suc n →
        Can 𝓛 (strip (keep (lit (search J (keep m d))) d)) × Sane J (strip (keep (lit (search J (keep m d))) d))
    unfolding full_readings_by readings
    full_sane n found = go (some_agree J (choices (strip d))) (some_view J (choices (strip d))) (ap any_left (sym found ∙ full_count)
        ∙ agreeing_some J (choices (strip d)))
      where
        go : (t : Bool) → Some J (choices (strip d)) t → true ≡ t →
            Can 𝓛 (strip (keep (lit (search J (keep m d))) d)) × Sane J (strip (keep (lit (search J (keep m d))) d))
        go true (one_does r i a) e =
            let p : Desc Graph = prune J whole (strip d) in
            let cp : Can 𝓛 p = prune_can 𝓛 (strip d) c whole in
            subst (λ (z : Desc Graph). Can 𝓛 z × Sane J z) (sym (marks_left r i a)) (
              cp,
              stable_sane 𝓛 p (nil ∷ []) cp (fine_cons 𝓛 nil [] nil_canonical tt) (pruned_stable 𝓛 (strip d) c r i a),
            )
        go false v e = absurd (false_true (sym e))

  -- where the quick step fails, no choice agrees
  pub hopeless_full : (d : Desc Graph) → Can 𝓛 d → Hopeless J (nil ∷ []) d → full_of J d ≡ none
  unfolding full_of
  hopeless_full d c h = go (some_agree J (choices d)) (some_view J (choices d))
    where
      go : (t : Bool) → Some J (choices d) t →
          ◌≡◌ {A = Option (Desc Graph)} (elim t [ true ↦ some (fold J (prune J whole d)) | false ↦ none ]) none
      go true (one_does r i a) = absurd (h (prune J whole d) (prune_part J d whole) (pruned_stable 𝓛 d c r i a))
      go false v = refl
