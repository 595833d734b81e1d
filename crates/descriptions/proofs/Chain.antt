-- What the three modes do to the meanings: the meanings of the result are those of the choices of both, taken together.
-- Assumes nothing.
use mathlib.Core.Path.{◌≡◌, refl, ap, ap₂, sym, ◌∙◌, subst}
use mathlib.Core.Bool.{Bool, true, false}
use mathlib.Core.Option.{Option, none, some}
use mathlib.Core.List.Memᴰ
use mathlib.Core.List.{List, [], ◌∷◌, ◌++◌, append_assoc, append-nil, Memᴰ}
use Prim.Native.Nat.{ℕ, zero, suc}
use native.Mathlib.Omega.{arith}
use lib.ListN.{length}
use Rattle.descriptions.specs.Descr.{Desc, ◌then◌, agree, agreeing, answers, choices, choices_all, desc, readings}
use Rattle.descriptions.specs.Modes.{fold, full, joined, prune, quick, size, some_agree, tidy}
use Rattle.descriptions.specs.Answer.{consistent}
use Rattle.descriptions.specs.Rules.{mode_result}
use Rattle.descriptions.proofs.Mean.{AllFine, Can, Fine, Good, alike_flat, alike_sym, can_then, choices_all_fine, choices_fine}
use Rattle.descriptions.proofs.Mean.{clash_stays, fine_append, good_run, join_canonical, run, run_cong, run_each, run_none, run_same}
use Rattle.descriptions.proofs.Mean.{run_then, shuffle}
use Rattle.descriptions.proofs.Quick.{all_none, good_leaf, leaf, meanings, one, readings_count, tidy_fails, tidy_means}
use Rattle.descriptions.proofs.Full.{AllFull, SomeAgree, each_from, full_means, none_agrees, some_agree_view, whole}
use Rattle.descriptions.specs.Joining.{Joining}
use Rattle.descriptions.proofs.Laws.{Laws}

module _ {Graph : Type 0} where
  -- what follows sees only the joined graphs
  through : List Graph → (List Graph → List Graph) → List Graph
  through [] k = []
  through (G ∷ l) k = k (G ∷ []) ++ through l k

  through_append : (l m : List Graph) (k : List Graph → List Graph) → through (l ++ m) k ≡ through l k ++ through m k
  unfolding through
  through_append [] m k = refl
  through_append (G ∷ l) m k = rw (through_append l m k) (sym (append_assoc (k (G ∷ [])) (through l k) (through m k)))

module _ {Graph : Type 0} (J : Joining Graph) where
  open J use {join}

  -- agreeing choices are meanings
  pub agreeing_run : (l : List (List Graph)) → agreeing J l ≡ length (run l [] (leaf J))
  unfolding agreeing agree
  agreeing_run [] = refl
  agreeing_run (c ∷ l) = go (join c) (agreeing_run l)
    where
      go : (o : Option Graph) → agreeing J l ≡ length (run l [] (leaf J)) →
          elim (answers o) [ true ↦ suc (agreeing J l) | false ↦ agreeing J l ] ≡ length (one o ++ run l [] (leaf J))
      go none e = e
      go (some G) e = ap suc e

  -- the meanings of two descriptions together
  abbrev pub both : Desc Graph → Desc Graph → List Graph
  both a b = run (choices a) [] (λ c. run (choices b) c (leaf J))

  abbrev pub Means : List Graph → Option (Desc Graph) → Type 0
  Means M none = M ≡ []
  Means M (some d) = meanings J d ≡ M

module _ {Graph : Type 0} {J : Joining Graph} (𝓛 : Laws J) where
  open J use {join, nil}

  pub choices_full : (d : Desc Graph) → Can 𝓛 d → AllFull 𝓛 (choices d)
  choices_full (desc g ds) p r m = let (s, j, e) = each_from (g ∷ []) (choices_all ds) r m in
      (rw e (omega arith), choices_fine 𝓛 (desc g ds) p r m)

  through_leaf : (k : List Graph → List Graph) → Good 𝓛 k → (c : List Graph) → Fine 𝓛 c → through (leaf J c) k ≡ k c
  unfolding through
  through_leaf k g c f = go (join c) refl
    where
      go : (o : Option Graph) → join c ≡ o → through (one o) k ≡ k c
      go none e = sym (g.dead c f e)
      go (some G) e = append-nil (k (G ∷ [])) ∙ g.same (G ∷ []) c (omega arith, (join_canonical 𝓛 c f G e, tt)) f (alike_flat 𝓛 c f G e)

  run_through : (k : List Graph → List Graph) → Good 𝓛 k → (l : List (List Graph)) → AllFull 𝓛 l →
      run l [] k ≡ through (run l [] (leaf J)) k
  unfolding through
  run_through k g [] f = refl
  run_through k g (c ∷ l) f = ap₂ {C = List Graph} ◌++◌ (sym (through_leaf k g c (f c (Memᴰ.head refl))))
      (run_through k g l (λ r m. f r (Memᴰ.tail m))) ∙ sym (through_append (leaf J c) (run l [] (leaf J)) k)

  pub same_run : (k : List Graph → List Graph) → Good 𝓛 k → (l m : List (List Graph)) → AllFull 𝓛 l → AllFull 𝓛 m →
      run l [] (leaf J) ≡ run m [] (leaf J) → run l [] k ≡ run m [] k
  same_run k g l m p q e = run_through k g l p ∙ ap (λ (z : List Graph). through z k) e ∙ sym (run_through k g m q)

  pub joined_means : (a b : Desc Graph) → Can 𝓛 a → Can 𝓛 b → Means J (both J a b) (joined J a b)
  unfolding joined meanings
  joined_means (desc g ds) (desc h es) p q = go (join (g ∷ h ∷ [])) refl
    where
      gh : List Graph
      gh = g ∷ h ∷ []

      fgh : Fine 𝓛 gh
      fgh = (omega arith, (p.0, (q.0, tt)))

      K : List Graph → List Graph
      K c = run (choices_all es) c (leaf J)

      fe : AllFine 𝓛 (choices_all es)
      fe = choices_all_fine 𝓛 es q.1

      fd : AllFine 𝓛 (choices_all ds)
      fd = choices_all_fine 𝓛 ds p.1

      goodK : Good 𝓛 K
      goodK = good_run 𝓛 (choices_all es) (leaf J) fe (good_leaf 𝓛)

      side : (c : List Graph) → run (choices (desc h es)) c (leaf J) ≡ K (c ++ h ∷ [])
      side c = run_each (h ∷ []) (choices_all es) c (leaf J)

      fg : Fine 𝓛 (g ∷ [])
      fg = (omega arith, (p.0, tt))

      -- the second graph beside the first
      move : (r : List Graph) → Memᴰ r (choices_all ds) → K (gh ++ r) ≡ run (choices (desc h es)) ((g ∷ []) ++ r) (leaf J)
      move r m =
          let a : List Graph = ((g ∷ []) ++ r) ++ h ∷ [] in
          let fa : Fine 𝓛 a = fine_append 𝓛 ((g ∷ []) ++ r) (h ∷ []) (fine_append 𝓛 (g ∷ []) r fg (fd r m)) (q.0, tt) in
          goodK.same (gh ++ r) a (fine_append 𝓛 gh r fgh (fd r m)) fa
          (alike_sym 𝓛 a (gh ++ r) (shuffle 𝓛 (g ∷ []) r (h ∷ []) fg (fd r m) (q.0, tt))) ∙ sym (side ((g ∷ []) ++ r))

      total : run (choices_all ds) gh K ≡ both J (desc g ds) (desc h es)
      total = run_cong (choices_all ds) gh (g ∷ []) K (λ c. run (choices (desc h es)) c (leaf J)) move
          ∙ sym (run_each (g ∷ []) (choices_all ds) [] (λ c. run (choices (desc h es)) c (leaf J)))

      go : (o : Option Graph) → join gh ≡ o →
          Means J (both J (desc g ds) (desc h es)) (elim o [ none ↦ none | some k ↦ some (desc k (ds then es)) ])
      go none e = sym total ∙ run_none (choices_all ds) gh K
          (λ r m. goodK.dead (gh ++ r) (fine_append 𝓛 gh r fgh (fd r m))
          (clash_stays 𝓛 gh (gh ++ r) fgh (fine_append 𝓛 gh r fgh (fd r m)) (λ x i. Memᴰ.append_left r i) e))
      go (some k) e = run_each (k ∷ []) (choices_all (ds then es)) [] (leaf J) ∙ run_then ds es (k ∷ []) (leaf J)
          ∙ run_same 𝓛 (choices_all ds) (k ∷ []) gh K fd goodK (omega arith, (join_canonical 𝓛 gh fgh k e, tt)) fgh
          (alike_flat 𝓛 gh fgh k e) ∙ total

  pub can_joined : (a b d : Desc Graph) → Can 𝓛 a → Can 𝓛 b → joined J a b ≡ some d → Can 𝓛 d
  unfolding joined
  can_joined (desc g ds) (desc h es) d p q e = go (join (g ∷ h ∷ [])) refl e
    where
      go : (o : Option Graph) → join (g ∷ h ∷ []) ≡ o →
          ◌≡◌ {A = Option (Desc Graph)} (elim o [ none ↦ none | some k ↦ some (desc k (ds then es)) ]) (some d) → Can 𝓛 d
      go none f e = let z : ◌≡◌ {A = ℕ} 0 1 = cc in absurd (omega arith)
      go (some k) f e = let i : desc k (ds then es) ≡ d = cc in
          subst (Can 𝓛) i (join_canonical 𝓛 (g ∷ h ∷ []) (omega arith, (p.0, (q.0, tt))) k f, can_then 𝓛 ds es p.1 q.1)

  pub quick_means : (a b : Desc Graph) → Can 𝓛 a → Can 𝓛 b → Means J (both J a b) (quick J a b)
  unfolding quick
  quick_means a b p q = go (joined J a b) refl (joined_means a b p q)
    where
      two : (d : Desc Graph) → Can 𝓛 d → meanings J d ≡ both J a b → (o : Option (Desc Graph)) → tidy J (suc (size d)) nil d ≡ o →
          Means J (both J a b) o
      two d c m none e = sym m ∙ tidy_fails 𝓛 (suc (size d)) d c e
      two d c m (some f) e = sym (tidy_means 𝓛 (suc (size d)) d f c e) ∙ m

      go : (o : Option (Desc Graph)) → joined J a b ≡ o → Means J (both J a b) o →
          Means J (both J a b) (elim o [ none ↦ none | some d ↦ tidy J (suc (size d)) nil d ])
      go none e m = m
      go (some d) e m = two d (can_joined a b d p q e) m (tidy J (suc (size d)) nil d) refl

  pub full_result_means : (a b : Desc Graph) → Can 𝓛 a → Can 𝓛 b → Means J (both J a b) (full J a b)
  unfolding full
  full_result_means a b p q = go (joined J a b) refl (joined_means a b p q)
    where
      two : (d : Desc Graph) → Can 𝓛 d → meanings J d ≡ both J a b → (t : Bool) → SomeAgree J (choices d) t →
          Means J (both J a b) (elim t [ true ↦ some (fold J (prune J whole d)) | false ↦ none ])
      two d c m true s = full_means 𝓛 d c ∙ m
      two d c m false (none_agrees n) = sym m ∙ all_none J d n

      go : (o : Option (Desc Graph)) → joined J a b ≡ o → Means J (both J a b) o →
          Means J (both J a b) (elim o [
            | none ↦ none
            | some d ↦ elim (some_agree J (choices d)) [ true ↦ some (fold J (prune J whole d)) | false ↦ none ]
          ])
      go none e m = m
      go (some d) e m = two d (can_joined a b d p q e) m (some_agree J (choices d)) (some_agree_view J (choices d))

  pub result_means : (mode : ℕ) (a b : Desc Graph) → Can 𝓛 a → Can 𝓛 b → Means J (both J a b) (mode_result J mode a b)
  result_means zero a b p q = joined_means a b p q
  result_means (suc zero) a b p q = quick_means a b p q
  result_means (suc (suc m)) a b p q = full_result_means a b p q

  -- the consistent choices of the joined description
  pub consistent_means : (a b : Desc Graph) → Can 𝓛 a → Can 𝓛 b → consistent J a b ≡ length (both J a b)
  unfolding consistent
  consistent_means a b p q = go (joined J a b) (joined_means a b p q)
    where
      go : (o : Option (Desc Graph)) → Means J (both J a b) o → elim o [ none ↦ 0 | some j ↦ readings J j ] ≡ length (both J a b)
      go none m = ap length (sym m)
      go (some d) m = readings_count J d ∙ ap length m
