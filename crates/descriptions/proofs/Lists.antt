-- Readings over a list of descriptions, one after another in any mixture of modes: the third demand before any words.
-- Assumes nothing.
use mathlib.Core.Path.{◌≡◌, refl, ap, ap₂, sym, ◌∙◌, subst}
use mathlib.Core.Logic.{⊎_elim}
use mathlib.Core.Option.{Option, none, some}
use mathlib.Core.List.Memᴰ
use mathlib.Core.List.{List, [], ◌∷◌, ◌++◌, append-nil}
use Prim.Native.Nat.{ℕ, ◌+◌}
use native.Mathlib.Omega.{arith}
use lib.ListN.{length, length-append}
use Rattle.descriptions.specs.Descr.{Desc, choices, desc, end, pairs, readings}
use Rattle.descriptions.specs.Answer.{consistent}
use Rattle.descriptions.specs.Rules.{mode_result}
use Rattle.descriptions.specs.Demands.{one_of_each, descriptions, gathered, ways}
use Rattle.descriptions.proofs.Laws.{Laws}
use Rattle.descriptions.proofs.Mean.{AllFine, Can, Fine, Good, alike_set, choices_fine, fine_append, good_run, pairs_fine, run}
use Rattle.descriptions.proofs.Mean.{run_cong, run_none, run_pairs, swap_within}
use Rattle.descriptions.proofs.Quick.{good_leaf, leaf, meanings, one, readings_count}
use Rattle.descriptions.proofs.Full.{AllFull, full_pairs}
use Rattle.descriptions.proofs.Chain.{Means, agreeing_run, both, choices_full, consistent_means, result_means, same_run}
use Rattle.descriptions.proofs.Modes.{mode_can}
use Rattle.descriptions.proofs.Table.{full_is}
use Rattle.descriptions.specs.Joining.{Joining}
use Rattle.descriptions.specs.Layout.{Layout}
use Rattle.descriptions.specs.Canonical.{All}

module _ {Graph : Type 0} where
  chosen_append : (l m : List (Desc Graph)) (c : List Graph) (k : List Graph → List Graph) →
      run (one_of_each (l ++ m)) c k ≡ run (one_of_each l) c (λ d. run (one_of_each m) d k)
  chosen_append [] m c k = ap (λ (z : List Graph). run (one_of_each m) z k) (sym (append-nil c))
      ∙ sym (append-nil (run (one_of_each m) (c ++ []) k))
  chosen_append (d ∷ l) m c k =
      run_pairs (choices d) (one_of_each (l ++ m)) c k
      ∙ run_cong (choices d) c c (λ d. run (one_of_each (l ++ m)) d k) (λ d. run (one_of_each l) d (λ e. run (one_of_each m) e k))
      (λ r i. chosen_append l m (c ++ r) k)
      ∙ sym (run_pairs (choices d) (one_of_each l) c (λ d. run (one_of_each m) d k))

  -- what two continuations find together
  run_sum : (l : List (List Graph)) (c : List Graph) (j k : List Graph → List Graph) →
      length (run l c (λ d. j d ++ k d)) ≡ length (run l c j) + length (run l c k)
  run_sum [] c j k = refl
  run_sum (r ∷ l) c j k =
      let e = run_sum l c j k in
      let f = length-append (j (c ++ r) ++ k (c ++ r)) (run l c (λ d. j d ++ k d)) in
      let g = length-append (j (c ++ r)) (k (c ++ r)) in
      let h = length-append (j (c ++ r)) (run l c j) in
      let i = length-append (k (c ++ r)) (run l c k) in
      omega (arith, e, f, g, h, i)

module _ {Graph : Type 0} (J : Joining Graph) where
  open J use {nil}

  abbrev pub nothing_said : Desc Graph
  nothing_said = desc nil end

  -- the lists of choices so far, after a list of descriptions from the one that says nothing
  abbrev pub sofar : List (Desc Graph) → List (List Graph)
  sofar l = pairs (choices nothing_said) (one_of_each l)

module _ {Graph : Type 0} {J : Joining Graph} (𝓛 : Laws J) where
  open J use {nil}
  open 𝓛 use {Canonical, nil_canonical}

  -- d stands for the choices L: whatever follows finds as many with the one as with the other
  abbrev pub Stands_for : List (List Graph) → Desc Graph → Type 0
  Stands_for L d = (k : List Graph → List Graph) → Good 𝓛 k → length (run (choices d) [] k) ≡ length (run L [] k)

  -- none on the list
  pub no_more : (L : List (List Graph)) (d : Desc Graph) → Stands_for L d → Stands_for (pairs L ([] ∷ [])) d
  no_more L d m k g =
      let one_by_one = run_cong L [] [] k (λ c. run ([] ∷ []) c k) (λ r i. ap k (sym (append-nil r)) ∙ sym (append-nil (k (r ++ [])))) in
      m k g ∙ ap length (one_by_one ∙ sym (run_pairs L ([] ∷ []) [] k))

  -- one list after the other, or all at once
  pub regroup : (L : List (List Graph)) (b d : Desc Graph) (l : List (Desc Graph)) →
      Stands_for (pairs (pairs L (choices b)) (one_of_each l)) d → Stands_for (pairs L (one_of_each (b ∷ l))) d
  regroup L b d l m k g =
      let inner : List Graph → List Graph = λ c. run (choices b) c (λ d. run (one_of_each l) d k) in
      let outer : List Graph → List Graph = λ c. run (pairs (choices b) (one_of_each l)) c k in
      m k g ∙ ap length (run_pairs (pairs L (choices b)) (one_of_each l) [] k
      ∙ run_pairs L (choices b) [] (λ c. run (one_of_each l) c k)
      ∙ run_cong L [] [] inner outer (λ r i. sym (run_pairs (choices b) (one_of_each l) r k))
      ∙ sym (run_pairs L (pairs (choices b) (one_of_each l)) [] k))

  -- which of two lists of choices comes first makes no difference
  swap_runs : (l m : List (List Graph)) → AllFull 𝓛 l → AllFull 𝓛 m → (k : List Graph → List Graph) → Good 𝓛 k →
      length (run l [] (λ c. run m c k)) ≡ length (run m [] (λ c. run l c k))
  swap_runs [] m f h k g = ap length (sym (run_none m [] (λ c. []) (λ r i. refl)))
  swap_runs (r ∷ l) m f h k g =
      let fr : Fine 𝓛 r = f r (Memᴰ.head refl) in
      let rest = swap_runs l m (λ c i. f c (Memᴰ.tail i)) h k g in
      let here : run m r k ≡ run m [] (λ c. k (c ++ r)) = run_cong m r [] k (λ c. k (c ++ r)) (λ c i. turned c (h c i)) in
      length-append (run m r k) (run l [] (λ c. run m c k)) ∙ ap₂ ◌+◌ (ap length here) rest
      ∙ sym (run_sum m [] (λ c. k (c ++ r)) (λ c. run l c k))
    where
      turned : (c : List Graph) → Fine 𝓛 c → k (r ++ c) ≡ k (c ++ r)
      turned c fc =
          let fr = f r (Memᴰ.head refl) in
          let front : Fine 𝓛 (r ++ c) = fine_append 𝓛 r c fr fc.1 in
          let back : Fine 𝓛 (c ++ r) = fine_append 𝓛 c r fc fr.1 in
          g.same (r ++ c) (c ++ r) front back (alike_set 𝓛 (r ++ c) (c ++ r) front back (swap_within r c) (swap_within c r))

  pub both_swap : (a b : Desc Graph) → Can 𝓛 a → Can 𝓛 b → length (both J a b) ≡ length (both J b a)
  both_swap a b p q = swap_runs (choices a) (choices b) (choices_full 𝓛 a p) (choices_full 𝓛 b q) (leaf J) (good_leaf 𝓛)

  pub nothing_can : Can 𝓛 (nothing_said J)
  nothing_can = (nil_canonical, tt)

  abbrev pub AllCan : List (Desc Graph) → Type 0
  AllCan [] = Unit {0}
  AllCan (d ∷ l) = Can 𝓛 d × AllCan l

  chosen_fine : (l : List (Desc Graph)) → AllCan l → AllFine 𝓛 (one_of_each l)
  chosen_fine [] c = λ r m. ⊎_elim (λ e. subst (All Canonical) (sym e) tt) (λ i. absurd (Memᴰ.not-nil i)) (Memᴰ.cases_cons m)
  chosen_fine (d ∷ l) c = pairs_fine 𝓛 (choices d) (one_of_each l) (choices_fine 𝓛 d c.0) (chosen_fine l c.1)

  -- the graph that says nothing changes no reading
  nil_leaf : (r : List Graph) → All Canonical r → leaf J (nil ∷ r) ≡ leaf J r
  nil_leaf r f = ap one (𝓛.silent r f)

  prefixed : (l : List (List Graph)) → AllFine 𝓛 l → run (pairs (choices (nothing_said J)) l) [] (leaf J) ≡ run l [] (leaf J)
  prefixed l f = run_pairs (choices (nothing_said J)) l [] (leaf J) ∙ append-nil (run l (nil ∷ []) (leaf J))
      ∙ run_cong l (nil ∷ []) [] (leaf J) (leaf J) (λ r m. nil_leaf r (f r m))

  -- what a mode makes of two descriptions stands for the choices of the first, each with those of the second
  result_run : (mode : ℕ) (a b : Desc Graph) → Can 𝓛 a → Can 𝓛 b → (t : Desc Graph) → mode_result J mode a b ≡ some t →
      (k : List Graph → List Graph) → Good 𝓛 k → run (choices t) [] k ≡ run (choices a) [] (λ c. run (choices b) c k)
  unfolding meanings
  result_run mode a b p q t e k g =
      let means : meanings J t ≡ both J a b = subst (Means J (both J a b)) e (result_means 𝓛 mode a b p q) in
      let full-t = choices_full 𝓛 t (mode_can 𝓛 mode a b p q t e) in
      let full-ab = full_pairs 𝓛 (choices a) (choices b) (choices_full 𝓛 a p) (choices_fine 𝓛 b q) in
      same_run 𝓛 k g (choices t) (pairs (choices a) (choices b)) full-t full-ab (means
      ∙ sym (run_pairs (choices a) (choices b) [] (leaf J)))
      ∙ run_pairs (choices a) (choices b) [] k

  module _ (L : List (List Graph)) (d : Desc Graph) (p : Can 𝓛 d) (m : Stands_for L d) (b : Desc Graph) (q : Can 𝓛 b) where
    with_more : (k : List Graph → List Graph) → Good 𝓛 k →
        length (run (choices d) [] (λ c. run (choices b) c k)) ≡ length (run (pairs L (choices b)) [] k)
    with_more k g = m (λ c. run (choices b) c k) (good_run 𝓛 (choices b) k (choices_fine 𝓛 b q) g)
        ∙ ap length (sym (run_pairs L (choices b) [] k))

    -- one call, whichever input it is in: the result stands for the choices of both
    pub one_more : (mode : ℕ) (t : Desc Graph) → mode_result J mode d b ≡ some t → Stands_for (pairs L (choices b)) t
    one_more mode t e k g = ap length (result_run mode d b p q t e k g) ∙ with_more k g

    pub one_more_behind : (mode : ℕ) (t : Desc Graph) → mode_result J mode b d ≡ some t → Stands_for (pairs L (choices b)) t
    one_more_behind mode t e k g =
        ap length (result_run mode b d q p t e k g)
        ∙ swap_runs (choices b) (choices d) (choices_full 𝓛 b q) (choices_full 𝓛 d p) k g ∙ with_more k g

  ways_run : (l : List (Desc Graph)) → AllCan l → ways J l ≡ length (run (sofar J l) [] (leaf J))
  ways_run l c = agreeing_run J (one_of_each l) ∙ ap length (sym (prefixed (one_of_each l) (chosen_fine l c)))

  -- the readings of what stands for a list number as many as the ways
  pub stands_ways : (l : List (Desc Graph)) → AllCan l → (d : Desc Graph) → Stands_for (sofar J l) d → readings J d ≡ ways J l
  unfolding meanings
  stands_ways l c d m = readings_count J d ∙ m (leaf J) (good_leaf 𝓛) ∙ sym (ways_run l c)

  all_more : (l : List (Desc Graph)) (b : Desc Graph) → AllCan l → Can 𝓛 b → AllCan (l ++ b ∷ [])
  all_more [] b c q = (q, tt)
  all_more (d ∷ l) b c q = (c.0, all_more l b c.1 q)

  -- one more description on the list
  more_run : (l : List (Desc Graph)) (b : Desc Graph) → AllCan l → Can 𝓛 b →
      run (pairs (sofar J l) (choices b)) [] (leaf J) ≡ run (one_of_each (l ++ b ∷ [])) [] (leaf J)
  more_run l b ca q =
      let K : List Graph → List Graph = λ c. run (choices b) c (leaf J) in
      run_pairs (sofar J l) (choices b) [] (leaf J)
      ∙ run_pairs (choices (nothing_said J)) (one_of_each l) [] K
      ∙ run_cong (choices (nothing_said J)) [] [] (λ c. run (one_of_each l) c K) (λ c. run (one_of_each (l ++ b ∷ [])) c (leaf J))
      (λ r i. run_cong (one_of_each l) r r K (λ c. run (one_of_each (b ∷ [])) c (leaf J)) (λ x j. single (r ++ x))
      ∙ sym (chosen_append l (b ∷ []) r (leaf J)))
      ∙ sym (run_pairs (choices (nothing_said J)) (one_of_each (l ++ b ∷ [])) [] (leaf J))
      ∙ prefixed (one_of_each (l ++ b ∷ [])) (chosen_fine (l ++ b ∷ []) (all_more l b ca q))
    where
      single : (c : List Graph) → run (choices b) c (leaf J) ≡ run (pairs (choices b) ([] ∷ [])) c (leaf J)
      single c = run_cong (choices b) c c (leaf J) (λ d. run ([] ∷ []) d (leaf J)) (λ r i. ap (leaf J) (sym (append-nil (c ++ r)))
          ∙ sym (append-nil (leaf J ((c ++ r) ++ [])))) ∙ sym (run_pairs (choices b) ([] ∷ []) c (leaf J))

  pub next_ways : (l : List (Desc Graph)) → AllCan l → (d : Desc Graph) → Can 𝓛 d → Stands_for (sofar J l) d → (b : Desc Graph) → Can 𝓛 b →
      ways J (l ++ b ∷ []) ≡ length (both J d b)
  next_ways l c d p m b q = agreeing_run J (one_of_each (l ++ b ∷ [])) ∙ ap length (sym (more_run l b c q))
      ∙ sym (with_more (sofar J l) d p m b q (leaf J) (good_leaf 𝓛))

  gathers : (l : List (ℕ × Desc Graph)) → AllCan (descriptions l) → (L : List (List Graph)) (d : Desc Graph) → Can 𝓛 d → Stands_for L d →
      (t : Desc Graph) → gathered J d l ≡ some t → Can 𝓛 t × Stands_for (pairs L (one_of_each (descriptions l))) t
  gathers [] c L d p m t e = let k : d ≡ t = cc in
      subst (λ (z : Desc Graph). Can 𝓛 z × Stands_for (pairs L ([] ∷ [])) z) k (p, no_more L d m)
  gathers (s ∷ l) c L d p m t e =
      go (mode_result J s.0 d s.1) refl (λ r cr mr. gathers l c.1 (pairs L (choices s.1)) r cr mr t) e
    where
      More : List (List Graph)
      More = pairs L (choices s.1)

      go : (o : Option (Desc Graph)) → mode_result J s.0 d s.1 ≡ o →
          ((r : Desc Graph) → Can 𝓛 r → Stands_for More r → gathered J r l ≡ some t →
          Can 𝓛 t × Stands_for (pairs More (one_of_each (descriptions l))) t) →
          ◌≡◌ {A = Option (Desc Graph)} (elim o [ none ↦ none | some e ↦ gathered J e l ]) (some t) →
          Can 𝓛 t × Stands_for (pairs L (one_of_each (descriptions (s ∷ l)))) t
      go none h ih e = let z : ◌≡◌ {A = ℕ} 0 1 = cc in absurd (omega arith)
      go (some r) h ih e =
          let (ct, mt) = ih r (mode_can 𝓛 s.0 d s.1 p c.0 r h) (one_more L d p m s.1 c.0 s.0 r h) e in
          (ct, regroup L s.1 t (descriptions l) mt)

module _ {Graph : Type 0} {J : Joining Graph} (𝓛 : Laws J) (𝓕 : Layout Graph) where
  module _ (l : List (ℕ × Desc Graph)) (c : AllCan 𝓛 (descriptions l)) (d : Desc Graph) (h : gathered J (nothing_said J) l ≡ some d) where
    gathered_stands : Can 𝓛 d × Stands_for 𝓛 (sofar J (descriptions l)) d
    gathered_stands = gathers 𝓛 l c (choices (nothing_said J)) (nothing_said J) (nothing_can 𝓛) (λ k g. refl) d h

    -- the readings of the result number as many as the ways
    pub gathered_readings : readings J d ≡ ways J (descriptions l)
    gathered_readings = stands_ways 𝓛 (descriptions l) c d gathered_stands.1

    module _ (b : Desc Graph) (q : Can 𝓛 b) where
      -- a mode fails only when the number is zero
      pub gathered_clash : (mode : ℕ) → mode_result J mode d b ≡ none → ways J (descriptions l ++ b ∷ []) ≡ 0
      gathered_clash mode e = next_ways 𝓛 (descriptions l) c d gathered_stands.0 gathered_stands.1 b q
          ∙ ap length (subst (Means J (both J d b)) e (result_means 𝓛 mode d b gathered_stands.0 q))

      -- the complete mode counts the ways, and fails whenever there is none
      pub gathered_counted : consistent J d b ≡ ways J (descriptions l ++ b ∷ [])
      gathered_counted = consistent_means 𝓛 d b gathered_stands.0 q
          ∙ sym (next_ways 𝓛 (descriptions l) c d gathered_stands.0 gathered_stands.1 b q)

      pub gathered_told : ways J (descriptions l ++ b ∷ []) ≡ 0 → mode_result J 2 d b ≡ none
      gathered_told z = full_is J 𝓕 d b (gathered_counted ∙ z)
