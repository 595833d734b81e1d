-- The two inputs side by side, by marks: what they keep, what is certain in both, and the search of both.
-- Assumes nothing.
use mathlib.Core.Path.{◌≡◌, refl, ap, sym, ◌∙◌}
use mathlib.Core.Bool.{Bool, true, false}
use mathlib.Core.Option.{Option, none, some}
use mathlib.Core.List.Memᴰ
use mathlib.Core.List.{List, [], ◌∷◌, ◌++◌, append_assoc, Memᴰ}
use Prim.Native.Nat.{ℕ}
use native.Mathlib.Omega.{arith}
use Rattle.descriptions.proofs.Laws.{Laws}
use Rattle.descriptions.proofs.Mean.{Can, CanAll, CanAny, Fine, canon_append, fine_append, in_l, in_r, join_canonical}
use Rattle.modes_by_marks.specs.Placed.{Options, Placed, Places, ◌also◌, inner, no_more, option, own, place, stop, strip, strip_all}
use Rattle.modes_by_marks.specs.Placed.{strip_any}
use Rattle.modes_by_marks.specs.Marks.{Marking, keep, keep_all, keep_any}
use Rattle.modes_by_marks.specs.Certain.{certain, certain_any}
use Rattle.modes_by_marks.specs.Beside.{◌next◌, joined_placed}
use Rattle.modes_by_marks.specs.Search.{Found, dive, dive_all, dive_any}
use Rattle.modes_by_marks.specs.Agenda.{resume, resume_at}
use Rattle.modes_by_marks.proofs.Entail.{SaysAll, fine_cons, join_says, says_append, says_cons, says_here, says_join, says_none}
use Rattle.modes_by_marks.proofs.Entail.{says_there, says_trans, says_within, w_cons, w_right, w_self, w_tail}
use Rattle.modes_by_marks.proofs.Stack.{Same}
use Rattle.descriptions.specs.Joining.{Joining}
use Rattle.descriptions.specs.Canonical.{All}

module _ {Graph : Type 0} where
  -- what is kept of both
  pub keep_next : (m : Marking) (ds es : Places Graph) → keep_all m (ds next es) ≡ keep_all m ds next keep_all m es
  keep_next m stop es = refl
  keep_next m (a also ds) es = ap (◌also◌ (keep_any m a)) (keep_next m ds es)

  -- ---- what is certain in both
  pub certain_next : (m : Marking) (ds es : Places Graph) → certain m (ds next es) ≡ certain m ds ++ certain m es
  certain_next m stop es = refl
  certain_next m (a also ds) es = ap (λ (l : List Graph). certain_any m a ++ l) (certain_next m ds es)
      ∙ sym (append_assoc (certain_any m a) (certain m ds) (certain m es))

  -- ---- the search of both
  same_found : (f h : List Graph → Found) → ((S : List Graph) → f S ≡ h S) → f ≡ h
  same_found f h e = λ i S. e S i

module _ {Graph : Type 0} (J : Joining Graph) where
  open J use {join}

  -- the joined description has the joined graph and the disjunctions of both
  pub record Joins (a b j : Placed Graph) : Type 0 where
    pub k : Graph
    pub joins : join (own a ∷ own b ∷ []) ≡ some k
    pub is : place k (inner a next inner b) ≡ j

  pub joined_is : (a b j : Placed Graph) → joined_placed J a b ≡ some j → Joins a b j
  joined_is (place g ds) (place h es) j e = go (join (g ∷ h ∷ [])) refl e
    where
      go : (o : Option Graph) → join (g ∷ h ∷ []) ≡ o →
          ◌≡◌ {A = Option (Placed Graph)} (elim o [ none ↦ none | some k ↦ some (place k (ds next es)) ]) (some j) →
          Joins (place g ds) (place h es) j
      go none q e = let z : ◌≡◌ {A = ℕ} 0 1 = cc in absurd (omega arith)
      go (some k) q e = record { k = k; joins = q; is = cc }

  module _ (m : Marking) where
    -- what comes after counts only by what it finds
    pub resume_at_after : (ds : Places Graph) (fs gs : List (Places Graph)) (S : List Graph) →
        ((T : List Graph) → resume_at J m fs T ≡ resume_at J m gs T) → resume_at J m (ds ∷ fs) S ≡ resume_at J m (ds ∷ gs) S
    unfolding resume
    resume_at_after ds fs gs S e =
        ap (λ (k : List Graph → Found). dive_all J S (keep_all m ds) k) (same_found (resume_at J m fs) (resume_at J m gs) e)

    -- "The disjunctions are those of the first input, then those of the second, in order."
    pub resume_at_next : (ds es : Places Graph) (fs : List (Places Graph)) (S : List Graph) →
        resume_at J m ((ds next es) ∷ fs) S ≡ resume_at J m (ds ∷ es ∷ fs) S
    unfolding resume dive
    resume_at_next stop es fs S = refl
    resume_at_next (a also ds) es fs S =
        ap (λ (k : List Graph → Found). dive_any J S (keep_any m a) k)
        (same_found (λ T. dive_all J T (keep_all m (ds next es)) (resume_at J m fs))
        (λ T. dive_all J T (keep_all m ds) (resume_at J m (es ∷ fs))) (λ T. resume_at_next ds es fs T))

module _ {Graph : Type 0} {J : Joining Graph} (𝓛 : Laws J) where
  open J use {join}
  open 𝓛 use {Canonical}

  -- what is kept is canonical where all is
  mutual
    pub keep_can : (m : Marking) (d : Placed Graph) → Can 𝓛 (strip d) → Can 𝓛 (strip (keep m d))
    keep_can m (place g ds) c = (c.0, keep_all_can m ds c.1)

    pub keep_all_can : (m : Marking) (ds : Places Graph) → CanAll 𝓛 (strip_all ds) → CanAll 𝓛 (strip_all (keep_all m ds))
    keep_all_can m stop c = tt
    keep_all_can m (a also ds) c = (keep_any_can m a c.0, keep_all_can m ds c.1)

    keep_any_can : (m : Marking) (a : Options Graph) → CanAny 𝓛 (strip_any a) → CanAny 𝓛 (strip_any (keep_any m a))
    keep_any_can m no_more c = tt
    keep_any_can m (option x d a) c = go (m x) (keep_can m d c.0) (keep_any_can m a c.1)
      where
        go : (b : Bool) → Can 𝓛 (strip (keep m d)) → CanAny 𝓛 (strip_any (keep_any m a)) →
            CanAny 𝓛 (strip_any {Graph = Graph} (elim b [ true ↦ option x (keep m d) (keep_any m a) | false ↦ keep_any m a ]))
        go true p q = (p, q)
        go false p q = q

  -- the graphs of both, with what is certain in each, say what their join says with what is certain in both
  pub joined_same : (g h k : Graph) (X Y : List Graph) → Canonical g → Canonical h → All Canonical X → All Canonical Y →
      join (g ∷ h ∷ []) ≡ some k → Same 𝓛 ((g ∷ X) ++ h ∷ Y) (k ∷ (X ++ Y))
  joined_same g h k X Y cg ch cx cy e =
      let two : Fine 𝓛 (g ∷ h ∷ []) = fine_cons 𝓛 g (h ∷ []) cg (ch, tt) in
      let ck : Canonical k = join_canonical 𝓛 (g ∷ h ∷ []) two k e in
      let A : List Graph = (g ∷ X) ++ h ∷ Y in
      let B : List Graph = k ∷ (X ++ Y) in
      let cxy : All Canonical (X ++ Y) = canon_append 𝓛 X Y cx cy in
      let fa : Fine 𝓛 A = fine_append 𝓛 (g ∷ X) (h ∷ Y) (fine_cons 𝓛 g X cg cx) (ch, cy) in
      let fb : Fine 𝓛 B = fine_cons 𝓛 k (X ++ Y) ck cxy in
      let a_two : SaysAll 𝓛 A (g ∷ h ∷ []) =
      says_within 𝓛 A (g ∷ h ∷ []) fa
      (w_cons g (h ∷ []) A (Memᴰ.head refl)
      (w_cons h [] A (Memᴰ.tail (Memᴰ.append_right X (Memᴰ.head refl))) (λ y m. absurd (none_in m)))) in
      let a_k : SaysAll 𝓛 A (k ∷ []) =
      says_trans 𝓛 A (g ∷ h ∷ []) (k ∷ []) fa two (ck, tt) a_two
      (says_cons 𝓛 (g ∷ h ∷ []) k [] (says_join 𝓛 (g ∷ h ∷ []) two k e) (says_none 𝓛 (g ∷ h ∷ []))) in
      let a_x : SaysAll 𝓛 A X = says_within 𝓛 A X fa (w_tail g X (X ++ h ∷ Y) (in_l X (h ∷ Y))) in
      let a_y : SaysAll 𝓛 A Y = says_within 𝓛 A Y fa (w_tail g Y (X ++ h ∷ Y) (w_right Y X (h ∷ Y) (w_tail h Y Y (w_self Y)))) in
      let fk : Fine 𝓛 (k ∷ []) = fine_cons 𝓛 k [] ck tt in
      let b_k : SaysAll 𝓛 B (k ∷ []) = says_within 𝓛 B (k ∷ []) fb (w_cons k [] B (Memᴰ.head refl) (λ y m. absurd (none_in m))) in
      let b_two : SaysAll 𝓛 B (g ∷ h ∷ []) =
      says_trans 𝓛 B (k ∷ []) (g ∷ h ∷ []) fb fk (cg, (ch, tt)) b_k (join_says 𝓛 (g ∷ h ∷ []) two k e) in
      let b_x : SaysAll 𝓛 B X = says_within 𝓛 B X fb (w_tail k X (X ++ Y) (in_l X Y)) in
      let b_y : SaysAll 𝓛 B Y = says_within 𝓛 B Y fb (w_tail k Y (X ++ Y) (in_r X Y)) in
      record {
        fine₁ = fa;
        fine₂ = fb;
        to = says_cons 𝓛 A k (X ++ Y) (says_here 𝓛 A k [] a_k) (says_append 𝓛 A X Y a_x a_y);
        from = says_append 𝓛 B (g ∷ X) (h ∷ Y) (says_cons 𝓛 B g X (says_here 𝓛 B g (h ∷ []) b_two) b_x)
            (says_cons 𝓛 B h Y (says_here 𝓛 B h [] (says_there 𝓛 B g (h ∷ []) b_two)) b_y);
      }
    where
      none_in : {y : Graph} → Memᴰ y [] → ⊥
      none_in m = Memᴰ.not-nil m
