-- The laws of a forest: its roots, its labels, and a link of two roots. Assumes nothing.
use mathlib.Core.Path.{◌≡◌, refl, sym, ap, ◌∙◌}
use mathlib.Core.Bool.{true, false}
use mathlib.Core.List.{List, [], ◌∷◌}
use Prim.Native.Nat.{ℕ, zero, suc, ◌+◌, ◌-◌, ◌≤◌, ◌<◌}
use native.Mathlib.Omega.{arith}
use native.Mathlib.Decide.{ℕ_discrete}
use lib.ListN.{length, set, get_or, length-map, length-set}
use lib.Seq.{ext_get_or, get_or-set_same, get_or-set_other}
use Rattle.forest.proofs.Relabel.{relab, relabelled}
use lib.Dec.{eqb}
use borrow.Author.Tests.{eq-eqb, ne_eqb}
use Rattle.forest.specs.Labels.{by_test}
use Rattle.forest.specs.Forest.{Shape, Forest, tops}
use Rattle.forest.proofs.Kernel.{relab_hit, relab_miss}

-- ---- for measures: the steps from i to its root, where f are enough
unfoldable pub climb : ℕ → List ℕ → ℕ → ℕ
climb zero P i = 0
climb (suc f) P i = by_test (eqb (get_or P i 0) i) 0 (suc (climb f P (get_or P i 0)))

-- where f steps up lead from i
unfoldable pub ascend : ℕ → List ℕ → ℕ → ℕ
ascend zero P i = i
ascend (suc f) P i = ascend f P (get_or P i 0)

climb_on : (f : ℕ) (P : List ℕ) (i : ℕ) → (get_or P i 0 ≡ i → ⊥) → climb (suc f) P i ≡ suc (climb f P (get_or P i 0))
unfolding climb
climb_on f P i d = rw (ne_eqb (get_or P i 0) i d) refl

climb_top : (f : ℕ) (P : List ℕ) (i : ℕ) → get_or P i 0 ≡ i → climb f P i ≡ 0
unfolding climb
climb_top zero P i e = refl
climb_top (suc f) P i e = rw (eq-eqb (get_or P i 0) i e) refl

-- ---- up to the root
module _ (P : List ℕ) (s : Shape P) where
  -- what holds of roots, and of a node where it holds of its parent, holds of all
  from_roots : (Q : ℕ → Type 0) → ((i : ℕ) → i < length P → get_or P i 0 ≡ i → Q i) →
      ((i : ℕ) → i < length P → Q (get_or P i 0) → Q i) → (i : ℕ) → i < length P → Q i
  from_roots Q r t i h = go 11 i h (omega arith)
    where
      go : (f i : ℕ) → i < length P → 10 < s.rank i + f → Q i
      go zero i h l = absurd (omega (arith, s.ten i h))
      go (suc f) i h l = pick (ℕ_discrete (get_or P i 0) i) (λ d. go f (get_or P i 0) (s.inside i h) (omega (arith, s.up i h d)))
        where
          pick : Dec (get_or P i 0 ≡ i) → ((get_or P i 0 ≡ i → ⊥) → Q (get_or P i 0)) → Q i
          pick (yes e) k = r i h e
          pick (no d) k = t i h (k d)

  -- a label is a root
  pub label_root : (M : List ℕ) → Forest P M → (i : ℕ) → i < length P → (get_or M i 0 < length P) × (get_or P (get_or M i 0) 0 ≡ get_or M i 0)
  label_root M f = from_roots (λ i. (get_or M i 0 < length P) × (get_or P (get_or M i 0) 0 ≡ get_or M i 0))
      (λ i h e. rw (f.tops i h e) (h, e)) (λ i h q. rw (f.follow i h) q)

  -- the label of a label is itself
  pub label_top : (M : List ℕ) → Forest P M → (i : ℕ) → i < length P → get_or M (get_or M i 0) 0 ≡ get_or M i 0
  label_top M f i h = let r = label_root M f i h in f.tops (get_or M i 0) r.0 r.1

  -- there is one labelling
  pub one_labelling : (L M : List ℕ) → Forest P L → Forest P M → L ≡ M
  one_labelling L M f g = ext_get_or 0 L M (f.len ∙ sym g.len)
      (λ i h. from_roots (λ i. get_or L i 0 ≡ get_or M i 0) (λ i h e. f.tops i h e ∙ sym (g.tops i h e))
      (λ i h q. f.follow i h ∙ q ∙ sym (g.follow i h)) i (let l = f.len in omega arith))

  -- ---- ten steps up from any node lead to its root
  stay : (f i : ℕ) → get_or P i 0 ≡ i → ascend f P i ≡ i
  unfolding ascend
  stay zero i e = refl
  stay (suc f) i e = rw e (stay f i e)

  -- a node of the highest rank is a root
  high : (i : ℕ) → i < length P → 10 ≤ s.rank i → get_or P i 0 ≡ i
  high i h l = go (ℕ_discrete (get_or P i 0) i)
    where
      go : Dec (get_or P i 0 ≡ i) → get_or P i 0 ≡ i
      go (yes e) = e
      go (no d) = absurd (omega (arith, s.up i h d, s.ten (get_or P i 0) (s.inside i h)))

  arrive : (f i : ℕ) → i < length P → 10 ≤ s.rank i + f → get_or P (ascend f P i) 0 ≡ ascend f P i
  unfolding ascend
  arrive zero i h l = high i h (omega arith)
  arrive (suc f) i h l = go (ℕ_discrete (get_or P i 0) i) (λ d. arrive f (get_or P i 0) (s.inside i h) (omega (arith, s.up i h d)))
    where
      go : Dec (get_or P i 0 ≡ i) → ((get_or P i 0 ≡ i → ⊥) → get_or P (ascend f P (get_or P i 0)) 0 ≡ ascend f P (get_or P i 0)) →
          get_or P (ascend f P (get_or P i 0)) 0 ≡ ascend f P (get_or P i 0)
      go (yes e) k = rw (e, stay f i e) e
      go (no d) k = k d

  within : (f i : ℕ) → i < length P → ascend f P i < length P
  unfolding ascend
  within zero i h = h
  within (suc f) i h = within f (get_or P i 0) (s.inside i h)

  along : (L : List ℕ) → Forest P L → (f i : ℕ) → i < length P → get_or L (ascend f P i) 0 ≡ get_or L i 0
  unfolding ascend
  along L g zero i h = refl
  along L g (suc f) i h = along L g f (get_or P i 0) (s.inside i h) ∙ sym (g.follow i h)

  pub ten_steps : (L : List ℕ) → Forest P L → (i : ℕ) → i < length P → ascend 10 P i ≡ get_or L i 0
  ten_steps L g i h = sym (g.tops (ascend 10 P i) (within 10 i h) (arrive 10 i h (omega arith))) ∙ along L g 10 i h

  enough : (f i : ℕ) → i < length P → 10 ≤ s.rank i + f → climb (suc f) P i ≡ climb f P i
  enough zero i h l = let e = high i h (omega arith) in climb_top 1 P i e ∙ sym (climb_top 0 P i e)
  enough (suc f) i h l = go (ℕ_discrete (get_or P i 0) i) (λ d. enough f (get_or P i 0) (s.inside i h) (omega (arith, s.up i h d)))
    where
      go : Dec (get_or P i 0 ≡ i) → ((get_or P i 0 ≡ i → ⊥) → climb (suc f) P (get_or P i 0) ≡ climb f P (get_or P i 0)) →
          climb (suc (suc f)) P i ≡ climb (suc f) P i
      go (yes e) k = climb_top (suc (suc f)) P i e ∙ sym (climb_top (suc f) P i e)
      go (no d) k = climb_on (suc f) P i d ∙ ap suc (k d) ∙ sym (climb_on f P i d)

  pub climb_less : (i : ℕ) → i < length P → (get_or P i 0 ≡ i → ⊥) → climb 10 P (get_or P i 0) < climb 10 P i
  climb_less i h d = omega (arith, climb_on 9 P i d, enough 9 (get_or P i 0) (s.inside i h) (omega (arith, s.up i h d)))

-- ---- labels where one is exchanged for another
pub label : (a b : ℕ) (L : List ℕ) (j : ℕ) → j < length L → get_or (relabelled a b L) j 0 ≡ relab a b (get_or L j 0)
unfolding relabelled
label a b [] j h = absurd (omega arith)
label a b (x ∷ L) zero h = refl
label a b (x ∷ L) (suc j) h = label a b L j (omega arith)

pub length_relabelled : (a b : ℕ) (L : List ℕ) → length (relabelled a b L) ≡ length L
unfolding relabelled
length_relabelled a b L = length-map L (relab a b)

-- ---- a link: the root a goes below the root b
-- ranks where that of b is above that of a
abbrev pub raised : ℕ → ℕ → (ℕ → ℕ) → ℕ → ℕ
raised a b rank i = rank i + by_test (eqb i b) (suc (rank a) - rank b) 0

pub raised_at : (a b : ℕ) (rank : ℕ → ℕ) → raised a b rank b ≡ rank b + (suc (rank a) - rank b)
raised_at a b rank = rw (eq-eqb b b refl) refl

pub raised_off : (a b : ℕ) (rank : ℕ → ℕ) (i : ℕ) → (i ≡ b → ⊥) → raised a b rank i ≡ rank i
raised_off a b rank i d = rw (ne_eqb i b d) (omega arith)

module _ (P : List ℕ) (a b : ℕ) (ha : a < length P) (hb : b < length P) (ne : b ≡ a → ⊥) (ra : get_or P a 0 ≡ a)
    (rb : get_or P b 0 ≡ b) where
  unfoldable pub link_shape : (s : Shape P) → s.rank a < 10 → Shape (set P a b)
  link_shape s low = record {
    inside = λ i h. inside i (simp length-set at h) (ℕ_discrete i a);
    rank = raised a b s.rank;
    up = λ i h d. up i (simp length-set at h) d (ℕ_discrete i a);
    ten = λ i h. ten i (simp length-set at h) (ℕ_discrete i b);
  }
    where
      inside : (i : ℕ) → i < length P → Dec (i ≡ a) → get_or (set P a b) i 0 < length (set P a b)
      inside i h (yes e) = simp length-set (rw (e, get_or-set_same P a b 0 ha) hb)
      inside i h (no n) = simp length-set (rw (get_or-set_other P a i b 0 n) (s.inside i h))

      ten : (i : ℕ) → i < length P → Dec (i ≡ b) → raised a b s.rank i ≤ 10
      ten i h (yes e) = rw e (omega (arith, raised_at a b s.rank, s.ten b hb))
      ten i h (no n) = omega (arith, raised_off a b s.rank i n, s.ten i h)

      -- ranks do not fall
      grows : (p : ℕ) → s.rank p ≤ raised a b s.rank p
      grows p = omega arith

      up : (i : ℕ) → i < length P → (get_or (set P a b) i 0 ≡ i → ⊥) → Dec (i ≡ a) →
          raised a b s.rank i < raised a b s.rank (get_or (set P a b) i 0)
      up i h d (yes e) = rw (e, get_or-set_same P a b 0 ha)
          (omega (arith, raised_at a b s.rank, raised_off a b s.rank a (λ z. ne (sym z))))
      up i h d (no n) =
          let p : get_or (set P a b) i 0 ≡ get_or P i 0 = get_or-set_other P a i b 0 n in
          let m : get_or P i 0 ≡ i → ⊥ = λ z. d (p ∙ z) in
          let o = raised_off a b s.rank i (λ z. m (ap (λ (j : ℕ). get_or P j 0) z ∙ rb ∙ sym z)) in
          rw p (omega (arith, s.up i h m, grows (get_or P i 0)))

  pub link_forest : Shape P → (L : List ℕ) → Forest P L → Forest (set P a b) (relabelled a b L)
  link_forest s L f = record {
    len = length_relabelled a b L ∙ f.len ∙ sym (length-set P a b);
    follow = λ i h. follows i (simp length-set at h) (ℕ_discrete i a);
    tops = λ i h e. top i (simp length-set at h) e (ℕ_discrete i a);
  }
    where
      at : (i : ℕ) → i < length P → get_or (relabelled a b L) i 0 ≡ relab a b (get_or L i 0)
      at i h = label a b L i (let l = f.len in omega arith)

      at_a : relab a b (get_or L a 0) ≡ b
      at_a = relab_hit a b (get_or L a 0) (f.tops a ha ra)

      at_b : relab a b (get_or L b 0) ≡ b
      at_b = ap (relab a b) (f.tops b hb rb) ∙ relab_miss a b b ne

      follows : (i : ℕ) → i < length P → Dec (i ≡ a) → get_or (relabelled a b L) i 0 ≡ get_or (relabelled a b L) (get_or (set P a b) i 0) 0
      follows i h (yes e) = rw (e, get_or-set_same P a b 0 ha) (at a ha ∙ at_a ∙ sym at_b ∙ sym (at b hb))
      follows i h (no n) = rw (get_or-set_other P a i b 0 n) (at i h ∙ ap (relab a b) (f.follow i h) ∙ sym (at (get_or P i 0) (s.inside i h)))

      top : (i : ℕ) → i < length P → get_or (set P a b) i 0 ≡ i → Dec (i ≡ a) → get_or (relabelled a b L) i 0 ≡ i
      top i h e (yes q) = absurd (ne (sym (get_or-set_same P a b 0 ha) ∙ (rw q at e)))
      top i h e (no n) =
          let g : get_or P i 0 ≡ i = sym (get_or-set_other P a i b 0 n) ∙ e in
          at i h ∙ ap (relab a b) (f.tops i h g) ∙ relab_miss a b i n

-- ---- the same forest
abbrev pub shape_on : {P Q : List ℕ} → Q ≡ P → Shape P → Shape Q
shape_on e s = record { inside = rw e s.inside; rank = s.rank; up = rw e s.up; ten = rw e s.ten }

-- ---- the number of roots
pub tops_link : (i : ℕ) (P : List ℕ) (a b : ℕ) → a < length P → get_or P a 0 ≡ i + a → (b ≡ i + a → ⊥) → suc (tops i (set P a b)) ≡ tops i P
unfolding tops
tops_link i [] a b h e n = absurd (omega arith)
tops_link i (x ∷ P) zero b h e n =
    let p : eqb x i ≡ true = eq-eqb x i (omega arith) in
    let q : eqb b i ≡ false = ne_eqb b i (λ z. n (omega arith)) in
    rw (p, q) (omega arith)
tops_link i (x ∷ P) (suc a) b h e n =
    let r : suc (tops (suc i) (set P a b)) ≡ tops (suc i) P = tops_link (suc i) P a b (omega arith) (omega arith) (λ z. n (omega arith)) in
    omega arith

-- a root is counted
tops_pos : (P : List ℕ) (a : ℕ) → a < length P → get_or P a 0 ≡ a → 0 < tops 0 P
tops_pos P a h e =
    let r : suc (tops 0 (set P a (suc a))) ≡ tops 0 P = tops_link 0 P a (suc a) h (omega arith) (λ z. omega arith) in
    omega arith

-- and so are two
pub tops_two : (P : List ℕ) (a b : ℕ) → a < length P → b < length P → (a ≡ b → ⊥) → get_or P a 0 ≡ a → get_or P b 0 ≡ b → 1 < tops 0 P
tops_two P a b ha hb n ra rb =
    let r = tops_link 0 P b a hb (omega arith) (λ z. n (omega arith)) in
    let l = length-set P b a in
    let t = tops_pos (set P b a) a (omega arith) (get_or-set_other P b a a 0 n ∙ ra) in
    omega arith
