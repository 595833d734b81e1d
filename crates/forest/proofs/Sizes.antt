-- The laws of the numbers of nodes that have a label. Assumes nothing.
use mathlib.Core.Path.{◌≡◌, refl, ◌∙◌}
use mathlib.Core.List.{List, [], ◌∷◌}
use Prim.Native.Nat.{ℕ, zero, suc, ◌+◌, ◌-◌, ◌^◌, ◌≤◌, ◌<◌}
use native.Mathlib.Omega.{arith}
use native.Mathlib.Decide.{ℕ_discrete, dec_lt}
use lib.ListN.{length, get_or}
use borrow.Author.Tests.{eq-eqb, ne_eqb}
use Rattle.forest.specs.Labels.{how_many}
use Rattle.forest.proofs.Relabel.{relab, relabelled}
use Rattle.forest.proofs.Kernel.{relab_hit, relab_miss}

-- ---- one label more
one_hit : (c x : ℕ) (l : List ℕ) → x ≡ c → how_many c (x ∷ l) ≡ suc (how_many c l)
unfolding how_many
one_hit c x l e = rw (eq-eqb x c e) (omega arith)

one_miss : (c x : ℕ) (l : List ℕ) → (x ≡ c → ⊥) → how_many c (x ∷ l) ≡ how_many c l
unfolding how_many
one_miss c x l n = rw (ne_eqb x c n) (omega arith)

none_many : (c : ℕ) → how_many c [] ≡ 0
unfolding how_many
none_many c = refl

-- two labels together are no more than all
pub many_two : (a b : ℕ) (l : List ℕ) → (a ≡ b → ⊥) → how_many a l + how_many b l ≤ length l
many_two a b [] n = let x = none_many a in let y = none_many b in omega arith
many_two a b (x ∷ l) n = go (ℕ_discrete x a) (ℕ_discrete x b) (many_two a b l n)
  where
    go : Dec (x ≡ a) → Dec (x ≡ b) → how_many a l + how_many b l ≤ length l → how_many a (x ∷ l) + how_many b (x ∷ l) ≤ suc (length l)
    go (yes e) (yes d) r = absurd (n (omega arith))
    go (yes e) (no d) r = omega (arith, one_hit a x l e, one_miss b x l d)
    go (no e) (yes d) r = omega (arith, one_miss a x l e, one_hit b x l d)
    go (no e) (no d) r = omega (arith, one_miss a x l e, one_miss b x l d)

-- ---- where b becomes a
module _ (a b : ℕ) (n : a ≡ b → ⊥) where
  pub many_joined : (l : List ℕ) → how_many a (relabelled b a l) ≡ how_many a l + how_many b l
  unfolding relabelled
  many_joined [] = let x = none_many a in let y = none_many b in omega arith
  many_joined (x ∷ l) = go (ℕ_discrete x a) (ℕ_discrete x b) (many_joined l)
    where
      go : Dec (x ≡ a) → Dec (x ≡ b) → how_many a (relabelled b a l) ≡ how_many a l + how_many b l →
          how_many a (relab b a x ∷ relabelled b a l) ≡ how_many a (x ∷ l) + how_many b (x ∷ l)
      go (yes e) (yes d) r = absurd (n (omega arith))
      go (yes e) (no d) r = omega (
        arith,
        one_hit a (relab b a x) (relabelled b a l) (relab_miss b a x d ∙ e),
        one_hit a x l e,
        one_miss b x l d,
      )
      go (no e) (yes d) r = omega (arith, one_hit a (relab b a x) (relabelled b a l) (relab_hit b a x d), one_miss a x l e, one_hit b x l d)
      go (no e) (no d) r = omega (
        arith,
        one_miss a (relab b a x) (relabelled b a l) (rw (relab_miss b a x d) e),
        one_miss a x l e,
        one_miss b x l d,
      )

  pub many_other : (c : ℕ) → (c ≡ a → ⊥) → (c ≡ b → ⊥) → (l : List ℕ) → how_many c (relabelled b a l) ≡ how_many c l
  unfolding relabelled
  many_other c p q [] = refl
  many_other c p q (x ∷ l) = go (ℕ_discrete x b) (ℕ_discrete x c) (many_other c p q l)
    where
      go : Dec (x ≡ b) → Dec (x ≡ c) → how_many c (relabelled b a l) ≡ how_many c l →
          how_many c (relab b a x ∷ relabelled b a l) ≡ how_many c (x ∷ l)
      go (yes e) d r = omega (
        arith,
        one_miss c (relab b a x) (relabelled b a l) (λ z. p (omega (arith, relab_hit b a x e))),
        one_miss c x l (λ z. q (omega arith)),
      )
      go (no e) (yes d) r = omega (arith, one_hit c (relab b a x) (relabelled b a l) (relab_miss b a x e ∙ d), one_hit c x l d)
      go (no e) (no d) r = omega (arith, one_miss c (relab b a x) (relabelled b a l) (rw (relab_miss b a x e) d), one_miss c x l d)

-- ---- where each node is its own label, the first one o
many_below : (o c : ℕ) (l : List ℕ) → ((i : ℕ) → i < length l → get_or l i 0 ≡ o + i) → c < o → how_many c l ≡ 0
many_below o c [] f h = none_many c
many_below o c (x ∷ l) f h =
    let x0 = f 0 (omega arith) in
    let r = many_below (suc o) c l (λ i b. let y = f (suc i) (omega arith) in omega arith) (omega arith) in
    omega (arith, one_miss c x l (λ e. omega arith))

pub many_own : (o c : ℕ) (l : List ℕ) → ((i : ℕ) → i < length l → get_or l i 0 ≡ o + i) → c < length l → how_many (o + c) l ≡ 1
many_own o c [] f h = absurd (omega arith)
many_own o zero (x ∷ l) f h =
    let x0 = f 0 (omega arith) in
    let r = many_below (suc o) (o + 0) l (λ i b. let y = f (suc i) (omega arith) in omega arith) (omega arith) in
    omega (arith, one_hit (o + 0) x l (omega arith))
many_own o (suc c) (x ∷ l) f h =
    let x0 = f 0 (omega arith) in
    let e : suc o + c ≡ o + suc c = omega arith in
    let r = rw e at (many_own (suc o) c l (λ i b. let y = f (suc i) (omega arith) in omega arith) (omega arith)) in
    omega (arith, one_miss (o + suc c) x l (λ e. omega arith))

-- ---- a rank that is raised above another, where the class gets the nodes of both
pub rank_joined : (r t x y : ℕ) → 2 ^ r ≤ x → 2 ^ t ≤ y → y ≤ x → 2 ^ (r + (suc t - r)) ≤ x + y
rank_joined r t x y p q l = go (dec_lt t r)
  where
    go : Dec (t < r) → 2 ^ (r + (suc t - r)) ≤ x + y
    go (yes d) = let e : r + (suc t - r) ≡ r = omega arith in rw e (omega arith)
    go (no d) = let e : r + (suc t - r) ≡ suc t = omega arith in rw e (omega arith)

-- ---- a rank with no more than 1,024 nodes is ten at most
steep : (d : ℕ) → 2048 ≤ 2 ^ (11 + d)
steep zero = omega arith
steep (suc d) = let r = steep d in let e : 11 + suc d ≡ suc (11 + d) = omega arith in rw e (omega arith)

pub rank_low : (r : ℕ) → 2 ^ r ≤ 1024 → r ≤ 10
rank_low r h = go (dec_lt 10 r)
  where
    go : Dec (10 < r) → r ≤ 10
    go (no y) = omega arith
    go (yes y) = let s = steep (r - 11) in let e : 11 + (r - 11) ≡ r = omega arith in absurd (omega (arith, rw e at s))
