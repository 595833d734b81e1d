-- Paths through a structure, and what it is to satisfy the graph of a path.
-- Assumes nothing.
use mathlib.Core.Path.{◌≡◌, refl, ap, sym, ◌∙◌, subst}
use mathlib.Core.List.Memᴰ
use mathlib.Core.List.{List, [], ◌∷◌, ◌++◌, Memᴰ}
use Prim.Native.Nat.{ℕ, zero, suc, ◌+◌, ◌<◌}
use native.Mathlib.Bridge.{le_prop}
use native.Mathlib.Decide.{dec_lt}
use native.Mathlib.Omega.{arith}
use lib.ListN.{length}
use Rattle.theory.specs.Net.{Node, atom, nodeAt, arcsOf, graph}
use Rattle.theory.specs.Structure.{Structure, Into}
use Rattle.theory.proofs.Instance.{numbered_target}
use Rattle.formulas.specs.Formula.{Path, Leads}
use Rattle.formulas.specs.Part.{chain}
use Rattle.formulas.proofs.Chains.{chain_length, chain_canonical, last}

module _ (S : Structure) where
  abbrev C : Type 0
  C = S.Carrier

  pub leads_on : (c : C) (p q : Path) (d e : C) → Leads S c p d → Leads S d q e → Leads S c (p ++ q) e
  leads_on c [] q d e l m = subst (λ (z : C). Leads S z q e) (sym l) m
  leads_on c (f ∷ p) q d e l m = (l.0, l.1, leads_on l.0 p q d e l.2 m)

  pub leads_back : (c : C) (p q : Path) (e : C) → Leads S c (p ++ q) e → (d : C) × Leads S c p d × Leads S d q e
  leads_back c [] q e l = (c, refl, l)
  leads_back c (f ∷ p) q e l = let (d, m, n) = leads_back l.0 p q e l.2 in (d, (l.0, l.1, m), n)

  pub leads_one : (c : C) (p : Path) (d e : C) → Leads S c p d → Leads S c p e → d ≡ e
  leads_one c [] d e l m = sym l ∙ m
  leads_one c (f ∷ p) d e l m =
      leads_one m.0 p d e (subst (λ (z : C). Leads S z p d) (S.one_target c f l.0 m.0 l.1 m.1) l.2) m.2

  -- the nodes on the way
  abbrev pub step : (c : C) (p : Path) (d : C) → Leads S c p d → ℕ → C
  step c [] d l n = c
  step c (f ∷ p) d l zero = c
  step c (f ∷ p) d l (suc n) = step l.0 p d l.2 n

  pub step_first : (c : C) (p : Path) (d : C) (l : Leads S c p d) → step c p d l 0 ≡ c
  step_first c [] d l = refl
  step_first c (f ∷ p) d l = refl

  pub step_last : (c : C) (p : Path) (d : C) (l : Leads S c p d) → step c p d l (length p) ≡ d
  step_last c [] d l = l
  step_last c (f ∷ p) d l = step_last l.0 p d l.2

  pub step_arc : (k : ℕ) (c : C) (p : Path) (d : C) (l : Leads S c p d) (v : Node) → arcsOf v ≡ [] → (n f t : ℕ) →
      Memᴰ (f, t) (arcsOf (nodeAt (chain k p v) n)) →
      (t ≡ suc (k + n)) × S.Goes (step c p d l n) f (step c p d l (suc n))
  step_arc k c [] d l v e zero f t i = absurd (Memᴰ.not-nil (subst (λ (z : List (ℕ × ℕ)). Memᴰ (f, t) z) e i))
  step_arc k c [] d l v e (suc n) f t i = absurd (Memᴰ.not-nil i)
  step_arc k c (g ∷ p) d l v e zero f t i =
      let h : ◌≡◌ {A = ℕ × ℕ} (f, t) (g, suc k) = Memᴰ.eq_of_singleton i in
      let a : g ≡ f = sym (ap (λ (z : ℕ × ℕ). z.0) h) in
      let b : t ≡ suc k = ap (λ (z : ℕ × ℕ). z.1) h in (
        omega (arith, b),
        subst (λ (z : ℕ). S.Goes c z (step l.0 p d l.2 0)) a
            (subst (λ (z : C). S.Goes c g z) (sym (step_first l.0 p d l.2)) l.1),
      )
  step_arc k c (g ∷ p) d l v e (suc n) f t i = let r = step_arc (suc k) l.0 p d l.2 v e n f t i in let a = r.0 in
      (omega (arith, a), r.1)

  pub step_atom : (k : ℕ) (p : Path) (v : Node) (n a : ℕ) → nodeAt (chain k p v) n ≡ atom a → (n ≡ length p) × (v ≡ atom a)
  step_atom k [] v zero a e = (refl, e)
  step_atom k [] v (suc n) a e = let z : ◌≡◌ {A = ℕ} 0 1 = cc in absurd (omega arith)
  step_atom k (g ∷ p) v zero a e = let z : ◌≡◌ {A = ℕ} 0 1 = cc in absurd (omega arith)
  step_atom k (g ∷ p) v (suc n) a e = let r = step_atom (suc k) p v n a e in (ap suc r.0, r.1)

  -- a path that leads to d, where v says what is so, satisfies its graph
  module _ (p : Path) (v : Node) (e : arcsOf v ≡ []) (d : C) (l : Leads S S.start p d) (says : (a : ℕ) → v ≡ atom a → S.Has d a) where
    abbrev pub chain_into : Into (graph (chain 0 p v)) S
    chain_into = record {
      to = λ x. step S.start p d l x.0;
      root_to = λ x r. ap (step S.start p d l) r ∙ step_first S.start p d l;
      atom_to = λ x a u. let r = step_atom 0 p v x.0 a u in
          subst (λ (z : C). S.Has z a) (sym (ap (step S.start p d l) r.0 ∙ step_last S.start p d l)) (says a r.1);
      arc_to = λ x f y u. let r = step_arc 0 S.start p d l v e x.0 f y.0 u in let h = r.0 in let t : suc x.0 ≡ y.0 =
          omega (arith, h) in subst (λ (z : ℕ). S.Goes (step S.start p d l x.0) f (step S.start p d l z)) t r.1;
    }

    pub chain_end : (n : ℕ) → n ≡ length p → step S.start p d l n ≡ d
    chain_end n h = ap (step S.start p d l) h ∙ step_last S.start p d l

  walk : (k : ℕ) (p : Path) (v : Node) (w : ℕ → C) →
      ((n f t : ℕ) → n < length p → Memᴰ (f, t) (arcsOf (nodeAt (chain k p v) n)) → S.Goes (w (k + n)) f (w t)) →
      Leads S (w k) p (w (k + length p))
  walk k [] v w s = let e : k ≡ k + 0 = omega arith in ap w e
  walk k (f ∷ p) v w s =
      let a : k + 0 ≡ k = omega arith in
      let b : suc k + length p ≡ k + suc (length p) = omega arith in (
        w (suc k),
        subst (λ (z : ℕ). S.Goes (w z) f (w (suc k))) a (s 0 f (suc k) (omega arith) (Memᴰ.head refl)),
        subst (λ (z : ℕ). Leads S (w (suc k)) p (w z)) b
            (walk (suc k) p v w (λ n g t h i. let c : k + suc n ≡ suc k + n = omega arith in
            subst (λ (z : ℕ). S.Goes (w z) g (w t)) c (s (suc n) g t (omega arith) i))),
      )

  -- and the other way round
  module _ (p : Path) (v : Node) (e : arcsOf v ≡ []) (h : Into (graph (chain 0 p v)) S) where
    within : (n : ℕ) → Dec (n < length (chain 0 p v)) → C
    within n (yes i) = h.to (n, i)
    within n (no i) = S.start

    at : ℕ → C
    at n = within n (dec_lt n (length (chain 0 p v)))

    at_is : (n : ℕ) (i : n < length (chain 0 p v)) → at n ≡ h.to (n, i)
    unfolding at within
    at_is n i = go (dec_lt n (length (chain 0 p v)))
      where
        go : (t : Dec (n < length (chain 0 p v))) → within n t ≡ h.to (n, i)
        go (yes j) = ap (λ (z : n < length (chain 0 p v)). h.to (n, z)) (le_prop j i)
        go (no j) = absurd (j i)

    pub into_leads : Leads S S.start p (h.to (length p, last p v))
    into_leads =
        let long = chain_length 0 p v in
        let z : 0 < length (chain 0 p v) = omega (arith, long) in
        let r : at 0 ≡ S.start = at_is 0 z ∙ h.root_to (0, z) refl in
        let o : 0 + length p ≡ length p = omega arith in
        let q : at (0 + length p) ≡ h.to (length p, last p v) = ap at o ∙ at_is (length p) (last p v) in
        subst (λ (x : C). Leads S x p (h.to (length p, last p v))) r (subst (λ (x : C). Leads S (at 0) p x) q (walk 0 p v at
        (λ n f t i m.
        let b = numbered_target 0 1 (chain 0 p v) (chain_canonical 0 p v e) n f t m in
        let j : n < length (chain 0 p v) = omega (arith, long) in
        let k : t < length (chain 0 p v) = omega (arith, b) in
        let y : 0 + n ≡ n = omega arith in
        subst (λ (x : ℕ). S.Goes (at x) f (at t)) (sym y) (rw (at_is n j, at_is t k) (h.arc_to (n, j) f (t, k) m)))))

  pub chain_atom : (k : ℕ) (p : Path) (v : Node) → nodeAt (chain k p v) (length p) ≡ v
  chain_atom k [] v = refl
  chain_atom k (f ∷ p) v = chain_atom (suc k) p v
