-- The maps of a graph into a structure are the ways to give its nodes their structure nodes.
-- Assumes nothing.
use Prim.Native.Nat.{ℕ, zero, suc, ◌+◌, ◌<◌}
use native.Mathlib.Omega.{arith}
use native.Mathlib.Bridge.{le_prop}
use mathlib.Core.HLevel.{Σ_prop_path}
use mathlib.Core.Path.{◌≡◌, refl, subst, ap, ◌∙◌}
use mathlib.Core.Logic.{◌⊎◌, inl, inr}
use mathlib.Core.Bool.{Bool}
use mathlib.Core.List.Memᴰ
use mathlib.Core.List.{List, [], ◌∷◌, Memᴰ}
use lib.ListN.{length}
use Rattle.theory.specs.Net.{Node, atom, arcs, Graph, nodeAt, arcsOf, NodeOf, graph, Canonical}
use Rattle.theory.specs.FitTest.{Map}
use Rattle.theory.proofs.Number.{TestLt, less, geq, test_lt}
use Rattle.theory.proofs.Instance.{numbered_target}
use Rattle.theory.proofs.Meaning.{canonical_some}
use Rattle.fit.specs.Sending.{SentArcs, Sent, SentHere, SentAll}

module _ (H : Graph) (m : ℕ → ℕ) where
  sent_in : (B l : List (ℕ × ℕ)) → SentArcs B m l → (f t : ℕ) → Memᴰ (f, t) l → Memᴰ (f, m t) B
  sent_in B [] o f t i = absurd (Memᴰ.not-nil i)
  sent_in B (e ∷ l) o f t i = go (Memᴰ.cases_cons i) (sent_in B l o.1 f t)
    where
      go : (◌≡◌ {A = ℕ × ℕ} (f, t) e) ⊎ Memᴰ (f, t) l → (Memᴰ (f, t) l → Memᴰ (f, m t) B) → Memᴰ (f, m t) B
      go (inl d) s = Memᴰ.cast (ap (λ (z : ℕ × ℕ). (z.0, m z.1)) d) o.0
      go (inr j) s = s j

  in_sent : (B l : List (ℕ × ℕ)) → ((f t : ℕ) → Memᴰ (f, t) l → Memᴰ (f, m t) B) → SentArcs B m l
  in_sent B [] s = tt
  in_sent B (e ∷ l) s = (s e.0 e.1 (Memᴰ.head refl), in_sent B l (λ f t i. s f t (Memᴰ.tail i)))

  -- what sending a node says of its arcs
  pub sent_arc : (v : Node) (y : ℕ) → Sent H m v y → (f t : ℕ) → Memᴰ (f, t) (arcsOf v) → Memᴰ (f, m t) (arcsOf (nodeAt H y))
  sent_arc (atom a) y o f t i = absurd (Memᴰ.not-nil i)
  sent_arc (arcs l) y o f t i = sent_in (arcsOf (nodeAt H y)) l o f t i

  sent_from : (v : Node) (y : ℕ) → ((a : ℕ) → v ≡ atom a → nodeAt H y ≡ atom a) →
      ((f t : ℕ) → Memᴰ (f, t) (arcsOf v) → Memᴰ (f, m t) (arcsOf (nodeAt H y))) → Sent H m v y
  sent_from (atom a) y p q = p a refl
  sent_from (arcs l) y p q = in_sent (arcsOf (nodeAt H y)) l q

  all_here : (k : ℕ) (g : Graph) → SentAll H m k g → (i : ℕ) → i < length g → SentHere H m (k + i) (nodeAt g i)
  all_here k [] o i h = absurd (omega arith)
  all_here k (v ∷ vs) o zero h = let e : k + 0 ≡ k = omega arith in rw e o.0
  all_here k (v ∷ vs) o (suc i) h = let e : k + suc i ≡ suc k + i = omega arith in rw e (all_here (suc k) vs o.1 i (omega arith))

  here_all : (k : ℕ) (g : Graph) → ((i : ℕ) → i < length g → SentHere H m (k + i) (nodeAt g i)) → SentAll H m k g
  here_all k [] s = tt
  here_all k (v ∷ vs) s =
      let e : k + 0 ≡ k = omega arith in (
        rw e at (s 0 (omega arith)),
        here_all (suc k) vs (λ i h. let d : k + suc i ≡ suc k + i = omega arith in
            rw d at (s (suc i) (omega arith))),
      )

  pub sent_map : (g : Graph) → m 0 ≡ 0 → SentAll H m 0 g → Map (graph g) (graph H)
  sent_map g root o = record {
    to = λ x. (m x.0, (here x).0);
    root_to = λ x r. ap m r ∙ root;
    atom_to = λ x a e. subst (λ (v : Node). Sent H m v (m x.0)) e (here x).1;
    arc_to = λ x f y i. sent_arc (nodeAt g x.0) (m x.0) (here x).1 f y.0 i;
  }
    where
      here : (x : NodeOf g) → SentHere H m x.0 (nodeAt g x.0)
      here x = let e : 0 + x.0 ≡ x.0 = omega arith in rw e at (all_here 0 g o x.0 x.1)

-- what a map gives each node
module _ (H g : Graph) (c : Canonical g) (t : Map (graph g) (graph H)) where
  abbrev at : (i : ℕ) {b : Bool} → TestLt i (length g) b → ℕ
  at i (less l) = (t.to (i, l)).0
  at i (geq l) = 0

  pub given : ℕ → ℕ
  given i = at i (test_lt i (length g))

  at_is : (i : ℕ) (h : i < length g) {b : Bool} (v : TestLt i (length g) b) → at i v ≡ (t.to (i, h)).0
  at_is i h (less l) = let e : ◌≡◌ {A = NodeOf g} (i, l) (i, h) = Σ_prop_path (λ n. le_prop) refl in ap (λ (z : NodeOf g). (t.to z).0) e
  at_is i h (geq l) = absurd (omega arith)

  is : (i : ℕ) (h : i < length g) → given i ≡ (t.to (i, h)).0
  unfolding given
  is i h = at_is i h (test_lt i (length g))

  pub given_root : given 0 ≡ 0
  given_root = let h = canonical_some g c in is 0 h ∙ t.root_to (0, h) refl

  sent : (i : ℕ) → i < length g → SentHere H given i (nodeAt g i)
  sent i h =
      let e = is i h in (
        rw e (t.to (i, h)).1,
        sent_from H given (nodeAt g i) (given i) (λ a d. rw e (t.atom_to (i, h) a d))
            (λ f u j. let l : u < length g = omega (arith, numbered_target 0 1 g c i f u j) in let d = is u l in
            rw (e, d) (t.arc_to (i, h) f (u, l) j)),
      )

  pub map_sent : SentAll H given 0 g
  map_sent = here_all H given 0 g (λ i h. let e : 0 + i ≡ i = omega arith in rw e (sent i h))
