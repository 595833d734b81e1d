-- A flat graph is read off its words. Assumes nothing.
use mathlib.Core.Path.{◌≡◌, refl, sym, ◌∙◌, subst}
use mathlib.Core.Logic.{◌⊎◌, ⊎_elim}
use mathlib.Core.List.{List, [], ◌∷◌, Memᴰ}
use Prim.Native.Nat.{ℕ, zero, suc, ◌+◌, ◌*◌, ◌≤◌, ◌<◌}
use native.Mathlib.Omega.{arith}
use lib.ListN.{length, get_or}
use Rattle.theory.specs.Limits.{code_limit}
use Rattle.theory.specs.Net.{Node, atom, arcs, Graph, nodeAt}
use Rattle.theory.specs.Layout.{NodeFits, GraphFits}
use Rattle.area.specs.Region.{loaded_words}
use Rattle.loading.specs.Entry.{Entry}
use Rattle.forest.specs.State.{targets}
use Rattle.classes.specs.Nodes.{spans}
use Rattle.classes.proofs.Added.{ArcsLie, NodesLie, arcs_at}
use Rattle.trying.specs.Leaf.{feature, leaf_head, Next}

-- the first word of a node
abbrev pub head : Node → ℕ
head (atom a) = code_limit + a
head (arcs l) = length l

-- a leaf's: it bears an atom or says nothing
abbrev pub Bare : ℕ → Type 0
Bare v = (v ≡ 0) ⊎ (code_limit ≤ v)

pub head_none : (v : Node) → head v ≡ 0 → v ≡ arcs []
head_none (atom a) e = absurd (omega arith)
head_none (arcs []) e = refl
head_none (arcs (p ∷ l)) e = absurd (omega arith)

pub head_atom : (v : Node) → NodeFits v → code_limit ≤ head v → (a : ℕ) × (v ≡ atom a)
head_atom (atom a) f h = (a, refl)
head_atom (arcs l) f h = let x = f.0 in absurd (omega arith)

pub fits_at : (vs : Graph) → GraphFits vs → (i : ℕ) → i < length vs → NodeFits (nodeAt vs i)
fits_at [] f i h = absurd (omega arith)
fits_at (v ∷ vs) f zero h = f.0
fits_at (v ∷ vs) f (suc i) h = fits_at vs f.1 i (omega arith)

-- each node takes a word
pub spans_least : (vs : Graph) → length vs ≤ spans vs
spans_least [] = omega arith
spans_least (atom a ∷ vs) = let r = spans_least vs in omega arith
spans_least (arcs l ∷ vs) = let r = spans_least vs in omega arith

module _ (F T : List ℕ) (b : ℕ) where
  -- after leaves, the head of a node
  heads : (vs : Graph) (p : ℕ) → NodesLie F T b p vs → GraphFits vs → (i : ℕ) → i < length vs →
      ((j : ℕ) → j < i → Bare (get_or F (p + j) 0)) → head (nodeAt vs i) ≡ get_or F (p + i) 0
  heads [] p s f i h o = absurd (omega arith)
  heads (atom a ∷ vs) p s f zero h o = let e : p + 0 ≡ p = omega arith in rw e (sym s.0)
  heads (arcs l ∷ vs) p s f zero h o = let e : p + 0 ≡ p = omega arith in rw e (sym s.0.0)
  heads (atom a ∷ vs) p s f (suc i) h o =
      let e : (j : ℕ) → p + suc j ≡ p + 1 + j = λ j. omega arith in
      rw (e i) (heads vs (p + 1) s.1 f.1 i (omega arith) (λ j k. rw (e j) at (o (suc j) (omega arith))))
  heads (arcs l ∷ vs) p s f (suc i) h o =
      let z : p + 0 ≡ p = omega arith in
      let y : get_or F p 0 ≡ length l = s.0.0 in
      let x : length l < code_limit = f.0.0 in
      let n : length l ≡ 0 = ⊎_elim (λ (q : get_or F p 0 ≡ 0). omega arith) (λ (q : code_limit ≤ get_or F p 0). absurd (omega arith))
      (rw z at (o 0 (omega arith))) in
      let e : (j : ℕ) → p + suc j ≡ p + (1 + 2 * length l) + j = λ j. omega arith in
      rw (e i) (heads vs (p + (1 + 2 * length l)) s.1 f.1 i (omega arith) (λ j k. rw (e j) at (o (suc j) (omega arith))))

  -- a root with d arcs, and d other nodes
  pub record Flat (p d : ℕ) (vs : Graph) : Type 0 where
    pub l : List (ℕ × ℕ)
    pub root : nodeAt vs 0 ≡ arcs l
    pub many : length l ≡ d
    pub arcs_lie : ArcsLie F T b (p + 1) l
    pub room : 1 + 3 * d ≤ spans vs
    pub leaf : (i : ℕ) → i < d → ((j : ℕ) → j < i → Bare (get_or F (p + 1 + 2 * d + j) 0)) →
        head (nodeAt vs (suc i)) ≡ get_or F (p + 1 + 2 * d + i) 0

  pub flat : (vs : Graph) (p d : ℕ) → NodesLie F T b p vs → GraphFits vs → length vs ≡ suc d → d < 1024 → get_or F p 0 ≡ d → Flat p d vs
  flat [] p d s f n h e = absurd (omega arith)
  flat (atom a ∷ vs) p d s f n h e = let x : get_or F p 0 ≡ code_limit + a = s.0 in absurd (omega arith)
  flat (arcs l ∷ vs) p d s f n h e =
      let m : length l ≡ d = sym s.0.0 ∙ e in
      let x = spans_least vs in
      let q : p + (1 + 2 * length l) ≡ p + 1 + 2 * d = omega arith in
      record {
        l = l;
        root = refl;
        many = m;
        arcs_lie = s.0.1;
        room = omega arith;
        leaf = λ i k o. heads vs (p + 1 + 2 * d) (rw q at s.1) f.1 i (omega arith) o;
      }

-- the same of a graph as it lies in the area
module _ (w : List ℕ) (e : Entry) (d : ℕ) (fl : Flat (loaded_words w) (targets w) e.number (e.at + 1) d e.graph) (i : ℕ)
    (below : i < d) where
  -- the head of the leaf i, after leaves
  pub head_is : ((j : ℕ) → j < i → Bare (leaf_head w e.at d j)) → head (nodeAt e.graph (suc i)) ≡ leaf_head w e.at d i
  head_is o =
      let p : (j : ℕ) → e.at + 1 + 1 + 2 * d + j ≡ e.at + 2 + 2 * d + j = λ j. omega arith in
      rw (p i) at (fl.leaf i below (λ j q. rw (p j) (o j q)))

  -- some arc stands at the place i
  pub arc_there : (t : ℕ) × (Memᴰ (feature w e.at i, t) fl.l × (get_or (targets w) (e.at + 2 + 2 * i) 0 ≡ e.number + t))
  arc_there =
      let p : e.at + 1 + 1 + 2 * i ≡ e.at + 2 + 2 * i = omega arith in
      let m = fl.many in
      rw p at (arcs_at (loaded_words w) (targets w) (λ z. z) e.number fl.l (e.at + 1 + 1) fl.arcs_lie i (omega arith))

  -- it leads to the leaf i
  pub arc_is : Next w e.at e.number i → Memᴰ (feature w e.at i, suc i) fl.l
  arc_is next =
      let r = arc_there in
      let z : r.0 ≡ suc i = omega (arith, r.1.1, next) in
      subst (λ (t : ℕ). Memᴰ (feature w e.at i, t) fl.l) z r.1.0
