-- A graph without its atoms has the classes of the graph, and clashes nowhere.
-- Assumes nothing.
use mathlib.Core.Path.{◌≡◌, refl, ap, sym, ◌∙◌, subst}
use mathlib.Core.Logic.{inl, inr, ◌↔◌}
use mathlib.Core.List.{[], ◌∷◌, Memᴰ}
use Prim.Native.Nat.{ℕ, zero, suc, ◌+◌, ◌<◌}
use native.Mathlib.Omega.{arith}
use lib.ListN.{length, length-append}
use Rattle.theory.specs.Net.{Node, atom, arcs, Graph, nodeAt, arcsOf, Net, beside, Same, seed, self, back, on, along, roots}
use Rattle.theory.specs.Net.{atoms, atom_arc, Agree, met, Numbered, Canonical}
use Rattle.theory.specs.Layout.{NodeFits, GraphFits, node_words, nodes_words}
use Rattle.theory.specs.Weight.{weight}
use Rattle.theory.specs.Join.{atom_list}
use Rattle.theory.specs.ClashNode.{node_number}
use Rattle.finding_clash.specs.Bared.{bared_node, bared}
use Rattle.theory.specs.Located.{two_edges}
use Rattle.theory.proofs.NodeNumbers.{number_one}
use Rattle.theory.proofs.Labels.{Labelled, labelled}

-- nothing but the atoms is gone
pub length_bare : (g : Graph) → length (bared g) ≡ length g
length_bare [] = refl
length_bare (v ∷ vs) = ap suc (length_bare vs)

node_arcs : (v : Node) → arcsOf (bared_node v) ≡ arcsOf v
node_arcs (atom a) = refl
node_arcs (arcs l) = refl

pub arcs_bare : (g : Graph) (n : ℕ) → arcsOf (nodeAt (bared g) n) ≡ arcsOf (nodeAt g n)
arcs_bare [] n = refl
arcs_bare (v ∷ vs) zero = node_arcs v
arcs_bare (v ∷ vs) (suc n) = arcs_bare vs n

node_bears : (v : Node) (a : ℕ) → bared_node v ≡ atom a → ⊥
node_bears (atom b) a e = let z : ◌≡◌ {A = ℕ} 0 1 = cc in omega arith
node_bears (arcs l) a e = let z : ◌≡◌ {A = ℕ} 0 1 = cc in omega arith

pub no_atom : (g : Graph) (n a : ℕ) → nodeAt (bared g) n ≡ atom a → ⊥
no_atom [] n a e = let z : ◌≡◌ {A = ℕ} 0 1 = cc in omega arith
no_atom (v ∷ vs) zero a e = node_bears v a e
no_atom (v ∷ vs) (suc n) a e = no_atom vs n a e

numbered_bare : (k m : ℕ) (g : Graph) → Numbered k m g → Numbered k m (bared g)
numbered_bare k m [] c = c
numbered_bare k m (atom a ∷ vs) c = (c.0, c.1, c.2, numbered_bare (suc k) m vs c.3)
numbered_bare k m (arcs l ∷ vs) c = (c.0, c.1, c.2, numbered_bare (suc k) (met m l) vs c.3)

pub canonical_bare : (g : Graph) → Canonical g → Canonical (bared g)
canonical_bare g c = numbered_bare 0 1 g c

node_fits : (v : Node) → NodeFits v → NodeFits (bared_node v)
node_fits (atom a) f = (omega arith, tt)
node_fits (arcs l) f = f

pub fits_bare : (g : Graph) → GraphFits g → GraphFits (bared g)
fits_bare [] f = tt
fits_bare (v ∷ vs) f = (node_fits v f.0, fits_bare vs f.1)

node_long : (v : Node) → length (node_words (bared_node v)) ≡ length (node_words v)
node_long (atom a) = refl
node_long (arcs l) = refl

-- and it takes as many words
pub weight_bare : (g : Graph) → weight (bared g) ≡ weight g
unfolding weight
weight_bare [] = refl
weight_bare (v ∷ vs) = length-append (node_words (bared_node v)) (nodes_words (bared vs))
    ∙ (rw (node_long v, weight_bare vs) refl) ∙ sym (length-append (node_words v) (nodes_words vs))

-- "There is a clash when a class holds two different atoms, or an atom and an arc.": without atoms there is none
module _ (g h : Graph) where
  bears_none : (x : (beside (bared g ∷ bared h ∷ [])).Spot) (a : ℕ) → (beside (bared g ∷ bared h ∷ [])).Atom x a → ⊥
  bears_none (inl x) a u = no_atom g x.0 a u
  bears_none (inr (inl y)) a u = no_atom h y.0 a u
  bears_none (inr (inr x3)) a u = elim x3 [ ]

  pub bare_agrees : Agree (bared g ∷ bared h ∷ [])
  bare_agrees (atoms {x} s a b u v ne) = bears_none x a u
  bare_agrees (atom_arc {x} s a u f z v) = bears_none x a u

-- a map that keeps roots and arcs keeps what is equal
module _ (N M : Net) (to : N.Spot → M.Spot) (root_to : (x : N.Spot) → N.Root x → M.Root (to x))
    (arc_to : (x : N.Spot) (f : ℕ) (y : N.Spot) → N.Arc x f y → M.Arc (to x) f (to y)) where
  pub same_along : {x y : N.Spot} → Same N (roots N) x y → Same M (roots M) (to x) (to y)
  same_along (seed {x} {y} r) = seed (root_to x r.0, root_to y r.1)
  same_along (self x) = self (to x)
  same_along (back p) = back (same_along p)
  same_along (on p q) = on (same_along p) (same_along q)
  same_along (along {x} {y} {x'} {y'} p f u v) = along (same_along p) f (arc_to x f x' u) (arc_to y f y' v)

module _ (g h : Graph) where
  abbrev Full : Net
  Full = beside (g ∷ h ∷ [])

  abbrev Bare : Net
  Bare = beside (bared g ∷ bared h ∷ [])

  -- the node that stands in the one net where x stands in the other
  abbrev pub to_bare : Full.Spot → Bare.Spot
  to_bare (inl x) = inl (x.0, subst (λ (n : ℕ). x.0 < n) (sym (length_bare g)) x.1)
  to_bare (inr (inl y)) = inr (inl (y.0, subst (λ (n : ℕ). y.0 < n) (sym (length_bare h)) y.1))
  to_bare (inr (inr x'')) = elim x'' [ ]

  abbrev pub from_bare : Bare.Spot → Full.Spot
  from_bare (inl x) = inl (x.0, subst (λ (n : ℕ). x.0 < n) (length_bare g) x.1)
  from_bare (inr (inl y)) = inr (inl (y.0, subst (λ (n : ℕ). y.0 < n) (length_bare h) y.1))
  from_bare (inr (inr x'')) = elim x'' [ ]

  pub number_to : (x : Full.Spot) → node_number (bared g) (bared h) (to_bare x) ≡ node_number g h x
  number_to (inl x) = refl
  number_to (inr (inl y)) = ap (λ (n : ℕ). n + y.0) (length_bare g)
  number_to (inr (inr x'')) = elim x'' [ ]

  pub number_from : (x : Bare.Spot) → node_number g h (from_bare x) ≡ node_number (bared g) (bared h) x
  number_from (inl x) = refl
  number_from (inr (inl y)) = ap (λ (n : ℕ). n + y.0) (sym (length_bare g))
  number_from (inr (inr x'')) = elim x'' [ ]

  root_to : (x : Full.Spot) → Full.Root x → Bare.Root (to_bare x)
  root_to (inl x) r = r
  root_to (inr (inl y)) r = r
  root_to (inr (inr x3)) r = elim x3 [ ]

  root_from : (x : Bare.Spot) → Bare.Root x → Full.Root (from_bare x)
  root_from (inl x) r = r
  root_from (inr (inl y)) r = r
  root_from (inr (inr x3)) r = elim x3 [ ]

  arc_to : (x : Full.Spot) (f : ℕ) (y : Full.Spot) → Full.Arc x f y → Bare.Arc (to_bare x) f (to_bare y)
  arc_to (inl x) f (inl y) u = subst (Memᴰ (f, y.0)) (sym (arcs_bare g x.0)) u
  arc_to (inl x) f (inr y) u = absurd u
  arc_to (inr x) f (inl y) u = absurd u
  arc_to (inr (inl x)) f (inr (inl y)) u = subst (Memᴰ (f, y.0)) (sym (arcs_bare h x.0)) u
  arc_to (inr (inl x)) f (inr (inr x6)) u = elim x6 [ ]
  arc_to (inr (inr x5)) f (inr y) u = elim x5 [ ]

  arc_from : (x : Bare.Spot) (f : ℕ) (y : Bare.Spot) → Bare.Arc x f y → Full.Arc (from_bare x) f (from_bare y)
  arc_from (inl x) f (inl y) u = subst (Memᴰ (f, y.0)) (arcs_bare g x.0) u
  arc_from (inl x) f (inr y) u = absurd u
  arc_from (inr x) f (inl y) u = absurd u
  arc_from (inr (inl x)) f (inr (inl y)) u = subst (Memᴰ (f, y.0)) (arcs_bare h x.0) u
  arc_from (inr (inl x)) f (inr (inr x6)) u = elim x6 [ ]
  arc_from (inr (inr x5)) f (inr y) u = elim x5 [ ]

  -- "once all classes are complete": the classes of the graphs without their atoms are those of the graphs, number by number
  pub same_bare : (x y : Full.Spot) (x' y' : Bare.Spot) → node_number g h x ≡ node_number (bared g) (bared h) x' →
      node_number g h y ≡ node_number (bared g) (bared h) y' → Same Full (roots Full) x y ↔ Same Bare (roots Bare) x' y'
  same_bare x y x' y' d e = (
    λ s. subst (λ (z : Bare.Spot). Same Bare (roots Bare) z y') (there x x' d)
        (subst (λ (z : Bare.Spot). Same Bare (roots Bare) (to_bare x) z) (there y y' e) (same_along Full Bare to_bare root_to arc_to s)),
    λ s. subst (λ (z : Full.Spot). Same Full (roots Full) z y) (here x x' d)
        (subst (λ (z : Full.Spot). Same Full (roots Full) (from_bare x') z) (here y y' e)
        (same_along Bare Full from_bare root_from arc_from s)),
  )
    where
      there : (z : Full.Spot) (z' : Bare.Spot) → node_number g h z ≡ node_number (bared g) (bared h) z' → to_bare z ≡ z'
      there z z' p = number_one (bared g) (bared h) (to_bare z) z' (number_to z ∙ p)

      here : (z : Full.Spot) (z' : Bare.Spot) → node_number g h z ≡ node_number (bared g) (bared h) z' → from_bare z' ≡ z
      here z z' p = number_one g h (from_bare z') z (number_from z' ∙ sym p)

  -- so labels that are the classes of the graphs without their atoms say where the graphs clash
  pub labelled_bare : (lab : ℕ → ℕ) →
      ((x y : Bare.Spot) → Same Bare (roots Bare) x y →
      lab (node_number (bared g) (bared h) x) ≡ lab (node_number (bared g) (bared h) y)) →
      ((x y : Bare.Spot) → lab (node_number (bared g) (bared h) x) ≡ lab (node_number (bared g) (bared h) y) →
      Same Bare (roots Bare) x y) →
      Labelled Full (roots Full) (node_number g h) lab (atom_list 0 (g ∷ h ∷ [])) (two_edges g h)
  labelled_bare lab together apart = record {
    together = λ {x} {y} s. sym (ap lab (number_to x))
        ∙ together (to_bare x) (to_bare y) ((same_bare x y (to_bare x) (to_bare y) (sym (number_to x)) (sym (number_to y))).0 s)
        ∙ ap lab (number_to y);
    apart = λ x y e. (same_bare x y (to_bare x) (to_bare y) (sym (number_to x)) (sym (number_to y))).1
        (apart (to_bare x) (to_bare y) (ap lab (number_to x) ∙ e ∙ sym (ap lab (number_to y))));
    atom_in = (labelled g h).atom_in;
    atom_from = (labelled g h).atom_from;
    edge_of = (labelled g h).edge_of;
    edge_from = (labelled g h).edge_from;
  }
