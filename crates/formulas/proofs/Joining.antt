-- A joined graph is satisfied by what satisfies the net that it joins and keeps its seeds; a clash by nothing.
-- Assumes nothing.
use mathlib.Core.Path.{◌≡◌, refl, ap, sym, ◌∙◌, subst}
use mathlib.Core.HLevel.{Σ_prop_path}
use native.Mathlib.Bridge.{le_prop}
use Rattle.theory.specs.Net.{Graph, Net, NodeOf, graph, Same, seed, self, back, on, along, ClashOf, atoms, atom_arc, JoinedOf}
use Rattle.theory.specs.Structure.{Structure, Into}

module _ (N : Net) (Seed : N.Spot → N.Spot → Type 0) (S : Structure) where
  -- seeds go to one node
  abbrev pub Keeps : Into N S → Type 0
  Keeps h = (x y : N.Spot) → Seed x y → h.to x ≡ h.to y

  module _ (h : Into N S) (k : Keeps h) where
    same_to : {x y : N.Spot} → Same N Seed x y → h.to x ≡ h.to y
    same_to (seed {x} {y} s) = k x y s
    same_to (self x) = refl
    same_to (back p) = sym (same_to p)
    same_to (on p q) = same_to p ∙ same_to q
    same_to (along {x} {y} {x'} {y'} p f u v) =
        S.one_target (h.to y) f (h.to x') (h.to y')
        (subst (λ (c : S.Carrier). S.Goes c f (h.to x')) (same_to p) (h.arc_to x f x' u)) (h.arc_to y f y' v)

    pub clash_to : ClashOf N Seed → ⊥
    clash_to (atoms {x} {y} p a b u v ne) =
        ne (S.one_atom (h.to y) a b (subst (λ (c : S.Carrier). S.Has c a) (same_to p) (h.atom_to x a u)) (h.atom_to y b v))
    clash_to (atom_arc {x} {y} p a u f z v) =
        S.no_arcs (h.to y) a f (h.to z) (subst (λ (c : S.Carrier). S.Has c a) (same_to p) (h.atom_to x a u)) (h.arc_to y f z v)

  module _ (G : Graph) (j : JoinedOf N Seed G) where
    abbrev pub joined_down : Into (graph G) S → Into N S
    joined_down h = record {
      to = λ x. h.to (j.class x, j.inside x);
      root_to = λ x r. h.root_to (j.class x, j.inside x) (j.root x r);
      atom_to = λ x a r. h.atom_to (j.class x, j.inside x) a (j.atom_in x a r);
      arc_to = λ x f y r. h.arc_to (j.class x, j.inside x) f (j.class y, j.inside y) (j.arc_in x f y r);
    }

    pub joined_keeps : (h : Into (graph G) S) → Keeps (joined_down h)
    joined_keeps h x y s = ap {B = S.Carrier} (λ (z : NodeOf G). h.to z) (Σ_prop_path (λ n. le_prop) (j.together x y (seed s)))

    module _ (h : Into N S) (k : Keeps h) (a-root : (x : N.Spot) × N.Root x) where
      -- the spot that stands for a node
      rep : NodeOf G → N.Spot
      rep n = (j.onto n.0 n.1).0

      rep_to : (n : NodeOf G) (x : N.Spot) → j.class x ≡ n.0 → h.to x ≡ h.to (rep n)
      unfolding rep
      rep_to n x e = same_to h k (j.apart x (rep n) (e ∙ sym (j.onto n.0 n.1).1))

      pub joined_up : Into (graph G) S
      joined_up = record {
        to = λ n. h.to (rep n);
        root_to = λ n r. sym (rep_to n a-root.0 (j.root a-root.0 a-root.1 ∙ sym r)) ∙ h.root_to a-root.0 a-root.1;
        atom_to = λ n a r. let (x, e, u) = j.atom_from n.0 a r in
            subst (λ (c : S.Carrier). S.Has c a) (rep_to n x e) (h.atom_to x a u);
        arc_to = λ n f m r. let (x, y, d, e, u) = j.arc_from n.0 f m.0 r in
            subst (λ (c : S.Carrier). S.Goes (h.to (rep n)) f c) (rep_to m y e)
            (subst (λ (c : S.Carrier). S.Goes c f (h.to y)) (rep_to n x d) (h.arc_to x f y u));
      }
