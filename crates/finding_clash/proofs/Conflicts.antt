-- Under labels that are the classes of two graphs, the heads of their nodes conflict exactly where a class holds a clash.
-- Assumes nothing.
use mathlib.Core.Path.{◌≡◌, refl, sym, ap, ◌∙◌}
use mathlib.Core.Logic.{inl, inr, ⊎_elim}
use mathlib.Core.List.Memᴰ
use mathlib.Core.List.{[], ◌∷◌, Memᴰ}
use Prim.Native.Nat.{ℕ, zero, suc, ◌+◌, ◌≤◌, ◌<◌}
use native.Mathlib.Omega.{arith}
use lib.ListN.{length}
use Rattle.theory.specs.Limits.{code_limit}
use Rattle.theory.specs.Net.{Node, atom, arcs, Graph, nodeAt, arcsOf, Net, beside, Same, roots, Canonical}
use Rattle.theory.specs.Layout.{NodeFits, GraphFits}
use Rattle.theory.proofs.Instance.{numbered_target}
use Rattle.theory.specs.ClashNode.{ClashAt, two_atoms, atom_and_arc, node_number}
use Rattle.theory.proofs.NodeNumbers.{number_low, spot_at}
use Rattle.finding_clash.specs.Heads.{head_of}
use Rattle.finding_clash.specs.Notes.{Conflict, two_heads, head_and_arcs, ClassNote, bears_nothing, bears_arcs, bears_head}
use Rattle.finding_clash.specs.Notes.{bears_clash}
use Rattle.finding_clash.specs.TwoGraphs.{spot_head}

-- ---- a note tells of a clash exactly where there is a conflict
pub noted_two : (L H : ℕ → ℕ) (k c v : ℕ) → ClassNote L H k c v → v ≡ 2 → Conflict L H k c
noted_two L H k c v (bears_nothing z f) e = absurd (omega arith)
noted_two L H k c v (bears_arcs z f j a b p q) e = absurd (omega arith)
noted_two L H k c v (bears_head z f j a b p) e = absurd (omega arith)
noted_two L H k c v (bears_clash z x) e = x

pub two_noted : (L H : ℕ → ℕ) (k c v : ℕ) → ClassNote L H k c v → Conflict L H k c → v ≡ 2
two_noted L H k c v (bears_nothing z f) (two_heads i j a b p q u t d) = let e = f i a p in absurd (omega arith)
two_noted L H k c v (bears_nothing z f) (head_and_arcs i j a b p q u t d) = let e = f i a p in absurd (omega arith)
two_noted L H k c v (bears_arcs z f m x y n o) (two_heads i j a b p q u t d) = let e = f i a p in absurd (omega arith)
two_noted L H k c v (bears_arcs z f m x y n o) (head_and_arcs i j a b p q u t d) = let e = f i a p in absurd (omega arith)
two_noted L H k c v (bears_head z f m x y n) (two_heads i j a b p q u t d) =
    let one : H i ≡ v = ⊎_elim (λ e. absurd (omega arith)) (λ e. e) (f i a p) in
    let other : H j ≡ v = ⊎_elim (λ e. absurd (omega arith)) (λ e. e) (f j b q) in
    absurd (d (one ∙ sym other))
two_noted L H k c v (bears_head z f m x y n) (head_and_arcs i j a b p q u t d) =
    ⊎_elim (λ e. absurd (omega arith)) (λ e. absurd (omega arith)) (f j b q)
two_noted L H k c v (bears_clash z x) y = z

-- ---- heads of nodes
fits_at : (g : Graph) (j : ℕ) → GraphFits g → NodeFits (nodeAt g j)
fits_at [] j f = (omega arith, tt)
fits_at (v ∷ vs) zero f = f.0
fits_at (v ∷ vs) (suc j) f = fits_at vs j f.1

head_atom : (v : Node) → NodeFits v → code_limit ≤ head_of v → (a : ℕ) × (v ≡ atom a)
head_atom (atom a) f h = (a, refl)
head_atom (arcs l) f h = let e = f.0 in absurd (omega arith)

head_arc : (v : Node) → 0 < head_of v → head_of v < code_limit → (f : ℕ) × (t : ℕ) × Memᴰ (f, t) (arcsOf v)
head_arc (atom a) h l = absurd (omega arith)
head_arc (arcs []) h l = absurd (omega arith)
head_arc (arcs (p ∷ l)) h m = (p.0, p.1, Memᴰ.head refl)

arc_head : (v : Node) (f t : ℕ) → NodeFits v → Memᴰ (f, t) (arcsOf v) → (0 < head_of v) × (head_of v < code_limit)
arc_head (atom a) f t k m = absurd (Memᴰ.not-nil m)
arc_head (arcs []) f t k m = absurd (Memᴰ.not-nil m)
arc_head (arcs (p ∷ l)) f t k m = (omega arith, k.0)

module _ (g h : Graph) (cg : Canonical g) (ch : Canonical h) (fg : GraphFits g) (fh : GraphFits h) where
  abbrev N : Net
  N = beside (g ∷ h ∷ [])

  spot_atom : (x : N.Spot) → code_limit ≤ spot_head g h x → (a : ℕ) × N.Atom x a
  spot_atom (inl x) l = head_atom (nodeAt g x.0) (fits_at g x.0 fg) l
  spot_atom (inr (inl y)) l = head_atom (nodeAt h y.0) (fits_at h y.0 fh) l
  spot_atom (inr (inr x3)) l = elim x3 [ ]

  atom_spot : (x : N.Spot) (a : ℕ) → N.Atom x a → spot_head g h x ≡ code_limit + a
  atom_spot (inl x) a u = ap head_of u
  atom_spot (inr (inl y)) a u = ap head_of u
  atom_spot (inr (inr x3)) a u = elim x3 [ ]

  spot_arc : (x : N.Spot) → 0 < spot_head g h x → spot_head g h x < code_limit → (f : ℕ) × (z : N.Spot) × N.Arc x f z
  spot_arc (inl x) p l =
      let (f, t, m) = head_arc (nodeAt g x.0) p l in
      (f, inl (t, omega (arith, numbered_target 0 1 g cg x.0 f t m)), m)
  spot_arc (inr (inl y)) p l =
      let (f, t, m) = head_arc (nodeAt h y.0) p l in
      (f, inr (inl (t, omega (arith, numbered_target 0 1 h ch y.0 f t m))), m)
  spot_arc (inr (inr x4)) p l = elim x4 [ ]

  arc_spot : (x : N.Spot) (f : ℕ) (z : N.Spot) → N.Arc x f z → (0 < spot_head g h x) × (spot_head g h x < code_limit)
  arc_spot (inl x) f (inl z) u = arc_head (nodeAt g x.0) f z.0 (fits_at g x.0 fg) u
  arc_spot (inl x) f (inr z) u = absurd u
  arc_spot (inr x) f (inl z) u = absurd u
  arc_spot (inr (inl x)) f (inr (inl z)) u = arc_head (nodeAt h x.0) f z.0 (fits_at h x.0 fh) u
  arc_spot (inr (inl x)) f (inr (inr x6)) u = elim x6 [ ]
  arc_spot (inr (inr x5)) f (inr z) u = elim x5 [ ]

  -- ---- labels that are the classes, and the heads
  module _ (L H : ℕ → ℕ) (together : (x y : N.Spot) → Same N (roots N) x y → L (node_number g h x) ≡ L (node_number g h y))
      (apart : (x y : N.Spot) → L (node_number g h x) ≡ L (node_number g h y) → Same N (roots N) x y)
      (heads : (x : N.Spot) → H (node_number g h x) ≡ spot_head g h x) where
    abbrev m : ℕ
    m = length g + length h

    -- the node with the number i, which has the label of x
    spot_of : (x : N.Spot) (i : ℕ) → i < m → L i ≡ L (node_number g h x) →
        (y : N.Spot) × Same N (roots N) x y × (H i ≡ spot_head g h y)
    spot_of x i l e =
        let (y, d) = spot_at g h i l in
        (y, apart x y (sym (ap L d ∙ e)), ap H (sym d) ∙ heads y)

    pub conflict_clash : (x : N.Spot) → Conflict L H m (L (node_number g h x)) → ClashAt N (roots N) x
    conflict_clash x (two_heads i j a b p q u v d) =
        let (y, s, e) = spot_of x i a p in
        let (z, t, o) = spot_of x j b q in
        let (k, ak) = spot_atom y (omega arith) in
        let (n, an) = spot_atom z (omega arith) in
        let ek = atom_spot y k ak in
        let en = atom_spot z n an in
        two_atoms s t k n ak an (λ r. d (omega arith))
    conflict_clash x (head_and_arcs i j a b p q u v d) =
        let (y, s, e) = spot_of x i a p in
        let (z, t, o) = spot_of x j b q in
        let (k, ak) = spot_atom y (omega arith) in
        let (f, c, r) = spot_arc z (omega arith) (omega arith) in
        atom_and_arc s t k ak f c r

    pub clash_conflict : (x : N.Spot) → ClashAt N (roots N) x → Conflict L H m (L (node_number g h x))
    clash_conflict x (two_atoms {y} {z} s t a b u v ne) =
        let ha = heads y ∙ atom_spot y a u in
        let hb = heads z ∙ atom_spot z b v in
        two_heads (node_number g h y) (node_number g h z) (number_low g h y) (number_low g h z) (sym (together x y s)) (sym (together
        x z t))
        (omega arith) (omega arith) (λ e. ne (omega arith))
    clash_conflict x (atom_and_arc {y} {z} s t a u f c v) =
        let ha = heads y ∙ atom_spot y a u in
        let hz = heads z in
        let (p, q) = arc_spot z f c v in
        head_and_arcs (node_number g h y) (node_number g h z) (number_low g h y) (number_low g h z) (sym (together x y s)) (sym
        (together x z t))
        (omega arith) (omega arith) (omega arith)
