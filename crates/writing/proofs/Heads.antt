-- A node that is written, and all nodes. Assumes nothing.
use mathlib.Core.Path.{◌≡◌, refl, sym, ap, ◌∙◌, subst}
use mathlib.Core.List.{List, [], ◌∷◌, ◌++◌, append_assoc, append-nil}
use Prim.Native.Nat.{ℕ, suc, ◌+◌, ◌*◌, ◌-◌, ◌/◌, ◌≤◌, ◌<◌}
use native.Mathlib.Omega.{arith}
use lib.ListN.{length, get_or, set, take, drop, length-set, length-append, length-drop}
use lib.Seq.{get_or-set_same, get_or-set_other, drop-cons, take-suc, take_all}
use Rattle.theory.specs.Limits.{code_limit}
use Rattle.theory.specs.Net.{Node, atom, arcs, Graph, nodeAt, arcsOf, Rising, InOrder, met, Numbered, Canonical}
use Rattle.theory.specs.Layout.{arc_words, node_words, nodes_words}
use Rattle.theory.proofs.Weight.{arc_length}
use Rattle.layout.specs.Standing.{Stands}
use Rattle.layout.proofs.Standing.{stands_append, stands_length, stands_frame}
use Rattle.area.specs.Map.{LOG, RESULT, SIZE}
use Rattle.forest.specs.Held.{ChainCode, AtomCode}
use Rattle.writing.specs.Classes.{Fan, Classes, Met}
use Rattle.writing.specs.Writing.{Kept, Arcing, Arced, NodeWriting, NodeWritten, NodesWriting, NodesWritten}
use Rattle.writing.proofs.Keeping.{kept_refl, kept_trans, kept_both, kept_wider, kept_put, kept_stands, kept_classes, met_kept}

node_some : (v : Node) → 0 < length (node_words v)
node_some (atom a) = omega arith
node_some (arcs l) = omega arith

-- ---- a node
module _ (n k : ℕ) (w : List ℕ) (i at m c : ℕ) (e : c ≡ get_or w (LOG + k + i) 0) where
  class_is : (ord : List ℕ) → Met k m ord w → i < m → c ≡ get_or ord i 0
  class_is ord a h = e ∙ a.order i h

  pub noding_low : NodeWriting n k w i at m → (c < 1024) × ((SIZE ≤ length w) × ((at < 2048) × (k ≤ 4096)))
  noding_low p =
      let h = p.below in let f = p.marks.few in let s = p.classes in let q = class_is p.ord p.marks h in
      let a = s.low i (omega arith) in let b = s.below in let r = s.room in
      let z = node_some (nodeAt p.G i) in let y = p.fits in
      (omega arith, (s.long, (omega arith, omega arith)))

  module _ (p : NodeWriting n k w i at m) where
    -- an atom
    pub noded_atom : AtomCode (get_or w c 0) → NodeWritten n k w i at m (at + 1) m (set w (RESULT + at) (get_or w c 0))
    unfolding Stands
    noded_atom b =
        let low = noding_low p in let long = low.1.0 in let fits = low.1.1.0 in let few = low.1.1.1 in
        record {
          kept = kept_put k at (at + 1) at (get_or w c 0) w few (omega arith) (omega arith);
          told =
              λ G lab ord s a h r o. go G lab ord s a h (nodeAt G i) refl;
        }
      where
        go : (G : Graph) (lab : ℕ → ℕ) (ord : List ℕ) → Classes n k w G lab ord → Met k m ord w → i < m → (v : Node) → nodeAt G i ≡ v
            → Met k m ord (set w (RESULT + at) (get_or w c 0))
            × ((m ≡ met m (arcsOf v)) × Stands (set w (RESULT + at) (get_or w c 0)) (RESULT + at) (node_words v) (RESULT + (at + 1)))
        go G lab ord s a h (atom x) d =
            let low = noding_low p in let long = low.1.0 in let fits = low.1.1.0 in
            let f = a.few in
            let y : get_or w c 0 ≡ code_limit + x = ap (λ (z : ℕ). get_or w z 0) (class_is ord a h) ∙ s.atoms i x (omega arith) d in (
              met_kept n k m w (set w (RESULT + at) (get_or w c 0)) G lab ord s
                  (λ j l. get_or-set_other w (RESULT + at) j (get_or w c 0) 0 (λ q. omega arith)) a,
              (refl, (simp length-set (omega arith), get_or-set_same w (RESULT + at) (get_or w c 0) 0 (omega arith) ∙ y, omega arith)),
            )
        go G lab ord s a h (arcs l) d =
            let f = a.few in
            let y : ChainCode (get_or w c 0) = subst (λ (z : ℕ). ChainCode (get_or w z 0)) (sym (class_is ord a h)) (s.fans i l (omega arith) d).0 in
            absurd (omega arith)

    module _ (b : ChainCode (get_or w c 0)) where
      -- its arcs, where it bears no atom
      arcs_of : (G : Graph) (lab : ℕ → ℕ) (ord : List ℕ) → Classes n k w G lab ord → Met k m ord w → i < m → (v : Node) → nodeAt G i ≡ v →
          nodeAt G i ≡ arcs (arcsOf v)
      arcs_of G lab ord s a h (arcs l) d = d
      arcs_of G lab ord s a h (atom x) d =
          let f = a.few in
          let y : get_or w c 0 ≡ code_limit + x = ap (λ (z : ℕ). get_or w z 0) (class_is ord a h) ∙ s.atoms i x (omega arith) d in
          absurd (omega arith)

      arcs_fit : at + 1 + 2 * length (arcsOf (nodeAt p.G i)) ≤ 2048
      arcs_fit =
          let d : nodeAt p.G i ≡ arcs (arcsOf (nodeAt p.G i)) =
          arcs_of p.G p.lab p.ord p.classes p.marks p.below (nodeAt p.G i) refl in
          let y : length (node_words (nodeAt p.G i)) ≡ suc (length (arc_words (arcsOf (nodeAt p.G i)))) =
          ap (λ (v : Node). length (node_words v)) d in
          let z = arc_length (arcsOf (nodeAt p.G i)) in let x = p.fits in
          omega arith

      pub noding_arcs : Arcing n k w (get_or w c 0) (at + 1) m
      noding_arcs =
          let f = p.marks.few in let h = p.below in let s = p.classes in
          let d : nodeAt p.G i ≡ arcs (arcsOf (nodeAt p.G i)) =
          arcs_of p.G p.lab p.ord s p.marks h (nodeAt p.G i) refl in
          let g = (s.fans i (arcsOf (nodeAt p.G i)) (omega arith) d).1 in
          record {
            G = p.G;
            lab = p.lab;
            ord = p.ord;
            classes = s;
            marks = p.marks;
            l = arcsOf (nodeAt p.G i);
            fan = subst (λ (z : ℕ). Fan n w p.lab p.ord z 0 (arcsOf (nodeAt p.G i)))
                (sym (ap (λ (z : ℕ). get_or w z 0) (class_is p.ord p.marks h))) g;
            rising = p.rising;
            order = p.order;
            fits = arcs_fit;
          }

      module _ (at' m' : ℕ) (v : List ℕ) (r : Arced n k w (get_or w c 0) (at + 1) m at' m' v) where
        -- what is known of the arcs, for every graph
        told : (G : Graph) (lab : ℕ → ℕ) (ord : List ℕ) → Classes n k w G lab ord → Met k m ord w → i < m → Rising 0 (arcsOf (nodeAt G i)) →
            InOrder m (arcsOf (nodeAt G i))
            → Met k m' ord v × ((m' ≡ met m (arcsOf (nodeAt G i)))
            × Stands v (RESULT + (at + 1)) (arc_words (arcsOf (nodeAt G i))) (RESULT + at'))
        told G lab ord s a h x y =
            let f = a.few in
            let d : nodeAt G i ≡ arcs (arcsOf (nodeAt G i)) = arcs_of G lab ord s a h (nodeAt G i) refl in
            r.told G lab ord s a (arcsOf (nodeAt G i))
            (subst (λ (z : ℕ). Fan n w lab ord z 0 (arcsOf (nodeAt G i))) (sym (ap (λ (z : ℕ). get_or w z 0) (class_is ord a h)))
            (s.fans i (arcsOf (nodeAt G i)) (omega arith) d).1) x y

        -- where they end
        ends : (G : Graph) → Stands v (RESULT + (at + 1)) (arc_words (arcsOf (nodeAt G i))) (RESULT + at') →
            at' ≡ at + 1 + 2 * length (arcsOf (nodeAt G i))
        ends G q =
            let z = arc_length (arcsOf (nodeAt G i)) in
            let y = stands_length v (arc_words (arcsOf (nodeAt G i))) (RESULT + (at + 1)) (RESULT + at') q in
            omega arith

        pub noded_small : (at' ≤ 2048) × ((length v ≡ length w) × (at < at'))
        noded_small =
            let o = (told p.G p.lab p.ord p.classes p.marks p.below p.rising p.order).1.1 in
            let z = ends p.G o in let f = arcs_fit in
            (omega arith, (r.kept.len, omega arith))

        pub noded_arcs : NodeWritten n k w i at m at' m' (set v (RESULT + at) ((at' - at) / 2))
        unfolding Stands
        noded_arcs =
            let low = noding_low p in let long = low.1.0 in let fits = low.1.1.0 in let few = low.1.1.1 in
            let more = noded_small.1.1 in let len = noded_small.1.0 in
            record {
              kept = kept_both k at at' w v (set v (RESULT + at) ((at' - at) / 2))
                  (kept_wider k (at + 1) at' at w v r.kept (omega arith))
                  (kept_put k at at' at ((at' - at) / 2) v few (omega arith) more);
              told = λ G lab ord s a h x y.
                  let d : nodeAt G i ≡ arcs (arcsOf (nodeAt G i)) = arcs_of G lab ord s a h (nodeAt G i) refl in
                  let o = told G lab ord s a h x y in
                  let z = ends G o.1.1 in
                  let q : (at' - at) / 2 ≡ length (arcsOf (nodeAt G i)) = omega arith in (
                    met_kept n k m' v (set v (RESULT + at) ((at' - at) / 2)) G lab ord
                        (kept_classes n k (at + 1) at' w v r.kept lab ord G s)
                        (λ j l. get_or-set_other v (RESULT + at) j ((at' - at) / 2) 0 (λ g. omega arith)) o.0,
                    (
                      o.1.0,
                      subst (λ (u : Node). Stands (set v (RESULT + at) ((at' - at) / 2)) (RESULT + at) (node_words u) (RESULT + at'))
                          (sym d) (
                            simp length-set (omega arith),
                            get_or-set_same v (RESULT + at) ((at' - at) / 2) 0 (omega arith) ∙ q,
                            stands_frame v (set v (RESULT + at) ((at' - at) / 2)) (arc_words (arcsOf (nodeAt G i))) (RESULT + at + 1)
                                (RESULT + at') (λ j g l u. (
                                  omega (arith, length-set v (RESULT + at) ((at' - at) / 2)),
                                  get_or-set_other v (RESULT + at) j ((at' - at) / 2) 0 (λ u. omega arith),
                                ))
                                (subst (λ (u : ℕ). Stands v u (arc_words (arcsOf (nodeAt G i))) (RESULT + at')) (omega arith) o.1.1),
                          ),
                    ),
                  );
            }

-- ---- all nodes
nodes_words_append : (a b : Graph) → nodes_words (a ++ b) ≡ nodes_words a ++ nodes_words b
nodes_words_append [] b = refl
nodes_words_append (v ∷ a) b = ap (λ (l : List ℕ). node_words v ++ l) (nodes_words_append a b)
    ∙ sym (append_assoc (node_words v) (nodes_words a) (nodes_words b))

-- the first i nodes are written up to `at`
pub record Gone (n k from : ℕ) (G : Graph) (lab : ℕ → ℕ) (ord : List ℕ) (at met' i : ℕ) (w' : List ℕ) : Type 0 where
  pub classes : Classes n k w' G lab ord
  pub marks : Met k met' ord w'
  pub numbered : Numbered i met' (drop i G)
  pub stands : Stands w' (RESULT + from) (nodes_words (take i G)) (RESULT + at)
  pub size : at + length (nodes_words (drop i G)) ≡ from + length (nodes_words G)

pub record Going (n k : ℕ) (w : List ℕ) (from at met' i : ℕ) (w' : List ℕ) : Type 0 where
  pub kept : Kept k from at w w'
  pub told : (G : Graph) (lab : ℕ → ℕ) (ord : List ℕ) → Classes n k w G lab ord → Met k 1 ord w → Canonical G →
      Gone n k from G lab ord at met' i w'

pub going_start : (n k : ℕ) (w : List ℕ) (from : ℕ) → Going n k w from from 1 0 w
unfolding Stands
going_start n k w from = record {
  kept = kept_refl k from w;
  told =
      λ G lab ord s a c. record { classes = s; marks = a; numbered = c; stands = refl; size = refl };
}

module _ (n k : ℕ) (w : List ℕ) (from at met' i : ℕ) (w' : List ℕ) (d : Going n k w from at met' i w') where
  pub gone : (p : NodesWriting n k w from) → Gone n k from p.G p.lab p.ord at met' i w'
  gone p = d.told p.G p.lab p.ord p.classes p.marks p.canonical

  module _ (h : i < met') where
    below : (G : Graph) (lab : ℕ → ℕ) (ord : List ℕ) → Gone n k from G lab ord at met' i w' → i < length G
    below G lab ord s = let a = s.marks.few in let b = s.classes.many in omega arith

    -- the next node, and those after it
    next : (G : Graph) → i < length G → drop i G ≡ nodeAt G i ∷ drop (suc i) G
    next G l = drop-cons G i (arcs []) l

    split : (G : Graph) (lab : ℕ → ℕ) (ord : List ℕ) → Gone n k from G lab ord at met' i w' → Numbered i met' (nodeAt G i ∷ drop (suc i) G)
    split G lab ord s = subst (Numbered i met') (next G (below G lab ord s)) s.numbered

    heavy : (G : Graph) → i < length G →
        length (nodes_words (drop i G)) ≡ length (node_words (nodeAt G i)) + length (nodes_words (drop (suc i) G))
    heavy G l = ap (λ (g : Graph). length (nodes_words g)) (next G l)
        ∙ length-append (node_words (nodeAt G i)) (nodes_words (drop (suc i) G))

    pub going_noding : NodesWriting n k w from → NodeWriting n k w' i at met'
    going_noding p =
        let s = gone p in
        let x = split p.G p.lab p.ord s in
        let y = heavy p.G (below p.G p.lab p.ord s) in let z = s.size in let f = p.fits in
        record {
          G = p.G;
          lab = p.lab;
          ord = p.ord;
          classes = s.classes;
          marks = s.marks;
          below = h;
          rising = x.1;
          order = x.2;
          fits = omega arith;
        }

    pub going_turn : (at2 met2 : ℕ) (w2 : List ℕ) → NodeWritten n k w' i at met' at2 met2 w2 → Going n k w from at2 met2 (i + 1) w2
    going_turn at2 met2 w2 e = record {
      kept = kept_trans k from at at2 w w' w2 d.kept e.kept;
      told = λ G lab ord g a c.
          let s = d.told G lab ord g a c in
          let l = below G lab ord s in
          let x = split G lab ord s in
          let o = e.told G lab ord s.classes s.marks h x.1 x.2 in
          let v = nodeAt G i in
          let one : suc i ≡ i + 1 = omega arith in
          let from_at = kept_stands k at at2 w' w2 e.kept (nodes_words (take i G)) (RESULT + from) (RESULT + at) (omega arith)
          (omega arith) s.stands in
          let words : nodes_words (take (suc i) G) ≡ nodes_words (take i G) ++ node_words v = ap nodes_words (take-suc G i (arcs []) l)
          ∙ nodes_words_append (take i G) (v ∷ []) ∙ ap (λ (z : List ℕ). nodes_words (take i G) ++ z) (append-nil (node_words v)) in
          let y = heavy G l in let z = s.size in let t = stands_length w2 (node_words v) (RESULT + at) (RESULT + at2) o.1.1 in
          subst (λ (j : ℕ). Gone n k from G lab ord at2 met2 j w2) one record {
            classes = kept_classes n k at at2 w' w2 e.kept lab ord G s.classes;
            marks = o.0;
            numbered = subst (λ (j : ℕ). Numbered (suc i) j (drop (suc i) G)) (sym o.1.0) x.3;
            stands = subst (λ (z : List ℕ). Stands w2 (RESULT + from) z (RESULT + at2)) (sym words)
                ((stands_append w2 (nodes_words (take i G)) (node_words v) (RESULT + from) (RESULT + at2)).1 (
                  RESULT + at,
                  from_at,
                  o.1.1,
                ));
            size = omega arith;
          };
    }

  pub going_end : met' ≤ i → NodesWritten n k w from at met' w'
  going_end h = record {
    kept = d.kept;
    told = λ G lab ord g a c.
        let s = d.told G lab ord g a c in
        let x = over (drop i G) s.numbered in
        let e = length-drop i G in let f = s.marks.few in let b = s.classes.many in let m = x.1 in let l = ap length x.0 in (
          omega arith,
          subst (λ (z : Graph). Stands w' (RESULT + from) (nodes_words z) (RESULT + at)) (take_all i G (omega arith))
              s.stands,
        );
  }
    where
      over : (g : Graph) → Numbered i met' g → (g ≡ []) × (i ≡ met')
      over [] q = (refl, q)
      over (v ∷ vs) q = absurd (let l = q.0 in omega arith)
