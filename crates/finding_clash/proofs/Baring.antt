-- The atoms are taken out of nodes that stand among the words, one node after the other.
-- Assumes nothing.
use mathlib.Core.Path.{◌≡◌, refl, sym, ap, ◌∙◌, subst}
use mathlib.Core.Logic.{◌⊎◌, inl, inr, ⊎_elim}
use mathlib.Core.List.{List, [], ◌∷◌}
use Prim.Native.Nat.{ℕ, zero, suc, ◌+◌, ◌*◌, ◌≤◌, ◌<◌}
use native.Mathlib.Omega.{arith}
use lib.ListN.{length, get_or, set, length-set}
use lib.Seq.{get_or-set_same, get_or-set_other}
use Rattle.theory.specs.Limits.{code_limit}
use Rattle.theory.specs.Net.{Node, atom, arcs, Graph, nodeAt}
use Rattle.theory.specs.Layout.{node_words, nodes_words, NodeFits, GraphFits}
use Rattle.finding_clash.specs.Bared.{bared_node, bared}
use Rattle.layout.specs.Standing.{Stands}
use Rattle.layout.proofs.Standing.{stands_nil, stands_nodes, stands_atom, stands_node, stands_arcs, stands_order, stands_frame}
use Rattle.area.specs.Map.{NODES, MARKS, SIZE}
use Rattle.finding_clash.specs.Heads.{head_of, BaredAs, NodeBaring, NodeBares, Baring, Bares}

-- ---- one node
node_in : (w : List ℕ) (v : Node) (p q : ℕ) → Stands w p (nodes_words (v ∷ [])) q → Stands w p (node_words v) q
node_in w v p q s =
    let (r, a, b) = (stands_nodes w v [] p q).0 s in
    subst (λ (z : ℕ). Stands w p (node_words v) z) ((stands_nil w r q).0 b) a

node_out : (w : List ℕ) (v : Node) (p q : ℕ) → Stands w p (node_words v) q → Stands w p (nodes_words (v ∷ [])) q
node_out w v p q s = (stands_nodes w v [] p q).1 (q, s, (stands_nil w q q).1 refl)

-- where a node ends, by its head
pub record NodeEnds (w : List ℕ) (p q : ℕ) (v : Node) : Type 0 where
  pub some : p < q
  pub head : get_or w p 0 ≡ head_of v
  pub atom_end : code_limit ≤ get_or w p 0 → q ≡ p + 1
  pub arcs_end : get_or w p 0 < code_limit → q ≡ p + 1 + 2 * get_or w p 0

pub node_ends : (w : List ℕ) (p q : ℕ) (v : Node) → NodeFits v → Stands w p (nodes_words (v ∷ [])) q → NodeEnds w p q v
node_ends w p q (atom a) f s =
    let (l, h, e) = (stands_atom w a p q).0 (node_in w (atom a) p q s) in
    record { some = omega arith; head = h; atom_end = λ x. sym e; arcs_end = λ x. absurd (omega arith) }
node_ends w p q (arcs l) f s =
    let (b, h, t) = (stands_node w l p q).0 (node_in w (arcs l) p q s) in
    let e = stands_arcs w l (p + 1) q t in
    let m = f.0 in
    record { some = omega arith; head = h; atom_end = λ x. absurd (omega arith); arcs_end = λ x. omega arith }

module _ (w : List ℕ) (p i : ℕ) (asks : NodeBaring w p i) where
  pub node_there : p < MARKS
  node_there = let e = (node_ends w p asks.q asks.v asks.fits asks.stands).some in let b = asks.near in omega arith

  pub node_still : (v : ℕ) → p < length (set w (MARKS + i) v)
  node_still v = let a = node_there in let l = asks.long in let e = length-set w (MARKS + i) v in omega arith

  abbrev x : ℕ
  x = get_or w p 0

  long : SIZE ≤ length w
  long = asks.long

  few : i < NODES
  few = asks.few

  -- an atom
  abbrev none : List ℕ
  none = set (set w (MARKS + i) x) p 0

  none_len : length none ≡ length w
  none_len = simp length-set

  pub bares_atom : code_limit ≤ x → NodeBares w p i (p + 1) none
  bares_atom h = record { len = none_len; told = told }
    where
      told : (v : Node) (q : ℕ) → NodeFits v → q ≤ MARKS → Stands w p (nodes_words (v ∷ [])) q →
          (p + 1 ≡ q) × BaredAs (v ∷ []) w p q i none
      told (arcs l) q f near s = let e = node_ends w p q (arcs l) f s in let d = e.head in let m = f.0 in absurd (omega arith)
      told (atom a) q f near s =
          let e = node_ends w p q (atom a) f s in
          let far : p + 1 ≡ q = sym (e.atom_end h) in
          let size = none_len in
          let b = few in
          let g = long in (
            far,
            record {
              len = none_len;
              stands = node_out none (arcs []) p q ((stands_node none [] p q).1 (
                omega arith,
                get_or-set_same (set w (MARKS + i) x) p 0 0 (let k = length-set w (MARKS + i) x in omega arith),
                (stands_nil none (p + 1) q).1 far,
              ));
              heads = λ j l. let z : i + j ≡ i = omega arith in let y : j ≡ 0 = omega arith in
                  rw (z, y) (get_or-set_other (set w (MARKS + i) x) p (MARKS + i) 0 0 (λ d. omega arith)
                  ∙ get_or-set_same w (MARKS + i) x 0 (omega arith) ∙ e.head);
              rest = λ j k l. outside j k ∙ aside j l;
            },
          )
        where
          outside : (j : ℕ) → (j < p) ⊎ (q ≤ j) → get_or none j 0 ≡ get_or (set w (MARKS + i) x) j 0
          outside j k = get_or-set_other (set w (MARKS + i) x) p j 0 0
              (λ d. let e = (node_ends w p q (atom a) f s).some in ⊎_elim {C = ⊥} (λ k. omega arith) (λ k. omega arith) k)

          aside : (j : ℕ) → (j < MARKS + i) ⊎ (MARKS + (i + 1) ≤ j) → get_or (set w (MARKS + i) x) j 0 ≡ get_or w j 0
          aside j k = get_or-set_other w (MARKS + i) j x 0 (λ d. ⊎_elim {C = ⊥} (λ k. omega arith) (λ k. omega arith) k)

  -- arcs, or nothing
  abbrev kept : List ℕ
  kept = set w (MARKS + i) x

  kept_len : length kept ≡ length w
  kept_len = simp length-set

  pub bares_arcs : (y : ℕ) → y ≡ x → x < code_limit → NodeBares w p i (p + 1 + 2 * y) kept
  bares_arcs y same h = record { len = kept_len; told = told }
    where
      told : (v : Node) (q : ℕ) → NodeFits v → q ≤ MARKS → Stands w p (nodes_words (v ∷ [])) q →
          (p + 1 + 2 * y ≡ q) × BaredAs (v ∷ []) w p q i kept
      told (atom a) q f near s = let e = node_ends w p q (atom a) f s in let d = e.head in absurd (omega arith)
      told (arcs l) q f near s =
          let e = node_ends w p q (arcs l) f s in
          let size = kept_len in
          let b = few in
          let g = long in (
            (let far = e.arcs_end h in omega arith),
            record {
              len = kept_len;
              stands = stands_frame w kept (nodes_words (arcs l ∷ [])) p q
                  (λ j a b c. (omega arith, get_or-set_other w (MARKS + i) j x 0 (λ d. omega arith))) s;
              heads = λ j l. let z : i + j ≡ i = omega arith in let y : j ≡ 0 = omega arith in
                  rw (z, y) (get_or-set_same w (MARKS + i) x 0 (omega arith) ∙ e.head);
              rest = λ j k l. aside j l;
            },
          )
        where
          aside : (j : ℕ) → (j < MARKS + i) ⊎ (MARKS + (i + 1) ≤ j) → get_or kept j 0 ≡ get_or w j 0
          aside j k = get_or-set_other w (MARKS + i) j x 0 (λ d. ⊎_elim {C = ⊥} (λ k. omega arith) (λ k. omega arith) k)

-- ---- many nodes
pub bared_none : (w : List ℕ) (p q i : ℕ) → Stands w p (nodes_words []) q → BaredAs [] w p q i w
bared_none w p q i s = record { len = refl; stands = s; heads = λ j h. absurd (omega arith); rest = λ j h k. refl }

pub bared_cons : (v : Node) (vs : Graph) (w u w' : List ℕ) (p r q i : ℕ) → p ≤ r → r ≤ q → q ≤ MARKS →
    BaredAs (v ∷ []) w p r i u → BaredAs vs u r q (suc i) w' → BaredAs (v ∷ vs) w p q i w'
bared_cons v vs w u w' p r q i h k near a b = record {
  len = b.len ∙ a.len;
  stands = (stands_nodes w' (bared_node v) (bared vs) p q).1 (
    r,
    stands_frame u w' (node_words (bared_node v)) p r
        (λ j x y z. (let e = b.len in omega arith, b.rest j (inl y) (inl (omega arith)))) (node_in u (bared_node v) p r a.stands),
    b.stands,
  );
  heads = heads;
  rest = λ j x y. b.rest j (⊎_elim (λ l. inl (omega arith)) (λ l. inr l) x) (⊎_elim (λ l. inl (omega arith)) (λ l. inr (omega arith)) y)
      ∙ a.rest j (⊎_elim (λ l. inl l) (λ l. inr (omega arith)) x) (⊎_elim (λ l. inl l) (λ l. inr (omega arith)) y);
}
  where
    heads : (j : ℕ) → j < suc (length vs) → get_or w' (MARKS + (i + j)) 0 ≡ head_of (nodeAt (v ∷ vs) j)
    heads zero l = b.rest (MARKS + (i + 0)) (inr (omega arith)) (inl (omega arith)) ∙ a.heads 0 (omega arith)
    heads (suc j) l = let z : i + suc j ≡ suc i + j = omega arith in rw z (b.heads j (omega arith))

-- what is left of the nodes g, in w, goes on to bare them all
pub record BareGoing (g : Graph) (p q i : ℕ) (w₀ : List ℕ) (at left place : ℕ) (w : List ℕ) : Type 0 where
  pub more : Graph
  pub many : length more ≡ left
  pub fits : GraphFits more
  pub there : Stands w at (nodes_words more) q
  pub onward : (w' : List ℕ) → BaredAs more w at q place w' → BaredAs g w₀ p q i w'

-- for whatever nodes stand at p
abbrev pub BareOnward : ℕ → ℕ → ℕ → List ℕ → ℕ → ℕ → ℕ → List ℕ → Type 0
BareOnward p count i w₀ at left place w = (g : Graph) (q : ℕ) → length g ≡ count → GraphFits g → q ≤ MARKS →
    Stands w₀ p (nodes_words g) q → BareGoing g p q i w₀ at left place w

pub bare_begin : (p count i place : ℕ) (w : List ℕ) → place ≡ i → BareOnward p count i w p count place w
bare_begin p count i place w e g q m f n s = record {
  more = g;
  many = m;
  fits = f;
  there = s;
  onward = λ w' b. subst (λ (z : ℕ). BaredAs g w p q z w') e b;
}

-- the first of what is left
pub record FirstNode (w : List ℕ) (at q : ℕ) (more : Graph) : Type 0 where
  pub v : Node
  pub vs : Graph
  pub r : ℕ
  pub is : more ≡ v ∷ vs
  pub here : Stands w at (nodes_words (v ∷ [])) r
  pub after : Stands w r (nodes_words vs) q
  pub low : at ≤ r
  pub high : r ≤ q

pub first_node : (w : List ℕ) (at q : ℕ) (more : Graph) → 0 < length more → Stands w at (nodes_words more) q → FirstNode w at q more
first_node w at q [] h s = absurd (omega arith)
first_node w at q (v ∷ vs) h s =
    let (r, a, b) = (stands_nodes w v vs at q).0 s in
    record {
      v = v;
      vs = vs;
      r = r;
      is = refl;
      here = node_out w v at r a;
      after = b;
      low = stands_order w (node_words v) at r a;
      high = stands_order w (nodes_words vs) r q b;
    }

fits_cons : (v : Node) (vs more : Graph) → more ≡ v ∷ vs → GraphFits more → NodeFits v × GraphFits vs
fits_cons v vs more e f = subst GraphFits e f

module _ (p count i : ℕ) (w₀ : List ℕ) (at left place : ℕ) (w : List ℕ) (going : BareOnward p count i w₀ at left place w)
    (some : 0 < left) where
  pub bare_asks : Baring w₀ p count i → length w ≡ length w₀ → place < NODES → NodeBaring w at place
  bare_asks a len few =
      let g = going a.g a.q a.many a.fits a.near a.stands in
      let m = g.many in
      let n = first_node w at a.q g.more (omega arith) g.there in
      let near = a.near in
      let high = n.high in
      let long = a.long in
      record {
        long = omega arith;
        few = few;
        v = n.v;
        q = n.r;
        fits = (fits_cons n.v n.vs g.more n.is g.fits).0;
        near = omega arith;
        stands = n.here;
      }

  pub bare_go_on : (r : ℕ) (u : List ℕ) → NodeBares w at place r u → (left' place' : ℕ) → left ≡ suc left' → place' ≡ suc place →
      BareOnward p count i w₀ r left' place' u
  bare_go_on r u b left' place' e d g q m f near s =
      let o = going g q m f near s in
      let many = o.many in
      let n = first_node w at q o.more (omega arith) o.there in
      let high = n.high in
      let low = n.low in
      let h = fits_cons n.v n.vs o.more n.is o.fits in
      let t = b.told n.v n.r h.0 (omega arith) n.here in
      let size = ap length n.is in
      record {
        more = n.vs;
        many = omega arith;
        fits = h.1;
        there = subst (λ (z : ℕ). Stands u z (nodes_words n.vs) q) (sym t.0) (stands_frame w u (nodes_words n.vs) n.r q
            (λ j x y z. (let l = b.len in omega arith, t.1.rest j (inr x) (inl (omega arith)))) n.after);
        onward = λ w' c. o.onward w' (subst (λ (z : Graph). BaredAs z w at q place w') (sym n.is)
            (bared_cons n.v n.vs w u w' at n.r q place (omega arith) (omega arith) near t.1
            (subst (λ (z : ℕ). BaredAs n.vs u z q (suc place) w') t.0
            (subst (λ (z : ℕ). BaredAs n.vs u r q z w') d c))));
      }

pub bare_finish : (p count i : ℕ) (w₀ : List ℕ) (at left place : ℕ) (w : List ℕ) → left ≡ 0 → length w ≡ length w₀ →
    BareOnward p count i w₀ at left place w → Bares w₀ p count i w
bare_finish p count i w₀ at left place w z len going = record { len = len; told = told }
  where
    told : (g : Graph) (q : ℕ) → length g ≡ count → GraphFits g → q ≤ MARKS → Stands w₀ p (nodes_words g) q → BaredAs g w₀ p q i w
    told g q m f near s = go o.more (o.many ∙ z) o.there (o.onward w)
      where
        o : BareGoing g p q i w₀ at left place w
        o = going g q m f near s

        go : (more : Graph) → length more ≡ 0 → Stands w at (nodes_words more) q → (BaredAs more w at q place w → BaredAs g w₀ p q i w) →
            BaredAs g w₀ p q i w
        go [] e t k = k (bared_none w at q place t)
        go (v ∷ vs) e t k = absurd (omega arith)
