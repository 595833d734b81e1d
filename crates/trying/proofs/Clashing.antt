-- A flat graph that says something else than the roots clashes with the graphs that are pushed. Assumes nothing.
use mathlib.Core.Path.{◌≡◌, refl, sym, ap, ◌∙◌, subst}
use mathlib.Core.Logic.{◌≢◌}
use mathlib.Core.List.Memᴰ
use mathlib.Core.List.{List, [], ◌∷◌, ◌++◌, Memᴰ}
use Prim.Native.Nat.{ℕ, suc, ◌+◌, ◌≤◌, ◌<◌}
use native.Mathlib.Decide.{dec_lt}
use native.Mathlib.Omega.{arith}
use lib.ListN.{length, get_or}
use Rattle.theory.specs.Limits.{code_limit}
use Rattle.theory.specs.Net.{Node, nodeAt, arcsOf, Clash}
use Rattle.area.specs.Region.{loaded_words}
use Rattle.loading.specs.Entry.{Entry, graphs}
use Rattle.forest.specs.Held.{last_arc, ChainCode, AtomCode}
use Rattle.forest.specs.State.{targets, Pile, Equal, ClashIn, Chain}
use Rattle.classes.specs.Entry.{Comes}
use Rattle.classes.specs.Holds.{Holds, class, code}
use Rattle.forest.proofs.Links.{first_mem, first_feature}
use Rattle.classes.proofs.Grown.{same_extends}
use Rattle.classes.proofs.Comings.{pile, extends, same', some', tied', clash'}
use Rattle.classes.proofs.Writer.{class_low, class_top}
use Rattle.trying.specs.Leaf.{Under, target_code, feature, leaf_head, Next}
use Rattle.trying.proofs.Flatness.{head, Bare, head_atom, fits_at, Flat, head_is, arc_there, arc_is}

-- a chain that is not empty has a first arc
chain_some : (w : List ℕ) (x : ℕ) (xs : List ℕ) → Chain w x xs → (x ≡ 0 → ⊥) → (j : ℕ) × Memᴰ j xs
chain_some w x [] t z = absurd (z t)
chain_some w x (j ∷ xs) t z = (j, Memᴰ.head refl)

module _ (n : ℕ) (es : List Entry) (k : ℕ) (w : List ℕ) (e : Entry) (h : Holds n es k w) (c : Comes n es e w) (d : ℕ)
    (fl : Flat (loaded_words w) (targets w) e.number (e.at + 1) d e.graph) where
  abbrev F : List ℕ
  F = loaded_words w

  abbrev T : List ℕ
  T = targets w

  abbrev G : Pile
  G = pile n es k w e h c

  first : 0 < n
  first = let i = c.inside in let s = some' n es k w e h c in omega arith

  mine : Memᴰ e (es ++ e ∷ [])
  mine = Memᴰ.append_right es (Memᴰ.head refl)

  -- nodes of one class are equal
  equal : (i j : ℕ) → i < n → j < n → class h i ≡ class h j → Equal G F T i j
  equal i j a b z = same_extends h.G G F T (extends n es k w e h c) (h.state.sound i j a b z)

  -- an arc of the root
  root_arc : (f t : ℕ) → Memᴰ (f, t) fl.l →
      (q : ℕ) × (Memᴰ q G.B × (Equal G F T 0 (G.S q) × ((get_or F q 0 ≡ f) × (get_or T q 0 ≡ e.number + t))))
  root_arc f t m =
      let r = (tied' n es k w e h c).arc e mine 0 f t (some' n es k w e h c)
      (subst (λ (v : Node). Memᴰ (f, t) (arcsOf v)) (sym fl.root) m) in
      let z : e.number ≡ G.S r.0 = omega (arith, r.1.1.0) in
      (r.0, (r.1.0, (subst (Equal G F T 0) z (same' n es k w e h c), r.1.1.1)))

  -- what bears an atom in a class
  bearer : (x : ℕ) → x < n → AtomCode (get_or w (class h x) 0) →
      (i : ℕ) × (Memᴰ i G.N × ((G.A i ≡ get_or w (class h x) 0) × Equal G F T i x))
  bearer x hx l =
      let m = class_low n es k w h x hx in
      let b = (h.state.bare (class h x) (omega arith) (class_top n es k w h x hx) l).1 in (
        b.i,
        (
          (extends n es k w e h c).nodes b.i b.node,
          ((extends n es k w e h c).codes b.i b.node ∙ b.is, equal b.i x b.small hx b.class),
        ),
      )

  -- what has an arc in a class
  owner : (x q : ℕ) → x < n → Memᴰ q (get_or h.state.C (class h x) []) →
      Memᴰ q G.B × (Equal G F T (G.S q) x × (get_or T q 0 < n))
  owner x q hx m =
      let l = class_low n es k w h x hx in
      let o = h.state.home (class h x) q (omega arith) m in
      let b = h.state.known q o.0 in
      let a = h.state.arcs q b in (
        (extends n es k w e h c).arcs q b,
        (
          subst (λ (z : ℕ). Equal G F T z x) (sym ((extends n es k w e h c).sources q b)) (equal (h.G.S q) x a.1.0 hx o.1),
          a.1.1,
        ),
      )

  -- ---- the roots bear an atom, and the graph has an arc
  pub root_clash : 0 < d → AtomCode (get_or w (class h 0) 0) → Clash (graphs es ++ e.graph ∷ [])
  root_clash some l =
      let b = bearer 0 first l in
      let r = arc_there w e d fl 0 some in
      let q = root_arc (feature w e.at 0) r.0 r.1.0 in
      let z : G.A b.0 ≡ get_or w (class h 0) 0 = b.1.1.0 in
      clash' n es k w e h c (ClashIn.mixed b.1.0 (λ y. omega arith) q.1.0 (Equal.on b.1.1.1 q.1.1.0))

  -- ---- a leaf says something else
  module _ (i : ℕ) (below : i < d) (many : length e.graph ≡ suc d) (before : (j : ℕ) → j < i →
      Bare (leaf_head w e.at d j)) (next : Next w e.at e.number i) (bears : code_limit ≤ leaf_head w e.at d i) where
    leaf : (Memᴰ (e.number + suc i) G.N) × (G.A (e.number + suc i) ≡ leaf_head w e.at d i)
    leaf =
        let y = head_is w e d fl i below before in
        let a = head_atom (nodeAt e.graph (suc i)) (fits_at e.graph c.fits (suc i) (omega arith)) (omega arith) in
        let r = (tied' n es k w e h c).node e mine (suc i) (omega arith) in
        (r.0, r.1 ∙ ap code a.1 ∙ sym (ap head a.1) ∙ y)

    module _ (q : ℕ) (under : Under h (feature w e.at i) q) (other : target_code h q ≢ leaf_head w e.at d i)
        (some : target_code h q ≢ 0)
        (low : ChainCode (get_or w (class h 0) 0)) where
      on_chain : Memᴰ q (get_or h.state.C (class h 0) []) × (get_or F q 0 ≡ feature w e.at i)
      on_chain =
          let l = class_low n es k w h 0 first in
          let p = under (get_or h.state.C (class h 0) [])
          (h.state.chain (class h 0) (omega arith) (class_top n es k w h 0 first) low) in (
            first_mem F (feature w e.at i) (get_or h.state.C (class h 0) []) q p,
            first_feature F (feature w e.at i) (get_or h.state.C (class h 0) []) q p,
          )

      abbrev to : ℕ
      to = get_or T q 0

      to_low : to < n
      to_low = (owner 0 q first on_chain.0).1.1

      joined : Equal G F T to (e.number + suc i)
      joined =
          let o = owner 0 q first on_chain.0 in
          let r = root_arc (feature w e.at i) (suc i) (arc_is w e d fl i below next) in
          subst (Equal G F T to) r.1.1.1.1
          (Equal.along o.0 r.1.0 (on_chain.1 ∙ sym r.1.1.1.0) (Equal.on o.1.0 r.1.1.0))

      go : Dec (AtomCode (target_code h q)) → ClashIn G F T
      go (yes l) =
          let b = bearer to to_low l in
          let z : G.A b.0 ≡ target_code h q = b.1.1.0 in
          let y : G.A (e.number + suc i) ≡ leaf_head w e.at d i = leaf.1 in
          ClashIn.atoms b.1.0 leaf.0 (Equal.on b.1.1.1 joined) (λ x. some (sym z ∙ x)) (λ x. omega (arith, bears, y, x))
          (λ x. other (sym z ∙ x ∙ y))
      go (no l) =
          let m = class_low n es k w h to to_low in
          let t = to_low in
          let j = chain_some w (target_code h q) (get_or h.state.C (class h to) [])
          (h.state.chain (class h to) (omega arith) (class_top n es k w h to to_low) (omega arith)) some in
          let o = owner to j.0 to_low j.1 in
          let y : G.A (e.number + suc i) ≡ leaf_head w e.at d i = leaf.1 in
          ClashIn.mixed leaf.0 (λ x. omega (arith, bears, y, x)) o.0 (Equal.on (Equal.back joined) (Equal.back o.1.0))

      pub leaf_clash : Clash (graphs es ++ e.graph ∷ [])
      leaf_clash = clash' n es k w e h c (go (dec_lt last_arc (target_code h q)))
