-- Every word of a well-formed description is a 32-bit word.
-- Assumes nothing.
use Prim.Native.Nat.{ℕ, zero, suc, ◌≤◌, ◌<◌}
use native.Mathlib.Omega.{arith}
use mathlib.Core.Path.{refl}
use mathlib.Core.List.{List, [], ◌∷◌, ◌++◌, Memᴰ}
use lib.ListN.{length, get_or, length-append}
use Rattle.descriptions.specs.Limits.{word_limit}
use Rattle.theory.specs.Net.{Node, atom, arcs, Graph, nodeAt, arcsOf}
use Rattle.theory.specs.Descr.{Desc, desc, Disjs, end, ◌and◌, Alts, fail, ◌or◌, disjs, alts}
use Rattle.theory.specs.Layout.{arc_words, node_words, nodes_words, words, disjs_words, alts_words, ArcsFit, NodeFits, GraphFits}
use Rattle.theory.specs.Layout.{WellFormed, WellAll, WellAny}
use Rattle.theory.proofs.Instance.{numbered_target}

-- each is one
abbrev pub Below : List ℕ → Type 0
Below [] = Unit {0}
Below (w ∷ ws) = (w < word_limit) × Below ws

below_append : (xs ys : List ℕ) → Below xs → Below ys → Below (xs ++ ys)
below_append [] ys p q = q
below_append (x ∷ xs) ys p q = (p.0, below_append xs ys p.1 q)

pub below_at : (ws : List ℕ) → Below ws → (i : ℕ) → i < length ws → get_or ws i 0 < word_limit
below_at [] b i h = absurd (omega arith)
below_at (w ∷ ws) b zero h = b.0
below_at (w ∷ ws) b (suc i) h = below_at ws b.1 i (omega arith)

module _ (n : ℕ) (few : n < word_limit) where
  arcs_below : (l : List (ℕ × ℕ)) → ArcsFit l → ((f t : ℕ) → Memᴰ (f, t) l → t < n) → Below (arc_words l)
  arcs_below [] a h = tt
  arcs_below (p ∷ l) a h =
      let f = a.0 in
      let t = h p.0 p.1 (Memᴰ.head refl) in
      (omega arith, (omega arith, arcs_below l a.1 (λ f t m. h f t (Memᴰ.tail m))))

  node_below : (v : Node) → NodeFits v → ((f t : ℕ) → Memᴰ (f, t) (arcsOf v) → t < n) → Below (node_words v)
  node_below (atom a) p h = (omega arith, tt)
  node_below (arcs l) p h = let k = p.0 in (omega arith, arcs_below l p.1 h)

  nodes_below : (g : Graph) → GraphFits g → ((i f t : ℕ) → Memᴰ (f, t) (arcsOf (nodeAt g i)) → t < n) → Below (nodes_words g)
  nodes_below [] p h = tt
  nodes_below (v ∷ vs) p h =
      below_append (node_words v) (nodes_words vs) (node_below v p.0 (h 0)) (nodes_below vs p.1 (λ i. h (suc i)))

-- nothing is counted that has no word
node_long : (v : Node) → 1 ≤ length (node_words v)
node_long (atom a) = omega arith
node_long (arcs l) = omega arith

nodes_long : (g : Graph) → length g ≤ length (nodes_words g)
nodes_long [] = omega arith
nodes_long (v ∷ vs) = let a = node_long v in let b = nodes_long vs in let e = length-append (node_words v) (nodes_words vs) in omega arith

disjs_long : (ds : Disjs) → disjs ds ≤ length (disjs_words ds)
disjs_long end = omega arith
disjs_long (a and ds) = let b = disjs_long ds in let e = length-append (alts a ∷ alts_words a) (disjs_words ds) in omega arith

words_long : (d : Desc) → 1 ≤ length (words d)
words_long (desc g ds) = omega arith

alts_long : (a : Alts) → alts a ≤ length (alts_words a)
alts_long fail = omega arith
alts_long (d or a) = let b = words_long d in let c = alts_long a in let e = length-append (words d) (alts_words a) in omega arith

mutual
  pub words_below : (d : Desc) (n : ℕ) → WellFormed d n → length (words d) < word_limit → Below (words d)
  words_below (desc g ds) n w h =
      let e = length-append (length g ∷ nodes_words g) (disjs ds ∷ disjs_words ds) in
      let a = nodes_long g in
      let b = disjs_long ds in
      let few : length g < word_limit = omega arith in
      below_append (length g ∷ nodes_words g) (disjs ds ∷ disjs_words ds)
      (few, nodes_below (length g) few g w.1 (λ i f t m. let k = numbered_target 0 1 g w.0 i f t m in omega arith))
      (omega arith, disjs_below ds n w.2 (omega arith))

  disjs_below : (ds : Disjs) (n : ℕ) → WellAll ds n → length (disjs_words ds) < word_limit → Below (disjs_words ds)
  disjs_below end n w h = tt
  disjs_below (a and ds) zero w h = absurd w
  disjs_below (a and ds) (suc n) w h =
      let e = length-append (alts a ∷ alts_words a) (disjs_words ds) in
      let b = alts_long a in
      below_append (alts a ∷ alts_words a) (disjs_words ds)
      (omega arith, alts_below a n w.1 (omega arith))
      (disjs_below ds (suc n) w.2 (omega arith))

  alts_below : (a : Alts) (n : ℕ) → WellAny a n → length (alts_words a) < word_limit → Below (alts_words a)
  alts_below fail n w h = tt
  alts_below (d or a) n w h =
      let e = length-append (words d) (alts_words a) in
      below_append (words d) (alts_words a) (words_below d n w.0 (omega arith)) (alts_below a n w.1 (omega arith))
