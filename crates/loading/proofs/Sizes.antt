-- How long what is loaded is, and what its length bounds.
-- Assumes nothing.
use Prim.Native.Nat.{ℕ, suc, ◌+◌, ◌*◌, ◌≤◌, ◌<◌, max}
use native.Mathlib.Omega.{arith}
use mathlib.Core.Path.{◌≡◌, refl, sym, ap, ◌∙◌}
use mathlib.Core.List.{List, [], ◌∷◌, ◌++◌}
use lib.ListN.{length, length-append}
use Rattle.theory.specs.Limits.{input_limit}
use Rattle.theory.specs.Net.{Node, atom, arcs, Graph, arcsOf, met, Numbered}
use Rattle.theory.specs.Descr.{Desc, desc, Disjs, end, ◌and◌, Alts, fail, ◌or◌, disjs, alts}
use Rattle.theory.specs.Layout.{arc_words, node_words, nodes_words, words, disjs_words, alts_words}
use Rattle.theory.specs.Canonical.{Can, CanAll, CanAny}
use Rattle.theory.proofs.Weight.{weights_append}
use Rattle.theory.proofs.Instance.{met_ge, met_few, numbered_ge}
use Rattle.theory.specs.Weight.{weight, weights}
use Rattle.loading.specs.Loaded.{extent, moved_arcs, moved_node, located, nodes_in, nodes_all, nodes_any, loaded, loaded_all}
use Rattle.loading.specs.Loaded.{alts_in, alts_any, loaded_any}
use Rattle.loading.specs.Loading.{Low, AllLow}

-- lists as long as each other, one after the other
both_length : (xs xs' ys ys' : List ℕ) → length xs ≡ length xs' → length ys ≡ length ys' → length (xs ++ ys) ≡ length (xs' ++ ys')
both_length xs xs' ys ys' e f = length-append xs ys ∙ rw (e, f) (sym (length-append xs' ys'))

pub moved_length : (n : ℕ) (l : List (ℕ × ℕ)) → length (moved_arcs n l) ≡ length l
moved_length n [] = refl
moved_length n (e ∷ l) = ap suc (moved_length n l)

arcs_twice : (l : List (ℕ × ℕ)) → length (arc_words l) ≡ 2 * length l
arcs_twice [] = refl
arcs_twice (e ∷ l) = let h = arcs_twice l in omega arith

node_twice : (v : Node) → length (node_words v) ≡ 1 + 2 * length (arcsOf v)
node_twice (atom a) = refl
node_twice (arcs l) = let h = arcs_twice l in omega arith

pub node_length : (n : ℕ) (v : Node) → length (node_words (moved_node n v)) ≡ length (node_words v)
node_length n (atom a) = refl
node_length n (arcs l) = omega (arith, arcs_twice l, arcs_twice (moved_arcs n l), moved_length n l)

pub located_length : (n : ℕ) (g : Graph) → length (located n g) ≡ length (nodes_words g)
located_length n [] = refl
located_length n (v ∷ vs) = both_length (node_words (moved_node n v)) (node_words v) (located n vs) (nodes_words vs) (node_length n v)
    (located_length n vs)

mutual
  pub loaded_length : (p n x y : ℕ) (d : Desc) → length (loaded p n x y d) ≡ length (words d)
  loaded_length p n x y (desc g ds) =
      ap suc (both_length (located n g) (nodes_words g) _ (disjs ds ∷ disjs_words ds) (located_length n g)
      (ap suc (all_length (p + extent g + 1) (n + length g) y ds)))

  all_length : (p n y : ℕ) (ds : Disjs) → length (loaded_all p n y ds) ≡ length (disjs_words ds)
  all_length p n y end = refl
  all_length p n y (a and ds) = ap suc
      (both_length (loaded_any (p + 1) n y (y + alts a) a) (alts_words a) _ (disjs_words ds) (any_length (p + 1) n y (y + alts a) a)
      (all_length (p + suc (length (alts_words a))) (n + nodes_any a) (y + (alts a + alts_any a)) ds))

  pub any_length : (p n x y : ℕ) (a : Alts) → length (loaded_any p n x y a) ≡ length (alts_words a)
  any_length p n x y fail = refl
  any_length p n x y (d or a) = both_length (loaded p n x y d) (words d) _ (alts_words a) (loaded_length p n x y d)
      (any_length (p + length (words d)) (n + nodes_in d) (x + 1) (y + alts_in d) a)

-- each node has a word at least
pub graph_extent : (g : Graph) → length g < extent g
graph_extent [] = omega arith
graph_extent (v ∷ vs) = let h = graph_extent vs in let k = node_some v in omega (arith, length-append (node_words v) (nodes_words vs))
  where
    node_some : (v : Node) → 0 < length (node_words v)
    node_some (atom a) = omega arith
    node_some (arcs l) = omega arith

numbered_few : (k m : ℕ) (g : Graph) → Numbered k m g → 2 * k + 3 * length g ≤ 2 * m + length (nodes_words g)
numbered_few k m [] c = omega arith
numbered_few k m (v ∷ vs) c =
    omega (
      arith,
      numbered_few (suc k) (met m (arcsOf v)) vs c.3,
      met_few m (arcsOf v) c.2,
      node_twice v,
      length-append (node_words v) (nodes_words vs),
    )

met_low : (m : ℕ) (l : List (ℕ × ℕ)) → met m l ≤ input_limit → Low l
met_low m [] h = tt
met_low m (e ∷ l) h = let k = met_ge (max m (suc e.1)) l in (omega arith, met_low (max m (suc e.1)) l h)

-- the targets of a graph are below its node count
pub numbered_low : (k m : ℕ) (g : Graph) → Numbered k m g → k + length g ≤ input_limit → AllLow g
numbered_low k m [] c h = tt
numbered_low k m (v ∷ vs) c h =
    let after = met m (arcsOf v) in
    (met_low m (arcsOf v) (omega (arith, numbered_ge (suc k) after vs c.3)), numbered_low (suc k) after vs c.3 (omega arith))

mutual
  -- a node has its head, and but for a root the arc that meets it; a root has the counts of nodes and of disjunctions
  pub nodes_few : (d : Desc) → Can d → 3 * nodes_in d ≤ length (words d)
  nodes_few (desc g ds) c = omega (
    arith,
    numbered_few 0 1 g c.0,
    nodes_few_all ds c.1,
    length-append (nodes_words g) (disjs ds ∷ disjs_words ds),
  )

  nodes_few_all : (ds : Disjs) → CanAll ds → 3 * nodes_all ds ≤ length (disjs_words ds)
  nodes_few_all end c = omega arith
  nodes_few_all (a and ds) c = omega (arith, nodes_few_any a c.0, nodes_few_all ds c.1, length-append (alts_words a) (disjs_words ds))

  nodes_few_any : (a : Alts) → CanAny a → 3 * nodes_any a ≤ length (alts_words a)
  nodes_few_any fail c = omega arith
  nodes_few_any (d or a) c = omega (arith, nodes_few d c.0, nodes_few_any a c.1, length-append (words d) (alts_words a))

-- all graphs of a description, at every depth
abbrev mutual
  pub graphs : Desc → List Graph
  graphs (desc g ds) = g ∷ graphs_all ds

  pub graphs_all : Disjs → List Graph
  graphs_all end = []
  graphs_all (a and ds) = graphs_any a ++ graphs_all ds

  pub graphs_any : Alts → List Graph
  graphs_any fail = []
  graphs_any (d or a) = graphs d ++ graphs_any a

mutual
  unfolding weight

  -- the graphs of a description have two words more each than their nodes: their counts of nodes and of disjunctions
  pub weights_fit : (d : Desc) → weights (graphs d) + 2 * length (graphs d) ≤ length (words d)
  weights_fit (desc g ds) = omega (arith, weights_fit_all ds, length-append (nodes_words g) (disjs ds ∷ disjs_words ds))

  pub weights_fit_all : (ds : Disjs) → weights (graphs_all ds) + 2 * length (graphs_all ds) + disjs ds ≤ length (disjs_words ds)
  weights_fit_all end = omega arith
  weights_fit_all (a and ds) =
      omega (
        arith,
        weights_fit_any a,
        weights_fit_all ds,
        weights_append (graphs_any a) (graphs_all ds),
        length-append (graphs_any a) (graphs_all ds),
        length-append (alts_words a) (disjs_words ds),
      )

  weights_fit_any : (a : Alts) → weights (graphs_any a) + 2 * length (graphs_any a) ≤ length (alts_words a)
  weights_fit_any fail = omega arith
  weights_fit_any (d or a) =
      omega (
        arith,
        weights_fit d,
        weights_fit_any a,
        weights_append (graphs d) (graphs_any a),
        length-append (graphs d) (graphs_any a),
        length-append (words d) (alts_words a),
      )
