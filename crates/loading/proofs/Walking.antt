-- What follows from a placed description's standing loaded: the order of positions and numbers, and that no two of its names are the same.
-- Assumes nothing.
use Prim.Native.Nat.{ℕ, ◌+◌, ◌≤◌, ◌<◌}
use native.Mathlib.Omega.{arith}
use mathlib.Core.Path.{◌≡◌}
use mathlib.Core.List.{List}
use lib.ListN.{length, get_or}
use Rattle.theory.specs.Net.{Graph}
use Rattle.engine.specs.Placed.{Placed, place, Places, stop, ◌also◌, Options, no_more, option}
use Rattle.modes_by_marks.specs.Names.{Distinct, DistinctAll, DistinctAny}
use Rattle.packing.specs.Packed.{number_step, word_nodes, word_number, word_extent}
use Rattle.loading.specs.Loaded.{extent}
use Rattle.loading.specs.Numbered.{places, options}
use Rattle.loading.specs.At.{At, AtAll, AtAny}
use Rattle.packing.proofs.Packed.{nodes_back, number_back, extent_back}
use Rattle.loading.proofs.Sizes.{graph_extent}

module _ (t : List ℕ) where
  mutual
    pub at_bounds : (d : Placed) (p n q m : ℕ) → At t p n d q m → (p < q) × (q ≤ length t) × (n < m)
    at_bounds (place g ds) p n q m w =
        let some = w.0 in
        let room = w.4 in
        let r = all_bounds ds (p + extent g + 1) (n + length g) q m (omega arith) w.6 in
        let far = r.0 in
        let more = r.2 in
        (omega arith, r.1, omega arith)

    pub all_bounds : (ds : Places) (p n q m : ℕ) → p ≤ length t → AtAll t p n ds q m → (p ≤ q) × (q ≤ length t) × (n ≤ m)
    all_bounds stop p n q m h w = let e = w.0 in let f = w.1 in (omega arith, omega arith, omega arith)
    all_bounds (a also ds) p n q m h w =
        let there = w.2 in
        let first = any_bounds a (p + 1) n w.0 w.1 (omega arith) w.4 in
        let rest = all_bounds ds w.0 w.1 q m first.1 w.5 in
        let x = first.0 in
        let y = first.2 in
        let z = rest.0 in
        let u = rest.2 in
        (omega arith, rest.1, omega arith)

    pub any_bounds : (a : Options) (p n q m : ℕ) → p ≤ length t → AtAny t p n a q m → (p ≤ q) × (q ≤ length t) × (n ≤ m)
    any_bounds no_more p n q m h w = let e = w.0 in let f = w.1 in (omega arith, omega arith, omega arith)
    any_bounds (option k d a) p n q m h w =
        let first = at_bounds d p n w.0 w.1 w.3 in
        let rest = any_bounds a w.0 w.1 q m first.1 w.4 in
        let x = first.0 in
        let y = first.2 in
        let z = rest.0 in
        let u = rest.2 in
        (omega arith, rest.1, omega arith)

  mutual
    -- no two alternatives have one mark
    pub at_distinct : (d : Placed) (p n q m : ℕ) → At t p n d q m → Distinct d
    at_distinct (place g ds) p n q m w = all_distinct ds (p + extent g + 1) (n + length g) q m w.6

    pub all_distinct : (ds : Places) (p n q m : ℕ) → AtAll t p n ds q m → DistinctAll ds
    all_distinct stop p n q m w = tt
    all_distinct (a also ds) p n q m w = (any_distinct a (p + 1) n w.0 w.1 w.4, all_distinct ds w.0 w.1 q m w.5, w.6)

    pub any_distinct : (a : Options) (p n q m : ℕ) → AtAny t p n a q m → DistinctAny a
    any_distinct no_more p n q m w = tt
    any_distinct (option x d a) p n q m w =
        (at_distinct d p n w.0 w.1 w.3, any_distinct a w.0 w.1 q m w.4, w.5, w.6, w.7)

  pub all_counts : (ds : Places) (p n q m : ℕ) → p ≤ length t → AtAll t p n ds q m → p + places ds ≤ q
  all_counts stop p n q m h w = let e = w.0 in omega arith
  all_counts (a also ds) p n q m h w =
      let there = w.2 in
      let first = any_bounds a (p + 1) n w.0 w.1 (omega arith) w.4 in
      omega (arith, first.0, all_counts ds w.0 w.1 q m first.1 w.5)

  pub any_counts : (a : Options) (p n q m : ℕ) → p ≤ length t → AtAny t p n a q m → p + options a ≤ q
  any_counts no_more p n q m h w = let e = w.0 in omega arith
  any_counts (option k d a) p n q m h w =
      let first = at_bounds d p n w.0 w.1 w.3 in
      omega (arith, first.0, any_counts a w.0 w.1 q m first.1 w.4)

  module _ (g : Graph) (ds : Places) (p n q m : ℕ) (at : At t p n (place g ds) q m) where
    -- the counts are no more than the words, and the nodes no more than the numbers
    pub at_counts : (length g < extent g) × (p + extent g + places ds < q) × (n + length g ≤ m)
    at_counts =
        let room = at.4 in
        let last = (all_bounds ds (p + extent g + 1) (n + length g) q m (omega arith) at.6).2 in
        (graph_extent g, omega (arith, all_counts ds (p + extent g + 1) (n + length g) q m (omega arith) at.6), last)

    -- what code reads at a graph, where numbers and positions are as small as the working area keeps them
    pub at_header : m < number_step →
        (word_nodes (get_or t p 0) ≡ length g) × (word_number (get_or t p 0) ≡ n) × (word_extent (get_or t p 0) ≡ extent g)
    at_header h =
        let few : length g < number_step = omega (arith, at_counts.2) in
        let low : n < number_step = omega (arith, at_counts.2) in
        let e = at.2 in (
          rw e (nodes_back (length g) n (extent g) few),
          rw e (number_back (length g) n (extent g) few low),
          rw e (extent_back (length g) n (extent g) few low),
        )
