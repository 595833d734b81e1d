-- Two descriptions that stand loaded: their definite graphs lie so that the node where they clash can be told.
-- Assumes nothing.
use mathlib.Core.Path.{subst}
use mathlib.Core.List.{List, [], ◌∷◌}
use Prim.Native.Nat.{ℕ, suc, ◌≤◌, ◌<◌}
use native.Mathlib.Omega.{arith}
use lib.ListN.{length, length-append}
use Rattle.theory.specs.Limits.{input_limit, depth_limit}
use Rattle.theory.specs.Net.{Graph, Clash}
use Rattle.theory.specs.Descr.{Desc, desc, Disjs, disjs}
use Rattle.theory.specs.Layout.{nodes_words, disjs_words, words, WellFormed}
use Rattle.theory.specs.Weight.{weight}
use Rattle.loading.specs.Loaded.{nodes_in}
use Rattle.area.specs.Map.{WORDS, LOADED, SIZE, SECOND}
use Rattle.area.specs.Region.{region}
use Rattle.opening.specs.Opening.{Read, Stand, Opening, definite, Opens}
use Rattle.std.specs.Prelude.{Option}
use Rattle.opening.specs.declared.Opened.{Opened}
use Rattle.opening.proofs.Universe.{in_one, in_two, nodes_room, lies}
use Rattle.theory.specs.ClashNode.{ClashNode}
use Rattle.finding_clash.specs.TwoGraphs.{TwoLie, Locating, Locates}

-- a definite graph is shorter than its description
shorter : (g : Graph) (ds : Disjs) → suc (weight g) < length (words (desc g ds))
unfolding weight
shorter g ds = omega (arith, length-append (nodes_words g) (disjs ds ∷ disjs_words ds))

module _ (w : List ℕ) (g h : Graph) (ds es : Disjs) (n : ℕ) (long : SIZE ≤ length w) (wd : WellFormed (desc g ds) depth_limit)
    (we : WellFormed (desc h es) depth_limit) (fd : length (words (desc g ds)) ≤ input_limit)
    (fe : length (words (desc h es)) ≤ input_limit) (s : Stand (region WORDS LOADED w) (desc g ds) (desc h es) n) where
  abbrev d : Desc
  d = desc g ds

  abbrev e : Desc
  e = desc h es

  pub stand_lies : TwoLie w g h (nodes_in d)
  stand_lies =
      let room = nodes_room w d e n long wd we fd fe s in
      let count = s.count in
      record {
        first = lies w d e n long wd we fd fe s (definite 0 0 d) (in_one d e);
        second = lies w d e n long wd we fd fe s (definite SECOND (nodes_in d) e) (in_two d e);
        before = omega (arith, shorter g ds);
        first_canonical = wd.0;
        second_canonical = we.0;
        first_fits = wd.1;
        second_fits = we.1;
        numbers = omega arith;
        few = omega arith;
      }

  -- so the search may be called, and tells where they clash
  pub stand_asks : Locating w
  stand_asks = record { long = long; g = g; h = h; b = nodes_in d; lie = stand_lies }

  pub stand_told : (r : ℕ) (w' : List ℕ) → Locates w r w' → Clash (g ∷ h ∷ []) → ClashNode g h r
  stand_told r w' l clash = l.told g h (nodes_in d) stand_lies clash

-- ---- after `opening::open`, which had the area w₀ and the inputs x and y, and answered o
module _ (w₀ x y : List ℕ) (asked : Opening w₀ x y) (o : Option Opened) (w : List ℕ) (opens : Opens w₀ x y o w) where
  long : SIZE ≤ length w
  long = let e = opens.len in let l = asked.long in omega arith

  module _ (d e : Desc) (r : Read x y d e) where
    first_few : length (words d) ≤ input_limit
    first_few = subst (λ (z : List ℕ). length z ≤ input_limit) r.first_is asked.inputs.first_few

    second_few : length (words e) ≤ input_limit
    second_few = subst (λ (z : List ℕ). length z ≤ input_limit) r.second_is asked.inputs.second_few

  asks_of : (d e : Desc) → Read x y d e → Locating w
  asks_of (desc g ds) (desc h es) r = let (n, s) = opens.stands (desc g ds) (desc h es) r in
      stand_asks w g h ds es n long r.first_well r.second_well (first_few _ _ r) (second_few _ _ r) s

  -- the search may be called
  pub opened_asks : Locating w
  opened_asks = asks_of asked.inputs.first.0 asked.inputs.second.0 (record {
    first_well = asked.inputs.first.1;
    second_well = asked.inputs.second.1;
    first_is = asked.inputs.first.2;
    second_is = asked.inputs.second.2;
  })

  -- and tells where the definite graphs clash
  pub opened_told : (i : ℕ) (w' : List ℕ) → Locates w i w' → (g h : Graph) (ds es : Disjs) → Read x y (desc g ds) (desc h es) →
      Clash (g ∷ h ∷ []) → ClashNode g h i
  opened_told i w' l g h ds es r clash = let (n, s) = opens.stands (desc g ds) (desc h es) r in
      stand_told w g h ds es n long r.first_well r.second_well (first_few _ _ r) (second_few _ _ r) s i w' l clash
