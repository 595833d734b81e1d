-- Where two loaded graphs clash: what is asked and promised.
-- Assumes nothing: these are definitions.
use Rattle.std.specs.Prelude.{◌≡◌, List, [], ◌∷◌, ℕ, suc, ◌+◌, ◌*◌, ◌≤◌, length, get_or}
use Rattle.std.proofs.Common.{inl, inr}
use Rattle.theory.specs.Net.{Graph, nodeAt, beside, Canonical, Clash, Agree}
use Rattle.theory.specs.Layout.{GraphFits}
use Rattle.theory.specs.Weight.{weight}
use Rattle.theory.specs.ClashNode.{node_number, ClashNode}
use Rattle.area.specs.Map.{WORDS, MARKS, RESULT, SIZE, LOADED, SECOND}
use Rattle.loading.specs.Entry.{entry}
use Rattle.classes.specs.Entry.{Lies}
use Rattle.classes.specs.Holds.{Holds}
use Rattle.finding_clash.specs.Bared.{bared}
use Rattle.finding_clash.specs.Heads.{head_of}

-- the graphs g and h lie in the loaded words of w, the first at 0 and the second at SECOND, whose node 0 has the number b
pub record TwoLie (w : List ℕ) (g h : Graph) (b : ℕ) : Type 0 where
  pub first : Lies w 0 0 g
  pub second : Lies w SECOND b h
  pub before : suc (weight g) ≤ SECOND
  pub first_canonical : Canonical g
  pub second_canonical : Canonical h
  pub first_fits : GraphFits g
  pub second_fits : GraphFits h
  pub numbers : length g ≤ b
  pub few : 3 * (b + length h) ≤ LOADED

-- "counting the first graph's nodes and then the second's": the head of a node
abbrev pub spot_head : (g h : Graph) → (beside (g ∷ h ∷ [])).Spot → ℕ
spot_head g h (inl x) = head_of (nodeAt g x.0)
spot_head g h (inr (inl y)) = head_of (nodeAt h y.0)
spot_head g h (inr (inr x'')) = elim x'' [ ]

-- what taking the atoms out of both asks: they lie there, and have c and d nodes
pub record Stripping (w : List ℕ) (c d : ℕ) : Type 0 where
  pub long : SIZE ≤ length w
  pub g : Graph
  pub h : Graph
  pub b : ℕ
  pub lie : TwoLie w g h b
  pub first_many : length g ≡ c
  pub second_many : length h ≡ d

-- and what it promises: they lie there without their atoms, and the heads of all nodes stand from MARKS on
pub record Strips (w : List ℕ) (c d : ℕ) (w' : List ℕ) : Type 0 where
  pub len : length w' ≡ length w
  pub rest : (j : ℕ) → RESULT ≤ j → get_or w' j 0 ≡ get_or w j 0
  pub lie : (g h : Graph) (b : ℕ) → TwoLie w g h b → length g ≡ c → length h ≡ d → TwoLie w' (bared g) (bared h) b
  pub heads : (g h : Graph) (b : ℕ) → TwoLie w g h b → length g ≡ c → length h ≡ d → (x : (beside (g ∷ h ∷ [])).Spot) →
      get_or w' (MARKS + node_number g h x) 0 ≡ spot_head g h x

-- what pushing both asks: they lie there and do not clash
pub record BothPushing (n : ℕ) (w : List ℕ) : Type 0 where
  pub long : SIZE ≤ length w
  pub g : Graph
  pub h : Graph
  pub b : ℕ
  pub lie : TwoLie w g h b
  pub agree : Agree (g ∷ h ∷ [])
  pub many : n ≡ b + length h

-- and what it promises: their classes stand in the area
pub record BothPushes (n : ℕ) (w w' : List ℕ) : Type 0 where
  pub len : length w' ≡ length w
  pub rest : (j : ℕ) → WORDS ≤ j → get_or w' j 0 ≡ get_or w j 0
  pub holds : (g h : Graph) (b : ℕ) → TwoLie w g h b → Agree (g ∷ h ∷ []) → n ≡ b + length h →
      (k : ℕ) × Holds n (entry 0 0 g ∷ entry SECOND b h ∷ []) k w'

-- what the search asks: an area where two graphs lie
pub record Locating (w : List ℕ) : Type 0 where
  pub long : SIZE ≤ length w
  pub g : Graph
  pub h : Graph
  pub b : ℕ
  pub lie : TwoLie w g h b

-- "Joining two graphs shall tell the smallest node, counting the first graph's nodes and then the second's, whose class holds a clash
-- once all classes are complete."
pub record Locates (w : List ℕ) (r : ℕ) (w' : List ℕ) : Type 0 where
  pub len : length w' ≡ length w
  pub rest : (j : ℕ) → RESULT ≤ j → get_or w' j 0 ≡ get_or w j 0
  pub told : (g h : Graph) (b : ℕ) → TwoLie w g h b → Clash (g ∷ h ∷ []) → ClashNode g h r
