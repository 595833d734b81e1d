-- The nodes of a graph, one after the other: what the contracts of `src/visit.rt` cite. Assumes nothing.
use Rattle.std.specs.Prelude.{ℕ, zero, suc, ◌+◌, ◌*◌, ◌≤◌, ◌<◌, ◌≡◌, ◌⊎◌, Bool, true, false, length, get_or}
use mathlib.Core.List.{List, [], ◌∷◌, Memᴰ}
use Rattle.area.specs.Map.{ENTRIES, LOADED, NEXT, LOG}
use Rattle.theory.specs.Limits.{code_limit}
use Rattle.theory.specs.Net.{Node, atom, arcs, Graph}
use Rattle.area.specs.Log.{Later, Stores}
use Rattle.forest.specs.State.{Pile, Done, ClashIn, State, withNode}

-- ---- an arc on a chain
-- y follows the arc t, which nothing followed, and 0 took no entry
pub record Follows (k : ℕ) (w : List ℕ) (t y k' : ℕ) (w' : List ℕ) : Type 0 where
  pub later : Later k w k' w'
  pub few : k' ≤ k + 1
  pub none : y ≡ 0 → k' ≡ k
  pub at : get_or w' (NEXT + t) 0 ≡ y
  pub rest : (j : ℕ) → j < LOG → (j ≡ NEXT + t → ⊥) → get_or w' j 0 ≡ get_or w j 0

-- the arc t stands where the link l leads, before what stood there; the link to go on from is 0, or that after t where `at` is not 0
pub record Hung (k : ℕ) (w : List ℕ) (t l at k' at' : ℕ) (w' : List ℕ) : Type 0 where
  pub entry : ℕ
  pub between : List ℕ
  pub before : Follows k w t (get_or w l 0) entry between
  pub after : Stores entry between l (t + 1) k' w'
  pub next : (at' ≡ 0) ⊎ ((0 < at) × (at' ≡ NEXT + t))

-- ---- the arcs of a node
-- the d arcs from t on, each two words after the one before, the last one first
abbrev pub strung : List ℕ → ℕ → ℕ → List ℕ
strung l t zero = l
strung l t (suc d) = (t + 2 * d) ∷ strung l t d

abbrev pub grown : Done → ℕ → ℕ → Done
grown H t d = record { K = strung H.K t d; U = H.U; E = H.E }

pub record Batch (G : Pile) (H : Done) (n x from d : ℕ) : Type 0 where
  pub arcs : (i : ℕ) → i < d → Memᴰ (from + 2 * i) G.B × (G.S (from + 2 * i) ≡ x)
  pub new : (i : ℕ) → i < d → Memᴰ (from + 2 * i) H.K → ⊥
  pub room : 3 * n + (2 * (length H.K + d) + length H.U) ≤ ENTRIES

pub record Batched (F T : List ℕ) (n k : ℕ) (w : List ℕ) (x from d : ℕ) : Type 0 where
  pub G : Pile
  pub H : Done
  pub state : State G H F T n k 0 [] w
  pub batch : Batch G H n x from d

pub record Run (F T : List ℕ) (n k : ℕ) (w : List ℕ) (x from d k' : ℕ) (bad : Bool) (w' : List ℕ) : Type 0 where
  pub later : Later k w k' w'
  pub fine : bad ≡ false → (G : Pile) (H : Done) → State G H F T n k 0 [] w → Batch G H n x from d →
      State G (grown H from d) F T n k' 0 [] w'
  pub clash : bad ≡ true → (G : Pile) (H : Done) → State G H F T n k 0 [] w → Batch G H n x from d → ClashIn G F T

-- ---- a node
-- how many words it takes
abbrev pub span : Node → ℕ
span (atom a) = 1
span (arcs l) = 1 + 2 * length l

-- the node x bears the atom a, and its head stands at p
pub record AtomAt (F : List ℕ) (G : Pile) (n x p a : ℕ) : Type 0 where
  pub head : get_or F p 0 ≡ code_limit + a
  pub small : a < code_limit
  pub low : p < LOADED
  pub inside : x < n
  pub node : Memᴰ x G.N
  pub is : G.A x ≡ code_limit + a

-- the node x has d arcs, and its head stands at p
pub record ArcsAt (F : List ℕ) (G : Pile) (n x p d : ℕ) : Type 0 where
  pub head : get_or F p 0 ≡ d
  pub low : p + (1 + 2 * d) ≤ LOADED
  pub inside : x < n
  pub arcs : (i : ℕ) → i < d → Memᴰ (p + 1 + 2 * i) G.B × (G.S (p + 1 + 2 * i) ≡ x)

abbrev pub NodeAt : List ℕ → Pile → ℕ → ℕ → ℕ → Node → Type 0
NodeAt F G n x p (atom a) = AtomAt F G n x p a
NodeAt F G n x p (arcs l) = ArcsAt F G n x p (length l)

-- nothing of the d words from p on is done, and there is room for them
pub record Ahead (H : Done) (n p d : ℕ) : Type 0 where
  pub new : (q : ℕ) → p ≤ q → q < p + d → Memᴰ q H.K → ⊥
  pub room : 3 * n + (2 * length H.K + length H.U + d) ≤ ENTRIES

abbrev pub noded : Done → ℕ → ℕ → Node → Done
noded H x p (atom a) = withNode H x
noded H x p (arcs l) = grown H (p + 1) (length l)

pub record Noding (F T : List ℕ) (n k : ℕ) (w : List ℕ) (x p : ℕ) : Type 0 where
  pub G : Pile
  pub H : Done
  pub v : Node
  pub state : State G H F T n k 0 [] w
  pub node : NodeAt F G n x p v
  pub ahead : Ahead H n p (span v)

pub record Noded (F T : List ℕ) (n k : ℕ) (w : List ℕ) (x p k' : ℕ) (bad : Bool) (w' : List ℕ) : Type 0 where
  pub later : Later k w k' w'
  pub fine : bad ≡ false → (G : Pile) (H : Done) (v : Node) → State G H F T n k 0 [] w → NodeAt F G n x p v →
      Ahead H n p (span v) → State G (noded H x p v) F T n k' 0 [] w'
  pub clash : bad ≡ true → (G : Pile) (H : Done) (v : Node) → State G H F T n k 0 [] w → NodeAt F G n x p v →
      Ahead H n p (span v) → ClashIn G F T

-- ---- the nodes of a graph
abbrev pub spans : Graph → ℕ
spans [] = 0
spans (v ∷ vs) = span v + spans vs

-- the nodes vs have the numbers from x on, and their words stand from p on
abbrev pub NodesAt : List ℕ → Pile → ℕ → ℕ → ℕ → Graph → Type 0
NodesAt F G n x p [] = Unit {0}
NodesAt F G n x p (v ∷ vs) = NodeAt F G n x p v × NodesAt F G n (suc x) (p + span v) vs

abbrev pub listed : Done → ℕ → ℕ → Graph → Done
listed H x p [] = H
listed H x p (v ∷ vs) = listed (noded H x p v) (suc x) (p + span v) vs

pub record Listing (F T : List ℕ) (n k : ℕ) (w : List ℕ) (x p c : ℕ) : Type 0 where
  pub G : Pile
  pub H : Done
  pub vs : Graph
  pub many : length vs ≡ c
  pub state : State G H F T n k 0 [] w
  pub nodes : NodesAt F G n x p vs
  pub ahead : Ahead H n p (spans vs)

pub record Listed (F T : List ℕ) (n k : ℕ) (w : List ℕ) (x p c k' : ℕ) (bad : Bool) (w' : List ℕ) : Type 0 where
  pub later : Later k w k' w'
  pub fine : bad ≡ false → (G : Pile) (H : Done) (vs : Graph) → length vs ≡ c → State G H F T n k 0 [] w →
      NodesAt F G n x p vs → Ahead H n p (spans vs) → State G (listed H x p vs) F T n k' 0 [] w'
  pub clash : bad ≡ true → (G : Pile) (H : Done) (vs : Graph) → length vs ≡ c → State G H F T n k 0 [] w →
      NodesAt F G n x p vs → Ahead H n p (spans vs) → ClashIn G F T
