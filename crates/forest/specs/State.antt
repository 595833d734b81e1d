-- The state in which graphs are pushed: what the contracts of chains, merges and frames cite. Assumes nothing.
use Rattle.std.specs.Prelude.{ℕ, zero, suc, ◌+◌, ◌*◌, ◌-◌, ◌/◌, ◌%◌, ◌^◌, ◌≤◌, ◌<◌, ◌≡◌, Bool, true, false, ◌⊎◌, eqb, length, get_or}
use Rattle.std.specs.Prelude.{Option, MatchOption}
use mathlib.Core.List.{List, [], ◌∷◌, ◌++◌, Memᴰ}
use Rattle.area.specs.Map.{PARENT, NEXT, STACK, WORDS, TARGETS, LOADED, FRAME_STEP, ENTRIES, NODES}
use Rattle.area.specs.Region.{region}
use Rattle.forest.specs.Labels.{Eq, Together, how_many}
use Rattle.area.specs.Log.{Logged, Later}
use Rattle.forest.specs.Forest.{size_of, parents, Shape, Forest, SmallerUnder, tops}
use Rattle.forest.specs.Held.{ChainCode, AtomCode}

-- ---- what follows each of the loaded words
unfoldable pub targets : List ℕ → List ℕ
targets w = region (WORDS + 1) TARGETS w

-- ---- the meaning
-- what is pushed: the source S of each arc, the arcs B, the roots R, the nodes N, and the head A of the atom of each node, or 0
pub record Pile : Type 0 where
  pub S : ℕ → ℕ
  pub B : List ℕ
  pub R : List ℕ
  pub N : List ℕ
  pub A : ℕ → ℕ

-- "The classes are the least equivalence in which all roots are equal and equal nodes have equal targets under an equal feature."
pub data Equal (G : Pile) (F T : List ℕ) : ℕ → ℕ → Type 0 where
  root : {x y : ℕ} → Memᴰ x G.R → Memᴰ y G.R → Equal G F T x y
  self : (x : ℕ) → Equal G F T x x
  back : {x y : ℕ} → Equal G F T x y → Equal G F T y x
  on : {x y z : ℕ} → Equal G F T x y → Equal G F T y z → Equal G F T x z
  along : {p q : ℕ} → Memᴰ p G.B → Memᴰ q G.B → get_or F p 0 ≡ get_or F q 0 →
      Equal G F T (G.S p) (G.S q) → Equal G F T (get_or T p 0) (get_or T q 0)

-- "There is a clash when a class holds two different atoms, or an atom and an arc."
pub data ClashIn (G : Pile) (F T : List ℕ) : Type 0 where
  atoms : {x y : ℕ} → Memᴰ x G.N → Memᴰ y G.N → Equal G F T x y → (G.A x ≡ 0 → ⊥) →
      (G.A y ≡ 0 → ⊥) → (G.A x ≡ G.A y → ⊥) → ClashIn G F T
  mixed : {x q : ℕ} → Memᴰ x G.N → (G.A x ≡ 0 → ⊥) → Memᴰ q G.B → Equal G F T x (G.S q) →
      ClashIn G F T

-- what is done: the arcs K are on chains or stand for one that is, the atoms of the nodes U are met, and the pairs E are in one class
pub record Done : Type 0 where
  pub K : List ℕ
  pub U : List ℕ
  pub E : List (ℕ × ℕ)

-- ---- chains
-- the chain from the code x is xs: a code is 0, or an arc and 1
abbrev pub Chain : List ℕ → ℕ → List ℕ → Type 0
Chain w x [] = x ≡ 0
Chain w x (j ∷ xs) = (x ≡ suc j) × ((j < LOADED) × Chain w (get_or w (NEXT + j) 0) xs)

-- the chain from x up to b
abbrev pub Seg : List ℕ → ℕ → ℕ → List ℕ → Type 0
Seg w b x [] = x ≡ b
Seg w b x (j ∷ xs) = (x ≡ suc j) × ((j < LOADED) × ((suc j ≡ b → ⊥) × Seg w b (get_or w (NEXT + j) 0) xs))

-- i is the first arc of the list with the feature f
abbrev pub First : List ℕ → ℕ → List ℕ → ℕ → Type 0
First F f [] i = ⊥
First F f (j ∷ xs) i = ((get_or F j 0 ≡ f) × (i ≡ j)) ⊎ ((get_or F j 0 ≡ f → ⊥) × First F f xs i)

abbrev pub None : List ℕ → ℕ → List ℕ → Type 0
None F f [] = Unit {0}
None F f (j ∷ xs) = (get_or F j 0 ≡ f → ⊥) × None F f xs

-- the first arc with the feature f from x on is q, after the arcs js
abbrev pub Way : List ℕ → List ℕ → ℕ → ℕ → List ℕ → ℕ → Type 0
Way w F f x [] q = (x ≡ suc q) × (get_or F q 0 ≡ f)
Way w F f x (j ∷ js) q = (x ≡ suc j) × ((j < LOADED) × ((get_or F j 0 ≡ f → ⊥) × Way w F f (get_or w (NEXT + j) 0) js q))

-- for measures: the length of the chain from x up to b
abbrev pub orSuc : Bool → ℕ → ℕ
orSuc true m = 0
orSuc false m = suc m

unfoldable pub hops : ℕ → List ℕ → ℕ → ℕ → ℕ
hops zero w b x = 0
hops (suc f) w b x = orSuc (eqb x b) (hops f w b (get_or w (NEXT + (x - 1)) 0))

pub record Runs (w : List ℕ) (x : ℕ) : Type 0 where
  pub xs : List ℕ
  pub chain : Chain w x xs
  pub short : length xs ≤ LOADED

unfoldable pub total_length : List (List ℕ) → ℕ
total_length [] = 0
total_length (x ∷ C) = length x + total_length C

-- how many of the chains have an arc
abbrev pub one_of : List ℕ → ℕ
one_of [] = 0
one_of (j ∷ xs) = 1

unfoldable pub chained : List (List ℕ) → ℕ
chained [] = 0
chained (x ∷ C) = one_of x + chained C

-- ---- frames
unfoldable pub frames : List ℕ → ℕ → List (ℕ × ℕ)
frames w zero = []
frames w (suc s) = (get_or w (STACK + s) 0 % FRAME_STEP, get_or w (STACK + s) 0 / FRAME_STEP) ∷ frames w s

-- the pair of targets of an arc of a frame's part and of its first match from b on is still to be merged
pub data Near (F T M w : List ℕ) (fs : List (ℕ × ℕ)) : ℕ → ℕ → Type 0 where
  old : {i j : ℕ} → Together M i j → Near F T M w fs i j
  owe : {x y q : ℕ} (q' : ℕ) (zs js : List ℕ) → Memᴰ (x, y) fs → Seg w y x zs → Memᴰ q zs →
      Way w F (get_or F q 0) y js q' → Near F T M w fs (get_or T q 0) (get_or T q' 0)
  sym : {i j : ℕ} → Near F T M w fs i j → Near F T M w fs j i
  trans : {i j l : ℕ} → Near F T M w fs i j → Near F T M w fs j l → Near F T M w fs i l

-- a frame: a part of the chain of c's class, up to an arc of that chain
pub record Framed (n : ℕ) (M : List ℕ) (C : List (List ℕ)) (w : List ℕ) (a b : ℕ) : Type 0 where
  pub zs : List ℕ
  pub seg : Seg w b a zs
  pub short : length zs ≤ LOADED
  pub c : ℕ
  pub c_in : c < n
  pub own : (q : ℕ) → Memᴰ q zs → Memᴰ q (get_or C (get_or M c 0) [])
  pub e : ℕ
  pub is : b ≡ suc e
  pub stop : Memᴰ e (get_or C (get_or M c 0) [])

-- a node of the class c that bears the atom v
pub record Bears (G : Pile) (n : ℕ) (M : List ℕ) (c v : ℕ) : Type 0 where
  pub i : ℕ
  pub small : i < n
  pub node : Memᴰ i G.N
  pub is : G.A i ≡ v
  pub class : get_or M i 0 ≡ c

pub record State (G : Pile) (H : Done) (F T : List ℕ) (n k s : ℕ) (fs : List (ℕ × ℕ)) (w : List ℕ) : Type 0 where
  -- the log and the forest
  pub logged : Logged k w
  pub shape : Shape (parents n w)
  pub few : 3 * n + (2 * length H.K + length H.U) ≤ ENTRIES
  pub stack : s + tops 0 (parents n w) ≤ n
  -- what is pushed is in bounds
  pub arcs : (q : ℕ) → Memᴰ q G.B → (q < TARGETS) × ((G.S q < n) × (get_or T q 0 < n))
  pub atoms : (i : ℕ) → Memᴰ i G.N → (G.A i ≡ 0 → ⊥) → AtomCode (G.A i)
  -- M labels each node by its class
  pub M : List ℕ
  pub forest : Forest (parents n w) M
  -- the word of a root tells how many nodes its class has; one of rank r has 2 ^ r at least
  pub size : (c : ℕ) → c < n → get_or M c 0 ≡ c → size_of (get_or w (PARENT + c) 0) ≡ how_many c M
  pub heavy : (c : ℕ) → c < n → get_or M c 0 ≡ c → 2 ^ shape.rank c ≤ how_many c M
  -- C has the arcs on the chain of each class
  pub C : List (List ℕ)
  pub wide : length C ≡ n
  pub all : total_length C ≤ length H.K
  -- each root may still be merged, with three entries of the log, and one more where two chains meet; each arc takes two, of which the
  -- first of a chain leaves one over, and each atom one
  pub room : k + (3 * tops 0 (parents n w) + chained C) ≤ 3 * n + (2 * length H.K + length H.U)
  pub chain : (c : ℕ) → c < n → get_or M c 0 ≡ c → ChainCode (get_or w c 0) → Chain w (get_or w c 0) (get_or C c [])
  -- a class with an atom has no arcs
  pub bare : (c : ℕ) → c < n → get_or M c 0 ≡ c → AtomCode (get_or w c 0) → (get_or C c [] ≡ []) × Bears G n M c (get_or w c 0)
  -- an arc is on the chain of its source's class
  pub home : (c q : ℕ) → c < n → Memᴰ q (get_or C c []) → Memᴰ q H.K × (get_or M (G.S q) 0 ≡ c)
  pub known : (j : ℕ) → Memᴰ j H.K → Memᴰ j G.B
  -- nothing follows an arc that is not done
  pub blank : (j : ℕ) → j < LOADED → (Memᴰ j H.K → ⊥) → get_or w (NEXT + j) 0 ≡ 0
  -- for each arc that is done, the first of its feature on its class's chain has a target that is in one class with its own, or will
  -- be when the frames are worked off
  pub cover : (j : ℕ) → Memᴰ j H.K →
      (i : ℕ) × (First F (get_or F j 0) (get_or C (get_or M (G.S j) 0) []) i × Near F T M w fs (get_or T i 0) (get_or T j 0))
  -- the atoms that are done stand at their classes
  pub nodes : (i : ℕ) → Memᴰ i H.U → (i < n) × Memᴰ i G.N
  pub met : (i : ℕ) → Memᴰ i H.U → (G.A i ≡ 0 → ⊥) → get_or w (get_or M i 0) 0 ≡ G.A i
  -- classes are made of equal nodes, and the pairs E are in them
  pub held : (x y : ℕ) → Memᴰ (x, y) H.E → Together M x y
  pub sound : (i j : ℕ) → i < n → j < n → Eq M i j → Equal G F T i j
  -- the frames are parts of chains
  pub frame : (a b : ℕ) → Memᴰ (a, b) fs → Framed n M C w a b

-- some state, whose part the code needs
pub record SomeState (n k s : ℕ) (w : List ℕ) : Type 0 where
  pub G : Pile
  pub H : Done
  pub F : List ℕ
  pub T : List ℕ
  pub fs : List (ℕ × ℕ)
  pub state : State G H F T n k s fs w

abbrev pub withPair : Done → ℕ → ℕ → Done
withPair H x y = record { K = H.K; U = H.U; E = (x, y) ∷ H.E }

-- arcs that have one after them keep it
abbrev pub Grow : List ℕ → List ℕ → Type 0
Grow w w' = (j : ℕ) → j < LOADED → (get_or w (NEXT + j) 0 ≡ 0 → ⊥) → get_or w' (NEXT + j) 0 ≡ get_or w (NEXT + j) 0

-- no chain has changed, but one that went from a class to an empty one
pub record Calm (w w' : List ℕ) : Type 0 where
  pub nexts : (j : ℕ) → j < LOADED → get_or w' (NEXT + j) 0 ≡ get_or w (NEXT + j) 0
  pub firsts : (c : ℕ) → c < NODES → (get_or w c 0 ≡ 0 → ⊥) → get_or w' c 0 ≡ get_or w c 0

-- a merge of the classes of x and y; only where two chains meet does it take four entries
pub record Merged (n k s : ℕ) (w : List ℕ) (x y k' s' : ℕ) (bad : Bool) (w' : List ℕ) : Type 0 where
  pub later : Later k w k' w'
  pub new : List (ℕ × ℕ)
  pub stack : frames w' s' ≡ new ++ frames w s
  pub count : s' + tops 0 (parents n w') ≤ s + tops 0 (parents n w)
  pub grow : Grow w w'
  pub calm : k' ≤ k + 3 → (s' ≡ s) × Calm w w'
  pub under : SmallerUnder (parents n w) (parents n w')
  pub fine : bad ≡ false → (G : Pile) (H : Done) (F T : List ℕ) (fs : List (ℕ × ℕ)) → State G H F T n k s fs w →
      Equal G F T x y → State G (withPair H x y) F T n k' s' (new ++ fs) w'
  pub clash : bad ≡ true → (G : Pile) (H : Done) (F T : List ℕ) (fs : List (ℕ × ℕ)) → State G H F T n k s fs w →
      Equal G F T x y → ClashIn G F T

-- a walk along a frame's part, from x to x'
pub record FrameWalk (F T : List ℕ) (n k s : ℕ) (w : List ℕ) (x to k' s' : ℕ) (w' : List ℕ) (x' : ℕ) : Type 0 where
  pub later : Later k w k' w'
  pub new : List (ℕ × ℕ)
  pub stack : frames w' s' ≡ new ++ frames w s
  pub count : s' + tops 0 (parents n w') ≤ s + tops 0 (parents n w)
  pub go : (G : Pile) (H : Done) (fs : List (ℕ × ℕ)) → State G H F T n k s ((x, to) ∷ fs) w →
      State G H F T n k' s' ((x', to) ∷ (new ++ fs)) w'

-- a frame is being worked off
pub record Working (F T : List ℕ) (n k s x to : ℕ) (w : List ℕ) : Type 0 where
  pub G : Pile
  pub H : Done
  pub fs : List (ℕ × ℕ)
  pub state : State G H F T n k s ((x, to) ∷ fs) w

abbrev pub ClashTold : (F T : List ℕ) (n k s : ℕ) (w : List ℕ) (x to : ℕ) → Type 0
ClashTold F T n k s w x to = (G : Pile) (H : Done) (fs : List (ℕ × ℕ)) → State G H F T n k s ((x, to) ∷ fs) w → ClashIn G F T

pub record Turned (F T : List ℕ) (n k s : ℕ) (w : List ℕ) (x to k' s' : ℕ) (bad : Bool) (w' : List ℕ) : Type 0 where
  pub later : Later k w k' w'
  pub fine : bad ≡ false → FrameWalk F T n k s w x to k' s' w' (get_or w' (NEXT + (x - 1)) 0)
  pub less : bad ≡ false → hops LOADED w' to (get_or w' (NEXT + (x - 1)) 0) < hops LOADED w to x
  pub clash : bad ≡ true → ClashTold F T n k s w x to

pub record Drained (F T : List ℕ) (n k s : ℕ) (w : List ℕ) (x to k' s' : ℕ) (bad : Bool) (w' : List ℕ) : Type 0 where
  pub later : Later k w k' w'
  pub fine : bad ≡ false → FrameWalk F T n k s w x to k' s' w' to
  pub clash : bad ≡ true → ClashTold F T n k s w x to

-- a node by itself went under the other's class; or nothing moved
abbrev pub AdoptedNew : (n k s : ℕ) (w : List ℕ) (x y : ℕ) → Option ℕ → List ℕ → Type 0
AdoptedNew n k s w x y r w' = MatchOption r (w' ≡ w) (λ e. Merged n k s w x y e s false w')

-- the stack holds all that is owed
pub record Stacked (F T : List ℕ) (n k s : ℕ) (w : List ℕ) : Type 0 where
  pub G : Pile
  pub H : Done
  pub state : State G H F T n k s (frames w s) w

pub record Settled (F T : List ℕ) (n k s : ℕ) (w : List ℕ) (k' : ℕ) (bad : Bool) (w' : List ℕ) : Type 0 where
  pub later : Later k w k' w'
  pub still : s ≡ 0 → w' ≡ w
  pub fine : bad ≡ false → (G : Pile) (H : Done) → State G H F T n k s (frames w s) w → State G H F T n k' 0 [] w'
  pub clash : bad ≡ true → (G : Pile) (H : Done) → State G H F T n k s (frames w s) w → ClashIn G F T

pub record United (F T : List ℕ) (n k : ℕ) (w : List ℕ) (x y k' : ℕ) (bad : Bool) (w' : List ℕ) : Type 0 where
  pub later : Later k w k' w'
  pub calm : k' ≤ k + 3 → Calm w w'
  pub fine : bad ≡ false → (G : Pile) (H : Done) → State G H F T n k 0 [] w → Equal G F T x y →
      State G (withPair H x y) F T n k' 0 [] w'
  pub clash : bad ≡ true → (G : Pile) (H : Done) → State G H F T n k 0 [] w → Equal G F T x y → ClashIn G F T

-- ---- chains, as the code walks them
pub record Last (w : List ℕ) (x r : ℕ) : Type 0 where
  pub below : r < LOADED
  pub end : get_or w (NEXT + r) 0 ≡ 0
  pub on : (xs : List ℕ) → Chain w x xs → Memᴰ r xs

pub record Looked (F w : List ℕ) (f x r : ℕ) : Type 0 where
  pub miss : r ≡ 0 → (xs : List ℕ) → Chain w x xs → None F f xs
  pub hit : (i : ℕ) → r ≡ suc i → (xs : List ℕ) → Chain w x xs → First F f xs i

-- what is asked of a union: the two are equal
pub record Uniting (F T : List ℕ) (n k : ℕ) (w : List ℕ) (x y : ℕ) : Type 0 where
  pub G : Pile
  pub H : Done
  pub state : State G H F T n k 0 [] w
  pub same : Equal G F T x y

-- ---- one arc
abbrev pub withArc : Done → ℕ → Done
withArc H t = record { K = t ∷ H.K; U = H.U; E = H.E }

-- the arc t of the node x is pushed and has not been visited, and there is room for it
pub record Fresh (G : Pile) (H : Done) (n x t : ℕ) : Type 0 where
  pub arc : Memᴰ t G.B
  pub new : Memᴰ t H.K → ⊥
  pub is : G.S t ≡ x
  pub room : 3 * n + (2 * suc (length H.K) + length H.U) ≤ ENTRIES

pub record Coming (F T : List ℕ) (n k : ℕ) (w : List ℕ) (x t : ℕ) : Type 0 where
  pub G : Pile
  pub H : Done
  pub state : State G H F T n k 0 [] w
  pub fresh : Fresh G H n x t

pub record Visited (F T : List ℕ) (n k : ℕ) (w : List ℕ) (x t k' : ℕ) (bad : Bool) (w' : List ℕ) : Type 0 where
  pub later : Later k w k' w'
  pub fine : bad ≡ false → (G : Pile) (H : Done) → State G H F T n k 0 [] w → Fresh G H n x t →
      State G (withArc H t) F T n k' 0 [] w'
  pub clash : bad ≡ true → (G : Pile) (H : Done) → State G H F T n k 0 [] w → Fresh G H n x t → ClashIn G F T

-- ---- one atom
abbrev pub withNode : Done → ℕ → Done
withNode H x = record { K = H.K; U = x ∷ H.U; E = H.E }

pub record Bearing (G : Pile) (H : Done) (n x v : ℕ) : Type 0 where
  pub node : Memᴰ x G.N
  pub small : x < n
  pub is : G.A x ≡ v
  pub room : 3 * n + (2 * length H.K + suc (length H.U)) ≤ ENTRIES

pub record Heading (F T : List ℕ) (n k : ℕ) (w : List ℕ) (x v : ℕ) : Type 0 where
  pub G : Pile
  pub H : Done
  pub state : State G H F T n k 0 [] w
  pub bears : Bearing G H n x v

pub record Headed (F T : List ℕ) (n k : ℕ) (w : List ℕ) (x v k' : ℕ) (bad : Bool) (w' : List ℕ) : Type 0 where
  pub later : Later k w k' w'
  pub fine : bad ≡ false → (G : Pile) (H : Done) → State G H F T n k 0 [] w → Bearing G H n x v →
      State G (withNode H x) F T n k' 0 [] w'
  pub clash : bad ≡ true → (G : Pile) (H : Done) → State G H F T n k 0 [] w → Bearing G H n x v → ClashIn G F T

-- all that is pushed is done
pub record Full (G : Pile) (H : Done) : Type 0 where
  pub arcs : (q : ℕ) → Memᴰ q G.B → Memᴰ q H.K
  pub atoms : (i : ℕ) → Memᴰ i G.N → (G.A i ≡ 0 → ⊥) → Memᴰ i H.U
  pub root : ℕ
  pub roots : (x : ℕ) → Memᴰ x G.R → Memᴰ (root, x) H.E
