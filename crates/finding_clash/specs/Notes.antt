-- What is noted of a class while the heads of its nodes pass by.
-- Assumes nothing: these are definitions.
use Rattle.std.specs.Prelude.{◌≡◌, ◌⊎◌, true, false, List, ℕ, suc, ◌+◌, ◌-◌, ◌≤◌, ◌<◌, length, get_or, ltb}
use Rattle.theory.specs.Limits.{code_limit}
use Rattle.area.specs.Map.{NODES, MARKS, STACK, SIZE}
use Rattle.forest.specs.Forest.{parents, Shape, Root}

-- "a class holds two different atoms, or an atom and an arc": two of the first k nodes, whose labels are L and whose heads are H
pub data Conflict (L H : ℕ → ℕ) (k c : ℕ) : Type 0 where
  two_heads : (i j : ℕ) → i < k → j < k → L i ≡ c → L j ≡ c → code_limit ≤ H i → code_limit ≤ H j →
      (H i ≡ H j → ⊥) → Conflict L H k c
  head_and_arcs : (i j : ℕ) → i < k → j < k → L i ≡ c → L j ≡ c → code_limit ≤ H i →
      0 < H j → H j < code_limit → Conflict L H k c

-- the note v of the class c says what the first k nodes bear: nothing, arcs, one atom, or a clash
pub data ClassNote (L H : ℕ → ℕ) (k c v : ℕ) : Type 0 where
  bears_nothing : v ≡ 0 → ((i : ℕ) → i < k → L i ≡ c → H i ≡ 0) → ClassNote L H k c v
  bears_arcs : v ≡ 1 → ((i : ℕ) → i < k → L i ≡ c → H i < code_limit) →
      (j : ℕ) → j < k → L j ≡ c → 0 < H j → H j < code_limit → ClassNote L H k c v
  bears_head : code_limit ≤ v → ((i : ℕ) → i < k → L i ≡ c → (H i ≡ 0) ⊎ (H i ≡ v)) →
      (j : ℕ) → j < k → L j ≡ c → H j ≡ v → ClassNote L H k c v
  bears_clash : v ≡ 2 → Conflict L H k c → ClassNote L H k c v

-- the note v becomes r where the head h comes
pub record Mixes (v h r : ℕ) : Type 0 where
  pub is : (L H : ℕ → ℕ) (k c : ℕ) → L k ≡ c → H k ≡ h → ClassNote L H k c v → ClassNote L H (suc k) c r

-- the number by which the engine knows node i, where the first graph has c nodes, and node 0 of the second has the number b
abbrev pub engine_number : ℕ → ℕ → ℕ → ℕ
engine_number c b i = elim (ltb i c) [ true ↦ i | false ↦ b + (i - c) ]

-- the classes of w are the labels lab of the n numbers
pub record ClassLabels (n : ℕ) (w : List ℕ) (lab : ℕ → ℕ) : Type 0 where
  pub shape : Shape (parents n w)
  pub label : (x r : ℕ) → x < n → Root n w x r → r ≡ lab x
  pub low : (x : ℕ) → x < n → lab x < n

-- the labels of the nodes of two graphs
abbrev pub labels_of : (ℕ → ℕ) → ℕ → ℕ → ℕ → ℕ
labels_of lab c b i = lab (engine_number c b i)

-- each class has its note from STACK on
abbrev pub NotesOf : ℕ → (ℕ → ℕ) → (ℕ → ℕ) → ℕ → List ℕ → Type 0
NotesOf n L H k w = (x : ℕ) → x < n → ClassNote L H k x (get_or w (STACK + x) 0)

-- no more than the notes of n classes has changed
pub record NotesOnly (n : ℕ) (w w' : List ℕ) : Type 0 where
  pub len : length w' ≡ length w
  pub rest : (j : ℕ) → (j < STACK) ⊎ (STACK + n ≤ j) → get_or w' j 0 ≡ get_or w j 0

-- what notes ask: there are n numbers and m nodes, and classes
pub record NotesAsked (n c b m : ℕ) (w : List ℕ) : Type 0 where
  pub long : SIZE ≤ length w
  pub below : n ≤ NODES
  pub few : m ≤ NODES
  pub inside : (i : ℕ) → i < m → engine_number c b i < n
  pub lab : ℕ → ℕ
  pub labels : ClassLabels n w lab

-- the head of node i is noted
pub record NotesOne (n c b i : ℕ) (w w' : List ℕ) : Type 0 where
  pub only : NotesOnly n w w'
  pub told : (lab H : ℕ → ℕ) → ClassLabels n w lab → get_or w (MARKS + i) 0 ≡ H i →
      NotesOf n (labels_of lab c b) H i w → NotesOf n (labels_of lab c b) H (suc i) w'

-- the heads of all m nodes are
pub record NotesAll (n c b m : ℕ) (w w' : List ℕ) : Type 0 where
  pub only : NotesOnly n w w'
  pub told : (lab H : ℕ → ℕ) → ClassLabels n w lab → ((i : ℕ) → i < m → get_or w (MARKS + i) 0 ≡ H i) →
      NotesOf n (labels_of lab c b) H m w'

-- r is the first of m numbers where f is 2, or m
pub record FirstClash (f : ℕ → ℕ) (m r : ℕ) : Type 0 where
  pub low : r ≤ m
  pub before : (j : ℕ) → j < r → f j ≡ 2 → ⊥
  pub here : r < m → f r ≡ 2

pub record ClashSought (n c b m : ℕ) (w : List ℕ) (r : ℕ) : Type 0 where
  pub is : (lab : ℕ → ℕ) → ClassLabels n w lab → FirstClash (λ i. get_or w (STACK + labels_of lab c b i) 0) m r
