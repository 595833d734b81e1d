-- An area whose classes are the nodes of a graph. Assumes nothing.
use Rattle.std.specs.Prelude.{◌≡◌, ℕ, suc, ◌+◌, ◌≤◌, ◌<◌, length, get_or}
use mathlib.Core.List.{List, Memᴰ}
use Rattle.theory.specs.Limits.{code_limit}
use Rattle.theory.specs.Net.{Graph, atom, arcs, nodeAt}
use Rattle.area.specs.Map.{LOG, STACK, SIZE, LOADED, TARGETS, NODES, ENTRIES}
use Rattle.area.specs.Region.{loaded_words}
use Rattle.forest.specs.Forest.{parents, Shape, Root}
use Rattle.forest.specs.Held.{ChainCode}
use Rattle.forest.specs.State.{targets, Chain}

-- the chain from x has the arcs l, whose features are from low on, and else only arcs below low: ord lists the classes of the nodes,
-- lab has the class of each number
pub record Fan (n : ℕ) (w : List ℕ) (lab : ℕ → ℕ) (ord : List ℕ) (x low : ℕ) (l : List (ℕ × ℕ)) : Type 0 where
  pub chain : List ℕ
  pub linked : Chain w x chain
  pub short : length chain ≤ LOADED
  pub inside : (q : ℕ) → Memᴰ q chain → (q < TARGETS) × (get_or (targets w) q 0 < n)
  pub from : (q : ℕ) → Memᴰ q chain → low ≤ get_or (loaded_words w) q 0
      → (t : ℕ) × (Memᴰ (get_or (loaded_words w) q 0, t) l
      × ((t < length ord) × (lab (get_or (targets w) q 0) ≡ get_or ord t 0)))
  pub to : (f t : ℕ) → Memᴰ (f, t) l → (q : ℕ) × (Memᴰ q chain × (get_or (loaded_words w) q 0 ≡ f))

-- "Without a clash the classes form the joined graph.": the classes of w are the nodes of G; ord lists them in the order of their
-- numbers, lab has the class of each number below n
pub record Classes (n k : ℕ) (w : List ℕ) (G : Graph) (lab : ℕ → ℕ) (ord : List ℕ) : Type 0 where
  pub long : SIZE ≤ length w
  pub below : n ≤ NODES
  pub shape : Shape (parents n w)
  pub label : (x r : ℕ) → x < n → Root n w x r → r ≡ lab x
  pub many : length ord ≡ length G
  pub room : k + length ord ≤ ENTRIES
  pub own : (i j : ℕ) → i < length ord → j < length ord → get_or ord i 0 ≡ get_or ord j 0 → i ≡ j
  pub low : (i : ℕ) → i < length ord → get_or ord i 0 < n
  pub some : 0 < length ord
  pub first : lab 0 ≡ get_or ord 0 0
  pub atoms : (i a : ℕ) → i < length ord → nodeAt G i ≡ atom a → get_or w (get_or ord i 0) 0 ≡ code_limit + a
  pub fans : (i : ℕ) (l : List (ℕ × ℕ)) → i < length ord → nodeAt G i ≡ arcs l →
      ChainCode (get_or w (get_or ord i 0) 0) × Fan n w lab ord (get_or w (get_or ord i 0) 0) 0 l

-- "Numbering is by first arrival": the first m classes of ord have their numbers
pub record Met (k m : ℕ) (ord w : List ℕ) : Type 0 where
  pub few : m ≤ length ord
  pub new : (i : ℕ) → m ≤ i → i < length ord → get_or w (STACK + get_or ord i 0) 0 ≡ 0
  pub old : (i : ℕ) → i < m → get_or w (STACK + get_or ord i 0) 0 ≡ suc i
  pub order : (i : ℕ) → i < m → get_or w (LOG + k + i) 0 ≡ get_or ord i 0
