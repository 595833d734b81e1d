-- What is told of the arcs of a root and the leaves that they lead to, by the words of the area. Assumes nothing: these are definitions.
use Rattle.std.specs.Prelude.{◌≡◌, ◌⊎◌, ◌≢◌, List, ℕ, ◌+◌, ◌*◌, ◌≤◌, ◌<◌, get_or}
use Rattle.theory.specs.Limits.{code_limit}
use Rattle.area.specs.Region.{loaded_words}
use Rattle.loading.specs.Entry.{Entry}
use Rattle.forest.specs.Held.{ChainCode}
use Rattle.forest.specs.State.{targets, Chain, First}
use Rattle.classes.specs.Holds.{Holds, Labelled, class}
use Rattle.sieving.specs.Sieved.{OfRoots}
use Rattle.trying.specs.declared.told.Guess.{Guess}
use Rattle.trying.specs.declared.told.Guess.TheVariants.{Agrees, Clashes}

-- some graphs are pushed, and the chain of the class of all roots begins with the code x
pub record Anchored (n : ℕ) (w : List ℕ) (x : ℕ) : Type 0 where
  pub labelled : Labelled n w
  pub some : 0 < n
  pub c : ℕ
  pub root : OfRoots n w c
  pub is : x ≡ get_or w c 0
  pub low : ChainCode x

-- ---- an atom under a feature of the roots
-- the first arc with the feature f on the chain of the class of all roots is q
abbrev pub Under : {n : ℕ} {es : List Entry} {k : ℕ} {w : List ℕ} → Holds n es k w → ℕ → ℕ → Type 0
Under {n} {es} {k} {w} h f q = (xs : List ℕ) → Chain w (get_or w (class h 0) 0) xs → First (loaded_words w) f xs q

-- what the class holds that the arc q leads to
abbrev pub target_code : {n : ℕ} {es : List Entry} {k : ℕ} {w : List ℕ} → Holds n es k w → ℕ → ℕ
target_code {n} {es} {k} {w} h q = get_or w (class h (get_or (targets w) q 0)) 0

-- where the roots have an arc with the feature f, its target bears the atom whose head is v
abbrev pub Suitable : ℕ → List ℕ → ℕ → ℕ → Type 0
Suitable n w f v = (es : List Entry) (k : ℕ) (h : Holds n es k w) (q : ℕ) → Under h f q → target_code h q ≡ v

-- the roots have an arc with the feature f, and its target holds something else
abbrev pub Foul : ℕ → List ℕ → ℕ → ℕ → Type 0
Foul n w f v = (es : List Entry) (k : ℕ) (h : Holds n es k w) → (q : ℕ)
    × (Under h f q × ((target_code h q ≢ v) × (target_code h q ≢ 0)))

pub record Suits (n : ℕ) (w : List ℕ) (f v : ℕ) (r : Guess) : Type 0 where
  pub agrees : r ≡ Agrees → Suitable n w f v
  pub clashes : r ≡ Clashes → Foul n w f v

-- ---- the arcs of the root of the graph at g, whose number is b: d arcs, and then d heads
abbrev pub feature : List ℕ → ℕ → ℕ → ℕ
feature w g i = get_or (loaded_words w) (g + 2 + 2 * i) 0

abbrev pub leaf_head : List ℕ → ℕ → ℕ → ℕ → ℕ
leaf_head w g d i = get_or (loaded_words w) (g + 2 + 2 * d + i) 0

-- the arc i leads to the leaf i
abbrev pub Next : List ℕ → ℕ → ℕ → ℕ → Type 0
Next w g b i = get_or (targets w) (g + 2 + 2 * i) 0 ≡ b + 1 + i

-- which says nothing, or what the roots say
pub record Leaf (n : ℕ) (w : List ℕ) (g b d i : ℕ) : Type 0 where
  pub next : Next w g b i
  pub says : (leaf_head w g d i ≡ 0) ⊎ ((code_limit ≤ leaf_head w g d i) × Suitable n w (feature w g i) (leaf_head w g d i))

-- or something else
pub record Torn (n : ℕ) (w : List ℕ) (g b d i : ℕ) : Type 0 where
  pub next : Next w g b i
  pub atom : code_limit ≤ leaf_head w g d i
  pub foul : Foul n w (feature w g i) (leaf_head w g d i)

pub record LeafTold (n : ℕ) (w : List ℕ) (g b d i : ℕ) (r : Guess) : Type 0 where
  pub agrees : r ≡ Agrees → Leaf n w g b d i
  pub clashes : r ≡ Clashes → Torn n w g b d i

-- the first i arcs
abbrev pub FirstLeaves : ℕ → List ℕ → ℕ → ℕ → ℕ → ℕ → Type 0
FirstLeaves n w g b d i = (j : ℕ) → j < i → Leaf n w g b d j

pub record LeavesTold (n : ℕ) (w : List ℕ) (g b d : ℕ) (r : Guess) : Type 0 where
  pub agrees : r ≡ Agrees → FirstLeaves n w g b d d
  pub clashes : r ≡ Clashes → (i : ℕ) × ((i < d) × (FirstLeaves n w g b d i × Torn n w g b d i))
