-- Where a part of the words ends, by its counts alone: nothing is judged, and words that run out end at their length.
-- Assumes nothing: these are definitions.
use Rattle.std.specs.Prelude.{ℕ, zero, suc, ◌+◌, List, length, ltb, leb}
use Rattle.theory.specs.Limits.{code_limit, depth_limit}
use Rattle.graphs.specs.Graph.{pick, word}

-- k things one after the other, each from where the one before ends
unfoldable pub ends : List ℕ → (ℕ → ℕ) → ℕ → ℕ → ℕ
ends ws f zero p = p
ends ws f (suc k) p = pick (ltb p (length ws)) (ends ws f k (f p)) (length ws)

-- q, where it is within the words
abbrev pub within : List ℕ → ℕ → ℕ
within ws q = pick (leb q (length ws)) q (length ws)

unfoldable pub nodeEnd : List ℕ → ℕ → ℕ
nodeEnd ws p = word ws p (length ws) (λ h q. pick (ltb h code_limit) (within ws (q + (h + h))) q)

unfoldable pub graphEnd : List ℕ → ℕ → ℕ
graphEnd ws p = word ws p (length ws) (λ n q. ends ws (nodeEnd ws) n q)

-- a graph and its disjunctions
unfoldable pub descriptionEndOf : (ℕ → ℕ) → List ℕ → ℕ → ℕ
descriptionEndOf disjunction ws p = word ws (graphEnd ws p) (length ws) (λ k r. ends ws disjunction k r)

-- a disjunction under which alternatives nest at most `left` deep
unfoldable pub disjunctionEnd : ℕ → List ℕ → ℕ → ℕ
disjunctionEnd zero ws p = length ws
disjunctionEnd (suc left) ws p = word ws p (length ws) (λ m q. ends ws (descriptionEndOf (disjunctionEnd left ws) ws) m q)

-- a description under which alternatives nest at most `left` deep
unfoldable pub nestedEnd : ℕ → List ℕ → ℕ → ℕ
nestedEnd left ws p = descriptionEndOf (disjunctionEnd left ws) ws p

-- a description of any depth that the layout allows
abbrev pub descriptionEnd : List ℕ → ℕ → ℕ
descriptionEnd ws p = nestedEnd depth_limit ws p
