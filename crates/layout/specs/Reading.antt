-- What reading words at a position finds: the grammar of document 01's section "Word layout", as a function of the words and the position.
-- Assumes nothing: these are definitions.
use Rattle.std.specs.Prelude.{ℕ, zero, suc, List, leb, Option, Some, None}
use Rattle.graphs.specs.Graph.{pick, word, onward, readGraph}

-- k things one after the other
unfoldable pub times : (ℕ → Option ℕ) → ℕ → ℕ → Option ℕ
times f zero p = Some p
times f (suc k) p = onward (f p) (times f k)

-- "each disjunction: number of alternatives (at least 2), then each alternative as a description"
unfoldable pub disjunctionOf : (ℕ → Option ℕ) → List ℕ → ℕ → Option ℕ
disjunctionOf alternative ws p = word ws p None (λ m q. pick (leb 2 m) (times alternative m q) None)

-- a graph, "then the number of disjunctions, and each disjunction"
unfoldable pub descriptionOf : (ℕ → Option ℕ) → List ℕ → ℕ → Option ℕ
descriptionOf disjunction ws p = onward (readGraph ws p) (λ q. word ws q None (λ k r. times disjunction k r))

-- "reading goes back and forth between the two, down to that depth": a disjunction under which alternatives nest at most `left` deep,
-- so its own take one of them
unfoldable pub readDisjunction : ℕ → List ℕ → ℕ → Option ℕ
readDisjunction zero ws p = None
readDisjunction (suc left) ws p = disjunctionOf (descriptionOf (readDisjunction left ws) ws) ws p

-- a description under which alternatives nest at most `left` deep
unfoldable pub readDescription : ℕ → List ℕ → ℕ → Option ℕ
readDescription left ws p = descriptionOf (readDisjunction left ws) ws p
