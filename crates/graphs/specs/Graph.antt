-- What reading the words of a graph at a position finds: the grammar of document 01's section "Word layout", as a function of the
-- words and the position.
-- Assumes nothing: these are definitions.
use Rattle.std.specs.Prelude.{ℕ, zero, suc, ◌+◌, ◌-◌, List, Bool, true, false, length, get_or, ltb, leb, Option, Some, None}
use Rattle.theory.specs.Limits.{code_limit}
use Rattle.graphs.specs.declared.graph.Walk.{Walk}

-- a choice by a test
abbrev pub pick : {A : Type 0} → Bool → A → A → A
pick true a b = a
pick false a b = b

-- a word is there: go on with the word and the position after it
abbrev pub word : {A : Type 0} → List ℕ → ℕ → A → (ℕ → ℕ → A) → A
word ws p bad f = pick (ltb p (length ws)) (f (get_or ws p 0) (p + 1)) bad

-- go on with what was found, where something was
abbrev pub onward : {A B : Type 0} → Option A → (A → Option B) → Option B
onward (Some x) f = f x
onward None f = None

-- a node was read: the position after it and the number of nodes met
abbrev pub went : ℕ → ℕ → Option Walk
went q met = Some (record { next = q; met = met })

-- "feature 0..65,535", "Features rise strictly within a node": here from low on. "a target is either a number already met or the next
-- unused one (0 counts as met), and below the node count" n
unfoldable pub readArc : ℕ → ℕ → ℕ → ℕ → ℕ → Option ℕ
readArc n low met f t =
    pick (leb low f) (pick (ltb f code_limit)
    (pick (ltb t met) (Some met) (pick (leb t met) (pick (ltb t n) (Some (t + 1)) None) None)) None) None

-- k arcs whose words are there
unfoldable pub arcsFrom : List ℕ → ℕ → ℕ → ℕ → ℕ → ℕ → Option Walk
arcsFrom ws n zero low met p = went p met
arcsFrom ws n (suc k) low met p =
    onward (readArc n low met (get_or ws p 0) (get_or ws (p + 1) 0)) (λ after. arcsFrom ws n k (get_or ws p 0 + 1) after (p + 2))

-- "An arc is two words": the k arcs of a node
unfoldable pub readArcs : List ℕ → ℕ → ℕ → ℕ → ℕ → Option Walk
readArcs ws n k met p = pick (leb (p + (k + k)) (length ws)) (arcsFrom ws n k 0 met p) None

-- "each node has been met before its own head is read". "Head 0..65,535 is the number of arcs; head 65,536..131,071 is the atom
-- numbered head - 65,536, with no arcs": node i
unfoldable pub read_node : List ℕ → ℕ → ℕ → ℕ → ℕ → Option Walk
read_node ws n i met p =
    pick (ltb i met) (word ws p None
    (λ h q. pick (ltb h code_limit) (readArcs ws n h met q) (pick (ltb (h - code_limit) code_limit) (went q met) None))) None

-- k nodes from node i on
unfoldable pub readNodes : List ℕ → ℕ → ℕ → ℕ → ℕ → ℕ → Option ℕ
readNodes ws n zero i met p = Some p
readNodes ws n (suc k) i met p = onward (read_node ws n i met p) (λ w. readNodes ws n k (i + 1) w.met w.next)

-- "graph: node count (at least 1), then each node in order"
unfoldable pub readGraph : List ℕ → ℕ → Option ℕ
readGraph ws p = word ws p None (λ n q. pick (leb 1 n) (readNodes ws n n 0 1 q) None)
