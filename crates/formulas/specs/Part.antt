-- The graph of a definite part: what its facts, and the graphs folded into it, join to.
-- Assumes nothing: these are definitions.
use Rattle.std.specs.Prelude.{◌≡◌, ◌⊎◌, List, [], ◌∷◌, ◌++◌, ℕ, suc, ◌+◌, length}
use Rattle.std.proofs.Common.{inl, inr}
use Rattle.std.proofs.Math.Option.{Option}
use Rattle.theory.specs.Net.{Node, atom, arcs, Graph, Net, beside, roots, ClashOf, JoinedOf}
use Rattle.theory.specs.Join.{Rule, seed_rules, edge_rules, labels, edges, atom_list, root_seeds, join_with}
use Rattle.formulas.specs.Formula.{Path}

-- a fact, its paths "expanded to the root": there is a node at the end of the path; it bears the atom; two paths end in one node
pub data Fact : Type 0 where
  reach : Path → Fact
  bears : Path → ℕ → Fact
  share : Path → Path → Fact

-- the graph of a path: a node for each step, from number k on, and v at its end
abbrev pub chain : ℕ → Path → Node → Graph
chain k [] v = v ∷ []
chain k (f ∷ p) v = arcs ((f, suc k) ∷ []) ∷ chain (suc k) p v

-- a path whose end says nothing
abbrev pub bare : Path → Graph
bare p = chain 0 p (arcs [])

-- "a definite graph joins what its own part gives and nothing else": the paths of its facts, and after them the graphs gs of what is folded
-- into it
abbrev pub fact_graphs : List Fact → List Graph → List Graph
fact_graphs [] gs = gs
fact_graphs (reach p ∷ F) gs = bare p ∷ fact_graphs F gs
fact_graphs (bears p a ∷ F) gs = chain 0 p (atom a) ∷ fact_graphs F gs
fact_graphs (share p q ∷ F) gs = bare p ∷ bare q ∷ fact_graphs F gs

-- the ends of two shared paths
abbrev pub EndsShared : (F : List Fact) (gs : List Graph) → (beside (fact_graphs F gs)).Spot → (beside (fact_graphs F gs)).Spot → Type 0
EndsShared [] gs x y = ⊥
EndsShared (reach p ∷ F) gs (inl x) y = ⊥
EndsShared (reach p ∷ F) gs (inr x) (inl y) = ⊥
EndsShared (reach p ∷ F) gs (inr x) (inr y) = EndsShared F gs x y
EndsShared (bears p a ∷ F) gs (inl x) y = ⊥
EndsShared (bears p a ∷ F) gs (inr x) (inl y) = ⊥
EndsShared (bears p a ∷ F) gs (inr x) (inr y) = EndsShared F gs x y
EndsShared (share p q ∷ F) gs (inl x) (inl y) = ⊥
EndsShared (share p q ∷ F) gs (inl x) (inr (inl y)) = (x.0 ≡ length p) × (y.0 ≡ length q)
EndsShared (share p q ∷ F) gs (inl x) (inr (inr y)) = ⊥
EndsShared (share p q ∷ F) gs (inr (inl x)) y = ⊥
EndsShared (share p q ∷ F) gs (inr (inr x)) (inl y) = ⊥
EndsShared (share p q ∷ F) gs (inr (inr x)) (inr (inl y)) = ⊥
EndsShared (share p q ∷ F) gs (inr (inr x)) (inr (inr y)) = EndsShared F gs x y

-- all side by side, after a root that says nothing
abbrev pub whole : List Fact → List Graph → List Graph
whole F gs = (arcs [] ∷ []) ∷ fact_graphs F gs

abbrev pub part : List Fact → List Graph → Net
part F gs = beside (whole F gs)

-- joined as document 01 joins, where "all roots are equal", and here the ends of shared paths too
abbrev pub Shared : (F : List Fact) (gs : List Graph) → (part F gs).Spot → (part F gs).Spot → Type 0
Shared F gs (inl x) y = ⊥
Shared F gs (inr x) (inl y) = ⊥
Shared F gs (inr x) (inr y) = EndsShared F gs x y

abbrev pub seeds : (F : List Fact) (gs : List Graph) → (part F gs).Spot → (part F gs).Spot → Type 0
seeds F gs x y = roots (part F gs) x y ⊎ Shared F gs x y

abbrev pub PartClashes : List Fact → List Graph → Type 0
PartClashes F gs = ClashOf (part F gs) (seeds F gs)

abbrev pub Definite : List Fact → List Graph → Graph → Type 0
Definite F gs G = JoinedOf (part F gs) (seeds F gs) G

-- the same as a program, so that cases compute: `definite_iff` and `clashes_iff` tie it to the above. The numbers of shared ends, the first
-- node of these graphs being number o
abbrev pub shared_ends : ℕ → List Fact → List (ℕ × ℕ)
shared_ends o [] = []
shared_ends o (reach p ∷ F) = shared_ends (o + length (bare p)) F
shared_ends o (bears p a ∷ F) = shared_ends (o + length (chain 0 p (atom a))) F
shared_ends o (share p q ∷ F) = (o + length p, o + length (bare p) + length q) ∷ shared_ends (o + length (bare p) + length (bare q)) F

abbrev pub part_rules : List Fact → List Graph → List Rule
part_rules F gs = let es = edges 0 (whole F gs) in seed_rules (root_seeds 0 (whole F gs) ++ shared_ends 1 F) ++ edge_rules es es

unfoldable pub part_graph : List Fact → List Graph → Option Graph
part_graph F gs = let lab = labels (part_rules F gs) in join_with lab (atom_list 0 (whole F gs)) (edges 0 (whole F gs))
