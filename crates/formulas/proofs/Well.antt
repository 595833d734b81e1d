-- A formula's description is well formed, nested no deeper than the formula's disjunctions.
-- Assumes nothing.
use mathlib.Core.Path.{◌≡◌, subst}
use mathlib.Core.Option.{Option, none, some}
use mathlib.Core.List.{List, [], ◌∷◌, ◌++◌}
use Prim.Native.Nat.{ℕ, zero, suc, ◌≤◌, ◌<◌}
use native.Mathlib.Omega.{arith}
use lib.ListN.{length}
use Rattle.theory.specs.Limits.{code_limit}
use Rattle.theory.specs.Net.{Node, atom, arcs, Graph}
use Rattle.theory.specs.Descr.{Desc, desc, Alts, fail, ◌or◌}
use Rattle.theory.specs.Layout.{words, WellFormed}
use Rattle.theory.specs.Modes.{Round, after}
use Rattle.theory.proofs.Instance.{AllCanonical}
use Rattle.theory.proofs.Sets.{graph_of, number, graph_in, spot_atom, spot_arc}
use Rattle.theory.proofs.Weights.{SoftNode, SoftGraph, SoftGraphs, soft_arc, soft_atom, soft_graph, soft_in, Soft, SoftAll, SoftAny}
use Rattle.theory.proofs.Weights.{weights_one, soft_well, len_is}
use Rattle.descriptions.proofs.Soft.{soft_all_up, soft_then}
use Rattle.formulas.specs.Formula.{Path, Formula, nil, top, at, same, all, any, Formulas, one, ◌also◌, PathFits, PathsFit}
use Rattle.formulas.specs.Formula.{FormulaFits, FitAll, depth, depths}
use Rattle.formulas.specs.Part.{Fact, reach, bears, share, chain, fact_graphs, whole, Definite, part_graph}
use Rattle.formulas.specs.Draft.{Draft, draft, Splits, done, ◌beside◌, Sides, out, ◌versus◌, ◌then◌, shares, facts, facts_all, splits}
use Rattle.formulas.specs.Draft.{splits_all, sides, drafted}
use Rattle.formulas.specs.Describe.{with_graph, kept_before, settle_draft, settle_all, left_of, describe}
use Rattle.formulas.proofs.Definite.{Answer, is_definite, is_clash, definite_answers}

-- features and atoms of facts are at most 65,535
abbrev FactFits : Fact → Type 0
FactFits (reach p) = PathFits p
FactFits (bears p a) = PathFits p × (a < code_limit)
FactFits (share p q) = PathFits p × PathFits q

abbrev FactsFit : List Fact → Type 0
FactsFit [] = Unit {0}
FactsFit (f ∷ F) = FactFits f × FactsFit F

-- a draft within the limits, its disjunctions nested at most n deep
abbrev mutual
  DraftFits : Draft → ℕ → Type 0
  DraftFits (draft F ds) n = FactsFit F × SplitsFit ds n

  SplitsFit : Splits → ℕ → Type 0
  SplitsFit done n = Unit {0}
  SplitsFit (a beside ds) zero = ⊥
  SplitsFit (a beside ds) (suc n) = SidesFit a n × SplitsFit ds (suc n)

  SidesFit : Sides → ℕ → Type 0
  SidesFit out n = Unit {0}
  SidesFit (d versus a) n = DraftFits d n × SidesFit a n

path_both : (p q : Path) → PathFits p → PathFits q → PathFits (p ++ q)
path_both [] q h k = k
path_both (f ∷ p) q h k = (h.0, path_both p q h.1 k)

facts_both : (F H : List Fact) → FactsFit F → FactsFit H → FactsFit (F ++ H)
facts_both [] H p q = q
facts_both (f ∷ F) H p q = (p.0, facts_both F H p.1 q)

splits_both : (n : ℕ) (ds es : Splits) → SplitsFit ds n → SplitsFit es n → SplitsFit (ds then es) n
splits_both n done es p q = q
splits_both zero (a beside ds) es p q = absurd p
splits_both (suc n) (a beside ds) es p q = (p.0, splits_both (suc n) ds es p.1 q)

shares_fit : (π p : Path) (ps : List Path) → PathFits π → PathFits p → PathsFit ps → FactsFit (shares π p ps)
shares_fit π p [] h k l = tt
shares_fit π p (q ∷ ps) h k l = ((k, path_both π q h l.0), shares_fit π p ps h k l.1)

mutual
  facts_fit : (π : Path) (φ : Formula) → PathFits π → FormulaFits φ → FactsFit (facts π φ)
  facts_fit π nil h k = tt
  facts_fit π top h k = ((h, omega arith), ((h, omega arith), tt))
  facts_fit π (Rattle.formulas.specs.Formula.atom a) h k = ((h, k), tt)
  facts_fit π (at f φ) h k = let m : PathFits (π ++ f ∷ []) = path_both π (f ∷ []) h (k.0, tt) in (m, facts_fit (π ++ f ∷ []) φ m k.1)
  facts_fit π (same p ps) h k = let m : PathFits (π ++ p) = path_both π p h k.0 in (m, shares_fit π (π ++ p) ps h m k.1)
  facts_fit π (all φ φs) h k = facts_both (facts π φ) (facts_all π φs) (facts_fit π φ h k.0) (facts_all_fit π φs h k.1)
  facts_fit π (any φ φs) h k = tt

  facts_all_fit : (π : Path) (φs : Formulas) → PathFits π → FitAll φs → FactsFit (facts_all π φs)
  facts_all_fit π (one φ) h k = facts_fit π φ h k
  facts_all_fit π (φ also φs) h k = facts_both (facts π φ) (facts_all π φs) (facts_fit π φ h k.0) (facts_all_fit π φs h k.1)

mutual
  splits_fit : (n : ℕ) (π : Path) (φ : Formula) → PathFits π → FormulaFits φ → depth φ ≤ n → SplitsFit (splits π φ) n
  splits_fit n π nil h k l = tt
  splits_fit n π top h k l = tt
  splits_fit n π (Rattle.formulas.specs.Formula.atom a) h k l = tt
  splits_fit n π (at f φ) h k l = splits_fit n (π ++ f ∷ []) φ (path_both π (f ∷ []) h (k.0, tt)) k.1 l
  splits_fit n π (same p ps) h k l = tt
  splits_fit n π (all φ φs) h k l =
      splits_both n (splits π φ) (splits_all π φs) (splits_fit n π φ h k.0 (omega arith)) (splits_all_fit n π φs h k.1 (omega arith))
  splits_fit zero π (any φ φs) h k l = absurd (omega arith)
  splits_fit (suc n) π (any φ φs) h k l =
      ((((h, facts_fit π φ h k.0), splits_fit n π φ h k.0 (omega arith)), sides_fit n π φs h k.1 (omega arith)), tt)

  splits_all_fit : (n : ℕ) (π : Path) (φs : Formulas) → PathFits π → FitAll φs → depths φs ≤ n → SplitsFit (splits_all π φs) n
  splits_all_fit n π (one φ) h k l = splits_fit n π φ h k l
  splits_all_fit n π (φ also φs) h k l =
      splits_both n (splits π φ) (splits_all π φs) (splits_fit n π φ h k.0 (omega arith)) (splits_all_fit n π φs h k.1 (omega arith))

  sides_fit : (n : ℕ) (π : Path) (φs : Formulas) → PathFits π → FitAll φs → depths φs ≤ n → SidesFit (sides π φs) n
  sides_fit n π (one φ) h k l = (((h, facts_fit π φ h k), splits_fit n π φ h k l), tt)
  sides_fit n π (φ also φs) h k l =
      (((h, facts_fit π φ h k.0), splits_fit n π φ h k.0 (omega arith)), sides_fit n π φs h k.1 (omega arith))

chain_soft : (k : ℕ) (p : Path) (v : Node) → PathFits p → SoftNode v → SoftGraph (chain k p v)
chain_soft k [] v h s = (s, tt)
chain_soft k (f ∷ p) v h s = ((h.0, tt), chain_soft (suc k) p v h.1 s)

graphs_soft : (F : List Fact) (gs : List Graph) → FactsFit F → SoftGraphs gs → SoftGraphs (fact_graphs F gs)
graphs_soft [] gs p s = s
graphs_soft (reach p ∷ F) gs h s = (chain_soft 0 p (arcs []) h.0 tt, graphs_soft F gs h.1 s)
graphs_soft (bears p a ∷ F) gs h s = (chain_soft 0 p (atom a) h.0.0 h.0.1, graphs_soft F gs h.1 s)
graphs_soft (share p q ∷ F) gs h s =
    (chain_soft 0 p (arcs []) h.0.0 tt, (chain_soft 0 q (arcs []) h.0.1 tt, graphs_soft F gs h.1 s))

definite_soft : (F : List Fact) (gs : List Graph) → FactsFit F → SoftGraphs gs → (G : Graph) → Definite F gs G → SoftGraph G
definite_soft F gs p s G j =
    let ws : List Graph = whole F gs in
    let q : SoftGraphs ws = ((tt, tt), graphs_soft F gs p s) in
    soft_graph G
    (λ n f t i. let (x, y, d, e, u) = j.arc_from n f t i in
    soft_arc (graph_of ws x) (soft_in ws q (graph_of ws x) (graph_in ws x)) (number ws x) f (number ws y) (spot_arc ws x f y u).1)
    (λ n a e. let (x, d, u) = j.atom_from n a e in
    soft_atom (graph_of ws x) (soft_in ws q (graph_of ws x) (graph_in ws x)) (number ws x) a (spot_atom ws x a u))

abbrev Softly : ℕ → Option Desc → Type 0
Softly n none = Unit {0}
Softly n (some d) = Soft 2 d n

abbrev RoundSoft : ℕ → Option Round → Type 0
RoundSoft n none = Unit {0}
RoundSoft n (some r) = AllCanonical r.folded × SoftGraphs r.folded × SoftAll 2 r.left n

after_soft : (n : ℕ) (a : Alts) (r : Round) → SoftAny 2 a n → RoundSoft (suc n) (some r) → RoundSoft (suc n) (after a r)
after_soft n fail r p R = tt
after_soft n (desc g ds or fail) r p R =
    ((p.0.0, R.0), (p.0.1, R.1), soft_then weights_one 2 ds r.left (suc n) (soft_all_up weights_one 2 ds n p.0.2) R.2)
after_soft n (d or (e or a)) r p R = (R.0, R.1, (omega arith, p, R.2))

graph_soft : (n : ℕ) (F : List Fact) (r : Round) → FactsFit F → RoundSoft n (some r) →
    Softly n (with_graph r.left (part_graph F r.folded))
graph_soft n F r p R = go (part_graph F r.folded) (definite_answers F r.folded R.0)
  where
    go : (o : Option Graph) → Answer F r.folded R.0 o → Softly n (with_graph r.left o)
    go none (is_clash k) = tt
    go (some g) (is_definite G j) = (j.canonical, definite_soft F r.folded p R.1 G j, R.2)

before_soft : (n : ℕ) (o : Option Desc) (a : Alts) → Softly n o → SoftAny 2 a n → SoftAny 2 (kept_before o a) n
before_soft n none a p q = q
before_soft n (some d) a p q = (p, q)

mutual
  unfolding settle_draft

  settle_soft : (d : Draft) (n : ℕ) → DraftFits d n → Softly n (settle_draft d)
  settle_soft (draft F ds) n p = go (settle_all ds) (settle_all_soft ds n p.1)
    where
      go : (o : Option Round) → RoundSoft n o → Softly n (elim o [ none ↦ none | some r ↦ with_graph r.left (part_graph F r.folded) ])
      go none R = tt
      go (some r) R = graph_soft n F r p.0 R

  settle_all_soft : (ds : Splits) (n : ℕ) → SplitsFit ds n → RoundSoft n (settle_all ds)
  settle_all_soft done n p = (tt, tt, tt)
  settle_all_soft (a beside ds) zero p = absurd p
  settle_all_soft (a beside ds) (suc n) p = go (settle_all ds) (settle_all_soft ds (suc n) p.1) (left_soft a n p.0)
    where
      go : (o : Option Round) → RoundSoft (suc n) o → SoftAny 2 (left_of a) n →
          RoundSoft (suc n) (elim o [ none ↦ none | some r ↦ after (left_of a) r ])
      go none R s = tt
      go (some r) R s = after_soft n (left_of a) r s R

  left_soft : (a : Sides) (n : ℕ) → SidesFit a n → SoftAny 2 (left_of a) n
  left_soft out n p = tt
  left_soft (d versus a) n p = before_soft n (settle_draft d) (left_of a) (settle_soft d n p.0) (left_soft a n p.1)

-- within the limits, but for the number of arcs of a node
pub describe_soft : (φ : Formula) (d : Desc) (n : ℕ) → FormulaFits φ → depth φ ≤ n → describe φ ≡ some d → Soft 2 d n
describe_soft φ d n p l e = subst (Softly n) e (settle_soft (drafted φ) n (facts_fit [] φ tt p, splits_fit n [] φ tt p l))

-- which fewer than 65,536 words bound
pub describe_well : (φ : Formula) (d : Desc) (n : ℕ) → FormulaFits φ → depth φ ≤ n → describe φ ≡ some d → length (words d) < code_limit →
    WellFormed d n
describe_well φ d n p l e h = soft_well d n (describe_soft φ d n p l e) (let k = len_is d in omega (arith, k))
