-- The words of a well formed description break no rule, and lead to the end.
-- Assumes nothing.
use mathlib.Core.Path.{◌≡◌, refl, ap, sym, subst}
use mathlib.Core.Option.{none}
use mathlib.Core.List.{List, [], ◌∷◌, ◌++◌}
use Prim.Native.Nat.{ℕ, zero, suc, ◌+◌, ◌-◌, ◌<◌, ◌≤◌, max}
use native.Mathlib.Omega.{arith}
use lib.ListN.{length}
use lib.Dec.{ltb, leb, eqb}
use borrow.Author.Tests.{le-ltb, lt-leb, ne_eqb}
use Rattle.theory.specs.Limits.{code_limit, depth_limit}
use Rattle.theory.specs.Net.{Node, atom, arcs, Graph, arcsOf, Rising, InOrder, met, Numbered}
use Rattle.theory.specs.Descr.{Desc, desc, Disjs, end, ◌and◌, Alts, fail, ◌or◌, disjs, alts}
use Rattle.theory.specs.Layout.{arc_words, node_words, nodes_words, words, disjs_words, alts_words, ArcsFit, NodeFits, GraphFits}
use Rattle.theory.specs.Layout.{WellFormed, WellAll, WellAny}
use Rattle.roles.specs.Faults.{Role, Nesting, Expected, expect, breaks, next_node, next_arc, completed}
use Rattle.roles.specs.Faults.{no_nodes, not_met, bad_head, bad_feature, bad_target, few_alternatives, too_deep}
use Rattle.roles.specs.Faults.{node_count, node_head, disjunction_count}
use Rattle.roles.specs.Faults.{disjunctions_from, expected_after}
use Rattle.faults.proofs.Rules.{unbroken, opened, followed, atom_after, arcs_after, node_after, graph_after}
use Rattle.faults.proofs.Run.{Goes}

abbrev W : Type 0
W = List ℕ

goes_on : (e f g : Expected) (u v : W) → Goes e u f → Goes f v g → Goes e (u ++ v) g
goes_on e f g [] v p q = subst (λ (x : Expected). Goes x v g) (sym p) q
goes_on e f g (w ∷ u) v p q = (p.0, goes_on (expected_after e w) f g u v p.1 q)

-- arcs meet nodes, and at the end every node is met
met_more : (m : ℕ) (l : List (ℕ × ℕ)) → m ≤ met m l
met_more m [] = omega arith
met_more m (p ∷ l) = let h = met_more (max m (suc p.1)) l in omega (arith, h)

met_few : (k m : ℕ) (g : Graph) → Numbered k m g → m ≤ k + length g
met_few k m [] c = omega (arith, c)
met_few k m (v ∷ vs) c =
    let h = met_few (suc k) (met m (arcsOf v)) vs c.3 in let l = met_more m (arcsOf v) in omega (arith, h, l)

arcs_go : (n i m b : ℕ) (l : List (ℕ × ℕ)) (s : Nesting) → Rising b l → InOrder m l → ArcsFit l → met m l ≤ n →
    Goes (expect (next_arc n i m (length l) b) s) (arc_words l) (expect (next_node n i (met m l)) s)
arcs_go n i m b [] s r o a h = refl
arcs_go n i m b (p ∷ l) s r o a h =
    let low = met_more (max m (suc p.1)) l in (
      unbroken (ltb p.0 b) bad_feature _ (le-ltb p.0 b r.0) (unbroken (leb code_limit p.0) bad_feature none
          (lt-leb code_limit p.0 a.0) refl),
      (
        unbroken (ltb m p.1) (bad_target p.1) _ (le-ltb m p.1 o.0) (unbroken (leb n p.1) (bad_target p.1) none
            (lt-leb n p.1 (omega (arith, low, h))) refl),
        arcs_go n i (max m (suc p.1)) (suc p.0) l s r.1 o.1 a.1 h,
      ),
    )

head_stands : (n i m w : ℕ) (s : Nesting) → i < m → w < code_limit + code_limit → breaks (expect (node_head n i m) s) w ≡ none
head_stands n i m w s l h = unbroken (leb m i) not_met _ (lt-leb m i l) (unbroken (leb (code_limit + code_limit) w) (bad_head w) none
    (lt-leb (code_limit + code_limit) w h) refl)

node_goes : (n i m : ℕ) (v : Node) (s : Nesting) → i < m → Rising 0 (arcsOf v) → InOrder m (arcsOf v) → NodeFits v →
    met m (arcsOf v) ≤ n → Goes (expect (node_head n i m) s) (node_words v) (expect (next_node n i (met m (arcsOf v))) s)
node_goes n i m (atom a) s l r o f h = (
  head_stands n i m (code_limit + a) s l (omega arith),
  ap (λ (x : Role). expect x s) (atom_after n i m (code_limit + a) (omega arith)),
)
node_goes n i m (arcs a) s l r o f h = (
  head_stands n i m (length a) s l (omega (arith, f.0)),
  subst (λ (x : Role). Goes (expect x s) (arc_words a) (expect (next_node n i (met m a)) s)) (sym (arcs_after n i m (length a) f.0))
      (arcs_go n i m 0 a s r o f.1 h),
)

nodes_go : (n i m : ℕ) (vs : Graph) (s : Nesting) → Numbered (suc i) m vs → GraphFits vs → suc i + length vs ≡ n →
    Goes (expect (next_node n i m) s) (nodes_words vs) (expect disjunction_count s)
nodes_go n i m [] s c f e = ap (λ (x : Role). expect x s) (graph_after n i m (omega arith))
nodes_go n i m (v ∷ vs) s c f e =
    let few = met_few (suc (suc i)) (met m (arcsOf v)) vs c.3 in
    let e' : suc (suc i) + length vs ≡ n = omega arith in
    subst (λ (x : Role). Goes (expect x s) (node_words v ++ nodes_words vs) (expect disjunction_count s))
    (sym (node_after n i m (omega arith)))
    (goes_on (expect (node_head n (suc i) m) s) (expect (next_node n (suc i) (met m (arcsOf v))) s) (expect disjunction_count s)
    (node_words v) (nodes_words vs)
    (node_goes n (suc i) m v s c.0 c.1 c.2 f.0 (omega (arith, few, e)))
    (nodes_go n (suc i) (met m (arcsOf v)) vs s c.3 f.1 e'))

graph_goes : (g : Graph) (s : Nesting) → Numbered 0 1 g → GraphFits g →
    Goes (expect node_count s) (length g ∷ nodes_words g) (expect disjunction_count s)
graph_goes [] s c f = absurd (omega (arith, c))
graph_goes (v ∷ vs) s c f =
    let few = met_few 1 (met 1 (arcsOf v)) vs c.3 in (
      unbroken (eqb (suc (length vs)) 0) no_nodes none (ne_eqb (suc (length vs)) 0 (λ z. omega arith)) refl,
      goes_on (expect (node_head (suc (length vs)) 0 1) s) (expect (next_node (suc (length vs)) 0 (met 1 (arcsOf v))) s)
          (expect disjunction_count s) (node_words v) (nodes_words vs)
          (node_goes (suc (length vs)) 0 1 v s c.0 c.1 c.2 f.0 (omega (arith, few)))
          (nodes_go (suc (length vs)) 0 (met 1 (arcsOf v)) vs s c.3 f.1 (omega arith)),
    )

shallow : (s : Nesting) (d : ℕ) → length s < depth_limit → breaks (expect disjunction_count s) d ≡ none
shallow s zero h = refl
shallow s (suc d) h = unbroken (leb depth_limit (length s)) too_deep none (lt-leb depth_limit (length s) h) refl

-- over the alternatives of one disjunction, to what follows it
between : (a : Alts) (d : ℕ) (s : Nesting) → 2 ≤ alts a → Goes (completed ((alts a, d) ∷ s)) (alts_words a) (completed ((0, d) ∷ s)) →
    Goes (expect node_count ((alts a - 1, d) ∷ s)) (alts_words a) (disjunctions_from d s)
between a d s h g =
    subst (λ (x : Expected). Goes x (alts_words a) (disjunctions_from d s)) (sym (opened (alts a) d s (omega arith)))
    (subst (λ (x : Expected). Goes (completed ((alts a, d) ∷ s)) (alts_words a) x) (followed d s) g)

mutual
  pub desc_goes : (d : Desc) (n : ℕ) (s : Nesting) → WellFormed d n → n + length s ≡ depth_limit →
      Goes (expect node_count s) (words d) (completed s)
  desc_goes (desc g ds) n s f e =
      goes_on (expect node_count s) (expect disjunction_count s) (completed s) (length g ∷ nodes_words g) (disjs ds ∷ disjs_words ds)
      (graph_goes g s f.0 f.1) (count_goes ds n s f.2 e, all_go ds n s f.2 e)

  count_goes : (ds : Disjs) (n : ℕ) (s : Nesting) → WellAll ds n → n + length s ≡ depth_limit →
      breaks (expect disjunction_count s) (disjs ds) ≡ none
  count_goes end n s f e = refl
  count_goes (a and ds) zero s f e = absurd f
  count_goes (a and ds) (suc n) s f e = shallow s (suc (disjs ds)) (omega arith)

  all_go : (ds : Disjs) (n : ℕ) (s : Nesting) → WellAll ds n → n + length s ≡ depth_limit →
      Goes (disjunctions_from (disjs ds) s) (disjs_words ds) (completed s)
  all_go end n s f e = refl
  all_go (a and ds) zero s f e = absurd f
  all_go (a and ds) (suc n) s f e = (
    unbroken (ltb (alts a) 2) few_alternatives none (le-ltb (alts a) 2 f.0) refl,
    goes_on (expect node_count ((alts a - 1, disjs ds) ∷ s)) (disjunctions_from (disjs ds) s) (completed s) (alts_words a) (disjs_words ds)
        (between a (disjs ds) s f.0 (any_go a (disjs ds) n s f.1 (omega arith))) (all_go ds (suc n) s f.2 e),
  )

  any_go : (a : Alts) (d n : ℕ) (s : Nesting) → WellAny a n → n + suc (length s) ≡ depth_limit →
      Goes (completed ((alts a, d) ∷ s)) (alts_words a) (completed ((0, d) ∷ s))
  any_go fail d n s f e = refl
  any_go (b or a) d n s f e =
      goes_on (expect node_count ((alts a, d) ∷ s)) (completed ((alts a, d) ∷ s)) (completed ((0, d) ∷ s)) (words b) (alts_words a)
      (desc_goes b n ((alts a, d) ∷ s) f.0 e) (any_go a d n s f.1 e)
