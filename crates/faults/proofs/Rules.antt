-- What a rule that is kept says, and what is so at every word.
-- Assumes nothing.
use mathlib.Core.Path.{◌≡◌, refl, ap, sym}
use mathlib.Core.Bool.{Bool, true, false}
use mathlib.Core.Option.{Option, none}
use mathlib.Core.List.{[], ◌∷◌}
use Prim.Native.Nat.{ℕ, zero, suc, ◌<◌, ◌≤◌, max, ◌-◌}
use native.Mathlib.Omega.{arith}
use lib.ListN.{length}
use lib.Dec.{ltb, leb, eqb}
use borrow.Author.Tests.{ltb-true, ltb-false, leb-false, eqb-false, le-ltb, lt-ltb}
use Rattle.theory.specs.Limits.{code_limit, depth_limit}
use Rattle.roles.specs.Faults.{Cause, Role, Nesting, Expected, expect, broken_if, breaks, next_node, next_arc, after_head, completed}
use Rattle.roles.specs.Faults.{node_count, node_head, arc_feature, arc_target, disjunction_count, alternative_count, the_end}
use Rattle.roles.specs.Faults.{disjunctions_from, expected_after}
use Rattle.faults.specs.Coded.{Bounded}
use Rattle.descriptions.proofs.Tests.{none_is}

-- no test breaks a rule
pub unbroken : (t : Bool) (c : Cause) (o : Option Cause) → t ≡ false → o ≡ none → broken_if t c o ≡ none
unbroken true c o e f = let z : ◌≡◌ {A = ℕ} 0 1 = cc in absurd (omega arith)
unbroken false c o e f = f

pub kept_first : (t : Bool) (c : Cause) (o : Option Cause) → broken_if t c o ≡ none → t ≡ false
kept_first true c o e = absurd (none_is c (sym e))
kept_first false c o e = refl

pub kept_others : (t : Bool) (c : Cause) (o : Option Cause) → broken_if t c o ≡ none → o ≡ none
kept_others true c o e = absurd (none_is c (sym e))
kept_others false c o e = e

-- what a word that breaks no rule says
pub head_met : (m i w : ℕ) (n : ℕ) (s : Nesting) → breaks (expect (node_head n i m) s) w ≡ none → i < m
head_met m i w n s e = leb-false m i (kept_first (leb m i) _ _ e)

pub feature_small : (n i m k b w : ℕ) (s : Nesting) → breaks (expect (arc_feature n i m k b) s) w ≡ none → w < code_limit
feature_small n i m k b w s e = leb-false code_limit w (kept_first (leb code_limit w) _ _ (kept_others (ltb w b) _ _ e))

pub alternatives_two : (d w : ℕ) (s : Nesting) → breaks (expect (alternative_count d) s) w ≡ none → 2 ≤ w
alternatives_two d w s e = ltb-false w 2 (kept_first (ltb w 2) _ _ e)

pub target_low : (n i m k b w : ℕ) (s : Nesting) → breaks (expect (arc_target n i m k b) s) w ≡ none → w ≤ m
target_low n i m k b w s e = ltb-false m w (kept_first (ltb m w) _ _ e)

pub target_inside : (n i m k b w : ℕ) (s : Nesting) → breaks (expect (arc_target n i m k b) s) w ≡ none → w < n
target_inside n i m k b w s e = leb-false n w (kept_first (leb n w) _ _ (kept_others (ltb m w) _ _ e))

node_bounded : (n i m : ℕ) (s : Nesting) → length s ≤ depth_limit → m ≤ n → Bounded (expect (next_node n i m) s)
node_bounded n i m s d l = go (ltb (suc i) n) refl
  where
    go : (t : Bool) → ltb (suc i) n ≡ t → Bounded (expect (elim t [ true ↦ node_head n (suc i) m | false ↦ disjunction_count ]) s)
    go true e = (d, ltb-true (suc i) n e, l)
    go false e = d

arc_bounded : (n i m k b : ℕ) (s : Nesting) → length s ≤ depth_limit → i < n → m ≤ n → i < m → Bounded (expect (next_arc n i m k b) s)
arc_bounded n i m zero b s d h l j = node_bounded n i m s d l
arc_bounded n i m (suc k) b s d h l j = (d, h, l, j)

head_bounded : (n i m w : ℕ) (s : Nesting) → length s ≤ depth_limit → i < n → m ≤ n → i < m → Bounded (expect (after_head n i m w) s)
head_bounded n i m w s d h l j = go (ltb w code_limit)
  where
    go : (t : Bool) → Bounded (expect (elim t [ true ↦ next_arc n i m w 0 | false ↦ next_node n i m ]) s)
    go true = arc_bounded n i m w 0 s d h l j
    go false = node_bounded n i m s d l

completed_bounded : (s : Nesting) → length s ≤ depth_limit → Bounded (completed s)
completed_bounded [] d = d
completed_bounded ((suc a, x) ∷ s) d = d
completed_bounded ((zero, suc x) ∷ s) d = d
completed_bounded ((zero, zero) ∷ s) d = completed_bounded s (omega arith)

disjunctions_bounded : (w : ℕ) (s : Nesting) → length s ≤ depth_limit → breaks (expect disjunction_count s) w ≡ none →
    Bounded (disjunctions_from w s)
disjunctions_bounded zero s d e = completed_bounded s d
disjunctions_bounded (suc w) s d e = leb-false depth_limit (length s) (kept_first (leb depth_limit (length s)) _ _ e)

pub bounded_after : (e : Expected) (w : ℕ) → Bounded e → breaks e w ≡ none → Bounded (expected_after e w)
bounded_after (expect node_count s) w h e =
    let z = eqb-false w 0 (kept_first (eqb w 0) _ _ e) in (h, positive w z, positive w z)
  where
    positive : (w : ℕ) → ¬ (w ≡ 0) → 0 < w
    positive zero z = absurd (z refl)
    positive (suc w) z = omega arith
bounded_after (expect (node_head n i m) s) w h e = head_bounded n i m w s h.0 h.1 h.2 (head_met m i w n s e)
bounded_after (expect (arc_feature n i m k b) s) w h e = h
bounded_after (expect (arc_target n i m k b) s) w h e =
    let l = target_inside n i m k b w s e in
    arc_bounded n i (max m (suc w)) k b s h.0 h.1 (omega (arith, l, h.2)) (omega (arith, h.3))
bounded_after (expect disjunction_count s) w h e = disjunctions_bounded w s h e
bounded_after (expect (alternative_count d) s) w h e = h
bounded_after (expect the_end s) w h e = h

-- what a test leads to
pub atom_after : (n i m w : ℕ) → code_limit ≤ w → after_head n i m w ≡ next_node n i m
atom_after n i m w h =
    ap {B = Role} (λ (t : Bool). elim t [ true ↦ next_arc n i m w 0 | false ↦ next_node n i m ]) (le-ltb w code_limit h)

pub arcs_after : (n i m w : ℕ) → w < code_limit → after_head n i m w ≡ next_arc n i m w 0
arcs_after n i m w h =
    ap {B = Role} (λ (t : Bool). elim t [ true ↦ next_arc n i m w 0 | false ↦ next_node n i m ]) (lt-ltb w code_limit h)

pub node_after : (n i m : ℕ) → suc i < n → next_node n i m ≡ node_head n (suc i) m
node_after n i m h =
    ap {B = Role} (λ (t : Bool). elim t [ true ↦ node_head n (suc i) m | false ↦ disjunction_count ]) (lt-ltb (suc i) n h)

pub graph_after : (n i m : ℕ) → n ≤ suc i → next_node n i m ≡ disjunction_count
graph_after n i m h =
    ap {B = Role} (λ (t : Bool). elim t [ true ↦ node_head n (suc i) m | false ↦ disjunction_count ]) (le-ltb (suc i) n h)

-- the first of several alternatives, and what follows the last one
pub opened : (a d : ℕ) (s : Nesting) → 0 < a → expect node_count ((a - 1, d) ∷ s) ≡ completed ((a, d) ∷ s)
opened zero d s h = absurd (omega arith)
opened (suc a) d s h = ap (λ (x : ℕ). expect node_count ((x, d) ∷ s)) (omega arith)

pub followed : (d : ℕ) (s : Nesting) → completed ((0, d) ∷ s) ≡ disjunctions_from d s
followed zero s = refl
followed (suc d) s = refl
