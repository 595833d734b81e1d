-- Words that break no rule and lead to the end are those of a well formed description.
-- Assumes nothing.
use mathlib.Core.Path.{◌≡◌, refl, ap, ap₂, sym, ◌∙◌, subst}
use mathlib.Core.Bool.{Bool, true, false}
use mathlib.Core.Option.{none}
use mathlib.Core.List.{List, [], ◌∷◌, ◌++◌, append_assoc, append-nil}
use Prim.Native.Nat.{ℕ, zero, suc, ◌+◌, ◌-◌, ◌<◌, ◌≤◌, max}
use native.Mathlib.Omega.{arith}
use lib.ListN.{length}
use lib.Dec.{ltb, leb}
use borrow.Author.Tests.{ltb-true, ltb-false, leb-false}
use Rattle.theory.specs.Limits.{code_limit, depth_limit}
use Rattle.theory.specs.Net.{atom, arcs, Graph, Rising, InOrder, met, Numbered}
use Rattle.theory.specs.Descr.{Desc, desc, Disjs, end, ◌and◌, Alts, fail, ◌or◌, disjs, alts}
use Rattle.theory.specs.Layout.{arc_words, nodes_words, words, disjs_words, alts_words, ArcsFit, GraphFits}
use Rattle.theory.specs.Layout.{WellFormed, WellAll, WellAny}
use Rattle.theory.specs.LayoutOne.{Image}
use Rattle.roles.specs.Faults.{Role, Nesting, Expected, expect, role, breaks, next_node, next_arc, after_head, completed}
use Rattle.roles.specs.Faults.{node_count, node_head, arc_feature, arc_target, disjunction_count, alternative_count, the_end}
use Rattle.roles.specs.Faults.{disjunctions_from, expected_after, words_left_over}
use Rattle.faults.proofs.Rules.{kept_first, kept_others, head_met, feature_small, alternatives_two, target_low, target_inside}
use Rattle.faults.proofs.Rules.{bounded_after}
use Rattle.faults.proofs.Run.{Goes, start}
use Rattle.faults.specs.Coded.{Bounded}
use Rattle.descriptions.proofs.Tests.{none_is}

abbrev W : Type 0
W = List ℕ

-- what may stand, and then words as K has them: a description, with alternatives nested at most n deep
record DescThen (n : ℕ) (K : W → Type 0) (ws : W) : Type 0 where
  the_desc : Desc
  rest : W
  well : WellFormed the_desc n
  is : ws ≡ words the_desc ++ rest
  then : K rest

-- the number of disjunctions, and these
record DisjsThen (n : ℕ) (K : W → Type 0) (ws : W) : Type 0 where
  all : Disjs
  rest : W
  well : WellAll all n
  is : ws ≡ disjs all ∷ (disjs_words all ++ rest)
  then : K rest

-- a disjunction, and d others
record DisjThen (n d : ℕ) (K : W → Type 0) (ws : W) : Type 0 where
  first : Alts
  others : Disjs
  rest : W
  count : disjs others ≡ d
  well : WellAll (first and others) n
  is : ws ≡ disjs_words (first and others) ++ rest
  then : K rest

-- what follows an open alternative: alternatives, and disjunctions
record AltsThen (n : ℕ) (x : ℕ × ℕ) (K : W → Type 0) (ws : W) : Type 0 where
  any : Alts
  others : Disjs
  rest : W
  any_count : alts any ≡ x.0
  count : disjs others ≡ x.1
  any_well : WellAny any n
  well : WellAll others (suc n)
  is : ws ≡ alts_words any ++ (disjs_words others ++ rest)
  then : K rest

abbrev Closing : ℕ → Nesting → W → Type 0
Closing n [] ws = ws ≡ []
Closing n (x ∷ s) ws = AltsThen n x (Closing (suc n) s) ws

-- the nodes of n from i on, where m are met
record NodesThen (n i m : ℕ) (K : W → Type 0) (ws : W) : Type 0 where
  nodes : Graph
  rest : W
  count : i + length nodes ≡ n
  numbered : Numbered i m nodes
  fits : GraphFits nodes
  is : ws ≡ nodes_words nodes ++ rest
  then : K rest

-- k arcs of node i, and the nodes after it
record ArcsThen (n i m k b : ℕ) (K : W → Type 0) (ws : W) : Type 0 where
  list : List (ℕ × ℕ)
  rest : W
  count : length list ≡ k
  rising : Rising b list
  in_order : InOrder m list
  fits : ArcsFit list
  is : ws ≡ arc_words list ++ rest
  then : NodesThen n (suc i) (met m list) K rest

record TargetThen (n i m k b : ℕ) (K : W → Type 0) (ws : W) : Type 0 where
  the_target : ℕ
  rest : W
  low : the_target ≤ m
  is : ws ≡ the_target ∷ rest
  then : ArcsThen n i (max m (suc the_target)) k b K rest

-- what may stand from a role on
abbrev Rests : Role → ℕ → Nesting → W → Type 0
Rests node_count n s = DescThen n (Closing n s)
Rests (node_head c i m) n s = NodesThen c i m (DisjsThen n (Closing n s))
Rests (arc_feature c i m k b) n s = ArcsThen c i m (suc k) b (DisjsThen n (Closing n s))
Rests (arc_target c i m k b) n s = TargetThen c i m k b (DisjsThen n (Closing n s))
Rests disjunction_count n s = DisjsThen n (Closing n s)
Rests (alternative_count d) n s = DisjThen n d (Closing n s)
Rests the_end n s = λ ws. ws ≡ []

abbrev Stands : Expected → W → Type 0
Stands (expect r s) ws = (n : ℕ) → n + length s ≡ depth_limit → Rests r n s ws

-- an alternative more, where others follow
alternative_more : (n a d : ℕ) (K : W → Type 0) (ws : W) → DescThen n (AltsThen n (a, d) K) ws → AltsThen n (suc a, d) K ws
alternative_more n a d K ws x = let y = x.then in record {
  any = x.the_desc or y.any;
  others = y.others;
  rest = y.rest;
  any_count = ap suc y.any_count;
  count = y.count;
  any_well = (x.well, y.any_well);
  well = y.well;
  is = x.is ∙ ap (λ (z : W). words x.the_desc ++ z) y.is
      ∙ sym (append_assoc (words x.the_desc) (alts_words y.any) (disjs_words y.others ++ y.rest));
  then = y.then;
}

-- a description is complete
completed_stands : (s : Nesting) (ws : W) → Stands (completed s) ws → (n : ℕ) → n + length s ≡ depth_limit → Closing n s ws
completed_stands [] ws f n e = f n e
completed_stands ((suc a, d) ∷ s) ws f n e = alternative_more n a d (Closing (suc n) s) ws (f n e)
completed_stands ((zero, suc d) ∷ s) ws f n e = let y = f (suc n) (omega arith) in record {
  any = fail;
  others = y.first and y.others;
  rest = y.rest;
  any_count = refl;
  count = ap suc y.count;
  any_well = tt;
  well = y.well;
  is = y.is;
  then = y.then;
}
completed_stands ((zero, zero) ∷ s) ws f n e = record {
  any = fail;
  others = end;
  rest = ws;
  any_count = refl;
  count = refl;
  any_well = tt;
  well = tt;
  is = refl;
  then = completed_stands s ws f (suc n) (omega arith);
}

disjunctions_stand : (w : ℕ) (s : Nesting) (ws : W) → Stands (disjunctions_from w s) ws → Stands (expect disjunction_count s) (w ∷ ws)
disjunctions_stand zero s ws f n e =
    record { all = end; rest = ws; well = tt; is = refl; then = completed_stands s ws f n e }
disjunctions_stand (suc w) s ws f n e = let y = f n e in record {
  all = y.first and y.others;
  rest = y.rest;
  well = y.well;
  is = ap₂ {C = W} ◌∷◌ (ap suc (sym y.count)) y.is;
  then = y.then;
}

-- a disjunction of w alternatives, where others follow
disjunction_more : (n w d : ℕ) (K : W → Type 0) (ws : W) → 2 ≤ w → (y : AltsThen n (suc (w - 1), d) K ws) → alts y.any ≡ w →
    DisjThen (suc n) d K (w ∷ ws)
disjunction_more n w d K ws two y c = record {
  first = y.any;
  others = y.others;
  rest = y.rest;
  count = y.count;
  well = (omega (arith, c, two), y.any_well, y.well);
  is = ap₂ {C = W} ◌∷◌ (sym c) y.is
      ∙ sym (append_assoc (alts y.any ∷ alts_words y.any) (disjs_words y.others) y.rest);
  then = y.then;
}

alternatives_stand : (w d : ℕ) (s : Nesting) (ws : W) → 2 ≤ w → length s < depth_limit → Stands (expect node_count ((w - 1, d) ∷ s)) ws →
    Stands (expect (alternative_count d) s) (w ∷ ws)
alternatives_stand w d s ws two l f zero e = absurd (omega arith)
alternatives_stand w d s ws two l f (suc n) e =
    let y = alternative_more n (w - 1) d (Closing (suc n) s) ws (f n (omega arith)) in
    disjunction_more n w d (Closing (suc n) s) ws two y (y.any_count ∙ omega arith)

-- the next node, or the graph's end
node_stands : (n i m l : ℕ) (s : Nesting) (ws : W) → i < n → m ≤ n → i < m → Rests (next_node n i m) l s ws →
    NodesThen n (suc i) m (DisjsThen l (Closing l s)) ws
node_stands n i m l s ws a b c = go (ltb (suc i) n) refl
  where
    go : (t : Bool) → ltb (suc i) n ≡ t → Rests (elim t [ true ↦ node_head n (suc i) m | false ↦ disjunction_count ]) l s ws →
        NodesThen n (suc i) m (DisjsThen l (Closing l s)) ws
    go true e x = x
    go false e x = let h = ltb-false (suc i) n e in record {
      nodes = [];
      rest = ws;
      count = omega (arith, h, a);
      numbered = omega (arith, h, a, b, c);
      fits = tt;
      is = refl;
      then = x;
    }

arc_stands : (n i m k b l : ℕ) (s : Nesting) (ws : W) → i < n → m ≤ n → i < m → Rests (next_arc n i m k b) l s ws →
    ArcsThen n i m k b (DisjsThen l (Closing l s)) ws
arc_stands n i m zero b l s ws x y z r = record {
  list = [];
  rest = ws;
  count = refl;
  rising = tt;
  in_order = tt;
  fits = tt;
  is = refl;
  then = node_stands n i m l s ws x y z r;
}
arc_stands n i m (suc k) b l s ws x y z r = r

head_stands : (n i m w l : ℕ) (s : Nesting) (ws : W) → i < n → m ≤ n → i < m → w < code_limit + code_limit →
    Rests (after_head n i m w) l s ws → NodesThen n i m (DisjsThen l (Closing l s)) (w ∷ ws)
head_stands n i m w l s ws a b c h = go (ltb w code_limit) refl
  where
    go : (t : Bool) → ltb w code_limit ≡ t → Rests (elim t [ true ↦ next_arc n i m w 0 | false ↦ next_node n i m ]) l s ws →
        NodesThen n i m (DisjsThen l (Closing l s)) (w ∷ ws)
    go true e x =
        let y = arc_stands n i m w 0 l s ws a b c x in
        let z = y.then in
        let small = ltb-true w code_limit e in
        let more = z.count in record {
          nodes = arcs y.list ∷ z.nodes;
          rest = z.rest;
          count = omega (arith, more);
          numbered = (c, y.rising, y.in_order, z.numbered);
          fits = ((subst (λ (q : ℕ). q < code_limit) (sym y.count) small, y.fits), z.fits);
          is = ap₂ {C = W} ◌∷◌ (sym y.count) (y.is ∙ ap (λ (v : W). arc_words y.list ++ v) z.is)
              ∙ sym (append_assoc (length y.list ∷ arc_words y.list) (nodes_words z.nodes) z.rest);
          then = z.then;
        }
    go false e x =
        let z = node_stands n i m l s ws a b c x in
        let large = ltb-false w code_limit e in
        let more = z.count in
        let k : w ≡ code_limit + (w - code_limit) = omega (arith, large) in record {
          nodes = atom (w - code_limit) ∷ z.nodes;
          rest = z.rest;
          count = omega (arith, more);
          numbered = (c, tt, tt, z.numbered);
          fits = (omega (arith, large, h), z.fits);
          is = ap₂ {C = W} ◌∷◌ k z.is;
          then = z.then;
        }

-- a word more
one_more : (e : Expected) (w : ℕ) (ws : W) → Bounded e → breaks e w ≡ none → Stands (expected_after e w) ws → Stands e (w ∷ ws)
one_more (expect node_count s) w ws h b f = λ n e.
    let y = f n e in
    let z = y.then in
    let count = y.count in
    let k : w ≡ length y.nodes = omega (arith, count) in record {
      the_desc = desc y.nodes z.all;
      rest = z.rest;
      well = (y.numbered, y.fits, z.well);
      is = ap₂ {C = W} ◌∷◌ k (y.is ∙ ap (λ (v : W). nodes_words y.nodes ++ v) z.is)
          ∙ sym (append_assoc (length y.nodes ∷ nodes_words y.nodes) (disjs z.all ∷ disjs_words z.all) z.rest);
      then = z.then;
    }
one_more (expect (node_head c i m) s) w ws h b f = λ n e.
    head_stands c i m w n s ws h.1 h.2 (head_met m i w c s b)
    (leb-false (code_limit + code_limit) w (kept_first (leb (code_limit + code_limit) w) _ _ (kept_others (leb m i) _ _ b))) (f n e)
one_more (expect (arc_feature c i m k low) s) w ws h b f = λ n e.
    let y = f n e in
    let z = y.then in record {
      list = (w, y.the_target) ∷ z.list;
      rest = z.rest;
      count = ap suc z.count;
      rising = (ltb-false w low (kept_first (ltb w low) _ _ b), z.rising);
      in_order = (y.low, z.in_order);
      fits = (feature_small c i m k low w s b, z.fits);
      is = ap (λ (v : W). w ∷ v) (y.is ∙ ap (λ (v : W). y.the_target ∷ v) z.is);
      then = z.then;
    }
one_more (expect (arc_target c i m k g) s) w ws h b f = λ n e.
    let l = target_inside c i m k g w s b in record {
      the_target = w;
      rest = ws;
      low = target_low c i m k g w s b;
      is = refl;
      then = arc_stands c i (max m (suc w)) k g n s ws h.1 (omega (arith, l, h.2)) (omega (arith, h.3)) (f n e);
    }
one_more (expect disjunction_count s) w ws h b f = λ n e.
    disjunctions_stand w s ws f n e
one_more (expect (alternative_count d) s) w ws h b f = λ n e.
    alternatives_stand w d s ws (alternatives_two d w s b) h f n e
one_more (expect the_end s) w ws h b f = λ n e.
    absurd (none_is words_left_over (sym b))

ended_stands : (e : Expected) → role e ≡ the_end → Stands e []
ended_stands (expect r s) h = λ n e. subst (λ (x : Role). Rests x n s []) (sym h) refl

all_stand : (e r : Expected) (ws : W) → Bounded e → role r ≡ the_end → Goes e ws r → Stands e ws
all_stand e r [] h k g = subst (λ (x : Expected). Stands x []) (sym g) (ended_stands r k)
all_stand e r (w ∷ ws) h k g =
    one_more e w ws h g.0 (all_stand (expected_after e w) r ws (bounded_after e w h g.0) k g.1)

-- words that lead to the end are a description
pub ends_image : (ws : W) (r : Expected) → role r ≡ the_end → Goes start ws r → Image ws
ends_image ws r h g =
    let y = all_stand start r ws (omega arith) h g 4 refl in
    (y.the_desc, y.well, y.is ∙ ap (λ (v : W). words y.the_desc ++ v) y.then ∙ append-nil (words y.the_desc))
