-- The laws of the parents in the area, and of a link of two roots. Assumes nothing.
use mathlib.Core.Path.{◌≡◌, sym, ap, ◌∙◌}
use mathlib.Core.List.{List, map}
use mathlib.Core.Logic.{◌⊎◌, inl}
use Prim.Native.Nat.{ℕ, ◌+◌, ◌%◌, ◌≤◌, ◌<◌}
use native.Mathlib.Omega.{arith}
use native.Mathlib.Decide.{ℕ_discrete}
use lib.ListN.{length, set, get_or, length-map, length-set, get_or-map}
use lib.Seq.{ext_get_or, get_or-set_same, get_or-set_other}
use Rattle.area.specs.Map.{PARENT, LOG, STACK, SIZE}
use Rattle.area.specs.Region.{region}
use Rattle.area.specs.Log.{Stores}
use Rattle.area.proofs.Region.{length_region, getD_region, region_ext}
use Rattle.area.proofs.Undo.{later_trans, put_at, put_off}
use Rattle.forest.specs.Forest.{parents, parent_of, size_of, root_word, Root}
use Rattle.forest.specs.Roots.{Linking, Linked}

pub length_parents : (n : ℕ) (w : List ℕ) → PARENT + n ≤ length w → length (parents n w) ≡ n
unfolding parents
length_parents n w h = length-map (region PARENT n w) parent_of ∙ length_region PARENT n w h

pub getD_parents : (n : ℕ) (w : List ℕ) (j : ℕ) → j < n → get_or (parents n w) j 0 ≡ get_or w (PARENT + j) 0 % 1024
unfolding parents
getD_parents n w j h = get_or-map parent_of (region PARENT n w) j 0 ∙ ap parent_of (getD_region PARENT n w j h)

-- two areas with the same words for the nodes
pub parents_ext : (n : ℕ) (u w : List ℕ) → PARENT + n ≤ length u → length u ≡ length w →
    ((j : ℕ) → j < n → get_or u (PARENT + j) 0 ≡ get_or w (PARENT + j) 0) → parents n u ≡ parents n w
unfolding parents
parents_ext n u w h e f = ap (map parent_of) (region_ext PARENT n u w h e f)

-- the same parents have the same roots
pub root_on : (n : ℕ) (u w : List ℕ) (i r : ℕ) → parents n u ≡ parents n w → Root n u i r → Root n w i r
root_on n u w i r e t = record { low = t.low; top = rw e at t.top; is = λ L f. t.is L (rw e f) }

-- ---- the stores of a link
module _ (n k : ℕ) (w : List ℕ) (a b : ℕ) (hn : n ≤ 1024) (hw : SIZE ≤ length w) (g : Linking n k w a b) (v : ℕ)
    (ev : v ≡ root_word a (size_of (get_or w (PARENT + a) 0) + size_of (get_or w (PARENT + b) 0))) (r t : ℕ) (w1 w2 : List ℕ)
    (p : Stores k w (PARENT + b) a r w1) (q : Stores r w1 (PARENT + a) v t w2) where
  off : (j : ℕ) → (j ≡ PARENT + a → ⊥) → (j ≡ PARENT + b → ⊥) → (j < LOG) ⊎ (STACK ≤ j) → get_or w2 j 0 ≡ get_or w j 0
  off j x y c =
      let l = g.room in let e = p.next in
      put_off r w1 (PARENT + a) v t w2 q (omega arith) j x c ∙ put_off k w (PARENT + b) a r w1 p (omega arith) j y c

  at_a : get_or w2 (PARENT + a) 0 ≡ v
  at_a = let l = g.low in put_at r w1 (PARENT + a) v t w2 q (omega arith) (omega (arith, p.later.len))

  at_b : get_or w2 (PARENT + b) 0 ≡ a
  at_b =
      let l = g.low in let d = g.room in let e = p.next in
      put_off r w1 (PARENT + a) v t w2 q (omega arith) (PARENT + b) (λ e. g.other (omega arith)) (inl (omega arith))
      ∙ put_at k w (PARENT + b) a r w1 p (omega arith) (omega arith)

  len : length w2 ≡ length w
  len = q.later.len ∙ p.later.len

  parent_at : (j : ℕ) → j < n → get_or (parents n w2) j 0 ≡ get_or (set (parents n w) b a) j 0
  parent_at j h = go (ℕ_discrete j b) (ℕ_discrete j a)
    where
      go : Dec (j ≡ b) → Dec (j ≡ a) → get_or (parents n w2) j 0 ≡ get_or (set (parents n w) b a) j 0
      go (yes e) d =
          let l = length_parents n w (omega arith) in
          let lo = g.low in
          let z : get_or (parents n w2) b 0 ≡ a = let o = getD_parents n w2 b (omega arith) in omega (arith, at_b) in
          rw (e, z) (sym (get_or-set_same (parents n w) b a 0 (omega arith)))
      go (no x) (yes e) =
          let lo = g.low in
          let z : get_or (parents n w2) a 0 ≡ a = let o = getD_parents n w2 a (omega arith) in omega (arith, at_a) in
          rw (e, z) (sym (get_or-set_other (parents n w) b a a 0 g.other ∙ g.own))
      go (no x) (no y) =
          getD_parents n w2 j h
          ∙ ap (λ (v : ℕ). v % 1024) (off (PARENT + j) (λ e. y (omega arith)) (λ e. x (omega arith)) (inl (omega arith)))
          ∙ sym (getD_parents n w j h) ∙ sym (get_or-set_other (parents n w) b j a 0 x)

  pub linked : Linked n k w a b t w2
  linked = record {
    next = let x = p.next in let y = q.next in omega arith;
    later = later_trans k w r w1 t w2 p.later q.later;
    par =
        let l = length_parents n w (omega arith) in
        let l2 = length_parents n w2 (omega (arith, len)) in
        let l3 = length-set (parents n w) b a in
        ext_get_or 0 (parents n w2) (set (parents n w) b a) (omega arith) (λ j h. parent_at j (omega arith));
    sum = let lo = g.low in omega (arith, at_a);
    rest = off;
  }
