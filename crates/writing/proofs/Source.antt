-- The classes of the pushed graphs are the nodes of their joined graph. Assumes nothing.
use mathlib.Core.Path.{◌≡◌, refl, sym, ap, ◌∙◌, subst}
use mathlib.Core.Logic.{◌⊎◌, inl, inr}
use mathlib.Core.Bool.{Bool, true, false}
use mathlib.Core.List.Memᴰ
use mathlib.Core.List.{List, [], ◌∷◌, map, Memᴰ}
use Prim.Native.Nat.{ℕ, zero, suc, ◌+◌, ◌≤◌, ◌<◌}
use native.Mathlib.Omega.{arith}
use native.Mathlib.Decide.{dec_lt}
use lib.Dec.{eqb}
use lib.ListN.{length, get_or, length-map}
use Rattle.theory.specs.Limits.{code_limit}
use Rattle.theory.specs.Net.{atom, arcs, Graph, nodeAt, arcsOf, Joined}
use Rattle.descriptions.proofs.Tests.{Test, differ, test}
use Rattle.theory.proofs.Meaning.{joined_root}
use Rattle.theory.proofs.Weight.{distinct_length, range, range_length}
use Rattle.descriptions.proofs.Tests.{Distinct}
use Rattle.area.specs.Region.{loaded_words}
use Rattle.loading.specs.Entry.{Entry, graphs}
use Rattle.forest.specs.Labels.{by_test}
use Rattle.forest.specs.Forest.{parents, tops}
use Rattle.forest.specs.Held.{last_arc, ChainCode, AtomCode}
use Rattle.classes.specs.Entry.{Spots, spot_number}
use Rattle.classes.specs.Holds.{Holds, class}
use Rattle.classes.proofs.Content.{Content}
use Rattle.forest.proofs.Links.{first_mem, first_feature}
use Rattle.forest.proofs.Wood.{label_root}
use Rattle.forest.proofs.Parents.{length_parents}
use Rattle.classes.proofs.Writer.{holds_room, spot_low, class_low, class_top, class_root, same_class, class_same, content}
use Rattle.writing.specs.Classes.{Fan, Classes}

-- ---- lists
ranged : (f : ℕ → ℕ) (a d i : ℕ) → i < d → get_or (map f (range a d)) i 0 ≡ f (a + i)
ranged f a zero i h = absurd (omega arith)
ranged f a (suc d) zero h = ap f (omega arith)
ranged f a (suc d) (suc i) h = let e : suc a + i ≡ a + suc i = omega arith in ranged f (suc a) d i (omega arith) ∙ ap f e

position : (x : ℕ) (l : List ℕ) → Memᴰ x l → (i : ℕ) × ((i < length l) × (get_or l i 0 ≡ x))
position x [] m = absurd (Memᴰ.not-nil m)
position x (y ∷ l) m = go (Memᴰ.cases_cons m) (position x l)
  where
    go : (x ≡ y) ⊎ Memᴰ x l → (Memᴰ x l → (i : ℕ) × ((i < length l) × (get_or l i 0 ≡ x))) →
        (i : ℕ) × ((i < length (y ∷ l)) × (get_or (y ∷ l) i 0 ≡ x))
    go (inl e) s = (0, (omega arith, sym e))
    go (inr k) s = let p = s k in let q = p.1.0 in (suc p.0, (omega arith, p.1.1))

distinct : (l : List ℕ) → ((i j : ℕ) → i < length l → j < length l → get_or l i 0 ≡ get_or l j 0 → i ≡ j) → Distinct l
distinct [] f = tt
distinct (x ∷ l) f = (
  λ m. let p = position x l m in let q = p.1.0 in let e : suc p.0 ≡ 0 = f (suc p.0) 0 (omega arith) (omega arith) p.1.1 in
      omega arith,
  distinct l (λ i j a b e. let d : suc i ≡ suc j = f (suc i) (suc j) (omega arith) (omega arith) e in omega arith),
)

-- the roots of a forest, whose first node is i
roots_from : ℕ → List ℕ → List ℕ
roots_from i [] = []
roots_from i (x ∷ P) = elim (eqb x i) [ true ↦ i ∷ roots_from (suc i) P | false ↦ roots_from (suc i) P ]

roots_length : (i : ℕ) (P : List ℕ) → length (roots_from i P) ≡ tops i P
unfolding roots_from tops
roots_length i [] = refl
roots_length i (x ∷ P) = go (eqb x i) (roots_length (suc i) P)
  where
    go : (b : Bool) → length (roots_from (suc i) P) ≡ tops (suc i) P →
        length {A = ℕ} (elim b [ true ↦ i ∷ roots_from (suc i) P | false ↦ roots_from (suc i) P ]) ≡ by_test b 1 0 + tops (suc i) P
    go true e = omega arith
    go false e = omega arith

roots_in : (i : ℕ) (P : List ℕ) (a : ℕ) → a < length P → get_or P a 0 ≡ i + a → Memᴰ (i + a) (roots_from i P)
unfolding roots_from
roots_in i [] a h e = absurd (omega arith)
roots_in i (x ∷ P) zero h e = go (eqb x i) (test x i)
  where
    go : (b : Bool) → Test x i b → Memᴰ (i + 0) (elim b [ true ↦ i ∷ roots_from (suc i) P | false ↦ roots_from (suc i) P ])
    go true t = let q : i + 0 ≡ i = omega arith in Memᴰ.head q
    go false (differ n) = absurd (n (omega arith))
roots_in i (x ∷ P) (suc a) h e =
    go (eqb x i) (subst (λ (z : ℕ). Memᴰ z (roots_from (suc i) P)) (omega arith) (roots_in (suc i) P a (omega arith) (omega arith)))
  where
    go : (b : Bool) → Memᴰ (i + suc a) (roots_from (suc i) P) →
        Memᴰ (i + suc a) (elim b [ true ↦ i ∷ roots_from (suc i) P | false ↦ roots_from (suc i) P ])
    go true m = Memᴰ.tail m
    go false m = m

-- ---- the classes
module _ (n : ℕ) (es : List Entry) (k : ℕ) (w : List ℕ) (h : Holds n es k w) (G : Graph) (j : Joined (graphs es) G) where
  -- the class of the node i
  class_at : (i : ℕ) → Dec (i < length G) → ℕ
  class_at i (yes l) = class h (spot_number es (j.onto i l).0)
  class_at i (no l) = 0

  pub ord : List ℕ
  ord = map (λ (i : ℕ). class_at i (dec_lt i (length G))) (range 0 (length G))

  many : length ord ≡ length G
  unfolding ord
  many = length-map (range 0 (length G)) (λ (i : ℕ). class_at i (dec_lt i (length G))) ∙ range_length 0 (length G)

  spot_at : (i : ℕ) → i < length G → (s : Spots es) × ((j.class s ≡ i) × (get_or ord i 0 ≡ class h (spot_number es s)))
  unfolding ord class_at
  spot_at i l =
      let p = go (dec_lt i (length G)) in (
        p.0,
        (
          p.1.0,
          ranged (λ (i : ℕ). class_at i (dec_lt i (length G))) 0 (length G) i l
              ∙ ap (λ (i : ℕ). class_at i (dec_lt i (length G))) (omega arith) ∙ p.1.1,
        ),
      )
    where
      go : (d : Dec (i < length G)) → (s : Spots es) × ((j.class s ≡ i) × (class_at i d ≡ class h (spot_number es s)))
      go (yes m) = let o = j.onto i m in (o.0, (o.1, refl))
      go (no m) = absurd (m l)

  -- one class, one number
  same_number : (s t : Spots es) → class h (spot_number es s) ≡ class h (spot_number es t) → j.class s ≡ j.class t
  same_number s t e = j.together s t (class_same n es k w h s t e)

  number_same : (s t : Spots es) → j.class s ≡ j.class t → class h (spot_number es s) ≡ class h (spot_number es t)
  number_same s t e = same_class n es k w h s t (j.apart s t e)

  spot_class : (s : Spots es) → get_or ord (j.class s) 0 ≡ class h (spot_number es s)
  spot_class s = let p = spot_at (j.class s) (j.inside s) in p.1.1 ∙ number_same p.0 s p.1.0

  own : (a b : ℕ) → a < length ord → b < length ord → get_or ord a 0 ≡ get_or ord b 0 → a ≡ b
  own a b x y e =
      let l = many in let p = spot_at a (omega arith) in let q = spot_at b (omega arith) in
      sym p.1.0 ∙ same_number p.0 q.0 (sym p.1.1 ∙ e ∙ q.1.1) ∙ q.1.0

  -- a class is a root of the forest
  low : (i : ℕ) → i < length ord → get_or ord i 0 < n
  low i l =
      let m = many in
      let p = spot_at i (omega arith) in
      let a = spot_low n es k w h p.0 in
      let b = class_low n es k w h (spot_number es p.0) a in
      let e = p.1.1 in
      omega arith

  top : (i : ℕ) → i < length ord → class h (get_or ord i 0) ≡ get_or ord i 0
  top i l = let m = many in let p = spot_at i (omega arith) in
      rw p.1.1 (class_top n es k w h (spot_number es p.0) (spot_low n es k w h p.0))

  abbrev P : List ℕ
  P = parents n w

  root : (c : ℕ) → c < n → class h c ≡ c → get_or P c 0 ≡ c
  root c l e =
      let long = h.long in let few = h.below in
      let m : length P ≡ n = length_parents n w (omega arith) in
      rw e at (label_root P h.state.shape h.state.M h.state.forest c (omega arith)).1

  room : k + length ord ≤ 4096
  room =
      let long = h.long in let few = h.below in
      let m : length P ≡ n = length_parents n w (omega arith) in
      let r = holds_room n es k w h in
      let d : length ord ≤ length (roots_from 0 P) = distinct_length ord (roots_from 0 P) (distinct ord own)
      (λ x i. let p = position x ord i in let a = low p.0 p.1.0 in
      let q : get_or P (get_or ord p.0 0) 0 ≡ get_or ord p.0 0 = root (get_or ord p.0 0) a (top p.0 p.1.0) in
      subst (λ (z : ℕ). Memᴰ z (roots_from 0 P)) (omega (arith, p.1.1))
      (roots_in 0 P (get_or ord p.0 0) (omega arith) (omega arith))) in
      let e = roots_length 0 P in
      omega arith

  -- what the class of the node i holds
  held : (i : ℕ) → i < length ord → Content es (class h) w (get_or ord i 0)
  held i l = content n es k w h (get_or ord i 0) (low i l) (top i l)

  module _ (i : ℕ) (l : i < length ord) where
    -- a spot of the class, by its number and by its label
    labelled : (s : Spots es) → j.class s ≡ i → class h (spot_number es s) ≡ get_or ord i 0
    labelled s e = sym (spot_class s) ∙ ap (λ (z : ℕ). get_or ord z 0) e

    numbered : (s : Spots es) → class h (spot_number es s) ≡ get_or ord i 0 → j.class s ≡ i
    numbered s e = let m = many in let a = j.inside s in own (j.class s) i (omega arith) l (spot_class s ∙ e)

    atom_head : (a : ℕ) → nodeAt G i ≡ atom a → get_or w (get_or ord i 0) 0 ≡ code_limit + a
    atom_head a e = let p = j.atom_from i a e in (held i l).atom_in p.0 a p.2 (labelled p.0 p.1)

    module _ (out : List (ℕ × ℕ)) (e : nodeAt G i ≡ arcs out) where
      chained : ChainCode (get_or w (get_or ord i 0) 0)
      chained = go (dec_lt last_arc (get_or w (get_or ord i 0) 0))
        where
          go : Dec (AtomCode (get_or w (get_or ord i 0) 0)) → ChainCode (get_or w (get_or ord i 0) 0)
          go (no b) = omega arith
          go (yes b) =
              let p = (held i l).atom_from b in
              let d : nodeAt G i ≡ atom p.1.1.0 = ap (nodeAt G) (sym (numbered p.0 p.1.0))
              ∙ j.atom_in p.0 p.1.1.0 p.1.1.1.0 in
              let z : ◌≡◌ {A = ℕ} 0 1 = cc in
              absurd (omega arith)

      arcs_there : arcsOf (nodeAt G i) ≡ out
      arcs_there = ap arcsOf e

      fan : Fan n w (class h) ord (get_or w (get_or ord i 0) 0) 0 out
      fan = record {
        chain = (held i l).chain;
        linked = (held i l).linked chained;
        short = (held i l).short;
        inside = λ q m. let p = (held i l).arc_from q m in
            (p.0, subst (λ (z : ℕ). z < n) p.1.1.1.1.0 (spot_low n es k w h p.1.1.0));
        from = λ q m b.
            let p = (held i l).arc_from q m in
            let s = p.1.0 in
            let t = p.1.1.0 in
            let x : Memᴰ (get_or (loaded_words w) q 0, j.class t) (arcsOf (nodeAt G (j.class s))) =
            j.arc_in s (get_or (loaded_words w) q 0) t p.1.1.1.1.1 in (
              j.class t,
              (
                subst (λ (z : List (ℕ × ℕ)). Memᴰ (get_or (loaded_words w) q 0, j.class t) z)
                    (ap (λ (z : ℕ). arcsOf (nodeAt G z)) (numbered s p.1.1.1.0) ∙ arcs_there) x,
                ((let y = j.inside t in let z = many in omega arith), ap (class h) (sym p.1.1.1.1.0) ∙ sym (spot_class t)),
              ),
            );
        to = λ f t m.
            let p = j.arc_from i f t (subst (λ (z : List (ℕ × ℕ)). Memᴰ (f, t) z) (sym arcs_there) m) in
            let o = ((held i l).arc_in p.0 f p.1 p.4 (labelled p.0 p.2)).1 in (
              o.0,
              (
                first_mem (loaded_words w) f (held i l).chain o.0 o.1.0,
                first_feature (loaded_words w) f (held i l).chain o.0 o.1.0,
              ),
            );
      }

  pub source : Classes n k w G (class h) ord
  source =
      let r = joined_root (graphs es) G j in
      let m = many in let x = j.inside r.0 in
      record {
        long = h.long;
        below = h.below;
        shape = h.state.shape;
        label = λ x r l q. sym (q.is h.state.M h.state.forest);
        many = m;
        room = room;
        own = own;
        low = low;
        some = omega arith;
        first = sym (class_root n es k w h r.0 r.1) ∙ sym (spot_class r.0) ∙ ap (λ (z : ℕ). get_or ord z 0) (j.root r.0 r.1);
        atoms = λ i a l e. atom_head i l a e;
        fans = λ i l b e. (chained i b l e, fan i b l e);
      }
