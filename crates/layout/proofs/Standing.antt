-- Laws of words that stand at a place: split and joined, with their bounds, and by the parts of a description.
-- Assumes nothing.
use Prim.Native.Nat.{ℕ, zero, suc, ◌+◌, ◌≤◌, ◌<◌}
use native.Mathlib.Omega.{arith}
use native.Mathlib.Numerals.{add-one}
use mathlib.Core.Path.{◌≡◌, refl, sym, subst, ap, ◌∙◌}
use mathlib.Core.Logic.{◌↔◌}
use mathlib.Core.List.{List, [], ◌∷◌, ◌++◌, append-nil}
use lib.ListN.{length, get_or, take, drop, length-drop}
use lib.Seq.{drop-cons, drop-length, take_at}
use Rattle.theory.specs.Limits.{code_limit}
use Rattle.theory.specs.Net.{Node, atom, arcs, Graph}
use Rattle.theory.specs.Descr.{Desc, desc, Disjs, ◌and◌, Alts, ◌or◌, disjs, alts}
use Rattle.theory.specs.Layout.{arc_words, node_words, nodes_words, words, disjs_words, alts_words}
use Rattle.layout.specs.Standing.{Stands, graph_words, disjunction_words}

module _ (ws : List ℕ) where
  split : (xs ys : List ℕ) (p r : ℕ) → Stands ws p (xs ++ ys) r → (q : ℕ) × Stands ws p xs q × Stands ws q ys r
  unfolding Stands
  split [] ys p r s = (p, refl, s)
  split (x ∷ xs) ys p r s = let t = split xs ys (p + 1) r s.2 in (t.0, (s.0, s.1, t.1), t.2)

  join : (xs ys : List ℕ) (p q r : ℕ) → Stands ws p xs q → Stands ws q ys r → Stands ws p (xs ++ ys) r
  unfolding Stands
  join [] ys p q r s t = subst (λ (k : ℕ). Stands ws k ys r) (sym s) t
  join (x ∷ xs) ys p q r s t = (s.0, s.1, join xs ys (p + 1) q r s.2 t)

  pub stands_append : (xs ys : List ℕ) (p r : ℕ) → Stands ws p (xs ++ ys) r ↔ ((q : ℕ) × Stands ws p xs q × Stands ws q ys r)
  stands_append xs ys p r = (split xs ys p r, λ t. join xs ys p t.0 r t.1 t.2)

  pub stands_cons : (x : ℕ) (xs : List ℕ) (p q : ℕ) →
      Stands ws p (x ∷ xs) q ↔ ((p < length ws) × (get_or ws p 0 ≡ x) × Stands ws (p + 1) xs q)
  unfolding Stands
  stands_cons x xs p q = (λ s. s, λ s. s)

  pub stands_nil : (p q : ℕ) → Stands ws p [] q ↔ (p ≡ q)
  unfolding Stands
  stands_nil p q = (λ s. s, λ s. s)

  -- word by word
  pub stands_get : (xs : List ℕ) (p q j : ℕ) → Stands ws p xs q → j < length xs → get_or ws (p + j) 0 ≡ get_or xs j 0
  stands_get [] p q j s h = absurd (omega arith)
  stands_get (x ∷ xs) p q zero s h = let z : p + 0 ≡ p = omega arith in rw z ((stands_cons x xs p q).0 s).1
  stands_get (x ∷ xs) p q (suc j) s h = let z : p + suc j ≡ p + 1 + j = omega arith in
      rw z (stands_get xs (p + 1) q j ((stands_cons x xs p q).0 s).2 (omega arith))

  pub stands_length : (xs : List ℕ) (p q : ℕ) → Stands ws p xs q → q ≡ p + length xs
  unfolding Stands
  stands_length [] p q s = omega arith
  stands_length (x ∷ xs) p q s = omega (arith, stands_length xs (p + 1) q s.2)

  pub stands_order : (xs : List ℕ) (p q : ℕ) → Stands ws p xs q → p ≤ q
  stands_order xs p q s = omega (arith, stands_length xs p q s)

  pub stands_within : (xs : List ℕ) (p q : ℕ) → p ≤ length ws → Stands ws p xs q → q ≤ length ws
  unfolding Stands
  stands_within [] p q h s = omega arith
  stands_within (x ∷ xs) p q h s = stands_within xs (p + 1) q (let l = s.0 in omega arith) s.2

  -- words that are some
  pub stands_bounds : (x : ℕ) (xs : List ℕ) (p q : ℕ) → Stands ws p (x ∷ xs) q → (p < q) × (q ≤ length ws)
  stands_bounds x xs p q s =
      let there = ((stands_cons x xs p q).0 s).0 in
      (omega (arith, stands_length (x ∷ xs) p q s), stands_within (x ∷ xs) p q (omega arith) s)

  pub stands_described : (d : Desc) (p q : ℕ) → Stands ws p (words d) q → (p < q) × (q ≤ length ws)
  stands_described (desc g ds) p q s = stands_bounds (length g) (nodes_words g ++ disjs ds ∷ disjs_words ds) p q s

  stands_drop : (xs : List ℕ) (p q : ℕ) → Stands ws p xs q → drop p ws ≡ xs ++ drop q ws
  unfolding Stands
  stands_drop [] p q s = ap (λ (k : ℕ). drop k ws) s
  stands_drop (x ∷ xs) p q s =
      let r = stands_drop xs (p + 1) q s.2 in
      drop-cons ws p 0 s.0 ∙ rw (s.1, ← add-one, r)

  -- they are what is taken there
  pub stands_taken : (xs : List ℕ) (p q : ℕ) → Stands ws p xs q → take (length xs) (drop p ws) ≡ xs
  stands_taken xs p q s = ap (take (length xs)) (stands_drop xs p q s) ∙ take_at xs (drop q ws) (length xs) refl

  drop_stands : (xs : List ℕ) (p : ℕ) → p ≤ length ws → drop p ws ≡ xs → Stands ws p xs (length ws)
  unfolding Stands
  drop_stands [] p h e = omega (arith, ap length e, length-drop p ws)
  drop_stands (x ∷ xs) p h e =
      let l : p < length ws = omega (arith, ap length e, length-drop p ws) in
      let d = drop-cons ws p 0 l in
      (l, (cc), drop_stands xs (p + 1) (omega arith) (rw add-one (cc)))

  pub stands_whole : (xs : List ℕ) → (ws ≡ xs) ↔ Stands ws 0 xs (length ws)
  stands_whole xs = (drop_stands xs 0 (omega arith), λ s. stands_drop xs 0 (length ws) s ∙ rw (drop-length, append-nil))

  pub stands_description : (g : Graph) (ds : Disjs) (p q : ℕ)
      → Stands ws p (words (desc g ds)) q
      ↔ ((r : ℕ) × Stands ws p (graph_words g) r × (r < length ws) × (get_or ws r 0 ≡ disjs ds) × Stands ws (r + 1) (disjs_words ds) q)
  stands_description g ds p q = (
    λ s. let t = split (graph_words g) (disjs ds ∷ disjs_words ds) p q s in
        let u = (stands_cons (disjs ds) (disjs_words ds) t.0 q).0 t.2 in (t.0, t.1, u.0, u.1, u.2),
    λ t. join (graph_words g) (disjs ds ∷ disjs_words ds) p t.0 q t.1
        ((stands_cons (disjs ds) (disjs_words ds) t.0 q).1 (t.2, t.3, t.4)),
  )

  pub stands_disjunctions : (a : Alts) (ds : Disjs) (p q : ℕ)
      → Stands ws p (disjs_words (a and ds)) q ↔ ((r : ℕ) × Stands ws p (disjunction_words a) r × Stands ws r (disjs_words ds) q)
  stands_disjunctions a ds p q = stands_append (disjunction_words a) (disjs_words ds) p q

  pub stands_disjunction : (a : Alts) (p q : ℕ) →
      Stands ws p (disjunction_words a) q ↔ ((p < length ws) × (get_or ws p 0 ≡ alts a) × Stands ws (p + 1) (alts_words a) q)
  stands_disjunction a p q = stands_cons (alts a) (alts_words a) p q

  pub stands_alternatives : (d : Desc) (a : Alts) (p q : ℕ) →
      Stands ws p (alts_words (d or a)) q ↔ ((r : ℕ) × Stands ws p (words d) r × Stands ws r (alts_words a) q)
  stands_alternatives d a p q = stands_append (words d) (alts_words a) p q

  pub stands_graph : (g : Graph) (p q : ℕ) →
      Stands ws p (graph_words g) q ↔ ((p < length ws) × (get_or ws p 0 ≡ length g) × Stands ws (p + 1) (nodes_words g) q)
  stands_graph g p q = stands_cons (length g) (nodes_words g) p q

  pub stands_nodes : (v : Node) (vs : Graph) (p q : ℕ) →
      Stands ws p (nodes_words (v ∷ vs)) q ↔ ((r : ℕ) × Stands ws p (node_words v) r × Stands ws r (nodes_words vs) q)
  stands_nodes v vs p q = stands_append (node_words v) (nodes_words vs) p q

  pub stands_atom : (a p q : ℕ) → Stands ws p (node_words (atom a)) q ↔ ((p < length ws) × (get_or ws p 0 ≡ code_limit + a) × (p + 1 ≡ q))
  unfolding Stands
  stands_atom a p q = (λ s. s, λ s. s)

  pub stands_node : (l : List (ℕ × ℕ)) (p q : ℕ) →
      Stands ws p (node_words (arcs l)) q ↔ ((p < length ws) × (get_or ws p 0 ≡ length l) × Stands ws (p + 1) (arc_words l) q)
  stands_node l p q = stands_cons (length l) (arc_words l) p q

  pub stands_arc : (e : ℕ × ℕ) (l : List (ℕ × ℕ)) (p q : ℕ)
      → Stands ws p (arc_words (e ∷ l)) q
      ↔ ((p < length ws) × (get_or ws p 0 ≡ e.0) × (p + 1 < length ws) × (get_or ws (p + 1) 0 ≡ e.1) × Stands ws (p + 2) (arc_words l) q)
  unfolding Stands
  stands_arc e l p q =
      let h : p + 1 + 1 ≡ p + 2 = omega arith in
      (λ s. (s.0, s.1, s.2.0, s.2.1, rw h at s.2.2), λ s. (s.0, s.1, (s.2, s.3, rw h s.4)))

  -- the arcs of a node are two words each
  pub stands_arcs : (l : List (ℕ × ℕ)) (p q : ℕ) → Stands ws p (arc_words l) q → q ≡ p + (length l + length l)
  stands_arcs l p q s = omega (arith, stands_length (arc_words l) p q s, twice l)
    where
      twice : (l : List (ℕ × ℕ)) → length (arc_words l) ≡ length l + length l
      twice [] = refl
      twice (e ∷ l) = let h = twice l in omega arith

-- ---- words that stay where they stand
-- t' has the words of t from p up to q
abbrev pub Agrees : List ℕ → List ℕ → ℕ → ℕ → Type 0
Agrees t t' p q = (j : ℕ) → p ≤ j → j < q → j < length t → (j < length t') × (get_or t' j 0 ≡ get_or t j 0)

module _ (t t' : List ℕ) where
  pub agrees_part : (p r s q : ℕ) → p ≤ r → s ≤ q → Agrees t t' p q → Agrees t t' r s
  agrees_part p r s q h k same j l u = same j (omega arith) (omega arith)

  pub stands_frame : (xs : List ℕ) (p q : ℕ) → Agrees t t' p q → Stands t p xs q → Stands t' p xs q
  stands_frame [] p q same s = (stands_nil t' p q).1 ((stands_nil t p q).0 s)
  stands_frame (x ∷ xs) p q same s =
      let parts = (stands_cons t x xs p q).0 s in
      let far = stands_order t xs (p + 1) q parts.2 in
      let here = same p (omega arith) (omega arith) parts.0 in
      (stands_cons t' x xs p q).1 (
        here.0,
        here.1
            ∙ parts.1,
        stands_frame xs (p + 1) q (agrees_part p (p + 1) q q (omega arith) (omega arith) same) parts.2,
      )
