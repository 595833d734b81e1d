-- The atoms are taken out of two loaded graphs: they lie there without them, and the heads of their nodes stand one after the other.
-- Assumes nothing.
use mathlib.Core.Path.{◌≡◌, refl, sym, ap, ap₂, ◌∙◌, subst}
use mathlib.Core.Logic.{inl, inr}
use mathlib.Core.List.{List, [], ◌∷◌}
use Prim.Native.Nat.{ℕ, zero, suc, ◌+◌, ◌≤◌, ◌<◌}
use native.Mathlib.Omega.{arith}
use lib.ListN.{length, get_or}
use Rattle.theory.specs.Net.{Node, atom, arcs, Graph, nodeAt, beside}
use Rattle.theory.specs.Layout.{nodes_words, ArcsFit, NodeFits, GraphFits}
use Rattle.theory.specs.Weight.{weight}
use Rattle.theory.specs.ClashNode.{node_number}
use Rattle.finding_clash.specs.Bared.{bared_node, bared}
use Rattle.finding_clash.proofs.Bare.{length_bare, weight_bare, fits_bare, canonical_bare}
use Rattle.packing.specs.Packed.{graph_word}
use Rattle.layout.specs.Standing.{Stands}
use Rattle.layout.proofs.Standing.{stands_cons, stands_get, stands_nil}
use Rattle.loading.specs.Loaded.{moved_arcs, moved_node, moved, located}
use Rattle.loading.proofs.Sizes.{located_length}
use Rattle.area.specs.Map.{WORDS, MARKS, RESULT, SIZE, SECOND}
use Rattle.classes.specs.Entry.{Lies}
use Rattle.finding_clash.specs.Heads.{head_of, BaredAs, Baring, Bares}
use Rattle.finding_clash.specs.TwoGraphs.{TwoLie, spot_head, Stripping, Strips}

-- ---- a graph whose targets are moved
moved_length : (n : ℕ) (g : Graph) → length (moved n g) ≡ length g
moved_length n [] = refl
moved_length n (v ∷ vs) = ap suc (moved_length n vs)

arcs_length : (n : ℕ) (l : List (ℕ × ℕ)) → length (moved_arcs n l) ≡ length l
arcs_length n [] = refl
arcs_length n (e ∷ l) = ap suc (arcs_length n l)

arcs_fit : (n : ℕ) (l : List (ℕ × ℕ)) → ArcsFit l → ArcsFit (moved_arcs n l)
arcs_fit n [] f = tt
arcs_fit n (e ∷ l) f = (f.0, arcs_fit n l f.1)

node_fits : (n : ℕ) (v : Node) → NodeFits v → NodeFits (moved_node n v)
node_fits n (atom a) f = f
node_fits n (arcs l) f = (let e = arcs_length n l in let h = f.0 in omega arith, arcs_fit n l f.1)

moved_fits : (n : ℕ) (g : Graph) → GraphFits g → GraphFits (moved n g)
moved_fits n [] f = tt
moved_fits n (v ∷ vs) f = (node_fits n v f.0, moved_fits n vs f.1)

node_bared : (n : ℕ) (v : Node) → bared_node (moved_node n v) ≡ moved_node n (bared_node v)
node_bared n (atom a) = refl
node_bared n (arcs l) = refl

moved_bared : (n : ℕ) (g : Graph) → bared (moved n g) ≡ moved n (bared g)
moved_bared n [] = refl
moved_bared n (v ∷ vs) = ap₂ (λ (x : Node) (y : Graph). x ∷ y) (node_bared n v) (moved_bared n vs)

node_head : (n : ℕ) (v : Node) → head_of (moved_node n v) ≡ head_of v
node_head n (atom a) = refl
node_head n (arcs l) = arcs_length n l

moved_head : (n : ℕ) (g : Graph) (j : ℕ) → head_of (nodeAt (moved n g) j) ≡ head_of (nodeAt g j)
moved_head n [] j = refl
moved_head n (v ∷ vs) zero = node_head n v
moved_head n (v ∷ vs) (suc j) = moved_head n vs j

located_weight : (n : ℕ) (g : Graph) → length (located n g) ≡ weight g
unfolding weight
located_weight n g = located_length n g

get_stands : (ws xs : List ℕ) (p q : ℕ) → q ≡ p + length xs → q ≤ length ws →
    ((j : ℕ) → j < length xs → get_or ws (p + j) 0 ≡ get_or xs j 0) → Stands ws p xs q
get_stands ws [] p q e h f = (stands_nil ws p q).1 (omega arith)
get_stands ws (x ∷ xs) p q e h f = (stands_cons ws x xs p q).1 (
  omega arith,
  (let z : p + 0 ≡ p = omega arith in rw z at (f 0 (omega arith))),
  get_stands ws xs (p + 1) q (omega arith) h
      (λ j l. let z : p + suc j ≡ p + 1 + j = omega arith in rw z at (f (suc j) (omega arith))),
)

-- ---- a graph that lies in the area
module _ (w : List ℕ) (g n : ℕ) (K : Graph) (lies : Lies w g n K) where
  pub lies_stands : SIZE ≤ length w → Stands w (WORDS + g + 1) (nodes_words (moved n K)) (WORDS + g + 1 + weight K)
  lies_stands long =
      let e = located_weight n K in
      let f = lies.fits in
      get_stands w (located n K) (WORDS + g + 1) (WORDS + g + 1 + weight K) (omega arith) (omega arith)
      (λ j h. let z : WORDS + g + 1 + j ≡ WORDS + (suc g + j) = omega arith in rw z (lies.nodes j (omega arith)))

  -- it stays where its words do
  pub lies_keeps : (w' : List ℕ) → ((j : ℕ) → WORDS + g ≤ j → j < WORDS + g + suc (weight K) → get_or w' j 0 ≡ get_or w j 0) → Lies w' g n K
  lies_keeps w' f = record {
    fits = lies.fits;
    few = lies.few;
    low = lies.low;
    head = f (WORDS + g) (omega arith) (omega arith) ∙ lies.head;
    nodes = λ j h. f (WORDS + (suc g + j)) (omega arith) (omega arith) ∙ lies.nodes j h;
  }

  -- without its atoms
  pub lies_bare : (w' : List ℕ) (i : ℕ) → BaredAs (moved n K) w (WORDS + g + 1) (WORDS + g + 1 + weight K) i w' → Lies w' g n (bared K)
  lies_bare w' i b =
      let a = length_bare K in
      let e = weight_bare K in
      let f = lies.fits in
      let m = lies.few in
      record {
        fits = omega arith;
        few = omega arith;
        low = lies.low;
        head = b.rest (WORDS + g) (inl (omega arith)) (inl (omega arith)) ∙ lies.head
            ∙ ap₂ (λ (x y : ℕ). graph_word x n (suc y)) (sym a) (sym e);
        nodes = λ j h.
            let z : WORDS + g + 1 + j ≡ WORDS + (suc g + j) = omega arith in
            let s = subst (λ (x : Graph). Stands w' (WORDS + g + 1) (nodes_words x) (WORDS + g + 1 + weight K)) (moved_bared n K) b.stands in
            let l = located_weight n (bared K) in
            (rw z at (stands_get w' (located n (bared K)) (WORDS + g + 1) (WORDS + g + 1 + weight K) j s (omega arith)));
      }

-- ---- both graphs
module _ (w : List ℕ) (long : SIZE ≤ length w) (g h : Graph) (b : ℕ) (lie : TwoLie w g h b) where
  sizes : (length g + length h ≤ 1024) × (length g ≤ b) × (b ≤ 1024) × (suc (weight g) ≤ 1024) × (1024 + suc (weight h) ≤ 2048)
  sizes = let a = lie.numbers in let f = lie.few in (omega arith, a, omega arith, lie.before, lie.second.fits)

  pub asks_one : (c : ℕ) → length g ≡ c → Baring w (WORDS + 1) c 0
  asks_one c e =
      let (s, t, u, x, y) = sizes in
      record {
        long = long;
        few = omega arith;
        g = moved 0 g;
        q = WORDS + 1 + weight g;
        many = moved_length 0 g ∙ e;
        fits = moved_fits 0 g lie.first_fits;
        near = omega arith;
        stands = lies_stands w 0 0 g lie.first long;
      }

  module _ (c : ℕ) (e : length g ≡ c) (w₁ : List ℕ) (one : Bares w (WORDS + 1) c 0 w₁) where
    bared_one : BaredAs (moved 0 g) w (WORDS + 1) (WORDS + 1 + weight g) 0 w₁
    bared_one = let (s, t, u, x, y) = sizes in
        one.told (moved 0 g) (WORDS + 1 + weight g) (moved_length 0 g ∙ e) (moved_fits 0 g lie.first_fits) (omega arith)
        (lies_stands w 0 0 g lie.first long)

    first₁ : Lies w₁ 0 0 (bared g)
    first₁ = lies_bare w 0 0 g lie.first w₁ 0 bared_one

    second₁ : Lies w₁ SECOND b h
    second₁ = let (s, t, u, x, y) = sizes in
        lies_keeps w SECOND b h lie.second w₁ (λ j k l. bared_one.rest j (inr (omega arith)) (inl (omega arith)))

    long₁ : SIZE ≤ length w₁
    long₁ = let l = one.len in omega (arith, long)

    pub asks_two : (d : ℕ) → length h ≡ d → Baring w₁ (WORDS + SECOND + 1) d c
    asks_two d m =
        let (s, t, u, x, y) = sizes in
        record {
          long = long₁;
          few = omega arith;
          g = moved b h;
          q = WORDS + SECOND + 1 + weight h;
          many = moved_length b h ∙ m;
          fits = moved_fits b h lie.second_fits;
          near = omega arith;
          stands = lies_stands w₁ SECOND b h second₁ long₁;
        }

    module _ (d : ℕ) (m : length h ≡ d) (w₂ : List ℕ) (two : Bares w₁ (WORDS + SECOND + 1) d c w₂) where
      bared_two : BaredAs (moved b h) w₁ (WORDS + SECOND + 1) (WORDS + SECOND + 1 + weight h) c w₂
      bared_two = let (s, t, u, x, y) = sizes in
          two.told (moved b h) (WORDS + SECOND + 1 + weight h) (moved_length b h ∙ m) (moved_fits b h lie.second_fits) (omega arith)
          (lies_stands w₁ SECOND b h second₁ long₁)

      pub strip_rest : (j : ℕ) → RESULT ≤ j → get_or w₂ j 0 ≡ get_or w j 0
      strip_rest j l =
          let (s, t, u, x, y) = sizes in
          let p = moved_length 0 g in
          let q = moved_length b h in
          bared_two.rest j (inr (omega arith)) (inr (omega arith)) ∙ bared_one.rest j (inr (omega arith)) (inr (omega arith))

      pub strip_lie : TwoLie w₂ (bared g) (bared h) b
      strip_lie =
          let (s, t, u, x, y) = sizes in
          let a = length_bare g in
          let z = length_bare h in
          let p = weight_bare g in
          let f = lie.few in
          record {
            first = lies_keeps w₁ 0 0 (bared g) first₁ w₂ (λ j k l. bared_two.rest j (inl (omega arith)) (inl (omega arith)));
            second = lies_bare w₁ SECOND b h second₁ w₂ c bared_two;
            before = omega arith;
            first_canonical = canonical_bare g lie.first_canonical;
            second_canonical = canonical_bare h lie.second_canonical;
            first_fits = fits_bare g lie.first_fits;
            second_fits = fits_bare h lie.second_fits;
            numbers = omega arith;
            few = omega arith;
          }

      pub strip_heads : (x : (beside (g ∷ h ∷ [])).Spot) → get_or w₂ (MARKS + node_number g h x) 0 ≡ spot_head g h x
      strip_heads (inl x) =
          let (s, t, u, y, z) = sizes in
          let l = x.1 in
          let p = moved_length 0 g in
          bared_two.rest (MARKS + x.0) (inr (omega arith)) (inl (omega arith))
          ∙ (let zero-on : 0 + x.0 ≡ x.0 = omega arith in rw zero-on at (bared_one.heads x.0 (omega arith))) ∙ moved_head 0 g x.0
      strip_heads (inr (inl y)) =
          let l = y.1 in
          let p = moved_length b h in
          ap (λ (k : ℕ). get_or w₂ (MARKS + (k + y.0)) 0) e ∙ bared_two.heads y.0 (omega arith) ∙ moved_head b h y.0
      strip_heads (inr (inr x'')) = elim x'' [ ]

-- what `strip` promises
pub strips : (w : List ℕ) (c d : ℕ) → Stripping w c d → (w₁ w₂ : List ℕ) → Bares w (WORDS + 1) c 0 w₁ →
    Bares w₁ (WORDS + SECOND + 1) d c w₂ → Strips w c d w₂
strips w c d a w₁ w₂ one two = record {
  len = two.len ∙ one.len;
  rest = strip_rest w a.long a.g a.h a.b a.lie c a.first_many w₁ one d a.second_many w₂ two;
  lie = λ g h b lie e m. strip_lie w a.long g h b lie c e w₁ one d m w₂ two;
  heads = λ g h b lie e m. strip_heads w a.long g h b lie c e w₁ one d m w₂ two;
}
