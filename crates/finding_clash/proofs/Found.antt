-- The first node whose class has a clash noted is the node where the graphs clash.
-- Assumes nothing.
use mathlib.Core.Path.{◌≡◌, refl, sym, ap, ◌∙◌, subst}
use mathlib.Core.Logic.{inl, inr}
use mathlib.Core.List.{List, [], ◌∷◌}
use Prim.Native.Nat.{ℕ, ◌+◌, ◌≤◌, ◌<◌}
use native.Mathlib.Omega.{arith}
use native.Mathlib.Decide.{dec_lt}
use lib.ListN.{length, get_or}
use Rattle.theory.specs.Net.{Graph, Net, beside, Same, roots, Clash}
use Rattle.theory.specs.ClashNode.{ClashAt, node_number, NodeClashes, ClashNode}
use Rattle.finding_clash.specs.Bared.{bared}
use Rattle.theory.proofs.NodeNumbers.{number_low, spot_at}
use Rattle.finding_clash.proofs.Bare.{length_bare, bare_agrees, labelled_bare}
use Rattle.theory.proofs.Somewhere.{clash_is_somewhere, node_low}
use Rattle.packing.specs.Packed.{word_nodes, word_number}
use Rattle.packing.proofs.Packed.{nodes_back, number_back}
use Rattle.area.specs.Map.{NODES, WORDS, MARKS, STACK, SIZE, SECOND}
use Rattle.loading.specs.Entry.{Entry, entry}
use Rattle.classes.specs.Entry.{Lies, spot_number}
use Rattle.classes.specs.Holds.{Holds, class}
use Rattle.classes.proofs.Writer.{class_low, same_class, class_same}
use Rattle.finding_clash.specs.Notes.{engine_number, ClassLabels, labels_of, NotesAsked, NotesAll, FirstClash, ClashSought}
use Rattle.finding_clash.specs.TwoGraphs.{TwoLie, spot_head, Stripping, Strips, BothPushing, BothPushes, Locating, Locates}
use Rattle.finding_clash.proofs.Passing.{number_first, number_second, labels_on, noting_on}
use Rattle.finding_clash.proofs.Conflicts.{noted_two, two_noted, conflict_clash, clash_conflict}

-- ---- what the headers tell
pub header_nodes : (w : List ℕ) (p n : ℕ) (K : Graph) → Lies w p n K → length K ≡ word_nodes (get_or w (WORDS + p) 0)
header_nodes w p n K l = sym (ap word_nodes l.head ∙ nodes_back (length K) n _ l.few)

pub header_number : (w : List ℕ) (p n : ℕ) (K : Graph) → Lies w p n K → n ≡ word_number (get_or w (WORDS + p) 0)
header_number w p n K l = sym (ap word_number l.head ∙ number_back (length K) n _ l.few l.low)

-- ---- the classes that are pushed are labels
pub holds_labels : (n : ℕ) (es : List Entry) (k : ℕ) (w : List ℕ) (h : Holds n es k w) → ClassLabels n w (class h)
holds_labels n es k w h = record {
  shape = h.state.shape;
  label = λ x r l root. sym (root.is h.state.M h.state.forest);
  low = class_low n es k w h;
}

module _ (w : List ℕ) (c d b : ℕ) (w₁ w₂ : List ℕ) (stripped : Strips w c d w₁) (pushed-both : BothPushes (b + d) w₁ w₂) where
  module _ (g h : Graph) (lie : TwoLie w g h b) (first : length g ≡ c) (second : length h ≡ d) where
    lie₁ : TwoLie w₁ (bared g) (bared h) b
    lie₁ = stripped.lie g h b lie first second

    many : b + d ≡ b + length (bared h)
    many = let e = length_bare h in omega arith

    abbrev es : List Entry
    es = entry 0 0 (bared g) ∷ entry SECOND b (bared h) ∷ []

    pushed : (k : ℕ) × Holds (b + d) es k w₂
    pushed = pushed-both.holds (bared g) (bared h) b lie₁ (bare_agrees g h) many

    small : (b ≤ 1024) × (b + d ≤ 1024) × (c + d ≤ 1024) × (c ≤ b)
    small = let f = lie.few in let a = lie.numbers in (omega arith, omega arith, omega arith, omega arith)

    inside : (i : ℕ) → i < c + d → engine_number c b i < b + d
    inside i l = go (dec_lt i c)
      where
        go : Dec (i < c) → engine_number c b i < b + d
        go (yes m) = let e = number_first c b i m in let (x, y, z, t) = small in omega arith
        go (no m) = let e = number_second c b i (omega arith) in omega arith

    pub notes_asked : SIZE ≤ length w₂ → NotesAsked (b + d) c b (c + d) w₂
    notes_asked long = let (x, y, z, t) = small in record {
      long = long;
      below = y;
      few = z;
      inside = inside;
      lab = class pushed.1;
      labels = holds_labels (b + d) es pushed.0 w₂ pushed.1;
    }

    -- ---- labels by the numbers of the nodes
    abbrev N : Net
    N = beside (g ∷ h ∷ [])

    abbrev Bare : Net
    Bare = beside (bared g ∷ bared h ∷ [])

    module _ (k : ℕ) (holds : Holds (b + d) es k w₂) where
      abbrev L : ℕ → ℕ
      L = labels_of (class holds) c b

      by_number : (x : Bare.Spot) → L (node_number (bared g) (bared h) x) ≡ class holds (spot_number es x)
      by_number (inl x) =
          let l = x.1 in
          let e = length_bare g in
          ap (class holds) (sym (number_first c b x.0 (omega arith)) ∙ omega arith)
      by_number (inr (inl y)) =
          let e = length_bare g in
          let n = number_second c b (length (bared g) + y.0) (omega arith) in
          ap (class holds) (sym n ∙ omega arith)
      by_number (inr (inr x'')) = elim x'' [ ]

      together : (x y : Bare.Spot) → Same Bare (roots Bare) x y →
          L (node_number (bared g) (bared h) x) ≡ L (node_number (bared g) (bared h) y)
      together x y s = by_number x ∙ same_class (b + d) es k w₂ holds x y s ∙ sym (by_number y)

      apart : (x y : Bare.Spot) → L (node_number (bared g) (bared h) x) ≡ L (node_number (bared g) (bared h) y) →
          Same Bare (roots Bare) x y
      apart x y e = class_same (b + d) es k w₂ holds x y (sym (by_number x) ∙ e ∙ by_number y)

      module _ (w₃ : List ℕ) (noted : NotesAll (b + d) c b (c + d) w₂ w₃) (r : ℕ)
          (sought : FirstClash (λ i. get_or w₃ (STACK + L i) 0) (c + d) r) where
        abbrev H : ℕ → ℕ
        H i = get_or w₂ (MARKS + i) 0

        heads : (x : N.Spot) → H (node_number g h x) ≡ spot_head g h x
        heads x = pushed-both.rest (MARKS + node_number g h x) (omega arith) ∙ stripped.heads g h b lie first second x

        total : length g + length h ≡ c + d
        total = omega arith

        -- what is noted of node i
        note_of : (i : ℕ) → i < c + d → get_or w₃ (STACK + L i) 0 ≡ 2 → (x : N.Spot) → node_number g h x ≡ i → ClashAt N (roots N) x
        note_of i l e x at =
            let labels = labelled_bare g h L together apart in
            let low = class_low (b + d) es k w₂ holds (engine_number c b i) (inside i l) in
            let notes = noted.told (class holds) H (holds_labels (b + d) es k w₂ holds) (λ j m. refl) (L i) low in
            conflict_clash g h lie.first_canonical lie.second_canonical lie.first_fits lie.second_fits L H
            (λ y z s. labels.together s) labels.apart heads x
            (rw (at, total) (noted_two L H (c + d) (L i) _ notes e))

        of_note : (i : ℕ) → (x : N.Spot) → node_number g h x ≡ i → ClashAt N (roots N) x → get_or w₃ (STACK + L i) 0 ≡ 2
        of_note i x at clash =
            let labels = labelled_bare g h L together apart in
            let l : i < c + d = omega (arith, number_low g h x) in
            let low = class_low (b + d) es k w₂ holds (engine_number c b i) (inside i l) in
            let notes = noted.told (class holds) H (holds_labels (b + d) es k w₂ holds) (λ j m. refl) (L i) low in
            two_noted L H (c + d) (L i) _ notes
            (rw (at, total) at (clash_conflict g h lie.first_canonical lie.second_canonical lie.first_fits lie.second_fits L H
            (λ y z s. labels.together s) labels.apart heads x clash))

        pub found : Clash (g ∷ h ∷ []) → ClashNode g h r
        found clash = go (dec_lt r (c + d))
          where
            before : (j : ℕ) → j < r → ¬ (NodeClashes g h j)
            before j l (x, at, bad) = sought.before j l (of_note j x at bad)

            go : Dec (r < c + d) → ClashNode g h r
            go (yes l) =
                let (x, at) = spot_at g h r (omega (arith, total)) in
                record { clashing = (x, at, note_of r l (sought.here l) x at); smallest = before }
            go (no l) =
                let (i, n) = clash_is_somewhere g h clash in
                absurd (before i (omega (arith, node_low g h i n, total)) n.clashing)

-- ---- the whole: c and d nodes, and b the number of the second root, as the headers tell
module _ (w : List ℕ) (c d b : ℕ) (is_c : c ≡ word_nodes (get_or w WORDS 0)) (is-d : d ≡ word_nodes (get_or w (WORDS + SECOND) 0))
    (is_b : b ≡ word_number (get_or w (WORDS + SECOND) 0)) where
  module _ (g h : Graph) (b₀ : ℕ) (lie : TwoLie w g h b₀) where
    first_is : length g ≡ c
    first_is = header_nodes w 0 0 g lie.first ∙ sym is_c

    second_is : length h ≡ d
    second_is = header_nodes w SECOND b₀ h lie.second ∙ sym is-d

    number_is : TwoLie w g h b
    number_is = subst (TwoLie w g h) (header_number w SECOND b₀ h lie.second ∙ sym is_b) lie

  module _ (a : Locating w) where
    -- the graphs that are asked for
    lies : TwoLie w a.g a.h b
    lies = number_is a.g a.h a.b a.lie

    one : length a.g ≡ c
    one = first_is a.g a.h a.b a.lie

    two : length a.h ≡ d
    two = second_is a.g a.h a.b a.lie

    pub strip_asked : Stripping w c d
    strip_asked = record { long = a.long; g = a.g; h = a.h; b = b; lie = lies; first_many = one; second_many = two }

    pub second_low : b ≤ NODES
    second_low = let f = lies.few in omega arith

    pub all_low : b + d ≤ NODES
    all_low = let f = lies.few in let t = two in omega arith

    module _ (w₁ : List ℕ) (stripped : Strips w c d w₁) where
      pub push_asked : BothPushing (b + d) w₁
      push_asked = let e = length_bare a.h in let l = stripped.len in let m = a.long in let t = two in record {
        long = omega arith;
        g = bared a.g;
        h = bared a.h;
        b = b;
        lie = stripped.lie a.g a.h b lies one two;
        agree = bare_agrees a.g a.h;
        many = omega arith;
      }

      module _ (w₂ : List ℕ) (pushed-both : BothPushes (b + d) w₁ w₂) where
        pub note_asked : NotesAsked (b + d) c b (c + d) w₂
        note_asked = notes_asked w c d b w₁ w₂ stripped pushed-both a.g a.h lies one two
            (let e = pushed-both.len in let l = stripped.len in let m = a.long in omega arith)

        module _ (w₃ : List ℕ) (noted : NotesAll (b + d) c b (c + d) w₂ w₃) where
          pub seek_asked : NotesAsked (b + d) c b (c + d) w₃
          seek_asked = let n = note_asked in noting_on (b + d) w₂ w₃ n.long n.below noted.only c b (c + d) n

          pub locates : (r : ℕ) → ClashSought (b + d) c b (c + d) w₃ r → Locates w r w₃
          locates r sought = record {
            len = noted.only.len ∙ pushed-both.len ∙ stripped.len;
            rest = λ j l. let n = note_asked.below in
                noted.only.rest j (inr (omega arith)) ∙ pushed-both.rest j (omega arith) ∙ stripped.rest j (omega arith);
            told = λ g h b₀ lie clash. told g h (number_is g h b₀ lie) (first_is g h b₀ lie) (second_is g h b₀ lie) clash;
          }
            where
              told : (g h : Graph) → TwoLie w g h b → length g ≡ c → length h ≡ d → Clash (g ∷ h ∷ []) → ClashNode g h r
              told g h lie p q clash =
                  let (k, holds) = pushed-both.holds (bared g) (bared h) b (stripped.lie g h b lie p q) (bare_agrees g h)
                  (let e = length_bare h in omega arith) in
                  let classes = holds_labels (b + d) _ k w₂ holds in
                  let n = note_asked in
                  found w c d b w₁ w₂ stripped pushed-both g h lie p q k holds w₃ noted r
                  (sought.is (class holds) (labels_on (b + d) w₂ w₃ n.long n.below noted.only (class holds) classes)) clash
