-- Laws of gathering: a row more is looked at, and is taken or left.
-- Assumes nothing.
use Prim.Native.Nat.{ℕ, ◌+◌, ◌*◌, ◌<◌}
use native.Mathlib.Omega.{arith}
use native.Mathlib.Numerals.{add-one}
use borrow.Author.Count.{below_more}
use mathlib.Core.Path.{◌≡◌, refl, sym, ap, ap₂, subst, ◌∙◌}
use mathlib.Core.Logic.{⊎_elim}
use mathlib.Core.Bool.{Bool}
use mathlib.Core.List.Memᴰ
use mathlib.Core.List.{List, [], ◌∷◌, ◌++◌, Memᴰ}
use lib.ListN.{length, get_or, set, take, length-set}
use lib.Seq.{take-suc-set, length-take-le}
use Rattle.theory.specs.Join.{Edge}
use Rattle.formulas.specs.Tables.{parted, edge}
use Rattle.closing.specs.Rows.{spot_of, spot_mark, in_edges, in_pairs}
use Rattle.parting.specs.Gathered.{AmongRows, row_in, RowCame, Gathers, arc_table, Belong, GathersArcs}

-- ---- lists of what is among the first numbers
module _ {A : Type 0} (P : ℕ → Type 0) (f : ℕ → A) where
  among_more : (i : ℕ) (l : List A) → P i → AmongRows P f i l → AmongRows P f (i + 1) (l ++ f i ∷ [])
  among_more i l p a = record {
    in_list = below_more (λ j. P j → Memᴰ (f j) (l ++ f i ∷ [])) i (λ j h q. Memᴰ.append_left (f i ∷ []) (a.in_list j h q))
        (λ q. Memᴰ.append_right l (Memᴰ.head refl));
    of_list = λ x m. ⊎_elim (λ o. let (j, h, q, e) = a.of_list x o in (j, omega arith, q, e))
        (λ o. (i, omega arith, p, Memᴰ.eq_of_singleton o)) (Memᴰ.append_cases l m);
  }

  among_less : (i : ℕ) (l : List A) → (P i → ⊥) → AmongRows P f i l → AmongRows P f (i + 1) l
  among_less i l n a = record {
    in_list = below_more (λ j. P j → Memᴰ (f j) l) i a.in_list (λ q. absurd (n q));
    of_list = λ x m. let (j, h, q, e) = a.of_list x m in (j, omega arith, q, e);
  }

-- ---- a word more at the end
pairs_more : (l : List ℕ) (x : ℕ) → in_pairs (l ++ x ∷ []) ≡ in_pairs l ++ parted x ∷ []
pairs_more [] x = refl
pairs_more (y ∷ l) x = ap (λ (t : List (ℕ × ℕ)). parted y ∷ t) (pairs_more l x)

edges_more : (l m : List ℕ) (x y : ℕ) → length l ≡ length m →
    in_edges (l ++ x ∷ []) (m ++ y ∷ []) ≡ in_edges l m ++ (spot_of x, spot_mark x, y) ∷ []
edges_more [] [] x y e = refl
edges_more [] (b ∷ m) x y e = absurd (omega arith)
edges_more (a ∷ l) [] x y e = absurd (omega arith)
edges_more (a ∷ l) (b ∷ m) x y e = ap (λ (t : List Edge). (spot_of a, spot_mark a, b) ∷ t) (edges_more l m x y (omega arith))

front : (out : List ℕ) (n x : ℕ) → n < length out → take (n + 1) (set out n x) ≡ take n out ++ x ∷ []
front out n x h = ap (λ (m : ℕ). take m (set out n x)) (add-one n) ∙ take-suc-set out n x h

-- ---- atoms and ties
module _ (rows hm : List ℕ) (k : ℕ) (out₀ : List ℕ) where
  module _ (i n n' : ℕ) (out out' : List ℕ) (g : Gathers rows hm k i out₀ n out) where
    pub gathers_more : n < length out → RowCame rows hm k i → out' ≡ set out n (get_or rows (2 * i) 0) → n' ≡ n + 1 →
        Gathers rows hm k (i + 1) out₀ n' out'
    gathers_more h p e d =
        let few = g.few in
        let x = get_or rows (2 * i) 0 in
        rw (e, d) (record {
          same = length-set out n x ∙ g.same;
          few = omega arith;
          rows_are = rw (front out n x h) (rw (pairs_more (take n out) x)
              (among_more (RowCame rows hm k) (row_in rows) i (in_pairs (take n out)) p g.rows_are));
        })

    pub gathers_less : (RowCame rows hm k i → ⊥) → out' ≡ out → n' ≡ n → Gathers rows hm k (i + 1) out₀ n' out'
    gathers_less p e d = let few = g.few in rw (e, d) (record {
      same = g.same;
      few = omega arith;
      rows_are = among_less (RowCame rows hm k) (row_in rows) i (in_pairs (take n out)) p g.rows_are;
    })

-- ---- arcs
module _ (arcs hm : List ℕ) (on : List Bool) (k : ℕ) (out₀ ends₀ : List ℕ) where
  abbrev arc : ℕ → Edge
  arc = edge (arc_table arcs)

  abbrev Mine : ℕ → Type 0
  Mine = Belong arcs hm on k

  module _ (i n n' : ℕ) (out out' ends ends' : List ℕ) (g : GathersArcs arcs hm on k i out₀ ends₀ n out ends) where
    abbrev old : List Edge
    old = in_edges (take n out) (take n ends)

    pub arcs_more : n < length out → n < length ends → Mine i → out' ≡ set out n (get_or arcs (2 * i) 0) → ends' ≡ set ends n (i + 1) →
        n' ≡ n + 1 → GathersArcs arcs hm on k (i + 1) out₀ ends₀ n' out' ends'
    arcs_more h l p e f d =
        let few = g.few in
        let x = get_or arcs (2 * i) 0 in
        let even : length (take n out) ≡ length (take n ends)
        = length-take-le n out (omega arith) ∙ sym (length-take-le n ends (omega arith)) in
        let new : in_edges (take (n + 1) (set out n x)) (take (n + 1) (set ends n (i + 1))) ≡ old ++ (spot_of x, spot_mark x, i + 1) ∷ []
        = ap₂ in_edges (front out n x h) (front ends n (i + 1) l) ∙ edges_more (take n out) (take n ends) x (i + 1) even in
        let taken : AmongRows Mine arc (i + 1) (old ++ arc i ∷ []) = among_more Mine arc i old p g.arcs_are in
        rw (e, f, d) (record {
          same = length-set out n x ∙ g.same;
          same_ends = length-set ends n (i + 1) ∙ g.same_ends;
          few = omega arith;
          arcs_are = subst (AmongRows Mine arc (i + 1)) (sym new) (rw (add-one i) (rw (add-one i) at taken));
        })

    pub arcs_less : (Mine i → ⊥) → out' ≡ out → ends' ≡ ends → n' ≡ n → GathersArcs arcs hm on k (i + 1) out₀ ends₀ n' out' ends'
    arcs_less p e f d = let few = g.few in rw (e, f, d) (record {
      same = g.same;
      same_ends = g.same_ends;
      few = omega arith;
      arcs_are = among_less Mine arc i old p g.arcs_are;
    })
