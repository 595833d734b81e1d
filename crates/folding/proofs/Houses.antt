-- Laws of what is left of alternatives, one disjunction and one alternative after the other, and of its words.
-- Assumes nothing.
use Prim.Native.Nat.{ℕ, suc, ◌+◌, ◌≤◌}
use native.Mathlib.Omega.{arith}
use mathlib.Core.Path.{◌≡◌, refl, ap, sym, ◌∙◌, subst}
use mathlib.Core.Option.{Option, none, some}
use mathlib.Core.List.{List, [], ◌∷◌, ◌++◌, append_assoc}
use lib.ListN.{length}
use Rattle.theory.specs.Descr.{Disjs, end, ◌and◌, disjs, alts, ◌then◌}
use Rattle.theory.specs.Layout.{disjs_words, alts_words}
use Rattle.formulas.specs.Sheet.{Sheet, ◌plus◌, Laid, laid, Rows, over, ◌besides◌, ◌next◌, Cells, gone, ◌against◌, sheet_graph}
use Rattle.formulas.specs.Flat.{Item, wide, wide_rows, wide_cells}
use Rattle.formulas.specs.Homes.{all_picked, Home, home_alts, HandedOver, handed_over, home_closed, home_before, house, house_all}
use Rattle.formulas.specs.Homes.{house_left}

-- ---- words
pub disjs_then : (ds es : Disjs) → disjs (ds then es) ≡ disjs ds + disjs es
disjs_then end es = omega arith
disjs_then (a and ds) es = let e = disjs_then ds es in omega arith

pub words_then : (ds es : Disjs) → disjs_words (ds then es) ≡ disjs_words ds ++ disjs_words es
words_then end es = refl
words_then (a and ds) es = ap (λ (z : List ℕ). (alts a ∷ alts_words a) ++ z) (words_then ds es)
    ∙ sym (append_assoc (alts a ∷ alts_words a) (disjs_words ds) (disjs_words es))

pub alts_many : (hs : List Home) → alts (home_alts hs) ≡ length hs
alts_many [] = refl
alts_many (x ∷ hs) = let e = alts_many hs in omega arith

-- ---- what is left
module _ (L : List Item) where
  before_few : (o : Option Home) (hs : List Home) → length (home_before o hs) ≤ suc (length hs)
  before_few none hs = omega arith
  before_few (some x) hs = omega arith

  pub left_few : (k : ℕ) (a : Cells) → length (house_left L k a) ≤ wide_cells a
  unfolding house_left
  left_few k gone = omega arith
  left_few k (d against a) =
      let e = left_few (suc k + wide d) a in
      let f = before_few (house L k d) (house_left L (suc k + wide d) a) in
      omega arith

  pub left_none : (k : ℕ) → house_left L k gone ≡ []
  unfolding house_left
  left_none k = refl

  pub left_more : (k h : ℕ) (d : Laid) (a : Cells) → h ≡ suc k + wide d →
      house_left L k (d against a) ≡ home_before (house L k d) (house_left L h a)
  unfolding house_left
  left_more k h d a e = rw e refl

  pub house_over : (k : ℕ) → house_all L k over ≡ some (record { names = []; left = end })
  unfolding house_all
  house_over k = refl

  pub house_more : (k g : ℕ) (a : Cells) (ds : Rows) (old : HandedOver) → g ≡ k + wide_cells a → house_all L g ds ≡ some old →
      house_all L k (a besides ds) ≡ handed_over (house_left L k a) old
  unfolding house_all
  house_more k g a ds old e f = ap (λ (o : Option HandedOver). elim o [ none ↦ none | some g ↦ handed_over (house_left L k a) g ])
      (subst (λ (z : ℕ). house_all L z ds ≡ some old) e f)

  pub house_next_none : (k g : ℕ) (ds es : Rows) → g ≡ k + wide_rows ds → house_all L g es ≡ none → house_all L k (ds next es) ≡ none
  unfolding house_all
  house_next_none k g over es e f = let i : g ≡ k = omega arith in subst (λ (z : ℕ). house_all L z es ≡ none) i f
  house_next_none k g (a besides ds) es e f = ap (λ (o : Option HandedOver). elim o
      [ none ↦ none | some g ↦ handed_over (house_left L k a) g ])
      (house_next_none (k + wide_cells a) g ds es (omega arith) f)

  pub house_none : (k : ℕ) (A : Sheet) (ds : Rows) → house_all L (suc k) ds ≡ none → house L k (laid A ds) ≡ none
  unfolding house
  house_none k A ds e = ap (λ (o : Option HandedOver). elim o [
    | none ↦ none
    | some g ↦ home_closed (k ∷ g.names) g.left
        (sheet_graph (A plus all_picked g.names L))
  ]) e

  pub house_some : (k : ℕ) (A : Sheet) (ds : Rows) (old : HandedOver) → house_all L (suc k) ds ≡ some old →
      house L k (laid A ds) ≡ home_closed (k ∷ old.names) old.left (sheet_graph (A plus all_picked old.names L))
  unfolding house
  house_some k A ds old e = ap (λ (o : Option HandedOver). elim o [
    | none ↦ none
    | some g ↦ home_closed (k ∷ g.names) g.left
        (sheet_graph (A plus all_picked g.names L))
  ]) e
