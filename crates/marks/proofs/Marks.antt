-- The marks in the working area: what they depend on, and what a store does to them.
-- Assumes nothing.
use Prim.Native.Nat.{ℕ, ◌+◌, ◌≤◌, ◌<◌}
use native.Mathlib.Omega.{arith}
use mathlib.Core.Path.{◌≡◌, refl, ap, sym, ◌∙◌}
use mathlib.Core.Bool.{Bool, true, false, not, ◌||◌}
use mathlib.Core.List.{List}
use borrow.Author.Tests.{eqb-true, eqb-false}
use lib.Dec.{eqb}
use lib.ListN.{length, get_or, set, length-set}
use lib.Seq.{get_or-set_same, get_or-set_other}
use Rattle.area.specs.Map.{MARKS, RESULT}
use Rattle.area.specs.Region.{region}
use Rattle.area.proofs.Region.{length_region, getD_region, region_set_same, region_ext}
use Rattle.engine.specs.Marks.{Marking}
use Rattle.marks.specs.Marked.{marking, lights, Dropped, Lighted}

-- laws of "or"
pub or_none : (b : Bool) → b ≡ (b || false)
or_none true = refl
or_none false = refl

pub or_assoc : (a b c : Bool) → ((a || b) || c) ≡ (a || (b || c))
or_assoc true b c = refl
or_assoc false b c = refl

-- markings are equal where their marks are
pub same_marking : (m n : Marking) → ((y : ℕ) → m y ≡ n y) → m ≡ n
same_marking m n h = λ i y. h y i

pub mark_at : (w : List ℕ) (x : ℕ) → x < 1024 → marking w x ≡ not (eqb (get_or w (MARKS + x) 0) 1)
unfolding marking
mark_at w x h = ap (λ (v : ℕ). not (eqb v 1)) (getD_region MARKS 1024 w x h)

-- markings are equal where the area is
pub marking_frame : (w w' : List ℕ) → 16384 ≤ length w → length w' ≡ length w →
    ((j : ℕ) → MARKS ≤ j → j < RESULT → get_or w' j 0 ≡ get_or w j 0) → marking w' ≡ marking w
unfolding marking
marking_frame w w' h len same =
    let e : region MARKS 1024 w' ≡ region MARKS 1024 w =
    region_ext MARKS 1024 w' w (omega arith) len (λ j l. same (MARKS + j) (omega arith) (omega arith)) in
    ap {B = Marking} (λ (r : List ℕ) (x : ℕ). not (eqb (get_or r x 0) 1)) e

pub dropped : (w : List ℕ) (x : ℕ) → x < 1024 → 16384 ≤ length w → Dropped w x (set w (MARKS + x) 1)
unfolding marking
dropped w x h room = record {
  len = length-set w (MARKS + x) 1;
  marks = ap {B = Marking} (λ (r : List ℕ) (y : ℕ). not (eqb (get_or r y 0) 1)) (region_set_same MARKS 1024 x w 1 h)
      ∙ same_marking _ _ (λ y. go y (eqb y x) refl);
  rest = λ j n. get_or-set_other w (MARKS + x) j 1 0 n;
}
  where
    marks : List ℕ
    marks = region MARKS 1024 w

    go : (y : ℕ) (t : Bool) → eqb y x ≡ t →
        not (eqb (get_or (set marks x 1) y 0) 1) ≡ elim t [ true ↦ false | false ↦ not (eqb (get_or marks y 0) 1) ]
    go y true e =
        let same : y ≡ x = eqb-true y x e in
        let there : x < length marks = omega (arith, length_region MARKS 1024 w (omega arith)) in
        ap (λ (v : ℕ). not (eqb v 1)) (ap (λ (j : ℕ). get_or (set marks x 1) j 0) same ∙ get_or-set_same marks x 1 0 there)
    go y false e = ap (λ (v : ℕ). not (eqb v 1)) (get_or-set_other marks x y 1 0 (eqb-false y x e))

pub light_at : (w : List ℕ) (x : ℕ) → x < 1024 → lights w x ≡ eqb (get_or w (MARKS + x) 0) 2
unfolding lights
light_at w x h = ap (λ (v : ℕ). eqb v 2) (getD_region MARKS 1024 w x h)

pub lights_frame : (w w' : List ℕ) → 16384 ≤ length w → length w' ≡ length w →
    ((j : ℕ) → MARKS ≤ j → j < RESULT → get_or w' j 0 ≡ get_or w j 0) → lights w' ≡ lights w
unfolding lights
lights_frame w w' h len same =
    let e : region MARKS 1024 w' ≡ region MARKS 1024 w =
    region_ext MARKS 1024 w' w (omega arith) len (λ j l. same (MARKS + j) (omega arith) (omega arith)) in
    ap {B = Marking} (λ (r : List ℕ) (x : ℕ). eqb (get_or r x 0) 2) e

pub lighted : (w : List ℕ) (x : ℕ) → x < 1024 → 16384 ≤ length w → Lighted w x (set w (MARKS + x) 2)
unfolding marking lights
lighted w x h room = record {
  len = length-set w (MARKS + x) 2;
  found = λ y. ap (λ (r : List ℕ). eqb (get_or r y 0) 2) (region_set_same MARKS 1024 x w 2 h) ∙ found y (eqb y x) refl;
  marks = λ k. ap {B = Marking} (λ (r : List ℕ) (y : ℕ). not (eqb (get_or r y 0) 1)) (region_set_same MARKS 1024 x w 2 h)
      ∙ same_marking _ _ (λ y. kept y k (eqb y x) refl);
  rest = λ j n. get_or-set_other w (MARKS + x) j 2 0 n;
}
  where
    marks : List ℕ
    marks = region MARKS 1024 w

    own : (y : ℕ) → eqb y x ≡ true → get_or (set marks x 2) y 0 ≡ 2
    own y e =
        let same : y ≡ x = eqb-true y x e in
        let there : x < length marks = omega (arith, length_region MARKS 1024 w (omega arith)) in
        ap (λ (j : ℕ). get_or (set marks x 2) j 0) same ∙ get_or-set_same marks x 2 0 there

    either : (b : Bool) → true ≡ (b || true)
    either true = refl
    either false = refl

    found : (y : ℕ) (t : Bool) → eqb y x ≡ t → eqb (get_or (set marks x 2) y 0) 2 ≡ (eqb (get_or marks y 0) 2 || t)
    found y true e = ap (λ (v : ℕ). eqb v 2) (own y e) ∙ either (eqb (get_or marks y 0) 2)
    found y false e = ap (λ (v : ℕ). eqb v 2) (get_or-set_other marks x y 2 0 (eqb-false y x e)) ∙ or_none (eqb (get_or marks y 0) 2)

    kept : (y : ℕ) → not (eqb (get_or marks x 0) 1) ≡ true → (t : Bool) → eqb y x ≡ t →
        not (eqb (get_or (set marks x 2) y 0) 1) ≡ not (eqb (get_or marks y 0) 1)
    kept y k true e = ap (λ (v : ℕ). not (eqb v 1)) (own y e) ∙ sym (ap (λ (j : ℕ). not (eqb (get_or marks j 0) 1)) (eqb-true y x e) ∙ k)
    kept y k false e = ap (λ (v : ℕ). not (eqb v 1)) (get_or-set_other marks x y 2 0 (eqb-false y x e))
