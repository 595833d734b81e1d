-- The marks of the alternatives below a number are changed in one way: all are kept, only those found are kept, or none is found.
-- Assumes nothing.
use Prim.Native.Nat.{ℕ, ◌+◌, ◌≤◌, ◌<◌}
use native.Mathlib.Omega.{arith}
use mathlib.Core.Path.{◌≡◌, refl, sym, ap, ◌∙◌}
use mathlib.Core.Bool.{Bool, true, false, not}
use mathlib.Core.List.{List}
use borrow.Author.Tests.{ltb-true, ltb-false}
use lib.Dec.{eqb, ltb}
use lib.ListN.{length, get_or, take, drop, get_or-eq_default}
use borrow.Rule.Slice.PartMut.{put_mid}
use Rattle.descriptions.proofs.Tests.{eqb_no}
use Rattle.area.specs.Map.{MARKS}
use Rattle.marks.specs.Marked.{marking, lights, Cleared, Changed, dimmed, LitKept, doused, Doused}
use Rattle.area.specs.Region.{region, Zeroed}
use Rattle.area.proofs.Region.{length_region, getD_region, part_long, part_at, back_length, back_at, back_off}
use Rattle.marks.proofs.Marks.{mark_at, light_at, same_marking}

pub dimmed_found : (v : ℕ) → v ≡ 2 → dimmed v ≡ 2
unfolding dimmed
dimmed_found v e = ap (λ (x : ℕ). elim (eqb x 2) [ true ↦ 2 | false ↦ 1 ]) e

pub dimmed_other : (v : ℕ) → (v ≡ 2 → ⊥) → dimmed v ≡ 1
unfolding dimmed
dimmed_other v e = ap (λ (b : Bool). elim b [ true ↦ 2 | false ↦ 1 ]) (eqb_no v 2 e)

dimmed_kept : (v : ℕ) → not (eqb (dimmed v) 1) ≡ eqb v 2
unfolding dimmed
dimmed_kept v = go (eqb v 2)
  where
    go : (b : Bool) → not (eqb (elim b [ true ↦ 2 | false ↦ 1 ]) 1) ≡ b
    go true = refl
    go false = refl

pub doused_dropped : (v : ℕ) → v ≡ 1 → doused v ≡ 1
unfolding doused
doused_dropped v e = ap (λ (x : ℕ). elim (eqb x 1) [ true ↦ 1 | false ↦ 0 ]) e

pub doused_other : (v : ℕ) → (v ≡ 1 → ⊥) → doused v ≡ 0
unfolding doused
doused_other v e = ap (λ (b : Bool). elim b [ true ↦ 1 | false ↦ 0 ]) (eqb_no v 1 e)

doused_kept : (v : ℕ) → eqb (doused v) 1 ≡ eqb v 1
unfolding doused
doused_kept v = go (eqb v 1)
  where
    go : (b : Bool) → eqb (elim b [ true ↦ 1 | false ↦ 0 ]) 1 ≡ b
    go true = refl
    go false = refl

doused_dark : (v : ℕ) → eqb (doused v) 2 ≡ false
unfolding doused
doused_dark v = go (eqb v 1)
  where
    go : (b : Bool) → eqb (elim b [ true ↦ 1 | false ↦ 0 ]) 2 ≡ false
    go true = refl
    go false = refl

-- the n marks s, changed in their turn, are put back
changed_back : (P : ℕ → ℕ → Type 0) (n : ℕ) (w s : List ℕ) → MARKS + n ≤ length w → length s ≡ n →
    ((x : ℕ) → x < n → P (get_or (take n (drop MARKS w)) x 0) (get_or s x 0)) → Changed P n w (put_mid MARKS n w s)
changed_back P n w s room size done = record {
  len = back_length MARKS n w s room size;
  each = λ x h. rw (back_at MARKS n w s room size x h, ← part_at MARKS n w x h) (done x h);
  rest = back_off MARKS n w s room size;
}

pub changed_all : (P : ℕ → ℕ → Type 0) (n k : ℕ) (w s : List ℕ) → k ≡ n → MARKS + n ≤ length w →
    length s ≡ length (take k (drop MARKS w)) → (i : ℕ) → length (take k (drop MARKS w)) ≤ i →
    ((x : ℕ) → x < i → P (get_or (take k (drop MARKS w)) x 0) (get_or s x 0)) → Changed P n w (put_mid MARKS k w s)
changed_all P n k w s e room size i end done =
    let long : length (take k (drop MARKS w)) ≡ n = rw e (part_long MARKS n w room) in
    rw e (changed_back P n w s room (size ∙ long) (λ x h. rw (← e) (done x (omega arith))))

module _ (w : List ℕ) (n : ℕ) (few : n ≤ 1024) (room : 16384 ≤ length w) where
  pub light_all : (w' : List ℕ) → Changed (λ v r. r ≡ dimmed v) n w w' → LitKept w n w'
  light_all w' c = record {
    len = c.len;
    marks = λ y l. mark_at w' y (omega arith) ∙ ap (λ (v : ℕ). not (eqb v 1)) (c.each y l)
        ∙ dimmed_kept (get_or w (MARKS + y) 0) ∙ sym (light_at w y (omega arith));
    rest = c.rest;
  }

-- past the last mark
beyond : (w : List ℕ) → 16384 ≤ length w → (y : ℕ) → 1024 ≤ y → get_or (region MARKS 1024 w) y 0 ≡ 0
beyond w l y a = let e = length_region MARKS 1024 w (omega arith) in get_or-eq_default (region MARKS 1024 w) 0 (omega arith)

module _ (w : List ℕ) (room : 16384 ≤ length w) where
  pub clear_all : (w' : List ℕ) → Zeroed MARKS 1024 w w' → Cleared w w'
  unfolding marking
  clear_all w' c = record {
    len = c.len;
    marks = same_marking _ _ (λ y. ap (λ (v : ℕ). not (eqb v 1)) (none y (ltb y 1024) refl));
    zero = c.is;
    rest = c.rest;
  }
    where
      none : (y : ℕ) (t : Bool) → ltb y 1024 ≡ t → get_or (region MARKS 1024 w') y 0 ≡ 0
      none y true e = let low = ltb-true y 1024 e in getD_region MARKS 1024 w' y low ∙ c.is y low
      none y false e = let len = c.len in beyond w' (omega arith) y (ltb-false y 1024 e)

  pub douse_all : (w' : List ℕ) → Changed (λ v r. r ≡ doused v) 1024 w w' → Doused w w'
  unfolding marking lights
  douse_all w' c = record {
    len = c.len;
    marks = same_marking _ _ (λ y. ap not (kept y (ltb y 1024) refl));
    dark = λ y. none y (ltb y 1024) refl;
    rest = c.rest;
  }
    where
      here : (y : ℕ) → y < 1024 → get_or (region MARKS 1024 w') y 0 ≡ doused (get_or (region MARKS 1024 w) y 0)
      here y l = getD_region MARKS 1024 w' y l ∙ c.each y l ∙ ap doused (sym (getD_region MARKS 1024 w y l))

      long : 16384 ≤ length w'
      long = let l = c.len in omega arith

      kept : (y : ℕ) (t : Bool) → ltb y 1024 ≡ t → eqb (get_or (region MARKS 1024 w') y 0) 1 ≡ eqb (get_or (region MARKS 1024 w) y 0) 1
      kept y true e = ap (λ (v : ℕ). eqb v 1) (here y (ltb-true y 1024 e)) ∙ doused_kept (get_or (region MARKS 1024 w) y 0)
      kept y false e = let a = ltb-false y 1024 e in ap (λ (v : ℕ). eqb v 1) (beyond w' long y a ∙ sym (beyond w room y a))

      none : (y : ℕ) (t : Bool) → ltb y 1024 ≡ t → eqb (get_or (region MARKS 1024 w') y 0) 2 ≡ false
      none y true e = ap (λ (v : ℕ). eqb v 2) (here y (ltb-true y 1024 e)) ∙ doused_dark (get_or (region MARKS 1024 w) y 0)
      none y false e = let a = ltb-false y 1024 e in ap (λ (v : ℕ). eqb v 2) (beyond w' long y a)
