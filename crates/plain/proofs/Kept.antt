-- Each alternative that a way takes is kept, and its mark stands loaded with it.
-- Assumes nothing.
use Prim.Native.Nat.{ℕ, ◌+◌, ◌-◌, ◌/◌, ◌%◌, ◌≤◌, ◌<◌}
use native.Mathlib.Omega.{arith}
use mathlib.Core.Path.{◌≡◌, refl, subst}
use mathlib.Core.Bool.{Bool, true, false}
use mathlib.Core.List.{List, ◌∷◌, Memᴰ}
use lib.Dec.{ltb}
use lib.ListN.{length}
use Rattle.descriptions.specs.Descr.{number, number_all}
use Rattle.descriptions.specs.Remnant.{remnant}
use Rattle.area.specs.Map.{SIZE}
use Rattle.area.specs.Region.{loaded_words}
use Rattle.packing.specs.Packed.{number_step}
use Rattle.engine.specs.Placed.{Placed, place, Places, stop, ◌also◌, Options, no_more, option, own, strip, strip_all}
use Rattle.engine.specs.Marks.{Marking, kept_of, keep, keep_all}
use Rattle.loading.specs.Entry.{entry}
use Rattle.loading.specs.Loaded.{extent}
use Rattle.loading.specs.At.{At, AtAll, AtAny}
use Rattle.loading.specs.Lying.{Lying}
use Rattle.loading.proofs.Walking.{all_bounds, any_bounds}
use Rattle.marks.specs.Marked.{marking}
use Rattle.marks.proofs.Reading.{Read, read_option}
use Rattle.entering.specs.Inputs.{Inputs}
use Rattle.choosing.specs.Ways.{Take, take_as, beside_other, way_in, way_all, way_any, way_of, way_both}
use Rattle.choosing.proofs.Numbers.{Each, each_none, each_cons, each_append}
use Rattle.plain.specs.Lit.{KeptAt}

-- what holds of a way through the first alternative where it is kept, and of all through later ones, holds of the one that is taken
kept_or_later : (P : List Take → Type 0) (b c : Bool) (one : List Take) (on : ℕ → List Take) (i j : ℕ) → (b ≡ true → P one) →
    ((l : ℕ) → P (on l)) → P (elim b [ true ↦ elim c [ true ↦ one | false ↦ on j ] | false ↦ on i ])
kept_or_later P true true one on i j h f = h refl
kept_or_later P true false one on i j h f = f j
kept_or_later P false c one on i j h f = f i

module _ (w : List ℕ) (room : SIZE ≤ length w) where
  abbrev t : List ℕ
  t = loaded_words w

  abbrev m : Marking
  m = marking w

  abbrev Stays : Take → Type 0
  Stays k = KeptAt w k.entry.at k.mark

  here : (p x q : ℕ) → Read w p x q → m x ≡ true → KeptAt w p x
  here p x q r e = record { here = r.here; inside = r.inside; mark = r.mark; kept = e }

  mutual
    in_stays : (new : Bool) (p n : ℕ) (d : Placed) (q r : ℕ) (at : At t p n d q r) → r < number_step → (c : ℕ) →
        Each Stays (way_in t m new p n d q r at c)
    in_stays new p n (place g ds) q r at low c =
        let far = at.4 in all_stays new (p + extent g + 1) (n + length g) ds q r (omega arith) at.6 low c

    all_stays : (new : Bool) (p n : ℕ) (ds : Places) (q r : ℕ) → p ≤ length t → (at : AtAll t p n ds q r) → r < number_step → (c : ℕ) →
        Each Stays (way_all t m new p n ds q r at c)
    all_stays new p n stop q r h at low c = each_none Stays
    all_stays new p n (a also ds) q r h at low c =
        let there = at.2 in
        let first = any_bounds t a (p + 1) n at.0 at.1 (omega arith) at.4 in
        let later = (all_bounds t ds at.0 at.1 q r first.1 at.5).2 in
        let rest = number_all (strip_all (keep_all m ds)) in
        let beside = beside_other (remnant (kept_of m a)) new in
        each_append Stays (way_any t m beside (p + 1) n a at.0 at.1 at.4 (c / rest))
        (way_all t m new at.0 at.1 ds q r at.5 (c % rest))
        (any_stays beside (p + 1) n a at.0 at.1 at.4 (omega arith) (c / rest))
        (all_stays new at.0 at.1 ds q r first.1 at.5 low (c % rest))

    any_stays : (new : Bool) (p n : ℕ) (a : Options) (q r : ℕ) (at : AtAny t p n a q r) → r < number_step → (i : ℕ) →
        Each Stays (way_any t m new p n a q r at i)
    any_stays new p n no_more q r at low i = each_none Stays
    any_stays new p n (option x d a) q r at low i =
        let read = read_option w room x d a p n q r at low in
        let many = number (strip (keep m d)) in
        let one = take_as (entry p n (own d)) x new in
        kept_or_later (Each Stays) (m x) (ltb i many) (one ∷ way_in t m new p n d at.0 at.1 at.3 i)
        (way_any t m new at.0 at.1 a q r at.4) i (i - many)
        (λ e. each_cons Stays one (way_in t m new p n d at.0 at.1 at.3 i) (here p x at.0 read.0 e)
        (in_stays new p n d at.0 at.1 at.3 read.1 i))
        (λ l. any_stays new at.0 at.1 a q r at.4 low l)

  of_stays : {n p left : ℕ} (l : Lying n t p left) → n < number_step → (c : ℕ) → Each Stays (way_of m false l c)
  of_stays {n} {p} {left} l few c = let low = l.low in in_stays false p l.from l.d l.end l.to l.at (omega arith) c

  both_stays : {n : ℕ} (i : Inputs n t) (c : ℕ) → Each Stays (way_both i m c)
  unfolding way_both
  both_stays i c =
      let many = number (strip (keep m i.second.d)) in
      each_append Stays (way_of m false i.first (c / many)) (way_of m false i.second (c % many))
      (of_stays i.first i.ground.few (c / many)) (of_stays i.second i.ground.few (c % many))

pub way_kept : {n : ℕ} {t : List ℕ} (i : Inputs n t) (w : List ℕ) → SIZE ≤ length w → loaded_words w ≡ t → (c : ℕ) (x : Take) →
    Memᴰ x (way_both i (marking w) c) → KeptAt w x.entry.at x.mark
way_kept {n} {t} i w room e =
    subst (λ (t : List ℕ). (i : Inputs n t) (c : ℕ) (x : Take) → Memᴰ x (way_both i (marking w) c) → KeptAt w x.entry.at x.mark)
    e (λ i. both_stays w room i) i
