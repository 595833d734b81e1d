-- The way with the number c is the choice with that number.
-- Assumes nothing.
use Prim.Native.Nat.{ℕ, zero, suc, ◌+◌, ◌-◌, ◌*◌, ◌/◌, ◌%◌, ◌≤◌, ◌<◌}
use native.Mathlib.Omega.{arith}
use native.Mathlib.Nat.{mul-zero, div-add-mod', div-lt_iff_lt-mul, mod-lt}
use mathlib.Core.Path.{◌≡◌, refl, sym, ap, ap₂, subst, ◌∙◌}
use mathlib.Core.Bool.{Bool, true, false}
use mathlib.Core.List.{List, [], ◌∷◌, ◌++◌}
use borrow.Author.Tests.{ltb-true, ltb-false}
use lib.Dec.{ltb}
use lib.ListN.{length}
use Rattle.descriptions.specs.Descr.{number, number_all, number_any}
use Rattle.descriptions.specs.Remnant.{remnant}
use Rattle.theory.specs.Net.{Graph}
use Rattle.engine.specs.Placed.{Placed, place, Places, stop, ◌also◌, Options, no_more, option, own, inner, strip, strip_all, strip_any}
use Rattle.engine.specs.Marks.{Marking, kept_of, keep, keep_all, keep_any}
use Rattle.modes_by_marks.proofs.Finding.{Pick, pick_as, pick_pairs, picks, picks_all, picks_any}
use Rattle.modes_by_marks.proofs.Joined.{keep_next}
use Rattle.modes_by_marks.proofs.Picks.{Nth, nth_left, nth_right, nth_each, nth_as, nth_pairs, as_long, picks_long, picks_all_long}
use Rattle.modes_by_marks.proofs.Picks.{pairs_long, picks_next}
use Rattle.loading.specs.Entry.{Entry, entry, graphs}
use Rattle.loading.specs.Loaded.{extent}
use Rattle.loading.specs.At.{At, AtAll, AtAny}
use Rattle.counting.specs.Counted.{inner_both}
use Rattle.entering.specs.Inputs.{Inputs}
use Rattle.choosing.specs.Ways.{Take, take_as, beside_other, way_in, way_all, way_any, way_of, marks_of}
use Rattle.choosing.specs.Ways.{number_both, way_both}

-- what is taken: the entries
abbrev pub entries_of : List Take → List Entry
entries_of [] = []
entries_of (k ∷ ks) = k.entry ∷ entries_of ks

-- those that are not among what is certain
abbrev pub new_of : List Take → List Take
new_of [] = []
new_of (k ∷ ks) = elim k.new [ true ↦ k ∷ new_of ks | false ↦ new_of ks ]

-- what is taken, as the choices have it
abbrev pick_of : List Take → Pick Graph
pick_of ks = (graphs (entries_of ks), marks_of ks)

pick_append : (ks os : List Take) → pick_of (ks ++ os) ≡ ((pick_of ks).0 ++ (pick_of os).0, (pick_of ks).1 ++ (pick_of os).1)
pick_append [] os = refl
pick_append (k ∷ ks) os = ap (λ (p : Pick Graph). (k.entry.graph ∷ p.0, k.mark ∷ p.1)) (pick_append ks os)

-- a number below a product has a quotient below the one factor and a remainder below the other
pub some_rest : (c x r : ℕ) → c < x * r → 0 < r
some_rest c x zero h = absurd (omega (arith, mul-zero x))
some_rest c x (suc r) h = omega arith

pub split_below : (c x r : ℕ) → c < x * r → (c / r < x) × (c % r < r)
split_below c x r h = let s = some_rest c x r h in ((div-lt_iff_lt-mul s).1 h, mod-lt c s)

-- of two lists together the one with the number c
nth_both : (l k : List (Pick Graph)) (x r c : ℕ) → length k ≡ r → c < x * r → (xs ys : List Take) → Nth l (c / r) (pick_of xs) →
    Nth k (c % r) (pick_of ys) → Nth (pick_pairs l k) c (pick_of (xs ++ ys))
nth_both l k x r c long h xs ys s u =
    let e : c / r * length k + c % r ≡ c = ap (λ (z : ℕ). c / r * z + c % r) long ∙ div-add-mod' c r in
    subst (λ (z : ℕ). Nth (pick_pairs l k) z (pick_of (xs ++ ys))) e
    (subst (Nth (pick_pairs l k) (c / r * length k + c % r)) (sym (pick_append xs ys))
    (nth_pairs l k (c / r) (c % r) (pick_of xs) (pick_of ys) s u))

module _ (t : List ℕ) (m : Marking) where
  mutual
    unfolding number

    in_nth : (new : Bool) (p n : ℕ) (d : Placed) (q r : ℕ) (at : At t p n d q r) (c : ℕ) → c < number (strip (keep m d)) →
        Nth (picks (keep m d)) c
        (own d ∷ graphs (entries_of (way_in t m new p n d q r at c)), marks_of (way_in t m new p n d q r at c))
    in_nth new p n (place g ds) q r at c h =
        nth_each g (picks_all (keep_all m ds)) c (pick_of (way_all t m new (p + extent g + 1) (n + length g) ds q r at.6 c))
        (all_nth new (p + extent g + 1) (n + length g) ds q r at.6 c h)

    all_nth : (new : Bool) (p n : ℕ) (ds : Places) (q r : ℕ) (at : AtAll t p n ds q r) (c : ℕ) →
        c < number_all (strip_all (keep_all m ds)) → Nth (picks_all (keep_all m ds)) c (pick_of (way_all t m new p n ds q r at c))
    all_nth new p n stop q r at c h = record { u = []; v = []; is = refl; long = omega arith }
    all_nth new p n (a also ds) q r at c h =
        let many = number_any (strip_any (keep_any m a)) in
        let rest = number_all (strip_all (keep_all m ds)) in
        let beside = beside_other (remnant (kept_of m a)) new in
        let below = split_below c many rest h in
        nth_both (picks_any (keep_any m a)) (picks_all (keep_all m ds)) many rest c (picks_all_long (keep_all m ds)) h
        (way_any t m beside (p + 1) n a at.0 at.1 at.4 (c / rest))
        (way_all t m new at.0 at.1 ds q r at.5 (c % rest))
        (any_nth beside (p + 1) n a at.0 at.1 at.4 (c / rest) below.0)
        (all_nth new at.0 at.1 ds q r at.5 (c % rest) below.1)

    any_nth : (new : Bool) (p n : ℕ) (a : Options) (q r : ℕ) (at : AtAny t p n a q r) (i : ℕ) → i < number_any (strip_any (keep_any m a)) →
        Nth (picks_any (keep_any m a)) i (pick_of (way_any t m new p n a q r at i))
    any_nth new p n no_more q r at i h = absurd (omega arith)
    any_nth new p n (option x d a) q r at i h =
        go (m x) (ltb i many) refl h (λ h. in_nth new p n d at.0 at.1 at.3 i h)
        (λ h. any_nth new at.0 at.1 a q r at.4 i h) (λ h. any_nth new at.0 at.1 a q r at.4 (i - many) h)
      where
        many : ℕ
        many = number (strip (keep m d))

        one : List Take
        one = take_as (entry p n (own d)) x new ∷ way_in t m new p n d at.0 at.1 at.3 i

        on : ℕ → List Take
        on j = way_any t m new at.0 at.1 a q r at.4 j

        first : List (Pick Graph)
        first = pick_as x (picks (keep m d))

        later : List (Pick Graph)
        later = picks_any (keep_any m a)

        go : (b c : Bool) → ltb i many ≡ c →
            i < number_any (strip_any {Graph = Graph} (elim b [ true ↦ option x (keep m d) (keep_any m a) | false ↦ keep_any m a ])) →
            (i < many → Nth (picks (keep m d)) i (
              own d ∷ graphs (entries_of (way_in t m new p n d at.0 at.1 at.3 i)),
              marks_of (way_in t m new p n d at.0 at.1 at.3 i),
            )) →
            (i < number_any (strip_any (keep_any m a)) → Nth later i (pick_of (on i))) →
            (i - many < number_any (strip_any (keep_any m a)) → Nth later (i - many) (pick_of (on (i - many)))) →
            Nth (picks_any {Graph = Graph} (elim b [ true ↦ option x (keep m d) (keep_any m a) | false ↦ keep_any m a ])) i
            (pick_of (elim b [ true ↦ elim c [ true ↦ one | false ↦ on (i - many) ] | false ↦ on i ]))
        go true true e h f g k = nth_left first later i (pick_of one)
            (nth_as x (picks (keep m d)) i (
              own d ∷ graphs (entries_of (way_in t m new p n d at.0 at.1 at.3 i)),
              marks_of (way_in t m new p n d at.0 at.1 at.3 i),
            ) (f (ltb-true i many e)))
        go true false e h f g k =
            let far : many ≤ i = ltb-false i many e in
            let long : length first ≡ many = as_long x (picks (keep m d)) ∙ picks_long (keep m d) in
            let same : length first + (i - many) ≡ i = omega arith in
            subst (λ (z : ℕ). Nth (first ++ later) z (pick_of (on (i - many)))) same
            (nth_right first later (i - many) (pick_of (on (i - many))) (k (omega arith)))
        go false c e h f g k = g h

module _ {n : ℕ} {t : List ℕ} (i : Inputs n t) (m : Marking) where
  -- the choices of what is kept of both
  abbrev pub picks_both : List (Pick Graph)
  picks_both = picks_all (keep_all m (inner_both i.first.d i.second.d))

  both_are : picks_both ≡ pick_pairs (picks_all (keep_all m (inner i.first.d))) (picks_all (keep_all m (inner i.second.d)))
  both_are = ap picks_all (keep_next m (inner i.first.d) (inner i.second.d))
      ∙ picks_next (keep_all m (inner i.first.d)) (keep_all m (inner i.second.d))

  all_long : (d : Placed) → length (picks_all (keep_all m (inner d))) ≡ number (strip (keep m d))
  unfolding number
  all_long (place g ds) = picks_all_long (keep_all m ds)

  pub picks_count : length picks_both ≡ number_both i m
  unfolding number_both
  picks_count = ap length both_are
      ∙ pairs_long (picks_all (keep_all m (inner i.first.d))) (picks_all (keep_all m (inner i.second.d)))
      ∙ ap₂ {C = ℕ} ◌*◌ (all_long i.first.d) (all_long i.second.d)

  input_nth : (p n : ℕ) (d : Placed) (q r : ℕ) (at : At t p n d q r) (c : ℕ) → c < number (strip (keep m d)) →
      Nth (picks_all (keep_all m (inner d))) c (pick_of (way_in t m false p n d q r at c))
  unfolding number
  input_nth p n (place g ds) q r at c h = all_nth t m false (p + extent g + 1) (n + length g) ds q r at.6 c h

  pub way_picks : (c : ℕ) → c < number_both i m →
      Nth picks_both c (graphs (entries_of (way_both i m c)), marks_of (way_both i m c))
  unfolding number_both way_both
  way_picks c h =
      let x = number (strip (keep m i.first.d)) in
      let r = number (strip (keep m i.second.d)) in
      let below = split_below c x r h in
      subst (λ (l : List (Pick Graph)). Nth l c (pick_of (way_both i m c))) (sym both_are)
      (nth_both (picks_all (keep_all m (inner i.first.d))) (picks_all (keep_all m (inner i.second.d))) x r c
      (all_long i.second.d) h (way_of m false i.first (c / r)) (way_of m false i.second (c % r))
      (input_nth 0 i.first.from i.first.d i.first.end i.first.to i.first.at (c / r) below.0)
      (input_nth 1024 i.second.from i.second.d i.second.end i.second.to i.second.at (c % r) below.1))
