-- Graphs that share no word have room together. Assumes nothing.
use mathlib.Core.Path.{◌≡◌, refl, sym, ap, subst}
use mathlib.Core.List.Memᴰ
use mathlib.Core.List.{List, [], ◌∷◌, ◌++◌, Memᴰ}
use mathlib.Core.Logic.{⊎_elim}
use Prim.Native.Nat.{ℕ, suc, ◌+◌, ◌*◌, ◌≤◌, ◌<◌}
use native.Mathlib.Omega.{arith}
use lib.ListN.{length, length-append}
use Rattle.theory.proofs.Weight.{distinct_length, range, range_length, range_in, range_above, range_distinct}
use Rattle.theory.specs.Weight.{weight, weights}
use Rattle.descriptions.proofs.Tests.{Distinct, distinct_append}
use Rattle.loading.specs.Entry.{Entry, graphs}
use Rattle.classes.specs.Entry.{Lies, Aside}
use Rattle.classes.specs.Holds.{EntriesApart, Holds}
use Rattle.classes.proofs.Comings.{graphs_append, apart_more}

-- the words that the graphs take
abbrev taken : List Entry → List ℕ
taken [] = []
taken (e ∷ es) = range e.at (suc (weight e.graph)) ++ taken es

taken_length : (es : List Entry) → length (taken es) ≡ weights (graphs es) + length es
taken_length [] = refl
taken_length (e ∷ es) =
    let r = taken_length es in
    let a = length-append (range e.at (suc (weight e.graph))) (taken es) in
    let b = range_length e.at (suc (weight e.graph)) in
    omega arith

taken_from : (es : List Entry) (q : ℕ) → Memᴰ q (taken es) →
    (e : Entry) × (Memᴰ e es × ((e.at ≤ q) × (q < e.at + suc (weight e.graph))))
taken_from [] q m = absurd (Memᴰ.not-nil m)
taken_from (e ∷ es) q m = ⊎_elim
    (λ i. (e, (Memᴰ.head refl, range_above e.at (suc (weight e.graph)) q i)))
    (λ i. let r = taken_from es q i in (r.0, (Memᴰ.tail r.1.0, r.1.1)))
    (Memᴰ.append_cases (range e.at (suc (weight e.graph))) m)

taken_distinct : (es : List Entry) → EntriesApart es → Distinct (taken es)
taken_distinct [] a = tt
taken_distinct (e ∷ es) a = distinct_append (range e.at (suc (weight e.graph))) (taken es)
    (range_distinct e.at (suc (weight e.graph))) (taken_distinct es a.1)
    (λ q i j.
    let p = range_above e.at (suc (weight e.graph)) q i in
    let r = taken_from es q j in
    let p0 = p.0 in let p1 = p.1 in let r0 = r.1.1.0 in let r1 = r.1.1.1 in
    ⊎_elim (λ o. omega arith) (λ o. omega arith) (a.0 r.0 r.1.0).1)

-- they take no more than the words that there are
words_enough : (m : ℕ) (es : List Entry) → EntriesApart es → ((e : Entry) → Memᴰ e es → e.at + suc (weight e.graph) ≤ m) →
    weights (graphs es) + length es ≤ m
words_enough m es a f =
    let d = distinct_length (taken es) (range 0 m) (taken_distinct es a) (λ q i. let r = taken_from es q i in let l = f r.0 r.1.0 in
    let r1 = r.1.1.1 in range_in 0 m q (omega arith) (omega arith)) in
    let l = taken_length es in
    let n = range_length 0 m in
    omega arith

-- so a graph that shares no word with those that are there has room, where there are no more than 682 numbers
pub room_enough : (n : ℕ) (es : List Entry) (k : ℕ) (w : List ℕ) (h : Holds n es k w) (e : Entry) → Lies w e.at e.number e.graph →
    ((o : Entry) → Memᴰ o es → Aside e o) → 3 * n ≤ 2048 → 3 * n + weights (graphs es ++ e.graph ∷ []) ≤ 4096
room_enough n es k w h e l a b =
    let r = words_enough 2048 (es ++ e ∷ []) (apart_more es e h.apart a)
    (λ o m. ⊎_elim (λ i. (h.each o i).lies.fits)
    (λ i. subst (λ (z : Entry). z.at + suc (weight z.graph) ≤ 2048) (sym (Memᴰ.eq_of_singleton i)) l.fits)
    (Memᴰ.append_cases es m)) in
    let g : weights (graphs (es ++ e ∷ [])) ≡ weights (graphs es ++ e.graph ∷ []) = ap weights (graphs_append es (e ∷ [])) in
    omega arith
