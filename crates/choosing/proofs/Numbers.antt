-- Where the alternatives of a way stand: they are of the inputs, and their numbers rise.
-- Assumes nothing.
use Prim.Native.Nat.{ℕ, ◌+◌, ◌-◌, ◌/◌, ◌%◌, ◌≤◌, ◌<◌}
use native.Mathlib.Omega.{arith}
use mathlib.Core.Path.{◌≡◌, sym, ap, subst}
use mathlib.Core.Logic.{⊎_elim}
use mathlib.Core.Bool.{Bool, true, false}
use mathlib.Core.List.Memᴰ
use mathlib.Core.List.{List, [], ◌∷◌, ◌++◌, Memᴰ}
use lib.Dec.{ltb}
use lib.ListN.{length}
use Rattle.descriptions.specs.Descr.{number, number_all}
use Rattle.descriptions.specs.Remnant.{remnant}
use Rattle.engine.specs.Placed.{Placed, place, Places, stop, ◌also◌, Options, no_more, option, own, strip, strip_all}
use Rattle.engine.specs.Marks.{Marking, kept_of, keep, keep_all}
use Rattle.loading.specs.Entry.{Entry, entry}
use Rattle.loading.specs.Loaded.{extent}
use Rattle.loading.specs.At.{At, AtAll, AtAny}
use Rattle.loading.specs.Lying.{Lying}
use Rattle.loading.proofs.Walking.{at_bounds, any_bounds}
use Rattle.entering.specs.Taken.{Among, AmongAll, AmongAny, AmongOf}
use Rattle.entering.specs.Inputs.{Inputs}
use Rattle.choosing.specs.Ways.{Take, take_as, beside_other, way_in, way_all, way_any, way_of, way_both}

-- ---- of all that are taken
abbrev pub Each : (Take → Type 0) → List Take → Type 0
Each P ks = (k : Take) → Memᴰ k ks → P k

module _ (P : Take → Type 0) where
  pub each_none : Each P []
  each_none k i = absurd (Memᴰ.not-nil i)

  pub each_cons : (k : Take) (ks : List Take) → P k → Each P ks → Each P (k ∷ ks)
  each_cons k ks h e o i = ⊎_elim (λ z. subst P (sym z) h) (e o) (Memᴰ.cases_cons i)

  pub each_append : (ks os : List Take) → Each P ks → Each P os → Each P (ks ++ os)
  each_append ks os e f o i = ⊎_elim (e o) (f o) (Memᴰ.append_cases ks i)

-- what holds of a way through the first alternative and of all through later ones holds of the one that is taken
pub first_or_later : (P : List Take → Type 0) (b c : Bool) (one : List Take) (on : ℕ → List Take) (i j : ℕ) → P one →
    ((l : ℕ) → P (on l)) →
    P (elim b [ true ↦ elim c [ true ↦ one | false ↦ on j ] | false ↦ on i ])
first_or_later P true true one on i j h f = h
first_or_later P true false one on i j h f = f j
first_or_later P false c one on i j h f = f i

-- ---- the numbers rise from n on, and are below m
abbrev pub Rises : ℕ → ℕ → List Take → Type 0
Rises n m [] = n ≤ m
Rises n m (k ∷ ks) = (n ≤ k.entry.number) × Rises (k.entry.number + 1) m ks

rises_wide : (n m n' m' : ℕ) (ks : List Take) → n' ≤ n → m ≤ m' → Rises n m ks → Rises n' m' ks
rises_wide n m n' m' [] h h' s = omega arith
rises_wide n m n' m' (k ∷ ks) h h' s =
    let low = s.0 in (omega arith, rises_wide (k.entry.number + 1) m (k.entry.number + 1) m' ks (omega arith) h' s.1)

rises_append : (n m l : ℕ) (ks os : List Take) → Rises n m ks → Rises m l os → Rises n l (ks ++ os)
rises_append n m l [] os s u = rises_wide m l n l os s (omega arith) u
rises_append n m l (k ∷ ks) os s u = (s.0, rises_append (k.entry.number + 1) m l ks os s.1 u)

pub rises_few : (n m : ℕ) (ks : List Take) → Rises n m ks → n + length ks ≤ m
rises_few n m [] s = omega arith
rises_few n m (k ∷ ks) s = let low = s.0 in omega (arith, rises_few (k.entry.number + 1) m ks s.1)

pub rises_between : (n m : ℕ) (ks : List Take) → Rises n m ks → Each (λ k. (n ≤ k.entry.number) × (k.entry.number < m)) ks
rises_between n m [] s k i = absurd (Memᴰ.not-nil i)
rises_between n m (k ∷ ks) s o i =
    let low = s.0 in
    ⊎_elim (λ e. let f : o.entry.number ≡ k.entry.number = ap (λ (x : Take). x.entry.number) e in
    (omega arith, omega (arith, rises_few (k.entry.number + 1) m ks s.1)))
    (λ j. let b = rises_between (k.entry.number + 1) m ks s.1 o j in let c = b.0 in (omega arith, b.1))
    (Memᴰ.cases_cons i)

-- what comes before one in the list has lower numbers
pub rises_before : (n m : ℕ) (ks os : List Take) (k : Take) → Rises n m (ks ++ k ∷ os) →
    Each (λ o. o.entry.number < k.entry.number) ks
rises_before n m [] os k s o i = absurd (Memᴰ.not-nil i)
rises_before n m (l ∷ ks) os k s o i =
    ⊎_elim (λ e. let f : o.entry.number ≡ l.entry.number = ap (λ (x : Take). x.entry.number) e in
    let b = here ks (l.entry.number + 1) s.1 in omega arith)
    (λ j. rises_before (l.entry.number + 1) m ks os k s.1 o j) (Memᴰ.cases_cons i)
  where
    here : (ks : List Take) (n : ℕ) → Rises n m (ks ++ k ∷ os) → n ≤ k.entry.number
    here [] n u = u.0
    here (x ∷ ks) n u = let low = u.0 in omega (arith, here ks (x.entry.number + 1) u.1)

module _ (t : List ℕ) (m : Marking) where
  mutual
    pub in_rises : (new : Bool) (p n : ℕ) (d : Placed) (q r : ℕ) (at : At t p n d q r) (c : ℕ) →
        Rises (n + 1) r (way_in t m new p n d q r at c)
    in_rises new p n (place g ds) q r at c =
        let some = at.0 in
        let room = at.4 in
        rises_wide (n + length g) r (n + 1) r (way_all t m new (p + extent g + 1) (n + length g) ds q r at.6 c) (omega arith)
        (omega arith) (all_rises new (p + extent g + 1) (n + length g) ds q r (omega arith) at.6 c)

    pub all_rises : (new : Bool) (p n : ℕ) (ds : Places) (q r : ℕ) → p ≤ length t → (at : AtAll t p n ds q r) (c : ℕ) →
        Rises n r (way_all t m new p n ds q r at c)
    all_rises new p n stop q r h at c = let e = at.1 in omega arith
    all_rises new p n (a also ds) q r h at c =
        let there = at.2 in
        let first = any_bounds t a (p + 1) n at.0 at.1 (omega arith) at.4 in
        let rest = number_all (strip_all (keep_all m ds)) in
        let beside = beside_other (remnant (kept_of m a)) new in
        rises_append n at.1 r (way_any t m beside (p + 1) n a at.0 at.1 at.4 (c / rest))
        (way_all t m new at.0 at.1 ds q r at.5 (c % rest))
        (any_rises beside (p + 1) n a at.0 at.1 (omega arith) at.4 (c / rest))
        (all_rises new at.0 at.1 ds q r first.1 at.5 (c % rest))

    pub any_rises : (new : Bool) (p n : ℕ) (a : Options) (q r : ℕ) → p ≤ length t → (at : AtAny t p n a q r) (i : ℕ) →
        Rises n r (way_any t m new p n a q r at i)
    any_rises new p n no_more q r h at i = let e = at.1 in omega arith
    any_rises new p n (option x d a) q r h at i =
        let first = at_bounds t d p n at.0 at.1 at.3 in
        let near = first.2 in
        let far = (any_bounds t a at.0 at.1 q r first.1 at.4).2 in
        let many = number (strip (keep m d)) in
        first_or_later (Rises n r) (m x) (ltb i many)
        (take_as (entry p n (own d)) x new ∷ way_in t m new p n d at.0 at.1 at.3 i)
        (way_any t m new at.0 at.1 a q r at.4) i (i - many) (
          omega arith,
          rises_wide (n + 1) at.1 (n + 1) r (way_in t m new p n d at.0 at.1 at.3 i) (omega arith) far
              (in_rises new p n d at.0 at.1 at.3 i),
        )
        (λ l. rises_wide at.1 r n r (way_any t m new at.0 at.1 a q r at.4 l) (omega arith) (omega arith)
        (any_rises new at.0 at.1 a q r first.1 at.4 l))

  -- ---- each is one of U, and stands among the loaded words
  module _ (U : List Entry) where
    abbrev pub There : Take → Type 0
    There k = Memᴰ k.entry U × (k.entry.at < length t)

    graph_there : (p n : ℕ) (d : Placed) (q r : ℕ) (at : At t p n d q r) → Among U t p n d q r at → Memᴰ (entry p n (own d)) U
    graph_there p n (place g ds) q r at u = u.0

    mutual
      in_there : (new : Bool) (p n : ℕ) (d : Placed) (q r : ℕ) (at : At t p n d q r) → Among U t p n d q r at → (c : ℕ) →
          Each There (way_in t m new p n d q r at c)
      in_there new p n (place g ds) q r at u c = all_there new (p + extent g + 1) (n + length g) ds q r at.6 u.1 c

      all_there : (new : Bool) (p n : ℕ) (ds : Places) (q r : ℕ) (at : AtAll t p n ds q r) → AmongAll U t p n ds q r at → (c : ℕ) →
          Each There (way_all t m new p n ds q r at c)
      all_there new p n stop q r at u c = each_none There
      all_there new p n (a also ds) q r at u c =
          let rest = number_all (strip_all (keep_all m ds)) in
          let beside = beside_other (remnant (kept_of m a)) new in
          each_append There (way_any t m beside (p + 1) n a at.0 at.1 at.4 (c / rest))
          (way_all t m new at.0 at.1 ds q r at.5 (c % rest))
          (any_there beside (p + 1) n a at.0 at.1 at.4 u.0 (c / rest))
          (all_there new at.0 at.1 ds q r at.5 u.1 (c % rest))

      any_there : (new : Bool) (p n : ℕ) (a : Options) (q r : ℕ) (at : AtAny t p n a q r) → AmongAny U t p n a q r at → (i : ℕ) →
          Each There (way_any t m new p n a q r at i)
      any_there new p n no_more q r at u i = each_none There
      any_there new p n (option x d a) q r at u i =
          let first = at_bounds t d p n at.0 at.1 at.3 in
          let near = first.0 in
          let far = first.1 in
          let many = number (strip (keep m d)) in
          let one = take_as (entry p n (own d)) x new in
          first_or_later (Each There) (m x) (ltb i many) (one ∷ way_in t m new p n d at.0 at.1 at.3 i)
          (way_any t m new at.0 at.1 a q r at.4) i (i - many)
          (each_cons There one (way_in t m new p n d at.0 at.1 at.3 i)
          (graph_there p n d at.0 at.1 at.3 u.0, omega arith) (in_there new p n d at.0 at.1 at.3 u.0 i))
          (λ l. any_there new at.0 at.1 a q r at.4 u.1 l)

-- ---- by what stands loaded
module _ {n : ℕ} {t : List ℕ} {p left : ℕ} (m : Marking) (new : Bool) (l : Lying n t p left) (c : ℕ) where
  pub of_rises : Rises (l.from + 1) l.to (way_of m new l c)
  of_rises = in_rises t m new p l.from l.d l.end l.to l.at c

  of_there : (U : List Entry) → AmongOf U l → Each (There t m U) (way_of m new l c)
  of_there U u = in_there t m U new p l.from l.d l.end l.to l.at u c

module _ {n : ℕ} {t : List ℕ} (i : Inputs n t) (m : Marking) (c : ℕ) where
  way_there : Each (There t m i.U) (way_both i m c)
  unfolding way_both
  way_there =
      let many = number (strip (keep m i.second.d)) in
      each_append (There t m i.U) (way_of m false i.first (c / many)) (way_of m false i.second (c % many))
      (of_there m false i.first (c / many) i.U i.among_first) (of_there m false i.second (c % many) i.U i.among_second)

  -- each alternative is one of the inputs
  pub way_inside : (k : Take) → Memᴰ k (way_both i m c) → Memᴰ k.entry i.U
  way_inside k s = (way_there k s).0

  pub way_loaded : (k : Take) → Memᴰ k (way_both i m c) → k.entry.at < length t
  way_loaded k s = (way_there k s).1

  pub way_rises : Rises 0 n (way_both i m c)
  unfolding way_both
  way_rises =
      let many = number (strip (keep m i.second.d)) in
      let xs = way_of m false i.first (c / many) in
      let ys = way_of m false i.second (c % many) in
      let high = i.second.low in
      let apart = i.apart in
      rises_append 0 i.first.to n xs ys
      (rises_wide (i.first.from + 1) i.first.to 0 i.first.to xs (omega arith) (omega arith)
      (of_rises m false i.first (c / many)))
      (rises_wide (i.second.from + 1) i.second.to i.first.to n ys (omega arith) high
      (of_rises m false i.second (c % many)))

  -- there are no more than nodes
  pub way_few : length (way_both i m c) ≤ n
  way_few = omega (arith, rises_few 0 n (way_both i m c) way_rises)
