-- Of the graphs of a way, those that are new are not on the stack, and the others are certain.
-- Assumes nothing.
use Prim.Native.Nat.{ℕ, zero, suc, ◌+◌, ◌-◌, ◌/◌, ◌%◌, ◌≤◌}
use native.Mathlib.Omega.{arith}
use mathlib.Core.Path.{◌≡◌, refl, sym, subst, ◌∙◌}
use mathlib.Core.Logic.{⊎_elim}
use mathlib.Core.Bool.{Bool, true, false}
use mathlib.Core.List.Memᴰ
use mathlib.Core.List.{List, [], ◌∷◌, ◌++◌, Memᴰ}
use lib.Dec.{ltb}
use lib.ListN.{length}
use Rattle.descriptions.specs.Descr.{number, number_all}
use Rattle.descriptions.specs.Remnant.{Remnant, remnant, nothing, alone, several}
use Rattle.theory.specs.Net.{Graph}
use Rattle.theory.specs.Descr.{alts}
use Rattle.engine.specs.Placed.{Placed, place, Places, stop, ◌also◌, Options, no_more, option, own, inner, strip, strip_all, strip_any}
use Rattle.engine.specs.Marks.{Marking, kept_of, keep, keep_all, keep_any}
use Rattle.engine.specs.Certain.{flat, sure_any, certain}
use Rattle.modes_by_marks.proofs.Marks.{kept_alts}
use Rattle.modes_by_marks.proofs.Joined.{certain_next}
use Rattle.loading.specs.Entry.{Entry, entry}
use Rattle.loading.specs.Loaded.{extent}
use Rattle.loading.specs.At.{At, AtAll, AtAny}
use Rattle.loading.proofs.Walking.{at_bounds, any_bounds}
use Rattle.counting.specs.Counted.{inner_both}
use Rattle.entering.specs.Taken.{Free}
use Rattle.entering.specs.Clear.{ByRemnant, ByMark, Clear, ClearAll, ClearLone, ClearOf}
use Rattle.entering.specs.Inputs.{Inputs}
use Rattle.choosing.specs.Ways.{Take, take_as, beside_other, way_in, way_all, way_any, way_of, way_both}
use Rattle.choosing.proofs.Numbers.{Each, each_none, each_cons, each_append, first_or_later, rises_between, any_rises}

-- it is new
abbrev New : Take → Type 0
New k = k.new ≡ true

-- where it is new, its number is not on the stack es
abbrev Off : List Entry → Take → Type 0
Off es k = k.new ≡ true → (o : Entry) → Memᴰ o es → k.entry.number ≡ o.number → ⊥

-- where it is not, its graph is one of xs
abbrev Sure : List Graph → Take → Type 0
Sure xs k = k.new ≡ false → Memᴰ k.entry.graph xs

sure_more : (xs ys : List Graph) (ks : List Take) → ((g : Graph) → Memᴰ g xs → Memᴰ g ys) → Each (Sure xs) ks → Each (Sure ys) ks
sure_more xs ys ks f e k i z = f k.entry.graph (e k i z)

not_both : {A : Type 0} (b : Bool) → b ≡ true → b ≡ false → A
not_both b e f = let z : ◌≡◌ {A = ℕ} 0 1 = cc in absurd (omega arith)

module _ (t : List ℕ) (m : Marking) where
  -- ---- inside of what is new all is
  mutual
    in_news : (p n : ℕ) (d : Placed) (q r : ℕ) (at : At t p n d q r) (new : Bool) → new ≡ true → (c : ℕ) →
        Each New (way_in t m new p n d q r at c)
    in_news p n (place g ds) q r at new e c = all_news (p + extent g + 1) (n + length g) ds q r at.6 new e c

    all_news : (p n : ℕ) (ds : Places) (q r : ℕ) (at : AtAll t p n ds q r) (new : Bool) → new ≡ true → (c : ℕ) →
        Each New (way_all t m new p n ds q r at c)
    all_news p n stop q r at new e c = each_none New
    all_news p n (a also ds) q r at new e c =
        let rest = number_all (strip_all (keep_all m ds)) in
        let beside = beside_other (remnant (kept_of m a)) new in
        each_append New (way_any t m beside (p + 1) n a at.0 at.1 at.4 (c / rest))
        (way_all t m new at.0 at.1 ds q r at.5 (c % rest))
        (any_news (p + 1) n a at.0 at.1 at.4 beside (stays (remnant (kept_of m a))) (c / rest))
        (all_news at.0 at.1 ds q r at.5 new e (c % rest))
      where
        stays : (l : Remnant) → beside_other l new ≡ true
        stays nothing = e
        stays alone = e
        stays several = refl

    any_news : (p n : ℕ) (a : Options) (q r : ℕ) (at : AtAny t p n a q r) (new : Bool) → new ≡ true → (i : ℕ) →
        Each New (way_any t m new p n a q r at i)
    any_news p n no_more q r at new e i = each_none New
    any_news p n (option x d a) q r at new e i =
        let many = number (strip (keep m d)) in
        let one = take_as (entry p n (own d)) x new in
        first_or_later (Each New) (m x) (ltb i many) (one ∷ way_in t m new p n d at.0 at.1 at.3 i)
        (way_any t m new at.0 at.1 a q r at.4) i (i - many)
        (each_cons New one (way_in t m new p n d at.0 at.1 at.3 i) e (in_news p n d at.0 at.1 at.3 new e i))
        (λ l. any_news at.0 at.1 a q r at.4 new e l)

  -- of alternatives none of which is kept none is taken
  none_kept : (p n : ℕ) (a : Options) (q r : ℕ) (at : AtAny t p n a q r) (new : Bool) → kept_of m a ≡ 0 → (i : ℕ) →
      way_any t m new p n a q r at i ≡ []
  none_kept p n no_more q r at new z i = refl
  none_kept p n (option x d a) q r at new z i = go (m x) z (λ e. none_kept at.0 at.1 a q r at.4 new e i)
    where
      many : ℕ
      many = number (strip (keep m d))

      go : (b : Bool) → ◌≡◌ {A = ℕ} (elim b [ true ↦ suc (kept_of m a) | false ↦ kept_of m a ]) 0 →
          (kept_of m a ≡ 0 → way_any t m new at.0 at.1 a q r at.4 i ≡ []) →
          ◌≡◌ {A = List Take} (elim b [
            | true ↦ elim (ltb i many) [
              | true ↦ take_as (entry p n (own d)) x new ∷ way_in t m new p n d at.0 at.1 at.3 i
              | false ↦ way_any t m new at.0 at.1 a q r at.4 (i - many)
            ]
            | false ↦ way_any t m new at.0 at.1 a q r at.4 i
          ]) []
      go true z f = absurd (omega arith)
      go false z f = f z

  none_each : (P : Take → Type 0) (p n : ℕ) (a : Options) (q r : ℕ) (at : AtAny t p n a q r) (new : Bool) → kept_of m a ≡ 0 → (i : ℕ) →
      Each P (way_any t m new p n a q r at i)
  none_each P p n a q r at new z i = subst (Each P) (sym (none_kept p n a q r at new z i)) (each_none P)

  -- the one that stands alone, and then none
  lone_each : (P : Take → Type 0) (x p n : ℕ) (d : Placed) (a : Options) (q r : ℕ) (at : AtAny t p n (option x d a) q r) →
      P (take_as (entry p n (own d)) x false) → (i : ℕ) → kept_of m a ≡ 0 → Each P (way_in t m false p n d at.0 at.1 at.3 i) →
      Each P (elim (ltb i (number (strip (keep m d)))) [
        | true ↦ take_as (entry p n (own d)) x false ∷ way_in t m false p n d at.0 at.1 at.3 i
        | false ↦ way_any t m false at.0 at.1 a q r at.4 (i - number (strip (keep m d)))
      ])
  lone_each P x p n d a q r at h i z f = go (ltb i (number (strip (keep m d))))
    where
      go : (c : Bool) → Each P (elim c [
        | true ↦ take_as (entry p n (own d)) x false ∷ way_in t m false p n d at.0 at.1 at.3 i
        | false ↦ way_any t m false at.0 at.1 a q r at.4 (i - number (strip (keep m d)))
      ])
      go true = each_cons P (take_as (entry p n (own d)) x false) (way_in t m false p n d at.0 at.1 at.3 i) h f
      go false = none_each P at.0 at.1 a q r at.4 false z (i - number (strip (keep m d)))

  -- ---- what is new is not on the stack
  module _ (es : List Entry) where
    mutual
      pub in_off : (p n : ℕ) (d : Placed) (q r : ℕ) (at : At t p n d q r) → Clear es t m p n d q r at → (c : ℕ) →
          Each (Off es) (way_in t m false p n d q r at c)
      in_off p n (place g ds) q r at x c =
          let room = at.4 in
          all_off (p + extent g + 1) (n + length g) ds q r (omega arith) at.6 x c

      all_off : (p n : ℕ) (ds : Places) (q r : ℕ) → p ≤ length t → (at : AtAll t p n ds q r) → ClearAll es t m p n ds q r at → (c : ℕ) →
          Each (Off es) (way_all t m false p n ds q r at c)
      all_off p n stop q r h at x c = each_none (Off es)
      all_off p n (a also ds) q r h at x c =
          let there = at.2 in
          let first = any_bounds t a (p + 1) n at.0 at.1 (omega arith) at.4 in
          let rest = number_all (strip_all (keep_all m ds)) in
          each_append (Off es) (way_any t m (beside_other (remnant (kept_of m a)) false) (p + 1) n a at.0 at.1 at.4 (c / rest))
          (way_all t m false at.0 at.1 ds q r at.5 (c % rest))
          (go (kept_of m a) refl (omega arith) x.0
          (λ e y. any_off (p + 1) n a at.0 at.1 (omega arith) at.4 e y (c / rest)))
          (all_off at.0 at.1 ds q r first.1 at.5 x.1 (c % rest))
        where
          here : Bool → List Take
          here new = way_any t m new (p + 1) n a at.0 at.1 at.4 (c / number_all (strip_all (keep_all m ds)))

          go : (l : ℕ) → kept_of m a ≡ l → p + 1 ≤ length t →
              ByRemnant (remnant l) (ClearLone es t m (p + 1) n a at.0 at.1 at.4) (Free n at.1 es) →
              (kept_of m a ≡ 1 → ClearLone es t m (p + 1) n a at.0 at.1 at.4 → Each (Off es) (here false)) →
              Each (Off es) (here (beside_other (remnant l) false))
          go zero e w y f = none_each (Off es) (p + 1) n a at.0 at.1 at.4 false e (c / number_all (strip_all (keep_all m ds)))
          go (suc zero) e w y f = f e y
          go (suc (suc l)) e w y f = λ k i z o j same.
              let b = rises_between n at.1 (here true)
              (any_rises t m true (p + 1) n a at.0 at.1 w at.4 (c / number_all (strip_all (keep_all m ds)))) k i in
              let low = b.0 in
              let high = b.1 in
              ⊎_elim (λ u. omega arith) (λ u. omega arith) (y o j)

      any_off : (p n : ℕ) (a : Options) (q r : ℕ) → p ≤ length t → (at : AtAny t p n a q r) → kept_of m a ≡ 1 →
          ClearLone es t m p n a q r at → (i : ℕ) → Each (Off es) (way_any t m false p n a q r at i)
      any_off p n no_more q r h at e x i = each_none (Off es)
      any_off p n (option x d a) q r h at e y i =
          let first = at_bounds t d p n at.0 at.1 at.3 in
          go (m x) e y (λ u. in_off p n d at.0 at.1 at.3 u i)
          (λ f u. any_off at.0 at.1 a q r first.1 at.4 f u i)
        where
          many : ℕ
          many = number (strip (keep m d))

          go : (b : Bool) → ◌≡◌ {A = ℕ} (elim b [ true ↦ suc (kept_of m a) | false ↦ kept_of m a ]) 1 →
              ByMark b (Clear es t m p n d at.0 at.1 at.3) (ClearLone es t m at.0 at.1 a q r at.4) →
              (Clear es t m p n d at.0 at.1 at.3 → Each (Off es) (way_in t m false p n d at.0 at.1 at.3 i)) →
              (kept_of m a ≡ 1 → ClearLone es t m at.0 at.1 a q r at.4 →
              Each (Off es) (way_any t m false at.0 at.1 a q r at.4 i)) →
              Each (Off es) (elim b [
                | true ↦ elim (ltb i many) [
                  | true ↦ take_as (entry p n (own d)) x false ∷ way_in t m false p n d at.0 at.1 at.3 i
                  | false ↦ way_any t m false at.0 at.1 a q r at.4 (i - many)
                ]
                | false ↦ way_any t m false at.0 at.1 a q r at.4 i
              ])
          go true e y f k = lone_each (Off es) x p n d a q r at (λ z. not_both false z refl) i (omega arith) (f y)
          go false e y f k = k e y

  -- ---- the others are certain
  mutual
    in_sure : (p n : ℕ) (d : Placed) (q r : ℕ) (at : At t p n d q r) (c : ℕ) →
        Each (Sure (certain m (inner d))) (way_in t m false p n d q r at c)
    in_sure p n (place g ds) q r at c = all_sure (p + extent g + 1) (n + length g) ds q r at.6 c

    all_sure : (p n : ℕ) (ds : Places) (q r : ℕ) (at : AtAll t p n ds q r) (c : ℕ) →
        Each (Sure (certain m ds)) (way_all t m false p n ds q r at c)
    all_sure p n stop q r at c = each_none (Sure [])
    all_sure p n (a also ds) q r at c =
        let rest = number_all (strip_all (keep_all m ds)) in
        let xs : List Graph = sure_any (strip_any (keep_any m a)) in
        let here = way_any t m (beside_other (remnant (kept_of m a)) false) (p + 1) n a at.0 at.1 at.4 (c / rest) in
        let there = way_all t m false at.0 at.1 ds q r at.5 (c % rest) in
        each_append (Sure (xs ++ certain m ds)) here there
        (sure_more xs (xs ++ certain m ds) here (λ g j. Memᴰ.append_left (certain m ds) j)
        (go (kept_of m a) refl (λ e. any_sure (p + 1) n a at.0 at.1 at.4 e (c / rest))))
        (sure_more (certain m ds) (xs ++ certain m ds) there (λ g j. Memᴰ.append_right xs j)
        (all_sure at.0 at.1 ds q r at.5 (c % rest)))
      where
        some : Bool → List Take
        some new = way_any t m new (p + 1) n a at.0 at.1 at.4 (c / number_all (strip_all (keep_all m ds)))

        go : (l : ℕ) → kept_of m a ≡ l → (kept_of m a ≡ 1 → Each (Sure (sure_any (strip_any (keep_any m a)))) (some false)) →
            Each (Sure (sure_any (strip_any (keep_any m a)))) (some (beside_other (remnant l) false))
        go zero e f = none_each (Sure (sure_any (strip_any (keep_any m a)))) (p + 1) n a at.0 at.1 at.4 false e
            (c / number_all (strip_all (keep_all m ds)))
        go (suc zero) e f = f e
        go (suc (suc l)) e f = λ k i z. not_both k.new
            (any_news (p + 1) n a at.0 at.1 at.4 true refl (c / number_all (strip_all (keep_all m ds))) k i) z

    any_sure : (p n : ℕ) (a : Options) (q r : ℕ) (at : AtAny t p n a q r) → kept_of m a ≡ 1 → (i : ℕ) →
        Each (Sure (sure_any (strip_any (keep_any m a)))) (way_any t m false p n a q r at i)
    any_sure p n no_more q r at e i = each_none (Sure [])
    any_sure p n (option x d a) q r at e i = go (m x) e (in_sure p n d at.0 at.1 at.3 i)
        (λ f. any_sure at.0 at.1 a q r at.4 f i)
      where
        many : ℕ
        many = number (strip (keep m d))

        -- all is certain of one that stands alone
        only : (l : ℕ) → l ≡ 0 → flat (strip (keep m d)) ≡ elim (remnant (suc l)) [
          | nothing ↦ []
          | alone ↦ flat (strip (keep m d))
          | several ↦ []
        ]
        only zero e = refl
        only (suc l) e = absurd (omega arith)

        own_sure : (d : Placed) → Memᴰ (own d) (flat (strip (keep m d)))
        own_sure (place g ds) = Memᴰ.head refl

        inner_sure : (d : Placed) (g : Graph) → Memᴰ g (certain m (inner d)) → Memᴰ g (flat (strip (keep m d)))
        inner_sure (place h ds) g j = Memᴰ.tail j

        go : (b : Bool) → ◌≡◌ {A = ℕ} (elim b [ true ↦ suc (kept_of m a) | false ↦ kept_of m a ]) 1 →
            Each (Sure (certain m (inner d))) (way_in t m false p n d at.0 at.1 at.3 i) →
            (kept_of m a ≡ 1 → Each (Sure (sure_any (strip_any (keep_any m a)))) (way_any t m false at.0 at.1 a q r at.4 i)) →
            Each (Sure (sure_any (strip_any {Graph = Graph} (elim b [ true ↦ option x (keep m d) (keep_any m a) | false ↦ keep_any m a ]))))
            (elim b [
              | true ↦ elim (ltb i many) [
                | true ↦ take_as (entry p n (own d)) x false ∷ way_in t m false p n d at.0 at.1 at.3 i
                | false ↦ way_any t m false at.0 at.1 a q r at.4 (i - many)
              ]
              | false ↦ way_any t m false at.0 at.1 a q r at.4 i
            ])
        go true e f k =
            let none : kept_of m a ≡ 0 = omega arith in
            let way = way_in t m false p n d at.0 at.1 at.3 i in
            subst (λ (xs : List Graph). Each (Sure xs) (elim (ltb i many) [
              | true ↦ take_as (entry p n (own d)) x false ∷ way
              | false ↦ way_any t m false at.0 at.1 a q r at.4 (i - many)
            ])) (only (alts (strip_any (keep_any m a))) (sym (kept_alts m a) ∙ none))
            (lone_each (Sure (flat (strip (keep m d)))) x p n d a q r at (λ z. own_sure d) i none
            (sure_more (certain m (inner d)) (flat (strip (keep m d))) way (inner_sure d) f))
        go false e f k = k e

module _ {n : ℕ} {t : List ℕ} (i : Inputs n t) (m : Marking) (c : ℕ) where
  pub way_new : (es : List Entry) → ClearOf es m i.first → ClearOf es m i.second → (k : Take) → Memᴰ k (way_both i m c) →
      k.new ≡ true → (o : Entry) → Memᴰ o es → k.entry.number ≡ o.number → ⊥
  unfolding way_both
  way_new es x y =
      let many = number (strip (keep m i.second.d)) in
      each_append (Off es) (way_of m false i.first (c / many)) (way_of m false i.second (c % many))
      (in_off t m es 0 i.first.from i.first.d i.first.end i.first.to i.first.at x (c / many))
      (in_off t m es 1024 i.second.from i.second.d i.second.end i.second.to i.second.at y (c % many))

  pub way_sure : (k : Take) → Memᴰ k (way_both i m c) → k.new ≡ false →
      Memᴰ k.entry.graph (certain m (inner_both i.first.d i.second.d))
  unfolding way_both
  way_sure =
      let many = number (strip (keep m i.second.d)) in
      let xs = way_of m false i.first (c / many) in
      let ys = way_of m false i.second (c % many) in
      let first = certain m (inner i.first.d) in
      let second = certain m (inner i.second.d) in
      subst (λ (gs : List Graph). Each (Sure gs) (xs ++ ys)) (sym (certain_next m (inner i.first.d) (inner i.second.d)))
      (each_append (Sure (first ++ second)) xs ys
      (sure_more first (first ++ second) xs (λ g j. Memᴰ.append_left second j)
      (in_sure t m 0 i.first.from i.first.d i.first.end i.first.to i.first.at (c / many)))
      (sure_more second (first ++ second) ys (λ g j. Memᴰ.append_right first j)
      (in_sure t m 1024 i.second.from i.second.d i.second.end i.second.to i.second.at (c % many))))
