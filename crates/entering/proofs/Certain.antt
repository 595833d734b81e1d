-- What is taken is what engine calls certain; it is among the graphs of the description, and its numbers are.
-- Assumes nothing.
use Prim.Native.Nat.{ℕ, zero, suc, ◌+◌, ◌≤◌, ◌<◌}
use native.Mathlib.Omega.{arith}
use mathlib.Core.Path.{◌≡◌, refl, sym, ap, ap₂, subst, ◌∙◌}
use mathlib.Core.Logic.{inl, inr, ⊎_elim}
use mathlib.Core.Bool.{Bool, true, false}
use mathlib.Core.List.Memᴰ
use mathlib.Core.List.{List, [], ◌∷◌, ◌++◌, Memᴰ}
use lib.ListN.{length}
use Rattle.descriptions.specs.Remnant.{remnant, nothing, alone, several}
use Rattle.theory.specs.Net.{Graph}
use Rattle.theory.specs.Descr.{Alts, fail, ◌or◌, alts}
use Rattle.engine.specs.Placed.{Placed, place, Places, stop, ◌also◌, Options, no_more, option, strip, strip_all, strip_any}
use Rattle.engine.specs.Marks.{Marking, kept_of, keep, keep_all, keep_any}
use Rattle.engine.specs.Certain.{flat, sure, sure_any}
use Rattle.modes_by_marks.specs.Names.{names, names_any}
use Rattle.modes_by_marks.proofs.Marks.{kept_alts, keep_true, keep_false}
use Rattle.modes_by_marks.proofs.QuickStep.{Only}
use Rattle.loading.specs.Entry.{Entry, graphs}
use Rattle.loading.specs.Loaded.{extent}
use Rattle.loading.specs.At.{At, AtAll, AtAny}
use Rattle.loading.specs.Lying.{Lying, LyingAny, mark_of}
use Rattle.loading.proofs.Walking.{at_bounds, all_bounds, any_bounds}
use Rattle.marks.specs.Tallied.{from_kept}
use Rattle.marks.proofs.First.{kept_true, kept_false, from_true, from_false}
use Rattle.loading.specs.Nesting.{NestsAny}
use Rattle.classes.proofs.Comings.{graphs_append}
use Rattle.engine.specs.Quickly.{any_at, inside_at}
use Rattle.entering.specs.Clear.{ByMark, Clear, ClearLone, ClearOf}
use Rattle.entering.proofs.Mirror.{any_dropped, any_alone, kept_alike}
use Rattle.entering.specs.Taken.{taken, taken_all, taken_any, Among, AmongAll, AmongAny, Inside, Free}
use Rattle.entering.specs.Taken.{taken_of, taken_any_of, AmongOf, AmongAnyOf}

-- fewer numbers are free too
pub free_narrow : (n m n' m' : ℕ) (es : List Entry) → n ≤ n' → m' ≤ m → Free n m es → Free n' m' es
free_narrow n m n' m' es h h' a o i = ⊎_elim (λ b. inl (omega arith)) (λ b. inr (omega arith)) (a o i)

-- what is taken of the first, which is kept, with c beside it
abbrev pub sole : List Entry → ℕ → List Entry
sole one c = elim (remnant (suc c)) [ nothing ↦ [] | alone ↦ one | several ↦ [] ]

module _ (t : List ℕ) (k : Marking) where
  lone : (d : Placed) (a : Options) (b : Alts) (l : List Entry) → kept_of k a ≡ alts b → graphs l ≡ flat (strip (keep k d)) → (c : ℕ) →
      kept_of k a ≡ c →
      graphs (sole l c) ≡ sure_any (strip (keep k d) or b)
  lone d a fail l e h zero f = h
  lone d a fail l e h (suc j) f = absurd (omega arith)
  lone d a (x or b) l e h zero f = absurd (omega arith)
  lone d a (x or b) l e h (suc j) f = refl

  mutual
    pub taken_flat : (p n : ℕ) (d : Placed) (q m : ℕ) (at : At t p n d q m) → graphs (taken t k p n d q m at) ≡ flat (strip (keep k d))
    taken_flat p n (place g ds) q m at = ap (λ (l : List Graph). g ∷ l) (taken_sure (p + extent g + 1) (n + length g) ds q m at.6)

    pub taken_sure : (p n : ℕ) (ds : Places) (q m : ℕ) (at : AtAll t p n ds q m) →
        graphs (taken_all t k p n ds q m at) ≡ sure (strip_all (keep_all k ds))
    taken_sure p n stop q m at = refl
    taken_sure p n (a also ds) q m at =
        graphs_append (taken_any t k (p + 1) n a at.0 at.1 at.4) (taken_all t k at.0 at.1 ds q m at.5)
        ∙ ap₂ {C = List Graph} ◌++◌ (taken_lone (p + 1) n a at.0 at.1 at.4) (taken_sure at.0 at.1 ds q m at.5)

    pub taken_lone : (p n : ℕ) (a : Options) (q m : ℕ) (at : AtAny t p n a q m) →
        graphs (taken_any t k p n a q m at) ≡ sure_any (strip_any (keep_any k a))
    taken_lone p n no_more q m at = refl
    taken_lone p n (option x d a) q m at = go (k x) (taken_flat p n d at.0 at.1 at.3) (taken_lone at.0 at.1 a q m at.4)
      where
        one : List Entry
        one = taken t k p n d at.0 at.1 at.3

        rest : List Entry
        rest = taken_any t k at.0 at.1 a q m at.4

        go : (b : Bool) → graphs one ≡ flat (strip (keep k d)) → graphs rest ≡ sure_any (strip_any (keep_any k a)) →
            graphs (elim b [ true ↦ sole one (kept_of k a) | false ↦ rest ])
            ≡ sure_any (strip_any (elim b [ true ↦ option x (keep k d) (keep_any k a) | false ↦ keep_any k a ]))
        go true e f = lone d a (strip_any (keep_any k a)) one (kept_alts k a) e (kept_of k a) refl
        go false e f = f

  -- ---- where the graphs taken lie
  picked : (P : Type 0) (o : Entry) (one rest : List Entry) (b : Bool) (c : ℕ) → (Memᴰ o one → P) → (Memᴰ o rest → P) →
      Memᴰ o (elim b [ true ↦ sole one c | false ↦ rest ]) → P
  picked P o one rest true zero f h i = f i
  picked P o one rest true (suc l) f h i = absurd (Memᴰ.not-nil i)
  picked P o one rest false c f h i = h i

  mutual
    pub taken_inside : (U : List Entry) (p n : ℕ) (d : Placed) (q m : ℕ) (at : At t p n d q m) → Among U t p n d q m at →
        Inside U (taken t k p n d q m at)
    taken_inside U p n (place g ds) q m at u o i =
        ⊎_elim (λ e. subst (λ (x : Entry). Memᴰ x U) (sym e) u.0)
        (λ j. taken_all_inside U (p + extent g + 1) (n + length g) ds q m at.6 u.1 o j) (Memᴰ.cases_cons i)

    taken_all_inside : (U : List Entry) (p n : ℕ) (ds : Places) (q m : ℕ) (at : AtAll t p n ds q m) → AmongAll U t p n ds q m at →
        Inside U (taken_all t k p n ds q m at)
    taken_all_inside U p n stop q m at u o i = absurd (Memᴰ.not-nil i)
    taken_all_inside U p n (a also ds) q m at u o i =
        ⊎_elim (λ j. taken_any_inside U (p + 1) n a at.0 at.1 at.4 u.0 o j)
        (λ j. taken_all_inside U at.0 at.1 ds q m at.5 u.1 o j)
        (Memᴰ.append_cases (taken_any t k (p + 1) n a at.0 at.1 at.4) i)

    pub taken_any_inside : (U : List Entry) (p n : ℕ) (a : Options) (q m : ℕ) (at : AtAny t p n a q m) → AmongAny U t p n a q m at →
        Inside U (taken_any t k p n a q m at)
    taken_any_inside U p n no_more q m at u o i = absurd (Memᴰ.not-nil i)
    taken_any_inside U p n (option x d a) q m at u o i =
        picked (Memᴰ o U) o (taken t k p n d at.0 at.1 at.3) (taken_any t k at.0 at.1 a q m at.4) (k x) (kept_of k a)
        (λ j. taken_inside U p n d at.0 at.1 at.3 u.0 o j) (λ j. taken_any_inside U at.0 at.1 a q m at.4 u.1 o j) i

  mutual
    pub taken_between : (p n : ℕ) (d : Placed) (q m : ℕ) (at : At t p n d q m) (o : Entry) → Memᴰ o (taken t k p n d q m at) →
        (n ≤ o.number) × (o.number < m)
    taken_between p n (place g ds) q m at o i =
        let some = at.0 in
        let room = at.4 in
        let far = (all_bounds t ds (p + extent g + 1) (n + length g) q m (omega arith) at.6).2 in
        ⊎_elim (λ e. let f : o.number ≡ n = ap (λ (x : Entry). x.number) e in
        (omega arith, omega arith)) (λ j. let b =
        taken_all_between (p + extent g + 1) (n + length g) ds q m (omega arith) at.6 o j in let c = b.0 in
        (omega arith, b.1)) (Memᴰ.cases_cons i)

    pub taken_all_between : (p n : ℕ) (ds : Places) (q m : ℕ) → p ≤ length t → (at : AtAll t p n ds q m) (o : Entry) →
        Memᴰ o (taken_all t k p n ds q m at) → (n ≤ o.number) × (o.number < m)
    taken_all_between p n stop q m h at o i = absurd (Memᴰ.not-nil i)
    taken_all_between p n (a also ds) q m h at o i =
        let there = at.2 in
        let first = any_bounds t a (p + 1) n at.0 at.1 (omega arith) at.4 in
        let low = first.2 in
        let high = (all_bounds t ds at.0 at.1 q m first.1 at.5).2 in
        ⊎_elim (λ j. let b = taken_any_between (p + 1) n a at.0 at.1 (omega arith) at.4 o j in let c = b.1 in
        (b.0, omega arith)) (λ j. let b = taken_all_between at.0 at.1 ds q m first.1 at.5 o j in let c = b.0 in
        (omega arith, b.1)) (Memᴰ.append_cases (taken_any t k (p + 1) n a at.0 at.1 at.4) i)

    pub taken_any_between : (p n : ℕ) (a : Options) (q m : ℕ) → p ≤ length t → (at : AtAny t p n a q m) (o : Entry) →
        Memᴰ o (taken_any t k p n a q m at) → (n ≤ o.number) × (o.number < m)
    taken_any_between p n no_more q m h at o i = absurd (Memᴰ.not-nil i)
    taken_any_between p n (option x d a) q m h at o i =
        let first = at_bounds t d p n at.0 at.1 at.3 in
        let near = first.2 in
        let far = (any_bounds t a at.0 at.1 q m first.1 at.4).2 in
        picked ((n ≤ o.number) × (o.number < m)) o (taken t k p n d at.0 at.1 at.3) (taken_any t k at.0 at.1 a q m at.4)
        (k x) (kept_of k a)
        (λ j. let b = taken_between p n d at.0 at.1 at.3 o j in let c = b.1 in (b.0, omega arith))
        (λ j. let b = taken_any_between at.0 at.1 a q m first.1 at.4 o j in let c = b.0 in (omega arith, b.1)) i

-- ---- an alternative that stands alone
-- what stands loaded twice has the same extent
module _ (t t' : List ℕ) where
  mutual
    at_span : (d : Placed) (p n q m p' n' q' m' : ℕ) → At t p n d q m → At t' p' n' d q' m' → p + q' ≡ p' + q
    at_span (place g ds) p n q m p' n' q' m' a b =
        omega (arith, all_span ds (p + extent g + 1) (n + length g) q m (p' + extent g + 1) (n' + length g) q' m' a.6 b.6)

    all_span : (ds : Places) (p n q m p' n' q' m' : ℕ) → AtAll t p n ds q m → AtAll t' p' n' ds q' m' → p + q' ≡ p' + q
    all_span stop p n q m p' n' q' m' a b = let e = a.0 in let f = b.0 in omega arith
    all_span (x also ds) p n q m p' n' q' m' a b =
        omega (
          arith,
          any_span x (p + 1) n a.0 a.1 (p' + 1) n' b.0 b.1 a.4 b.4,
          all_span ds a.0 a.1 q m b.0 b.1 q' m' a.5 b.5,
        )

    pub any_span : (a : Options) (p n q m p' n' q' m' : ℕ) → AtAny t p n a q m → AtAny t' p' n' a q' m' → p + q' ≡ p' + q
    any_span no_more p n q m p' n' q' m' a b = let e = a.0 in let f = b.0 in omega arith
    any_span (option x d o) p n q m p' n' q' m' a b =
        omega (
          arith,
          at_span d p n a.0 a.1 p' n' b.0 b.1 a.3 b.3,
          any_span o a.0 a.1 q m b.0 b.1 q' m' a.4 b.4,
        )

none_left : (k : Marking) (a : Options) → kept_of k a ≡ 0 → keep_any k a ≡ no_more
none_left k no_more z = refl
none_left k (option x d a) z = go (k x) refl (none_left k a)
  where
    go : (b : Bool) → k x ≡ b → (kept_of k a ≡ 0 → keep_any k a ≡ no_more) → keep_any k (option x d a) ≡ no_more
    go true e on = absurd (omega (arith, kept_true k x d a e))
    go false e on = keep_false k x d a e ∙ on (sym (kept_false k x d a e) ∙ z)

-- the alternative at `first` is the one of a that is kept, and what is taken of a is taken of it
pub record Lone (U : List Entry) (t : List ℕ) (k : Marking) (left p n : ℕ) (a : Options) (q m : ℕ) (at : AtAny t p n a q m)
    (first : ℕ) : Type 0 where
  pub lies : Lying m t first left
  pub near : p ≤ first
  pub far : lies.end ≤ q
  pub low : n ≤ lies.from
  pub among : AmongOf U lies
  pub same : taken_any t k p n a q m at ≡ taken_of k lies
  pub inner : (y : ℕ) → Memᴰ y (names lies.d) → Memᴰ y (names_any a)
  pub kept : k (mark_of lies) ≡ true
  pub alone : keep_any k a ≡ option (mark_of lies) (keep k lies.d) no_more
  pub any : (S : List Graph) → any_at S k a ≡ inside_at S k lies.d
  pub opens : (E : List Entry) → ClearLone E t k p n a q m at → ClearOf E k lies
  pub closes : (E : List Entry) (k' : Marking) → Only (names lies.d) k k' → ClearOf E k' lies →
      (kept_of k' a ≡ 1) × ClearLone E t k' p n a q m at

module _ (U : List Entry) (t t' : List ℕ) (k : Marking) (left : ℕ) where
  lone_here : (x : ℕ) (d : Placed) (a : Options) (p n q m : ℕ) → p ≤ length t → (at : AtAny t p n (option x d a) q m) →
      AmongAny U t p n (option x d a) q m at → NestsAny (option x d a) left → k x ≡ true → kept_of k a ≡ 0 →
      Lone U t k left p n (option x d a) q m at p
  lone_here x d a p n q m h at u s e z =
      let first = at_bounds t d p n at.0 at.1 at.3 in
      let last = any_bounds t a at.0 at.1 q m first.1 at.4 in
      let far = last.2 in
      let one = taken t k p n d at.0 at.1 at.3 in
      record {
        lies = record { d = d; from = n; end = at.0; to = at.1; at = at.3; low = far; nests = s.0 };
        near = omega arith;
        far = last.0;
        low = omega arith;
        among = u.0;
        same = ap (λ (b : Bool). elim b [
          | true ↦ sole one (kept_of k a)
          | false ↦ taken_any t k at.0 at.1 a q m at.4
        ]) e ∙ ap (sole one) z;
        inner = λ y i. Memᴰ.tail (Memᴰ.append_left (names_any a) i);
        kept = ap k at.2 ∙ e;
        alone = keep_true k x d a e ∙ ap (option x (keep k d)) (none_left k a z)
            ∙ ap (λ (y : ℕ). option y (keep k d) no_more) (sym at.2);
        any = λ S. any_alone S k x d a e z;
        opens = λ E y. subst (λ (b : Bool). ByMark b (Clear E t k p n d at.0 at.1 at.3)
            (ClearLone E t k at.0 at.1 a q m at.4)) e y;
        closes = λ E k' off y.
            let f : k' x ≡ true = off x (λ i. at.5 x (Memᴰ.head refl) i) ∙ e in
            let c = kept_alike k k' a (λ y i. off y (λ j. at.7 y j i)) in (
              omega (arith, kept_true k' x d a f),
              subst (λ (b : Bool). ByMark b (Clear E t k' p n d at.0 at.1 at.3) (ClearLone E t k' at.0 at.1 a q m at.4))
                  (sym f) y,
            );
      }

  lone_later : (x : ℕ) (d : Placed) (a : Options) (p n q m : ℕ) → p ≤ length t → (at : AtAny t p n (option x d a) q m) → k x ≡ false →
      (first : ℕ) → Lone U t k left at.0 at.1 a q m at.4 first → Lone U t k left p n (option x d a) q m at first
  lone_later x d a p n q m h at e first l =
      let bounds = at_bounds t d p n at.0 at.1 at.3 in
      let near = bounds.2 in
      let low = l.low in
      record {
        lies = l.lies;
        near = omega (arith, bounds.0, l.near);
        far = l.far;
        low = omega arith;
        among = l.among;
        same = ap (λ (b : Bool). elim b [
          | true ↦ sole (taken t k p n d at.0 at.1 at.3) (kept_of k a)
          | false ↦ taken_any t k at.0 at.1 a q m at.4
        ]) e ∙ l.same;
        inner = λ y i. Memᴰ.tail (Memᴰ.append_right (names d) (l.inner y i));
        kept = l.kept;
        alone = keep_false k x d a e ∙ l.alone;
        any = λ S. any_dropped S k x d a e ∙ l.any S;
        opens = λ E y. l.opens E (subst
            (λ (b : Bool). ByMark b (Clear E t k p n d at.0 at.1 at.3) (ClearLone E t k at.0 at.1 a q m at.4)) e y);
        closes = λ E k' off y.
            let f : k' x ≡ false = off x (λ i. at.6 x (Memᴰ.head refl) (l.inner x i)) ∙ e in
            let c = l.closes E k' off y in (
              kept_false k' x d a f ∙ c.0,
              subst (λ (b : Bool). ByMark b (Clear E t k' p n d at.0 at.1 at.3) (ClearLone E t k' at.0 at.1 a q m at.4))
                  (sym f) c.1,
            );
      }

  pub lone_at : (a : Options) (p n q m : ℕ) → p ≤ length t → (at : AtAny t p n a q m) → AmongAny U t p n a q m at → NestsAny a left →
      kept_of k a ≡ 1 → (first l : ℕ) → AtAny t' first l (from_kept k a) q m → Lone U t k left p n a q m at first
  lone_at no_more p n q m h at u s one first l o = absurd (omega arith)
  lone_at (option x d a) p n q m h at u s one first l o =
      go (k x) refl (lone_at a at.0 at.1 q m (at_bounds t d p n at.0 at.1 at.3).1 at.4 u.1 s.1)
    where
      go : (b : Bool) → k x ≡ b → (kept_of k a ≡ 1 → (first l : ℕ) → AtAny t' first l (from_kept k a) q m →
          Lone U t k left at.0 at.1 a q m at.4 first) → Lone U t k left p n (option x d a) q m at first
      go true e on =
          let z : kept_of k a ≡ 0 = omega (arith, kept_true k x d a e) in
          let span = any_span t t' (option x d a) p n q m first l q m at
          (subst (λ (b : Options). AtAny t' first l b q m) (from_true k x d a e) o) in
          let f : p ≡ first = omega arith in
          subst (λ (j : ℕ). Lone U t k left p n (option x d a) q m at j) f (lone_here x d a p n q m h at u s e z)
      go false e on = lone_later x d a p n q m h at e first
          (on (sym (kept_false k x d a e) ∙ one) first l (subst (λ (b : Options). AtAny t' first l b q m) (from_false k x d a e) o))

-- where none or several are kept, nothing is taken
pub taken_none : (t : List ℕ) (k : Marking) (a : Options) (p n q m : ℕ) (at : AtAny t p n a q m) → (kept_of k a ≡ 1 → ⊥) →
    taken_any t k p n a q m at ≡ []
taken_none t k no_more p n q m at h = refl
taken_none t k (option x d a) p n q m at h = go (k x) refl (kept_of k a) refl (taken_none t k a at.0 at.1 q m at.4)
  where
    go : (b : Bool) → k x ≡ b → (c : ℕ) → kept_of k a ≡ c → ((kept_of k a ≡ 1 → ⊥) → taken_any t k at.0 at.1 a q m at.4 ≡ []) →
        ◌≡◌ {A = List Entry} (elim b [
          | true ↦ sole (taken t k p n d at.0 at.1 at.3) c
          | false ↦ taken_any t k at.0 at.1 a q m at.4
        ]) []
    go true e zero f on = absurd (h (omega (arith, kept_true k x d a e)))
    go true e (suc l) f on = refl
    go false e c f on = on (λ z. h (kept_false k x d a e ∙ z))

-- ---- by what stands loaded
module _ {n : ℕ} {t : List ℕ} {p left : ℕ} (k : Marking) where
  module _ (l : Lying n t p left) where
    pub flat_of : graphs (taken_of k l) ≡ flat (strip (keep k l.d))
    flat_of = taken_flat t k p l.from l.d l.end l.to l.at

    pub inside_of : (U : List Entry) → AmongOf U l → Inside U (taken_of k l)
    inside_of U u = taken_inside t k U p l.from l.d l.end l.to l.at u

    pub between_of : (o : Entry) → Memᴰ o (taken_of k l) → (l.from ≤ o.number) × (o.number < l.to)
    between_of = taken_between t k p l.from l.d l.end l.to l.at

  module _ {count : ℕ} (l : LyingAny n t p count left) where
    pub lone_of : graphs (taken_any_of k l) ≡ sure_any (strip_any (keep_any k l.a))
    lone_of = taken_lone t k p l.from l.a l.end l.to l.at

    pub none_of : (kept_of k l.a ≡ 1 → ⊥) → taken_any_of k l ≡ []
    none_of = taken_none t k l.a p l.from l.end l.to l.at

    pub any_inside_of : (U : List Entry) → AmongAnyOf U l → Inside U (taken_any_of k l)
    any_inside_of U u = taken_any_inside t k U p l.from l.a l.end l.to l.at u

    pub any_between_of : (o : Entry) → Memᴰ o (taken_any_of k l) → (l.from ≤ o.number) × (o.number < l.to)
    any_between_of = taken_any_between t k p l.from l.a l.end l.to l.within l.at

    -- the one of them that is kept stands at `first`
    abbrev pub LoneOf : List Entry → ℕ → Type 0
    LoneOf U first = Lone U t k left p l.from l.a l.end l.to l.at first

pub lone_alone : {n : ℕ} {t : List ℕ} {p count left : ℕ} (U : List Entry) (t' : List ℕ) (k : Marking) (l : LyingAny n t p count left) →
    AmongAnyOf U l → kept_of k l.a ≡ 1 → (first : ℕ) → (j : ℕ) × AtAny t' first j (from_kept k l.a) l.end l.to →
    LoneOf k l U first
lone_alone {n} {t} {p} {count} {left} U t' k l u one first stands =
    lone_at U t t' k left l.a p l.from l.end l.to l.within l.at u l.nests one first stands.0 stands.1
