-- Which graphs are on the stack: it is so where all that is certain was pushed, and stays so where only other numbers and marks change.
-- Assumes nothing.
use Prim.Native.Nat.{ℕ, zero, suc, ◌+◌, ◌≤◌, ◌<◌}
use native.Mathlib.Omega.{arith}
use mathlib.Core.Path.{◌≡◌, refl, sym, ap, subst}
use mathlib.Core.Logic.{◌⊎◌, inl, inr, ⊎_elim}
use mathlib.Core.Bool.{Bool, true, false}
use mathlib.Core.List.Memᴰ
use mathlib.Core.List.{List, [], ◌++◌, Memᴰ}
use lib.ListN.{length}
use Rattle.descriptions.specs.Remnant.{remnant}
use Rattle.engine.specs.Placed.{Placed, place, Places, stop, ◌also◌, Options, no_more, option}
use Rattle.engine.specs.Marks.{Marking, kept_of}
use Rattle.modes_by_marks.specs.Names.{names, names_all, names_any}
use Rattle.loading.specs.Entry.{Entry}
use Rattle.loading.specs.Loaded.{extent}
use Rattle.loading.specs.At.{At, AtAll, AtAny}
use Rattle.loading.specs.Lying.{Lying, LyingAll, LyingAny}
use Rattle.loading.proofs.Walking.{at_bounds, all_bounds, any_bounds}
use Rattle.entering.specs.Taken.{taken, taken_all, taken_any, taken_of, taken_any_of, Free, FreeAnyOf}
use Rattle.entering.specs.Clear.{Outside, ByRemnant, ByMark, Clear, ClearAll, ClearLone, ClearAny}
use Rattle.entering.specs.Clear.{ClearOf, ClearAllOf, ClearAnyOf}
use Rattle.entering.proofs.Mirror.{Alike, kept_alike}
use Rattle.entering.proofs.Certain.{sole, taken_all_between, taken_any_between, taken_none}
use Rattle.entering.proofs.Rests.{ClearLoneOf}

-- of the numbers from n up to m, E holds only what xs has
abbrev pub Holding : ℕ → ℕ → List Entry → List Entry → Type 0
Holding n m xs E = (o : Entry) → Memᴰ o E → Outside n m o.number ⊎ Memᴰ o xs

-- the part of a list of which the rest lies outside
part : (n m : ℕ) (xs ys E : List Entry) (n' m' : ℕ) → n ≤ n' → m' ≤ m → ((o : Entry) → Memᴰ o ys → Outside n' m' o.number) →
    Holding n m (xs ++ ys) E → Holding n' m' xs E
part n m xs ys E n' m' h h' off hold o i =
    ⊎_elim (⊎_elim (λ b. inl (inl (omega arith))) (λ b. inl (inr (omega arith))))
    (λ j. ⊎_elim (λ b. inr b) (λ b. inl (off o b)) (Memᴰ.append_cases xs j)) (hold o i)

part' : (n m : ℕ) (xs ys E : List Entry) (n' m' : ℕ) → n ≤ n' → m' ≤ m → ((o : Entry) → Memᴰ o xs → Outside n' m' o.number) →
    Holding n m (xs ++ ys) E → Holding n' m' ys E
part' n m xs ys E n' m' h h' off hold o i =
    ⊎_elim (⊎_elim (λ b. inl (inl (omega arith))) (λ b. inl (inr (omega arith))))
    (λ j. ⊎_elim (λ b. inl (off o b)) (λ b. inr b) (Memᴰ.append_cases xs j)) (hold o i)

module _ (t : List ℕ) (k : Marking) (E : List Entry) where
  -- ---- where of these numbers only what is certain is on the stack
  lone_clear : (c : ℕ) (n m : ℕ) (C : Type 0) (xs : List Entry) → Holding n m xs E → ((c ≡ 1 → ⊥) → xs ≡ []) → (c ≡ 1 → C) →
      ByRemnant (remnant c) C (Free n m E)
  lone_clear zero n m C xs hold none one = tt
  lone_clear (suc zero) n m C xs hold none one = one refl
  lone_clear (suc (suc l)) n m C xs hold none one =
      λ o i. ⊎_elim (λ b. b) (λ j. absurd (Memᴰ.not-nil (subst (λ (x : List Entry). Memᴰ o x) (none (λ e. omega arith)) j)))
      (hold o i)

  lone_go : (p n x : ℕ) (d : Placed) (a : Options) (q m : ℕ) (at : AtAny t p n (option x d a) q m) → n < at.1 → at.1 ≤ m → (b : Bool) →
      ◌≡◌ {A = ℕ} (elim b [ true ↦ suc (kept_of k a) | false ↦ kept_of k a ]) 1 →
      Holding n m (elim b [
        | true ↦ sole (taken t k p n d at.0 at.1 at.3) (kept_of k a)
        | false ↦ taken_any t k at.0 at.1 a q m at.4
      ]) E →
      (Holding n at.1 (taken t k p n d at.0 at.1 at.3) E → Clear E t k p n d at.0 at.1 at.3) →
      (kept_of k a ≡ 1 → Holding at.1 m (taken_any t k at.0 at.1 a q m at.4) E →
      ClearLone E t k at.0 at.1 a q m at.4) →
      ByMark b (Clear E t k p n d at.0 at.1 at.3) (ClearLone E t k at.0 at.1 a q m at.4)
  lone_go p n x d a q m at near far true one hold f h = f (go (kept_of k a) (omega arith) hold)
    where
      go : (c : ℕ) → c ≡ 0 → Holding n m (sole (taken t k p n d at.0 at.1 at.3) c) E →
          Holding n at.1 (taken t k p n d at.0 at.1 at.3) E
      go zero e u = λ o i. ⊎_elim (⊎_elim (λ b. inl (inl b)) (λ b. inl (inr (omega arith)))) (λ j. inr j) (u o i)
      go (suc l) e u = absurd (omega arith)
  lone_go p n x d a q m at near far false one hold f h =
      h one (λ o i. ⊎_elim (⊎_elim (λ b. inl (inl (omega arith))) (λ b. inl (inr b))) (λ j. inr j) (hold o i))

  mutual
    pub clear_taken : (p n : ℕ) (d : Placed) (q m : ℕ) (at : At t p n d q m) → Holding n m (taken t k p n d q m at) E →
        Clear E t k p n d q m at
    clear_taken p n (place g ds) q m at hold =
        let some = at.0 in
        let room = at.4 in
        clear_all (p + extent g + 1) (n + length g) ds q m (omega arith) at.6
        (λ o i. ⊎_elim (⊎_elim (λ b. inl (inl (omega arith))) (λ b. inl (inr b)))
        (λ j. ⊎_elim (λ e. let f : o.number ≡ n = ap (λ (x : Entry). x.number) e in
        inl (inl (omega arith))) (λ l. inr l) (Memᴰ.cases_cons j)) (hold o i))

    clear_all : (p n : ℕ) (ds : Places) (q m : ℕ) → p ≤ length t → (at : AtAll t p n ds q m) → Holding n m (taken_all t k p n ds q m at) E →
        ClearAll E t k p n ds q m at
    clear_all p n stop q m h at hold = tt
    clear_all p n (a also ds) q m h at hold =
        let there = at.2 in
        let first = any_bounds t a (p + 1) n at.0 at.1 (omega arith) at.4 in
        let low = first.2 in
        let high = (all_bounds t ds at.0 at.1 q m first.1 at.5).2 in
        let xs = taken_any t k (p + 1) n a at.0 at.1 at.4 in
        let ys = taken_all t k at.0 at.1 ds q m at.5 in
        let here : Holding n at.1 xs E =
        part n m xs ys E n at.1 (omega arith) (omega arith) (λ o i. let b =
        (taken_all_between t k at.0 at.1 ds q m first.1 at.5 o i).0 in inr b) hold in
        let there : Holding at.1 m ys E =
        part' n m xs ys E at.1 m (omega arith) (omega arith) (λ o i. let b =
        (taken_any_between t k (p + 1) n a at.0 at.1 (omega arith) at.4 o i).1 in inl b) hold in (
          lone_clear (kept_of k a) n at.1 (ClearLone E t k (p + 1) n a at.0 at.1 at.4) xs here
              (taken_none t k a (p + 1) n at.0 at.1 at.4)
              (λ e. clear_lone (p + 1) n a at.0 at.1 (omega arith) at.4 e here),
          clear_all at.0 at.1 ds q m first.1 at.5 there,
        )

    clear_lone : (p n : ℕ) (a : Options) (q m : ℕ) → p ≤ length t → (at : AtAny t p n a q m) → kept_of k a ≡ 1 →
        Holding n m (taken_any t k p n a q m at) E → ClearLone E t k p n a q m at
    clear_lone p n no_more q m h at one hold = tt
    clear_lone p n (option x d a) q m h at one hold =
        let first = at_bounds t d p n at.0 at.1 at.3 in
        let near = first.2 in
        let far = (any_bounds t a at.0 at.1 q m first.1 at.4).2 in
        lone_go p n x d a q m at near far (k x) one hold (λ u. clear_taken p n d at.0 at.1 at.3 u)
        (λ e u. clear_lone at.0 at.1 a q m first.1 at.4 e u)

-- one disjunction
pub clear_any : (t : List ℕ) (k : Marking) (E : List Entry) (p n : ℕ) (a : Options) (q m : ℕ) → p ≤ length t → (at : AtAny t p n a q m) →
    Holding n m (taken_any t k p n a q m at) E → ClearAny E t k p n a q m at
clear_any t k E p n a q m h at hold =
    lone_clear t k E (kept_of k a) n m (ClearLone E t k p n a q m at) (taken_any t k p n a q m at) hold (taken_none t k a p n q m at)
    (λ e. clear_lone t k E p n a q m h at e hold)

-- ---- it stays where marks and stack change only at other numbers
module _ (t : List ℕ) (k k' : Marking) where
  module _ (E E' : List Entry) where
    -- of the numbers from n up to m nothing is new
    abbrev pub Nothing : ℕ → ℕ → Type 0
    Nothing n m = (o : Entry) → Memᴰ o E' → Memᴰ o E ⊎ Outside n m o.number

    nothing_narrow : (n m n' m' : ℕ) → n ≤ n' → m' ≤ m → Nothing n m → Nothing n' m'
    nothing_narrow n m n' m' h h' u o i = ⊎_elim (λ j. inl j) (⊎_elim (λ b. inr (inl (omega arith))) (λ b. inr (inr (omega arith)))) (u o i)

    by_count : (c c' : ℕ) → c' ≡ c → (n m : ℕ) (C C' : Type 0) → Nothing n m → (C → C') → ByRemnant (remnant c) C (Free n m E) →
        ByRemnant (remnant c') C' (Free n m E')
    by_count c c' e n m C C' u f x = subst (λ (z : ℕ). ByRemnant (remnant z) C' (Free n m E')) (sym e) (go c x)
      where
        go : (c : ℕ) → ByRemnant (remnant c) C (Free n m E) → ByRemnant (remnant c) C' (Free n m E')
        go zero y = tt
        go (suc zero) y = f y
        go (suc (suc l)) y = λ o i. ⊎_elim (λ j. y o j) (λ b. b) (u o i)

    by_mark : (b b' : Bool) → b' ≡ b → (K K' D D' : Type 0) → (K → K') → (D → D') → ByMark b K D → ByMark b' K' D'
    by_mark b b' e K K' D D' f g x = subst (λ (z : Bool). ByMark z K' D') (sym e) (go b x)
      where
        go : (b : Bool) → ByMark b K D → ByMark b K' D'
        go true y = f y
        go false y = g y

    mutual
      pub clear_alike : (p n : ℕ) (d : Placed) (q m : ℕ) (at : At t p n d q m) → Alike k k' (names d) → Nothing n m →
          Clear E t k p n d q m at → Clear E' t k' p n d q m at
      clear_alike p n (place g ds) q m at s u x =
          let some = at.0 in
          let room = at.4 in
          all_alike (p + extent g + 1) (n + length g) ds q m (omega arith) at.6 s
          (nothing_narrow n m (n + length g) m (omega arith) (omega arith) u) x

      pub all_alike : (p n : ℕ) (ds : Places) (q m : ℕ) → p ≤ length t → (at : AtAll t p n ds q m) → Alike k k' (names_all ds) →
          Nothing n m → ClearAll E t k p n ds q m at → ClearAll E' t k' p n ds q m at
      all_alike p n stop q m h at s u x = tt
      all_alike p n (a also ds) q m h at s u x =
          let there = at.2 in
          let first = any_bounds t a (p + 1) n at.0 at.1 (omega arith) at.4 in
          let low = first.2 in
          let high = (all_bounds t ds at.0 at.1 q m first.1 at.5).2 in
          let near : Alike k k' (names_any a) = λ y i. s y (Memᴰ.append_left (names_all ds) i) in
          let here : Nothing n at.1 = nothing_narrow n m n at.1 (omega arith) (omega arith) u in (
            by_count (kept_of k a) (kept_of k' a) (kept_alike k k' a near) n at.1
                (ClearLone E t k (p + 1) n a at.0 at.1 at.4) (ClearLone E' t k' (p + 1) n a at.0 at.1 at.4) here
                (λ y. lone_alike (p + 1) n a at.0 at.1 (omega arith) at.4 near here y) x.0,
            all_alike at.0 at.1 ds q m first.1 at.5 (λ y i. s y (Memᴰ.append_right (names_any a) i))
                (nothing_narrow n m at.1 m (omega arith) (omega arith) u) x.1,
          )

      lone_alike : (p n : ℕ) (a : Options) (q m : ℕ) → p ≤ length t → (at : AtAny t p n a q m) → Alike k k' (names_any a) → Nothing n m →
          ClearLone E t k p n a q m at → ClearLone E' t k' p n a q m at
      lone_alike p n no_more q m h at s u x = tt
      lone_alike p n (option x d a) q m h at s u y =
          let first = at_bounds t d p n at.0 at.1 at.3 in
          let near = first.2 in
          let far = (any_bounds t a at.0 at.1 q m first.1 at.4).2 in
          by_mark (k x) (k' x) (s x (Memᴰ.head refl)) (Clear E t k p n d at.0 at.1 at.3)
          (Clear E' t k' p n d at.0 at.1 at.3) (ClearLone E t k at.0 at.1 a q m at.4)
          (ClearLone E' t k' at.0 at.1 a q m at.4)
          (λ z. clear_alike p n d at.0 at.1 at.3 (λ y i. s y (Memᴰ.tail (Memᴰ.append_left (names_any a) i)))
          (nothing_narrow n m n at.1 (omega arith) (omega arith) u) z)
          (λ z. lone_alike at.0 at.1 a q m first.1 at.4 (λ y i. s y (Memᴰ.tail (Memᴰ.append_right (names d) i)))
          (nothing_narrow n m at.1 m (omega arith) (omega arith) u) z) y

-- one disjunction
pub any_alike : (t : List ℕ) (k k' : Marking) (E E' : List Entry) (p n : ℕ) (a : Options) (q m : ℕ) → p ≤ length t →
    (at : AtAny t p n a q m) → Alike k k' (names_any a) → Nothing t k k' E E' n m → ClearAny E t k p n a q m at →
    ClearAny E' t k' p n a q m at
any_alike t k k' E E' p n a q m h at s u x =
    by_count t k k' E E' (kept_of k a) (kept_of k' a) (kept_alike k k' a s) n m (ClearLone E t k p n a q m at)
    (ClearLone E' t k' p n a q m at) u (λ y. lone_alike t k k' E E' p n a q m h at s u y) x

-- ---- by what stands loaded
module _ {n : ℕ} {t : List ℕ} {p left : ℕ} (k : Marking) (E : List Entry) where
  pub clear_of : (l : Lying n t p left) → Holding l.from l.to (taken_of k l) E → ClearOf E k l
  clear_of l = clear_taken t k E p l.from l.d l.end l.to l.at

  pub clear_any_of : {count : ℕ} (l : LyingAny n t p count left) → Holding l.from l.to (taken_any_of k l) E → ClearAnyOf E k l
  clear_any_of l = clear_any t k E p l.from l.a l.end l.to l.within l.at

  -- ---- one that stands alone, or several
  module _ {count : ℕ} (l : LyingAny n t p count left) where
    -- by the number that is kept
    abbrev ClearBy : ℕ → Type 0
    ClearBy c = ByRemnant (remnant c) (ClearLoneOf E k l) (FreeAnyOf l E)

    pub clear_alone : kept_of k l.a ≡ 1 → ClearAnyOf E k l → ClearLoneOf E k l
    clear_alone e x = subst ClearBy e x

    pub alone_clear : kept_of k l.a ≡ 1 → ClearLoneOf E k l → ClearAnyOf E k l
    alone_clear e x = subst ClearBy (sym e) x

    pub clear_several : (c : ℕ) → kept_of k l.a ≡ suc (suc c) → ClearAnyOf E k l → FreeAnyOf l E
    clear_several c e x = subst ClearBy e x

pub clear_alike_of : {n : ℕ} {t : List ℕ} {g left : ℕ} (k k' : Marking) (E E' : List Entry) (l : Lying n t g left) →
    Alike k k' (names l.d) → Nothing t k k' E E' l.from l.to → ClearOf E k l → ClearOf E' k' l
clear_alike_of {n} {t} {g} {left} k k' E E' l = clear_alike t k k' E E' g l.from l.d l.end l.to l.at

pub all_alike_of : {n : ℕ} {t : List ℕ} {p more left : ℕ} (k k' : Marking) (E E' : List Entry) (l : LyingAll n t p more left) →
    Alike k k' (names_all l.ds) → Nothing t k k' E E' l.from l.to → ClearAllOf E k l → ClearAllOf E' k' l
all_alike_of {n} {t} {p} {more} {left} k k' E E' l = all_alike t k k' E E' p l.from l.ds l.end l.to l.within l.at
