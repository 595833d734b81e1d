-- The choices by their places in the list of all: how many there are, and which is the one with a given number.
-- Assumes nothing.
use mathlib.Core.Path.{◌≡◌, refl, ap, ap₂, sym, ◌∙◌}
use mathlib.Core.List.{List, [], ◌∷◌, ◌++◌, append_assoc, append-nil}
use Prim.Native.Nat.{ℕ, suc, ◌+◌, ◌*◌}
use native.Mathlib.Omega.{arith}
use native.Mathlib.Nat.{suc-mul, zero-mul}
use lib.ListN.{length, length-append}
use Rattle.descriptions.specs.Descr.{number_all, number}
use Rattle.descriptions.proofs.Counting.{number_all_choices, number_choices}
use Rattle.modes_by_marks.specs.Placed.{Placed, Places, ◌also◌, stop, strip, strip_all}
use Rattle.modes_by_marks.specs.Beside.{◌next◌}
use Rattle.modes_by_marks.proofs.Finding.{Pick, pick_each, pick_after, pick_pairs, pick_as, picks, picks_all, picks_any, graphs}
use Rattle.modes_by_marks.proofs.Finding.{graphs_are, graphs_all_are}

-- x is what stands in l after i others
pub record Nth {A : Type 0} (l : List A) (i : ℕ) (x : A) : Type 0 where
  pub u : List A
  pub v : List A
  pub is : l ≡ u ++ x ∷ v
  pub long : length u ≡ i

module _ {A : Type 0} where
  pub nth_left : (l m : List A) (i : ℕ) (x : A) → Nth l i x → Nth (l ++ m) i x
  nth_left l m i x s = record {
    u = s.u;
    v = s.v ++ m;
    is = ap (λ (z : List A). z ++ m) s.is ∙ append_assoc s.u (x ∷ s.v) m;
    long = s.long;
  }

  pub nth_right : (l m : List A) (i : ℕ) (x : A) → Nth m i x → Nth (l ++ m) (length l + i) x
  nth_right l m i x s = record {
    u = l ++ s.u;
    v = s.v;
    is = ap (λ (z : List A). l ++ z) s.is ∙ sym (append_assoc l s.u (x ∷ s.v));
    long = length-append l s.u ∙ ap (λ (z : ℕ). length l + z) s.long;
  }

abbrev Picks : Type 0 → Type 0
Picks Graph = List (Pick Graph)

module _ {Graph : Type 0} where
  -- ---- how many there are
  graphs_long : (l : Picks Graph) → length (graphs l) ≡ length l
  graphs_long [] = refl
  graphs_long (p ∷ l) = ap suc (graphs_long l)

  pub picks_long : (d : Placed Graph) → length (picks d) ≡ number (strip d)
  picks_long d = sym (graphs_long (picks d)) ∙ ap length (graphs_are d) ∙ sym (number_choices (strip d))

  pub picks_all_long : (ds : Places Graph) → length (picks_all ds) ≡ number_all (strip_all ds)
  picks_all_long ds = sym (graphs_long (picks_all ds)) ∙ ap length (graphs_all_are ds) ∙ sym (number_all_choices (strip_all ds))

  after_long : (p : Pick Graph) (l : Picks Graph) → length (pick_after p l) ≡ length l
  after_long p [] = refl
  after_long p (q ∷ l) = ap suc (after_long p l)

  pub pairs_long : (l m : Picks Graph) → length (pick_pairs l m) ≡ length l * length m
  pairs_long [] m = sym (zero-mul (length m))
  pairs_long (p ∷ l) m = length-append (pick_after p m) (pick_pairs l m)
      ∙ ap₂ {C = ℕ} ◌+◌ (after_long p m) (pairs_long l m) ∙ omega (arith, suc-mul (length l) (length m))

  -- ---- the one with a number
  each_append : (g : Graph) (l m : Picks Graph) → pick_each g (l ++ m) ≡ pick_each g l ++ pick_each g m
  each_append g [] m = refl
  each_append g (p ∷ l) m = ap (λ (z : Picks Graph). (g ∷ p.0, p.1) ∷ z) (each_append g l m)

  each_long : (g : Graph) (l : Picks Graph) → length (pick_each g l) ≡ length l
  each_long g [] = refl
  each_long g (p ∷ l) = ap suc (each_long g l)

  pub nth_each : (g : Graph) (l : Picks Graph) (i : ℕ) (p : Pick Graph) → Nth l i p → Nth (pick_each g l) i (g ∷ p.0, p.1)
  nth_each g l i p s = record {
    u = pick_each g s.u;
    v = pick_each g s.v;
    is = ap (pick_each g) s.is ∙ each_append g s.u (p ∷ s.v);
    long = each_long g s.u ∙ s.long;
  }

  as_append : (x : ℕ) (l m : Picks Graph) → pick_as x (l ++ m) ≡ pick_as x l ++ pick_as x m
  as_append x [] m = refl
  as_append x (p ∷ l) m = ap (λ (z : Picks Graph). (p.0, x ∷ p.1) ∷ z) (as_append x l m)

  pub as_long : (x : ℕ) (l : Picks Graph) → length (pick_as x l) ≡ length l
  as_long x [] = refl
  as_long x (p ∷ l) = ap suc (as_long x l)

  pub nth_as : (x : ℕ) (l : Picks Graph) (i : ℕ) (p : Pick Graph) → Nth l i p → Nth (pick_as x l) i (p.0, x ∷ p.1)
  nth_as x l i p s = record {
    u = pick_as x s.u;
    v = pick_as x s.v;
    is = ap (pick_as x) s.is ∙ as_append x s.u (p ∷ s.v);
    long = as_long x s.u ∙ s.long;
  }

  after_append : (q : Pick Graph) (l m : Picks Graph) → pick_after q (l ++ m) ≡ pick_after q l ++ pick_after q m
  after_append q [] m = refl
  after_append q (p ∷ l) m = ap (λ (z : Picks Graph). (q.0 ++ p.0, q.1 ++ p.1) ∷ z) (after_append q l m)

  nth_after : (q : Pick Graph) (l : Picks Graph) (i : ℕ) (p : Pick Graph) → Nth l i p → Nth (pick_after q l) i (q.0 ++ p.0, q.1 ++ p.1)
  nth_after q l i p s = record {
    u = pick_after q s.u;
    v = pick_after q s.v;
    is = ap (pick_after q) s.is ∙ after_append q s.u (p ∷ s.v);
    long = after_long q s.u ∙ s.long;
  }

  pairs_append : (l k m : Picks Graph) → pick_pairs (l ++ k) m ≡ pick_pairs l m ++ pick_pairs k m
  pairs_append [] k m = refl
  pairs_append (p ∷ l) k m = ap (λ (z : Picks Graph). pick_after p m ++ z) (pairs_append l k m)
      ∙ sym (append_assoc (pick_after p m) (pick_pairs l m) (pick_pairs k m))

  -- of two lists together: first all with the first of l
  pub nth_pairs : (l m : Picks Graph) (i j : ℕ) (p q : Pick Graph) → Nth l i p → Nth m j q →
      Nth (pick_pairs l m) (i * length m + j) (p.0 ++ q.0, p.1 ++ q.1)
  nth_pairs l m i j p q s t =
      let a = nth_after p m j q t in
      let r = nth_right (pick_pairs s.u m) (pick_after p m ++ pick_pairs s.v m) j (p.0 ++ q.0, p.1 ++ q.1)
      (nth_left (pick_after p m) (pick_pairs s.v m) j (p.0 ++ q.0, p.1 ++ q.1) a) in
      record {
        u = r.u;
        v = r.v;
        is = ap (λ (z : Picks Graph). pick_pairs z m) s.is ∙ pairs_append s.u (p ∷ s.v) m ∙ r.is;
        long = r.long ∙ ap (λ (z : ℕ). z + j) (pairs_long s.u m ∙ ap (λ (z : ℕ). z * length m) s.long);
      }

  -- ---- those of two lists of disjunctions
  after_after : (p q : Pick Graph) (l : Picks Graph) → pick_after (p.0 ++ q.0, p.1 ++ q.1) l ≡ pick_after p (pick_after q l)
  after_after p q [] = refl
  after_after p q (r ∷ l) = ap₂ {C = Picks Graph} ◌∷◌
      (ap₂ {C = Pick Graph} (λ (a : List Graph) (b : List ℕ). (a, b)) (append_assoc p.0 q.0 r.0)
      (append_assoc p.1 q.1 r.1))
      (after_after p q l)

  after_pairs : (p : Pick Graph) (l m : Picks Graph) → pick_pairs (pick_after p l) m ≡ pick_after p (pick_pairs l m)
  after_pairs p [] m = refl
  after_pairs p (q ∷ l) m = ap₂ {C = Picks Graph} ◌++◌ (after_after p q m) (after_pairs p l m)
      ∙ sym (after_append p (pick_after q m) (pick_pairs l m))

  pairs_pairs : (k l m : Picks Graph) → pick_pairs (pick_pairs k l) m ≡ pick_pairs k (pick_pairs l m)
  pairs_pairs [] l m = refl
  pairs_pairs (p ∷ k) l m = pairs_append (pick_after p l) (pick_pairs k l) m
      ∙ ap₂ {C = Picks Graph} ◌++◌ (after_pairs p l m) (pairs_pairs k l m)

  after_none : (l : Picks Graph) → pick_after ([], []) l ≡ l
  after_none [] = refl
  after_none (p ∷ l) = ap (λ (z : Picks Graph). p ∷ z) (after_none l)

  pub picks_next : (ds es : Places Graph) → picks_all (ds next es) ≡ pick_pairs (picks_all ds) (picks_all es)
  picks_next stop es = sym (append-nil (pick_after ([], []) (picks_all es)) ∙ after_none (picks_all es))
  picks_next (a also ds) es = ap (pick_pairs (picks_any a)) (picks_next ds es)
      ∙ sym (pairs_pairs (picks_any a) (picks_all ds) (picks_all es))
