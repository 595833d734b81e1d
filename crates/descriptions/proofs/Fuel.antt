-- Tidying makes no description larger, and a round that folds makes it smaller. So the fuel of `tidy` is enough: Rounds says what it
-- gives with no bound.
-- Assumes nothing.
use mathlib.Core.Path.{◌≡◌}
use mathlib.Core.Option.{Option, none, some}
use mathlib.Core.List.{List, [], ◌∷◌}
use Prim.Native.Nat.{ℕ, zero, suc, ◌+◌, ◌≤◌}
use native.Mathlib.Omega.{arith}
use lib.ListN.{length}
use Rattle.descriptions.specs.Descr.{Alts, Desc, Disjs, ◌and◌, ◌or◌, ◌then◌, desc, end, fail}
use Rattle.descriptions.specs.Modes.{Round, after, finish, kept, round, size, size_all, size_any, tidy}
use Rattle.descriptions.specs.Joining.{Joining}

module _ {Graph : Type 0} where
  abbrev Small : Desc Graph → Option (Desc Graph) → Type 0
  Small d none = Unit {0}
  Small d (some e) = size e ≤ size d

  pub size_then : (ds es : Disjs Graph) → size_all (ds then es) ≡ size_all ds + size_all es
  unfolding size
  size_then end es = omega arith
  size_then (a and ds) es = rw (size_then ds es) (omega arith)

  kept_small : (t : Desc Graph → Option (Desc Graph)) → ((d : Desc Graph) → Small d (t d)) → (a : Alts Graph) →
      size_any (kept t a) ≤ size_any a
  unfolding size
  kept_small t T fail = omega arith
  kept_small t T (d or a) = go (t d) (T d) (kept_small t T a)
    where
      go : (o : Option (Desc Graph)) → Small d o → size_any (kept t a) ≤ size_any a →
          size_any {Graph = Graph} (elim o [ none ↦ kept t a | some e ↦ e or kept t a ]) ≤ size d + size_any a
      go none s r = omega arith
      go (some e) s r = omega arith

  -- a round folds a disjunction for each graph
  abbrev pub Less : ℕ → Option (Round Graph) → Type 0
  Less n none = Unit {0}
  Less n (some r) = size_all r.left + length r.folded ≤ n

  less_le : (m n : ℕ) → m ≤ n → (o : Option (Round Graph)) → Less m o → Less n o
  less_le m n h none l = tt
  less_le m n h (some r) l = omega arith

  small_le : (d e : Desc Graph) → size d ≤ size e → (o : Option (Desc Graph)) → Small d o → Small e o
  small_le d e h none s = tt
  small_le d e h (some f) s = omega arith

module _ {Graph : Type 0} (J : Joining Graph) where
  open J use {join}

  after_less : (a : Alts Graph) (r : Round Graph) (n : ℕ) → Less n (some r) → Less (suc (size_any a + n)) (after J a r)
  unfolding size
  after_less fail r n l = tt
  after_less (desc g ds or fail) r n l = omega (arith, size_then ds r.left)
  after_less (d or (e or a)) r n l = omega arith

  pub round_less : (t : Desc Graph → Option (Desc Graph)) → ((d : Desc Graph) → Small d (t d)) → (ds : Disjs Graph) →
      Less (size_all ds) (round J t ds)
  unfolding size
  round_less t T end = omega arith
  round_less t T (a and ds) = go (round J t ds) (round_less t T ds)
    where
      go : (o : Option (Round Graph)) → Less (size_all ds) o →
          Less {Graph = Graph} (suc (size_any a + size_all ds)) (elim o [ none ↦ none | some r ↦ after J (kept t a) r ])
      go none l = tt
      go (some r) l = less_le (suc (size_any (kept t a) + size_all ds)) (suc (size_any a + size_all ds)) (omega (arith, kept_small t T a))
          (after J (kept t a) r) (after_less (kept t a) r (size_all ds) l)

  finish_small : (again : Desc Graph → Option (Desc Graph)) → ((d : Desc Graph) → Small d (again d)) →
      (g : Graph) (ds left : Disjs Graph) (folded : List Graph) → size_all left + length folded ≤ size_all ds →
      Small (desc g ds) (finish J again g left folded)
  unfolding finish size
  finish_small again A g ds left [] h = omega arith
  finish_small again A g ds left (x ∷ xs) h = go (join (g ∷ x ∷ xs))
    where
      go : (o : Option Graph) → Small (desc g ds) (elim o [ none ↦ none | some g' ↦ again (desc g' left) ])
      go none = tt
      go (some g') = small_le (desc g' left) (desc g ds) (omega arith) (again (desc g' left)) (A (desc g' left))

  pub tidy_small : (n : ℕ) (C : Graph) (d : Desc Graph) → Small d (tidy J n C d)
  unfolding tidy
  tidy_small zero C d = omega arith
  tidy_small (suc n) C (desc g ds) = go (join (C ∷ g ∷ [])) (λ K d. tidy_small n K d)
    where
      go : (o : Option Graph) → ((K : Graph) (d : Desc Graph) → Small d (tidy J n K d)) →
          Small (desc g ds) (elim o [
            | none ↦ none
            | some K ↦ elim (round J (tidy J n K) ds) [ none ↦ none | some r ↦ finish J (tidy J n C) g r.left r.folded ]
          ])
      go none t = tt
      go (some K) t = two (round J (tidy J n K) ds) (round_less (tidy J n K) (t K) ds)
        where
          two : (o : Option (Round Graph)) → Less (size_all ds) o →
              Small (desc g ds) (elim o [ none ↦ none | some r ↦ finish J (tidy J n C) g r.left r.folded ])
          two none l = tt
          two (some r) l = finish_small (tidy J n C) (t C) g ds r.left r.folded l
