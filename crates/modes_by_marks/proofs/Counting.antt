-- Counting over marks counts the choices of what they leave, folded or not, stopping at the limit.
-- Assumes nothing.
use mathlib.Core.Path.{◌≡◌, refl, ap, ap₂, sym, ◌∙◌}
use mathlib.Core.Bool.{Bool, true, false}
use Prim.Native.Nat.{ℕ, ◌+◌, ◌*◌, ◌≤◌, min}
use native.Mathlib.Omega.{arith}
use native.Mathlib.Nat.{zero-mul, suc-mul, mul_assoc}
use Rattle.descriptions.specs.Descr.{Alts, Desc, Disjs, ◌and◌, ◌or◌, ◌then◌, desc, end, fail, number, number_all, number_any}
use Rattle.descriptions.specs.Modes.{Round, fold, fold_all, fold_any, in_place}
use Rattle.descriptions.proofs.Mean.{Can, CanAll, CanAny}
use Rattle.descriptions.proofs.Counting.{cap_add, cap_mul}
use Rattle.modes_by_marks.specs.Placed.{Options, Placed, Places, ◌also◌, no_more, option, place, stop, strip, strip_all, strip_any}
use Rattle.modes_by_marks.specs.Marks.{Marking, keep, keep_all, keep_any}
use Rattle.modes_by_marks.specs.Counting.{count_all_at, count_any_at, count_at}
use Rattle.modes_by_marks.proofs.Sane.{lone_in_place, rest, shape}
use Rattle.modes_by_marks.specs.Sane.{Sane, SaneAll, SaneAny}
use Rattle.descriptions.proofs.Laws.{Laws}
use Rattle.descriptions.specs.Joining.{Joining}

one_times : (n : ℕ) → n ≡ 1 * n
one_times n = omega (arith, suc-mul 0 n, zero-mul n)

plus_zero : (n : ℕ) → n ≡ n + 0
plus_zero n = omega arith

module _ {Graph : Type 0} where
  -- folding keeps the number of choices
  number_then : (ds es : Disjs Graph) → number_all (ds then es) ≡ number_all ds * number_all es
  unfolding number
  number_then end es = one_times (number_all es)
  number_then (a and ds) es = ap (λ (z : ℕ). number_any a * z) (number_then ds es)
      ∙ sym (mul_assoc (number_any a) (number_all ds) (number_all es))

  -- counting by descent over the kept alternatives
  mutual
    unfolding count_at number

    pub count_left : (d : Placed Graph) (L : ℕ) → 1 ≤ L → (m : Marking) → count_at L m d ≡ min (number (strip (keep m d))) L
    count_left (place g ds) L h m = count_all_left ds L h m

    count_all_left : (ds : Places Graph) (L : ℕ) → 1 ≤ L → (m : Marking) →
        count_all_at L m ds ≡ min (number_all (strip_all (keep_all m ds))) L
    count_all_left stop L h m = omega arith
    count_all_left (a also ds) L h m = ap₂ {C = ℕ} (λ (x y : ℕ). min (x * y) L) (count_any_left a L h m) (count_all_left ds L h m)
        ∙ cap_mul L (number_any (strip_any (keep_any m a))) (number_all (strip_all (keep_all m ds)))

    count_any_left : (a : Options Graph) (L : ℕ) → 1 ≤ L → (m : Marking) →
        count_any_at L m a ≡ min (number_any (strip_any (keep_any m a))) L
    count_any_left no_more L h m = omega arith
    count_any_left (option x d a) L h m = go (m x) (count_left d L h m) (count_any_left a L h m)
      where
        go : (t : Bool) → count_at L m d ≡ min (number (strip (keep m d))) L →
            count_any_at L m a ≡ min (number_any (strip_any (keep_any m a))) L →
            elim t [ true ↦ min (count_at L m d + count_any_at L m a) L | false ↦ count_any_at L m a ]
            ≡ min (number_any (strip_any {Graph = Graph} (elim t [ true ↦ option x (keep m d) (keep_any m a) | false ↦ keep_any m a ])))
            L
        go true e f = ap₂ {C = ℕ} (λ (x y : ℕ). min (x + y) L) e f
            ∙ cap_add L (number (strip (keep m d))) (number_any (strip_any (keep_any m a)))
        go false e f = f

module _ {Graph : Type 0} {J : Joining Graph} (𝓛 : Laws J) where
  mutual
    unfolding fold number

    pub number_fold : (d : Desc Graph) → Can 𝓛 d → Sane J d → number (fold J d) ≡ number d
    number_fold (desc g ds) c s = let (k, e, q) = shape 𝓛 (desc g ds) c s in ap number q ∙ number_fold_all ds c.1 s.1

    number_rest : (d : Desc Graph) → Can 𝓛 d → Sane J d → number_all (rest J d) ≡ number d
    number_rest (desc g ds) c s = number_fold_all ds c.1 s.1

    number_fold_all : (ds : Disjs Graph) → CanAll 𝓛 ds → SaneAll J ds → number_all (fold_all J ds).left ≡ number_all ds
    number_fold_all end c s = refl
    number_fold_all (a and ds) c s = number_place a c.0 s.0 (fold_all J ds)
        ∙ ap (λ (z : ℕ). number_any a * z) (number_fold_all ds c.1 s.1)

    number_place : (a : Alts Graph) → CanAny 𝓛 a → SaneAny J a → (r : Round Graph) →
        number_all (in_place J (fold_any J a) r).left ≡ number_any a * number_all r.left
    number_place fail c s r = refl
    number_place (d or a) c s r = go a c.0 s.0 (number_rest d c.0 s.0) (number_fold d c.0 s.0)
        (number_fold_any a c.1 s.1)
      where
        go : (a : Alts Graph) → Can 𝓛 d → Sane J d → number_all (rest J d) ≡ number d → number (fold J d) ≡ number d →
            number_any (fold_any J a) ≡ number_any a →
            number_all (in_place J (fold J d or fold_any J a) r).left ≡ (number d + number_any a) * number_all r.left
        go fail c s e f h = let (k, i, q) = shape 𝓛 d c s in
            ap (λ (z : Round Graph). number_all z.left) (lone_in_place J d r k q) ∙ number_then (rest J d) r.left
            ∙ ap (λ (z : ℕ). z * number_all r.left) (e ∙ plus_zero (number d))
        go (x or b) c s e f h = ap₂ {C = ℕ} (λ (y z : ℕ). (y + z) * number_all r.left) f h

    number_fold_any : (a : Alts Graph) → CanAny 𝓛 a → SaneAny J a → number_any (fold_any J a) ≡ number_any a
    number_fold_any fail c s = refl
    number_fold_any (d or a) c s = ap₂ {C = ℕ} ◌+◌ (number_fold d c.0 s.0) (number_fold_any a c.1 s.1)
