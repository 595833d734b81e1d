-- The number of choices is the length of the list of choices, and the capped count is its minimum with 4,097.
-- Assumes nothing.
use mathlib.Core.Path.{◌≡◌, refl, ap, ap₂, sym, ◌∙◌}
use mathlib.Core.Bool.{Bool, true, false}
use mathlib.Core.List.{List, [], ◌∷◌}
use Prim.Native.Nat.{ℕ, zero, suc, ◌+◌, ◌*◌, ◌≤◌, ◌<◌, min}
use native.Mathlib.Omega.{arith}
use native.Mathlib.Nat.{zero-mul, suc-mul, mul_comm, le-mul_of_pos_right, min-eq_left, min-eq_right}
use lib.ListN.{length, length-append}
use lib.Dec.{ltb}
use Rattle.descriptions.specs.Limits.{choice_limit, choice_stop}
use Rattle.descriptions.specs.Descr.{Alts, Desc, Disjs, ◌and◌, ◌or◌, agree, agreeing, capped, capped_all, capped_any, choices}
use Rattle.descriptions.specs.Descr.{choices_all, choices_any, desc, each, end, fail, number, number_all, number_any, pairs, readings}
use Rattle.descriptions.proofs.Tests.{Tells, fails, holds, tells_lt}
use Rattle.descriptions.specs.Joining.{Joining}

-- stopping on the way changes nothing
big : (c x y : ℕ) → 0 < x → c ≤ y → min (x * y) c ≡ c
big c x y h k = let e = mul_comm x y in let l = le-mul_of_pos_right {m = x} y h in min-eq_right (omega (arith, e, l))

cap_left : (c x y : ℕ) → c ≤ y → min (x * c) c ≡ min (x * y) c
cap_left c zero y k = rw (zero-mul c, zero-mul y)
cap_left c (suc x) y k = big c (suc x) c (omega arith) (omega arith) ∙ sym (big c (suc x) y (omega arith) k)

pub cap_one : (c x y : ℕ) → min (x * min y c) c ≡ min (x * y) c
cap_one c x y = go (ltb y c) (tells_lt y c)
  where
    go : (t : Bool) → Tells (y < c) t → min (x * min y c) c ≡ min (x * y) c
    go true (holds h) = ap (λ (z : ℕ). min (x * z) c) (min-eq_left (omega arith))
    go false (fails n) = let h : c ≤ y = omega arith in ap (λ (z : ℕ). min (x * z) c) (min-eq_right h) ∙ cap_left c x y h

pub cap_mul : (c x y : ℕ) → min (min x c * min y c) c ≡ min (x * y) c
cap_mul c x y = cap_one c (min x c) y ∙ ap (λ (z : ℕ). min z c) (mul_comm (min x c) y) ∙ cap_one c y x
    ∙ ap (λ (z : ℕ). min z c) (mul_comm y x)

pub cap_add : (c x y : ℕ) → min (min x c + min y c) c ≡ min (x + y) c
cap_add c x y = omega arith

module _ {Graph : Type 0} where
  pub length_each : (c : List Graph) (l : List (List Graph)) → length (each c l) ≡ length l
  length_each c [] = refl
  length_each c (r ∷ l) = ap suc (length_each c l)

  pub length_pairs : (k l : List (List Graph)) → length (pairs k l) ≡ length k * length l
  length_pairs [] l = sym (zero-mul (length l))
  length_pairs (c ∷ k) l =
      let e = length-append (each c l) (pairs k l) in
      let f = length_each c l in
      let g = length_pairs k l in
      let h = suc-mul (length k) (length l) in
      omega (arith, e, f, g, h)

  mutual
    unfolding number

    pub number_choices : (d : Desc Graph) → number d ≡ length (choices d)
    number_choices (desc g ds) = number_all_choices ds ∙ sym (length_each (g ∷ []) (choices_all ds))

    pub number_all_choices : (ds : Disjs Graph) → number_all ds ≡ length (choices_all ds)
    number_all_choices end = refl
    number_all_choices (a and ds) = ap₂ {C = ℕ} ◌*◌ (number_any_choices a) (number_all_choices ds)
        ∙ sym (length_pairs (choices_any a) (choices_all ds))

    pub number_any_choices : (a : Alts Graph) → number_any a ≡ length (choices_any a)
    number_any_choices fail = refl
    number_any_choices (d or a) = ap₂ {C = ℕ} ◌+◌ (number_choices d) (number_any_choices a)
        ∙ sym (length-append (choices d) (choices_any a))

  mutual
    unfolding number capped

    pub capped_number : (d : Desc Graph) → capped d ≡ min (number d) choice_stop
    capped_number (desc g ds) = capped_all_number ds

    pub capped_all_number : (ds : Disjs Graph) → capped_all ds ≡ min (number_all ds) choice_stop
    capped_all_number end = refl
    capped_all_number (a and ds) = ap₂ {C = ℕ} (λ (x y : ℕ). min (x * y) choice_stop) (capped_any_number a) (capped_all_number ds)
        ∙ cap_mul choice_stop (number_any a) (number_all ds)

    pub capped_any_number : (a : Alts Graph) → capped_any a ≡ min (number_any a) choice_stop
    capped_any_number fail = refl
    capped_any_number (d or a) = ap₂ {C = ℕ} (λ (x y : ℕ). min (x + y) choice_stop) (capped_number d) (capped_any_number a)
        ∙ cap_add choice_stop (number d) (number_any a)

  -- the test of number 7, on the capped count
  pub over_limit : (d : Desc Graph) → ltb choice_limit (capped d) ≡ ltb choice_limit (number d)
  over_limit d = go (ltb choice_limit (capped d)) (tells_lt choice_limit (capped d)) (ltb choice_limit (number d))
      (tells_lt choice_limit (number d))
    where
      go : (s : Bool) → Tells (choice_limit < capped d) s → (t : Bool) → Tells (choice_limit < number d) t → s ≡ t
      go true (holds h) true (holds k) = refl
      go true (holds h) false (fails n) = let e = capped_number d in absurd (omega (arith, e))
      go false (fails n) true (holds k) = let e = capped_number d in absurd (omega (arith, e))
      go false (fails n) false (fails m) = refl

module _ {Graph : Type 0} (J : Joining Graph) where
  -- the readings are among the choices
  pub agreeing_length : (l : List (List Graph)) → agreeing J l ≤ length l
  unfolding agreeing
  agreeing_length [] = omega arith
  agreeing_length (c ∷ l) = go (agree J c) (agreeing_length l)
    where
      go : (t : Bool) → agreeing J l ≤ length l → elim t [ true ↦ suc (agreeing J l) | false ↦ agreeing J l ] ≤ suc (length l)
      go true h = omega arith
      go false h = omega arith

  pub readings_number : (d : Desc Graph) → readings J d ≤ number d
  unfolding readings
  readings_number d = omega (arith, number_choices d, agreeing_length (choices d))
