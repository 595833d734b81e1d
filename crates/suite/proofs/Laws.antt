-- Each return of a covered function is what the definitions say. Assumes nothing.
use mathlib.Core.Path.{◌≡◌, refl, sym, ap, ◌∙◌}
use mathlib.Core.Bool.{true, false}
use mathlib.Core.List.{List, [], ◌∷◌, ◌++◌}
use Prim.Native.Nat.{ℕ, zero, suc, ◌+◌, ◌≤◌, ◌<◌}
use native.Mathlib.Omega.{arith}
use lib.ListN.{length, get_or, set, take, drop}
use lib.Dec.{eqb}
use borrow.Author.Tests.{le-ltb, lt-ltb, eq-eqb, ne_eqb}
use Rattle.theory.specs.Answer.{Answer, Call}
use Rattle.theory.specs.Unified.{unified}
use Rattle.theory.specs.Outcome.{Areas, Outcome, Row}
use Rattle.descriptions.specs.Outcome.{worked}
use Rattle.theory.proofs.Table.{outcome_answer}
use Rattle.suite.specs.declared.test.Test.{Test}
use Rattle.suite.specs.declared.running.Running.{Running}
use Rattle.suite.specs.Suite.{record_fault, fault_after, length_fault, test_words, test_call, test_answer, result_after}
use Rattle.suite.specs.Suite.{AsAnswered, as_expected, first_after, noted_as, noted_record, row_sum, counts_sum, raised_at}

-- ---- refusals
pub fault_stays : (n space : ℕ) (t : Test) → (n ≡ 0 → ⊥) → n ≡ fault_after n space t
unfolding fault_after
fault_stays zero space t h = absurd (h refl)
fault_stays (suc n) space t h = refl

pub fault_fresh : (n space : ℕ) (t : Test) → n ≡ 0 → record_fault space t ≡ fault_after n space t
unfolding fault_after
fault_fresh n space t z = rw z refl

module _ (space : ℕ) (t : Test) where
  pub first_beyond : space < t.first + t.firsts → 31 ≡ record_fault space t
  unfolding record_fault
  first_beyond h = rw (lt-ltb space (t.first + t.firsts) h, record_fault)

  module _ (f : t.first + t.firsts ≤ space) where
    pub second_beyond : space < t.second + t.seconds → 31 ≡ record_fault space t
    unfolding record_fault
    second_beyond h = rw (le-ltb space (t.first + t.firsts) f, lt-ltb space (t.second + t.seconds) h, record_fault)

    module _ (s : t.second + t.seconds ≤ space) where
      pub mode_beyond : 2 < t.mode → 32 ≡ record_fault space t
      unfolding record_fault
      mode_beyond h =
          rw (le-ltb space (t.first + t.firsts) f, le-ltb space (t.second + t.seconds) s, lt-ltb 2 t.mode h, record_fault)

      pub number_beyond : t.mode ≤ 2 → 11 < t.number → 32 ≡ record_fault space t
      unfolding record_fault
      number_beyond m h =
          rw (
            le-ltb space (t.first + t.firsts) f,
            le-ltb space (t.second + t.seconds) s,
            le-ltb 2 t.mode m,
            lt-ltb 11 t.number h,
            record_fault,
          )

      pub none_beyond : t.mode ≤ 2 → t.number ≤ 11 → 0 ≡ record_fault space t
      unfolding record_fault
      none_beyond m h =
          rw (
            le-ltb space (t.first + t.firsts) f,
            le-ltb space (t.second + t.seconds) s,
            le-ltb 2 t.mode m,
            le-ltb 11 t.number h,
            record_fault,
          )

pub too_many : (n : ℕ) → 64 < n → 30 ≡ length_fault n
unfolding length_fault
too_many n h = rw (lt-ltb 64 n h, length_fault)

pub not_many : (n : ℕ) → n ≤ 64 → 0 ≡ length_fault n
unfolding length_fault
not_many n h = rw (le-ltb 64 n h, length_fault)

-- ---- the running record
pub number_decides : (t : Test) (n r : ℕ) → (t.number ≡ n → ⊥) → eqb t.number n ≡ as_expected t n r
unfolding as_expected
number_decides t n r h = rw (ne_eqb t.number n h) refl

pub both_agree : (t : Test) (n r : ℕ) → t.number ≡ n → t.readings ≡ r → true ≡ as_expected t n r
unfolding as_expected
both_agree t n r e h = rw (eq-eqb t.number n e, eq-eqb t.readings r h) refl

pub readings_decide : (t : Test) (n r : ℕ) → t.number ≡ n → eqb t.readings r ≡ as_expected t n r
unfolding as_expected
readings_decide t n r e = rw (eq-eqb t.number n e) refl

pub first_here : (at first : ℕ) → first ≡ 64 → at ≡ first_after at first
unfolding first_after
first_here at first f = rw (eq-eqb first 64 f, first_after)

pub first_there : (at first : ℕ) → (first ≡ 64 → ⊥) → first ≡ first_after at first
unfolding first_after
first_there at first f = rw (ne_eqb first 64 f, first_after)

module _ (t : Test) (n r : ℕ) (h : Running) where
  pub noted_good : as_expected t n r ≡ true → record { run = h.run + 1; good = h.good + 1; first = h.first } ≡ noted_record t n r h
  unfolding noted_record noted_as
  noted_good e = rw e refl

  pub noted_first : as_expected t n r ≡ false → h.first ≡ 64 → record { run = h.run + 1; good = h.good; first = h.run } ≡ noted_record t
      n r h
  unfolding noted_record noted_as
  noted_first e f = rw e (ap (λ (k : ℕ). record { run = h.run + 1; good = h.good; first = k }) (first_here h.run h.first f))

  pub noted_later : as_expected t n r ≡ false → (h.first ≡ 64 → ⊥)
      → record { run = h.run + 1; good = h.good; first = h.first } ≡ noted_record t n r h
  unfolding noted_record noted_as
  noted_later e f = rw e (ap (λ (k : ℕ). record { run = h.run + 1; good = h.good; first = k }) (first_there h.run h.first f))

-- ---- the counts
pub sum_set : (l : List ℕ) (i : ℕ) → i < length l → row_sum (set l i (get_or l i 0 + 1)) ≡ row_sum l + 1
unfolding row_sum
sum_set [] i h = absurd (omega arith)
sum_set (x ∷ l) zero h = omega arith
sum_set (x ∷ l) (suc i) h = let e = sum_set l i (omega arith) in omega (arith, e)

pub total_set : (c : List (List ℕ)) (i : ℕ) (row : List ℕ) → i < length c → row_sum row ≡ row_sum (get_or c i []) + 1
    → counts_sum (set c i row) ≡ counts_sum c + 1
unfolding counts_sum
total_set [] i row h e = absurd (omega arith)
total_set (x ∷ c) zero row h e = omega arith
total_set (x ∷ c) (suc i) row h e = let d = total_set c i row (omega arith) e in omega (arith, d)

pub cell_le : (l : List ℕ) (i : ℕ) → get_or l i 0 ≤ row_sum l
unfolding row_sum
cell_le [] i = omega arith
cell_le (x ∷ l) zero = omega arith
cell_le (x ∷ l) (suc i) = let e = cell_le l i in omega (arith, e)

pub row_le : (c : List (List ℕ)) (i : ℕ) → row_sum (get_or c i []) ≤ counts_sum c
unfolding row_sum counts_sum
row_le [] i = omega arith
row_le (x ∷ c) zero = omega arith
row_le (x ∷ c) (suc i) = let e = row_le c i in omega (arith, e)

pub raised_total : (c : List (List ℕ)) (m n : ℕ) → m < length c → n < length (get_or c m []) → counts_sum (raised_at c m n) ≡ counts_sum c + 1
unfolding raised_at
raised_total c m n hm hn = total_set c m (set (get_or c m []) n (get_or (get_or c m []) n 0 + 1)) hm (sum_set (get_or c m []) n hn)

pub raised_is : (c : List (List ℕ)) (m n m' n' : ℕ) → m ≡ m' → n ≡ n'
    → set c m (set (get_or c m []) n (get_or (get_or c m []) n 0 + 1)) ≡ raised_at c m' n'
unfolding raised_at
raised_is c m n m' n' e f = rw (e, f) refl

-- ---- a call
part_is : (ws : List ℕ) (at n p k : ℕ) → p ≡ at → k ≡ n → take k (drop p ws) ≡ test_words ws at n
unfolding test_words
part_is ws at n p k e f = rw (e, f) refl

-- the call that is made of these parts is the record's
pub call_is : (ws : List ℕ) (t : Test) (p k q l : ℕ) → p ≡ t.first → k ≡ t.firsts → q ≡ t.second → l ≡ t.seconds →
    record { mode = t.mode; first = take k (drop p ws); second = take l (drop q ws) } ≡ test_call ws t
call_is ws t p k q l e f g h = λ j. record {
  mode = t.mode;
  first = part_is ws t.first t.firsts p k e f j;
  second = part_is ws t.second t.seconds q l g h j;
}

-- what a call leaves is what the table of numbers leaves
pub answered : (ws : List ℕ) (t : Test) (c : Call) (before after : Areas) (o : Row) (n r : ℕ) → Outcome c before o after →
    n ≡ o.number → r ≡ o.readings → c ≡ test_call ws t → AsAnswered ws t before n r after
unfolding test_answer result_after
answered ws t c before after o n r p en er ec =
    let y : unified c (length before.result) (length before.working) ≡ p.answer = outcome_answer c before o after p in
    let z : test_answer ws t (length before.result) (length before.working) ≡ p.answer =
    ap (λ (v : Call). unified v (length before.result) (length before.working)) (sym ec) ∙ y in
    let m : o.number ≡ (test_answer ws t (length before.result) (length before.working)).number =
    p.the_number ∙ ap (λ (v : Answer). v.number) (sym z) in (
      en ∙ m,
      (
        er ∙ p.the_readings ∙ ap (λ (v : Answer). v.readings) (sym z),
        (
          p.the_result ∙ ap (λ (v : Answer). v.result ++ drop (length v.result) before.result) (sym z),
          p.the_working ∙ ap (λ (k : ℕ). worked k before.working) m,
        ),
      ),
    )
