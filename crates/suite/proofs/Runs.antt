-- What a run keeps: the counts sum to the tests run, the record counts them too, and the table of counts stays 3 by 12. Assumes nothing.
use mathlib.Core.Path.{◌≡◌, refl, sym, ap, ◌∙◌, subst}
use mathlib.Core.Bool.{Bool, true, false, not}
use lib.Dec.{T, ltb, ltb→lt, nltb→le}
use mathlib.Core.List.{List, [], ◌∷◌}
use Prim.Native.Nat.{ℕ, zero, suc, ◌+◌, ◌-◌, ◌≤◌, ◌<◌}
use native.Mathlib.Omega.{arith}
use native.Mathlib.Numerals.{add-one}
use lib.ListN.{length, get_or, set, replicate}
use Rattle.theory.specs.Answer.{Answer}
use Rattle.theory.proofs.Reading.{reads}
use Rattle.theory.specs.Answer.{Call}
use Rattle.theory.specs.Unified.{unified}
use Rattle.theory.specs.Rules.{Given, one, two, three, four, five, six, ten, seven, eleven, eight, done}
use Rattle.descriptions.proofs.Table.{unified_given}
use Rattle.suite.specs.declared.test.Test.{Test}
use Rattle.suite.specs.declared.running.Running.{Running}
use Rattle.suite.specs.declared.checks.Refusal.{Refusal}
use Rattle.suite.specs.declared.checks.Refusal.TheVariants.{TooMany, BeyondArea, OutOfTable}
use Rattle.suite.specs.Suite.{Night, no_test, length_fault, refusal_number, record_fault, fault_after, table_fault, Within, Suited}
use Rattle.suite.specs.Suite.{night_left, Runnable, test_call, test_answer, AsAnswered, as_expected, noted_as, noted_record, row_sum}
use Rattle.suite.specs.Suite.{counts_sum, no_counts, raised_at, begun_night, test_left, night_step, night_after}
use Rattle.suite.proofs.Laws.{fault_stays, fault_fresh, raised_total, too_many}

-- a test of two numbers, with what it says
pub data Tested (a b : ℕ) : Bool → Type 0 where
  less : a < b → Tested a b true
  most : b ≤ a → Tested a b false

pub tested : (a b : ℕ) → Tested a b (ltb a b)
tested a b = go (ltb a b) refl
  where
    go : (t : Bool) → ltb a b ≡ t → Tested a b t
    go true e = less (ltb→lt a b (subst T (sym e) tt))
    go false e = most (nltb→le a b (subst (λ (t : Bool). T (not t)) (sym e) tt))

pub starts : (ws : List ℕ) (ts : List Test) (s : Night) → night_after ws ts s 0 ≡ s
unfolding night_after
starts ws ts s = refl

-- what one test leaves is the next state
pub next_state : (ws : List ℕ) (ts : List Test) (s : Night) (i number readings : ℕ) (y w : List ℕ)
    → AsAnswered ws (get_or ts i no_test) (record { result = (night_after ws ts s i).result; working = (night_after ws ts s i).working }) number
    readings (record { result = y; working = w })
    → record {
      counts = raised_at (night_after ws ts s i).counts (get_or ts i no_test).mode number;
      running = noted_record (get_or ts i no_test) number readings (night_after ws ts s i).running;
      result = y;
      working = w;
    } ≡ night_after ws ts s (suc i)
unfolding night_after night_step test_left
next_state ws ts s i number readings y w a = λ j. record {
  counts = raised_at (night_after ws ts s i).counts (get_or ts i no_test).mode (a.0 j);
  running = noted_record (get_or ts i no_test) (a.0 j) (a.1.0 j) (night_after ws ts s i).running;
  result = a.1.1.0 j;
  working = a.1.1.1 j;
}

-- every number of the table is at most 11
given_small : (c : Call) (room work : ℕ) (y : Answer) → Given c room work y → y.number < 12
given_small c room work y (one h) = omega arith
given_small c room work y (two m h) = omega arith
given_small c room work y (three m l h) = omega arith
given_small c room work y (four m w la lb n) = omega arith
given_small c room work y (five m w la lb i n) = omega arith
given_small c room work y (six d e i a k n) = omega arith
given_small c room work y (ten d e a j l k) = omega arith
given_small c room work y (seven d e a k t) = omega arith
given_small c room work y (eleven d e a k t m n) = omega arith
given_small c room work y (eight d e s a k t h l) = omega arith
given_small c room work y (done d e s a k t h l) = omega arith

pub unified_small : (c : Call) (room work : ℕ) → (unified c room work).number < 12
unified_small c room work = given_small c room work _ (unified_given reads c room work)

pub answer_small : (ws : List ℕ) (t : Test) (room work : ℕ) → (test_answer ws t room work).number < 12
unfolding test_answer
answer_small ws t room work = unified_small (test_call ws t) room work

-- ---- the table of counts is 3 by 12
pub record Square (c : List (List ℕ)) : Type 0 where
  pub rows : length c ≡ 3
  pub cells : (i : ℕ) → i < 3 → length (get_or c i []) ≡ 12

length_put : (l : List ℕ) (i x : ℕ) → length (set l i x) ≡ length l
length_put [] i x = refl
length_put (y ∷ l) zero x = refl
length_put (y ∷ l) (suc i) x = ap suc (length_put l i x)

length_rows : (c : List (List ℕ)) (i : ℕ) (r : List ℕ) → length (set c i r) ≡ length c
length_rows [] i r = refl
length_rows (y ∷ c) zero r = refl
length_rows (y ∷ c) (suc i) r = ap suc (length_rows c i r)

length_row : (c : List (List ℕ)) (i j : ℕ) (r : List ℕ) → length r ≡ length (get_or c i [])
    → length (get_or (set c i r) j []) ≡ length (get_or c j [])
length_row [] i j r e = refl
length_row (y ∷ c) zero zero r e = e
length_row (y ∷ c) zero (suc j) r e = refl
length_row (y ∷ c) (suc i) zero r e = refl
length_row (y ∷ c) (suc i) (suc j) r e = length_row c i j r e

raised_square : (c : List (List ℕ)) (mode number : ℕ) → Square c → Square (raised_at c mode number)
unfolding raised_at
raised_square c mode number s =
    let r : List ℕ = set (get_or c mode []) number (get_or (get_or c mode []) number 0 + 1) in
    record {
      rows = length_rows c mode r ∙ s.rows;
      cells = λ i h. length_row c mode i r (length_put (get_or c mode []) number (get_or (get_or c mode []) number 0 + 1)) ∙ s.cells i h;
    }

none_square : Square no_counts
unfolding no_counts
none_square = record { rows = refl; cells = cell }
  where
    cell : (i : ℕ) → i < 3 → length {A = ℕ} (get_or (replicate 3 (replicate 12 0)) i []) ≡ 12
    cell zero h = refl
    cell (suc zero) h = refl
    cell (suc (suc zero)) h = refl
    cell (suc (suc (suc i))) h = absurd (omega arith)

none_total : counts_sum no_counts ≡ 0
unfolding no_counts counts_sum row_sum
none_total = refl

-- ---- the running record
noted_run : (t : Test) (n r : ℕ) (h : Running) → (noted_record t n r h).run ≡ h.run + 1
unfolding noted_record noted_as
noted_run t n r h = go (as_expected t n r)
  where
    go : (b : Bool) → (noted_as b h).run ≡ h.run + 1
    go true = refl
    go false = refl

noted_good : (t : Test) (n r : ℕ) (h : Running) → (noted_record t n r h).good ≤ h.good + 1
unfolding noted_record noted_as
noted_good t n r h = go (as_expected t n r)
  where
    go : (b : Bool) → (noted_as b h).good ≤ h.good + 1
    go true = omega arith
    go false = omega arith

-- ---- after i tests
pub record NightKept (s : Night) (i : ℕ) : Type 0 where
  pub square : Square s.counts
  pub counted : counts_sum s.counts ≡ i
  pub run_so_far : s.running.run ≡ i
  pub good_so_far : s.running.good ≤ i

kept_step : (ws : List ℕ) (t : Test) (s : Night) (i : ℕ) → t.mode < 3 → NightKept s i → NightKept (night_step ws t s) (suc i)
unfolding night_step test_left
kept_step ws t s i m k =
    let y : Answer = test_answer ws t (length s.result) (length s.working) in
    let a = answer_small ws t (length s.result) (length s.working) in
    let q = k.square.cells t.mode m in
    let rows = k.square.rows in
    let e = raised_total s.counts t.mode y.number (omega (arith, m, rows)) (omega (arith, a, q)) in
    let r = noted_run t y.number y.readings s.running in
    let g = noted_good t y.number y.readings s.running in
    let kc = k.counted in
    let kr = k.run_so_far in
    let kg = k.good_so_far in
    record {
      square = raised_square s.counts t.mode y.number k.square;
      counted = omega (arith, e, kc);
      run_so_far = omega (arith, r, kr);
      good_so_far = omega (arith, g, kg);
    }

-- "its sum is the tests run"
pub kept : (ws : List ℕ) (ts : List Test) (y w : List ℕ) (n : ℕ) → Runnable n (length ws) ts → (i : ℕ) → i ≤ n
    → NightKept (night_after ws ts (begun_night y w) i) i
unfolding night_after
kept ws ts y w n f zero h = record { square = none_square; counted = none_total; run_so_far = refl; good_so_far = omega arith }
kept ws ts y w n f (suc i) h =
    kept_step ws (get_or ts i no_test) (night_after ws ts (begun_night y w) i) i (f.modes i (omega arith))
    (kept ws ts y w n f i (omega arith))

-- what a turn asks
pub ready : (ws : List ℕ) (ts : List Test) (y w : List ℕ) (n : ℕ) → Runnable n (length ws) ts → (i : ℕ) → i < n → (number : ℕ)
    → number ≡ (test_answer ws (get_or ts i no_test) (length (night_after ws ts (begun_night y w) i).result)
    (length (night_after ws ts (begun_night y w) i).working)).number
    → (((night_after ws ts (begun_night y w) i).running.run < 64) × ((night_after ws ts (begun_night y w) i).running.good < 64)) × (((get_or ts
    i no_test).mode < 3) × ((number < 12) × (counts_sum (night_after ws ts (begun_night y w) i).counts < 64)))
ready ws ts y w n f i h number e =
    let s : Night = night_after ws ts (begun_night y w) i in
    let k = kept ws ts y w n f i (omega arith) in
    let a = answer_small ws (get_or ts i no_test) (length s.result) (length s.working) in
    let few = f.few in
    let kc = k.counted in
    let kr = k.run_so_far in
    let kg = k.good_so_far in
    ((omega (arith, h, few, kr), omega (arith, h, few, kg)), (f.modes i h, (omega (arith, a, e), omega (arith, h, few, kc))))

-- ---- refusals: no record is looked at yet; one record more
pub found_none : (space : ℕ) (ts : List Test) (n : ℕ) → n ≡ length ts → length_fault n ≡ table_fault space ts 0
unfolding table_fault
found_none space ts n e = ap length_fault e

pub found_more : (space : ℕ) (ts : List Test) (i : ℕ)
    → fault_after (table_fault space ts i) space (get_or ts i no_test) ≡ table_fault space ts (suc i)
unfolding table_fault
found_more space ts i = refl

-- where none before it is refused, a record decides by itself
pub found_fresh : (space : ℕ) (ts : List Test) (i : ℕ) → table_fault space ts i ≡ 0
    → record_fault space (get_or ts i no_test) ≡ table_fault space ts (i + 1)
found_fresh space ts i z = rw add-one (fault_fresh _ space (get_or ts i no_test) z ∙ found_more space ts i)

-- a table that is too long is refused with 30, however many records are looked at
pub found_long : (space : ℕ) (ts : List Test) (i : ℕ) → 64 < length ts → table_fault space ts i ≡ 30
unfolding table_fault fault_after
found_long space ts zero h = sym (too_many (length ts) h)
found_long space ts (suc i) h = ap (λ (k : ℕ). fault_after k space (get_or ts i no_test)) (found_long space ts i h)

-- no refusal has the number of none
pub refused : (e : Refusal) → refusal_number e ≡ 0 → ⊥
refused TooMany = λ z. omega arith
refused BeyondArea = λ z. omega arith
refused OutOfTable = λ z. omega arith

-- a refusal that is found stays
pub found_stays : (space : ℕ) (ts : List Test) (i j : ℕ) → (table_fault space ts i ≡ 0 → ⊥)
    → table_fault space ts (j + i) ≡ table_fault space ts i
unfolding table_fault
found_stays space ts i zero h = let z : 0 + i ≡ i = omega arith in ap (table_fault space ts) z
found_stays space ts i (suc j) h =
    let e = found_stays space ts i j h in
    let s : suc j + i ≡ suc (j + i) = omega arith in
    ap (table_fault space ts) s ∙ sym (fault_stays (table_fault space ts (j + i)) space (get_or ts (j + i) no_test) (λ z. h (sym e ∙ z))) ∙ e

pub found_to_end : (space : ℕ) (ts : List Test) (i n : ℕ) → i ≤ n → (table_fault space ts i ≡ 0 → ⊥)
    → table_fault space ts i ≡ table_fault space ts n
found_to_end space ts i n h f =
    let e : n - i + i ≡ n = omega arith in
    sym (found_stays space ts i (n - i) f) ∙ ap (table_fault space ts) e

-- a refusal that is found stays, so none before it was found
fault_zero : (n space : ℕ) (t : Test) → fault_after n space t ≡ 0 → (n ≡ 0) × (record_fault space t ≡ 0)
unfolding fault_after
fault_zero zero space t e = (refl, e)
fault_zero (suc n) space t e = absurd (omega (arith, e))

-- a record with no fault fits
fault_free : (space : ℕ) (t : Test) → record_fault space t ≡ 0 → Within space t × (t.mode < 3)
unfolding record_fault
fault_free space t =
    go (ltb space (t.first + t.firsts)) (ltb space (t.second + t.seconds)) (ltb 2 t.mode) (ltb 11 t.number)
    (tested space (t.first + t.firsts)) (tested space (t.second + t.seconds)) (tested 2 t.mode)
  where
    go : (a b c d : Bool) → Tested space (t.first + t.firsts) a → Tested space (t.second + t.seconds) b → Tested 2 t.mode c
        → ◌≡◌ {A = ℕ} (elim a [
          | true ↦ 31
          | false ↦ elim b [
            | true ↦ 31
            | false ↦ elim c [
              | true ↦ 32
              | false ↦ elim d [
                | true ↦ 32
                | false ↦ 0
              ]
            ]
          ]
        ]) 0 → Within space t × (t.mode < 3)
    go true b c d x y z e = absurd (omega (arith, e))
    go false true c d x y z e = absurd (omega (arith, e))
    go false false true d x y z e = absurd (omega (arith, e))
    go false false false d (most f) (most s) (most m) e = ((f, s), omega (arith, m))

refusal_free : (n : ℕ) → length_fault n ≡ 0 → n ≤ 64
unfolding length_fault
refusal_free n = go (ltb 64 n) (tested 64 n)
  where
    go : (a : Bool) → Tested 64 n a → ◌≡◌ {A = ℕ} (elim a [ true ↦ 30 | false ↦ 0 ]) 0 → n ≤ 64
    go true x e = absurd (omega (arith, e))
    go false (most h) e = h

found_before : (space : ℕ) (ts : List Test) (i : ℕ) → table_fault space ts (suc i) ≡ 0
    → (table_fault space ts i ≡ 0) × (record_fault space (get_or ts i no_test) ≡ 0)
unfolding table_fault
found_before space ts i e = fault_zero (table_fault space ts i) space (get_or ts i no_test) e

found_all : (space : ℕ) (ts : List Test) (n : ℕ) → table_fault space ts n ≡ 0
    → (table_fault space ts 0 ≡ 0) × ((i : ℕ) → i < n → record_fault space (get_or ts i no_test) ≡ 0)
found_all space ts zero e = (e, λ i h. absurd (omega (arith, h)))
found_all space ts (suc n) e =
    let (a, b) = found_before space ts n e in
    let (z, r) = found_all space ts n a in
    (z, λ i h. go i h (tested i n) r b)
  where
    go : (i : ℕ) → i < suc n → {t : Bool} → Tested i n t → ((j : ℕ) → j < n → record_fault space (get_or ts j no_test) ≡ 0)
        → record_fault space (get_or ts n no_test) ≡ 0 → record_fault space (get_or ts i no_test) ≡ 0
    go i h (less l) r b = r i l
    go i h (most l) r b = let q : n ≡ i = omega (arith, h, l) in subst (λ (j : ℕ). record_fault space (get_or ts j no_test) ≡ 0) q b

-- a table in which nothing is found may be run
pub found_fine : (space : ℕ) (ts : List Test) → table_fault space ts (length ts) ≡ 0 → Runnable (length ts) space ts
unfolding table_fault
found_fine space ts e =
    let (z, r) = found_all space ts (length ts) e in
    record {
      there = omega arith;
      few = refusal_free (length ts) z;
      fits = λ i h. (fault_free space (get_or ts i no_test) (r i h)).0;
      modes = λ
          i h. (fault_free space (get_or ts i no_test) (r i h)).1;
    }

-- both ends of a suite
pub suited_refused : (ws : List ℕ) (ts : List Test) (s : Night) (n : ℕ) → n ≡ table_fault (length ws) ts (length ts) → (n ≡ 0 → ⊥)
    → Suited ws ts s n s
unfolding night_left
suited_refused ws ts s zero e h = absurd (h refl)
suited_refused ws ts s (suc n) e h = record { the_number = e; the_rest = ap (λ (k : ℕ). night_left k ws ts s) e }

pub suited_run : (ws : List ℕ) (ts : List Test) (s s' : Night) (n : ℕ) → n ≡ table_fault (length ws) ts (length ts) → n ≡ 0
    → s' ≡ night_after ws ts (begun_night s.result s.working) (length ts) → Suited ws ts s n s'
unfolding night_left
suited_run ws ts s s' n e z h = record { the_number = e; the_rest = h ∙ ap (λ (k : ℕ). night_left k ws ts s) (sym z ∙ e) }
