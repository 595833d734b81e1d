-- What becomes of both areas: there is an outcome for every input, refusals write nothing, and both areas keep their lengths.
-- Assumes nothing.
use mathlib.Core.Path.{◌≡◌, refl, ap, ◌∙◌}
use mathlib.Core.Logic.{◌⊎◌, inl, inr, ⊎_elim}
use mathlib.Core.List.{List, [], ◌++◌}
use Prim.Native.Nat.{ℕ, zero, suc, ◌≤◌, ◌<◌}
use native.Mathlib.Omega.{arith}
use lib.ListN.{length, drop, replicate, length-append, length-drop, length-replicate}
use borrow.Author.Tests.{lt-ltb, le-ltb}
use Rattle.descriptions.specs.Limits.{working_size}
use Rattle.descriptions.specs.Call.{Call}
use Rattle.descriptions.specs.Answer.{Answer}
use Rattle.descriptions.specs.Outcome.{Areas, Outcome, Row, wiped, worked}
use Rattle.descriptions.specs.Unified.{unified}
use Rattle.descriptions.specs.Rules.{Given, done, eight, eleven, five, four, one, seven, six, ten, three, two}
use Rattle.descriptions.proofs.Table.{unified_given}
use Rattle.descriptions.proofs.Layouts.{Reads}
use Rattle.descriptions.specs.Joining.{Joining}
use Rattle.descriptions.specs.Layout.{Layout}
use Rattle.descriptions.proofs.Laws.{Laws}

-- only number 0 writes, and what it writes has room
pub data Writes (room : ℕ) (r : Answer) : Type 0 where
  nothing : (r.number ≡ 0 → ⊥) → r.result ≡ [] → Writes room r
  result : r.number ≡ 0 → r.extent ≡ length r.result → length r.result ≤ room → Writes room r

not_zero : (n : ℕ) → 0 < n → n ≡ 0 → ⊥
not_zero n h e = omega arith

-- the first n words zero
wiped_length : (n : ℕ) (w : List ℕ) → n ≤ length w → length (wiped n w) ≡ length w
unfolding wiped
wiped_length n w h = let e = length-append (replicate n 0) (drop n w) in let f = length-replicate {A = ℕ} n 0 in let g = length-drop n w in
    omega (arith, e, f, g)

pub worked_same : (n : ℕ) (w : List ℕ) → 1 ≤ n → n ≤ 5 → worked n w ≡ w
unfolding worked
worked_same zero w h k = absurd (omega arith)
worked_same (suc n) w h k = let e = lt-ltb n 5 (omega arith) in rw (e, worked)

pub worked_zero : (w : List ℕ) → worked 0 w ≡ wiped working_size w
unfolding worked
worked_zero w = refl

pub worked_more : (n : ℕ) (w : List ℕ) → 6 ≤ n → worked n w ≡ wiped working_size w
unfolding worked
worked_more zero w h = absurd (omega arith)
worked_more (suc n) w h = let e = le-ltb n 5 (omega arith) in rw (e, worked)

module _ {Graph : Type 0} (J : Joining Graph) (𝓕 : Layout Graph) where
  open 𝓕 use {words}

  pub given_writes : (C : Call) (room work : ℕ) (r : Answer) → Given J 𝓕 C room work r → Writes room r
  given_writes C room work r (one h) = nothing (not_zero 1 (omega arith)) refl
  given_writes C room work r (two m h) = nothing (not_zero 2 (omega arith)) refl
  given_writes C room work r (three m w h) = nothing (not_zero 3 (omega arith)) refl
  given_writes C room work r (four m w la lb n) = nothing (not_zero 4 (omega arith)) refl
  given_writes C room work r (five m w la lb i n) = nothing (not_zero 5 (omega arith)) refl
  given_writes C room work r (six d e i A h n) = nothing (not_zero 6 (omega arith)) refl
  given_writes C room work r (ten d e A j l h) = nothing (not_zero 10 (omega arith)) refl
  given_writes C room work r (seven d e A c t) = nothing (not_zero 7 (omega arith)) refl
  given_writes C room work r (eleven d e A c t m n) = nothing (not_zero 11 (omega arith)) refl
  given_writes C room work r (eight d e s A c t h l) = nothing (not_zero 8 (omega arith)) refl
  given_writes C room work r (done d e s A c t h l) = result refl refl l

  -- from number 6 on, and at 0, the working area has its 16,384 words
  given_area : (C : Call) (room work : ℕ) (r : Answer) → Given J 𝓕 C room work r →
      ((1 ≤ r.number) × (r.number ≤ 5)) ⊎ (((r.number ≡ 0) ⊎ (6 ≤ r.number)) × (working_size ≤ work))
  given_area C room work r (one h) = inl (omega arith, omega arith)
  given_area C room work r (two m h) = inl (omega arith, omega arith)
  given_area C room work r (three m w h) = inl (omega arith, omega arith)
  given_area C room work r (four m w la lb n) = inl (omega arith, omega arith)
  given_area C room work r (five m w la lb i n) = inl (omega arith, omega arith)
  given_area C room work r (six d e i A h n) = inr (inr (omega arith), A.area_fine)
  given_area C room work r (ten d e A j l h) = inr (inr (omega arith), A.area_fine)
  given_area C room work r (seven d e A c t) = inr (inr (omega arith), A.area_fine)
  given_area C room work r (eleven d e A c t m n) = inr (inr (omega arith), A.area_fine)
  given_area C room work r (eight d e s A c t h l) = inr (inr (omega arith), A.area_fine)
  given_area C room work r (done d e s A c t h l) = inr (inl refl, A.area_fine)

module _ {Graph : Type 0} {J : Joining Graph} {𝓛 : Laws J} {𝓕 : Layout Graph} (𝓡 : Reads 𝓛 𝓕) where
  module _ (C : Call) (before : Areas) where
    abbrev room : ℕ
    room = length before.result

    abbrev work : ℕ
    work = length before.working

    abbrev told : Answer
    told = unified J 𝓕 C room work

    pub outcome : (r : Row) × (after : Areas) × Outcome J 𝓕 C before r after
    outcome = (
      record { number = told.number; extent = told.extent; readings = told.readings; node = told.node },
      record { result = told.result ++ drop (length told.result) before.result; working = worked told.number before.working },
      record {
        answer = told;
        given = unified_given 𝓡 C room work;
        the_number = refl;
        the_extent = refl;
        the_readings = refl;
        the_node = refl;
        the_result = refl;
        the_working = refl;
      },
    )

    module _ (r : Row) (after : Areas) (o : Outcome J 𝓕 C before r after) where
      abbrev n : ℕ
      n = r.number

      abbrev s : Answer
      s = o.answer

      abbrev given : Given J 𝓕 C room work s
      given = o.given

      -- "only number 0 writes"
      pub refusal_result : (n ≡ 0 → ⊥) → after.result ≡ before.result
      refusal_result h = go (given_writes J 𝓕 C room work s given)
        where
          go : Writes room s → after.result ≡ before.result
          go (nothing k e) = o.the_result ∙ ap (λ (z : List ℕ). z ++ drop (length z) before.result) e
          go (result k e f) = absurd (h (o.the_number ∙ k))

      -- "untouched by 1 to 5"
      pub refusal_working : 1 ≤ n → n ≤ 5 → after.working ≡ before.working
      refusal_working h k = o.the_working ∙ worked_same n before.working h k

      pub result_length : length after.result ≡ length before.result
      result_length = go (given_writes J 𝓕 C room work s given)
        where
          long : length s.result ≤ room → length after.result ≡ length before.result
          long h = let e = ap length o.the_result in let f = length-append s.result (drop (length s.result) before.result) in
              let g = length-drop (length s.result) before.result in omega (arith, e, f, g, h)

          go : Writes room s → length after.result ≡ length before.result
          go (nothing k e) = let h = ap length e in long (omega (arith, h))
          go (result k e f) = long f

      pub working_length : length after.working ≡ length before.working
      working_length = ap length o.the_working ∙ ⊎_elim
          (λ p. ap length (worked_same n before.working (rw o.the_number p.0) (rw o.the_number p.1)))
          (λ p. ap length (⊎_elim (λ z. ap (λ (k : ℕ). worked k before.working) (o.the_number ∙ z)
          ∙ worked_zero before.working) (λ k. worked_more n before.working (rw o.the_number k)) p.0)
          ∙ wiped_length working_size before.working p.1)
          (given_area J 𝓕 C room work s given)
