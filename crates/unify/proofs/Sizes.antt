-- A result has at most 2,045 words, and an outcome by what is told of it. Assumes nothing.
use mathlib.Core.Path.{◌≡◌, sym, ap, ◌∙◌}
use Prim.Native.Nat.{ℕ, ◌≤◌}
use native.Mathlib.Omega.{arith}
use lib.ListN.{length}
use Rattle.theory.specs.Descr.{Desc}
use Rattle.theory.specs.Layout.{words}
use Rattle.theory.specs.Answer.{Answer, Call}
use Rattle.theory.specs.Rules.{mode_result, Accepted, Given, one, two, three, four, five, six, ten, seven, eleven, eight, done}
use mathlib.Core.Option.{some}
use Rattle.theory.specs.Outcome.{Areas, Outcome, Row}
use Rattle.descriptions.specs.Outcome.{worked}
use Rattle.theory.proofs.Reading.{result_words}
use Rattle.answering.specs.Answer.{Answer as Reply}
use Rattle.answering.specs.Number.{row_of}

-- "A result has at most len(a) + len(b) - 3 words"
module _ (c : Call) where
  accepted_small : (work : ℕ) (d e s : Desc) → Accepted c work d e → mode_result c.mode d e ≡ some s → length (words s) ≤ 2045
  accepted_small work d e s A f =
      let h = result_words c.mode d e s A.first_well A.second_well f in
      let p = ap length A.first_is in let q = ap length A.second_is in
      let x = A.first_short in let y = A.second_short in
      omega arith

  given_small : (room work : ℕ) (r : Answer) → Given c room work r → r.extent ≤ 2045
  given_small room work r (one h) = omega arith
  given_small room work r (two m h) = omega arith
  given_small room work r (three m w h) = omega arith
  given_small room work r (four m w la lb n) = omega arith
  given_small room work r (five m w la lb i n) = omega arith
  given_small room work r (six d e i A h n) = omega arith
  given_small room work r (ten d e A j l h) = omega arith
  given_small room work r (seven d e A c t) = omega arith
  given_small room work r (eleven d e A c t m n) = omega arith
  given_small room work r (eight d e s A c t h l) = accepted_small work d e s A h
  given_small room work r (done d e s A c t h l) = accepted_small work d e s A h

  module _ (before after : Areas) where
    pub outcome_small : (r : Row) → Outcome c before r after → r.extent ≤ 2045
    outcome_small r o =
        let h = given_small (length before.result) (length before.working) o.answer o.given in
        let e = o.the_extent in
        omega arith

    -- the outcome by the row that is told of it
    pub outcome_told : (y : Reply) (n l r i : ℕ) → Outcome c before (row_of y) after →
        (n ≡ (row_of y).number) × ((l ≡ (row_of y).extent) × ((r ≡ (row_of y).readings) × (i ≡ (row_of y).node))) →
        Outcome c before (record { number = n; extent = l; readings = r; node = i }) after
    outcome_told y n l r i o (e, (f, (g, h))) = record {
      answer = o.answer;
      given = o.given;
      the_number = e ∙ o.the_number;
      the_extent = f ∙ o.the_extent;
      the_readings = g ∙ o.the_readings;
      the_node = h ∙ o.the_node;
      the_result = o.the_result;
      the_working = o.the_working ∙ ap (λ (k : ℕ). worked k before.working) (sym e);
    }
