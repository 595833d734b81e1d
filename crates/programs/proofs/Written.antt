-- What was written to an area is an answer, where it may be said.
use Rattle.std.proofs.Common.{◌≡◌, ◌<◌, ◌≤◌, ◌+◌, ◌++◌, ℕ, List, [], ◌∷◌, length, take, drop, subst, refl, sym, ◌∙◌, arith, length-append}
use Rattle.std.proofs.Math.Seq.{take-append_seam, drop-append_seam}
use Rattle.std.proofs.lemmas.List.{length-take-le, take-append-drop}
use Rattle.std.specs.Prelude.{Option, Some, None}
use Rattle.std.specs.Option.{unwrap_or}
use Rattle.answer_text.specs.Answer.{Wrote}
use Rattle.programs.specs.Said.{Answered, Answers, AnswersExactly}

pub answered : (Says : List ℕ → Type 0) (said old new : List ℕ) (r : Option ℕ) → Wrote said old new r → Says said
    → (length old < length said → Says []) → Answers Says r new
answered Says said old new (Some n) w s none =
    let whole : take n new ≡ said = rw (w.0, w.2) (take-append_seam said (drop n old)) in
    record {
      inside =
          let all : length new ≡ length said + length (drop n old) = rw w.2 (length-append said (drop n old)) in
          omega (arith, w.0, all);
      said = subst Says (sym whole) s;
    }
answered Says said old new None w s none = none w

-- and is one exactly, as nothing was written behind it
pub answered_exactly : (Says : List ℕ → Type 0) (said old new : List ℕ) (r : Option ℕ) → Wrote said old new r → Says said
    → (length old < length said → (any : List ℕ) → Says any) → AnswersExactly Says old r new
answered_exactly Says said old new (Some n) w s none =
    let read = answered Says said old new (Some n) w s (λ long. none long []) in
    record {
      inside = read.inside;
      said = read.said;
      behind = rw w.2 (subst (λ k. drop k (said ++ drop n old) ≡ drop n old) (sym w.0) (drop-append_seam said (drop n old)));
    }
answered_exactly Says said old new None w s none = none w

-- what is answered exactly is answered
pub exactly : (Says : List ℕ → Type 0) (old new : List ℕ) (r : Option ℕ) → AnswersExactly Says old r new → Answers Says r new
exactly Says old new (Some n) a = record { inside = a.inside; said = a.said }
exactly Says old new None a = a []

-- no room is no byte
pub read_off : (Says : List ℕ → Type 0) (area : List ℕ) (r : Option ℕ) → Answers Says r area → Answered Says (unwrap_or r 0) area
read_off Says area (Some n) a = a
read_off Says area None a = record { inside = omega arith; said = a }

pub read_off_exactly : (Says : List ℕ → Type 0) (old new : List ℕ) (r : Option ℕ) → AnswersExactly Says old r new
    → (unwrap_or r 0 ≤ length new) × Says (take (unwrap_or r 0) new)
read_off_exactly Says old new r a = let read = read_off Says new r (exactly Says old new r a) in (read.inside, read.said)

-- where one text alone may be said, an answer always comes: that text was written
pub always : (text old new : List ℕ) (r : Option ℕ) → length new ≡ length old → AnswersExactly (λ said. said ≡ text) old r new
    → (n : ℕ) × (r ≡ Some n) × Wrote text old new (Some n)
always text old new (Some n) same a =
    let size : length text ≡ n = rw (← a.said) (length-take-le n new a.inside) in
    let whole : new ≡ text ++ drop n old = sym (take-append-drop n new) ∙ rw (a.said, a.behind) refl in
    (n, refl, (sym size, omega (arith, same, a.inside), whole))
always text old new None same a =
    let one : List ℕ = 0 ∷ [] in
    let empty : length one ≡ 0 = subst (λ (l : List ℕ). length l ≡ 0) (a [] ∙ sym (a one)) refl in
    absurd (omega (arith, empty))
