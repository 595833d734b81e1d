-- What is so of what `explain` prints: it is written whole, a line after a line, and it always has room.
-- Assumes nothing.
use Prim.Native.Nat.{ℕ, ◌≤◌}
use native.Mathlib.Omega.{arith}
use mathlib.Core.Path.{◌≡◌, refl, sym, subst, ◌∙◌}
use mathlib.Core.Option.{Option, none, some}
use mathlib.Core.List.{List, ◌++◌}
use lib.ListN.{length, length-append}
use Rattle.theory.specs.Answer.{Call}
use Rattle.call_text.specs.Call.{Typed}
use Rattle.answer_text.specs.Answer.{bad_text, Wrote}
use Rattle.answer_text.specs.Going.{Appends}
use Rattle.std.specs.Prelude as P
use Rattle.std.specs.Prelude.{Some, None}
use Rattle.answer_text.proofs.Goings.{text_then, text_stops}
use Rattle.answer_text.proofs.Answers.{wrote-fits}
use Rattle.reply.specs.Printed.{spoken}
use Rattle.reply.proofs.Lengths.{spoken_small}
use Rattle.explaining.specs.Explained.{Lined, line_text, ExplainWrote}
use Rattle.explaining.specs.declared.line.SecondLine.{SecondLine}

abbrev asked : Typed → Call
asked c = record { mode = c.mode; first = c.first; second = c.second }

-- ---- a call: its answer, and the second line after it
module _ (c : Typed) (line : P.Option SecondLine) (lined : Lined (asked c) line) (short : length (line_text line) ≤ 100) (out mid : List ℕ)
    (q : P.Option ℕ) (front : Wrote (spoken (asked c)) out mid q) where
  explained : (end : List ℕ) (r : P.Option ℕ) → Wrote (spoken (asked c) ++ line_text line) out end r → ExplainWrote (some c) out end r
  explained end r w =
      let s = spoken_small (asked c) in
      let l = length-append (spoken (asked c)) (line_text line) in
      record {
        said = spoken (asked c) ++ line_text line;
        explained = record { line = line; lined = lined; is = refl };
        small = omega arith;
        wrote = w;
      }

  pub call_stops : None ≡ q → ExplainWrote (some c) out mid None
  call_stops e = explained mid None (text_stops (spoken (asked c)) (line_text line) out mid q front e mid)

  pub call_explained : (n : ℕ) → q ≡ Some n → (end : List ℕ) (r : P.Option ℕ) → Appends (line_text line) mid n end r →
      ExplainWrote (some c) out end r
  call_explained n e end r f = explained end r (text_then (spoken (asked c)) (line_text line) out mid q front n e end r f)

-- ---- a text
module _ (o : Option Typed) (out out' : List ℕ) (r : P.Option ℕ) where
  pub bad_explained : o ≡ none → Wrote bad_text out out' r → ExplainWrote o out out' r
  bad_explained e w =
      subst (λ (x : Option Typed). ExplainWrote x out out' r) (sym e)
      (record { said = bad_text; explained = refl; small = omega arith; wrote = w })

  pub heard_explained : (c : Typed) → o ≡ some c → ExplainWrote (some c) out out' r → ExplainWrote o out out' r
  heard_explained c e w = subst (λ (x : Option Typed). ExplainWrote x out out' r) (sym e) w

  -- ---- in 24,000 bytes there is always room
  module _ (w : ExplainWrote o out out' r) where
    pub never_without : 24000 ≤ length out → r ≡ None → ⊥
    never_without h e =
        let k = w.small in
        let b : Some (length w.said) ≡ None = sym (wrote-fits w.said out out' r w.wrote (omega arith)).0 ∙ e in
        let z : ◌≡◌ {A = ℕ} 0 1 = cc in
        omega arith
