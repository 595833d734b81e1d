-- What `explain` prints for a text.
-- Assumes nothing: these are definitions.
use Rattle.std.specs.Prelude.{ℕ, ◌≤◌, ◌≡◌, ◌⊎◌, ◌≢◌, List, [], ◌∷◌, ◌++◌, length, get_or, Option, Some, None}
use Rattle.std.proofs.Math.Option as M
use Rattle.std.proofs.Math.Option.{none, some}
use Rattle.theory.specs.Answer.{Call}
use Rattle.roles.specs.Faults.{Cause, Faulty, role, expected_at}
use Rattle.roles.specs.Causes.{cause_number}
use Rattle.faults.specs.Hints.{hint}
use Rattle.reply.specs.Printed.{answered, spoken}
use Rattle.call_text.specs.Call.{Typed}
use Rattle.answer_text.specs.Answer.{labelled, newline, bad_text, Wrote}
use Rattle.explaining.specs.declared.line.FaultLine.{FaultLine}
use Rattle.explaining.specs.declared.line.SecondLine.{SecondLine}
use Rattle.explaining.specs.declared.line.SecondLine.TheVariants.{Fault, Node}

-- "the cause from 1 to 9, the place, the word that stands there (0 for cause 1) and one number more", the hint
pub record FaultTold (ws : List ℕ) (k p w h : ℕ) : Type 0 where
  pub cause : Cause
  pub faulty : Faulty ws cause p
  pub the_cause : k ≡ cause_number cause
  pub the_word : w ≡ get_or ws p 0
  pub the_hint : h ≡ hint cause (role (expected_at ws p))

-- the second line is of these words
abbrev pub Tells : List ℕ → FaultLine → Type 0
Tells ws x = FaultTold ws x.cause x.place x.word x.hint

-- the number and the node that the call is answered
abbrev pub number_for : Call → ℕ
number_for asked = (answered asked).number

abbrev pub node_for : Call → ℕ
node_for asked = (answered asked).node

-- "after 4 and 5, a second line": after 4 that of the first input, after 5 that of the second; after 6 the node; else nothing
abbrev pub Lined : Call → Option SecondLine → Type 0
Lined asked None = (number_for asked ≢ 4) × (number_for asked ≢ 5) × (number_for asked ≢ 6)
Lined asked (Some (Node i)) = (number_for asked ≡ 6) × (i ≡ node_for asked)
Lined asked (Some (Fault x)) =
    ((number_for asked ≡ 4) × Tells asked.first x) ⊎ ((number_for asked ≡ 5) × Tells asked.second x)

-- `cause `, ` word `, ` stands `, ` hint `, `node `
abbrev pub cause_label : List ℕ
cause_label = 99 ∷ 97 ∷ 117 ∷ 115 ∷ 101 ∷ 32 ∷ []

abbrev pub word_label : List ℕ
word_label = 32 ∷ 119 ∷ 111 ∷ 114 ∷ 100 ∷ 32 ∷ []

abbrev pub stands_label : List ℕ
stands_label = 32 ∷ 115 ∷ 116 ∷ 97 ∷ 110 ∷ 100 ∷ 115 ∷ 32 ∷ []

abbrev pub hint_label : List ℕ
hint_label = 32 ∷ 104 ∷ 105 ∷ 110 ∷ 116 ∷ 32 ∷ []

abbrev pub node_label : List ℕ
node_label = 110 ∷ 111 ∷ 100 ∷ 101 ∷ 32 ∷ []

-- "`cause C word P stands W hint H`", and a newline
unfoldable pub fault_text : (k p w h : ℕ) → List ℕ
fault_text k p w h =
    labelled cause_label k ++ (labelled word_label p ++ (labelled stands_label w ++ (labelled hint_label h ++ newline)))

abbrev pub line_text : Option SecondLine → List ℕ
line_text None = []
line_text (Some (Fault x)) = fault_text x.cause x.place x.word x.hint
line_text (Some (Node i)) = labelled node_label i ++ newline

-- "what `meet` prints and, after 4 and 5, a second line"; after 6 too
pub record Explained (asked : Call) (said : List ℕ) : Type 0 where
  pub line : Option SecondLine
  pub lined : Lined asked line
  pub is : said ≡ spoken asked ++ line_text line

-- `bad input` alone, as `meet` prints it
abbrev pub ExplainedText : M.Option Typed → List ℕ → Type 0
ExplainedText none said = said ≡ bad_text
ExplainedText (some c) said = Explained (record { mode = c.mode; first = c.first; second = c.second }) said

-- what `explain` prints for a call or for bad input stands at the start of out, or has no room there; it has at most 24,000 bytes
pub record ExplainWrote (o : M.Option Typed) (out out' : List ℕ) (r : Option ℕ) : Type 0 where
  pub said : List ℕ
  pub explained : ExplainedText o said
  pub small : length said ≤ 24000
  pub wrote : Wrote said out out' r
