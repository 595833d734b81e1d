-- What `meet` prints for a text.
-- Assumes nothing: these are definitions.
use Rattle.std.specs.Prelude.{ℕ, ◌≡◌, List}
use Rattle.std.proofs.Math.Option.{none, some}
use Rattle.theory.specs.Limits.{working_size}
use Rattle.theory.specs.Answer.{Answer, Call}
use Rattle.theory.specs.Unified.{unified}
use Rattle.call_text.specs.Call.{heard}
use Rattle.answer_text.specs.Answer.{answer_text, bad_text, Wrote}
use Rattle.reply.specs.declared.Replied.{Replied}

-- "It prints `answer` number `words` length `readings` count and, after 0 only, a second line of result words"
abbrev pub in_text : Answer → List ℕ
in_text r = answer_text r.number r.extent r.readings r.result

-- "Its result area has 2,048 words, its working area 16,384."
abbrev pub result_size : ℕ
result_size = 2048

-- what the call is answered
abbrev pub answered : Call → Answer
answered c = unified c result_size working_size

unfoldable pub spoken : Call → List ℕ
spoken c = in_text (answered c)

-- the answer stands at the start of out, or has no room there; beside that its number and its node are told
pub record ReplyTold (c : Call) (out out' : List ℕ) (r : Replied) : Type 0 where
  pub wrote : Wrote (spoken c) out out' r.written
  pub the_number : r.number ≡ (answered c).number
  pub the_node : r.node ≡ (answered c).node

-- "… prints `bad input` alone"
unfoldable pub printed : List ℕ → List ℕ
printed text = elim (heard text) [ none ↦ bad_text | some c ↦ spoken (record { mode = c.mode; first = c.first; second = c.second }) ]
