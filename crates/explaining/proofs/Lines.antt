-- What is so of the second line: what it tells of a malformed input, after which numbers it is there, and how long it is.
-- Assumes nothing.
use Prim.Native.Nat.{ℕ, ◌≤◌, ◌<◌}
use native.Mathlib.Omega.{arith}
use mathlib.Core.Path.{◌≡◌, sym, ap, ◌∙◌, subst}
use mathlib.Core.Logic.{inl, inr, ◌≢◌}
use mathlib.Core.List.{List, ◌++◌}
use lib.ListN.{length, get_or, length-append}
use Rattle.theory.specs.Answer.{Answer, Call, refuse}
use Rattle.theory.specs.Rules.{Given, one}
use Rattle.theory.proofs.Reading.{reads}
use Rattle.descriptions.proofs.Table.{unified_given, one_answer}
use Rattle.roles.specs.Faults.{Faulty}
use Rattle.roles.specs.Coded.{cause_of}
use Rattle.roles.specs.Causes.{cause_number}
use Rattle.faults.specs.Hints.{Hinted}
use Rattle.faults.specs.declared.verdict.Fault.{Fault}
use Rattle.malformed.specs.Malformed.{MalformedIn}
use Rattle.malformed.specs.declared.judging.Malformed.TheVariants.{TooLong, First, Second}
use Rattle.malformed.proofs.Exact.{same_number}
use Rattle.call_text.specs.Token.{largest}
use Rattle.std.specs.Prelude.{Some, None}
use Rattle.answer_text.specs.Answer.{labelled, newline}
use Rattle.answer_text.proofs.Answers.{labelled-most}
use Rattle.reply.specs.Printed.{answered}
use Rattle.reply.proofs.Lengths.{node_small}
use Rattle.explaining.specs.Explained.{FaultTold, Tells, number_for, node_for, Lined, cause_label, word_label, stands_label}
use Rattle.explaining.specs.Explained.{hint_label, node_label, fault_text, line_text}
use Rattle.explaining.specs.declared.line.FaultLine.{FaultLine}
use Rattle.explaining.specs.declared.line.SecondLine.TheVariants as line

-- ---- what it tells
pub told_of : (ws : List ℕ) (x : Fault) (k w h : ℕ) → Faulty ws (cause_of x.cause) x.at → k ≡ cause_number (cause_of x.cause) →
    w ≡ get_or ws x.at 0 → Hinted ws h → FaultTold ws k x.at w h
told_of ws x k w h f e g hinted =
    record { cause = cause_of x.cause; faulty = f; the_cause = e; the_word = g; the_hint = hinted (cause_of x.cause) x.at f }

-- ---- how long it is
pub fault_small : (k p w h : ℕ) → k ≤ largest → p ≤ largest → w ≤ largest → h ≤ largest → length (fault_text k p w h) ≤ 100
unfolding fault_text
fault_small k p w h few near fits known =
    let a = labelled-most cause_label k few in
    let b = labelled-most word_label p near in
    let c = labelled-most stands_label w fits in
    let d = labelled-most hint_label h known in
    let last : List ℕ = labelled hint_label h ++ newline in
    let x = length-append (labelled cause_label k) (labelled word_label p ++ (labelled stands_label w ++ last)) in
    let y = length-append (labelled word_label p) (labelled stands_label w ++ last) in
    let z = length-append (labelled stands_label w) last in
    let e = length-append (labelled hint_label h) newline in
    omega arith

pub node_short : (i : ℕ) → i ≤ largest → length (line_text (Some (line.Node i))) ≤ 100
node_short i h =
    let a = labelled-most node_label i h in
    let e = length-append (labelled node_label i) newline in
    omega arith

-- ---- after which numbers it is there
module _ (asked : Call) where
  open asked use {mode, first, second}

  given : Given asked 2048 16384 (answered asked)
  given = unified_given reads asked 2048 16384

  -- after 6 the node
  pub lined_node : (n i : ℕ) → n ≡ number_for asked → i ≡ node_for asked → n ≡ 6 → Lined asked (Some (line.Node i)) × (length (line_text (Some (line.Node i))) ≤ 100)
  lined_node n i e f six = ((sym e ∙ six, f), node_short i (subst (λ (k : ℕ). k ≤ largest) (sym f) (node_small asked)))

  -- a mode above 2 is answered 1
  pub nothing_above : 2 < mode → Lined asked None
  nothing_above h =
      let e : number_for asked ≡ 1 =
      ap (λ (r : Answer). r.number) (one_answer reads asked 2048 16384 (answered asked) (refuse 1) given (one h)) in
      (λ f. omega arith, λ f. omega arith, λ f. omega arith)

  module _ (fine : mode ≤ 2) where
    pub nothing_neither : MalformedIn first second None → number_for asked ≢ 6 → Lined asked None
    nothing_neither h six =
        let n = same_number asked 2048 16384 fine (omega arith) None h (answered asked) given in
        (n.1, n.2, six)

    pub nothing_long : MalformedIn first second (Some TooLong) → Lined asked None
    nothing_long h =
        let n = same_number asked 2048 16384 fine (omega arith) (Some TooLong) h (answered asked) given in
        (λ f. omega arith, λ f. omega arith, λ f. omega arith)

    module _ (x : Fault) (l : FaultLine) where
      pub lined_first : MalformedIn first second (Some (First x)) → Tells first l → Lined asked (Some (line.Fault l))
      lined_first h t = inl (same_number asked 2048 16384 fine (omega arith) (Some (First x)) h (answered asked) given, t)

      pub lined_second : MalformedIn first second (Some (Second x)) → Tells second l → Lined asked (Some (line.Fault l))
      lined_second h t = inr (same_number asked 2048 16384 fine (omega arith) (Some (Second x)) h (answered asked) given, t)
