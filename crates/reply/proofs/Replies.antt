-- What is written is what the definition prints. Assumes nothing.
use mathlib.Core.Path.{◌≡◌, refl, sym, ap, ap₂, ◌∙◌, subst}
use mathlib.Core.Bool.{false}
use mathlib.Core.Option.{Option, none, some}
use mathlib.Core.List.{List}
use Prim.Native.Nat.{ℕ, ◌≤◌}
use native.Mathlib.Omega.{arith}
use lib.Dec.{eqb}
use lib.ListN.{length, take, drop, length-take, length-append}
use lib.Seq.{take-append_seam}
use borrow.Author.Tests.{ne_eqb}
use Rattle.theory.specs.Answer as theory
use Rattle.theory.specs.Unified.{unified}
use Rattle.theory.specs.Outcome.{Areas, Outcome, Row}
use Rattle.theory.proofs.Areas.{given_writes}
use Rattle.descriptions.proofs.Areas.{Writes, nothing, result}
use Rattle.theory.proofs.Table.{outcome_answer}
use Rattle.std.specs.Prelude.{Some, None}
use Rattle.std.proofs.lemmas.Option.{same_Some}
use Rattle.call_text.specs.Call.{Answer, Typed, heard, heard_in, upon, Heard}
use Rattle.call_text.specs.declared.call.Counts.{Counts}
use Rattle.answer_text.specs.Answer.{second_line, answer_text, bad_text, Wrote}
use Rattle.call_text.proofs.Calls.{with_room}
use Rattle.reply.specs.Printed.{in_text, answered, spoken, ReplyTold, printed}

-- only number 0 has a second line
no_words : (n l r : ℕ) (xs ys : List ℕ) → (n ≡ 0 → ⊥) → answer_text n l r xs ≡ answer_text n l r ys
unfolding answer_text second_line
no_words n l r xs ys h = let e : eqb n 0 ≡ false = ne_eqb n 0 h in rw (e, second_line) refl

module _ (c : theory.Call) (before after : Areas) (r : Row) (ls : length before.result ≡ 2048) (lw : length before.working ≡ 16384)
    (o : Outcome c before r after) where
  answered_is : answered c ≡ o.answer
  answered_is = ap₂ {C = theory.Answer} (λ (x y : ℕ). unified c x y) (sym ls) (sym lw) ∙ outcome_answer c before r after o

  said : spoken c ≡ in_text o.answer
  unfolding spoken
  said = ap in_text answered_is

  -- what is written of the answer, with its number and node
  pub reply_told : (text out out' : List ℕ) (w : Rattle.std.specs.Prelude.Option ℕ) → text ≡ spoken c → Wrote text out out' w →
      ReplyTold c out out' (record { written = w; number = r.number; node = r.node })
  reply_told text out out' w e h = record {
    wrote = subst (λ (x : List ℕ). Wrote x out out' w) e h;
    the_number = o.the_number ∙ sym (ap (λ (s : theory.Answer). s.number) answered_is);
    the_node = o.the_node ∙ sym (ap (λ (s : theory.Answer). s.node) answered_is);
  }

  wrote : Writes (length before.result) o.answer
  wrote = given_writes c (length before.result) (length before.working) o.answer o.given

  abbrev text : List ℕ → List ℕ
  text xs = answer_text r.number r.extent r.readings xs

  numbers : (xs : List ℕ) → text xs ≡ answer_text o.answer.number o.answer.extent o.answer.readings xs
  numbers xs =
      ap (λ (z : ℕ). answer_text z r.extent r.readings xs) o.the_number
      ∙ ap (λ (z : ℕ). answer_text o.answer.number z r.readings xs) o.the_extent
      ∙ ap (λ (z : ℕ). answer_text o.answer.number o.answer.extent z xs) o.the_readings

  pub said_other : (xs : List ℕ) → (r.number ≡ 0 → ⊥) → answer_text r.number r.extent r.readings xs ≡ spoken c
  said_other xs h =
      let s = o.answer in
      numbers xs ∙ no_words s.number s.extent s.readings xs s.result (λ e. h (o.the_number ∙ e)) ∙ sym said

  module _ (z : r.number ≡ 0) where
    fits : (r.extent ≡ length o.answer.result) × (r.extent ≤ 2048)
    fits = go wrote
      where
        go : Writes (length before.result) o.answer → (r.extent ≡ length o.answer.result) × (r.extent ≤ 2048)
        go (nothing h e) = absurd (h (sym o.the_number ∙ z))
        go (result q e m) = let x = o.the_extent in (x ∙ e, omega arith)

    pub said_room : r.extent ≤ 2048
    said_room = fits.1

    pub said_done : answer_text r.number r.extent r.readings (take r.extent after.result) ≡ spoken c
    said_done =
        let front = take-append_seam o.answer.result (drop (length o.answer.result) before.result) in
        ap text (ap₂ {C = List ℕ} take fits.0 o.the_result ∙ front) ∙ numbers o.answer.result ∙ sym said

-- as many words as there are can be lent
pub take_count : (k : ℕ) (l : List ℕ) → k ≤ length l → k ≡ length (take k l)
take_count k l h = let e = length-take k l in omega arith

-- ---- the text
abbrev asked : ℕ → List ℕ → List ℕ → theory.Call
asked mode a b = record { mode = mode; first = a; second = b }

abbrev typed : ℕ → List ℕ → List ℕ → Typed
typed mode a b = record { mode = mode; first = a; second = b }

-- what is printed for a call, or for bad input
abbrev printed_for : Option Typed → List ℕ
printed_for o = elim o [ none ↦ bad_text | some c ↦ spoken (asked c.mode c.first c.second) ]

-- words that stand at the start
front : (ws l l' : List ℕ) (n : ℕ) → n ≡ length ws → l' ≡ upon ws l → take n l' ≡ ws
front ws l l' n e f = ap₂ {C = List ℕ} take e f ∙ take-append_seam ws (drop (length ws) l)

front_room : (ws l l' : List ℕ) (n : ℕ) → n ≡ length ws → l' ≡ upon ws l → n ≤ length l'
front_room ws l l' n e f = let i = ap length f in let j = length-append ws (drop (length ws) l) in omega arith

module _ (text first second first' second' : List ℕ) (r : Answer) (lf : length first ≡ 2048) (ls : length second ≡ 2048)
    (h : Heard (heard_in (length first) (length second) text) first second first' second' r) where
  -- there is room for every call
  is_heard : Heard (heard text) first second first' second' r
  is_heard =
      subst (λ (o : Option Typed). Heard o first second first' second' r)
      (with_room (length first) (length second) text (omega arith) (omega arith)) h

  pub heard_bad : r ≡ None → heard text ≡ none
  heard_bad q = go (heard text) is_heard
    where
      go : (o : Option Typed) → Heard o first second first' second' r → o ≡ none
      go none k = refl
      go (some c) k = let e = k.answer in let z : ◌≡◌ {A = ℕ} 0 1 = cc in absurd (omega arith)

  pub printed_bad : r ≡ None → bad_text ≡ printed text
  unfolding printed
  printed_bad q = sym (ap printed_for (heard_bad q))

  module _ (counts : Counts) (q : r ≡ Some counts) where
    abbrev mode : ℕ
    mode = counts.mode

    abbrev n : ℕ
    n = counts.first

    abbrev m : ℕ
    m = counts.second

    -- the inputs stand at the start of each list
    abbrev Stands : Option Typed → Type 0
    Stands o = (n ≤ length first') × (m ≤ length second') × (o ≡ some (typed mode (take n first') (take m second')))

    stands : Stands (heard text)
    stands = go (heard text) is_heard
      where
        go : (o : Option Typed) → Heard o first second first' second' r → Stands o
        go none k = let e = k.answer in let z : ◌≡◌ {A = ℕ} 0 1 = cc in absurd (omega arith)
        go (some c) k =
            let e : counts ≡ record { mode = c.mode; first = length c.first; second = length c.second } = same_Some _ _ (sym q ∙ k.answer) in
            let x : mode ≡ c.mode = ap (λ (v : Counts). v.mode) e in
            let y : n ≡ length c.first = ap (λ (v : Counts). v.first) e in
            let z : m ≡ length c.second = ap (λ (v : Counts). v.second) e in
            let f = front c.first first first' n y k.the_first in
            let g = front c.second second second' m z k.the_second in (
              front_room c.first first first' n y k.the_first,
              front_room c.second second second' m z k.the_second,
              sym (ap (λ (v : ℕ). some (typed v (take n first') (take m second'))) x
                  ∙ ap₂ {C = Option Typed} (λ (a b : List ℕ). some (typed c.mode a b)) f g),
            )

    pub rooms : (n ≤ length first') × (m ≤ length second')
    rooms = (stands.0, stands.1)

    pub heard_good : heard text ≡ some (typed mode (take n first') (take m second'))
    heard_good = stands.2

    pub printed_good : spoken (asked mode (take n first') (take m second')) ≡ printed text
    unfolding printed
    printed_good = sym (ap printed_for heard_good)

-- ---- a text by another name
pub wrote_same : (x y dst dst' : List ℕ) (r : Rattle.std.specs.Prelude.Option ℕ) → x ≡ y → Wrote x dst dst' r → Wrote y dst dst' r
wrote_same x y dst dst' r e h = subst (λ (z : List ℕ). Wrote z dst dst' r) e h
