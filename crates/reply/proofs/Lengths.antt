-- What `meet` prints for a text, whatever the text is, has at most 23,000 bytes; so 32,768 bytes of room are always enough.
-- Assumes nothing.
use Prim.Native.Nat.{ℕ, zero, suc, ◌≤◌, ◌<◌}
use native.Mathlib.Omega.{arith}
use mathlib.Core.Path.{◌≡◌, refl, ap, ◌∙◌}
use mathlib.Core.Logic.{inr}
use mathlib.Core.Option.{Option, none, some}
use mathlib.Core.List.{List, []}
use lib.ListN.{length, take, drop}
use lib.Seq.{take-append_seam}
use Rattle.theory.specs.Limits.{depth_limit, choice_limit}
use Rattle.theory.specs.Descr.{Desc, number, readings}
use Rattle.theory.specs.Layout.{words}
use Rattle.theory.specs.Modes.{joined, quick}
use Rattle.theory.specs.Answer.{Answer, Call, consistent}
use Rattle.theory.specs.Rules.{mode_result, mode_readings, Accepted, Clashes, TooMany, Given, one, two, three, four, five, six, ten}
use Rattle.theory.specs.Rules.{seven, eleven, eight, done}
use Rattle.theory.specs.Unified.{unified}
use Rattle.theory.proofs.Counting.{readings_number}
use Rattle.theory.proofs.Reading.{well_can, result_words, result_well, reads}
use Rattle.theory.proofs.Small.{Below, below_at, words_below}
use Rattle.theory.proofs.Laws.{laws}
use Rattle.descriptions.proofs.Modes.{mode_readings_kept}
use Rattle.descriptions.proofs.Table.{unified_given}
use Rattle.call_text.specs.Token.{largest}
use Rattle.call_text.specs.Call.{Typed, heard}
use Rattle.answer_text.specs.Answer.{bad_text, Wrote}
use Rattle.std.specs.Prelude.{Some}
use Rattle.answer_text.proofs.Answers.{text-small, wrote-fits}
use Rattle.unify.proofs.NodeSizes.{given_low}
use Rattle.reply.specs.Printed.{answered, spoken, printed}

-- ---- the numbers of an answer
-- number, length, readings and words are 32-bit words, and the words have room
record Short (room : ℕ) (r : Answer) : Type 0 where
  few : r.number ≤ largest
  short : r.extent ≤ largest
  known : r.readings ≤ largest
  below : Below r.result
  inside : length r.result ≤ room

module _ (asked : Call) (work : ℕ) (d e : Desc) (A : Accepted asked work d e) where
  open asked use {mode}

  module _ (s : Desc) (f : mode_result mode d e ≡ some s) where
    extent_short : length (words s) ≤ 2045
    extent_short =
        let h = result_words mode d e s A.first_well A.second_well f in
        let p = ap length A.first_is in
        let q = ap length A.second_is in
        let x = A.first_short in
        let y = A.second_short in
        omega arith

    result_below : Below (words s)
    result_below =
        let p = ap length A.first_is in
        let q = ap length A.second_is in
        let x = A.first_short in
        let y = A.second_short in
        let h = extent_short in
        words_below s depth_limit (result_well mode d e s A.first_well A.second_well f (omega arith) (omega arith)) (omega arith)

  -- "its result has over 4,096 choices" is refused, and no reading is lost on the way to it
  module _ (c : ¬ (Clashes mode d e)) (t : ¬ (TooMany mode d e)) where
    complete_few : mode ≡ 2 → consistent d e ≤ choice_limit
    unfolding Rattle.descriptions.specs.Answer.consistent
    complete_few m = go (joined d e) refl (quick d e) refl
      where
        go : (j : Option Desc) → joined d e ≡ j → (q : Option Desc) → quick d e ≡ q
            → elim j [ none ↦ 0 | some j ↦ readings j ] ≤ choice_limit
        go none h q k = omega arith
        go (some j) h none k = absurd (c (inr (omega arith, k)))
        go (some j) h (some q) k =
            let x = mode_readings_kept laws 1 d e (well_can d A.first_well) (well_can e A.second_well) j h q k in
            let y = readings_number q in
            let z : choice_limit < number q → ⊥ = λ l. t (m, q, k, l) in
            omega arith

    readings_few : mode_readings mode d e ≤ choice_limit
    readings_few = go mode refl
      where
        go : (m : ℕ) → mode ≡ m → mode_readings m d e ≤ choice_limit
        go zero h = omega arith
        go (suc zero) h = omega arith
        go (suc (suc m)) h = let x = A.mode_fine in complete_few (omega arith)

refused : (room n i : ℕ) → n ≤ largest → Short room (record { number = n; extent = 0; readings = 0; node = i; result = [] })
refused room n i h = record { few = h; short = omega arith; known = omega arith; below = tt; inside = omega arith }

given_short : (asked : Call) (room work : ℕ) (r : Answer) → Given asked room work r → Short room r
given_short asked room work r (one h) = refused room 1 0 (omega arith)
given_short asked room work r (two m h) = refused room 2 0 (omega arith)
given_short asked room work r (three m w h) = refused room 3 0 (omega arith)
given_short asked room work r (four m w la lb n) = refused room 4 0 (omega arith)
given_short asked room work r (five m w la lb i n) = refused room 5 0 (omega arith)
given_short asked room work r (six d e i A c n) = refused room 6 i (omega arith)
given_short asked room work r (ten d e A j m q) = refused room 10 0 (omega arith)
given_short asked room work r (seven d e A c t) = refused room 7 0 (omega arith)
given_short asked room work r (eleven d e A c t m n) = refused room 11 0 (omega arith)
given_short asked room work r (eight d e s A c t f l) =
    let h = extent_short asked work d e A s f in
    record { few = omega arith; short = omega arith; known = omega arith; below = tt; inside = omega arith }
given_short asked room work r (done d e s A c t f l) =
    let h = extent_short asked work d e A s f in
    let k = readings_few asked work d e A c t in
    record { few = omega arith; short = omega arith; known = omega arith; below = result_below asked work d e A s f; inside = l }

-- the node that is told is a word of 32 bits
pub node_small : (asked : Call) → (answered asked).node ≤ largest
node_small asked =
    let h = given_low asked 2048 16384 (answered asked) (unified_given reads asked 2048 16384) in
    omega arith

-- ---- the text
pub spoken_small : (asked : Call) → length (spoken asked) ≤ 23000
unfolding spoken
spoken_small asked =
    let r : Answer = unified asked 2048 16384 in
    let s = given_short asked 2048 16384 r (unified_given reads asked 2048 16384) in
    text-small r.number r.extent r.readings s.few s.short s.known
    r.result (λ i l. let k = below_at r.result s.below i l in omega arith) s.inside

-- whatever the text is, an answer to it is short
pub printed_small : (text : List ℕ) → length (printed text) ≤ 23000
unfolding printed
printed_small text = go (heard text)
  where
    go : (o : Option Typed) → length {A = ℕ}
        (elim o [ none ↦ bad_text | some c ↦ spoken (record { mode = c.mode; first = c.first; second = c.second }) ]) ≤ 23000
    go none = omega arith
    go (some c) = spoken_small (record { mode = c.mode; first = c.first; second = c.second })

-- in 32,768 bytes `reply` always has room, and what it writes there is what `meet` prints
pub always_printed : (text out out' : List ℕ) (r : Rattle.std.specs.Prelude.Option ℕ) → 32768 ≤ length out → Wrote (printed text) out out' r
    → (r ≡ Some (length (printed text))) × (take (length (printed text)) out' ≡ printed text)
always_printed text out out' r h w =
    let k = printed_small text in
    let e = wrote-fits (printed text) out out' r w (omega arith) in
    (e.0, ap (take (length (printed text))) e.1 ∙ take-append_seam (printed text) (drop (length (printed text)) out))
