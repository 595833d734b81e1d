-- Lines of an answer: words one by one, the second line after 0 only, how long an answer is, and that words read back.
-- Assumes nothing.
use Prim.Native.Nat.{ℕ, suc, ◌+◌, ◌*◌, ◌≤◌, ◌<◌}
use native.Mathlib.Omega.{arith}
use native.Mathlib.Numerals.{add-one}
use mathlib.Core.Path.{◌≡◌, refl, sym, ap, ◌∙◌}
use mathlib.Core.Bool.{Bool, true, false}
use mathlib.Core.Option.{some}
use mathlib.Core.List.{List, [], ◌∷◌, ◌++◌, append_assoc}
use lib.ListN.{length, get_or, take, drop, drop_of_length-le, length-append}
use lib.Seq.{drop-cons, take_at}
use lib.Dec.{eqb}
use borrow.Author.Tests.{eq-eqb, ne_eqb}
use Rattle.std.specs.Prelude.{Option, Some, None}
use Rattle.call_text.specs.Token.{space_or_newline, largest, token, is}
use Rattle.call_text.specs.Call.{before, words_in}
use Rattle.answer_text.specs.Answer.{decimal, after_spaces, spaced, newline, answer_label, words_label, readings_label, labelled}
use Rattle.answer_text.specs.Answer.{first_line, second_line, answer_text, Wrote}
use Rattle.answer_text.proofs.Decimals.{decimal_most, Parted, reads_back}
use Rattle.call_text.proofs.Runs.{words_zero, words_is}

-- ---- a run of bytes or of words from a position on
pub next : (l : List ℕ) (i : ℕ) → i < length l → drop i l ≡ get_or l i 0 ∷ drop (i + 1) l
next l i h = drop-cons l i 0 h ∙ ap (λ (k : ℕ). get_or l i 0 ∷ drop k l) (sym (add-one i))

pub spaces-next : (ws : List ℕ) (i : ℕ) → i < length ws →
    after_spaces (drop i ws) ≡ (32 ∷ decimal (get_or ws i 0)) ++ after_spaces (drop (i + 1) ws)
unfolding after_spaces
spaces-next ws i h = ap after_spaces (next ws i h)

pub spaces_end : (ws : List ℕ) (i : ℕ) → length ws ≤ i → after_spaces (drop i ws) ≡ []
unfolding after_spaces
spaces_end ws i h = ap after_spaces (drop_of_length-le ws h)

pub spaced-some : (ws : List ℕ) → 0 < length ws → decimal (get_or ws 0 0) ++ after_spaces (drop 1 ws) ≡ spaced ws
unfolding spaced
spaced-some [] h = absurd (omega arith)
spaced-some (w ∷ ws) h = refl

pub spaced-none : (ws : List ℕ) → length ws ≤ 0 → [] ≡ spaced ws
unfolding spaced
spaced-none [] h = refl
spaced-none (w ∷ ws) h = absurd (omega arith)

-- ---- the second line
module _ (number : ℕ) (ws : List ℕ) where
  pub second-some : number ≡ 0 → spaced ws ++ newline ≡ second_line number ws
  unfolding second_line
  second-some e = sym (ap {B = List ℕ} (λ (t : Bool). elim t [ true ↦ spaced ws ++ newline | false ↦ [] ]) (eq-eqb number 0 e))

  pub second_none : (number ≡ 0 → ⊥) → [] ≡ second_line number ws
  unfolding second_line
  second_none e = sym (ap {B = List ℕ} (λ (t : Bool). elim t [ true ↦ spaced ws ++ newline | false ↦ [] ]) (ne_eqb number 0 e))

-- ---- how long an answer is
ten-digits : (v : ℕ) → v ≤ largest → length (decimal v) ≤ 10
ten-digits v h = decimal_most 9 v (omega arith)

pub labelled-most : (label : List ℕ) (v : ℕ) → v ≤ largest → length (labelled label v) ≤ length label + 10
unfolding labelled
labelled-most label v h = let d = ten-digits v h in let e = length-append label (decimal v) in omega arith

spaces-most : (ws : List ℕ) → ((i : ℕ) → i < length ws → get_or ws i 0 ≤ largest) → length (after_spaces ws) ≤ 11 * length ws
unfolding after_spaces
spaces-most [] h = omega arith
spaces-most (w ∷ ws) h =
    let d = ten-digits w (h 0 (omega arith)) in
    let e = length-append (decimal w) (after_spaces ws) in
    let i = spaces-most ws (λ i l. h (suc i) (omega arith)) in
    omega arith

spaced-most : (ws : List ℕ) → ((i : ℕ) → i < length ws → get_or ws i 0 ≤ largest) → length (spaced ws) ≤ 11 * length ws
unfolding spaced after_spaces
spaced-most [] h = omega arith
spaced-most (w ∷ ws) h = let d = spaces-most (w ∷ ws) h in omega arith

module _ (number : ℕ) (ws : List ℕ) (fits : (i : ℕ) → i < length ws → get_or ws i 0 ≤ largest) where
  pub second-most : length (second_line number ws) ≤ 11 * length ws + 1
  unfolding second_line
  second-most = go (eqb number 0)
    where
      go : (t : Bool) → length {A = ℕ} (elim t [ true ↦ spaced ws ++ newline | false ↦ [] ]) ≤ 11 * length ws + 1
      go true = let m = spaced-most ws fits in let e = length-append (spaced ws) newline in omega arith
      go false = omega arith

module _ (number count readings : ℕ) (few : number ≤ largest) (short : count ≤ largest) (known : readings ≤ largest) where
  first-most : length (first_line number count readings) ≤ 55
  unfolding first_line
  first-most =
      let a = labelled-most answer_label number few in
      let b = labelled-most words_label count short in
      let c = labelled-most readings_label readings known in
      let x = length-append (labelled answer_label number) (labelled words_label count ++ (labelled readings_label readings ++ newline)) in
      let y = length-append (labelled words_label count) (labelled readings_label readings ++ newline) in
      let z = length-append (labelled readings_label readings) newline in
      omega arith

  module _ (ws : List ℕ) (fits : (i : ℕ) → i < length ws → get_or ws i 0 ≤ largest) where
    -- an answer with at most 2,048 words has at most 23,000 bytes
    pub text-small : length ws ≤ 2048 → length (answer_text number count readings ws) ≤ 23000
    unfolding answer_text
    text-small h =
        let a = first-most in
        let b = second-most number ws fits in
        let e = length-append (first_line number count readings) (second_line number ws) in
        omega arith

-- ---- what an answer of the writer says
module _ (text dst : List ℕ) where
  -- what is written is the text
  pub wrote-text : (dst' : List ℕ) (n : ℕ) → Wrote text dst dst' (Some n) → take n dst' ≡ text
  wrote-text dst' n w = ap (take n) w.2 ∙ take_at text (drop n dst) n (sym w.0)

  -- where there is room, the text is written
  pub wrote-fits : (dst' : List ℕ) (r : Option ℕ) → Wrote text dst dst' r → length text ≤ length dst →
      (r ≡ Some (length text)) × (dst' ≡ text ++ drop (length text) dst)
  wrote-fits dst' (Some n) w h = (ap Some w.0, w.2 ∙ ap (λ (k : ℕ). text ++ drop k dst) w.0)
  wrote-fits dst' None w h = absurd (omega arith)

  -- one answer only is allowed
  pub wrote_one : (d e : List ℕ) (r s : Option ℕ) → Wrote text dst d r → Wrote text dst e s → r ≡ s
  wrote_one d e (Some n) s v w = ap Some v.0 ∙ sym (wrote-fits e s w (let q = v.0 in let z = v.1 in omega arith)).0
  wrote_one d e None (Some k) v w = absurd (let q = w.0 in let z = w.1 in omega arith)
  wrote_one d e None None v w = refl

-- ---- reading back
after-parted : (ws rest : List ℕ) → Parted rest → Parted (after_spaces ws ++ rest)
unfolding after_spaces space_or_newline
after-parted [] rest p = p
after-parted (w ∷ ws) rest p = refl

space-skipped : (cs : List ℕ) → token (32 ∷ cs) ≡ token cs
unfolding token space_or_newline
space-skipped cs = refl

after_back : (ws rest : List ℕ) → ((i : ℕ) → i < length ws → get_or ws i 0 ≤ largest) → Parted rest →
    words_in (length ws) (after_spaces ws ++ rest) ≡ some (ws, rest)
unfolding after_spaces
after_back [] rest h p = words_zero rest
after_back (w ∷ ws) rest h p =
    let left : List ℕ = after_spaces ws ++ rest in
    let e : token (32 ∷ ((decimal w ++ after_spaces ws) ++ rest)) ≡ is w left = space-skipped ((decimal w ++ after_spaces ws) ++ rest)
    ∙ ap token (append_assoc (decimal w) (after_spaces ws) rest) ∙ reads_back w left (h 0 (omega arith)) (after-parted ws rest p) in
    words_is (length ws) (32 ∷ ((decimal w ++ after_spaces ws) ++ rest)) w left e
    ∙ ap (before (w ∷ [])) (after_back ws rest (λ i l. h (suc i) (omega arith)) p)

-- words that are written read back as themselves
pub words_back : (ws rest : List ℕ) → ((i : ℕ) → i < length ws → get_or ws i 0 ≤ largest) → Parted rest →
    words_in (length ws) (spaced ws ++ rest) ≡ some (ws, rest)
unfolding spaced
words_back [] rest h p = words_zero rest
words_back (w ∷ ws) rest h p =
    let left : List ℕ = after_spaces ws ++ rest in
    let e : token ((decimal w ++ after_spaces ws) ++ rest) ≡ is w left = ap token (append_assoc (decimal w) (after_spaces ws) rest)
    ∙ reads_back w left (h 0 (omega arith)) (after-parted ws rest p) in
    words_is (length ws) ((decimal w ++ after_spaces ws) ++ rest) w left e
    ∙ ap (before (w ∷ [])) (after_back ws rest (λ i l. h (suc i) (omega arith)) p)
