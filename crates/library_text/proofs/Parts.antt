-- Laws of the parts of a text, in the form in which the functions' returns ask them.
-- Assumes nothing.
use Prim.Native.Nat.{ℕ, ◌+◌, ◌-◌, ◌≤◌, ◌<◌}
use native.Mathlib.Omega.{arith}
use native.Mathlib.Numerals.{add-one}
use mathlib.Core.Path.{◌≡◌, refl, sym, ap, subst, ◌∙◌}
use mathlib.Core.Option.{Option, none, some}
use mathlib.Core.List.{List, ◌∷◌, append-nil}
use lib.ListN.{length, get_or, take, drop, drop_of_length-le, length-drop}
use lib.Seq.{drop-cons, take_all}
use borrow.Author.Tests.{eq-eqb, ne_eqb}
use Rattle.call_text.specs.Token.{Start, is, over, bad, token, placed}
use Rattle.call_text.specs.Call.{Taken, before, words_in}
use Rattle.call_text.specs.declared.number.Token.{Token}
use Rattle.call_text.specs.declared.number.Token.TheVariants.{Is, Over, Bad}
use Rattle.call_text.proofs.Tokens.{meant, said}
use Rattle.call_text.specs.Finding.{beyond}
use Rattle.call_text.proofs.Runs.{Other, Going, words_zero, skip_stops}
use Rattle.answer_text.specs.Answer.{bad_text, Wrote}
use Rattle.std.specs.Prelude.{Some, None}
use Rattle.library_text.specs.Serves.{past_number, past_words, past_newline}

-- a text under another name
pub wrote_as : (xs ys dst dst' : List ℕ) (r : Rattle.std.specs.Prelude.Option ℕ) → xs ≡ ys → Wrote xs dst dst' r → Wrote ys dst dst' r
wrote_as xs ys dst dst' r e w = subst (λ (l : List ℕ). Wrote l dst dst' r) e w

-- ---- a number
module _ (cs : List ℕ) (go : ℕ → List ℕ → List ℕ) where
  -- what is printed by what stands at the start
  abbrev by_start : Start → List ℕ
  by_start (is v rest) = go v rest
  by_start over = bad_text
  by_start bad = bad_text

  by_start_is : (s : Start) → by_start s ≡ elim s [ is v rest ↦ go v rest | over ↦ bad_text | bad ↦ bad_text ]
  by_start_is (is v rest) = refl
  by_start_is over = refl
  by_start_is bad = refl

  started : (s : Start) → s ≡ token cs → by_start s ≡ past_number cs go
  unfolding past_number
  started s e = ap by_start e ∙ by_start_is (token cs)

  pub number_stands : (v : ℕ) (rest : List ℕ) → is v rest ≡ token cs → go v rest ≡ past_number cs go
  number_stands v rest e = started (is v rest) e

  pub number_missing : (text : List ℕ) (r : Token) → meant text r ≡ token cs → Other r → bad_text ≡ past_number cs go
  number_missing text (Is v q) e o = absurd (o v q refl)
  number_missing text Over e o = started over e
  number_missing text Bad e o = started bad e

-- a number that was read stands there
pub number_said : (text : List ℕ) (p : ℕ) (r : Token) → r ≡ placed text (token (drop p text)) → (v q : ℕ) → r ≡ Is v q
    → is v (drop q text) ≡ token (drop p text)
number_said text p r e v q f = ap (meant text) (sym f) ∙ said text p r e

-- ---- a run of words
module _ (n : ℕ) (cs : List ℕ) (go : List ℕ → List ℕ → List ℕ) where
  abbrev by_run : Option Taken → List ℕ
  by_run none = bad_text
  by_run (some t) = go t.0 t.1

  by_run_is : (o : Option Taken) → by_run o ≡ elim o [ none ↦ bad_text | some t ↦ go t.0 t.1 ]
  by_run_is none = refl
  by_run_is (some t) = refl

  ran : (o : Option Taken) → words_in n cs ≡ o → by_run o ≡ past_words n cs go
  unfolding past_words
  ran o e = ap by_run (sym e) ∙ by_run_is (words_in n cs)

  pub words_stand : (xs rest : List ℕ) → words_in n cs ≡ some (xs, rest) → go xs rest ≡ past_words n cs go
  words_stand xs rest e = ran (some (xs, rest)) e

  pub words_missing : words_in n cs ≡ none → bad_text ≡ past_words n cs go
  words_missing e = ran none e

-- all words of a run are read
pub run_whole : (text : List ℕ) (run : Option Taken) (old : List ℕ) (count : ℕ) (dst : List ℕ) (at i : ℕ)
    → Going text run old count dst at i → count ≤ i → run ≡ some (take count dst, drop at text)
run_whole text run old count dst at i g h =
    let few = g.few in
    let z : count - i ≡ 0 = omega arith in
    let y : i ≡ count = omega arith in
    sym g.goes
    ∙ ap (λ (n : ℕ). before (take i dst) (words_in n (drop at text))) z
    ∙ ap (before (take i dst)) (words_zero (drop at text))
    ∙ ap (λ (l : List ℕ). some (l, drop at text)) (append-nil (take i dst))
    ∙ ap (λ (n : ℕ). some (take n dst, drop at text)) y

beyond_before : (xs : List ℕ) (o : Option Taken) → beyond o ≡ beyond (before xs o)
beyond_before xs none = refl
beyond_before xs (some t) = refl

-- no word comes where one is left to be read
pub run_missing : (text : List ℕ) (run : Option Taken) (old : List ℕ) (count : ℕ) (dst : List ℕ) (at i : ℕ)
    → Going text run old count dst at i → i < count → (r : Token) → meant text r ≡ token (drop at text) → Other r → run ≡ none
run_missing text run old count dst at i g h =
    skip_stops text run at (count - i) (beyond_before (take i dst) (words_in (count - i) (drop at text)) ∙ ap beyond g.goes)
    (omega arith)

-- ---- a newline
-- a list without its first k elements, as a part of a slice has it
abbrev pub rest_of : ℕ → List ℕ → List ℕ
rest_of k l = take (length l - k) (drop k l)

rest_is : (k : ℕ) (l : List ℕ) → rest_of k l ≡ drop k l
rest_is k l = take_all (length l - k) (drop k l) (let e = length-drop k l in omega arith)

module _ (text : List ℕ) (end : ℕ) (go : List ℕ → List ℕ) where
  pub newline_over : length text ≤ end → bad_text ≡ past_newline (drop end text) go
  unfolding past_newline
  newline_over h = rw (drop_of_length-le text h)

  module _ (here : end < length text) where
    next : drop end text ≡ get_or text end 0 ∷ drop (end + 1) text
    next = drop-cons text end 0 here ∙ ap (λ (k : ℕ). get_or text end 0 ∷ drop k text) (sym (add-one end))

    pub newline_other : (get_or text end 0 ≡ 10 → ⊥) → bad_text ≡ past_newline (drop end text) go
    unfolding past_newline
    newline_other h = let e = ne_eqb (get_or text end 0) 10 h in rw (next, e, past_newline)

    pub newline_stands : get_or text end 0 ≡ 10 → go (rest_of (end + 1) text) ≡ past_newline (drop end text) go
    unfolding past_newline
    newline_stands h = let e = eq-eqb (get_or text end 0) 10 h in ap go (rest_is (end + 1) text) ∙ rw (next, e, past_newline)
