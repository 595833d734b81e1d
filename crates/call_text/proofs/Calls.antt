-- Reading a call part by part: one law for each way that it goes on or ends; one outcome only is allowed, and a good call has few words.
-- Assumes nothing.
use Prim.Native.Nat.{ℕ, ◌≤◌, ◌<◌}
use native.Mathlib.Omega.{arith}
use mathlib.Core.Path.{◌≡◌, refl, sym, ap, ◌∙◌, subst}
use mathlib.Core.Bool.{Bool, true, false}
use mathlib.Core.Option.{Option, none, some}
use mathlib.Core.List.{List}
use lib.ListN.{length, drop}
use lib.Dec.{ltb}
use borrow.Author.Tests.{lt-ltb, le-ltb, ltb-false}
use Rattle.call_text.specs.Token.{Start, is, over, bad, token}
use Rattle.call_text.specs.Call.{Taken, words_in, count_limit, counted, done, Typed, inputs, typed, text_limit, heard, heard_in}
use Rattle.call_text.specs.Call.{Answer, Heard}
use Rattle.call_text.specs.Finding.{beyond, FindsRun, Puts}
use Rattle.std.specs.Prelude.{Some, None}
use Rattle.call_text.specs.declared.call.Run.{Run}
use Rattle.call_text.specs.declared.number.Token.{Token}
use Rattle.call_text.specs.declared.number.Token.TheVariants.{Is, Over, Bad}
use Rattle.call_text.proofs.Tokens.{meant}
use Rattle.call_text.proofs.Runs.{Other, words_length}

-- ---- whether a number is left
pub done_by : (cs : List ℕ) (s : Start) → s ≡ token cs → elim s [ is v rest ↦ false | over ↦ true | bad ↦ false ] ≡ done cs
unfolding done
done_by cs s e = ap {B = Bool} (λ (s : Start). elim s [ is v rest ↦ false | over ↦ true | bad ↦ false ]) e

-- what is read is something else than the end
pub still_more : (text cs : List ℕ) (r : Token) → meant text r ≡ token cs → (r ≡ Over → ⊥) → false ≡ done cs
still_more text cs (Is v q) e o = done_by cs (is v (drop q text)) e
still_more text cs Over e o = absurd (o refl)
still_more text cs Bad e o = done_by cs bad e

-- ---- what follows the mode
module _ (m : ℕ) (cs : List ℕ) where
  abbrev last : List ℕ → List ℕ → Bool → Option Typed
  last a b true = some (record { mode = m; first = a; second = b })
  last a b false = none

  abbrev second : List ℕ → Option Taken → Option Typed
  second a none = none
  second a (some q) = last a q.0 (done q.1)

  abbrev first : Option Taken → Option Typed
  first none = none
  first (some p) = second p.0 (counted p.1)

  last_is : (a b : List ℕ) (x : Bool) → last a b x ≡ elim x [ true ↦ some (record { mode = m; first = a; second = b }) | false ↦ none ]
  last_is a b true = refl
  last_is a b false = refl

  second_is : (a : List ℕ) (o : Option Taken) →
      second a o ≡ elim o [
        | none ↦ none
        | some q ↦ elim (done q.1) [ true ↦ some (record { mode = m; first = a; second = q.0 }) | false ↦ none ]
      ]
  second_is a none = refl
  second_is a (some q) = last_is a q.0 (done q.1)

  first_is : (o : Option Taken) → first o ≡ elim o [
    | none ↦ none
    | some p ↦ elim (counted p.1) [
      | none ↦ none
      | some q ↦ elim (done q.1) [ true ↦ some (record { mode = m; first = p.0; second = q.0 }) | false ↦ none ]
    ]
  ]
  first_is none = refl
  first_is (some p) = second_is p.0 (counted p.1)

  parts : first (counted cs) ≡ inputs m cs
  unfolding inputs
  parts = first_is (counted cs)

  pub inputs_none : none ≡ counted cs → none ≡ inputs m cs
  inputs_none e = ap first e ∙ parts

  module _ (a r : List ℕ) (e : some (a, r) ≡ counted cs) where
    pub inputs_one : none ≡ counted r → none ≡ inputs m cs
    inputs_one f = ap (second a) f ∙ ap first e ∙ parts

    module _ (b t : List ℕ) (f : some (b, t) ≡ counted r) where
      pub inputs_both : (x : Bool) → x ≡ done t → last a b x ≡ inputs m cs
      inputs_both x g = ap (last a b) g ∙ ap (second a) f ∙ ap first e ∙ parts

-- ---- bad input changes nothing
module _ (o : Option Typed) (first second : List ℕ) (r : Answer) where
  pub unheard : o ≡ none → r ≡ None → Heard o first second first second r
  unheard e f =
      subst (λ (o : Option Typed). Heard o first second first second r) (sym e)
      (record { answer = f; the_first = refl; the_second = refl })

-- ---- the inputs, by what is found of them
-- a run that is found is there, with the text after it
pub there : (text : List ℕ) (run : Option Taken) (next : ℕ) → beyond run ≡ some (drop next text)
    → (xs : List ℕ) × (some (xs, drop next text) ≡ run)
there text none next e = let z : ◌≡◌ {A = ℕ} 0 1 = cc in absurd (omega arith)
there text (some t) next e = let f : t.1 ≡ drop next text = cc in (t.0, ap (λ (l : List ℕ). some (t.0, l)) (sym f))

module _ (m : ℕ) (text cs : List ℕ) where
  pub without_first : counted cs ≡ none → inputs m cs ≡ none
  without_first e = sym (inputs_none m cs (sym e))

  module _ (r : Run) (one : FindsRun text (counted cs) (Some r)) where
    ahead : (xs : List ℕ) × (some (xs, drop r.next text) ≡ counted cs)
    ahead = there text (counted cs) r.next one.2

    abbrev rest : Option Taken
    rest = counted (drop r.next text)

    pub without_second : rest ≡ none → inputs m cs ≡ none
    without_second e = sym (inputs_one m cs ahead.0 (drop r.next text) ahead.1 (sym e))

    module _ (w : Run) (two : FindsRun text rest (Some w)) where
      after : (ys : List ℕ) × (some (ys, drop w.next text) ≡ rest)
      after = there text rest w.next two.2

      pub with_more : false ≡ done (drop w.next text) → inputs m cs ≡ none
      with_more h = sym (inputs_both m cs ahead.0 (drop r.next text) ahead.1 after.0 (drop w.next text) after.1 false h)

      module _ (h : true ≡ done (drop w.next text)) (first second first' second' : List ℕ) where
        asked : some (record { mode = m; first = ahead.0; second = after.0 }) ≡ inputs m cs
        asked = inputs_both m cs ahead.0 (drop r.next text) ahead.1 after.0 (drop w.next text) after.1 true h

        pub with_both : Puts (words_in r.count (drop r.start text)) first first' → Puts (words_in w.count (drop w.start text)) second second'
            → Heard (inputs m cs) first second first' second' (Some (record { mode = m; first = r.count; second = w.count }))
        with_both i j =
            let x : words_in r.count (drop r.start text) ≡ some (ahead.0, drop r.next text) = one.1 ∙ sym ahead.1 in
            let y : words_in w.count (drop w.start text) ≡ some (after.0, drop w.next text) = two.1 ∙ sym after.1 in
            let xs = words_length r.count (drop r.start text) (ahead.0, drop r.next text) x in
            let ys = words_length w.count (drop w.start text) (after.0, drop w.next text) y in
            subst (λ (o : Option Typed). Heard o first second first' second' (Some (record { mode = m; first = r.count; second = w.count })))
            asked (record {
              answer = cc;
              the_first = i (ahead.0, drop r.next text) x;
              the_second = j (after.0, drop w.next text) y;
            })

-- ---- the whole
-- a call by what stands at the start
abbrev by_mode : Start → Option Typed
by_mode (is m rest) = inputs m rest
by_mode over = none
by_mode bad = none

by_mode_is : (s : Start) → by_mode s ≡ elim s [ is m rest ↦ inputs m rest | over ↦ none | bad ↦ none ]
by_mode_is (is m rest) = refl
by_mode_is over = refl
by_mode_is bad = refl

call_start : (text : List ℕ) (s : Start) → s ≡ token text → by_mode s ≡ typed text
unfolding typed
call_start text s e = ap by_mode e ∙ by_mode_is (token text)

module _ (n m : ℕ) (text : List ℕ) where
  pub short_first : n < count_limit → heard_in n m text ≡ none
  unfolding heard_in
  short_first h = let e = lt-ltb n count_limit h in rw (e, heard_in)

  module _ (one : count_limit ≤ n) where
    pub short_second : m < count_limit → heard_in n m text ≡ none
    unfolding heard_in
    short_second h = let d = le-ltb n count_limit one in let e = lt-ltb m count_limit h in rw (d, e, heard_in)

    module _ (two : count_limit ≤ m) where
      -- where both lists have room
      pub with_room : heard_in n m text ≡ heard text
      unfolding heard_in
      with_room = let d = le-ltb n count_limit one in let e = le-ltb m count_limit two in rw (d, e, heard_in)

      pub long_text : text_limit < length text → heard_in n m text ≡ none
      unfolding heard
      long_text h = let e = lt-ltb text_limit (length text) h in with_room ∙ rw (e, heard)

      module _ (fits : length text ≤ text_limit) where
        short_text : heard_in n m text ≡ typed text
        unfolding heard
        short_text = let e = le-ltb text_limit (length text) fits in with_room ∙ rw (e, heard)

        pub without_mode : (r : Token) → meant text r ≡ token text → Other r → heard_in n m text ≡ none
        without_mode (Is v q) e o = absurd (o v q refl)
        without_mode Over e o = short_text ∙ sym (call_start text over e)
        without_mode Bad e o = short_text ∙ sym (call_start text bad e)

        module _ (first second first' second' : List ℕ) (r : Answer) (mode : ℕ) (rest : List ℕ) (e : is mode rest ≡ token text) where
          pub with_mode : Heard (inputs mode rest) first second first' second' r → Heard (heard_in n m text) first second first' second' r
          with_mode h =
              subst (λ (o : Option Typed). Heard o first second first' second' r) (call_start text (is mode rest) e ∙ sym short_text) h

-- ---- what a call is
-- one answer only is allowed, and one content of both lists
pub one_call : (o : Option Typed) (first second : List ℕ) (a b c d : List ℕ) (r s : Answer)
    → Heard o first second a b r → Heard o first second c d s → (r ≡ s) × (a ≡ c) × (b ≡ d)
one_call o first second a b c d r s p q =
    (p.answer ∙ sym q.answer, p.the_first ∙ sym q.the_first, p.the_second ∙ sym q.the_second)

abbrev Few : Option Taken → Type 0
Few none = Unit {0}
Few (some t) = length t.0 ≤ count_limit

abbrev FewBoth : Option Typed → Type 0
FewBoth none = Unit {0}
FewBoth (some c) = (length c.first ≤ count_limit) × (length c.second ≤ count_limit)

counted_few : (cs : List ℕ) → Few (counted cs)
unfolding counted
counted_few cs = go (token cs)
  where
    few : (n : ℕ) (rest : List ℕ) → n ≤ count_limit → (o : Option Taken) → words_in n rest ≡ o → Few o
    few n rest h none e = tt
    few n rest h (some t) e = let l = words_length n rest t e in omega arith

    fine : (n : ℕ) (rest : List ℕ) (t : Bool) → ltb count_limit n ≡ t → Few (elim t [ true ↦ none | false ↦ words_in n rest ])
    fine n rest true e = tt
    fine n rest false e = few n rest (ltb-false count_limit n e) (words_in n rest) refl

    go : (s : Start) → Few (elim s [
      | is n rest ↦ elim (ltb count_limit n) [ true ↦ none | false ↦ words_in n rest ]
      | over ↦ none
      | bad ↦ none
    ])
    go (is n rest) = fine n rest (ltb count_limit n) refl
    go over = tt
    go bad = tt

inputs_few : (m : ℕ) (cs : List ℕ) → FewBoth (inputs m cs)
inputs_few m cs = subst FewBoth (parts m cs) (one (counted cs) (counted_few cs))
  where
    three : (a b : List ℕ) (x : Bool) → length a ≤ count_limit → length b ≤ count_limit → FewBoth (last m cs a b x)
    three a b true h k = (h, k)
    three a b false h k = tt

    two : (a : List ℕ) (o : Option Taken) → length a ≤ count_limit → Few o → FewBoth (second m cs a o)
    two a none h k = tt
    two a (some t) h k = three a t.0 (done t.1) h k

    one : (o : Option Taken) → Few o → FewBoth (first m cs o)
    one none h = tt
    one (some t) h = two t.0 (counted t.1) h (counted_few t.1)

heard_few : (text : List ℕ) → FewBoth (heard text)
unfolding heard typed
heard_few text = go (ltb text_limit (length text)) (token text)
  where
    go : (t : Bool) (s : Start) → FewBoth (elim t [
      | true ↦ none
      | false ↦ elim s [ is m rest ↦ inputs m rest | over ↦ none | bad ↦ none ]
    ])
    go true s = tt
    go false (is m rest) = inputs_few m rest
    go false over = tt
    go false bad = tt

-- a good call has at most 2,048 words in each input
pub counts_few : (text : List ℕ) (c : Typed) → heard text ≡ some c → (length c.first ≤ count_limit) × (length c.second ≤ count_limit)
counts_few text c e = subst FewBoth e (heard_few text)
