-- What is left of a text after a number, after words and after a test is no longer than the text. Assumes nothing.
use mathlib.Core.Path.{◌≡◌, refl, sym, ap, subst, ◌∙◌}
use mathlib.Core.Bool.{Bool, true, false}
use mathlib.Core.Option.{Option, none, some}
use mathlib.Core.List.{List, [], ◌∷◌, ◌++◌}
use Prim.Native.Nat.{ℕ, zero, suc, ◌+◌, ◌-◌, ◌≤◌, ◌<◌}
use native.Mathlib.Omega.{arith}
use lib.Dec.{ltb, eqb}
use borrow.Author.Tests.{ltb-true, ltb-false}
use lib.ListN.{length, take, drop, length-append, length-drop, drop_of_length-le}
use Rattle.call_text.specs.Token.{Start, is, over, bad, token}
use Rattle.call_text.specs.Call.{Taken, before, words_in, count_limit, counted}
use Rattle.call_text.proofs.Tokens.{Ends, token_ends}
use Rattle.suite_reading.specs.Text.{spaces_off}
use Rattle.suite_reading.specs.Tests.{TypedTest, number_then, words_then, descriptions_then, leading_test}
use Rattle.suite_text.specs.Report.{test_run}

after_front : (cs front rest : List ℕ) → cs ≡ front ++ rest → length rest ≤ length cs
after_front cs front rest e =
    let n : length cs ≡ length (front ++ rest) = ap length e in
    let m = length-append front rest in
    omega arith

-- ---- words
abbrev Shrunk : List ℕ → Option Taken → Type 0
Shrunk cs none = Unit {0}
Shrunk cs (some t) = length t.1 ≤ length cs

shrunk_more : (cs rest : List ℕ) → length rest ≤ length cs → (o : Option Taken) → Shrunk rest o → Shrunk cs o
shrunk_more cs rest h none s = tt
shrunk_more cs rest h (some t) s = omega arith

shrunk_before : (cs : List ℕ) (v : ℕ) (o : Option Taken) → Shrunk cs o → Shrunk cs (before (v ∷ []) o)
shrunk_before cs v none s = tt
shrunk_before cs v (some t) s = s

words_shrunk : (n : ℕ) (cs : List ℕ) → Shrunk cs (words_in n cs)
unfolding words_in
words_shrunk zero cs = omega arith
words_shrunk (suc n) cs = go (token cs) (token_ends cs) (words_shrunk n)
  where
    go : (s : Start) → Ends cs s → ((rest : List ℕ) → Shrunk rest (words_in n rest)) →
        Shrunk cs (elim s [ is v rest ↦ before (v ∷ []) (words_in n rest) | over ↦ none | bad ↦ none ])
    go (is v rest) (front, e) h =
        shrunk_before cs v (words_in n rest) (shrunk_more cs rest (after_front cs front rest e) (words_in n rest) (h rest))
    go over e h = tt
    go bad e h = tt

counted_shrunk : (cs : List ℕ) → Shrunk cs (counted cs)
unfolding counted
counted_shrunk cs = go (token cs) (token_ends cs)
  where
    few : (n : ℕ) (rest : List ℕ) → length rest ≤ length cs → (b : Bool) →
        Shrunk cs (elim b [ true ↦ none | false ↦ words_in n rest ])
    few n rest h true = tt
    few n rest h false = shrunk_more cs rest h (words_in n rest) (words_shrunk n rest)

    go : (s : Start) → Ends cs s → Shrunk cs (elim s [
      | is n rest ↦ elim (ltb count_limit n) [ true ↦ none | false ↦ words_in n rest ]
      | over ↦ none
      | bad ↦ none
    ])
    go (is n rest) (front, e) = few n rest (after_front cs front rest e) (ltb count_limit n)
    go over e = tt
    go bad e = tt

-- ---- a test
-- what is left after a test is no longer than what is left after its mode
abbrev Within : Option TypedTest → Type 0
Within none = Unit {0}
Within (some t) = length t.after ≤ length t.after_mode

descriptions_within : (m : ℕ) (named : List ℕ) (n k : ℕ) (cs : List ℕ) → length cs ≤ length named →
    Within (descriptions_then m named n k cs)
unfolding descriptions_then
descriptions_within m named n k cs h = one (counted cs) (counted_shrunk cs)
  where
    test : Taken → Taken → TypedTest
    test p q = record {
      mode = m;
      number = n;
      readings = k;
      first = p.0;
      second = q.0;
      after_mode = named;
      after = q.1;
    }

    two : (p : Taken) → length p.1 ≤ length cs → (o : Option Taken) → Shrunk p.1 o → Within (words_then (λ q. some (test p q)) o)
    two p g none s = tt
    two p g (some q) s = omega arith

    one : (o : Option Taken) → Shrunk cs o →
        Within (words_then (λ p. words_then (λ q. some (test p q)) (counted p.1)) o)
    one none s = tt
    one (some p) s = two p s (counted p.1) (counted_shrunk p.1)

leading_within : (cs : List ℕ) → Within (leading_test cs)
unfolding leading_test
leading_within cs = one (token cs)
  where
    three : (m : ℕ) (named : List ℕ) (n : ℕ) (rest : List ℕ) → length rest ≤ length named → (s : Start) → Ends rest s →
        Within (number_then (λ k left. descriptions_then m named n k left) s)
    three m named n rest h (is k left) (front, e) =
        let g = after_front rest front left e in descriptions_within m named n k left (omega arith)
    three m named n rest h over e = tt
    three m named n rest h bad e = tt

    two : (m : ℕ) (named : List ℕ) (s : Start) → Ends named s →
        Within (number_then (λ n rest. number_then (λ k left. descriptions_then m named n k left) (token rest)) s)
    two m named (is n rest) (front, e) = three m named n rest (after_front named front rest e) (token rest) (token_ends rest)
    two m named over e = tt
    two m named bad e = tt

    one : (s : Start) → Within (number_then (λ m named. number_then (λ n rest. number_then (λ k left.
        descriptions_then m named n k left) (token rest)) (token named)) s)
    one (is m named) = two m named (token named) (token_ends named)
    one over = tt
    one bad = tt

pub after_shorter : (cs : List ℕ) (t : TypedTest) → leading_test cs ≡ some t → length t.after ≤ length t.after_mode
after_shorter cs t e = subst Within e (leading_within cs)

-- ---- where the name of a test stands
spaces_shorter : (cs : List ℕ) → length (spaces_off cs) ≤ length cs
unfolding spaces_off
spaces_shorter [] = omega arith
spaces_shorter (c ∷ cs) = go (eqb c 32) (spaces_shorter cs)
  where
    go : (b : Bool) → length (spaces_off cs) ≤ length cs →
        length {A = ℕ} (elim b [ true ↦ spaces_off cs | false ↦ c ∷ cs ]) ≤ length {A = ℕ} (c ∷ cs)
    go true h = omega arith
    go false h = omega arith

module _ (numbers : List ℕ) (p r : ℕ) (low : r ≤ length numbers) (here : p ≤ length numbers → r ≡ p)
    (past : length numbers < p → r ≡ length numbers) where
  -- a place that is held within the text leaves what the place leaves
  pub held_place : drop r numbers ≡ drop p numbers
  held_place = go (ltb (length numbers) p) refl
    where
      go : (b : Bool) → ltb (length numbers) p ≡ b → drop r numbers ≡ drop p numbers
      go true e =
          let far : length numbers < p = ltb-true (length numbers) p e in
          ap (λ (k : ℕ). drop k numbers) (past far) ∙ drop_of_length-le numbers {i = length numbers} (omega arith)
          ∙ sym (drop_of_length-le numbers {i = p} (omega arith))
      go false e = ap (λ (k : ℕ). drop k numbers) (here (ltb-false (length numbers) p e))

module _ (text numbers : List ℕ) (same : length numbers ≡ length text) (t : TypedTest) (from next to : ℕ)
    (h : length t.after ≤ length t.after_mode) (low : from ≤ length numbers) (begin : drop from numbers ≡ t.after_mode)
    (after : drop next numbers ≡ t.after) (high : to ≤ length numbers) (end : drop to numbers ≡ spaces_off (drop next numbers)) where
  begin_is : from ≡ length text - length t.after_mode
  begin_is =
      let n = length-drop from numbers in
      let m : length (drop from numbers) ≡ length t.after_mode = ap length begin in
      omega arith

  end_is : to ≡ length text - length (spaces_off t.after)
  end_is =
      let n = length-drop to numbers in
      let m : length (drop to numbers) ≡ length (spaces_off t.after) = ap length end ∙ ap (λ (l : List ℕ). length (spaces_off l)) after in
      omega arith

  pub run_order : from ≤ to
  run_order =
      let n = length-drop from numbers in
      let m : length (drop from numbers) ≡ length t.after_mode = ap length begin in
      let s = spaces_shorter t.after in
      let a = begin_is in
      let b = end_is in
      omega arith

  -- the run of bytes in which the name of a test stands
  pub run_is : take (to - from) (drop from text) ≡ test_run text t
  unfolding test_run
  run_is =
      let n = length-drop from numbers in
      let m : length (drop from numbers) ≡ length t.after_mode = ap length begin in
      let s = spaces_shorter t.after in
      let size : to - from ≡ length t.after_mode - length (spaces_off t.after) =
      (let a = begin_is in let b = end_is in omega arith) in
      ap (λ (k : ℕ). take k (drop from text)) size
      ∙ ap (λ (k : ℕ). take (length t.after_mode - length (spaces_off t.after)) (drop k text)) begin_is
