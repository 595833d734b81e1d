-- Reading a run of words one by one: one law for each way that it goes on or ends.
-- Assumes nothing.
use Prim.Native.Nat.{ℕ, zero, suc, ◌+◌, ◌-◌, ◌≤◌, ◌<◌}
use native.Mathlib.Omega.{arith}
use native.Mathlib.Numerals.{add-one}
use mathlib.Core.Path.{◌≡◌, refl, sym, ap, ap₂, ◌∙◌, subst}
use mathlib.Core.Logic.{◌⊎◌, inl, inr}
use mathlib.Core.Bool.{Bool, true, false}
use mathlib.Core.Option.{Option, none, some}
use mathlib.Core.List.{List, [], ◌∷◌, ◌++◌, append_assoc, append-nil}
use lib.ListN.{length, drop, take, set, length-set, take-append-drop}
use lib.Seq.{take-suc-set, drop-drop, drop-set-lt}
use lib.Dec.{ltb}
use borrow.Author.Tests.{lt-ltb, le-ltb}
use Rattle.call_text.specs.declared.number.Token.{Token}
use Rattle.call_text.specs.declared.number.Token.TheVariants.{Is, Over, Bad}
use Rattle.call_text.specs.Token.{Start, is, over, bad, token}
use Rattle.call_text.specs.Call.{Taken, before, words_in, count_limit, counted}
use Rattle.call_text.specs.Finding.{beyond, Words, FindsRun, Puts}
use Rattle.call_text.proofs.Tokens.{meant}

before_before : (xs ys : List ℕ) (o : Option Taken) → before xs (before ys o) ≡ before (xs ++ ys) o
before_before xs ys none = refl
before_before xs ys (some p) = ap (λ (l : List ℕ). some (l, p.1)) (sym (append_assoc xs ys p.0))

before_nil : (o : Option Taken) → before [] o ≡ o
before_nil none = refl
before_nil (some p) = refl

pub words_zero : (cs : List ℕ) → words_in 0 cs ≡ some ([], cs)
unfolding words_in
words_zero cs = refl

-- words by what stands at the start
abbrev by_start : ℕ → Start → Option Taken
by_start n (is v rest) = before (v ∷ []) (words_in n rest)
by_start n over = none
by_start n bad = none

by_start_is : (n : ℕ) (s : Start) → by_start n s ≡ elim s [ is v rest ↦ before (v ∷ []) (words_in n rest) | over ↦ none | bad ↦ none ]
by_start_is n (is v rest) = refl
by_start_is n over = refl
by_start_is n bad = refl

words_start : (n : ℕ) (cs : List ℕ) (s : Start) → token cs ≡ s → words_in (suc n) cs ≡ by_start n s
unfolding words_in
words_start n cs s e = sym (by_start_is n (token cs)) ∙ ap (by_start n) e

pub words_is : (n : ℕ) (cs : List ℕ) (v : ℕ) (rest : List ℕ) → token cs ≡ is v rest
    → words_in (suc n) cs ≡ before (v ∷ []) (words_in n rest)
words_is n cs v rest e = words_start n cs (is v rest) e

-- no number comes
abbrev pub Other : Token → Type 0
Other r = (v q : ℕ) → r ≡ Is v q → ⊥

-- the first case is neither the second nor the third
pub neither : (◌≡◌ {A = ℕ} 0 1) ⊎ (◌≡◌ {A = ℕ} 0 2) → ⊥
neither (inl e) = omega arith
neither (inr e) = omega arith

words_stop : (n : ℕ) (text cs : List ℕ) (r : Token) → meant text r ≡ token cs → Other r → words_in (suc n) cs ≡ none
words_stop n text cs (Is v q) e o = absurd (o v q refl)
words_stop n text cs Over e o = words_start n cs over (sym e)
words_stop n text cs Bad e o = words_start n cs bad (sym e)

-- ---- how many words a run has
abbrev Sized : ℕ → Option Taken → Type 0
Sized n none = Unit {0}
Sized n (some t) = length t.0 ≡ n

grown : (n v : ℕ) (o : Option Taken) → Sized n o → Sized (suc n) (before (v ∷ []) o)
grown n v none h = tt
grown n v (some t) h = ap suc h

words_sized : (n : ℕ) (cs : List ℕ) → Sized n (words_in n cs)
words_sized zero cs = subst (Sized 0) (sym (words_zero cs)) refl
words_sized (suc n) cs = subst (Sized (suc n)) (sym (words_start n cs (token cs) refl)) (go (token cs) (words_sized n))
  where
    go : (s : Start) → ((r : List ℕ) → Sized n (words_in n r)) → Sized (suc n) (by_start n s)
    go (is v rest) h = grown n v (words_in n rest) (h rest)
    go over h = tt
    go bad h = tt

-- a run of so many words has so many
pub words_length : (n : ℕ) (cs : List ℕ) (t : Taken) → words_in n cs ≡ some t → length t.0 ≡ n
words_length n cs t e = subst (Sized n) e (words_sized n cs)

-- ---- passing over words: the text after those that are left is the text after the whole run
beyond_before : (xs : List ℕ) (o : Option Taken) → beyond (before xs o) ≡ beyond o
beyond_before xs none = refl
beyond_before xs (some t) = refl

beyond_none : (o : Option Taken) → beyond o ≡ none → o ≡ none
beyond_none none e = refl
beyond_none (some t) e = let z : ◌≡◌ {A = ℕ} 0 1 = cc in absurd (omega arith)

module _ (text : List ℕ) (run : Option Taken) (at left : ℕ) (g : beyond (words_in left (drop at text)) ≡ beyond run) where
  pub skip_ends : left ≤ 0 → beyond run ≡ some (drop at text)
  skip_ends h =
      let z : left ≡ 0 = omega arith in
      sym g ∙ ap (λ (n : ℕ). beyond (words_in n (drop at text))) z ∙ ap beyond (words_zero (drop at text))

  module _ (more : 0 < left) where
    one_more : beyond (words_in (suc (left - 1)) (drop at text)) ≡ beyond run
    one_more = let z : suc (left - 1) ≡ left = omega arith in ap (λ (n : ℕ). beyond (words_in n (drop at text))) z ∙ g

    pub skip_stops : (r : Token) → meant text r ≡ token (drop at text) → Other r → run ≡ none
    skip_stops r e o = beyond_none run (sym one_more ∙ ap beyond (words_stop (left - 1) text (drop at text) r e o))

    pub skip_goes : (v q : ℕ) → is v (drop q text) ≡ token (drop at text) → beyond (words_in (left - 1) (drop q text)) ≡ beyond run
    skip_goes v q e =
        sym (beyond_before (v ∷ []) (words_in (left - 1) (drop q text)))
        ∙ ap beyond (sym (words_is (left - 1) (drop at text) v (drop q text) (sym e)))
        ∙ one_more

-- ---- reading words: those so far are the first i of dst, from there on dst is as it was, and the others are still to be read
pub record Going (text : List ℕ) (run : Option Taken) (old : List ℕ) (count : ℕ) (dst : List ℕ) (at i : ℕ) : Type 0 where
  pub goes : before (take i dst) (words_in (count - i) (drop at text)) ≡ run
  pub few : i ≤ count
  pub stays : drop i dst ≡ drop i old
  pub size : length dst ≡ length old

pub run_begins : (text : List ℕ) (p count : ℕ) (dst : List ℕ) → Going text (words_in count (drop p text)) dst count dst p 0
run_begins text p count dst =
    let e : count - 0 ≡ count = omega arith in record {
      goes = before_nil (words_in (count - 0) (drop p text)) ∙ ap (λ (n : ℕ). words_in n (drop p text)) e;
      few = omega arith;
      stays = refl;
      size = refl;
    }

-- the words of a run
abbrev words_of : Option Taken → List ℕ
words_of none = []
words_of (some t) = t.0

module _ (text : List ℕ) (p count : ℕ) (old dst : List ℕ) (at i : ℕ)
    (g : Going text (words_in count (drop p text)) old count dst at i) where
  abbrev run : Option Taken
  run = words_in count (drop p text)

  whole : count ≤ i → some (take count dst, drop at text) ≡ run
  whole h =
      let few = g.few in
      let z : count - i ≡ 0 = omega arith in
      let y : i ≡ count = omega arith in
      ap (λ (l : List ℕ). some (l, drop at text)) (sym (append-nil (take count dst)))
      ∙ ap (before (take count dst)) (sym (words_zero (drop at text)))
      ∙ ap (λ (j : ℕ). before (take j dst) (words_in 0 (drop at text))) (sym y)
      ∙ ap (λ (n : ℕ). before (take i dst) (words_in n (drop at text))) (sym z)
      ∙ g.goes

  pub run_ends : count ≤ i → Puts run old dst
  run_ends h t e =
      let few = g.few in
      let y : i ≡ count = omega arith in
      let n : count ≡ length t.0 = sym (words_length count (drop p text) t e) in
      let front : take count dst ≡ t.0 = ap words_of (whole h ∙ e) in
      sym (take-append-drop count dst)
      ∙ ap₂ {C = List ℕ} ◌++◌ front (ap (λ (j : ℕ). drop j dst) (sym y) ∙ g.stays ∙ ap (λ (j : ℕ). drop j old) (y ∙ n))

  module _ (more : i < count) where
    left : count - i ≡ suc (count - (i + 1))
    left = omega arith

    pub run_stops : (r : Token) → meant text r ≡ token (drop at text) → Other r → Puts run old dst
    run_stops r e o t f =
        let n = words_stop (count - (i + 1)) text (drop at text) r e o in
        let k : none ≡ words_in (count - i) (drop at text) = sym n ∙ ap (λ (n : ℕ). words_in n (drop at text)) (sym left) in
        let m : none ≡ some t = ap (before (take i dst)) k ∙ g.goes ∙ f in
        let z : ◌≡◌ {A = ℕ} 0 1 = cc in absurd (omega arith)

    pub run_goes : (v q : ℕ) → i < length dst → is v (drop q text) ≡ token (drop at text)
        → Going text run old count (set dst i v) q (i + 1)
    run_goes v q h e =
        let r : Option Taken = words_in (count - (i + 1)) (drop q text) in
        let suc-front = take-suc-set dst i v h in
        let front : take (i + 1) (set dst i v) ≡ take i dst ++ (v ∷ []) = ap (λ (n : ℕ). take n (set dst i v)) (add-one i) ∙ suc-front in
        let next : drop (i + 1) dst ≡ drop (i + 1) old = sym (drop-drop 1 i dst) ∙ ap (drop 1) g.stays ∙ drop-drop 1 i old in record {
          goes = ap (λ (l : List ℕ). before l r) front
              ∙ sym (before_before (take i dst) (v ∷ []) r)
              ∙ ap (before (take i dst)) (sym (words_is (count - (i + 1)) (drop at text) v (drop q text) (sym e)))
              ∙ ap (λ (n : ℕ). before (take i dst) (words_in n (drop at text))) (sym left)
              ∙ g.goes;
          few = omega arith;
          stays = drop-set-lt (i + 1) dst i v (omega arith) ∙ next;
          size = length-set dst i v ∙ g.size;
        }

-- ---- a word count, and so many words
-- a run by its count
abbrev by_count : Start → Option Taken
by_count (is n rest) = elim (ltb count_limit n) [ true ↦ none | false ↦ words_in n rest ]
by_count over = none
by_count bad = none

by_count_is : (s : Start) → by_count s ≡ elim s [
  | is n rest ↦ elim (ltb count_limit n) [ true ↦ none | false ↦ words_in n rest ]
  | over ↦ none
  | bad ↦ none
]
by_count_is (is n rest) = refl
by_count_is over = refl
by_count_is bad = refl

module _ (cs : List ℕ) where
  counted_start : (s : Start) → s ≡ token cs → by_count s ≡ counted cs
  unfolding counted
  counted_start s e = ap by_count e ∙ by_count_is (token cs)

  pub counted_stops : (text : List ℕ) (r : Token) → meant text r ≡ token cs → Other r → counted cs ≡ none
  counted_stops text (Is v q) e o = absurd (o v q refl)
  counted_stops text Over e o = sym (counted_start over e)
  counted_stops text Bad e o = sym (counted_start bad e)

  module _ (n : ℕ) (rest : List ℕ) (e : is n rest ≡ token cs) where
    limited : (t : Bool) → ltb count_limit n ≡ t → elim t [ true ↦ none | false ↦ words_in n rest ] ≡ counted cs
    limited t l =
        ap {B = Option Taken} (λ (t : Bool). elim t [ true ↦ none | false ↦ words_in n rest ]) (sym l) ∙ counted_start (is n rest) e

    pub counted_many : count_limit < n → counted cs ≡ none
    counted_many h = sym (limited true (lt-ltb count_limit n h))

    counted_fine : n ≤ count_limit → words_in n rest ≡ counted cs
    counted_fine h = limited false (le-ltb count_limit n h)

    -- so many words are found where the count is not too large
    pub counted_finds : (text : List ℕ) (k : ℕ) (r : Words) → k ≡ n → n ≤ count_limit
        → FindsRun text (words_in k rest) r → FindsRun text (counted cs) r
    counted_finds text k r f h g = subst (λ (o : Option Taken). FindsRun text o r) (ap (λ (j : ℕ). words_in j rest) f ∙ counted_fine h) g
