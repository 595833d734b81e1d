-- Reading a number byte by byte: one law for each way that it goes on or ends.
-- Assumes nothing.
use Prim.Native.Nat.{ℕ, ◌+◌, ◌*◌, ◌-◌, ◌≤◌, ◌<◌}
use native.Mathlib.Omega.{arith}
use native.Mathlib.Numerals.{add-one}
use borrow.Author.Tests.{ltb-true, ltb-false}
use mathlib.Core.Path.{◌≡◌, refl, sym, ap, ◌∙◌}
use mathlib.Core.Bool.{Bool, true, false}
use mathlib.Core.List.{List, [], ◌∷◌, ◌++◌, append_assoc}
use lib.ListN.{length, get_or, take, drop, drop_of_length-le, length-append, length-drop, take-append-drop}
use lib.Seq.{drop-cons, drop_at}
use lib.Dec.{ltb}
use Rattle.call_text.specs.declared.number.Token.{Token}
use Rattle.call_text.specs.declared.number.Token.TheVariants.{Is, Over, Bad}
use Rattle.call_text.specs.Token.{space_or_newline, digit, largest, Start, is, over, bad, more, token, placed}

-- a digit is one of ten bytes
pub digit_range : (c : ℕ) → digit c ≡ true → (48 ≤ c) × (c < 58)
unfolding digit
digit_range c d = go (ltb c 48) refl d
  where
    go : (t : Bool) → ltb c 48 ≡ t → elim t [ true ↦ false | false ↦ ltb c 58 ] ≡ true → (48 ≤ c) × (c < 58)
    go true e h = let z : ◌≡◌ {A = ℕ} 0 1 = cc in absurd (omega arith)
    go false e h = (ltb-false c 48 e, ltb-true c 58 h)

module _ (text : List ℕ) (at : ℕ) where
  abbrev c : ℕ
  c = get_or text at 0

  module _ (end : length text ≤ at) where
    pub more_end : (v : ℕ) → is v (drop at text) ≡ more v (drop at text)
    unfolding more
    more_end v = rw (drop_of_length-le text end)

    pub token_end : over ≡ token (drop at text)
    unfolding token
    token_end = rw (drop_of_length-le text end)

  module _ (here : at < length text) where
    next : drop at text ≡ c ∷ drop (at + 1) text
    next = drop-cons text at 0 here ∙ ap (λ (k : ℕ). c ∷ drop k text) (sym (add-one at))

    module _ (v : ℕ) where
      pub more_digit : digit c ≡ true → ltb largest (v * 10 + (c - 48)) ≡ false →
          more v (drop at text) ≡ more (v * 10 + (c - 48)) (drop (at + 1) text)
      unfolding more
      more_digit d l = rw (next, d, l, more)

      pub more_large : digit c ≡ true → ltb largest (v * 10 + (c - 48)) ≡ true → bad ≡ more v (drop at text)
      unfolding more
      more_large d l = rw (next, d, l, more)

      pub more_blank : digit c ≡ false → space_or_newline c ≡ true → is v (drop at text) ≡ more v (drop at text)
      unfolding more
      more_blank d b = rw (next, d, b, more)

      pub more_other : digit c ≡ false → space_or_newline c ≡ false → bad ≡ more v (drop at text)
      unfolding more
      more_other d b = rw (next, d, b, more)

    pub token_blank : space_or_newline c ≡ true → token (drop at text) ≡ token (drop (at + 1) text)
    unfolding token
    token_blank b = rw (next, b, token)

    pub token_digit : space_or_newline c ≡ false → digit c ≡ true → more 0 (drop at text) ≡ token (drop at text)
    unfolding token
    token_digit b d = rw (next, b, d, token)

    pub token_other : space_or_newline c ≡ false → digit c ≡ false → bad ≡ token (drop at text)
    unfolding token
    token_other b d = rw (next, b, d, token)

-- ---- positions
-- a number and what is left after it: the end of the text
abbrev pub Ends : List ℕ → Start → Type 0
Ends cs (is v rest) = (front : List ℕ) × (cs ≡ front ++ rest)
Ends cs over = Unit {0}
Ends cs bad = Unit {0}

longer : (c : ℕ) (cs : List ℕ) (s : Start) → Ends cs s → Ends (c ∷ cs) s
longer c cs (is v rest) (front, e) = (c ∷ front, ap (λ (l : List ℕ). c ∷ l) e)
longer c cs over e = tt
longer c cs bad e = tt

more_ends : (v : ℕ) (cs : List ℕ) → Ends cs (more v cs)
unfolding more
more_ends v [] = ([], refl)
more_ends v (c ∷ cs) = let w : ℕ = v * 10 + (c - 48) in go (digit c) (ltb largest w) (space_or_newline c) (more_ends w cs)
  where
    go : (d l b : Bool) → Ends cs (more (v * 10 + (c - 48)) cs) → Ends (c ∷ cs) (elim d [
      | true ↦ elim l [ true ↦ bad | false ↦ more (v * 10 + (c - 48)) cs ]
      | false ↦ elim b [ true ↦ is v (c ∷ cs) | false ↦ bad ]
    ])
    go true true b e = tt
    go true false b e = longer c cs (more (v * 10 + (c - 48)) cs) e
    go false l true e = ([], refl)
    go false l false e = tt

pub token_ends : (cs : List ℕ) → Ends cs (token cs)
unfolding token
token_ends [] = tt
token_ends (c ∷ cs) = go (space_or_newline c) (digit c) (token_ends cs)
  where
    go : (b d : Bool) → Ends cs (token cs) → Ends (c ∷ cs) (elim b [
      | true ↦ token cs
      | false ↦ elim d [ true ↦ more 0 (c ∷ cs) | false ↦ bad ]
    ])
    go true d e = longer c cs (token cs) e
    go false true e = more_ends 0 (c ∷ cs)
    go false false e = tt

module _ (text : List ℕ) where
  -- what an answer says of the text
  abbrev pub meant : Token → Start
  meant (Is v q) = is v (drop q text)
  meant Over = over
  meant Bad = bad

  -- an end of the text is what stands from its position on
  back : (front rest : List ℕ) → text ≡ front ++ rest → drop (length text - length rest) text ≡ rest
  back front rest e =
      let n = ap length e in
      let m = length-append front rest in
      ap (drop (length text - length rest)) e ∙ drop_at front rest (length text - length rest) (omega arith)

  -- the answer says what stands there
  pub said : (p : ℕ) (r : Token) → r ≡ placed text (token (drop p text)) → meant r ≡ token (drop p text)
  said p r e = ap meant e ∙ go (token (drop p text)) (token_ends (drop p text))
    where
      go : (s : Start) → Ends (drop p text) s → meant (placed text s) ≡ s
      go (is v rest) (front, f) =
          ap (is v) (back (take p text ++ front) rest
          (sym (take-append-drop p text) ∙ ap (λ (l : List ℕ). take p text ++ l) f ∙ sym (append_assoc (take p text) front rest)))
      go over f = refl
      go bad f = refl

  -- a position inside the text is the one where what is left there begins
  pub placed_by : (v q : ℕ) (s : Start) → q ≤ length text → is v (drop q text) ≡ s → Is v q ≡ placed text s
  placed_by v q s h e = let n = length-drop q text in ap (Is v) (omega arith) ∙ ap (placed text) e
