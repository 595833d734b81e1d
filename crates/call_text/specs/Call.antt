-- A call as `meet` reads it: "namely mode, word count, first words, word count, second words".
-- Assumes nothing: these are definitions.
use Rattle.std.specs.Prelude.{ℕ, zero, suc, ◌≡◌, Bool, true, false, List, [], ◌∷◌, ◌++◌, length, drop, ltb, Some, None}
use Rattle.std.proofs.Math.Option.{Option, none, some}
use Rattle.call_text.specs.Token.{is, over, bad, token}
use Rattle.call_text.specs.declared.call.Counts.{Counts}

-- words, and the text after them
abbrev pub Taken : Type 0
Taken = List ℕ × List ℕ

abbrev pub before : List ℕ → Option Taken → Option Taken
before xs none = none
before xs (some p) = some (xs ++ p.0, p.1)

-- so many numbers from the start of a text
unfoldable pub words_in : ℕ → List ℕ → Option Taken
words_in zero cs = some ([], cs)
words_in (suc n) cs = elim (token cs) [ is v rest ↦ before (v ∷ []) (words_in n rest) | over ↦ none | bad ↦ none ]

-- "A count over 2,048 … prints `bad input` alone"
abbrev pub count_limit : ℕ
count_limit = 2048

-- a word count, and so many words
unfoldable pub counted : List ℕ → Option Taken
counted cs = elim (token cs) [
  | is n rest ↦ elim (ltb count_limit n) [ true ↦ none | false ↦ words_in n rest ]
  | over ↦ none
  | bad ↦ none
]

-- "a missing or surplus number": whether no number is left
unfoldable pub done : List ℕ → Bool
done cs = elim (token cs) [ is v rest ↦ false | over ↦ true | bad ↦ false ]

-- a call: its mode and both inputs
pub record Typed : Type 0 where
  pub mode : ℕ
  pub first : List ℕ
  pub second : List ℕ

-- what follows the mode: two counted runs of words, and nothing else
unfoldable pub inputs : ℕ → List ℕ → Option Typed
inputs m cs = elim (counted cs) [
  | none ↦ none
  | some p ↦ elim (counted p.1) [
    | none ↦ none
    | some q ↦ elim (done q.1) [ true ↦ some (record { mode = m; first = p.0; second = q.0 }) | false ↦ none ]
  ]
]

unfoldable pub typed : List ℕ → Option Typed
typed cs = elim (token cs) [ is m rest ↦ inputs m rest | over ↦ none | bad ↦ none ]

-- "input over 65,536 bytes"
abbrev pub text_limit : ℕ
text_limit = 65536

unfoldable pub heard : List ℕ → Option Typed
heard text = elim (ltb text_limit (length text)) [ true ↦ none | false ↦ typed text ]

-- for lists of so many words: without room for the longest run in each, there is no call
unfoldable pub heard_in : ℕ → ℕ → List ℕ → Option Typed
heard_in n m text = elim (ltb n count_limit) [ true ↦ none | false ↦ elim (ltb m count_limit) [ true ↦ none | false ↦ heard text ] ]

-- the answer: the mode, and how many words each input has; or bad input
abbrev pub Answer : Type 0
Answer = Rattle.std.specs.Prelude.Option Counts

abbrev pub told : Option Typed → Answer
told none = None
told (some c) = Some (record { mode = c.mode; first = length c.first; second = length c.second })

-- the words of each input, none after bad input
abbrev pub first_words : Option Typed → List ℕ
first_words none = []
first_words (some c) = c.first

abbrev pub second_words : Option Typed → List ℕ
second_words none = []
second_words (some c) = c.second

-- these words at the start of a list, and after them what stood there
abbrev pub upon : List ℕ → List ℕ → List ℕ
upon words l = words ++ drop (length words) l

-- the answer to a call, and every word of both lists: the inputs stand at their starts, and bad input changes neither
pub record Heard (o : Option Typed) (first second first' second' : List ℕ) (r : Answer) : Type 0 where
  pub answer : r ≡ told o
  pub the_first : first' ≡ upon (first_words o) first
  pub the_second : second' ≡ upon (second_words o) second
