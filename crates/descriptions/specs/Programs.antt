-- A program as the code of unification is one: words of a machine come in; number, length, readings, node and both areas come back.
-- Assumes nothing: these are definitions.
use Rattle.std.specs.Prelude.{◌≡◌, Bool, true, false, ◌&&◌, List, [], ◌∷◌, ℕ, length, take, replicate, eqb, ltb}
use Rattle.descriptions.specs.Limits.{word_limit, length_limit}
use Rattle.descriptions.specs.Joining.{Joining}
use Rattle.descriptions.specs.Layout.{Layout}
use Rattle.descriptions.specs.Call.{Call}
use Rattle.descriptions.specs.Answer.{Answer}
use Rattle.descriptions.specs.Unified.{unified}
use Rattle.descriptions.specs.Outcome.{Areas, Outcome, Row}
use Rattle.descriptions.specs.Demands.{Unifier}

-- what comes back from a call, and the areas after it
pub record Left : Type 0 where
  pub row : Row
  pub after : Areas

-- from what comes in and the areas before the call
abbrev pub Program : Type 0
Program = Call → Areas → Left

abbrev pub all_small : List ℕ → Bool
all_small [] = true
all_small (w ∷ ws) = ltb w word_limit && all_small ws

-- "unsigned 32-bit words", as many as a machine's length can count
abbrev pub are_words : List ℕ → Bool
are_words ws = ltb (length ws) length_limit && all_small ws

module _ (c : Call) (before : Areas) where
  open c use {mode, first, second}
  open before use {result, working}

  -- what can come in: a mode in a word, inputs and areas of words
  abbrev pub in_words : Bool
  in_words = ltb mode word_limit && (are_words first && (are_words second && (are_words result && are_words working)))

-- the words that a call has written: none but after 0
abbrev pub written : Left → List ℕ
written r = elim (eqb r.row.number 0) [ true ↦ take r.row.extent r.after.result | false ↦ [] ]

abbrev pub answer_of : Left → Answer
answer_of r = record {
  number = r.row.number;
  extent = r.row.extent;
  readings = r.row.readings;
  node = r.row.node;
  result = written r;
}

-- areas of so many words
abbrev pub blank : ℕ → ℕ → Areas
blank room work = record { result = replicate room 0; working = replicate work 0 }

module _ {Graph : Type 0} (J : Joining Graph) (𝓕 : Layout Graph) where
  -- what the contract of `unify` says of a program, for all that can come in
  abbrev pub Meets : Program → Type 0
  Meets P = (c : Call) (before : Areas) → in_words c before ≡ true → Outcome J 𝓕 c before (P c before).row (P c before).after

  -- the program as a function of the sizes of its areas; of what cannot come in, the table's answer is taken for its own
  abbrev pub sized : Program → Unifier
  sized P c room work =
      elim (in_words c (blank room work)) [ true ↦ answer_of (P c (blank room work)) | false ↦ unified J 𝓕 c room work ]
