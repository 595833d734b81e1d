-- Request Eight's refusals of the writer, each with its rule: "the writer gives 47 …, 45, 46".
-- Assumes nothing: these are definitions.
use Rattle.std.specs.Prelude.{ℕ, ◌+◌, ◌*◌, ◌≤◌, ◌<◌, List, [], ◌∷◌, Ok, Err, length, take, drop}
use Rattle.theory.specs.Limits.{input_limit}
use Rattle.theory.specs.LayoutOne.{Image}
use Rattle.library.specs.Index.{entry_limit, identifier_limit}
use Rattle.library_writing.specs.Write.{Written, need}
use Rattle.library_writing.specs.declared.write.WriteError.TheVariants.{NoRoom, Malformed, BadEntries}

-- identifiers rise, here from low on, and are at most 65,535; no entry has over 1,024 words, and none is half there
abbrev pub Rises : ℕ → List ℕ → Type 0
Rises low [] = Unit {0}
Rises low (id ∷ []) = ⊥
Rises low (id ∷ (n ∷ es)) = (low ≤ id) × (id < identifier_limit) × (n ≤ input_limit) × Rises (id + 1) es

-- what is not "over 60, identifiers not rising or over 65,535, over 1,024 words"
pub record Orderly (es : List ℕ) : Type 0 where
  pub few : length es ≤ 2 * entry_limit
  pub rises : Rises 0 es

-- each entry's words are there, one entry's after the other's, and are a description's
abbrev pub DescribesEach : List ℕ → List ℕ → Type 0
DescribesEach [] ws = Unit {0}
DescribesEach (id ∷ []) ws = Unit {0}
DescribesEach (id ∷ (n ∷ es)) ws = (n ≤ length ws) × Image (take n ws) × DescribesEach es (drop n ws)

-- the rule of an answer of the writer holds, and no earlier one
pub data WhyWritten (es ws : List ℕ) (room : ℕ) : Written → Type 0 where
  unlisted : ¬ (Orderly es) → WhyWritten es ws room (Err BadEntries)
  malformed : Orderly es → ¬ (DescribesEach es ws) → WhyWritten es ws room (Err Malformed)
  short : Orderly es → DescribesEach es ws → room < need es ws → WhyWritten es ws room (Err (NoRoom (need es ws)))
  fine : Orderly es → DescribesEach es ws → need es ws ≤ room → WhyWritten es ws room (Ok (need es ws))
