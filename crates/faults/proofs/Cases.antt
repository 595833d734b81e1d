-- Words at fault, by computation: one table.
-- Assumes nothing.
use mathlib.Core.Path.{◌≡◌, refl}
use mathlib.Core.Option.{Option, some}
use mathlib.Core.List.{List, [], ◌∷◌, ◌++◌, map}
use Prim.Native.Nat.{ℕ}
use Rattle.roles.specs.Faults.{Cause, words_end, words_left_over, no_nodes, bad_head, bad_feature, bad_target, not_met}
use Rattle.roles.specs.Faults.{few_alternatives, too_deep, Faulty}
use Rattle.faults.proofs.Run.{start, found, found_faulty}

-- words, the cause, and the place of the word that decides
pub record FaultCase : Type 0 where
  pub words : List ℕ
  pub cause : Cause
  pub place : ℕ

abbrev case : List ℕ → Cause → ℕ → FaultCase
case ws c p = record { words = ws; cause = c; place = p }

-- alternatives nested four deep, the innermost of which begins
abbrev four_deep : List ℕ
four_deep = 1 ∷ 0 ∷ 1 ∷ 2 ∷ 1 ∷ 0 ∷ 1 ∷ 2 ∷ 1 ∷ 0 ∷ 1 ∷ 2 ∷ 1 ∷ 0 ∷ 1 ∷ 2 ∷ []

abbrev pub table : List FaultCase
table = case [] words_end 0
    ∷ case (2 ∷ 0 ∷ []) words_end 2
    ∷ case (1 ∷ 1 ∷ 7 ∷ []) words_end 3
    ∷ case (1 ∷ 0 ∷ 0 ∷ 5 ∷ []) words_left_over 3
    ∷ case (0 ∷ []) no_nodes 0
    ∷ case (1 ∷ 131072 ∷ 0 ∷ []) (bad_head 131072) 1
    ∷ case (1 ∷ 1 ∷ 65536 ∷ 9 ∷ []) bad_feature 2
    ∷ case (1 ∷ 2 ∷ 5 ∷ 0 ∷ 5 ∷ 9 ∷ []) bad_feature 4
    ∷ case (3 ∷ 1 ∷ 1 ∷ 2 ∷ []) (bad_target 2) 3
    ∷ case (1 ∷ 1 ∷ 1 ∷ 1 ∷ []) (bad_target 1) 3
    ∷ case (2 ∷ 0 ∷ 7 ∷ []) not_met 2
    ∷ case (2 ∷ 0 ∷ 131072 ∷ []) not_met 2
    ∷ case (1 ∷ 0 ∷ 1 ∷ 1 ∷ 2 ∷ []) few_alternatives 3
    ∷ case (four_deep ++ (1 ∷ 0 ∷ 0 ∷ 1 ∷ 0 ∷ 0 ∷ [])) words_end 22
    ∷ case (four_deep ++ (1 ∷ 0 ∷ 3 ∷ 1 ∷ [])) too_deep 18
    ∷ []

abbrev pub Holds : List FaultCase → Type 0
Holds [] = Unit {0}
Holds (r ∷ l) = Faulty r.words r.cause r.place × Holds l

-- what the program finds, and what it should
abbrev finds : FaultCase → Option (Cause × ℕ)
finds r = found start r.words

abbrev should : FaultCase → Option (Cause × ℕ)
should r = some (r.cause, r.place)

all_hold : (l : List FaultCase) → map finds l ≡ map should l → Holds l
all_hold [] e = tt
all_hold (r ∷ l) e = (found_faulty r.words r.cause r.place cc, all_hold l cc)

pub table_holds : Holds table
table_holds = all_hold table refl
