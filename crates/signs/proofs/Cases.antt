-- Texts judged and read by computation.
-- Assumes nothing.
use mathlib.Core.Path.{refl}
use mathlib.Core.List.{[], ◌∷◌}
use native.Mathlib.Omega.{arith}
use Rattle.formulas.specs.Formula.{nil, top, atom, at, same, all, any, one, ◌also◌}
use Rattle.signs.specs.Grammar.{Reads, BadAt}
use Rattle.signs.specs.Machine.{digit_byte, started, within_sign, stepped}
use Rattle.signs.proofs.Through.{stood_clean, stood_number}
use Rattle.signs.proofs.Exact.{stop_bad, end_bad}
use Rattle.signs.proofs.Once.{reads_is}

-- no text at all
pub empty : BadAt [] 0
unfolding digit_byte started within_sign stepped
empty = end_bad _ _ _ _ 0 0 0 refl refl refl

-- `NI`
pub ni : BadAt (78 ∷ 73 ∷ []) 2
unfolding digit_byte started within_sign stepped
ni = end_bad _ _ _ _ 0 2 2 refl refl refl

-- `a65536`
pub too_large : BadAt (97 ∷ 54 ∷ 53 ∷ 53 ∷ 51 ∷ 54 ∷ []) 5
unfolding digit_byte started within_sign stepped
too_large = stop_bad _ 5 _ _ _ (omega arith) refl refl

-- `a00`
pub leading_zero : BadAt (97 ∷ 48 ∷ 48 ∷ []) 2
unfolding digit_byte started within_sign stepped
leading_zero = stop_bad _ 2 _ _ _ (omega arith) refl refl

-- `[]`
pub no_path : BadAt (91 ∷ 93 ∷ []) 1
unfolding digit_byte started within_sign stepped
no_path = stop_bad _ 1 _ _ _ (omega arith) refl refl

-- ` a1`
pub space_first : BadAt (32 ∷ 97 ∷ 49 ∷ []) 0
unfolding digit_byte started within_sign stepped
space_first = stop_bad _ 0 _ _ _ (omega arith) refl refl

-- `a1 `
pub space_last : BadAt (97 ∷ 49 ∷ 32 ∷ []) 3
unfolding digit_byte started within_sign stepped
space_last = end_bad _ _ _ _ 0 3 3 refl refl refl

-- `(((`
pub never_closed : BadAt (40 ∷ 40 ∷ 40 ∷ []) 3
unfolding digit_byte started within_sign stepped
never_closed = end_bad _ _ _ _ 0 3 3 refl refl refl

-- `a1)`
pub never_opened : BadAt (97 ∷ 49 ∷ 41 ∷ []) 2
unfolding digit_byte started within_sign stepped
never_opened = stop_bad _ 2 _ _ _ (omega arith) refl refl

-- `a 1`
pub space_within : BadAt (97 ∷ 32 ∷ 49 ∷ []) 1
unfolding digit_byte started within_sign stepped
space_within = stop_bad _ 1 _ _ _ (omega arith) refl refl

-- `NILNIL`
pub two_units : BadAt (78 ∷ 73 ∷ 76 ∷ 78 ∷ 73 ∷ 76 ∷ []) 3
unfolding digit_byte started within_sign stepped
two_units = stop_bad _ 3 _ _ _ (omega arith) refl refl

-- `f1&a1`
pub feature_alone : BadAt (102 ∷ 49 ∷ 38 ∷ 97 ∷ 49 ∷ []) 2
unfolding digit_byte started within_sign stepped
feature_alone = stop_bad _ 2 _ _ _ (omega arith) refl refl

-- `NIL`
pub says_nothing : Reads (78 ∷ 73 ∷ 76 ∷ []) nil
unfolding digit_byte started within_sign stepped
says_nothing = reads_is _ _ _ _ stood_clean refl refl

-- `a65535`
pub largest : Reads (97 ∷ 54 ∷ 53 ∷ 53 ∷ 51 ∷ 53 ∷ []) (atom 65535)
unfolding digit_byte started within_sign stepped
largest = reads_is _ _ _ _ stood_number refl refl

-- `f1:a10&f2:(a1|TOP)`
pub conjunction_binds : Reads (102 ∷ 49 ∷ 58 ∷ 97 ∷ 49 ∷ 48 ∷ 38 ∷ 102 ∷ 50 ∷ 58 ∷ 40 ∷ 97 ∷ 49 ∷ 124 ∷ 84 ∷ 79 ∷ 80 ∷ 41 ∷ [])
    (all (at 1 (atom 10)) (one (at 2 (any (atom 1) (one top)))))
unfolding digit_byte started within_sign stepped
conjunction_binds = reads_is _ _ _ _ stood_clean refl refl

-- `f1 :a1`
pub colon_apart : Reads (102 ∷ 49 ∷ 32 ∷ 58 ∷ 97 ∷ 49 ∷ []) (at 1 (atom 1))
unfolding digit_byte started within_sign stepped
colon_apart = reads_is _ _ _ _ stood_number refl refl

-- `[<>,<f1f2>]`
pub paths : Reads (91 ∷ 60 ∷ 62 ∷ 44 ∷ 60 ∷ 102 ∷ 49 ∷ 102 ∷ 50 ∷ 62 ∷ 93 ∷ []) (same [] ((1 ∷ 2 ∷ []) ∷ []))
unfolding digit_byte started within_sign stepped
paths = reads_is _ _ _ _ stood_clean refl refl

-- `[ < f1 f2 > , <f3> ]`
pub paths_spaced : Reads (91 ∷ 32 ∷ 60 ∷ 32 ∷ 102 ∷ 49 ∷ 32 ∷ 102 ∷ 50 ∷ 32 ∷ 62 ∷ 32 ∷ 44 ∷ 32 ∷ 60 ∷ 102 ∷ 51 ∷ 62 ∷ 32 ∷ 93 ∷ [])
    (same (1 ∷ 2 ∷ []) ((3 ∷ []) ∷ []))
unfolding digit_byte started within_sign stepped
paths_spaced = reads_is _ _ _ _ stood_clean refl refl

-- `a1|a2|a3`
pub three_alternatives : Reads (97 ∷ 49 ∷ 124 ∷ 97 ∷ 50 ∷ 124 ∷ 97 ∷ 51 ∷ []) (any (atom 1) (atom 2 also one (atom 3)))
unfolding digit_byte started within_sign stepped
three_alternatives = reads_is _ _ _ _ stood_number refl refl

-- `(a1|a2)|a3`
pub nested_alternatives : Reads (40 ∷ 97 ∷ 49 ∷ 124 ∷ 97 ∷ 50 ∷ 41 ∷ 124 ∷ 97 ∷ 51 ∷ []) (any (any (atom 1) (one (atom 2))) (one (atom 3)))
unfolding digit_byte started within_sign stepped
nested_alternatives = reads_is _ _ _ _ stood_number refl refl

-- `f1:f2:a1&a2|((a3))`
pub tightest : Reads (102 ∷ 49 ∷ 58 ∷ 102 ∷ 50 ∷ 58 ∷ 97 ∷ 49 ∷ 38 ∷ 97 ∷ 50 ∷ 124 ∷ 40 ∷ 40 ∷ 97 ∷ 51 ∷ 41 ∷ 41 ∷ [])
    (any (all (at 1 (at 2 (atom 1))) (one (atom 2))) (one (atom 3)))
unfolding digit_byte started within_sign stepped
tightest = reads_is _ _ _ _ stood_clean refl refl
