-- Signs as pairs of numbers, a kind and a number, and which groups have alternatives.
-- Assumes nothing: these are definitions.
use Rattle.std.specs.Prelude.{ℕ, ◌+◌, ◌*◌, ◌<◌, Bool, true, false, List, [], ◌∷◌, eqb}
use Rattle.signs.specs.Limits.{kind_unit}
use Rattle.signs.specs.Signs.{Sign, nil_sign, top_sign, atom_sign, feature_sign, mark}
use Rattle.signs.specs.Machine.{if_so}

abbrev pub Token : Type 0
Token = ℕ × ℕ

-- the kind is the byte that ends the sign, or the letter before its number
abbrev pub sign_token : Sign → Token
sign_token nil_sign = (76, 0)
sign_token top_sign = (80, 0)
sign_token (atom_sign a) = (97, a)
sign_token (feature_sign f) = (102, f)
sign_token (mark b) = (b, 0)

abbrev pub tokens : List Sign → List Token
tokens [] = []
tokens (s ∷ σ) = sign_token s ∷ tokens σ

abbrev pub token_word : Token → ℕ
token_word t = t.0 * kind_unit + t.1

abbrev pub token_words : List Token → List ℕ
token_words [] = []
token_words (t ∷ ts) = token_word t ∷ token_words ts

abbrev pub AllSmall : List Token → Type 0
AllSmall [] = Unit {0}
AllSmall (t ∷ ts) = (t.1 < kind_unit) × AllSmall ts

-- from right to left: the signs so far, and whether each group that is open to the right, the innermost first, has a `|` of its own
pub record MarkedSigns : Type 0 where
  pub done : List Token
  pub flags : List Bool

abbrev pub flag_bit : Bool → ℕ
flag_bit true = 1
flag_bit false = 0

abbrev pub top_flag : List Bool → Bool
top_flag [] = false
top_flag (b ∷ bs) = b

abbrev pub under_top : List Bool → List Bool
under_top [] = []
under_top (b ∷ bs) = bs

-- `)` opens a group, `|` marks it, `(` ends it and keeps its mark as its number
abbrev pub flag : Token → MarkedSigns → MarkedSigns
flag t y =
    if_so (eqb t.0 41) (record { done = t ∷ y.done; flags = false ∷ y.flags })
    (if_so (eqb t.0 124) (record { done = t ∷ y.done; flags = true ∷ under_top y.flags })
    (if_so (eqb t.0 40) (record { done = (40, flag_bit (top_flag y.flags)) ∷ y.done; flags = under_top y.flags })
    (record { done = t ∷ y.done; flags = y.flags })))

abbrev pub flagging : List Token → MarkedSigns → MarkedSigns
flagging [] y = y
flagging (t ∷ ts) y = flag t (flagging ts y)

-- nothing is read, and no `|` was met
abbrev pub unmarked : MarkedSigns
unmarked = record { done = []; flags = false ∷ [] }
