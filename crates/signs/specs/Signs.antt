-- The signs of a formula and how they are spelt, as request One has them.
-- Assumes nothing: these are definitions.
use Rattle.std.specs.Prelude.{ℕ, zero, suc, ◌+◌, ◌*◌, ◌<◌, ◌≤◌, ◌≡◌, List, [], ◌∷◌, ◌++◌}
use Rattle.signs.specs.Limits.{largest_number, kind_unit}

-- "`NIL`, `TOP`, atoms `a10`, `f1:` before a formula", and the signs of one byte: `:` `[` `]` `<` `>` `,` `&` `|` `(` `)`; a mark of any
-- other byte stands in no formula
pub data Sign : Type 0 where
  nil_sign : Sign
  top_sign : Sign
  atom_sign : ℕ → Sign
  feature_sign : ℕ → Sign
  mark : ℕ → Sign

abbrev pub colon : Sign
colon = mark 58

abbrev pub bracket : Sign
bracket = mark 91

abbrev pub unbracket : Sign
unbracket = mark 93

abbrev pub less : Sign
less = mark 60

abbrev pub greater : Sign
greater = mark 62

abbrev pub comma : Sign
comma = mark 44

abbrev pub and : Sign
and = mark 38

abbrev pub or : Sign
or = mark 124

abbrev pub left : Sign
left = mark 40

abbrev pub right : Sign
right = mark 41

-- "without leading zeros": a digit, or a number that is not 0 and a digit after it
pub data Decimal : List ℕ → ℕ → Type 0 where
  digit : {t : List ℕ} {n : ℕ} → n < 10 → t ≡ (48 + n) ∷ [] → Decimal t n
  longer : {t : List ℕ} {n : ℕ} (u : List ℕ) (m d : ℕ) → Decimal u m → 0 < m → d < 10 → t ≡ u ++ ((48 + d) ∷ []) →
      n ≡ m * 10 + d → Decimal t n

-- "Numbers go to 65,535"
pub record Number (t : List ℕ) (n : ℕ) : Type 0 where
  pub decimal : Decimal t n
  pub small : n ≤ largest_number

-- the bytes of a sign
pub data Spells : Sign → List ℕ → Type 0 where
  spells_nil : {t : List ℕ} → t ≡ 78 ∷ 73 ∷ 76 ∷ [] → Spells nil_sign t
  spells_top : {t : List ℕ} → t ≡ 84 ∷ 79 ∷ 80 ∷ [] → Spells top_sign t
  spells_atom : {t : List ℕ} {a : ℕ} (u : List ℕ) → Number u a → t ≡ 97 ∷ u → Spells (atom_sign a) t
  spells_feature : {t : List ℕ} {f : ℕ} (u : List ℕ) → Number u f → t ≡ 102 ∷ u → Spells (feature_sign f) t
  spells_mark : {t : List ℕ} {b : ℕ} → t ≡ b ∷ [] → Spells (mark b) t

abbrev pub spaces : ℕ → List ℕ
spaces zero = []
spaces (suc n) = 32 ∷ spaces n

-- "spaces may part signs": a sign; or signs, any number of spaces, and one sign more
pub data Spelt : List Sign → List ℕ → Type 0 where
  one_sign : {σ : List Sign} {t : List ℕ} (s : Sign) → Spells s t → σ ≡ s ∷ [] → Spelt σ t
  next_sign : {σ : List Sign} {t : List ℕ} (τ : List Sign) (u : List ℕ) (n : ℕ) (s : Sign) (v : List ℕ) → Spelt τ u →
      Spells s v → σ ≡ τ ++ (s ∷ []) → t ≡ u ++ (spaces n ++ v) → Spelt σ t

-- a sign as one word: the byte that ends it, or the letter before its number, times `kind_unit`, and the number
unfoldable pub sign_word : Sign → ℕ
sign_word nil_sign = 76 * kind_unit
sign_word top_sign = 80 * kind_unit
sign_word (atom_sign a) = 97 * kind_unit + a
sign_word (feature_sign f) = 102 * kind_unit + f
sign_word (mark b) = b * kind_unit

unfoldable pub sign_words : List Sign → List ℕ
sign_words [] = []
sign_words (s ∷ σ) = sign_word s ∷ sign_words σ
