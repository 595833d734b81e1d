-- What marking the groups asks and promises.
-- Assumes nothing: these are definitions.
use Rattle.std.specs.Prelude.{ℕ, zero, suc, ◌<◌, ◌≤◌, ◌≡◌, Bool, false, List, [], ◌∷◌, length, get_or}
use Rattle.signs.specs.Limits.{kind_unit}
use Rattle.rows.specs.Tokens.{Token, token_word, token_words, AllSmall, MarkedSigns, top_flag, flag, flagging, unmarked}
use Rattle.rows.specs.Memory.{ListedFrom}

-- the last of the first flags, if there is one
abbrev pub last_of : List Bool → ℕ → Bool
last_of f zero = false
last_of f (suc n) = get_or f n false

abbrev pub word_of : List ℕ → ℕ → ℕ
word_of w i = get_or w i 0

-- flags stand in a list, the last one first
abbrev pub Piled : List Bool → List Bool → Type 0
Piled f [] = Unit {0}
Piled f (b ∷ bs) = (get_or f (length bs) false ≡ b) × Piled f bs

-- signs after the one at i are marked
pub record SignTurning (w : List ℕ) (i : ℕ) (f : List Bool) (top : ℕ) : Type 0 where
  pub sign : Token
  pub small : sign.1 < kind_unit
  pub word : word_of w i ≡ token_word sign
  pub after : MarkedSigns
  pub flags : Piled f after.flags
  pub high : top ≡ length after.flags
  pub done : ListedFrom (word_of w) (suc i) (token_words after.done)

-- it is marked too
pub record SignTurned (w : List ℕ) (i : ℕ) (f : List Bool) (top r : ℕ) (w' : List ℕ) (f' : List Bool) : Type 0 where
  pub front : (j : ℕ) → j < i → word_of w' j ≡ word_of w j
  pub few : r ≤ suc top
  pub high : (c : SignTurning w i f top) → r ≡ length (flag c.sign c.after).flags
  pub flags : (c : SignTurning w i f top) → Piled f' (flag c.sign c.after).flags
  pub done : (c : SignTurning w i f top) → ListedFrom (word_of w') i (token_words (flag c.sign c.after).done)

-- the first n words are signs, and there is room for flags
pub record Flagging (w : List ℕ) (n : ℕ) (f : List Bool) : Type 0 where
  pub signs : List Token
  pub small : AllSmall signs
  pub count : n ≡ length signs
  pub written : ListedFrom (word_of w) 0 (token_words signs)
  pub long : n ≤ length w
  pub room : n < length f

-- the same signs, each `(` of a group with alternatives marked; and whether the whole has them
pub record Flags (w : List ℕ) (n : ℕ) (f : List Bool) (r : Bool) (w' : List ℕ) : Type 0 where
  pub written : (c : Flagging w n f) → ListedFrom (word_of w') 0 (token_words (flagging c.signs unmarked).done)
  pub whole : (c : Flagging w n f) → r ≡ top_flag (flagging c.signs unmarked).flags
