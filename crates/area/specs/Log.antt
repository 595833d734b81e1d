-- An undo log: the words before LOG are the body, and each word from LOG on is an entry: an address in the body and 4,096 times what
-- stood there. Assumes nothing.
use Rattle.std.specs.Prelude.{ℕ, zero, suc, ◌+◌, ◌-◌, ◌/◌, ◌%◌, ◌≤◌, ◌<◌, ◌≡◌, List, length, get_or, take, drop, set}
use Rattle.area.specs.Map.{LOG, WORDS, ENTRY_STEP, ENTRY_MOST}

unfoldable pub body : List ℕ → List ℕ
body w = take LOG w

unfoldable pub entries : List ℕ → List ℕ
entries w = drop LOG w

-- the body b with the d entries from m on taken back, the last one first
unfoldable pub back : List ℕ → ℕ → ℕ → List ℕ → List ℕ
back L m zero b = b
back L m (suc d) b = set (back L (suc m) d b) (get_or L m 0 % ENTRY_STEP) (get_or L m 0 / ENTRY_STEP)

-- the body as it was when the log had m entries, where it has n now
unfoldable pub past : ℕ → ℕ → List ℕ → List ℕ
past m n w = back (entries w) m (n - m) (body w)

-- n entries are there, and the words of the body are small enough for an entry
pub record Logged (n : ℕ) (w : List ℕ) : Type 0 where
  pub room : LOG + n ≤ length w
  pub small : (i : ℕ) → i < LOG → get_or w i 0 < ENTRY_MOST

-- what w' with n' entries remembers of each mark that w with n entries remembers; nothing from WORDS on has changed
pub record Later (n : ℕ) (w : List ℕ) (n' : ℕ) (w' : List ℕ) : Type 0 where
  pub len : length w' ≡ length w
  pub more : n ≤ n'
  pub logged : Logged n' w'
  pub keeps : (m : ℕ) → m ≤ n → past m n' w' ≡ past m n w
  pub rest : (j : ℕ) → WORDS ≤ j → get_or w' j 0 ≡ get_or w j 0

pub record Stores (n : ℕ) (w : List ℕ) (i v r : ℕ) (w' : List ℕ) : Type 0 where
  pub next : r ≡ n + 1
  pub later : Later n w r w'
  pub now : body w' ≡ set (body w) i v
  pub rest : (j : ℕ) → (j ≡ i → ⊥) → (j ≡ LOG + n → ⊥) → get_or w' j 0 ≡ get_or w j 0

pub record Undone (m n : ℕ) (w w' : List ℕ) : Type 0 where
  pub len : length w' ≡ length w
  pub now : body w' ≡ past m n w
  pub log : entries w' ≡ entries w
