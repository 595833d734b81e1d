-- The marks in the working area: which alternatives are kept, by the numbers that loading gave them.
-- Assumes nothing: these are definitions.
use Rattle.std.specs.Prelude.{ℕ, ◌+◌, ◌≤◌, ◌<◌, ◌≡◌, ◌⊎◌, true, false, not, ◌||◌, List, eqb, length, get_or}
use Rattle.area.specs.Map.{MARKS, RESULT, NODES}
use Rattle.area.specs.Region.{region}
use Rattle.engine.specs.Marks.{Marking, all_kept, drop}

-- a mark of 1 means dropped, any other kept; there are 1,024
unfoldable pub marking : List ℕ → Marking
marking w x = not (eqb (get_or (region MARKS NODES w) x 0) 1)

-- a mark of 2 means found, that is, kept and in a consistent choice
unfoldable pub lights : List ℕ → Marking
lights w x = eqb (get_or (region MARKS NODES w) x 0) 2

-- w' is w with the alternative x dropped, and no other word changed
pub record Dropped (w : List ℕ) (x : ℕ) (w' : List ℕ) : Type 0 where
  pub len : length w' ≡ length w
  pub marks : marking w' ≡ drop x (marking w)
  pub rest : (j : ℕ) → (j ≡ MARKS + x → ⊥) → get_or w' j 0 ≡ get_or w j 0

-- w' is w with all kept, and no word but marks changed
pub record Cleared (w w' : List ℕ) : Type 0 where
  pub len : length w' ≡ length w
  pub marks : marking w' ≡ all_kept
  pub zero : (x : ℕ) → x < NODES → get_or w' (MARKS + x) 0 ≡ 0
  pub rest : (j : ℕ) → (j < MARKS) ⊎ (RESULT ≤ j) → get_or w' j 0 ≡ get_or w j 0

-- w' is w with the kept alternative x found, and no other word changed
pub record Lighted (w : List ℕ) (x : ℕ) (w' : List ℕ) : Type 0 where
  pub len : length w' ≡ length w
  pub found : (y : ℕ) → lights w' y ≡ (lights w y || eqb y x)
  pub marks : marking w x ≡ true → marking w' ≡ marking w
  pub rest : (j : ℕ) → (j ≡ MARKS + x → ⊥) → get_or w' j 0 ≡ get_or w j 0

-- w' is w where each mark below n has become what P says, and no other word changed
pub record Changed (P : ℕ → ℕ → Type 0) (n : ℕ) (w w' : List ℕ) : Type 0 where
  pub len : length w' ≡ length w
  pub each : (x : ℕ) → x < n → P (get_or w (MARKS + x) 0) (get_or w' (MARKS + x) 0)
  pub rest : (j : ℕ) → (j < MARKS) ⊎ (MARKS + n ≤ j) → get_or w' j 0 ≡ get_or w j 0

-- the mark of an alternative once only those found are kept
unfoldable pub dimmed : ℕ → ℕ
dimmed v = elim (eqb v 2) [ true ↦ 2 | false ↦ 1 ]

-- w' is w where of the alternatives below n only those found are kept, and no other word changed
pub record LitKept (w : List ℕ) (n : ℕ) (w' : List ℕ) : Type 0 where
  pub len : length w' ≡ length w
  pub marks : (y : ℕ) → y < n → marking w' y ≡ lights w y
  pub rest : (j : ℕ) → (j < MARKS) ⊎ (MARKS + n ≤ j) → get_or w' j 0 ≡ get_or w j 0

-- the mark of an alternative once none is found
unfoldable pub doused : ℕ → ℕ
doused v = elim (eqb v 1) [ true ↦ 1 | false ↦ 0 ]

-- w' is w where none is found, and no word but marks changed
pub record Doused (w w' : List ℕ) : Type 0 where
  pub len : length w' ≡ length w
  pub marks : marking w' ≡ marking w
  pub dark : (y : ℕ) → lights w' y ≡ false
  pub rest : (j : ℕ) → (j < MARKS) ⊎ (RESULT ≤ j) → get_or w' j 0 ≡ get_or w j 0
