-- What comes back from unification, but for the areas.
-- Assumes nothing: these are definitions.
use Rattle.std.proofs.Math.Option.{none, some}
use Rattle.std.specs.Prelude.{List, [], ℕ, length}
use Rattle.descriptions.specs.Descr.{Desc, readings}
use Rattle.descriptions.specs.Modes.{joined}
use Rattle.descriptions.specs.Joining.{Joining}

-- "It returns a number, a length and a count of readings", the node of a clash ("all numbers but 6 carry node 0"), and writes the
-- result's words
pub record Answer : Type 0 where
  pub number : ℕ
  pub extent : ℕ
  pub readings : ℕ
  pub node : ℕ
  pub result : List ℕ

abbrev pub refuse : ℕ → Answer
refuse n = record { number = n; extent = 0; readings = 0; node = 0; result = [] }

-- "6 definite graphs clash, with the node"
abbrev pub clash_at : ℕ → Answer
clash_at i = record { number = 6; extent = 0; readings = 0; node = i; result = [] }

-- "8 | result longer than the result area | words needed | 0"
abbrev pub no_room : ℕ → Answer
no_room n = record { number = 8; extent = n; readings = 0; node = 0; result = [] }

-- "0 | otherwise | words written | mode 2: consistent choices of the joined description; else 0"
abbrev pub success : ℕ → List ℕ → Answer
success r ws = record { number = 0; extent = length ws; readings = r; node = 0; result = ws }

module _ {Graph : Type 0} (J : Joining Graph) where
  -- "mode 2: consistent choices of the joined description"
  unfoldable pub consistent : Desc Graph → Desc Graph → ℕ
  consistent d e = elim (joined J d e) [ none ↦ 0 | some j ↦ readings J j ]
