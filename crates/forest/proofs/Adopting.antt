-- A node by itself that went under at once. Assumes nothing.
use mathlib.Core.Path.{refl}
use mathlib.Core.Bool.{false}
use mathlib.Core.List.{List}
use Prim.Native.Nat.{ℕ}
use Rattle.forest.specs.State.{Merged, United}
use Rattle.forest.proofs.Drain.{settle_start, settled_end, united}

-- with no frame nothing is left to do
pub united_at_once : (F T : List ℕ) (n k : ℕ) (w : List ℕ) (x y e : ℕ) (w' : List ℕ) → Merged n k 0 w x y e 0 false w' →
    United F T n k w x y e false w'
united_at_once F T n k w x y e w' m =
    united F T n k w x y e 0 false w' e false w' m refl
    (settled_end F T n e 0 w' e 0 w' (settle_start F T n e 0 w' m.later.logged) refl)
