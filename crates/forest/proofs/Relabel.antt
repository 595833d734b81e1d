-- Labels where one is exchanged for another. Assumes nothing.
use Prim.Native.Nat.{ℕ}
use mathlib.Core.List.{List, map}
use lib.Dec.{eqb}
use Rattle.forest.specs.Labels.{by_test}

unfoldable pub relab : ℕ → ℕ → ℕ → ℕ
relab from to x = by_test (eqb x from) to x

unfoldable pub relabelled : ℕ → ℕ → List ℕ → List ℕ
relabelled from to l = map (relab from to) l
