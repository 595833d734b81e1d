-- A node that is a class by itself goes under a class with the lower number. Assumes nothing.
use mathlib.Core.Path.{◌≡◌, ap}
use mathlib.Core.Logic.{inl, inr}
use mathlib.Core.List.{List}
use Prim.Native.Nat.{ℕ, ◌+◌, ◌≤◌, ◌<◌}
use native.Mathlib.Omega.{arith}
use native.Mathlib.Decide.{ℕ_discrete}
use lib.ListN.{length, get_or}
use Rattle.area.specs.Map.{HELD, PARENT, SIZE}
use Rattle.forest.specs.declared.held.Held.TheVariants.{Nothing}
use Rattle.forest.specs.Held.{held, held_by}
use Rattle.forest.specs.Forest.{parents, size_of, Root}
use Rattle.forest.specs.Roots.{GoesUnder, Fusing, ByItself}
use Rattle.forest.proofs.Parents.{length_parents, getD_parents}

pub held_none : (w : List ℕ) (y : ℕ) → get_or w (HELD + y) 0 ≡ 0 → held_by w y ≡ Nothing
unfolding held_by held
held_none w y e = ap held e

module _ (n : ℕ) (w : List ℕ) (hn : n ≤ 1024) (hw : SIZE ≤ length w) (y : ℕ) (hy : y < n) (t : ByItself w y) where
  top : get_or (parents n w) y 0 ≡ y
  top = let e = getD_parents n w y hy in let o = t.own in omega arith

  -- it is its own root
  pub itself_root : Root n w y y
  itself_root = record {
    low = hy;
    top = top;
    is = λ L f. let l = length_parents n w (omega arith) in f.tops y (omega arith) top;
  }

  module _ (x a : ℕ) (p : Root n w x a) (less : a < y) where
    lighter : GoesUnder w y a
    lighter = go (ℕ_discrete (size_of (get_or w (PARENT + a) 0)) 1)
      where
        go : Dec (size_of (get_or w (PARENT + a) 0) ≡ 1) → GoesUnder w y a
        go (yes e) = let o = t.own in inr (omega arith, less)
        go (no z) = let o = t.own in inl (omega arith)

    pub itself_fusing : Fusing n w a y
    itself_fusing = record {
      low_a = p.low;
      low_b = hy;
      other = λ e. omega arith;
      top_a = p.top;
      top_b = top;
      lighter = lighter;
    }
