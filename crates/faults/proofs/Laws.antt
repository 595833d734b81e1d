-- What the functions cite: how deep alternatives are open, and what is so of a role that a match has told.
-- Assumes nothing.
use mathlib.Core.Path.{◌≡◌, refl, ap, subst}
use mathlib.Core.List.{List}
use Prim.Native.Nat.{ℕ, zero, suc}
use lib.ListN.{length}
use Rattle.roles.specs.Faults as F
use Rattle.roles.specs.Faults.{expect}
use Rattle.roles.specs.Coded.{role_of}
use Rattle.faults.specs.Coded.{open_of, nesting_of, Bounded}
use Rattle.faults.specs.declared.nesting.Open.{Open}
use Rattle.faults.specs.declared.nesting.Nesting.{Nesting}
use Rattle.roles.specs.declared.role.Role.{Role}

open_depth : (xs : List Open) (k : ℕ) → length (open_of xs k) ≡ k
open_depth xs zero = refl
open_depth xs (suc k) = ap suc (open_depth xs k)

pub nesting_depth : (s : Nesting) → length (nesting_of s) ≡ s.depth
nesting_depth s = open_depth s.open s.depth

pub bounded_told : (s : F.Nesting) {r t : Role} → r ≡ t → Bounded (expect (role_of r) s) → Bounded (expect (role_of t) s)
bounded_told s e h = subst (λ (x : Role). Bounded (expect (role_of x) s)) e h
