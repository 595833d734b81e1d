-- Signs marked and gone through by computation.
-- Assumes nothing.
use mathlib.Core.Path.{◌≡◌, refl}
use mathlib.Core.Bool.{true, false}
use mathlib.Core.List.{[], ◌∷◌}
use Prim.Native.Nat.{ℕ}
use Rattle.rows.specs.Tokens.{flagging, unmarked}
use Rattle.rows.specs.Machine.{Alt, ◌then◌, emit, first_given, first_core, first_pen}

abbrev alternative : ℕ → ℕ → ℕ → ℕ → Alt
alternative o g s d = record { owner = o; group = g; spot = s; depth = d }

-- `f1:(a10|a11)`: the group is marked
pub marked_group : flagging ((102, 1) ∷ (58, 0) ∷ (40, 0) ∷ (97, 10) ∷ (124, 0) ∷ (97, 11) ∷ (41, 0) ∷ []) unmarked
    ≡ record { done = (102, 1) ∷ (58, 0) ∷ (40, 1) ∷ (97, 10) ∷ (124, 0) ∷ (97, 11) ∷ (41, 0) ∷ []; flags = false ∷ [] }
marked_group = refl

-- its arc is the whole's, each atom that of its alternative, both of which stand at the arc's spot
pub group_given : first_given false then emit ((102, 1) ∷ (58, 0) ∷ (40, 1) ∷ (97, 10) ∷ (124, 0) ∷ (97, 11) ∷ (41, 0) ∷ [])
    (first_core false) first_pen
    ≡ record {
      arcs = (0, (0, 1, 1)) ∷ [];
      bears = (1, (1, 10)) ∷ (2, (1, 11)) ∷ [];
      shares = [];
      alts = alternative 0 1 1 1 ∷ alternative 0 1 1 1 ∷ [];
    }
group_given = refl

-- `TOP|[<f1>,<f2f3>]&(a1|a2)`: the alternatives of the second stand in it, and its arcs are its own
pub nested_given :
    first_given true
    then emit ((80, 0) ∷ (124, 0) ∷ (91, 0) ∷ (60, 0) ∷ (102, 1) ∷ (62, 0) ∷ (44, 0) ∷ (60, 0) ∷ (102, 2) ∷ (102, 3) ∷ (62, 0) ∷ (93, 0)
    ∷ (38, 0) ∷ (40, 1) ∷ (97, 1) ∷ (124, 0) ∷ (97, 2) ∷ (41, 0) ∷ []) (first_core true) first_pen
    ≡ record {
      arcs = (2, (0, 1, 1)) ∷ (2, (0, 2, 2)) ∷ (2, (2, 3, 3)) ∷ [];
      bears = (1, (0, 0)) ∷ (1, (0, 1)) ∷ (3, (0, 1)) ∷ (4, (0, 2)) ∷ [];
      shares = (2, (1, 3)) ∷ [];
      alts = alternative 0 1 0 1 ∷ alternative 0 1 0 1 ∷ alternative 2 3 0 2 ∷ alternative 2 3 0 2 ∷ [];
    }
nested_given = refl
