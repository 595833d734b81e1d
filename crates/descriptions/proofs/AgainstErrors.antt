-- Errors that the trade makes, each told from the definitions by a description that is computed.
-- Of 004's figure 4 both are definitions here: "Its nested call tests under the outer condition alone in the first round and under the
-- alternative's own graph alone in later ones; here both count in every round."
-- Assumes nothing.
use mathlib.Core.Path.{◌≡◌, refl}
use mathlib.Core.Bool.{Bool, true, false, ◌&&◌, ◌||◌}
use mathlib.Core.Option.{Option, none, some}
use mathlib.Core.List.{List, [], ◌∷◌}
use Prim.Native.Nat.{ℕ, zero, suc}
use native.Mathlib.Omega.{arith}
use Rattle.descriptions.specs.Joining.{Joining}
use Rattle.descriptions.specs.Descr.{Desc, desc, end, ◌and◌, fail, ◌or◌, agree}
use Rattle.descriptions.specs.Modes.{finish, fold, folded_in, full, joined, prune, round, size, size_all, some_agree, tidy}

module _ {Graph : Type 0} (J : Joining Graph) where
  open J use {join, nil}

  -- the outer condition alone in the first round
  unfoldable pub tidy_outer : ℕ → Graph → Desc Graph → Option (Desc Graph)
  tidy_outer zero c d = some d
  tidy_outer (suc n) c (desc g ds) = elim (join (c ∷ g ∷ [])) [
    | none ↦ none
    | some k ↦ elim (round J (tidy_outer n c) ds) [ none ↦ none | some r ↦ finish J (tidy J n c) g r.left r.folded ]
  ]

  -- the alternative's own graph alone in later rounds
  unfoldable pub tidy_own : ℕ → Graph → Desc Graph → Option (Desc Graph)
  tidy_own zero c d = some d
  tidy_own (suc n) c (desc g ds) = elim (join (c ∷ g ∷ [])) [
    | none ↦ none
    | some k ↦ elim (round J (tidy_own n k) ds) [ none ↦ none | some r ↦ finish J (tidy J n nil) g r.left r.folded ]
  ]

  -- the outermost description tidied as it should be, with t for its nested calls
  unfoldable pub nesting : (ℕ → Graph → Desc Graph → Option (Desc Graph)) → Desc Graph → Option (Desc Graph)
  nesting t (desc g ds) = elim (join (nil ∷ g ∷ [])) [
    | none ↦ none
    | some k ↦ elim (round J (t (size_all ds) k) ds) [ none ↦ none | some r ↦ finish J (tidy J (size_all ds) nil) g r.left r.folded ]
  ]

-- The least kind of graph with such descriptions: three facts, of which any two agree and all three clash.
pub record Facts : Type 0 where
  pub p : Bool
  pub q : Bool
  pub r : Bool

abbrev three : Joining Facts
three = record {
  join = join;
  nil = record { p = false; q = false; r = false };
  ClashNode = λ g h i. i ≡ 0;
  clash_node = λ g h. 0;
}
  where
    all : List Facts → Facts
    all [] = record { p = false; q = false; r = false }
    all (g ∷ gs) = let s = all gs in record { p = g.p || s.p; q = g.q || s.q; r = g.r || s.r }

    fine : Facts → Option Facts
    fine s = elim (s.p && (s.q && s.r)) [ true ↦ none | false ↦ some s ]

    join : List Facts → Option Facts
    join gs = fine (all gs)

abbrev says : Facts → Desc Facts
says g = desc g end

abbrev P : Facts
P = record { p = true; q = false; r = false }

abbrev Q : Facts
Q = record { p = false; q = true; r = false }

abbrev R : Facts
R = record { p = false; q = false; r = true }

abbrev Q_and_R : Facts
Q_and_R = record { p = false; q = true; r = true }

abbrev nothing : Desc Facts
nothing = says three.nil

-- P; and Q with R or nothing, or nothing
abbrev first_round : Desc Facts
first_round = desc P ((desc Q ((says R or nothing or fail) and end) or nothing or fail) and end)

-- R agrees with P, but not with P and Q: it goes, and what is left is folded
pub own_graph_counts : (nesting three (tidy three) first_round ≡ some (desc P ((says Q or nothing or fail) and end)))
    × (nesting three (tidy_outer three) first_round ≡ some first_round)
unfolding nesting tidy_outer size tidy finish
own_graph_counts = (refl, refl)

-- P; and Q or what clashes with P, with R or what clashes with P, or nothing
abbrev later_round : Desc Facts
later_round = desc P ((desc three.nil ((says Q or says Q_and_R or fail) and (says R or says Q_and_R or fail) and end) or nothing or fail)
    and end)

-- Q and R are folded in the first round, and agree; but not under P: the alternative goes, and what is left is folded
pub condition_counts : (nesting three (tidy three) later_round ≡ some (says P))
    × (nesting three (tidy_own three) later_round ≡ some (desc P ((says Q_and_R or nothing or fail) and end)))
unfolding nesting tidy_own size tidy finish
condition_counts = (refl, refl)

-- an alternative that agrees with itself may stand in no consistent choice of the whole
pub whole_counts : full three (desc P ((says Q_and_R or nothing or fail) and end)) nothing ≡ some (says P)
unfolding full joined some_agree prune fold folded_in agree
whole_counts = refl

-- "three disjunctions that agree two by two may not agree together"
pub three_by_three : (full three (desc three.nil ((says P or says P or fail) and (says Q or says Q or fail) and end)) nothing ≡ none → ⊥)
    × (full three (desc three.nil ((says P or says P or fail) and (says Q or says Q or fail) and (says R or says R or fail) and end))
    nothing ≡ none)
unfolding full joined some_agree prune fold folded_in agree
three_by_three = (λ e. let z : ◌≡◌ {A = ℕ} 0 1 = cc in omega arith, refl)
