-- What the values of the code stand for, and what is so of them between two words.
-- Assumes nothing: these are definitions.
use Rattle.std.specs.Prelude.{List, [], ◌∷◌, ℕ, zero, suc, ◌<◌, ◌≤◌, length, get_or, Option, Some, None}
use Rattle.theory.specs.Limits.{depth_limit}
use Rattle.roles.specs.Faults as F
use Rattle.roles.specs.Faults.{node_count, node_head, arc_feature, arc_target, disjunction_count, alternative_count, the_end, expect}
use Rattle.roles.specs.Coded.{role_of}
use Rattle.roles.specs.declared.cause.Cause.TheVariants.{WordsEnd}
use Rattle.roles.specs.declared.role.Role.{Role}
use Rattle.roles.specs.declared.role.Role.TheVariants.{NodeCount, Head, Feature, Target, DisjunctionCount, AlternativeCount, End}
use Rattle.faults.specs.declared.nesting.Open.{Open}
use Rattle.faults.specs.declared.nesting.Nesting.{Nesting}
use Rattle.faults.specs.declared.nesting.Expected.{Expected}
use Rattle.faults.specs.declared.verdict.Fault.{Fault}

-- how many alternatives follow an open one, and how many disjunctions follow its disjunction
abbrev pub open_one : Open → ℕ × ℕ
open_one x = (x.alternatives, x.disjunctions)

-- the first k of the open alternatives, the innermost first
abbrev pub open_of : List Open → ℕ → F.Nesting
open_of xs zero = []
open_of xs (suc k) = open_one (get_or xs k (record { alternatives = 0; disjunctions = 0 })) ∷ open_of xs k

abbrev pub nesting_of : Nesting → F.Nesting
nesting_of s = open_of s.open s.depth

abbrev pub expected_of : Expected → F.Expected
expected_of e = expect (role_of e.role) (nesting_of e.nesting)

-- the node that is read is one of n, of which at most n are met; alternatives are nested at most four deep, and at most three where a
-- number of alternatives is expected
abbrev pub Bounded : F.Expected → Type 0
Bounded (expect node_count s) = length s ≤ depth_limit
Bounded (expect (node_head n i m) s) = (length s ≤ depth_limit) × (i < n) × (m ≤ n)
Bounded (expect (arc_feature n i m k b) s) = (length s ≤ depth_limit) × (i < n) × (m ≤ n) × (i < m)
Bounded (expect (arc_target n i m k b) s) = (length s ≤ depth_limit) × (i < n) × (m ≤ n) × (i < m)
Bounded (expect disjunction_count s) = length s ≤ depth_limit
Bounded (expect (alternative_count d) s) = length s < depth_limit
Bounded (expect the_end s) = length s ≤ depth_limit

-- the words end here
abbrev pub cut : ℕ → Option Fault
cut p = Some (record { cause = WordsEnd; at = p })

abbrev pub ended_of : Role → ℕ → Option Fault
ended_of NodeCount p = cut p
ended_of (Head g) p = cut p
ended_of (Feature g k b) p = cut p
ended_of (Target g k b) p = cut p
ended_of DisjunctionCount p = cut p
ended_of (AlternativeCount d) p = cut p
ended_of End p = None
