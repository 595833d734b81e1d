-- What engine's theorems of the whole say of the full step on a pair of inputs.
-- Assumes nothing.
use Prim.Native.Nat.{ℕ, suc, ◌≤◌}
use native.Mathlib.Omega.{arith}
use mathlib.Core.Path.{◌≡◌}
use mathlib.Core.List.{List}
use lib.ListN.{length}
use Rattle.theory.specs.Limits.{choice_stop, choice_limit}
use Rattle.theory.specs.Descr.{number}
use Rattle.theory.specs.Canonical.{Can}
use Rattle.theory.proofs.Counting.{readings_number}
use Rattle.engine.specs.Placed.{strip}
use Rattle.engine.specs.Marks.{Marking, keep}
use Rattle.engine.specs.Quickly.{Leaves}
use Rattle.engine.specs.Counting.{count_at}
use Rattle.engine.specs.Search.{search, lit}
use Rattle.engine.specs.Sane.{Sane}
use Rattle.modes_by_marks.proofs.Counting.{count_left}
use Rattle.engine.proofs.Finding.{search_count}
use Rattle.engine.proofs.Joined.{keep_can}
use Rattle.engine.proofs.Whole.{full_can}
use Rattle.entering.specs.Stage.{Pair}
use Rattle.entering.proofs.Pairs.{first_can, second_can, first_proper, second_proper, first_distinct, second_distinct, both_apart}
use Rattle.entering.proofs.Pairs.{whole_comes}

module _ (n : ℕ) (t : List ℕ) (p : Pair n t) where
  -- what the full step leaves can be folded
  pub pair_full : (m : Marking) → Leaves p.j m → (k : ℕ) → length (search (keep m p.j)) ≡ suc k →
      Can (strip (keep (lit (search (keep m p.j))) p.j)) × Sane (strip (keep (lit (search (keep m p.j))) p.j))
  pair_full m q k e = full_can p.inputs.first.d p.inputs.second.d (first_can n t p) (second_can n t p) (first_proper n t p)
      (second_proper n t p)
      (first_distinct n t p) (second_distinct n t p) (both_apart n t p) p.j p.joined m q k e

  -- where the choices are not too many, nor are the readings
  pub readings_few : (m : Marking) → count_at choice_stop m p.j ≤ choice_limit → length (search (keep m p.j)) ≤ choice_limit
  readings_few m h =
      let e : length (search (keep m p.j)) ≤ number (strip (keep m p.j)) =
      omega (arith, search_count (keep m p.j) (keep_can m p.j (whole_comes n t p).0), readings_number (strip (keep m p.j))) in
      omega (arith, count_left p.j choice_stop (omega arith) m)
