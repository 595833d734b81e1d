-- The bounds of what stands loaded, and its distinct names.
-- Assumes nothing.
use Prim.Native.Nat.{ℕ, ◌≤◌, ◌<◌}
use native.Mathlib.Omega.{arith}
use mathlib.Core.Path.{◌≡◌, ◌∙◌}
use mathlib.Core.List.{List}
use lib.ListN.{length}
use Rattle.modes_by_marks.specs.Names.{Distinct, DistinctAny}
use Rattle.loading.specs.Lying.{Lying, LyingAll, LyingAny}
use Rattle.loading.proofs.Walking.{at_bounds, all_bounds, any_bounds, at_distinct, any_distinct}

-- what stands below a number stands below a greater one
abbrev pub lying_more : {m n : ℕ} {t : List ℕ} {g left : ℕ} → m ≤ n → Lying m t g left → Lying n t g left
lying_more h l = record {
  d = l.d;
  from = l.from;
  end = l.end;
  to = l.to;
  at = l.at;
  low = omega (arith, l.low);
  nests = l.nests;
}

module _ {n : ℕ} {t : List ℕ} {p left : ℕ} where
  -- as many by another name
  abbrev pub any_many : {i j : ℕ} → i ≡ j → LyingAny n t p i left → LyingAny n t p j left
  any_many e l = record {
    a = l.a;
    from = l.from;
    end = l.end;
    to = l.to;
    at = l.at;
    within = l.within;
    low = l.low;
    many = l.many ∙ e;
    nests = l.nests;
  }

  pub bounds_of : (l : Lying n t p left) → (p < l.end) × (l.end ≤ length t) × (l.from < l.to)
  bounds_of l = at_bounds t l.d p l.from l.end l.to l.at

  pub all_bounds_of : {more : ℕ} (l : LyingAll n t p more left) → (p ≤ l.end) × (l.end ≤ length t) × (l.from ≤ l.to)
  all_bounds_of l = all_bounds t l.ds p l.from l.end l.to l.within l.at

  pub any_bounds_of : {count : ℕ} (l : LyingAny n t p count left) → (p ≤ l.end) × (l.end ≤ length t) × (l.from ≤ l.to)
  any_bounds_of l = any_bounds t l.a p l.from l.end l.to l.within l.at

  -- no two names are the same
  pub distinct_of : (l : Lying n t p left) → Distinct l.d
  distinct_of l = at_distinct t l.d p l.from l.end l.to l.at

  pub any_distinct_of : {count : ℕ} (l : LyingAny n t p count left) → DistinctAny l.a
  any_distinct_of l = any_distinct t l.a p l.from l.end l.to l.at
