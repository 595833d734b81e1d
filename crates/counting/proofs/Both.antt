-- The choices of both inputs together are those of the joined description.
-- Assumes nothing.
use Prim.Native.Nat.{ℕ, ◌*◌, ◌≤◌, min}
use native.Mathlib.Omega.{arith}
use mathlib.Core.Path.{◌≡◌, sym, ap, ap₂, ◌∙◌}
use mathlib.Core.Option.{Option, none, some}
use mathlib.Core.List.{List, [], ◌∷◌}
use Rattle.theory.specs.Limits.{choice_stop}
use Rattle.theory.specs.Net.{Graph}
use Rattle.theory.specs.Join.{join}
use Rattle.descriptions.proofs.Counting.{cap_one}
use Rattle.area.specs.Map.{SECOND}
use Rattle.engine.specs.Placed.{Placed, place, Places, stop, ◌also◌}
use Rattle.engine.specs.Marks.{Marking}
use Rattle.engine.specs.Beside.{◌next◌, joined_placed}
use Rattle.engine.specs.Counting.{count_at, count_all_at, count_any_at}
use Rattle.marks.specs.Readable.{Readable}
use Rattle.marks.specs.Marked.{marking}
use Rattle.counting.specs.Counted.{Counted, CountedBoth, inner_both}
use Rattle.counting.proofs.Products.{cap_first}
use Rattle.counting.proofs.Descent.{count_small}

count_next : (m : Marking) (ds es : Places) →
    count_all_at choice_stop m (ds next es) ≡ min (count_all_at choice_stop m ds * count_all_at choice_stop m es) choice_stop
unfolding count_at
count_next m stop es = let small : count_all_at choice_stop m es ≤ choice_stop = count_small m (place [] es) in omega arith
count_next m (a also ds) es =
    let first = count_any_at choice_stop m a in
    let here = count_all_at choice_stop m ds in
    let there = count_all_at choice_stop m es in
    ap (λ (k : ℕ). min (first * k) choice_stop) (count_next m ds es) ∙ cap_one choice_stop first (here * there)
    ∙ cap_first choice_stop first here there

count_beside : (m : Marking) (d e : Placed) →
    count_all_at choice_stop m (inner_both d e) ≡ min (count_at choice_stop m d * count_at choice_stop m e) choice_stop
unfolding count_at
count_beside m (place g ds) (place h es) = count_next m ds es

pub counted_both : (w : List ℕ) (left x y r : ℕ) → Counted w 0 left x → Counted w SECOND left y → r ≡ min (x * y) choice_stop →
    CountedBoth w left r
counted_both w left x y r first second is c e = is ∙ ap₂ {C = ℕ} (λ (a b : ℕ). min (a * b) choice_stop) (first.is c) (second.is e)
    ∙ sym (count_beside _ c.lies.d e.lies.d)

count_joined : (m : Marking) (d e j : Placed) → joined_placed d e ≡ some j →
    count_all_at choice_stop m (inner_both d e) ≡ count_at choice_stop m j
unfolding count_at
count_joined m (place g ds) (place h es) j is = go (join (g ∷ h ∷ [])) is
  where
    go : (o : Option Graph) → ◌≡◌ {A = Option Placed} (elim o [ none ↦ none | some k ↦ some (place k (ds next es)) ]) (some j) →
        count_all_at choice_stop m (ds next es) ≡ count_at choice_stop m j
    go none e = let z : ◌≡◌ {A = ℕ} 0 1 = cc in absurd (omega arith)
    go (some k) e = let same : place k (ds next es) ≡ j = cc in ap (count_at choice_stop m) same

-- what both come to is counted over the description that joins them
pub counted_joined : (w : List ℕ) (left r : ℕ) → CountedBoth w left r →
    (c : Readable w 0 left) (e : Readable w SECOND left) (j : Placed) → joined_placed c.lies.d e.lies.d ≡ some j →
    r ≡ count_at choice_stop (marking w) j
counted_joined w left r counted c e j is = counted c e ∙ count_joined (marking w) c.lies.d e.lies.d j is
