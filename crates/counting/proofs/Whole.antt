-- What counting answers for an input that is well formed and loaded, while every alternative is kept.
-- Assumes nothing.
use Prim.Native.Nat.{ℕ, zero, suc, ◌+◌, ◌-◌, ◌≤◌, ◌<◌, min}
use native.Mathlib.Omega.{arith}
use mathlib.Core.Path.{◌≡◌, sym, ap, ◌∙◌}
use mathlib.Core.List.{List}
use lib.Dec.{ltb}
use lib.ListN.{length}
use Rattle.theory.specs.Limits.{choice_limit, choice_stop}
use Rattle.theory.specs.Descr.{Desc, desc, Disjs, end, ◌and◌, Alts, fail, ◌or◌, alts, number, capped}
use Rattle.theory.specs.Layout.{WellFormed, WellAll, WellAny}
use Rattle.descriptions.proofs.Counting.{capped_number, over_limit}
use Rattle.area.specs.Region.{loaded_words}
use Rattle.engine.specs.Placed.{strip}
use Rattle.engine.specs.Marks.{Marking, all_kept}
use Rattle.engine.specs.Counting.{count_at}
use Rattle.modes_by_marks.proofs.Marks.{keep_all_marked}
use Rattle.modes_by_marks.proofs.Counting.{count_left}
use Rattle.packing.specs.Packed.{number_step}
use Rattle.loading.specs.Loaded.{alts_in, alts_any}
use Rattle.loading.specs.Numbered.{numbered, numbered_all, numbered_any}
use Rattle.loading.specs.At.{At}
use Rattle.loading.proofs.Names.{numbered_strip}
use Rattle.marks.specs.Readable.{Readable}
use Rattle.marks.specs.Marked.{marking}
use Rattle.loading.specs.Nesting.{Nests, NestsAll, NestsAny}
use Rattle.counting.specs.Counted.{Counted}

-- a description nests as deep as its words may
mutual
  pub well_nests : (d : Desc) (y left : ℕ) → WellFormed d left → Nests (numbered y d) left
  well_nests (desc g ds) y left f = well_nests_all ds y left f.2

  well_nests_all : (ds : Disjs) (y left : ℕ) → WellAll ds left → NestsAll (numbered_all y ds) left
  well_nests_all end y left f = tt
  well_nests_all (a and ds) y zero f = absurd f
  well_nests_all (a and ds) y (suc left) f = let same : suc left - 1 ≡ left = omega arith in (
    omega arith,
    rw same (well_nests_any a y (y + alts a) left f.1),
    well_nests_all ds (y + (alts a + alts_any a)) (suc left) f.2,
  )

  well_nests_any : (a : Alts) (x y left : ℕ) → WellAny a left → NestsAny (numbered_any x y a) left
  well_nests_any fail x y left f = tt
  well_nests_any (d or a) x y left f = (well_nests d y left f.0, well_nests_any a (x + 1) (y + alts_in d) left f.1)

-- where every alternative is kept, what is counted is the number of choices
pub count_every : (d : Desc) (y : ℕ) → count_at choice_stop all_kept (numbered y d) ≡ capped d
count_every d y = count_left (numbered y d) choice_stop (omega arith) all_kept
    ∙ ap (λ (e : Desc). min (number e) choice_stop) (ap strip (keep_all_marked (numbered y d)) ∙ numbered_strip y d) ∙ sym (capped_number d)

module _ (w : List ℕ) (room : 16384 ≤ length w) (d : Desc) (p n y q m left : ℕ) (fine : WellFormed d left)
    (at : At (loaded_words w) p n (numbered y d) q m) (low : m < number_step) where
  -- such an input may be read
  abbrev pub loaded_readable : Readable w p left
  loaded_readable = record {
    room = room;
    n = m;
    few = low;
    lies = record { d = numbered y d; from = n; end = q; to = m; at = at; low = omega arith; nests = well_nests d y left fine };
  }

  module _ (every : marking w ≡ all_kept) (r : ℕ) (counted : Counted w p left r) where
    pub counted_every : r ≡ capped d
    counted_every = counted.is loaded_readable ∙ ap (λ (k : Marking). count_at choice_stop k (numbered y d)) every ∙ count_every d y

    -- the answer is over 4,096 exactly when there are so many choices
    pub over_every : ltb choice_limit r ≡ ltb choice_limit (number d)
    over_every = ap (ltb choice_limit) counted_every ∙ over_limit d
