-- The way through both inputs: that through the first, and then that through the second.
-- Assumes nothing.
use Prim.Native.Nat.{ℕ, ◌+◌, ◌/◌, ◌%◌, ◌≤◌, ◌<◌}
use native.Mathlib.Omega.{arith}
use mathlib.Core.Path.{◌≡◌, refl, sym, ap, subst, ◌∙◌}
use mathlib.Core.Bool.{false}
use mathlib.Core.List.{List}
use lib.ListN.{length}
use Rattle.theory.specs.Limits.{depth_limit, choice_stop}
use Rattle.area.specs.Map.{SECOND}
use Rattle.engine.specs.Marks.{Marking}
use Rattle.modes_by_marks.proofs.Counting.{count_left}
use Rattle.loading.specs.Lying.{Lying}
use Rattle.marks.specs.Readable.{Readable}
use Rattle.marks.specs.Marked.{marking}
use Rattle.marks.proofs.Reading.{readable}
use Rattle.counting.specs.Counted.{Counted}
use Rattle.choosing.specs.Ways.{Take, choices_of, way_of, number_both, way_both, words_of}
use Rattle.choosing.specs.Chosen.{Written, Beyond, ChoosingIn, ChoosesIn, ChoosingBoth}
use Rattle.choosing.proofs.Numbers.{rises_few, of_rises}
use Rattle.choosing.proofs.Frames.{beyond_trans, beyond_room, beyond_words, beyond_marks, written_long, written_append}
use Rattle.choosing.proofs.Going.{factors}

module _ {w : List ℕ} {c : ℕ} (k : ChoosingBoth w c) where
  abbrev m : Marking
  m = marking w

  may_read : {g : ℕ} → Lying k.n k.t g depth_limit → Readable w g depth_limit
  may_read l = readable w k.room k.loaded k.inputs.ground.few l

  pub both_asks : Readable w 0 depth_limit × Readable w SECOND depth_limit
  both_asks = (may_read k.inputs.first, may_read k.inputs.second)

  module _ (x y : ℕ) (first : Counted w 0 depth_limit x) (second : Counted w SECOND depth_limit y) where
    parts : (0 < choices_of m k.inputs.first) × (0 < choices_of m k.inputs.second)
        × (choices_of m k.inputs.first ≤ number_both k.inputs m) × (choices_of m k.inputs.second ≤ number_both k.inputs m)
    unfolding number_both
    parts = factors (choices_of m k.inputs.first) (choices_of m k.inputs.second) (number_both k.inputs m) refl
        (let h = k.below in omega arith)

    -- neither number stopped
    first_is : x ≡ choices_of m k.inputs.first
    unfolding may_read
    first_is =
        let e = first.is (may_read k.inputs.first) in
        let f = count_left k.inputs.first.d choice_stop (omega arith) m in
        omega (arith, parts.2, k.most)

    second_is : y ≡ choices_of m k.inputs.second
    unfolding may_read
    second_is =
        let e = second.is (may_read k.inputs.second) in
        let f = count_left k.inputs.second.d choice_stop (omega arith) m in
        omega (arith, parts.3, k.most)

    pub both_some : 0 < y
    both_some = omega (arith, second_is, parts.1)

    abbrev asks_first : ChoosingIn w 0 depth_limit x 0
    asks_first = record {
      room = k.room;
      t = k.t;
      loaded = k.loaded;
      n = k.n;
      few = k.inputs.ground.few;
      lies = k.inputs.first;
      all = sym first_is;
      some = omega (arith, first_is, parts.0);
      most = omega (arith, first_is, parts.2, k.most);
      fits = omega arith;
    }

    pub both_first : ChoosingIn w 0 depth_limit x 0
    both_first = asks_first

    module _ (to : ℕ) (w₁ : List ℕ) (u : ChoosesIn w 0 depth_limit (c / y) x false 0 to w₁) where
      abbrev before : List Take
      before = way_of m false k.inputs.first (c / choices_of m k.inputs.second)

      written_first : Written w₁ 0 (words_of before) to
      written_first = subst (λ (z : ℕ). Written w₁ 0 (words_of (way_of m false k.inputs.first (c / z))) to) second_is
          (u.writes asks_first)

      room₁ : 16384 ≤ length w₁
      room₁ = beyond_room w 0 w₁ k.room u.beyond

      marks₁ : marking w₁ ≡ m
      marks₁ = beyond_marks w 0 w₁ k.room u.beyond

      abbrev asks_second : ChoosingIn w₁ SECOND depth_limit y to
      asks_second = record {
        room = room₁;
        t = k.t;
        loaded = beyond_words w 0 w₁ k.room u.beyond ∙ k.loaded;
        n = k.n;
        few = k.inputs.ground.few;
        lies = k.inputs.second;
        all = ap (λ (z : Marking). choices_of z k.inputs.second) marks₁ ∙ sym second_is;
        some = both_some;
        most = omega (arith, second_is, parts.3, k.most);
        fits = omega (
          arith,
          written_long w₁ 0 before to written_first,
          k.inputs.apart,
          rises_few (k.inputs.first.from + 1) k.inputs.first.to before
              (of_rises m false k.inputs.first (c / choices_of m k.inputs.second)),
        );
      }

      pub both_second : ChoosingIn w₁ SECOND depth_limit y to
      both_second = asks_second

      module _ (r : ℕ) (w₂ : List ℕ) (v : ChoosesIn w₁ SECOND depth_limit (c % y) y false to r w₂) where
        pub both_beyond : Beyond w 0 w₂
        both_beyond = beyond_trans w 0 w₁ to w₂ (omega arith) u.beyond v.beyond

        pub both_writes : Written w₂ 0 (words_of (way_both k.inputs (marking w) c)) r
        unfolding way_both
        both_writes =
            let after = way_of m false k.inputs.second (c % choices_of m k.inputs.second) in
            written_append w₁ 0 before to w₂ after r room₁ written_first v.beyond
            (subst (λ (z : ℕ). Written w₂ to (words_of (way_of m false k.inputs.second (c % z))) r) second_is
            (subst (λ (z : Marking). Written w₂ to (words_of (way_of z false k.inputs.second (c % y))) r) marks₁
            (v.writes asks_second)))

        pub both_long : r ≡ length (way_both k.inputs (marking w) c)
        both_long = omega (arith, written_long w₂ 0 (way_both k.inputs m c) r both_writes)
