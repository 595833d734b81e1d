-- Alternatives of which exactly one is kept: it may be entered, and what is then pushed is what is taken of all.
-- Assumes nothing.
use Prim.Native.Nat.{ℕ}
use mathlib.Core.Path.{◌≡◌, refl, sym, ap}
use mathlib.Core.List.{List, ◌++◌}
use Rattle.area.specs.Region.{loaded_words}
use Rattle.loading.specs.Entry.{Entry}
use Rattle.loading.proofs.Lying.{lying_more}
use Rattle.marks.specs.Marked.{marking}
use Rattle.marks.specs.Readable.{Alternatives}
use Rattle.marks.specs.Tallied.{Tallied}
use Rattle.marks.specs.declared.tally.Remnant.{Remnant}
use Rattle.marks.specs.declared.tally.Remnant.TheVariants.{One}
use Rattle.marks.proofs.Reading.{alternatives}
use Rattle.marks.proofs.Remnant.{kept_alone, alone_at}
use Rattle.entering.specs.Entered.{Entering, entered}
use Rattle.entering.specs.Settled.{Alternating, settled}
use Rattle.entering.proofs.Certain.{free_narrow, LoneOf, lone_alone}

module _ (n k : ℕ) (w : List ℕ) (p count left : ℕ) (c : Alternating n k w p count left) where
  abbrev pub counted : Alternatives w p count
  counted = alternatives w c.s.holds.long c.s.loaded c.s.ground.few c.lies

  module _ (which : Remnant) (after : ℕ) (tally : Tallied w counted which after) (first : ℕ) (one : which ≡ One first) where
    lone : LoneOf (marking w) c.lies c.s.U first
    lone = lone_alone c.s.U (loaded_words w) (marking w) c.lies c.among (kept_alone w counted which after tally first one) first
        (alone_at w counted which after tally first one)

    pub inner : Entering n k w first left
    inner = record {
      es = c.es;
      s = c.s;
      lies = lying_more c.lies.low lone.lies;
      among = lone.among;
      free = free_narrow c.lies.from c.lies.to lone.lies.from lone.lies.to c.es lone.low lone.lies.low
          c.free;
    }

    pub inner_entered : entered inner ≡ settled c
    unfolding inner
    inner_entered = ap (λ (l : List Entry). c.es ++ l) (sym lone.same)

    pub inner_es : inner.es ≡ c.es
    unfolding inner
    inner_es = refl
