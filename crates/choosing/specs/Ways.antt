-- The choices of what is kept of both inputs, by their numbers: a way takes one alternative of each disjunction, in the order of the words.
-- Assumes nothing: these are definitions.
use Rattle.std.specs.Prelude.{ℕ, ◌+◌, ◌-◌, ◌*◌, ◌/◌, ◌%◌, Bool, true, false, List, [], ◌∷◌, ◌++◌, ltb, length}
use Rattle.descriptions.specs.Descr.{number, number_all, number_any}
use Rattle.descriptions.specs.Remnant.{Remnant, remnant, nothing, alone, several}
use Rattle.engine.specs.Placed.{Placed, place, Places, stop, ◌also◌, Options, no_more, option, own, strip, strip_all, strip_any}
use Rattle.engine.specs.Marks.{Marking, kept_of, keep, keep_all, keep_any}
use Rattle.area.specs.Map.{LOADED}
use Rattle.loading.specs.Entry.{Entry, entry}
use Rattle.loading.specs.Loaded.{extent}
use Rattle.loading.specs.At.{At, AtAll, AtAny}
use Rattle.loading.specs.Lying.{Lying, LyingAny}
use Rattle.entering.specs.Inputs.{Inputs}

-- an alternative that a choice takes: where it stands, its mark, and whether its graph is not among what is certain
pub record Take : Type 0 where
  pub entry : Entry
  pub mark : ℕ
  pub new : Bool

-- the alternative of which this is the entry and the mark
abbrev pub take_as : Entry → ℕ → Bool → Take
take_as e x new = record { entry = e; mark = x; new = new }

-- an alternative is not among what is certain where it stands inside such a one, or beside another
abbrev pub beside_other : Remnant → Bool → Bool
beside_other nothing new = new
beside_other alone new = new
beside_other several new = true

-- "A choice takes one alternative of each disjunction and, within it, a choice of that alternative": of the kept ones the choice with
-- the number c, the last disjunction turning first
abbrev mutual
  pub way_in : (t : List ℕ) (m : Marking) (new : Bool) (p n : ℕ) (d : Placed) (q r : ℕ) → At t p n d q r → ℕ → List Take
  way_in t m new p n (place g ds) q r at c = way_all t m new (p + extent g + 1) (n + length g) ds q r at.6 c

  pub way_all : (t : List ℕ) (m : Marking) (new : Bool) (p n : ℕ) (ds : Places) (q r : ℕ) → AtAll t p n ds q r → ℕ → List Take
  way_all t m new p n stop q r at c = []
  way_all t m new p n (a also ds) q r at c =
      way_any t m (beside_other (remnant (kept_of m a)) new) (p + 1) n a at.0 at.1 at.4
      (c / number_all (strip_all (keep_all m ds)))
      ++ way_all t m new at.0 at.1 ds q r at.5 (c % number_all (strip_all (keep_all m ds)))

  pub way_any : (t : List ℕ) (m : Marking) (new : Bool) (p n : ℕ) (a : Options) (q r : ℕ) → AtAny t p n a q r → ℕ → List Take
  way_any t m new p n no_more q r at i = []
  way_any t m new p n (option x d a) q r at i =
      elim (m x) [
        | true ↦ elim (ltb i (number (strip (keep m d)))) [
          | true ↦ take_as (entry p n (own d)) x new ∷ way_in t m new p n d at.0 at.1 at.3 i
          | false ↦ way_any t m new at.0 at.1 a q r at.4 (i - number (strip (keep m d)))
        ]
        | false ↦ way_any t m new at.0 at.1 a q r at.4 i
      ]

-- by what stands loaded
module _ {n : ℕ} {t : List ℕ} {p left : ℕ} (m : Marking) (new : Bool) where
  abbrev pub way_of : Lying n t p left → ℕ → List Take
  way_of l c = way_in t m new p l.from l.d l.end l.to l.at c

  abbrev pub way_any_of : {count : ℕ} → LyingAny n t p count left → ℕ → List Take
  way_any_of l i = way_any t m new p l.from l.a l.end l.to l.at i

-- how many choices are kept of what stands loaded
abbrev pub choices_of : {n : ℕ} {t : List ℕ} {p left : ℕ} → Marking → Lying n t p left → ℕ
choices_of m l = number (strip (keep m l.d))

abbrev pub choices_any_of : {n : ℕ} {t : List ℕ} {p count left : ℕ} → Marking → LyingAny n t p count left → ℕ
choices_any_of m l = number_any (strip_any (keep_any m l.a))

module _ {n : ℕ} {t : List ℕ} (i : Inputs n t) (m : Marking) where
  -- and of both inputs together
  unfoldable pub number_both : ℕ
  number_both = choices_of m i.first * choices_of m i.second

  -- the way with the number c through both, where what stands alone is certain
  unfoldable pub way_both : ℕ → List Take
  way_both c = way_of m false i.first (c / choices_of m i.second) ++ way_of m false i.second (c % choices_of m i.second)

-- the marks of what is taken
abbrev pub marks_of : List Take → List ℕ
marks_of [] = []
marks_of (k ∷ ks) = k.mark ∷ marks_of ks

-- the word of one in the working area: its position, and so much more where it is new
abbrev pub new_part : Bool → ℕ
new_part true = LOADED
new_part false = 0

abbrev pub take_word : Take → ℕ
take_word k = k.entry.at + new_part k.new

abbrev pub words_of : List Take → List ℕ
words_of [] = []
words_of (k ∷ ks) = take_word k ∷ words_of ks
