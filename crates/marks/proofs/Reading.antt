-- What is read of a description that stands loaded.
-- Assumes nothing.
use Prim.Native.Nat.{ℕ, ◌+◌, ◌≤◌, ◌<◌}
use native.Mathlib.Omega.{arith}
use mathlib.Core.Path.{◌≡◌, ap, sym, subst, ◌∙◌}
use mathlib.Core.List.{List}
use lib.ListN.{length, get_or}
use Rattle.theory.specs.Net.{Graph}
use Rattle.area.specs.Map.{SIZE}
use Rattle.area.specs.Region.{loaded_words}
use Rattle.area.proofs.Region.{words_many}
use Rattle.engine.specs.Placed.{Placed, place, Places, ◌also◌, Options, no_more, option}
use Rattle.packing.specs.Packed.{number_step, word_mark}
use Rattle.loading.specs.Loaded.{extent}
use Rattle.loading.specs.Numbered.{places, options}
use Rattle.loading.specs.At.{marked, At, AtAll, AtAny}
use Rattle.loading.specs.Lying.{Lying, LyingAny, mark_of, Here}
use Rattle.loading.proofs.Walking.{at_bounds, any_bounds, at_counts, at_header}
use Rattle.marks.specs.Positions.{number_at, tail_at, mark_at, disjunctions_at, end_at, alternatives_at, after_at}
use Rattle.marks.specs.Readable.{Readable, Alternatives}

-- at p stands a description with this mark, which ends at q
pub record Read (w : List ℕ) (p x q : ℕ) : Type 0 where
  pub here : p < 2048
  pub mark : mark_at w p ≡ x
  pub inside : tail_at w p < 2048
  pub after : after_at w p ≡ q
  pub end : q ≤ 2048

module _ (w : List ℕ) (room : 16384 ≤ length w) where
  module _ (g : Graph) (ds : Places) (p n q m : ℕ) (at : At (loaded_words w) p n (place g ds) q m) (low : m < number_step) where
    pub number_is : number_at w p ≡ n
    unfolding number_at
    number_is = (at_header (loaded_words w) g ds p n q m at low).1

    pub tail_is : tail_at w p ≡ p + extent g
    unfolding tail_at
    tail_is = ap (λ (k : ℕ). p + k) (at_header (loaded_words w) g ds p n q m at low).2

    mark_is : mark_at w p ≡ marked (loaded_words w) p (place g ds)
    unfolding mark_at
    mark_is = ap (λ (k : ℕ). word_mark (get_or (loaded_words w) k 0)) tail_is

    -- the description is within the loaded words
    pub within : (p + extent g < 2048) × (p + extent g < q) × (q ≤ 2048)
    within =
        let many = words_many w room in
        let bounds = at_bounds (loaded_words w) (place g ds) p n q m at in
        let far = bounds.1 in
        let tail = (at_counts (loaded_words w) g ds p n q m at).1 in
        (omega arith, omega arith, omega arith)

    pub disjunctions_is : disjunctions_at w (p + extent g) ≡ places ds
    unfolding disjunctions_at
    disjunctions_is = at.5.0

    pub end_is : end_at w (p + extent g) ≡ q
    unfolding end_at
    end_is = at.5.1

    pub after_is : after_at w p ≡ q
    unfolding after_at
    after_is = ap (end_at w) tail_is ∙ end_is

    pub read_place : Read w p (marked (loaded_words w) p (place g ds)) q
    read_place =
        let e = tail_is in
        let there = within.0 in
        record { here = omega arith; mark = mark_is; inside = omega arith; after = after_is; end = within.2 }

  pub read_at : (d : Placed) (p n q m : ℕ) → At (loaded_words w) p n d q m → m < number_step → Read w p (marked (loaded_words w) p d) q
  read_at (place g ds) p n q m at low = read_place g ds p n q m at low

  -- at an alternative; numbers stay low in it
  pub read_option : (x : ℕ) (d : Placed) (a : Options) (p n q m : ℕ) (o : AtAny (loaded_words w) p n (option x d a) q m) → m < number_step →
      Read w p x o.0 × (o.1 < number_step)
  read_option x d a p n q m o low =
      let bounds = at_bounds (loaded_words w) d p n o.0 o.1 o.3 in
      let more = (any_bounds (loaded_words w) a o.0 o.1 q m bounds.1 o.4).2 in
      let small : o.1 < number_step = omega arith in
      (subst (λ (y : ℕ). Read w p y o.0) o.2 (read_at d p n o.0 o.1 o.3 small), small)

  -- the first of some alternatives
  pub read_first : (a : Options) (p n q m k : ℕ) → AtAny (loaded_words w) p n a q m → m < number_step → options a ≡ k → 0 < k →
      (p < 2048) × (tail_at w p < 2048)
  read_first no_more p n q m k o low many h = absurd (omega arith)
  read_first (option x d a) p n q m k o low many h =
      let r = (read_option x d a p n q m o low).0 in
      (r.here, r.inside)

pub alternatives_is : (w : List ℕ) (a : Options) (ds : Places) (p n q m : ℕ) → AtAll (loaded_words w) p n (a also ds) q m →
    alternatives_at w p ≡ options a
unfolding alternatives_at
alternatives_is w a ds p n q m at = at.3

-- ---- what is readable
-- what stands loaded in words that an area has may be read there
module _ {n : ℕ} {t : List ℕ} (w : List ℕ) (room : SIZE ≤ length w) (loaded : loaded_words w ≡ t) (few : n < number_step) where
  abbrev pub readable : {g left : ℕ} → Lying n t g left → Readable w g left
  readable {g} {left} l = record {
    room = room;
    n = n;
    few = few;
    lies = record {
      d = l.d;
      from = l.from;
      end = l.end;
      to = l.to;
      at = subst (λ (s : List ℕ). At s g l.from l.d l.end l.to) (sym loaded) l.at;
      low = l.low;
      nests = l.nests;
    };
  }

  abbrev pub alternatives : {p count left : ℕ} → LyingAny n t p count left → Alternatives w p count
  alternatives {p} {count} {left} l = record {
    room = room;
    n = n;
    few = few;
    left = left;
    lies = record {
      a = l.a;
      from = l.from;
      end = l.end;
      to = l.to;
      at = subst (λ (s : List ℕ). AtAny s p l.from l.a l.end l.to) (sym loaded) l.at;
      within = subst (λ (s : List ℕ). p ≤ length s) (sym loaded) l.within;
      low = l.low;
      many = l.many;
      nests = l.nests;
    };
  }

module _ {w : List ℕ} {g left : ℕ} (r : Readable w g left) where
  small : r.lies.to < number_step
  small = omega (arith, r.lies.low, r.few)

  pub reads : Read w g (mark_of r.lies) r.lies.end
  reads = read_at w r.room r.lies.d g r.lies.from r.lies.end r.lies.to r.lies.at small

  -- its graph and its disjunctions
  module _ (K : Graph) (ds : Places) (here : Here r.lies (place K ds)) where
    pub tail_of : tail_at w g ≡ g + extent K
    tail_of = tail_is w r.room K ds g r.lies.from r.lies.end r.lies.to here small

    pub disjunctions_of : disjunctions_at w (g + extent K) ≡ places ds
    disjunctions_of = disjunctions_is w r.room K ds g r.lies.from r.lies.end r.lies.to here small

-- what stands loaded in words that an area has, by its mark there
pub reads_lying : {n : ℕ} {t : List ℕ} (w : List ℕ) → SIZE ≤ length w → loaded_words w ≡ t → n < number_step → {g left : ℕ}
    (l : Lying n t g left) → Read w g (mark_of l) l.end
reads_lying {n} {t} w room loaded few {g} {left} l =
    subst (λ (s : List ℕ). Read w g (marked s g l.d) l.end) loaded (reads (readable w room loaded few l))
