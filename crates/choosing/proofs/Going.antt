-- A way through the disjunctions of a description: what is written so far, and what is still to come.
-- Assumes nothing.
use Prim.Native.Nat.{ℕ, zero, suc, ◌+◌, ◌-◌, ◌*◌, ◌/◌, ◌%◌, ◌≤◌, ◌<◌, min}
use native.Mathlib.Omega.{arith}
use native.Mathlib.Nat.{mul_comm, mul-div_right, le-mul_of_pos_right}
use mathlib.Core.Path.{◌≡◌, refl, sym, ap, subst, ◌∙◌}
use mathlib.Core.Bool.{Bool}
use mathlib.Core.List.{List, [], ◌++◌, append-nil, append_assoc}
use lib.ListN.{length}
use Rattle.theory.specs.Limits.{choice_limit, choice_stop}
use Rattle.descriptions.specs.Descr.{number, number_all, number_any}
use Rattle.descriptions.specs.Remnant.{remnant}
use Rattle.area.specs.Region.{loaded_words}
use Rattle.area.proofs.Region.{words_many}
use Rattle.engine.specs.Placed.{Placed, place, Places, stop, ◌also◌, Options, strip, strip_all, strip_any}
use Rattle.engine.specs.Marks.{Marking, kept_of, keep, keep_all, keep_any}
use Rattle.packing.specs.Packed.{number_step}
use Rattle.loading.specs.Loaded.{extent}
use Rattle.loading.specs.Numbered.{places}
use Rattle.loading.specs.Nesting.{Nests, NestsAll}
use Rattle.loading.specs.At.{At, AtAll}
use Rattle.loading.specs.Lying.{Here, LyingAny}
use Rattle.loading.proofs.Walking.{all_bounds, any_bounds}
use Rattle.marks.specs.Positions.{tail_at, disjunctions_at, alternatives_at}
use Rattle.marks.specs.Readable.{Alternatives}
use Rattle.marks.specs.Marked.{marking}
use Rattle.marks.specs.Tallied.{remnant_of, Tallied}
use Rattle.marks.specs.declared.tally.Remnant.{Remnant}
use Rattle.marks.proofs.Reading.{reads_lying, tail_is, disjunctions_is, alternatives_is, alternatives}
use Rattle.choosing.specs.Ways.{Take, beside_other, way_in, way_all, way_any, way_of, words_of}
use Rattle.choosing.specs.Told.{told_beside}
use Rattle.choosing.specs.Chosen.{Written, Beyond, Summing, Sums, ChoosingIn, Picking, Picks}
use Rattle.choosing.proofs.Numbers.{rises_few, any_rises}
use Rattle.choosing.proofs.Nth.{some_rest}
use Rattle.choosing.proofs.Frames.{beyond_trans, beyond_room, beyond_words, beyond_marks, written_none, written_long, written_append}

-- both factors of a small product that is not 0 are small and not 0
pub factors : (x y r : ℕ) → x * y ≡ r → 0 < r → (0 < x) × (0 < y) × (x ≤ r) × (y ≤ r)
factors x y r e h =
    let b : 0 < y = some_rest 0 x y (omega arith) in
    let a : 0 < x = some_rest 0 y x (omega (arith, mul_comm x y)) in
    (a, b, omega (arith, le-mul_of_pos_right x b), omega (arith, le-mul_of_pos_right y a, mul_comm x y))

-- what stands beside an alternative is told as it is
beside_told : (l first : ℕ) (new : Bool) → told_beside (remnant_of l first) new ≡ beside_other (remnant l) new
unfolding remnant_of
beside_told zero first new = refl
beside_told (suc zero) first new = refl
beside_told (suc (suc l)) first new = refl

-- the graph and its closing word
pub going_starts : {w : List ℕ} {g left total at : ℕ} → ChoosingIn w g left total at → (g < 2048) × (tail_at w g < 2048)
going_starts {w} k = let r = reads_lying w k.room k.loaded k.few k.lies in (r.here, r.inside)

module _ {w₀ : List ℕ} {g left total at : ℕ} (k : ChoosingIn w₀ g left total at) (c : ℕ) (new : Bool) where
  abbrev m : Marking
  m = marking w₀

  -- `more` disjunctions are still to come, from p on, of which `rest` choices are kept; the way through them has the number `index`
  pub record Going (more p rest index to : ℕ) (w : List ℕ) : Type 0 where
    pub ds : Places
    pub l : ℕ
    pub stand : AtAll k.t p l ds k.lies.end k.lies.to
    pub within : p ≤ length k.t
    pub many : places ds ≡ more
    pub nests : NestsAll ds left
    pub all : number_all (strip_all (keep_all (marking w₀) ds)) ≡ rest
    pub some : 0 < rest
    pub most : rest ≤ choice_limit
    pub fits : to ≤ l
    pub done : List Take
    pub is : way_of (marking w₀) new k.lies c
        ≡ done ++ way_all k.t (marking w₀) new p l ds k.lies.end k.lies.to stand index
    pub writes : Written w at (words_of done) to

  pub going_all : (e more : ℕ) → e ≡ tail_at w₀ g → more ≡ disjunctions_at w₀ e → Going more (e + 1) total c at w₀
  unfolding number
  going_all e more f h = go k.lies.d k.lies.at k.lies.nests k.all refl
    where
      go : (d : Placed) (s : Here k.lies d) → Nests d left → number (strip (keep m d)) ≡ total →
          way_of m new k.lies c ≡ way_in k.t m new g k.lies.from d k.lies.end k.lies.to s c →
          Going more (e + 1) total c at w₀
      go (place K ds) s nests all is =
          let low : k.lies.to < number_step = omega (arith, k.lies.low, k.few) in
          let here : At (loaded_words w₀) g k.lies.from (place K ds) k.lies.end k.lies.to =
          subst (λ (t : List ℕ). At t g k.lies.from (place K ds) k.lies.end k.lies.to) (sym k.loaded) s in
          let tail : e ≡ g + extent K = f ∙ tail_is w₀ k.room K ds g k.lies.from k.lies.end k.lies.to here low in
          let room = s.4 in
          let some = s.0 in
          let fits = k.fits in
          subst (λ (j : ℕ). Going more (j + 1) total c at w₀) (sym tail) (record {
            ds = ds;
            l = k.lies.from + length K;
            stand = s.6;
            within = omega arith;
            many = sym (h ∙ ap (disjunctions_at w₀) tail
                ∙ disjunctions_is w₀ k.room K ds g k.lies.from k.lies.end k.lies.to here low);
            nests = nests;
            all = all;
            some = k.some;
            most = k.most;
            fits = omega arith;
            done = [];
            is = is;
            writes = written_none w₀ at;
          })

  module _ {more p rest index to : ℕ} {w : List ℕ} (s : Going more p rest index to w) where
    pub going_none : more ≤ 0 → Written w at (words_of (way_of (marking w₀) new k.lies c)) to
    going_none h = go s.ds s.stand s.many s.is
      where
        go : (ds : Places) (o : AtAll k.t p s.l ds k.lies.end k.lies.to) → places ds ≡ more →
            way_of m new k.lies c ≡ s.done ++ way_all k.t m new p s.l ds k.lies.end k.lies.to o index →
            Written w at (words_of (way_of m new k.lies c)) to
        go stop o many is = subst (λ (ks : List Take). Written w at (words_of ks) to) (sym (is ∙ append-nil s.done)) s.writes
        go (a also ds) o many is = absurd (omega arith)

    pub going_up : at ≤ to
    going_up = omega (arith, written_long w at s.done to s.writes)

    module _ (beyond : Beyond w₀ at w) (h : 0 < more) where
      room : 16384 ≤ length w
      room = beyond_room w₀ at w k.room beyond

      loaded : loaded_words w ≡ k.t
      loaded = beyond_words w₀ at w k.room beyond ∙ k.loaded

      marks : marking w ≡ m
      marks = beyond_marks w₀ at w k.room beyond

      -- the next disjunction
      record Next : Type 0 where
        a : Options
        ds : Places
        o : AtAll k.t p s.l (a also ds) k.lies.end k.lies.to
        many : places ds + 1 ≡ more
        nests : NestsAll (a also ds) left
        all : number_any (strip_any (keep_any (marking w₀) a)) * number_all (strip_all (keep_all (marking w₀) ds)) ≡ rest
        is : way_of (marking w₀) new k.lies c
            ≡ s.done ++ way_all k.t (marking w₀) new p s.l (a also ds) k.lies.end k.lies.to o index

      next : Next
      unfolding number
      next = go s.ds s.stand s.many s.nests s.all s.is
        where
          go : (ds : Places) (o : AtAll k.t p s.l ds k.lies.end k.lies.to) → places ds ≡ more → NestsAll ds left →
              number_all (strip_all (keep_all m ds)) ≡ rest →
              way_of m new k.lies c ≡ s.done ++ way_all k.t m new p s.l ds k.lies.end k.lies.to o index → Next
          go stop o many nests all is = absurd (omega arith)
          go (a also ds) o many nests all is = record { a = a; ds = ds; o = o; many = omega arith; nests = nests; all = all; is = is }

      pub going_here : (p < 2048) × (16384 ≤ length w)
      going_here = (omega (arith, next.o.2, ap length k.loaded, words_many w₀ k.room), room)

      pub going_deep : 0 < left
      going_deep = next.nests.0

      module _ {count : ℕ} (counts : count ≡ alternatives_at w p) where
        bounds : (p + 1 ≤ next.o.0) × (next.o.0 ≤ length k.t) × (s.l ≤ next.o.1)
        bounds = let there = next.o.2 in
            any_bounds k.t next.a (p + 1) s.l next.o.0 next.o.1 (omega arith) next.o.4

        abbrev lies : LyingAny k.n k.t (p + 1) count (left - 1)
        lies = record {
          a = next.a;
          from = s.l;
          end = next.o.0;
          to = next.o.1;
          at = next.o.4;
          within = (let there = next.o.2 in omega arith);
          low = omega (
            arith,
            k.lies.low,
            (all_bounds k.t next.ds next.o.0 next.o.1 k.lies.end k.lies.to bounds.1 next.o.5).2,
          );
          many = sym (counts ∙ alternatives_is w next.a next.ds p s.l k.lies.end k.lies.to
              (subst (λ (t : List ℕ). AtAll t p s.l (next.a also next.ds) k.lies.end k.lies.to) (sym loaded) next.o));
          nests = next.nests.1;
        }

        abbrev told : Alternatives w (p + 1) count
        told = alternatives w room loaded k.few lies

        pub going_told : Alternatives w (p + 1) count
        going_told = told

        abbrev sums : Summing w (p + 1) count (left - 1)
        sums = record { room = room; t = k.t; loaded = loaded; n = k.n; few = k.few; lies = lies }

        pub going_sums : Summing w (p + 1) count (left - 1)
        going_sums = sums

        module _ {sum : ℕ} (summed : Sums w (p + 1) count (left - 1) sum) where
          abbrev here : ℕ
          here = number_any (strip_any (keep_any m next.a))

          abbrev later : ℕ
          later = number_all (strip_all (keep_all m next.ds))

          parts : (0 < here) × (0 < later) × (here ≤ rest) × (later ≤ rest)
          parts = factors here later rest next.all s.some

          -- the sum did not stop
          sum_is : sum ≡ here
          sum_is =
              let e : sum ≡ min (number_any (strip_any (keep_any m next.a))) choice_stop = summed.is sums
              ∙ ap (λ (z : Marking). min (number_any (strip_any (keep_any z next.a))) choice_stop) marks in
              omega (arith, parts.2, s.most)

          pub going_some : 0 < sum
          going_some = omega (arith, sum_is, parts.0)

          module _ (rest' : ℕ) (divided : rest' ≡ rest / sum) where
            rest_is : rest' ≡ later
            rest_is = divided ∙ ap (λ (z : ℕ). rest / z) sum_is ∙ ap (λ (z : ℕ). z / here) (sym next.all)
                ∙ mul-div_right later parts.0

            pub going_rest : 0 < rest'
            going_rest = omega (arith, rest_is, parts.1)

            few : number_any (strip_any (keep_any m next.a)) ≤ choice_limit
            few = omega (arith, parts.2, s.most)

            abbrev picking : Picking w (p + 1) count (left - 1) to
            picking = record {
              sums = sums;
              most = subst (λ (z : Marking). number_any (strip_any (keep_any z next.a)) ≤ choice_limit) (sym marks) few;
              fits = s.fits;
            }

            pub going_asks : Picking w (p + 1) count (left - 1) to
            going_asks = picking

            module _ {which : Remnant} {after : ℕ} (tallied : (r : Alternatives w (p + 1) count) → Tallied w r which after) {beside : Bool}
                (tells : beside ≡ told_beside which new) {to' : ℕ} {w' : List ℕ}
                (u : Picks w (p + 1) count (left - 1) (index / rest') beside to to' w') where
              pub going_beyond : Beyond w₀ at w'
              going_beyond = beyond_trans w₀ at w to w' going_up beyond u.beyond

              -- the ways through this disjunction
              abbrev way_at : Marking → Bool → ℕ → List Take
              way_at z b i = way_any k.t z b (p + 1) s.l next.a next.o.0 next.o.1 next.o.4 i

              abbrev besides : Bool
              besides = beside_other (remnant (kept_of m next.a)) new

              abbrev ks : List Take
              ks = way_at m besides (index / later)

              -- the ways through the disjunctions after it
              abbrev others : ℕ → List Take
              others i = way_all k.t m new next.o.0 next.o.1 next.ds k.lies.end k.lies.to next.o.5 i

              beside_is : beside ≡ besides
              beside_is = tells ∙ ap (λ (z : Remnant). told_beside z new) (tallied told).remnant_is
                  ∙ beside_told (kept_of (marking w) next.a) (tallied told).first new
                  ∙ ap (λ (z : Marking). beside_other (remnant (kept_of z next.a)) new) marks

              written : Written w' to (words_of ks) to'
              written =
                  let e : way_at (marking w) beside (index / rest') ≡ ks = ap (λ (z : Marking). way_at z beside (index / rest')) marks
                  ∙ ap (λ (b : Bool). way_at m b (index / rest')) beside_is ∙ ap (λ (z : ℕ). way_at m besides (index / z)) rest_is in
                  subst (λ (os : List Take). Written w' to (words_of os) to') e (u.writes picking)

              fitting : to' ≤ next.o.1
              fitting =
                  let there = next.o.2 in
                  let rises = any_rises k.t m besides (p + 1) s.l next.a next.o.0 next.o.1 (omega arith) next.o.4
                  (index / later) in
                  omega (arith, s.fits, written_long w' to ks to' written, rises_few s.l next.o.1 ks rises)

              pub going_on : (index' : ℕ) → index' ≡ index % rest' → Going (more - 1) after rest' index' to' w'
              going_on index' e = subst (λ (j : ℕ). Going (more - 1) j rest' index' to' w') (sym (tallied told).after_is) (record {
                ds = next.ds;
                l = next.o.1;
                stand = next.o.5;
                within = bounds.1;
                many = omega (arith, next.many);
                nests = next.nests.2;
                all = sym rest_is;
                some = going_rest;
                most = omega (arith, rest_is, parts.3, s.most);
                fits = fitting;
                done = s.done ++ ks;
                is = next.is ∙ sym (append_assoc s.done ks (others (index % later)))
                    ∙ ap (λ (z : ℕ). (s.done ++ ks) ++ others z) (sym (e ∙ ap (λ (z : ℕ). index % z) rest_is));
                writes = written_append w at s.done to w' ks to' room s.writes u.beyond written;
              })
