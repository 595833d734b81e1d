-- Counting choices by descent: what is left of a product of sums goes on to the whole.
-- Assumes nothing.
use Prim.Native.Nat.{ℕ, suc, ◌+◌, ◌-◌, ◌*◌, ◌≤◌, ◌<◌, min}
use native.Mathlib.Omega.{arith}
use mathlib.Core.Path.{◌≡◌, refl, sym, subst, ap, ◌∙◌}
use mathlib.Core.Bool.{Bool, true, false}
use mathlib.Core.List.{List}
use lib.ListN.{length}
use Rattle.theory.specs.Limits.{choice_stop}
use Rattle.descriptions.proofs.Counting.{cap_one}
use Rattle.area.specs.Region.{loaded_words}
use Rattle.area.proofs.Region.{words_many}
use Rattle.engine.specs.Placed.{Placed, place, Places, stop, ◌also◌, Options, no_more, option}
use Rattle.engine.specs.Marks.{Marking}
use Rattle.engine.specs.Counting.{count_at, count_all_at, count_any_at}
use Rattle.modes_by_marks.proofs.Counting.{count_left}
use Rattle.packing.specs.Packed.{number_step}
use Rattle.loading.specs.Numbered.{places, options}
use Rattle.loading.specs.At.{AtAll, AtAny}
use Rattle.loading.specs.Lying.{Here}
use Rattle.loading.proofs.Walking.{any_bounds, all_bounds}
use Rattle.marks.specs.Positions.{tail_at, mark_at, disjunctions_at, alternatives_at, after_at}
use Rattle.marks.specs.Readable.{Readable}
use Rattle.marks.specs.Marked.{marking}
use Rattle.marks.proofs.Reading.{reads, tail_of, disjunctions_of, alternatives_is, read_option, read_first}
use Rattle.loading.specs.Nesting.{Nests, NestsAll, NestsAny}
use Rattle.counting.specs.Counted.{Counted}
use Rattle.counting.proofs.Products.{cap_same, cap_first, cap_whole}

any_kept : (m : Marking) (x : ℕ) (d : Placed) (a : Options) → m x ≡ true →
    count_any_at choice_stop m (option x d a) ≡ min (count_at choice_stop m d + count_any_at choice_stop m a) choice_stop
unfolding count_at
any_kept m x d a e = ap (λ (t : Bool). elim t [
  | true ↦ min (count_at choice_stop m d + count_any_at choice_stop m a) choice_stop
  | false ↦ count_any_at choice_stop m a
]) e

any_dropped : (m : Marking) (x : ℕ) (d : Placed) (a : Options) → m x ≡ false →
    count_any_at choice_stop m (option x d a) ≡ count_any_at choice_stop m a
unfolding count_at
any_dropped m x d a e = ap (λ (t : Bool). elim t [
  | true ↦ min (count_at choice_stop m d + count_any_at choice_stop m a) choice_stop
  | false ↦ count_any_at choice_stop m a
]) e

pub count_small : (m : Marking) (d : Placed) → count_at choice_stop m d ≤ choice_stop
count_small m d = omega (arith, count_left d choice_stop (omega arith) m)

module _ (w : List ℕ) (p left : ℕ) (c : Readable w p left) where
  -- `more` disjunctions are still to be counted, from `at` on, after a product of those before
  pub record Multiplying (more at product : ℕ) : Type 0 where
    pub ds : Places
    pub n : ℕ
    pub stand : AtAll (loaded_words w) at n ds c.lies.end c.lies.to
    pub many : places ds ≡ more
    pub nests : NestsAll ds left
    pub total : count_at choice_stop (marking w) c.lies.d ≡ min (product * count_all_at choice_stop (marking w) ds) choice_stop

  -- `rest` alternatives of one are still to be counted, from `at` on, after a sum of those before
  pub record Summing (more product at rest sum : ℕ) : Type 0 where
    pub a : Options
    pub ds : Places
    pub n : ℕ
    pub r : ℕ
    pub l : ℕ
    pub stand : AtAny (loaded_words w) at n a r l
    pub low : l < number_step
    pub others : AtAll (loaded_words w) r l ds c.lies.end c.lies.to
    pub many : options a ≡ rest
    pub later : places ds + 1 ≡ more
    pub deep : 0 < left
    pub inner : NestsAny a (left - 1)
    pub nests : NestsAll ds left
    pub total : count_at choice_stop (marking w) c.lies.d
        ≡ min (product * ((sum + count_any_at choice_stop (marking w) a) * count_all_at choice_stop (marking w) ds)) choice_stop

  -- what a turn at `at` does to the sum
  pub data Turn (at sum sum' : ℕ) : Type 0 where
    one : (k : ℕ) → marking w (mark_at w at) ≡ true → Counted w at (left - 1) k → sum' ≡ min (sum + k) choice_stop → Turn at sum sum'
    none : marking w (mark_at w at) ≡ false → sum' ≡ sum → Turn at sum sum'

  -- the graph and its closing word
  pub starts : (p < 2048) × (tail_at w p < 2048)
  starts = let r = reads c in (r.here, r.inside)

  pub multiply_none : (e more : ℕ) → e ≡ tail_at w p → more ≡ disjunctions_at w e → Multiplying more (e + 1) 1
  unfolding count_at
  multiply_none e more f h = go c.lies.d c.lies.at c.lies.nests refl
    where
      go : (d : Placed) → Here c.lies d → Nests d left → c.lies.d ≡ d → Multiplying more (e + 1) 1
      go (place g ds) at nests same =
          let tail = f ∙ tail_of c g ds at in
          let all : count_at choice_stop (marking w) c.lies.d ≡ count_all_at choice_stop (marking w) ds =
          ap (count_at choice_stop (marking w)) same in
          let small = count_small (marking w) c.lies.d in
          record {
            ds = ds;
            n = c.lies.from + length g;
            stand = rw tail at.6;
            many = sym (h ∙ ap (disjunctions_at w) tail ∙ disjunctions_of c g ds at);
            nests = nests;
            total = omega arith;
          }

  pub multiply_all : (more at product : ℕ) → Multiplying more at product → more ≤ 0 → product ≤ choice_stop →
      product ≡ count_at choice_stop (marking w) c.lies.d
  unfolding count_at
  multiply_all more at product t h small = go t.ds t.many t.total
    where
      go : (ds : Places) → places ds ≡ more →
          count_at choice_stop (marking w) c.lies.d ≡ min (product * count_all_at choice_stop (marking w) ds) choice_stop →
          product ≡ count_at choice_stop (marking w) c.lies.d
      go stop many total = sym (total ∙ cap_whole choice_stop product small)
      go (a also ds) many total = absurd (omega arith)

  pub multiply_here : (more at product : ℕ) → Multiplying more at product → 0 < more → at < 2048
  multiply_here more at product t h = go t.ds t.stand t.many
    where
      go : (ds : Places) → AtAll (loaded_words w) at t.n ds c.lies.end c.lies.to → places ds ≡ more → at < 2048
      go stop s many = absurd (omega arith)
      go (a also ds) s many = let there = s.2 in omega (arith, words_many w c.room)

  pub sum_none : (more at product rest : ℕ) → Multiplying more at product → 0 < more → rest ≡ alternatives_at w at →
      Summing more product (at + 1) rest 0
  unfolding count_at
  sum_none more at product rest t h e = go t.ds t.stand t.many t.nests t.total
    where
      go : (ds : Places) → AtAll (loaded_words w) at t.n ds c.lies.end c.lies.to → places ds ≡ more → NestsAll ds left →
          count_at choice_stop (marking w) c.lies.d ≡ min (product * count_all_at choice_stop (marking w) ds) choice_stop →
          Summing more product (at + 1) rest 0
      go stop s many nests total = absurd (omega arith)
      go (a also ds) s many nests total =
          let there = s.2 in
          let first = any_bounds (loaded_words w) a (at + 1) t.n s.0 s.1 (omega arith) s.4 in
          let last = (all_bounds (loaded_words w) ds s.0 s.1 c.lies.end c.lies.to first.1 s.5).2 in
          let low = c.lies.low in
          let few = c.few in
          let sums = count_any_at choice_stop (marking w) a in
          let products = count_all_at choice_stop (marking w) ds in
          let same : sums ≡ 0 + sums = omega arith in
          record {
            a = a;
            ds = ds;
            n = t.n;
            r = s.0;
            l = s.1;
            stand = s.4;
            low = omega arith;
            others = s.5;
            many = sym (e ∙ alternatives_is w a ds at t.n c.lies.end c.lies.to s);
            later = omega arith;
            deep = nests.0;
            inner = nests.1;
            nests = nests.2;
            total = total ∙ cap_one choice_stop product (sums * products) ∙ ap (λ (k : ℕ). min (product * (k * products)) choice_stop) same;
          }

  module _ (more product at rest sum : ℕ) (t : Summing more product at rest sum) where
    -- the next alternative
    pub sum_here : 0 < rest → (at < 2048) × (tail_at w at < 2048)
    sum_here h = read_first w c.room t.a at t.n t.r t.l rest t.stand t.low t.many h

    asks_one : (x : ℕ) (d : Placed) (a : Options) → AtAny (loaded_words w) at t.n (option x d a) t.r t.l → Nests d (left - 1) →
        Readable w at (left - 1)
    asks_one x d a o inner = record {
      room = c.room;
      n = o.1;
      few = (read_option w c.room x d a at t.n t.r t.l o t.low).1;
      lies = record { d = d; from = t.n; end = o.0; to = o.1; at = o.3; low = omega arith; nests = inner };
    }

    pub sum_asks : 0 < rest → Readable w at (left - 1)
    sum_asks h = go t.a t.stand t.many t.inner
      where
        go : (a : Options) → AtAny (loaded_words w) at t.n a t.r t.l → options a ≡ rest → NestsAny a (left - 1) →
            Readable w at (left - 1)
        go no_more o many inner = absurd (omega arith)
        go (option x d a) o many inner = asks_one x d a o inner.0

    pub sum_on : (rest' next sum' : ℕ) → rest ≡ suc rest' → next ≡ after_at w at → Turn at sum sum' → Summing more product next rest' sum'
    unfolding asks_one
    sum_on rest' next sum' h e turn = go t.a t.stand t.many t.inner t.total
      where
        go : (a : Options) → AtAny (loaded_words w) at t.n a t.r t.l → options a ≡ rest → NestsAny a (left - 1) →
            count_at choice_stop (marking w) c.lies.d
            ≡ min (product * ((sum + count_any_at choice_stop (marking w) a) * count_all_at choice_stop (marking w) t.ds))
            choice_stop → Summing more product next rest' sum'
        go no_more o many inner total = absurd (omega arith)
        go (option x d a) o many inner total =
            let read = read_option w c.room x d a at t.n t.r t.l o t.low in
            record {
              a = a;
              ds = t.ds;
              n = o.1;
              r = t.r;
              l = t.l;
              stand = subst (λ (k : ℕ). AtAny (loaded_words w) k o.1 a t.r t.l) (sym (e ∙ read.0.after)) o.4;
              low = t.low;
              others = t.others;
              many = omega arith;
              later = t.later;
              deep = t.deep;
              inner = inner.1;
              nests = t.nests;
              total = total ∙ cap_same choice_stop (sum + count_any_at choice_stop (marking w) (option x d a))
                  (sum' + count_any_at choice_stop (marking w) a) product (count_all_at choice_stop (marking w) t.ds) (sums turn);
            }
          where
            own : (b : Bool) → marking w (mark_at w at) ≡ b → marking w x ≡ b
            own b f = ap (marking w) (sym (read_option w c.room x d a at t.n t.r t.l o t.low).0.mark) ∙ f

            sums : Turn at sum sum' → min (sum + count_any_at choice_stop (marking w) (option x d a)) choice_stop
                ≡ min (sum' + count_any_at choice_stop (marking w) a) choice_stop
            sums (one k f counted g) =
                let is : k ≡ count_at choice_stop (marking w) d = counted.is (asks_one x d a o inner.0) in
                omega (arith, any_kept (marking w) x d a (own true f))
            sums (none f g) = omega (arith, any_dropped (marking w) x d a (own false f))

    pub sum_all : (more' product' : ℕ) → more ≡ suc more' → rest ≤ 0 → product' ≡ min (product * sum) choice_stop → Multiplying more' at product'
    unfolding count_at
    sum_all more' product' is h e = go t.a t.stand t.many t.total
      where
        go : (a : Options) → AtAny (loaded_words w) at t.n a t.r t.l → options a ≡ rest →
            count_at choice_stop (marking w) c.lies.d
            ≡ min (product * ((sum + count_any_at choice_stop (marking w) a) * count_all_at choice_stop (marking w) t.ds))
            choice_stop → Multiplying more' at product'
        go no_more o many total =
            let later = t.later in
            let products = count_all_at choice_stop (marking w) t.ds in
            let same : sum + 0 ≡ sum = omega arith in
            record {
              ds = t.ds;
              n = t.l;
              stand = subst (λ (k : ℕ). AtAll (loaded_words w) k t.l t.ds c.lies.end c.lies.to) (sym o.0) t.others;
              many = omega arith;
              nests = t.nests;
              total = total ∙ ap (λ (k : ℕ). min (product * (k * products)) choice_stop) same ∙ cap_first choice_stop product sum products
                  ∙ ap (λ (k : ℕ). min (k * products) choice_stop) (sym e);
            }
        go (option x d a) o many total = absurd (omega arith)
