-- Walking alternatives that stand loaded, one after the other: what is known of those that are still to come.
-- Assumes nothing.
use Prim.Native.Nat.{ℕ, ◌+◌, ◌-◌, ◌≤◌, ◌<◌}
use native.Mathlib.Omega.{arith}
use mathlib.Core.Path.{◌≡◌, sym, subst, ◌∙◌}
use mathlib.Core.List.{List}
use lib.ListN.{length}
use Rattle.engine.specs.Placed.{Placed, Options, no_more, option}
use Rattle.loading.specs.Numbered.{options}
use Rattle.loading.specs.Nesting.{NestsAny}
use Rattle.loading.specs.At.{AtAny}
use Rattle.loading.specs.Lying.{Lying, RestAny}
use Rattle.loading.proofs.Walking.{at_bounds, any_bounds}
use Rattle.marks.specs.Positions.{tail_at, mark_at, after_at}
use Rattle.marks.proofs.Reading.{Read, read_option}
use Rattle.choosing.specs.Chosen.{Summing}

module _ {w : List ℕ} {p count left : ℕ} (c : Summing w p count left) where
  module _ (P : (at l : ℕ) (b : Options) → RestAny c.lies at l b → Type 0) where
    -- `more` alternatives are still to come, from `at` on, and P holds of them
    pub record Still (more at : ℕ) : Type 0 where
      pub b : Options
      pub l : ℕ
      pub stand : RestAny c.lies at l b
      pub within : at ≤ length c.t
      pub many : options b ≡ more
      pub nests : NestsAny b left
      pub above : c.lies.from ≤ l
      pub holds : P at l b stand

    -- the first of them
    pub record Next (more at : ℕ) : Type 0 where
      pub x : ℕ
      pub d : Placed
      pub b : Options
      pub l : ℕ
      pub o : RestAny c.lies at l (option x d b)
      pub nests : NestsAny (option x d b) left
      pub later : options b + 1 ≡ more
      pub above : c.lies.from ≤ l
      pub holds : P at l (option x d b) o

    pub still_all : P p c.lies.from c.lies.a c.lies.at → Still count p
    still_all h = record {
      b = c.lies.a;
      l = c.lies.from;
      stand = c.lies.at;
      within = c.lies.within;
      many = c.lies.many;
      nests = c.lies.nests;
      above = omega arith;
      holds = h;
    }

    module _ {more at : ℕ} (s : Still more at) where
      pub still_none : (Q : Type 0) → more ≤ 0 → ((o : RestAny c.lies at s.l no_more) → P at s.l no_more o → Q) → Q
      still_none Q h f = go s.b s.stand s.many s.holds
        where
          go : (b : Options) (o : RestAny c.lies at s.l b) → options b ≡ more → P at s.l b o → Q
          go no_more o e i = f o i
          go (option x d b) o e i = absurd (omega arith)

      pub next : 0 < more → Next more at
      next h = go s.b s.stand s.many s.nests s.holds
        where
          go : (b : Options) (o : RestAny c.lies at s.l b) → options b ≡ more → NestsAny b left → P at s.l b o → Next more at
          go no_more o e f i = absurd (omega arith)
          go (option x d b) o e f i =
              record { x = x; d = d; b = b; l = s.l; o = o; nests = f; later = omega arith; above = s.above; holds = i }

    module _ {more at : ℕ} (s : Next more at) where
      pub next_first : (at < s.o.0) × (s.o.0 ≤ length c.t) × (s.l < s.o.1)
      next_first = at_bounds c.t s.d at s.l s.o.0 s.o.1 s.o.3

      pub next_last : (s.o.0 ≤ c.lies.end) × (c.lies.end ≤ length c.t) × (s.o.1 ≤ c.lies.to)
      next_last = any_bounds c.t s.b s.o.0 s.o.1 c.lies.end c.lies.to next_first.1 s.o.4

      pub next_read : Read w at s.x s.o.0
      next_read = (read_option w c.room s.x s.d s.b at s.l c.lies.end c.lies.to
          (subst (λ (t : List ℕ). AtAny t at s.l (option s.x s.d s.b) c.lies.end c.lies.to) (sym c.loaded) s.o)
          (omega (arith, c.lies.low, c.few))).0

      -- it may be looked at
      pub next_here : ((at < 2048) × (16384 ≤ length w)) × (tail_at w at < 2048)
      next_here = ((next_read.here, c.room), next_read.inside)

      pub next_mark : (x : ℕ) → (x ≡ mark_at w at) × (x < 1024) → x ≡ s.x
      next_mark x e = e.0 ∙ next_read.mark

      abbrev pub next_lies : Lying c.n c.t at left
      next_lies = record {
        d = s.d;
        from = s.l;
        end = s.o.0;
        to = s.o.1;
        at = s.o.3;
        low = omega (arith, next_last.2, c.lies.low);
        nests = s.nests.0;
      }

  -- and those after it
  pub next_on : (P Q : (at l : ℕ) (b : Options) → RestAny c.lies at l b → Type 0) {more at : ℕ} (s : Next P more at) →
      Q s.o.0 s.o.1 s.b s.o.4 → (at' : ℕ) → at' ≡ after_at w at → Still Q (more - 1) at'
  next_on P Q {more} {at} s h at' e = subst (Still Q (more - 1)) (sym (e ∙ (next_read P s).after)) (record {
    b = s.b;
    l = s.o.1;
    stand = s.o.4;
    within = (next_first P s).1;
    many = omega (arith, s.later);
    nests = s.nests.1;
    above = omega (arith, s.above, (next_first P s).2);
    holds = h;
  })
