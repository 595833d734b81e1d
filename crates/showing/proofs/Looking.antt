-- The disjunctions of a description are looked through for one with one alternative left.
-- Assumes nothing.
use Prim.Native.Nat.{ℕ, ◌+◌, ◌-◌, ◌≤◌, ◌<◌}
use native.Mathlib.Omega.{arith}
use mathlib.Core.Path.{◌≡◌, refl, sym, ap, subst, ◌∙◌}
use mathlib.Core.List.{List, [], ◌++◌}
use lib.ListN.{length}
use Rattle.theory.specs.Net.{Graph}
use Rattle.theory.specs.Descr.{Alts, fail, ◌or◌, alts}
use Rattle.area.specs.Region.{loaded_words}
use Rattle.area.proofs.Region.{words_many}
use Rattle.engine.specs.Placed.{Placed, place, Places, stop, ◌also◌, Options, strip_all, strip_any}
use Rattle.engine.specs.Marks.{Marking, keep_all, keep_any}
use Rattle.engine.specs.Certain.{sure, sure_any}
use Rattle.modes_by_marks.proofs.Marks.{kept_alts}
use Rattle.loading.specs.Loaded.{extent}
use Rattle.loading.specs.Numbered.{places, options}
use Rattle.loading.specs.Nesting.{Nests, NestsAll}
use Rattle.loading.specs.At.{AtAny}
use Rattle.loading.specs.Lying.{Here}
use Rattle.loading.proofs.Walking.{all_bounds, any_bounds}
use Rattle.marks.specs.Positions.{tail_at, disjunctions_at, alternatives_at}
use Rattle.marks.specs.Marked.{marking}
use Rattle.marks.specs.Readable.{Readable, Alternatives}
use Rattle.marks.specs.Tallied.{Tallied}
use Rattle.marks.specs.declared.tally.Remnant.{Remnant}
use Rattle.marks.specs.declared.tally.Remnant.TheVariants.{One}
use Rattle.marks.proofs.Reading.{reads, tail_of, disjunctions_of, alternatives_is}
use Rattle.marks.proofs.Remnant.{kept_other}
use Rattle.showing.specs.Putting.{left_all}
use Rattle.entering.proofs.Rests.{Rest}

-- none is certain where none or several are left
several_sure : (a : Alts) → (alts a ≡ 1 → ⊥) → sure_any a ≡ []
several_sure fail h = refl
several_sure (d or fail) h = absurd (h refl)
several_sure (d or (e or b)) h = refl

module _ (w : List ℕ) (g left : ℕ) (c : Readable w g left) where
  abbrev m : Marking
  m = marking w

  abbrev certain_of : Places → List Graph
  certain_of ds = sure (strip_all (keep_all m ds))

  -- `more` disjunctions are left, from `at` on
  pub record Going (more at : ℕ) : Type 0 where
    pub ds : Places
    pub from : ℕ
    pub stand : Rest c.lies at from ds
    pub within : at ≤ length (loaded_words w)
    pub many : places ds ≡ more
    pub nests : NestsAll ds left
    pub is : sure (left_all m c.lies.d) ≡ certain_of ds

  pub look_reads : (g < 2048) × (tail_at w g < 2048)
  look_reads = let r = reads c in (r.here, r.inside)

  pub look_start : (e more : ℕ) → e ≡ tail_at w g → more ≡ disjunctions_at w e → Going more (e + 1)
  look_start e more f h = go c.lies.d c.lies.at c.lies.nests refl
    where
      go : (d : Placed) → Here c.lies d → Nests d left → sure (left_all m c.lies.d) ≡ sure (left_all m d) → Going more (e + 1)
      go (place K ds) at nests same =
          let tail : e ≡ g + extent K = f ∙ tail_of c K ds at in
          let far = at.4 in
          subst (λ (p : ℕ). Going more (p + 1)) (sym tail) (record {
            ds = ds;
            from = c.lies.from + length K;
            stand = at.6;
            within = omega arith;
            many = sym (h ∙ ap (disjunctions_at w) tail ∙ disjunctions_of c K ds at);
            nests = nests;
            is = same;
          })

  module _ (more at : ℕ) (v : Going more at) where
    pub look_done : more ≤ 0 → sure (left_all m c.lies.d) ≡ []
    look_done h = go v.ds v.many v.is
      where
        go : (ds : Places) → places ds ≡ more → sure (left_all m c.lies.d) ≡ certain_of ds → sure (left_all m c.lies.d) ≡ []
        go stop e f = f
        go (a also ds) e f = absurd (omega arith)

    module _ (h : 0 < more) where
      -- the next disjunction
      record Next : Type 0 where
        a : Options
        ds : Places
        q : ℕ
        l : ℕ
        there : at < length (loaded_words w)
        any : AtAny (loaded_words w) (at + 1) v.from a q l
        all : Rest c.lies q l ds
        within : q ≤ length (loaded_words w)
        high : l ≤ c.lies.to
        count_are : alternatives_at w at ≡ options a
        many_later : places ds + 1 ≡ more
        nests : NestsAll (a also ds) left
        whole : sure (left_all m c.lies.d) ≡ sure_any (strip_any (keep_any m a)) ++ certain_of ds

      next : Next
      next = go v.ds v.stand v.many v.nests v.is
        where
          go : (ds : Places) → Rest c.lies at v.from ds → places ds ≡ more → NestsAll ds left →
              sure (left_all m c.lies.d) ≡ certain_of ds → Next
          go stop s e nests f = absurd (omega arith)
          go (a also ds) s e nests f =
              let there = s.2 in
              let first = any_bounds (loaded_words w) a (at + 1) v.from s.0 s.1 (omega arith) s.4 in
              record {
                a = a;
                ds = ds;
                q = s.0;
                l = s.1;
                there = there;
                any = s.4;
                all = s.5;
                within = first.1;
                high =
                    (all_bounds (loaded_words w) ds s.0 s.1 c.lies.end c.lies.to first.1 s.5).2;
                count_are =
                    alternatives_is w a ds at v.from c.lies.end c.lies.to s;
                many_later = omega arith;
                nests = nests;
                whole = f;
              }

      pub look_here : at < 2048
      look_here = omega (arith, next.there, words_many w c.room)

      module _ (of : ℕ) (f : of ≡ alternatives_at w at) where
        pub look_counts : Alternatives w (at + 1) of
        look_counts = record {
          room = c.room;
          n = c.n;
          few = c.few;
          left = left - 1;
          lies = record {
            a = next.a;
            from = v.from;
            end = next.q;
            to = next.l;
            at = next.any;
            within = (let here = next.there in omega arith);
            low = omega (arith, next.high, c.lies.low);
            many = sym (f ∙ next.count_are);
            nests = next.nests.1;
          };
        }

        pub look_on : (which : Remnant) (after : ℕ) → ((s : Alternatives w (at + 1) of) → Tallied w s which after) →
            ((x : ℕ) → which ≡ One x → ⊥) → Going (more - 1) after
        unfolding look_counts
        look_on which after tally other =
            let told = tally look_counts in
            let k = next.many_later in
            let none = several_sure (strip_any (keep_any m next.a)) (λ e. kept_other w look_counts which after told other
            (kept_alts m next.a ∙ e)) in
            subst (λ (p : ℕ). Going (more - 1) p) (sym told.after_is) (record {
              ds = next.ds;
              from = next.l;
              stand = next.all;
              within = next.within;
              many = omega arith;
              nests = next.nests.2;
              is = next.whole ∙ ap (λ (x : List Graph). x ++ certain_of next.ds) none;
            })
