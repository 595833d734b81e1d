-- The disjunctions of a description are put out in order: what is still to be put out goes on to the whole.
-- Assumes nothing.
use Prim.Native.Nat.{ℕ, ◌+◌, ◌-◌, ◌≤◌, ◌<◌}
use native.Mathlib.Omega.{arith}
use mathlib.Core.Path.{◌≡◌, refl, sym, ap, subst, ◌∙◌}
use mathlib.Core.List.{List, [], ◌++◌, append-nil, append_assoc}
use lib.ListN.{length, length-append}
use Rattle.theory.specs.Descr.{Disjs, end, disjs}
use Rattle.theory.specs.Layout.{disjs_words}
use Rattle.theory.specs.Canonical.{CanAll, CanAny}
use Rattle.area.proofs.Region.{words_many}
use Rattle.engine.specs.Placed.{Placed, place, Places, stop, ◌also◌, Options, strip_all, strip_any}
use Rattle.engine.specs.Marks.{Marking, keep_all, keep_any}
use Rattle.engine.specs.Shown.{shown_all}
use Rattle.engine.specs.Sane.{SaneAll, SaneAny}
use Rattle.loading.specs.Loaded.{extent}
use Rattle.loading.specs.Numbered.{places, options}
use Rattle.loading.specs.At.{AtAll, AtAny}
use Rattle.loading.specs.Lying.{Here}
use Rattle.loading.proofs.Walking.{all_bounds, any_bounds}
use Rattle.marks.specs.Positions.{tail_at, disjunctions_at, alternatives_at}
use Rattle.marks.specs.Readable.{Readable}
use Rattle.marks.proofs.Reading.{readable, reads, tail_of, disjunctions_of, alternatives_is}
use Rattle.loading.specs.Nesting.{Nests, NestsAll, NestsAny}
use Rattle.entering.specs.Taken.{AmongAny, AmongHere}
use Rattle.entering.proofs.Rests.{Rest, AmongRest}
use Rattle.showing.specs.Putting.{Written, Base, left_all, Disjoining, folded, Varying, Varies}
use Rattle.showing.proofs.Written.{written_none, written_order, written_append, based}
use Rattle.showing.proofs.Leaving.{then_words, then_count, shown_first, few_disjunctions, nothing_left}

module _ (n : ℕ) (w : List ℕ) (g left o : ℕ) (c : Disjoining n w g left o) where
  abbrev m : Marking
  m = c.base.m

  abbrev t : List ℕ
  t = c.base.t

  abbrev rest_of : Places → Disjs
  rest_of ds = shown_all (strip_all (keep_all m ds))

  abbrev whole : Disjs
  whole = shown_all (left_all m c.lies.d)

  -- `more` disjunctions are left, from `at` on; those before them stand in the result up to `out` and are `count`
  pub record Going (more at out count : ℕ) (w₁ : List ℕ) : Type 0 where
    pub ds : Places
    pub from : ℕ
    pub stand : Rest c.lies at from ds
    pub within : at ≤ length t
    pub many : places ds ≡ more
    pub nests : NestsAll ds left
    pub among : AmongRest c.base.U c.lies at from ds stand
    pub can : CanAll (strip_all (keep_all m ds))
    pub sane : SaneAll (strip_all (keep_all m ds))
    pub done : List ℕ
    pub written : Written n w o done out w₁
    pub words_are : disjs_words whole ≡ done ++ disjs_words (rest_of ds)
    pub count_is : count + disjs (rest_of ds) ≡ disjs whole

  room : 16384 ≤ length w
  room = c.base.holds.long

  abbrev read : Readable w g left
  read = readable w room c.base.loaded c.base.ground.few c.lies

  pub go_reads : (g < 2048) × (tail_at w g < 2048)
  go_reads = let r = reads read in (r.here, r.inside)

  pub go_start : (e more : ℕ) → e ≡ tail_at w g → more ≡ disjunctions_at w e → Going more (e + 1) o 0 w
  go_start e more f h = go c.lies.d c.lies.at read.lies.at c.lies.nests c.among c.can c.sane refl
    where
      go : (d : Placed) (at : Here c.lies d) →
          Here read.lies d → Nests d left →
          AmongHere c.base.U c.lies d at →
          CanAll (left_all m d) → SaneAll (left_all m d) → left_all m c.lies.d ≡ left_all m d → Going more (e + 1) o 0 w
      go (place K ds) at stand nests u can sane same =
          let tail : e ≡ g + extent K = f ∙ tail_of read K ds stand in
          let far = at.4 in
          subst (λ (p : ℕ). Going more (p + 1) o 0 w) (sym tail) (record {
            ds = ds;
            from = c.lies.from + length K;
            stand = at.6;
            within = omega arith;
            many = sym (h ∙ ap (disjunctions_at w) tail ∙ disjunctions_of read K ds stand);
            nests = nests;
            among = u.1;
            can = can;
            sane = sane;
            done = [];
            written = written_none n w o c.base.holds;
            words_are = ap (λ (x : Disjs). disjs_words (shown_all x)) same;
            count_is = let q = ap (λ (x : Disjs). disjs (shown_all x)) same in omega arith;
          })

  module _ (more at out count : ℕ) (w₁ : List ℕ) (v : Going more at out count w₁) where
    pub go_done : more ≤ 0 → Written n w o (disjs_words whole) out w₁ × (count ≡ disjs whole)
    go_done h = go v.ds v.many v.words_are v.count_is
      where
        go : (ds : Places) → places ds ≡ more → disjs_words whole ≡ v.done ++ disjs_words (rest_of ds) →
            count + disjs (rest_of ds) ≡ disjs whole → Written n w o (disjs_words whole) out w₁ × (count ≡ disjs whole)
        go stop e f q = (
          subst (λ (xs : List ℕ). Written n w o xs out w₁)
              (sym (f ∙ ap (λ (x : Disjs). v.done ++ disjs_words x) nothing_left ∙ append-nil v.done)) v.written,
          let z = ap disjs nothing_left in omega arith,
        )
        go (a also ds) e f q = absurd (omega arith)

    abbrev base₁ : Base n w₁
    base₁ = based n w c.base o v.done out w₁ v.written

    pub go_small : (count ≤ 2048) × (16384 ≤ length w₁)
    go_small = (omega (arith, v.count_is, few_disjunctions whole, c.room), v.written.holds.long)

    pub go_same : length w₁ ≡ length w
    go_same = v.written.len

    -- the next disjunction
    record Next : Type 0 where
      a : Options
      ds : Places
      q : ℕ
      l : ℕ
      there : at < length t
      any : AtAny c.base.t (at + 1) v.from a q l
      all : Rest c.lies q l ds
      within : q ≤ length t
      high : l ≤ c.lies.to
      count_are : alternatives_at w₁ at ≡ options a
      many_later : places ds + 1 ≡ more
      deep : 0 < left
      inner : NestsAny a (left - 1)
      nests_later : NestsAll ds left
      among_any : AmongAny c.base.U c.base.t (at + 1) v.from a q l any
      among_later : AmongRest c.base.U c.lies q l ds all
      can_any : CanAny (strip_any (keep_any m a))
      can_later : CanAll (strip_all (keep_all m ds))
      sane_any : SaneAny (strip_any (keep_any m a))
      sane_later : SaneAll (strip_all (keep_all m ds))
      words_next : disjs_words whole ≡ (v.done ++ disjs_words (folded m a)) ++ disjs_words (rest_of ds)
      count_next : count + disjs (folded m a) + disjs (rest_of ds) ≡ disjs whole

    module _ (h : 0 < more) where
      next : Next
      next = go v.ds v.stand v.many v.nests v.among v.can v.sane v.words_are v.count_is
        where
          go : (ds : Places) (s : Rest c.lies at v.from ds) → places ds ≡ more → NestsAll ds left →
              AmongRest c.base.U c.lies at v.from ds s → CanAll (strip_all (keep_all m ds)) →
              SaneAll (strip_all (keep_all m ds)) →
              disjs_words whole ≡ v.done ++ disjs_words (rest_of ds) → count + disjs (rest_of ds) ≡ disjs whole → Next
          go stop s many nests u can sane f k = absurd (omega arith)
          go (a also ds) s many nests u can sane f k =
              let there = s.2 in
              let first = any_bounds t a (at + 1) v.from s.0 s.1 (omega arith) s.4 in
              let split = shown_first (strip_any (keep_any m a)) (strip_all (keep_all m ds)) in
              let counts = ap disjs split ∙ then_count (folded m a) (rest_of ds) in
              record {
                a = a;
                ds = ds;
                q = s.0;
                l = s.1;
                there = there;
                any = s.4;
                all = s.5;
                within = first.1;
                high = (all_bounds t ds s.0 s.1 c.lies.end c.lies.to first.1 s.5).2;
                count_are = alternatives_is w₁ a ds at v.from c.lies.end c.lies.to
                    (subst (λ (x : List ℕ). AtAll x at v.from (a also ds) c.lies.end c.lies.to) (sym base₁.loaded) s);
                many_later = omega arith;
                deep = nests.0;
                inner = nests.1;
                nests_later = nests.2;
                among_any = u.0;
                among_later = u.1;
                can_any = can.0;
                can_later = can.1;
                sane_any = sane.0;
                sane_later = sane.1;
                words_next = f ∙ ap (λ (x : List ℕ). v.done ++ x) (ap disjs_words split ∙ then_words (folded m a) (rest_of ds))
                    ∙ sym (append_assoc v.done (disjs_words (folded m a)) (disjs_words (rest_of ds)));
                count_next = omega arith;
              }

      pub go_here : at < 2048
      go_here = omega (arith, next.there, words_many w room, ap length c.base.loaded)

      pub go_deep : 0 < left
      go_deep = next.deep

      module _ (of : ℕ) (f : of ≡ alternatives_at w₁ at) where
        pub go_asks : Varying n w₁ (at + 1) of (left - 1) out
        go_asks =
            let x = next in
            let l = x.there in
            let size = length-append (v.done ++ disjs_words (folded m x.a)) (disjs_words (rest_of x.ds)) in
            let part = length-append v.done (disjs_words (folded m x.a)) in
            let all = ap length x.words_next in
            record {
              base = base₁;
              lies = record {
                a = x.a;
                from = v.from;
                end = x.q;
                to = x.l;
                at = x.any;
                within = omega arith;
                low = omega (arith, x.high, c.lies.low);
                many = sym (f ∙ x.count_are);
                nests = x.inner;
              };
              among = x.among_any;
              can = x.can_any;
              sane = x.sane_any;
              room = omega (arith, c.room, written_order n w o v.done out w₁ v.written);
            }

        module _ (r i after : ℕ) (w₂ : List ℕ) (u : Varies n w₁ (at + 1) of (left - 1) out r i after w₂) where
          told : Written n w₁ out (disjs_words (folded m next.a)) r w₂ × (i ≡ disjs (folded m next.a)) × (after ≡ next.q)
          unfolding go_asks
          told = u go_asks

          pub go_few : i ≤ 2048
          go_few = omega (arith, told.1, next.count_next, few_disjunctions whole, c.room)

          pub go_on : Going (more - 1) after r (count + i) w₂
          go_on =
              let x = next in
              let k = x.many_later in
              subst (λ (p : ℕ). Going (more - 1) p r (count + i) w₂) (sym told.2) (record {
                ds = x.ds;
                from = x.l;
                stand = x.all;
                within = x.within;
                many = omega arith;
                nests = x.nests_later;
                among = x.among_later;
                can = x.can_later;
                sane = x.sane_later;
                done = v.done ++ disjs_words (folded m x.a);
                written = written_append n w o v.done out w₁ (disjs_words (folded m x.a)) r w₂ v.written told.0;
                words_are = x.words_next;
                count_is = omega (arith, told.1, x.count_next);
              })
