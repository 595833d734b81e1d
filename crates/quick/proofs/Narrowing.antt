-- The disjunctions of a description are narrowed in order: what is still to be narrowed goes on to the whole.
-- Assumes nothing.
use Prim.Native.Nat.{ℕ, ◌+◌, ◌-◌, ◌≤◌, ◌<◌}
use native.Mathlib.Omega.{arith}
use mathlib.Core.Path.{◌≡◌, refl, sym, ap, subst, ◌∙◌}
use mathlib.Core.Logic.{◌⊎◌, inl, inr, ⊎_elim}
use mathlib.Core.List.Memᴰ
use mathlib.Core.List.{List, ◌++◌, Memᴰ}
use lib.ListN.{length}
use Rattle.theory.specs.Net.{Graph}
use Rattle.area.specs.Region.{loaded_words}
use Rattle.area.proofs.Region.{words_many}
use Rattle.engine.specs.Placed.{Placed, place, Places, stop, ◌also◌, Options}
use Rattle.engine.specs.Marks.{Marking}
use Rattle.modes_by_marks.specs.Names.{names_any, names_all}
use Rattle.modes_by_marks.proofs.QuickStep.{Only}
use Rattle.engine.specs.Quickly as quickly
use Rattle.engine.specs.Quickly.{fails, stands, narrow_at, inside_at, any_at}
use Rattle.loading.specs.Entry.{Entry, graphs}
use Rattle.loading.specs.Loaded.{extent}
use Rattle.loading.specs.Numbered.{places}
use Rattle.loading.specs.At.{AtAll}
use Rattle.loading.specs.Lying.{Here}
use Rattle.loading.proofs.Walking.{all_bounds, any_bounds}
use Rattle.loading.proofs.Lying.{bounds_of, any_distinct_of}
use Rattle.marks.specs.Positions.{tail_at, disjunctions_at, alternatives_at}
use Rattle.marks.specs.Marked.{marking}
use Rattle.marks.specs.Readable.{Readable, Alternatives}
use Rattle.marks.specs.Tallied.{Tallied}
use Rattle.marks.specs.declared.tally.Remnant.{Remnant}
use Rattle.marks.proofs.Reading.{readable, reads, tail_of, disjunctions_of, alternatives_is}
use Rattle.marks.proofs.Marks.{marking_frame}
use Rattle.loading.specs.Nesting.{Nests, NestsAll}
use Rattle.classes.specs.Holds.{Since, Backs, Labelled}
use Rattle.classes.proofs.Laws.{since_refl, since_trans}
use Rattle.sieving.specs.Sieved.{Sieved}
use Rattle.sieving.proofs.Keeping.{sieved_since}
use Rattle.quick.specs.declared.step.Step.{Step}
use Rattle.std.specs.Prelude.{Option, Some, None}
use Rattle.entering.specs.Taken.{AmongHere}
use Rattle.entering.specs.Clear.{Outside, ClearHere, ClearOf}
use Rattle.quick.specs.Stepped.{stepped, total, Fewer, Stood, Narrowing, NarrowStands, NarrowFails, Narrows, Choosing, ChooseStands}
use Rattle.quick.proofs.Stepping.{same_log, same_drops}
use Rattle.quick.specs.Stepped.{Chooses}
use Rattle.entering.specs.Moved.{Moved}
use Rattle.entering.proofs.Mirror.{any_only}
use Rattle.entering.proofs.Clearing.{all_alike, any_alike}
use Rattle.quick.proofs.Choosing.{chosen}
use Rattle.entering.proofs.Moves.{moved_trans, moved_words}
use Rattle.entering.proofs.Rests.{Rest, AmongRest, ClearRest}

narrow_more : (S : List Graph) (m : Marking) (a : Options) (ds : Places) (s : quickly.Step) → any_at S m a ≡ s →
    narrow_at S m (a also ds) ≡ elim s [ fails n ↦ fails n | stands T n ↦ narrow_at T n ds ]
unfolding Rattle.modes_by_marks.specs.Quickly.narrow_at
narrow_more S m a ds s e = ap (λ (o : quickly.Step). elim o [ fails n ↦ fails n | stands T n ↦ narrow_at T n ds ]) e

module _ (n k : ℕ) (w : List ℕ) (g left : ℕ) where
  -- `more` disjunctions are left, from `at` on
  pub record Going (c : Narrowing n k w g left) (more at log : ℕ) (w₁ : List ℕ) : Type 0 where
    pub ds : Places
    pub l : ℕ
    pub stand : Rest c.lies at l ds
    pub many : places ds ≡ more
    pub nests : NestsAll ds left
    pub among : AmongRest c.s.U c.lies at l ds stand
    pub above : c.lies.from + 1 ≤ l
    pub es₁ : List Entry
    pub stood : Stood n c.s.U c.es (c.lies.from + 1) c.lies.to log w₁ es₁
    pub ahead : ClearRest es₁ (marking w₁) c.lies at l ds stand
    pub behind : (E : List Entry) (K : Marking) → Only (names_all ds) (marking w₁) K →
        ((o : Entry) → Memᴰ o E → Memᴰ o es₁ ⊎ Outside (c.lies.from + 1) l o.number) →
        ClearRest E K c.lies at l ds stand → ClearOf E K c.lies
    pub is : inside_at (graphs c.es) (marking w) c.lies.d ≡ narrow_at (graphs es₁) (marking w₁) ds

  module _ (c : Narrowing n k w g left) where
    abbrev read : Readable w g left
    read = readable w c.s.holds.long c.s.loaded c.s.ground.few c.lies

    pub narrow_starts : (g < 2048) × (tail_at w g < 2048)
    narrow_starts = let s = reads read in (s.here, s.inside)

    -- there are numbers, and so the roots have a class
    some : 0 < n
    some = omega (arith, (bounds_of c.lies).2, c.lies.low)

    pub narrow_rooted : (0 < n) × Labelled n w
    narrow_rooted = (some, record { k = k; es = c.es; holds = c.s.holds })

    pub moved_start : Moved k w k w
    moved_start = record { len = refl; rest = λ j h. refl; since = since_refl n c.es k w c.s.holds }

    pub narrow_begin : (e more : ℕ) → e ≡ tail_at w g → more ≡ disjunctions_at w e → Going c more (e + 1) k w
    unfolding Rattle.modes_by_marks.specs.Quickly.inside_at
    narrow_begin e more f h = go c.lies.d c.lies.at read.lies.at c.among c.lies.nests c.clear refl (λ E K x. x)
      where
        go : (d : Placed) (at : Here c.lies d) → Here read.lies d →
            AmongHere c.s.U c.lies d at → Nests d left →
            ClearHere c.es (marking w) c.lies d at →
            inside_at (graphs c.es) (marking w) c.lies.d ≡ inside_at (graphs c.es) (marking w) d →
            ((E : List Entry) (K : Marking) → ClearHere E K c.lies d at →
            ClearOf E K c.lies) → Going c more (e + 1) k w
        go (place G ds) at loaded u nests clear same whole =
            let tail : e ≡ g + extent G = f ∙ tail_of read G ds loaded in
            let some = at.0 in
            subst (λ (p : ℕ). Going c more (p + 1) k w) (sym tail) (record {
              ds = ds;
              l = c.lies.from + length G;
              stand = at.6;
              many = sym (h ∙ ap (disjunctions_at w) tail ∙ disjunctions_of read G ds loaded);
              nests = nests;
              among = u.1;
              above = omega arith;
              es₁ = c.es;
              stood = record { holds = c.s.holds; inside = c.s.inside; old = λ o i. i; fresh = λ o i. inl i };
              ahead = clear;
              behind = λ E K a b x. whole E K x;
              is = same;
            })

  module _ (c : Narrowing n k w g left) (more at log : ℕ) (w₁ : List ℕ) (m : Moved k w log w₁) (s : Going c more at log w₁) where
    pub narrow_done : more ≤ 0 → NarrowStands n k w g left log w₁ c
    unfolding Rattle.modes_by_marks.specs.Quickly.narrow_at
    narrow_done h = record {
      es' = s.es₁;
      stood = s.stood;
      clear' =
          s.behind s.es₁ (marking w₁) (λ y h. refl) (λ o i. inl i) s.ahead;
      is = go s.ds s.many s.is;
    }
      where
        go : (ds : Places) → places ds ≡ more →
            inside_at (graphs c.es) (marking w) c.lies.d ≡ narrow_at (graphs s.es₁) (marking w₁) ds →
            inside_at (graphs c.es) (marking w) c.lies.d ≡ stands (graphs s.es₁) (marking w₁)
        go stop e f = f
        go (a also ds) e f = absurd (omega arith)

    module _ (h : 0 < more) where
      loaded₁ : loaded_words w₁ ≡ c.s.t
      loaded₁ = moved_words k w log w₁ c.s.holds.long m ∙ c.s.loaded

      -- the next disjunction
      record Next : Type 0 where
        a : Options
        ds : Places
        o : Rest c.lies at s.l (a also ds)
        nested : NestsAll (a also ds) left
        amongst : AmongRest c.s.U c.lies at s.l (a also ds) o
        later : places ds + 1 ≡ more
        clear : ClearRest s.es₁ (marking w₁) c.lies at s.l (a also ds) o
        whole : inside_at (graphs c.es) (marking w) c.lies.d ≡ narrow_at (graphs s.es₁) (marking w₁) (a also ds)
        before : (E : List Entry) (K : Marking) → Only (names_any a ++ names_all ds) (marking w₁) K →
            ((o : Entry) → Memᴰ o E → Memᴰ o s.es₁ ⊎ Outside (c.lies.from + 1) s.l o.number) →
            ClearRest E K c.lies at s.l (a also ds) o → ClearOf E K c.lies

      next : Next
      next = go s.ds s.stand s.many s.nests s.among s.ahead s.is s.behind
        where
          go : (ds : Places) (o : Rest c.lies at s.l ds) → places ds ≡ more → NestsAll ds left →
              AmongRest c.s.U c.lies at s.l ds o →
              ClearRest s.es₁ (marking w₁) c.lies at s.l ds o →
              inside_at (graphs c.es) (marking w) c.lies.d ≡ narrow_at (graphs s.es₁) (marking w₁) ds →
              ((E : List Entry) (K : Marking) → Only (names_all ds) (marking w₁) K →
              ((o : Entry) → Memᴰ o E → Memᴰ o s.es₁ ⊎ Outside (c.lies.from + 1) s.l o.number) →
              ClearRest E K c.lies at s.l ds o → ClearOf E K c.lies) → Next
          go stop o e f u x q b = absurd (omega arith)
          go (a also ds) o e f u x q b =
              record { a = a; ds = ds; o = o; nested = f; amongst = u; later = omega arith; clear = x; whole = q; before = b }

      pub narrow_here : at < 2048
      narrow_here = let there = next.o.2 in omega (arith, words_many w c.s.holds.long, ap length c.s.loaded)

      pub narrow_deep : 0 < left
      narrow_deep = next.nested.0

      first : (at + 1 ≤ next.o.0) × (next.o.0 ≤ length c.s.t) × (s.l ≤ next.o.1)
      first = let there = next.o.2 in any_bounds c.s.t next.a (at + 1) s.l next.o.0 next.o.1 (omega arith) next.o.4

      last : next.o.1 ≤ c.lies.to
      last = (all_bounds c.s.t next.ds next.o.0 next.o.1 c.lies.end c.lies.to first.1 next.o.5).2

      module _ (count : ℕ) (e : count ≡ alternatives_at w₁ at) where
        abbrev asks : Choosing n log w₁ (at + 1) count (left - 1)
        asks = record {
          es = s.es₁;
          s = record {
            t = c.s.t;
            loaded = loaded₁;
            m = marking w₁;
            marks = refl;
            U = c.s.U;
            ground = c.s.ground;
            holds = s.stood.holds;
            inside = s.stood.inside;
          };
          lies = record {
            a = next.a;
            from = s.l;
            end = next.o.0;
            to = next.o.1;
            at = next.o.4;
            within = (let there = next.o.2 in omega arith);
            low = omega (arith, last, c.lies.low);
            many = sym (e ∙ alternatives_is w₁ next.a next.ds at s.l c.lies.end c.lies.to
                (subst (λ (t : List ℕ). AtAll t at s.l (next.a also next.ds) c.lies.end c.lies.to) (sym loaded₁) next.o));
            nests = next.nested.1;
          };
          among = next.amongst.0;
          clear = next.clear.0;
        }

        pub asks_one : Choosing n log w₁ (at + 1) count (left - 1)
        asks_one = asks

        module _ (r : Option Step) (w₂ : List ℕ) (v : Chooses n log w₁ (at + 1) count (left - 1) r w₂) where
          module _ (j i : ℕ) (y : r ≡ Some (stepped j i)) where
            pub moved_on : Moved k w j w₂
            moved_on = moved_trans k w log w₁ j w₂ m (v.standing j i y).0

            told : ChooseStands n log w₁ (at + 1) count (left - 1) j w₂ asks
            told = (v.standing j i y).2 asks

            -- the sieve is gathered again, or tells the same
            pub rooted_after : (0 < n) × Labelled n w₂
            rooted_after = (some c, record { k = j; es = told.es'; holds = told.stood.holds })

            pub sieved_after : (t : List ℕ) → Sieved n w₁ t → j ≡ log → Sieved n w₂ t
            sieved_after t u e = sieved_since n log w₁ w₂ t c.s.holds.below (omega (arith, m.len, c.s.holds.long))
                (subst (λ (i : ℕ). Since log w₁ i w₂) e (v.standing j i y).0.since) u

            pub narrow_on : (which : Remnant) (after : ℕ) → ((a : Alternatives w₁ (at + 1) count) → Tallied w₁ a which after) →
                Going c (more - 1) after j w₂
            narrow_on which after tally =
                let only = any_only (graphs s.es₁) (marking w₁) (marking w₂) (graphs told.es') next.a
                (any_distinct_of asks.lies) told.is in
                let count' = next.later in
                let above = s.above in
                let near = first.2 in
                let far = last in
                let there = next.o.2 in
                subst (λ (p : ℕ). Going c (more - 1) p j w₂) (sym (tally (chosen n log w₁ (at + 1) count (left - 1) asks)).after_is)
                (record {
                  ds = next.ds;
                  l = next.o.1;
                  stand = next.o.5;
                  many = omega arith;
                  nests = next.nested.2;
                  among = next.amongst.1;
                  above = omega arith;
                  es₁ = told.es';
                  stood = record {
                    holds = told.stood.holds;
                    inside = told.stood.inside;
                    old = λ o i. told.stood.old o (s.stood.old o i);
                    fresh = λ o i. ⊎_elim (λ b. s.stood.fresh o b) (λ b. let u = b.0 in let x = b.1 in
                        inr (omega arith, omega arith)) (told.stood.fresh o i);
                  };
                  ahead = all_alike c.s.t (marking w₁) (marking w₂) s.es₁ told.es' next.o.0 next.o.1 next.ds
                      c.lies.end
                      c.lies.to first.1 next.o.5 (λ y a. only y (λ b. next.o.6 y b a))
                      (λ o i. ⊎_elim (λ b. inl b) (λ b. let u = b.1 in inr (inl u)) (told.stood.fresh o i)) next.clear.1;
                  behind = λ E K rest new x. next.before E K
                      (λ y h. rest y (λ i. h (Memᴰ.append_right (names_any next.a) i))
                      ∙ only y (λ i. h (Memᴰ.append_left (names_all next.ds) i)))
                      (λ o i. ⊎_elim (λ b. ⊎_elim (λ d. inl d) (λ d. inr (inr d.0)) (told.stood.fresh o b))
                      (λ b. inr (⊎_elim (λ d. inl d) (λ d. inr (omega arith)) b)) (new o i)) (
                        any_alike c.s.t (marking w₂) K told.es' E (at + 1) s.l next.a next.o.0 next.o.1 (omega arith)
                            next.o.4 (λ y i. rest y (λ j. next.o.6 y i j))
                            (λ o i. ⊎_elim (λ b. inl b) (λ b. inr (⊎_elim (λ d. inl (omega arith)) (λ d. inr d) b)) (new o i))
                            told.clear',
                        x,
                      );
                  is = next.whole ∙ narrow_more (graphs s.es₁) (marking w₁) next.a next.ds
                      (stands (graphs told.es') (marking w₂)) told.is;
                })

          -- it fails, and all is taken back
          module _ (y : r ≡ None) (w₃ : List ℕ) (b : Backs k log w₂ w₃) where
            marks₃ : marking w₃ ≡ marking w₂
            marks₃ = marking_frame w₂ w₃ (omega (arith, (v.failing y).0.len, m.len, c.s.holds.long)) b.len
                (λ i h l. b.rest i (omega arith))

            pub narrow_fails : NarrowFails n k w g left w₃ c
            narrow_fails =
                let f = v.failing y in
                let told = f.2 asks in
                record {
                  holds' = b.holds n c.es w c.s.holds (since_trans k w log w₁ log w₂ m.since f.0.since);
                  is = next.whole ∙ narrow_more (graphs s.es₁) (marking w₁) next.a next.ds (fails (marking w₂)) told.is
                      ∙ ap fails (sym marks₃);
                }

            pub moved_back : Moved k w k w₃
            moved_back =
                let f = (v.failing y).0 in
                record {
                  len = b.len ∙ f.len ∙ m.len;
                  rest = λ i h. b.rest i (omega arith) ∙ f.rest i h
                      ∙ m.rest i h;
                  since = b.since w (since_trans k w log w₁ log w₂ m.since f.since);
                }

            pub fewer_back : (drops : ℕ) → Fewer drops (marking w) (marking w₁) → total (marking w₃) ≤ total (marking w)
            fewer_back drops p = let e : total (marking w₃) ≡ total (marking w₂) = ap total marks₃ in
                omega (arith, (v.failing y).1, p.fewer)

-- ---- what the function answers
pub narrows_stands : (n k : ℕ) (w : List ℕ) (g left log drops : ℕ) (w₁ : List ℕ) → Moved k w log w₁ → Fewer drops (marking w) (marking w₁) →
    ((c : Narrowing n k w g left) → NarrowStands n k w g left log w₁ c) → Narrows n k w g left (Some (stepped log drops)) w₁
narrows_stands n k w g left log drops w₁ m f all = record {
  standing = λ j i y.
      let x : log ≡ j = same_log _ _ _ _ y in
      let z : drops ≡ i = same_drops _ _ _ _ y in
      subst (λ (j : ℕ). Moved k w j w₁ × Fewer i (marking w) (marking w₁)
      × ((c : Narrowing n k w g left) → NarrowStands n k w g left j w₁ c)) x (
        m,
        subst (λ (i : ℕ). Fewer i (marking w) (marking w₁)) z f,
        all,
      );
  failing = λ y. let x : ◌≡◌ {A = ℕ} 0 1 = cc in absurd (omega arith);
}

pub narrows_fails : (n k : ℕ) (w : List ℕ) (g left : ℕ) (w₁ : List ℕ) → Moved k w k w₁ → total (marking w₁) ≤ total (marking w) →
    ((c : Narrowing n k w g left) → NarrowFails n k w g left w₁ c) → Narrows n k w g left None w₁
narrows_fails n k w g left w₁ m f all = record {
  standing = λ j i y. let x : ◌≡◌ {A = ℕ} 0 1 = cc in absurd (omega arith);
  failing = λ y. (m, f, all);
}

pub narrows_len : (n k : ℕ) (w : List ℕ) (g left : ℕ) (r : Option Step) (w₁ : List ℕ) → Narrows n k w g left r w₁ → length w₁ ≡ length w
narrows_len n k w g left (Some s) w₁ v = (v.standing s.log s.drops refl).0.len
narrows_len n k w g left None w₁ v = (v.failing refl).0.len
