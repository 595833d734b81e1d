-- The alternatives of a disjunction are tried in order: what is still to be sifted goes on to the whole.
-- Assumes nothing.
use Prim.Native.Nat.{ℕ, zero, suc, ◌+◌, ◌-◌, ◌≤◌, ◌<◌}
use native.Mathlib.Omega.{arith}
use mathlib.Core.Path.{◌≡◌, refl, sym, ap, subst, ◌∙◌}
use mathlib.Core.Bool.{Bool, true, false}
use mathlib.Core.List.Memᴰ
use mathlib.Core.List.{List}
use lib.ListN.{length}
use lib.Dec.{eqb}
use borrow.Author.Tests.{eqb-true, eqb-false}
use Rattle.area.specs.Region.{loaded_words}
use Rattle.engine.specs.Placed.{Placed, Options, no_more, option}
use Rattle.engine.specs.Marks.{Marking, drop}
use Rattle.engine.specs.Quickly as quickly
use Rattle.engine.specs.Quickly.{fails, tried, try_at, sift_at}
use Rattle.modes_by_marks.proofs.Marks.{drop_self, drop_other}
use Rattle.loading.specs.Entry.{graphs}
use Rattle.packing.specs.Packed.{number_step}
use Rattle.loading.specs.Numbered.{options}
use Rattle.loading.specs.At.{AtAny}
use Rattle.loading.specs.Lying.{RestAny}
use Rattle.loading.proofs.Walking.{at_bounds, any_bounds}
use Rattle.loading.proofs.Lying.{distinct_of}
use Rattle.marks.specs.Positions.{tail_at, mark_at, after_at}
use Rattle.marks.specs.Marked.{marking, Dropped}
use Rattle.marks.proofs.Reading.{Read, read_option}
use Rattle.loading.specs.Nesting.{NestsAny}
use Rattle.classes.specs.Holds.{Holds}
use Rattle.classes.proofs.Laws.{since_refl, holds_frame, since_frame}
use Rattle.quick.specs.declared.step.Step.{Step}
use Rattle.std.specs.Prelude.{Option, Some, None}
use Rattle.entering.specs.Taken.{AmongRestAny}
use Rattle.entering.specs.Entered.{Entering}
use Rattle.entering.specs.Settled.{Alternating}
use Rattle.quick.specs.Stepped.{stepped, kept_below, total, Fewer, Tries, Sifted}
use Rattle.entering.specs.Moved.{Moved}
use Rattle.entering.proofs.Certain.{free_narrow}
use Rattle.entering.proofs.Mirror.{sift_dropped, sift_kept, try_only}
use Rattle.entering.proofs.Moves.{moved_trans, moved_words, footing_as}

-- ---- how many are kept
below_same : (k : Marking) (x c : ℕ) → c ≤ x → kept_below (drop x k) c ≡ kept_below k c
below_same k x zero h = refl
below_same k x (suc c) h = ap (λ (b : Bool). elim b [ true ↦ suc (kept_below (drop x k) c) | false ↦ kept_below (drop x k) c ])
    (drop_other x k c (λ e. omega arith)) ∙ ap (λ (r : ℕ). elim (k c) [ true ↦ suc r | false ↦ r ]) (below_same k x c (omega arith))

below_drop : (k : Marking) (x c : ℕ) → x < c → k x ≡ true → kept_below (drop x k) c + 1 ≡ kept_below k c
below_drop k x zero h e = absurd (omega arith)
below_drop k x (suc c) h e = go (eqb x c) refl (below_drop k x c)
  where
    step : (b : Bool) (r s : ℕ) → r + 1 ≡ s → elim b [ true ↦ suc r | false ↦ r ] + 1 ≡ elim b [ true ↦ suc s | false ↦ s ]
    step true r s f = omega arith
    step false r s f = f

    go : (b : Bool) → eqb x c ≡ b → (x < c → k x ≡ true → kept_below (drop x k) c + 1 ≡ kept_below k c) →
        kept_below (drop x k) (suc c) + 1 ≡ kept_below k (suc c)
    go true f on =
        let s : c ≡ x = sym (eqb-true x c f) in
        let a : kept_below (drop x k) (suc c) ≡ kept_below (drop x k) c =
        ap (λ (b : Bool). elim b [ true ↦ suc (kept_below (drop x k) c) | false ↦ kept_below (drop x k) c ]) (ap (drop x k) s
        ∙ drop_self x k) in
        let b : kept_below k (suc c) ≡ suc (kept_below k c) =
        ap (λ (b : Bool). elim b [ true ↦ suc (kept_below k c) | false ↦ kept_below k c ]) (ap k s ∙ e) in
        let d = below_same k x c (omega arith) in
        omega arith
    go false f on =
        let n = eqb-false x c f in
        let l : x < c = omega arith in
        ap (λ (b : Bool). elim b [ true ↦ suc (kept_below (drop x k) c) | false ↦ kept_below (drop x k) c ] + 1)
        (drop_other x k c (λ q. n (sym q))) ∙ step (k c) (kept_below (drop x k) c) (kept_below k c) (on l e)

total_drop : (k : Marking) (x : ℕ) → x < 1024 → k x ≡ true → total (drop x k) + 1 ≡ total k
unfolding total
total_drop k x h e = below_drop k x 1024 h e

below_small : (k : Marking) (c : ℕ) → kept_below k c ≤ c
below_small k zero = omega arith
below_small k (suc c) = go (k c) (below_small k c)
  where
    go : (b : Bool) → kept_below k c ≤ c → elim b [ true ↦ suc (kept_below k c) | false ↦ kept_below k c ] ≤ suc c
    go true h = omega arith
    go false h = omega arith

pub total_small : (k : Marking) → total k ≤ 1024
unfolding total
total_small k = below_small k 1024

-- ---- steps one after the other
pub fewer_none : (k : Marking) → Fewer 0 k k
fewer_none k = record { same = λ z. refl; fewer = omega arith }

pub fewer_trans : (i j : ℕ) (k l m : Marking) → Fewer i k l → Fewer j l m → Fewer (i + j) k m
fewer_trans i j k l m p q = record {
  same = λ z. q.same (omega arith) ∙ p.same (omega arith);
  fewer = let a = p.fewer in let b = q.fewer in omega arith;
}

pub moved_dropped : (k : ℕ) (w : List ℕ) (k' : ℕ) (w' : List ℕ) (x : ℕ) (w₃ : List ℕ) → x < 1024 → 16384 ≤ length w' → Moved k w k' w' →
    Dropped w' x w₃ → Moved k w k' w₃
moved_dropped k w k' w' x w₃ low room m d = record {
  len = d.len ∙ m.len;
  rest = λ j h. d.rest j (λ e. omega arith) ∙ m.rest j h;
  since = since_frame k w k' w' w₃ d.len room (λ j h. d.rest j (λ e. omega arith)) m.since;
}

-- what a turn does at the alternative x
pub data Turn (n k : ℕ) (w₁ : List ℕ) (at x left drops drops' : ℕ) (w₂ : List ℕ) : Type 0 where
  skipped : marking w₁ x ≡ false → w₂ ≡ w₁ → drops' ≡ drops → Turn n k w₁ at x left drops drops' w₂
  stood : (r : Option Step) (j i : ℕ) (w' : List ℕ) → marking w₁ x ≡ true → Tries n k w₁ at left r w' → r ≡ Some (stepped j i) → w₂ ≡ w' →
      drops' ≡ drops + i → Turn n k w₁ at x left drops drops' w₂
  failed : (r : Option Step) (w' w'' : List ℕ) → marking w₁ x ≡ true → Tries n k w₁ at left r w' → r ≡ None → Dropped w' x w'' → w₂ ≡ w'' →
      drops' ≡ drops + 1 → Turn n k w₁ at x left drops drops' w₂

module _ (n k : ℕ) (w : List ℕ) (p count left : ℕ) where
  -- `rest` alternatives are left, from `at` on
  pub record Sifting (c : Alternating n k w p count left) (rest at : ℕ) (w₁ : List ℕ) : Type 0 where
    pub b : Options
    pub l : ℕ
    pub stand : RestAny c.lies at l b
    pub within : at ≤ length c.s.t
    pub many : options b ≡ rest
    pub nests : NestsAny b left
    pub among : AmongRestAny c.s.U c.lies at l b stand
    pub above : c.lies.from ≤ l
    pub holds : Holds n c.es k w₁
    pub is : sift_at (graphs c.es) (marking w) c.lies.a ≡ sift_at (graphs c.es) (marking w₁) b

  pub sift_start : (c : Alternating n k w p count left) → Sifting c count p w
  sift_start c = record {
    b = c.lies.a;
    l = c.lies.from;
    stand = c.lies.at;
    within = c.lies.within;
    many = c.lies.many;
    nests = c.lies.nests;
    among = c.among;
    above = omega arith;
    holds = c.s.holds;
    is = refl;
  }

  pub moved_none : Alternating n k w p count left → Moved k w k w
  moved_none c = record { len = refl; rest = λ j h. refl; since = since_refl n c.es k w c.s.holds }

  pub sift_done : (c : Alternating n k w p count left) (rest at : ℕ) (w₁ : List ℕ) → Sifting c rest at w₁ → rest ≤ 0 →
      Sifted n k w p count left w₁ c
  unfolding Rattle.modes_by_marks.specs.Quickly.sift_at
  sift_done c rest at w₁ s h = record { holds' = s.holds; is = go s.b s.many s.is }
    where
      go : (b : Options) → options b ≡ rest → sift_at (graphs c.es) (marking w) c.lies.a ≡ sift_at (graphs c.es) (marking w₁) b →
          sift_at (graphs c.es) (marking w) c.lies.a ≡ marking w₁
      go no_more e f = f
      go (option x d b) e f = absurd (omega arith)

  module _ (c : Alternating n k w p count left) (rest at : ℕ) (w₁ : List ℕ) (m : Moved k w k w₁) (s : Sifting c rest at w₁)
      (h : 0 < rest) where
    loaded₁ : loaded_words w₁ ≡ c.s.t
    loaded₁ = moved_words k w k w₁ c.s.holds.long m ∙ c.s.loaded

    -- the next alternative
    record Next : Type 0 where
      x : ℕ
      d : Placed
      a : Options
      o : RestAny c.lies at s.l (option x d a)
      nested : NestsAny (option x d a) left
      amongst : AmongRestAny c.s.U c.lies at s.l (option x d a) o
      later : options a + 1 ≡ rest
      whole : sift_at (graphs c.es) (marking w) c.lies.a ≡ sift_at (graphs c.es) (marking w₁) (option x d a)

    next : Next
    next = go s.b s.stand s.many s.nests s.among s.is
      where
        go : (b : Options) (o : RestAny c.lies at s.l b) → options b ≡ rest → NestsAny b left →
            AmongRestAny c.s.U c.lies at s.l b o →
            sift_at (graphs c.es) (marking w) c.lies.a ≡ sift_at (graphs c.es) (marking w₁) b → Next
        go no_more o e f u q = absurd (omega arith)
        go (option x d a) o e f u q = record { x = x; d = d; a = a; o = o; nested = f; amongst = u; later = omega arith; whole = q }

    low : c.lies.to < number_step
    low = omega (arith, c.lies.low, c.s.ground.few)

    read : (w₂ : List ℕ) → 16384 ≤ length w₂ → loaded_words w₂ ≡ c.s.t → Read w₂ at next.x next.o.0
    read w₂ room e = (read_option w₂ room next.x next.d next.a at s.l c.lies.end c.lies.to
        (subst (λ (t : List ℕ). AtAny t at s.l (option next.x next.d next.a) c.lies.end c.lies.to) (sym e)
        next.o) low).0

    first : (at < next.o.0) × (next.o.0 ≤ length c.s.t) × (s.l < next.o.1)
    first = at_bounds c.s.t next.d at s.l next.o.0 next.o.1 next.o.3

    last : next.o.1 ≤ c.lies.to
    last = (any_bounds c.s.t next.a next.o.0 next.o.1 c.lies.end c.lies.to first.1 next.o.4).2

    room₁ : 16384 ≤ length w₁
    room₁ = omega (arith, m.len, c.s.holds.long)

    pub sift_here : ((at < 2048) × (16384 ≤ length w₁)) × (tail_at w₁ at < 2048)
    sift_here = let r = read w₁ room₁ loaded₁ in ((r.here, room₁), r.inside)

    abbrev asks : Entering n k w₁ at left
    asks = record {
      es = c.es;
      s = footing_as c.s w₁ (moved_words k w k w₁ c.s.holds.long m) s.holds;
      lies = record {
        d = next.d;
        from = s.l;
        end = next.o.0;
        to = next.o.1;
        at = next.o.3;
        low = omega (arith, last, c.lies.low);
        nests = next.nested.0;
      };
      among = next.amongst.0;
      free = free_narrow c.lies.from c.lies.to s.l next.o.1 c.es s.above last c.free;
    }

    pub sift_asks : Entering n k w₁ at left
    sift_asks = asks

    module _ (x : ℕ) (is_x : (x ≡ mark_at w₁ at) × (x < 1024)) where
      own : x ≡ next.x
      own = is_x.0 ∙ (read w₁ room₁ loaded₁).mark

      low_x : x < 1024
      low_x = is_x.1

      -- the mark of an alternative that was tried is as it was
      still : (w' : List ℕ) → try_at (graphs c.es) (marking w₁) next.d ≡ fails (marking w') → marking w₁ x ≡ true →
          marking w' x ≡ true
      still w' is e =
          try_only (graphs c.es) (marking w₁) (marking w') next.d (distinct_of asks.lies) is x
          (λ i. next.o.5 x (Memᴰ.head own) i) ∙ e

      module _ (drops drops' : ℕ) (w₂ : List ℕ) (turn : Turn n k w₁ at x left drops drops' w₂) where
        pub turn_moved : Moved k w k w₂
        turn_moved = go turn
          where
            go : Turn n k w₁ at x left drops drops' w₂ → Moved k w k w₂
            go (skipped e f q) = subst (λ (v : List ℕ). Moved k w k v) (sym f) m
            go (stood r j i w' e u y f q) = subst (λ (v : List ℕ). Moved k w k v) (sym f) (moved_trans k w k w₁ k w' m u.moved)
            go (failed r w' w'' e u y d f q) =
                subst (λ (v : List ℕ). Moved k w k v) (sym f)
                (moved_dropped k w k w' x w'' low_x (omega (arith, u.moved.len, room₁)) (moved_trans k w k w₁ k w' m u.moved) d)

        pub turn_fewer : Fewer drops (marking w) (marking w₁) → Fewer drops' (marking w) (marking w₂)
        turn_fewer p = go turn
          where
            go : Turn n k w₁ at x left drops drops' w₂ → Fewer drops' (marking w) (marking w₂)
            go (skipped e f q) = subst (λ (v : List ℕ). Fewer drops' (marking w) (marking v)) (sym f)
                (subst (λ (i : ℕ). Fewer i (marking w) (marking w₁)) (sym q) p)
            go (stood r j i w' e u y f q) =
                subst (λ (v : List ℕ). Fewer drops' (marking w) (marking v)) (sym f)
                (subst (λ (i : ℕ). Fewer i (marking w) (marking w')) (sym q)
                (fewer_trans drops i (marking w) (marking w₁) (marking w') p (u.standing j i y).0))
            go (failed r w' w'' e u y d f q) =
                let told = u.failing y in
                let up = total_drop (marking w') x low_x (still w' (told.1 asks).is e) in
                let same : total (marking w'') ≡ total (drop x (marking w')) = ap total d.marks in
                let one : Fewer 1 (marking w₁) (marking w'') =
                record { same = λ z. absurd (omega arith); fewer = omega (arith, told.0) } in
                subst (λ (v : List ℕ). Fewer drops' (marking w) (marking v)) (sym f)
                (subst (λ (i : ℕ). Fewer i (marking w) (marking w'')) (sym q)
                (fewer_trans drops 1 (marking w) (marking w₁) (marking w'') p one))

        room₂ : 16384 ≤ length w₂
        room₂ = omega (arith, turn_moved.len, c.s.holds.long)

        pub turn_inside : ((at < 2048) × (16384 ≤ length w₂)) × (tail_at w₂ at < 2048)
        turn_inside =
            let r = read w₂ room₂ (moved_words k w k w₂ c.s.holds.long turn_moved ∙ c.s.loaded) in ((r.here, room₂), r.inside)

        -- past the alternative
        past : (v : List ℕ) (at' : ℕ) → Moved k w k v → at' ≡ after_at v at → Holds n c.es k v →
            sift_at (graphs c.es) (marking w₁) (option next.x next.d next.a) ≡ sift_at (graphs c.es) (marking v) next.a →
            Sifting c (rest - 1) at' v
        past v at' mv e held is =
            let r = read v (omega (arith, mv.len, c.s.holds.long)) (moved_words k w k v c.s.holds.long mv ∙ c.s.loaded) in
            let count = next.later in
            let low = s.above in
            let near = first.2 in
            subst (λ (j : ℕ). Sifting c (rest - 1) j v) (sym (e ∙ r.after)) (record {
              b = next.a;
              l = next.o.1;
              stand = next.o.4;
              within = first.1;
              many = omega arith;
              nests = next.nested.1;
              among = next.amongst.1;
              above = omega arith;
              holds = held;
              is = next.whole ∙ is;
            })

        pub turn_on : (at' : ℕ) → at' ≡ after_at w₂ at → Sifting c (rest - 1) at' w₂
        turn_on at' z = go turn
          where
            kept_x : (b : Bool) → marking w₁ x ≡ b → marking w₁ next.x ≡ b
            kept_x b e = ap (marking w₁) (sym own) ∙ e

            go : Turn n k w₁ at x left drops drops' w₂ → Sifting c (rest - 1) at' w₂
            go (skipped e f q) = past w₂ at' turn_moved z (subst (Holds n c.es k) (sym f) s.holds)
                (sift_dropped (graphs c.es) (marking w₁) next.x next.d next.a (kept_x false e)
                ∙ ap (λ (v : List ℕ). sift_at (graphs c.es) (marking v) next.a) (sym f))
            go (stood r j i w' e u y f q) =
                let told = ((u.standing j i y).1 asks).1 in
                past w₂ at' turn_moved z (subst (Holds n c.es k) (sym f) told.holds')
                (sift_kept (graphs c.es) (marking w₁) next.x next.d next.a (kept_x true e)
                ∙ ap (λ (o : quickly.Step). sift_at (graphs c.es) (tried next.x o) next.a) told.is
                ∙ ap (λ (v : List ℕ). sift_at (graphs c.es) (marking v) next.a) (sym f))
            go (failed r w' w'' e u y d f q) =
                let told = (u.failing y).1 asks in
                let room : 16384 ≤ length w' = omega (arith, u.moved.len, room₁) in
                let lx = low_x in
                let held = holds_frame n c.es k w' told.holds' w'' d.len (λ j h. d.rest j (λ e. omega arith)) in
                past w₂ at' turn_moved z (subst (Holds n c.es k) (sym f) held)
                (sift_kept (graphs c.es) (marking w₁) next.x next.d next.a (kept_x true e)
                ∙ ap (λ (o : quickly.Step). sift_at (graphs c.es) (tried next.x o) next.a) told.is
                ∙ ap (λ (j : ℕ). sift_at (graphs c.es) (drop j (marking w')) next.a) (sym own)
                ∙ ap (λ (k : Marking). sift_at (graphs c.es) k next.a) (sym d.marks)
                ∙ ap (λ (v : List ℕ). sift_at (graphs c.es) (marking v) next.a) (sym f))

-- drops are few
pub fewer_small : (i : ℕ) (k k' : Marking) → Fewer i k k' → i ≤ 1024
fewer_small i k k' f = omega (arith, f.fewer, total_small k)
