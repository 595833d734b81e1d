-- The kept ones of several alternatives are taken in order; engine's `each_at`: what was found and what is still to be taken is the whole.
-- Assumes nothing.
use Prim.Native.Nat.{ℕ, ◌+◌, ◌-◌, ◌≤◌, ◌<◌, min}
use native.Mathlib.Omega.{arith}
use mathlib.Core.Path.{◌≡◌, refl, sym, ap, subst, ◌∙◌}
use mathlib.Core.Bool.{Bool, true, false}
use mathlib.Core.List.{List, [], ◌++◌, append-nil, append_assoc}
use lib.ListN.{length}
use Rattle.theory.specs.Limits.{choice_stop}
use Rattle.theory.specs.Net.{Graph}
use Rattle.area.specs.Region.{loaded_words}
use Rattle.engine.specs.Placed.{Placed, Places, Options, no_more, option}
use Rattle.engine.specs.Marks.{Marking}
use Rattle.engine.specs.Search.{Found, taking}
use Rattle.engine.specs.Agenda.{dive_at, each_at}
use Rattle.engine.proofs.Agenda.{each_at_none, each_at_dropped, each_at_kept}
use Rattle.loading.specs.Entry.{graphs}
use Rattle.packing.specs.Packed.{number_step}
use Rattle.loading.specs.Numbered.{options}
use Rattle.loading.specs.At.{AtAny}
use Rattle.loading.specs.Lying.{RestAny}
use Rattle.loading.proofs.Walking.{at_bounds, any_bounds}
use Rattle.marks.specs.Positions.{tail_at, mark_at, after_at}
use Rattle.marks.specs.Marked.{marking}
use Rattle.marks.proofs.Reading.{Read, read_option}
use Rattle.loading.specs.Nesting.{NestsAny}
use Rattle.classes.proofs.Laws.{since_refl}
use Rattle.entering.specs.Taken.{AmongRestAny}
use Rattle.entering.specs.Moved.{Moved}
use Rattle.entering.proofs.Certain.{free_narrow}
use Rattle.entering.proofs.Moves.{moved_trans, moved_words}
use Rattle.search.specs.declared.agenda.Agenda.{Agenda}
use Rattle.search.specs.Frames.{FramesOn, plan_on}
use Rattle.leaving.specs.Found.{Finds}
use Rattle.search.specs.Searched.{Taking, taken_with, Takes, Branching, chosen}
use Rattle.search.proofs.Planning.{frames_wide}
use Rattle.search.proofs.Finding.{finds_none, finds_same, finds_small, finds_append}

-- what a turn does at the alternative x
pub data Turn (n k : ℕ) (w₁ : List ℕ) (at x : ℕ) (a : Agenda) (sum sum' : ℕ) (w₂ : List ℕ) : Type 0 where
  skipped : marking w₁ x ≡ false → w₂ ≡ w₁ → sum' ≡ sum → Turn n k w₁ at x a sum sum' w₂
  took : (r : ℕ) (w' : List ℕ) → marking w₁ x ≡ true → Takes n k w₁ at a r w' → w₂ ≡ w' → sum' ≡ min (sum + r) choice_stop →
      Turn n k w₁ at x a sum sum' w₂

module _ (n k : ℕ) (w : List ℕ) (p count : ℕ) (a : Agenda) where
  abbrev left_of : Branching n k w p count a → List Places
  left_of c = plan_on c.s c.l c.lies.end c.lies.to c.frames

  -- `left` alternatives are to be taken, from `at` on
  pub record Going (c : Branching n k w p count a) (left at sum : ℕ) (w₁ : List ℕ) : Type 0 where
    pub b : Options
    pub l : ℕ
    pub stand : RestAny c.lies at l b
    pub within : at ≤ length c.s.t
    pub many : options b ≡ left
    pub nests : NestsAny b c.left
    pub among : AmongRestAny c.s.U c.lies at l b stand
    pub above : c.lies.from ≤ l
    pub on : p ≤ at
    pub f : Found
    pub is : chosen c ≡ f ++ each_at c.s.m (graphs c.es) b (left_of c)
    pub finds : Finds n k w c.es f sum w₁

  pub choose_moved : Branching n k w p count a → Moved k w k w
  choose_moved c = record { len = refl; rest = λ j h. refl; since = since_refl n c.es k w c.s.holds }

  pub choose_start : (c : Branching n k w p count a) → Going c count p 0 w
  choose_start c = record {
    b = c.lies.a;
    l = c.lies.from;
    stand = c.lies.at;
    within = c.lies.within;
    many = c.lies.many;
    nests = c.lies.nests;
    among = c.among;
    above = omega arith;
    on = omega arith;
    f = [];
    is = refl;
    finds = finds_none n k w c.es c.s.holds;
  }

  pub choose_done : (c : Branching n k w p count a) (left at sum : ℕ) (w₁ : List ℕ) → Going c left at sum w₁ → left ≤ 0 →
      Finds n k w c.es (chosen c) sum w₁
  choose_done c left at sum w₁ s h = finds_same n k w c.es s.f (chosen c) sum w₁ (go s.b s.many s.is) s.finds
    where
      go : (b : Options) → options b ≡ left → chosen c ≡ s.f ++ each_at c.s.m (graphs c.es) b (left_of c) → chosen c ≡ s.f
      go no_more e q = q ∙ ap (λ (z : Found). s.f ++ z) (each_at_none c.s.m (graphs c.es) (left_of c)) ∙ append-nil s.f
      go (option x d b) e q = absurd (omega arith)

  pub choose_small : (c : Branching n k w p count a) (left at sum : ℕ) (w₁ : List ℕ) → Going c left at sum w₁ → sum ≤ choice_stop
  choose_small c left at sum w₁ s = finds_small n k w c.es s.f sum w₁ s.finds

  module _ (c : Branching n k w p count a) (left at sum : ℕ) (w₁ : List ℕ) (mv : Moved k w k w₁) (s : Going c left at sum w₁)
      (h : 0 < left) where
    -- the next alternative
    record Next : Type 0 where
      x : ℕ
      d : Placed
      b : Options
      o : RestAny c.lies at s.l (option x d b)
      nested : NestsAny (option x d b) c.left
      amongst : AmongRestAny c.s.U c.lies at s.l (option x d b) o
      later : options b + 1 ≡ left
      whole : chosen c ≡ s.f ++ each_at c.s.m (graphs c.es) (option x d b) (left_of c)

    next : Next
    next = go s.b s.stand s.many s.nests s.among s.is
      where
        go : (b : Options) (o : RestAny c.lies at s.l b) → options b ≡ left → NestsAny b c.left →
            AmongRestAny c.s.U c.lies at s.l b o →
            chosen c ≡ s.f ++ each_at c.s.m (graphs c.es) b (left_of c) → Next
        go no_more o e f u q = absurd (omega arith)
        go (option x d b) o e f u q = record { x = x; d = d; b = b; o = o; nested = f; amongst = u; later = omega arith; whole = q }

    low : c.lies.to < number_step
    low = omega (arith, c.lies.low, c.s.ground.few)

    first : (at < next.o.0) × (next.o.0 ≤ length c.s.t) × (s.l < next.o.1)
    first = at_bounds c.s.t next.d at s.l next.o.0 next.o.1 next.o.3

    last : (next.o.0 ≤ c.lies.end) × (c.lies.end ≤ length c.s.t) × (next.o.1 ≤ c.lies.to)
    last = any_bounds c.s.t next.b next.o.0 next.o.1 c.lies.end c.lies.to first.1 next.o.4

    read : (v : List ℕ) → 16384 ≤ length v → loaded_words v ≡ c.s.t → Read v at next.x next.o.0
    read v room e = (read_option v room next.x next.d next.b at s.l c.lies.end c.lies.to
        (subst (λ (t : List ℕ). AtAny t at s.l (option next.x next.d next.b) c.lies.end c.lies.to) (sym e)
        next.o) low).0

    room₁ : 16384 ≤ length w₁
    room₁ = omega (arith, mv.len, c.s.holds.long)

    words₁ : loaded_words w₁ ≡ loaded_words w
    words₁ = moved_words k w k w₁ c.s.holds.long mv

    loaded₁ : loaded_words w₁ ≡ c.s.t
    loaded₁ = words₁ ∙ c.s.loaded

    pub choose_here : ((at < 2048) × (16384 ≤ length w₁)) × (tail_at w₁ at < 2048)
    choose_here = let r = read w₁ room₁ loaded₁ in ((r.here, room₁), r.inside)

    module _ (x : ℕ) (is_x : (x ≡ mark_at w₁ at) × (x < 1024)) where
      own : x ≡ next.x
      own = is_x.0 ∙ (read w₁ room₁ loaded₁).mark

      -- the marks of w₁ are those of c
      mark_is : (b : Bool) → marking w₁ x ≡ b → c.s.m next.x ≡ b
      mark_is b e = ap (λ (m : Marking). m next.x) (sym (s.finds.marks ∙ c.s.marks)) ∙ ap (marking w₁) (sym own) ∙ e

      abbrev after_it : (G : FramesOn c.s c.l next.o.0 next.o.1)
          × (plan_on c.s c.l next.o.0 next.o.1 G ≡ left_of c)
      after_it = frames_wide n c.s.t c.s.U c.s.m c.es c.l c.lies.end c.lies.to next.o.0 next.o.1 last.0
          last.2 c.frames

      abbrev asks : marking w₁ x ≡ true → Taking n k w₁ at a
      asks e = record {
        es = c.es;
        s = record {
          t = c.s.t;
          loaded = loaded₁;
          m = c.s.m;
          marks = s.finds.marks
              ∙ c.s.marks;
          U = c.s.U;
          ground = c.s.ground;
          holds = s.finds.holds;
          inside = c.s.inside;
        };
        left = c.left;
        shallow = c.shallow;
        lies = record {
          d = next.d;
          from = s.l;
          end = next.o.0;
          to = next.o.1;
          at = next.o.3;
          low = omega (arith, last.2, c.lies.low);
          nests = next.nested.0;
        };
        among = next.amongst.0;
        free = free_narrow c.lies.from c.lies.to s.l next.o.1 c.es s.above last.2 c.free;
        kept = ap c.s.m next.o.2 ∙ mark_is true e;
        l = c.l;
        lists = c.lists;
        deep = c.deep;
        frames = after_it.0;
      }

      pub choose_asks : marking w₁ x ≡ true → Taking n k w₁ at a
      choose_asks e = asks e

      taken_is : (e : marking w₁ x ≡ true) →
          taken_with (asks e) ≡ taking next.x (dive_at c.s.m (graphs c.es) next.d (left_of c))
      taken_is e = ap (λ (y : ℕ). taking y
          (dive_at c.s.m (graphs c.es) next.d
          (plan_on c.s c.l next.o.0 next.o.1 after_it.0))) next.o.2
          ∙ ap (λ (fs : List Places). taking next.x (dive_at c.s.m (graphs c.es) next.d fs)) after_it.1

      module _ (sum' : ℕ) (w₂ : List ℕ) (turn : Turn n k w₁ at x a sum sum' w₂) where
        pub turn_moved : Moved k w k w₂
        turn_moved = go turn
          where
            go : Turn n k w₁ at x a sum sum' w₂ → Moved k w k w₂
            go (skipped e f q) = subst (Moved k w k) (sym f) mv
            go (took r w' e u f q) = subst (Moved k w k) (sym f) (moved_trans k w k w₁ k w' mv u.moved)

        pub turn_on : (at' : ℕ) → at' ≡ after_at w₁ at → Going c (left - 1) at' sum' w₂
        turn_on at' z = subst (λ (j : ℕ). Going c (left - 1) j sum' w₂) (sym (z ∙ (read w₁ room₁ loaded₁).after)) (record {
          b = next.b;
          l = next.o.1;
          stand = next.o.4;
          within = first.1;
          many = (let e = next.later in omega arith);
          nests = next.nested.1;
          among = next.amongst.1;
          above = (let e = s.above in let r = first.2 in omega arith);
          on = (let e = s.on in let r = first.0 in omega arith);
          f = more turn;
          is = next.whole ∙ whole turn;
          finds = finds turn;
        })
          where
            each : List Graph → Options → Found
            each S b = each_at c.s.m S b (left_of c)

            more : Turn n k w₁ at x a sum sum' w₂ → Found
            more (skipped e f q) = s.f
            more (took r w' e u f q) = s.f ++ taken_with (asks e)

            whole : (y : Turn n k w₁ at x a sum sum' w₂) →
                s.f ++ each_at c.s.m (graphs c.es) (option next.x next.d next.b) (left_of c) ≡ more y
                ++ each_at c.s.m (graphs c.es) next.b (left_of c)
            whole (skipped e f q) = ap (λ (y : Found). s.f ++ y)
                (each_at_dropped c.s.m (graphs c.es) next.x next.b (left_of c) next.d (mark_is false e))
            whole (took r w' e u f q) =
                ap (λ (y : Found). s.f ++ y) (each_at_kept c.s.m (graphs c.es) next.x next.b (left_of c) next.d
                (mark_is true e) ∙ ap (λ (y : Found). y ++ each_at c.s.m (graphs c.es) next.b (left_of c))
                (sym (taken_is e)))
                ∙ sym (append_assoc s.f (taken_with (asks e)) (each_at c.s.m (graphs c.es) next.b (left_of c)))

            finds : (y : Turn n k w₁ at x a sum sum' w₂) → Finds n k w c.es (more y) sum' w₂
            finds (skipped e f q) = subst (λ (v : List ℕ). Finds n k w c.es s.f sum' v) (sym f)
                (subst (λ (i : ℕ). Finds n k w c.es s.f i w₁) (sym q) s.finds)
            finds (took r w' e u f q) = subst (λ (v : List ℕ). Finds n k w c.es (s.f ++ taken_with (asks e)) sum' v) (sym f)
                (finds_append n k w c.es s.f (taken_with (asks e)) sum r sum' w₁ w' s.finds (u.found (asks e)) q)
