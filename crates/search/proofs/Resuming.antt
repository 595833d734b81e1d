-- What is left is gone through: nothing, or a disjunction of which none, one or several are kept; engine's `resume_at`, return by return.
-- Assumes nothing.
use Prim.Native.Nat.{ℕ, zero, suc, ◌+◌, ◌-◌, ◌≤◌, ◌<◌}
use native.Mathlib.Omega.{arith}
use mathlib.Core.Path.{◌≡◌, refl, sym, ap, subst, ◌∙◌}
use mathlib.Core.Logic.{◌⊎◌, inr}
use mathlib.Core.List.{List, [], ◌∷◌}
use lib.ListN.{length}
use Rattle.theory.specs.Net.{Graph}
use Rattle.theory.specs.Descr.{alts}
use Rattle.area.specs.Region.{loaded_words}
use Rattle.area.proofs.Region.{words_many}
use Rattle.engine.specs.Placed.{Placed, place, Places, stop, ◌also◌, Options, no_more, option, strip_any, inner}
use Rattle.engine.specs.Marks.{Marking, kept_of, keep, keep_any}
use Rattle.engine.specs.Search.{Found, taking, dive, dive_any, dive_each}
use Rattle.engine.specs.Agenda.{resume, resume_at, each_at}
use Rattle.modes_by_marks.proofs.Marks.{kept_alts}
use Rattle.engine.proofs.Agenda.{resume_at_leaf, resume_at_more, choose_at_none, choose_at}
use Rattle.loading.specs.Entry.{graphs}
use Rattle.loading.specs.Numbered.{places, options}
use Rattle.loading.specs.At.{AtAll, AtAny}
use Rattle.loading.specs.Lying.{LyingAll, LyingAny, mark_of}
use Rattle.loading.proofs.Walking.{all_bounds, any_bounds}
use Rattle.loading.proofs.Lying.{lying_more, any_many}
use Rattle.marks.specs.Positions.{tail_at, disjunctions_at, alternatives_at}
use Rattle.marks.specs.Marked.{marking}
use Rattle.marks.specs.Readable.{Alternatives}
use Rattle.marks.specs.Tallied.{from_kept, Tallied}
use Rattle.marks.specs.declared.tally.Remnant.{Remnant}
use Rattle.marks.specs.declared.tally.Remnant.TheVariants.{Nothing, One, Several}
use Rattle.marks.proofs.Reading.{Read, reads_lying, alternatives, alternatives_is}
use Rattle.marks.proofs.First.{first_kept}
use Rattle.marks.proofs.Remnant.{kept_none, kept_alone, alone_at, kept_several}
use Rattle.loading.specs.Nesting.{NestsAll}
use Rattle.classes.proofs.Laws.{since_refl}
use Rattle.entering.specs.Taken.{AmongAll, AmongAnyOf, FreeAnyOf}
use Rattle.entering.specs.Clear.{ClearAll, ClearAnyOf}
use Rattle.entering.specs.Moved.{Moved}
use Rattle.entering.proofs.Certain.{LoneOf, lone_alone}
use Rattle.entering.proofs.Clearing.{clear_alone, clear_several}
use Rattle.entering.proofs.Moves.{moved_words}
use Rattle.search.specs.declared.agenda.Agenda.{Agenda}
use Rattle.search.specs.Frames.{first_at, first_more, Slot, slots, Lists, onto, Frame, FramesOn, plan_on}
use Rattle.search.specs.Searched.{Noting, Notes, Resuming, resumed, Resumes, Branching, chosen, Branches}
use Rattle.search.proofs.Slots.{slots_none, lists_size, lists_first}
use Rattle.search.proofs.Planning.{reach, frames_reach, frames_wide, frames_onto, Before, Opened, opened, open_asks}
use Rattle.search.proofs.Finding.{finds_none, finds_leaf, finds_same, finds_taking, moved_noted}

-- ---- engine's choice at one disjunction, by the number that is kept
module _ (m : Marking) (S : List Graph) (o : Options) (fs : List Places) where
  choose_none : kept_of m o ≡ 0 → choose_at m S o fs ≡ []
  choose_none e = ap (λ (z : Options). dive_any S z (resume_at m fs)) (none (keep_any m o) (sym (kept_alts m o) ∙ e))
      ∙ choose_at_none m S fs
    where
      none : (b : Options) → alts (strip_any b) ≡ 0 → b ≡ no_more
      none no_more h = refl
      none (option y f b) h = absurd (omega arith)

  choose_alone : (x : ℕ) (d : Placed) → keep_any m o ≡ option x (keep m d) no_more →
      choose_at m S o fs ≡ taking x (resume_at m (inner d ∷ fs) S)
  unfolding Rattle.modes_by_marks.specs.Search.dive Rattle.modes_by_marks.specs.Agenda.resume
  choose_alone x d e = ap (λ (z : Options). dive_any S z (resume_at m fs)) e ∙ go d
    where
      go : (d : Placed) → dive_any S (option x (keep m d) no_more) (resume_at m fs) ≡ taking x (resume_at m (inner d ∷ fs) S)
      go (place K ds) = refl

  choose_several : 1 < kept_of m o → choose_at m S o fs ≡ each_at m S o fs
  unfolding Rattle.modes_by_marks.specs.Search.dive
  choose_several h =
      let f = first_kept m o (omega arith) in
      let c = f.count in
      ap (λ (z : Options). dive_any S z (resume_at m fs)) f.left
      ∙ go f.x (keep m f.d) (keep_any m f.b) (let e = kept_alts m f.b in omega arith)
      ∙ sym (ap (λ (z : Options). dive_each S z (resume_at m fs)) f.left)
    where
      go : (x : ℕ) (d : Placed) (b : Options) → 0 < alts (strip_any b) →
          dive_any S (option x d b) (resume_at m fs) ≡ dive_each S (option x d b) (resume_at m fs)
      go x d no_more h = absurd (omega arith)
      go x d (option y e b) h = refl

same_found : (f h : List Graph → Found) → ((S : List Graph) → f S ≡ h S) → f ≡ h
same_found f h e = λ i S. e S i

onto_length : (at more : ℕ) (l : List Slot) → length (onto at more l) ≤ suc (length l)
onto_length at zero l = omega arith
onto_length at (suc more) l = omega arith

module _ (n k : ℕ) (w : List ℕ) (a : Agenda) where
  stays : Resuming n k w a → Moved k w k w
  stays c = record { len = refl; rest = λ j h. refl; since = since_refl n c.es k w c.s.holds }

  -- nothing is left
  pub resumes_leaf : Resuming n k w a → a.frames ≡ 0 → Resumes n k w a 1 w
  resumes_leaf c₀ z = record {
    moved = stays c₀;
    found = λ c. finds_same n k w c.es ([] ∷ []) (resumed c) 1 w (leaf c c.l c.frames (sym c.lists.is ∙ slots_none a z))
        (finds_leaf n k w c.es c.s.holds);
  }
    where
      leaf : (c : Resuming n k w a) (l : List Slot) (F : FramesOn c.s l 0 0) → l ≡ [] →
          resume_at c.s.m (plan_on c.s l 0 0 F) (graphs c.es) ≡ [] ∷ []
      leaf c [] F e = resume_at_leaf c.s.m (graphs c.es)
      leaf c (x ∷ l) F e = let z : ◌≡◌ {A = ℕ} 0 1 = cc in absurd (omega arith)

  module _ (some : a.frames ≡ 0 → ⊥) where
    -- the next disjunction, those after it in its frame, and the frames behind
    record Next (c : Resuming n k w a) : Type 0 where
      l : List Slot
      lists : Lists a ((first_at a, first_more a) ∷ l)
      some_left : 0 < (first_more a)
      here : (first_at a) < length c.s.t
      of : ℕ
      any : LyingAny n c.s.t ((first_at a) + 1) of (5 - length l - 1)
      of_is : alternatives_at w (first_at a) ≡ of
      among : AmongAnyOf c.s.U any
      clear : ClearAnyOf c.es c.s.m any
      later : Frame n c.s.t c.s.U c.es c.s.m any.end ((first_more a) - 1) (5 - length l)
      meets : any.to ≡ later.lies.from
      rest : FramesOn c.s l later.lies.end later.lies.to
      is : resumed c
          ≡ choose_at c.s.m (graphs c.es) any.a (later.lies.ds ∷ plan_on c.s l later.lies.end later.lies.to rest)

    next : (c : Resuming n k w a) → Next c
    next c =
        let f = lists_first a c.l c.lists some in
        let G = subst (λ (z : List Slot). (G : FramesOn c.s z 0 0)
        × (plan_on c.s z 0 0 G ≡ plan_on c.s c.l 0 0 c.frames)) f.1 (c.frames, refl) in
        go f.0 (record { few = c.lists.few; wide = c.lists.wide; is = c.lists.is ∙ f.1 }) G.0.1 G.0.0.lies G.0.4
        G.0.0.lies.ds G.0.0.lies.at G.0.0.lies.many G.0.0.lies.nests G.0.0.among G.0.0.clear
        (ap (λ (fs : List Places). resume_at c.s.m fs (graphs c.es)) (sym G.1))
      where
        go : (l : List Slot) → Lists a ((first_at a, first_more a) ∷ l) → 0 < (first_more a) →
            (x : LyingAll n c.s.t (first_at a) (first_more a) (5 - length l)) (rest : FramesOn c.s l x.end x.to)
            (ds : Places) (stand : AtAll c.s.t (first_at a) x.from ds x.end x.to) → places ds ≡ (first_more a) →
            NestsAll ds (5 - length l) → AmongAll c.s.U c.s.t (first_at a) x.from ds x.end x.to stand →
            ClearAll c.es c.s.t c.s.m (first_at a) x.from ds x.end x.to stand →
            resumed c ≡ resume_at c.s.m (ds ∷ plan_on c.s l x.end x.to rest) (graphs c.es) → Next c
        go l lists more x rest stop stand many nests among clear is = absurd (omega arith)
        go l lists more x rest (o also ds) stand many nests among clear is =
            let there = stand.2 in
            let first = any_bounds c.s.t o ((first_at a) + 1) x.from stand.0 stand.1 (omega arith) stand.4 in
            let last = (all_bounds c.s.t ds stand.0 stand.1 x.end x.to first.1 stand.5).2 in
            record {
              l = l;
              lists = lists;
              some_left = more;
              here = there;
              of = options o;
              any = record {
                a = o;
                from = x.from;
                end = stand.0;
                to = stand.1;
                at = stand.4;
                within = omega arith;
                low = omega (arith, last, x.low);
                many = refl;
                nests = nests.1;
              };
              of_is = alternatives_is w o ds (first_at a) x.from x.end x.to
                  (subst (λ (t : List ℕ). AtAll t (first_at a) x.from (o also ds) x.end x.to) (sym c.s.loaded) stand);
              among = among.0;
              clear = clear.0;
              later = record {
                lies = record {
                  ds = ds;
                  from = stand.1;
                  end = x.end;
                  to = x.to;
                  at = stand.5;
                  within = first.1;
                  low = x.low;
                  many = omega arith;
                  nests = nests.2;
                };
                among = among.1;
                clear = clear.1;
              };
              meets = refl;
              rest = rest;
              is = is ∙ resume_at_more c.s.m o ds (plan_on c.s l x.end x.to rest) (graphs c.es);
            }

    module _ (c : Resuming n k w a) where
      many_words : length c.s.t ≡ 2048
      many_words = ap length (sym c.s.loaded) ∙ words_many w c.s.holds.long

      pub resume_here : ((first_at a) < 2048) × (16384 ≤ length w)
      resume_here = (omega (arith, (next c).here, many_words), c.s.holds.long)

      pub resume_reach : reach (slots a) ≡ (first_at a)
      resume_reach = ap reach (next c).lists.is

      pub resume_some : (0 < a.frames) × (0 < (first_more a))
      resume_some =
          (let h = lists_size a ((first_at a, first_more a) ∷ (next c).l) (next c).lists in omega arith, (next c).some_left)

      four : length (next c).l ≤ 4
      four = omega (arith, lists_size a ((first_at a, first_more a) ∷ (next c).l) (next c).lists, (next c).lists.few)

    module _ (count : ℕ) (e : count ≡ alternatives_at w (first_at a)) where
      abbrev lies : (c : Resuming n k w a) → LyingAny n c.s.t ((first_at a) + 1) count (5 - length (next c).l - 1)
      lies c = any_many (sym (e ∙ (next c).of_is)) (next c).any

      abbrev counted : (c : Resuming n k w a) → Alternatives w ((first_at a) + 1) count
      counted c = alternatives w c.s.holds.long c.s.loaded c.s.ground.few (lies c)

      pub resume_counts : Resuming n k w a → Alternatives w ((first_at a) + 1) count
      resume_counts c = counted c

      module _ (which : Remnant) (after : ℕ) (tally : (s : Alternatives w ((first_at a) + 1) count) → Tallied w s which after) where
        abbrev told : (c : Resuming n k w a) → Tallied w (counted c) which after
        told c = tally (counted c)

        kept_marks : (c : Resuming n k w a) → kept_of c.s.m (lies c).a ≡ kept_of (marking w) (lies c).a
        kept_marks c = ap (λ (m : Marking). kept_of m (lies c).a) (sym c.s.marks)

        -- what is found of the rest of its frame, and then of those behind
        abbrev behind : (c : Resuming n k w a) → List Places
        behind c = (next c).later.lies.ds
            ∷ plan_on c.s (next c).l (next c).later.lies.end (next c).later.lies.to (next c).rest

        -- none is kept
        pub resumes_none : Resuming n k w a → which ≡ Nothing → Resumes n k w a 0 w
        resumes_none c₀ z = record {
          moved = stays c₀;
          found = λ c. finds_same n k w c.es [] (resumed c) 0 w ((next c).is
              ∙ choose_none c.s.m (graphs c.es) (lies c).a (behind c)
              (kept_marks c ∙ kept_none w (counted c) which after (told c) z))
              (finds_none n k w c.es c.s.holds);
        }

        module _ (later : Agenda) (la : (s : Slot) (l : List Slot) → Lists a (s ∷ l) → Lists later l) where
          pub resume_room : Resuming n k w a → ((first_more a) - 1 ≡ 0) ⊎ (later.frames < 5)
          resume_room c = inr (omega (arith, lists_size later (next c).l (la (first_at a, first_more a) (next c).l (next c).lists), four c))

          module _ (rest : Agenda) (lb : (l : List Slot) → Lists later l → Lists rest (onto after ((first_more a) - 1) l)) where
            abbrev slots₂ : (c : Resuming n k w a) → List Slot
            slots₂ c = onto (lies c).end ((first_more a) - 1) (next c).l

            lists₂ : (c : Resuming n k w a) → Lists rest (slots₂ c)
            lists₂ c = subst (λ (p : ℕ). Lists rest (onto p ((first_more a) - 1) (next c).l)) (told c).after_is
                (lb (next c).l (la (first_at a, first_more a) (next c).l (next c).lists))

            abbrev frames₂ : (c : Resuming n k w a) →
                (G : FramesOn c.s (slots₂ c) (lies c).end (lies c).to)
                × ((S : List Graph) → resume_at c.s.m (plan_on c.s (slots₂ c) (lies c).end (lies c).to G) S
                ≡ resume_at c.s.m (behind c) S)
            frames₂ c = frames_onto n c.s.t c.s.U c.s.m c.es (lies c).end ((first_more a) - 1) (5 - length (next c).l)
                (next c).later (next c).l (next c).rest (lies c).end (lies c).to (omega arith) (omega (arith, (next c).meets))
                (omega arith)

            abbrev left_of : (c : Resuming n k w a) → List Places
            left_of c = plan_on c.s (slots₂ c) (lies c).end (lies c).to (frames₂ c).0

            deep : (c : Resuming n k w a) → length (slots₂ c) + (5 - length (next c).l - 1) ≤ 5
            deep c = omega (arith, onto_length (lies c).end ((first_more a) - 1) (next c).l, four c)

            choice_is : (c : Resuming n k w a) → resumed c ≡ choose_at c.s.m (graphs c.es) (lies c).a (left_of c)
            choice_is c = (next c).is ∙ ap (λ (f : List Graph → Found). dive_any (graphs c.es) (keep_any c.s.m (lies c).a) f)
                (sym (same_found (resume_at c.s.m (left_of c)) (resume_at c.s.m (behind c)) (frames₂ c).1))

            -- one stands alone: it is pushed already
            module _ (first : ℕ) (one : which ≡ One first) where
              kept_one : (c : Resuming n k w a) → kept_of c.s.m (lies c).a ≡ 1
              kept_one c = kept_marks c ∙ kept_alone w (counted c) which after (told c) first one

              lone : (c : Resuming n k w a) → LoneOf c.s.m (lies c) c.s.U first
              lone c =
                  let stands = alone_at w (counted c) which after (told c) first one in
                  lone_alone c.s.U (loaded_words w) c.s.m (lies c) (next c).among (kept_one c) first (
                    stands.0,
                    subst (λ (m : Marking). AtAny (loaded_words w) first stands.0 (from_kept m (lies c).a) (lies c).end (lies c).to)
                        c.s.marks stands.1,
                  )

              -- it stands before what is left
              abbrev before₁ : (c : Resuming n k w a) →
                  Before c.s first (5 - length (next c).l - 1) (slots₂ c) (lies c).end (lies c).to (frames₂ c).0
              before₁ c = record {
                lies = lying_more (lies c).low (lone c).lies;
                among = (lone c).among;
                clear = (lone c).opens c.es (clear_alone c.s.m c.es (lies c) (kept_one c) (next c).clear);
                here = (lone c).far;
                low = (lone c).lies.low;
                deep = deep c;
              }

              opened₁ : (c : Resuming n k w a) → Opened c.s (before₁ c)
              opened₁ c = opened c.s (before₁ c)

              pub one_opens : Resuming n k w a →
                  ((first < 2048) × (16384 ≤ length w))
                  × ((tail_at w first < 2048) × ((disjunctions_at w (tail_at w first) ≡ 0) ⊎ (rest.frames < 5)))
              one_opens c = open_asks c.s (before₁ c) rest (lists₂ c)

              abbrev own : Resuming n k w a → ℕ
              own c = mark_of (lone c).lies

              read : (c : Resuming n k w a) (v : List ℕ) → 16384 ≤ length v → loaded_words v ≡ c.s.t →
                  Read v first (own c) (lone c).lies.end
              read c v room f = reads_lying v room f c.s.ground.few (lying_more (lies c).low (lone c).lies)

              module _ (b : Agenda) (lists : (l : List Slot) → Lists rest l →
                  Lists b (onto (tail_at w first + 1) (disjunctions_at w (tail_at w first)) l)) where
                abbrev slots₁ : (c : Resuming n k w a) → List Slot
                slots₁ c = onto (tail_at w first + 1) (disjunctions_at w (tail_at w first)) (slots₂ c)

                abbrev wide₁ : (c : Resuming n k w a) →
                    (G : FramesOn c.s (slots₁ c) 0 0)
                    × (plan_on c.s (slots₁ c) 0 0 G ≡ plan_on c.s (slots₁ c) (first + 1) (lone c).lies.from (opened₁ c).frames)
                wide₁ c = frames_wide n c.s.t c.s.U c.s.m c.es (slots₁ c) (first + 1) (lone c).lies.from 0 0 (omega arith)
                    (omega arith) (opened₁ c).frames

                abbrev resuming₁ : Resuming n k w a → Resuming n k w b
                resuming₁ c = record { es = c.es; s = c.s; l = slots₁ c; lists = lists (slots₂ c) (lists₂ c); frames = (wide₁ c).0 }

                pub one_asks : Resuming n k w a → Resuming n k w b
                one_asks c = resuming₁ c

                pub one_falls : Resuming n k w a → (first_at a) < reach (slots b)
                one_falls c =
                    let r = frames_reach n c.s.t c.s.U c.s.m c.es (many_words c) (slots₁ c) (first + 1) (lone c).lies.from
                    (opened₁ c).frames in
                    let f : reach (slots b) ≡ reach (slots₁ c) = ap reach (lists (slots₂ c) (lists₂ c)).is in
                    omega (arith, (lone c).near)

                found_is : (c : Resuming n k w a) → resumed c ≡ taking (own c) (resumed (resuming₁ c))
                found_is c =
                    choice_is c
                    ∙ choose_alone c.s.m (graphs c.es) (lies c).a (left_of c) (own c) (lone c).lies.d (lone c).alone
                    ∙ ap (taking (own c)) (sym ((opened₁ c).is (graphs c.es))
                    ∙ ap (λ (fs : List Places). resume_at c.s.m fs (graphs c.es)) (sym (wide₁ c).1))

                module _ (r : ℕ) (w₁ : List ℕ) (v : Resumes n k w b r w₁) (c₀ : Resuming n k w a) where
                  room₁ : 16384 ≤ length w₁
                  room₁ = omega (arith, v.moved.len, c₀.s.holds.long)

                  words₁ : loaded_words w₁ ≡ loaded_words w
                  words₁ = moved_words k w k w₁ c₀.s.holds.long v.moved

                  pub one_notes : Noting w₁ first
                  one_notes = let x = read c₀ w₁ room₁ (words₁ ∙ c₀.s.loaded) in
                      record { room = room₁; here = x.here; inside = x.inside }

                  pub resumes_one : (w₂ : List ℕ) → Notes w₁ first r w₂ → Resumes n k w a r w₂
                  resumes_one w₂ y = record {
                    moved = moved_noted k w k w₁ w₂ first r room₁ v.moved y;
                    found = λ c. finds_same n k w c.es (taking (own c) (resumed (resuming₁ c))) (resumed c) r w₂ (found_is c)
                        (finds_taking n k w c.es (own c) (resumed (resuming₁ c)) first r w₁ w₂ room₁ (v.found (resuming₁ c)) y
                        (read c w₁ room₁ (words₁ ∙ c.s.loaded)).mark (ap (λ (m : Marking). m (own c)) c.s.marks ∙ (lone c).kept));
                  }

            -- several are kept
            module _ (many : ℕ) (several : which ≡ Several many) where
              more : (c : Resuming n k w a) → (j : ℕ) × (kept_of c.s.m (lies c).a ≡ suc (suc j))
              more c = let two = kept_several w (counted c) which after (told c) many several in (two.0, kept_marks c ∙ two.1)

              free : (c : Resuming n k w a) → FreeAnyOf (lies c) c.es
              free c = clear_several c.s.m c.es (lies c) (more c).0 (more c).1 (next c).clear

              abbrev choosing₁ : Resuming n k w a → Branching n k w ((first_at a) + 1) count rest
              choosing₁ c = record {
                es = c.es;
                s = c.s;
                left = 5 - length (next c).l - 1;
                shallow = omega arith;
                lies = lies c;
                among = (next c).among;
                free = free c;
                l = slots₂ c;
                lists = lists₂ c;
                deep = deep c;
                frames = (frames₂ c).0;
              }

              pub several_asks : Resuming n k w a → Branching n k w ((first_at a) + 1) count rest
              several_asks c = choosing₁ c

              pub resumes_several : (r : ℕ) (w' : List ℕ) → Branches n k w ((first_at a) + 1) count rest r w' → Resumes n k w a r w'
              resumes_several r w' v = record {
                moved = v.moved;
                found = λ c. finds_same n k w c.es (chosen (choosing₁ c)) (resumed c) r w' (choice_is c
                    ∙ choose_several c.s.m (graphs c.es) (lies c).a (left_of c) (omega (arith, (more c).1)))
                    (v.found (choosing₁ c));
              }
