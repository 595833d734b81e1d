-- The frames that are left: where they stand, what a push changes of them, and the disjunctions of an alternative before them.
-- Assumes nothing.
use Prim.Native.Nat.{ℕ, zero, suc, ◌+◌, ◌-◌, ◌≤◌, ◌<◌}
use native.Mathlib.Omega.{arith}
use mathlib.Core.Path.{◌≡◌, refl, sym, ap, subst, ◌∙◌}
use mathlib.Core.Logic.{◌⊎◌, inl, inr, ⊎_elim}
use mathlib.Core.List.{List, [], ◌∷◌, Memᴰ}
use lib.ListN.{length}
use Rattle.theory.specs.Net.{Graph}
use Rattle.engine.specs.Placed.{Placed, place, Places, stop, ◌also◌, Options, no_more, option, inner}
use Rattle.engine.specs.Marks.{Marking}
use Rattle.engine.specs.Agenda.{resume_at}
use Rattle.engine.proofs.Agenda.{resume_at_stop}
use Rattle.loading.specs.Entry.{Entry}
use Rattle.loading.specs.Loaded.{extent}
use Rattle.loading.specs.Numbered.{places}
use Rattle.loading.specs.Lying.{Lying, Here}
use Rattle.loading.proofs.Lying.{all_bounds_of}
use Rattle.marks.specs.Positions.{tail_at, disjunctions_at}
use Rattle.marks.specs.Readable.{Readable}
use Rattle.marks.proofs.Reading.{readable, reads, tail_of, disjunctions_of}
use Rattle.loading.specs.Nesting.{Nests, NestsAll, NestsAny}
use Rattle.entering.specs.Taken.{AmongHere, AmongOf}
use Rattle.entering.specs.Clear.{ClearHere, ClearOf, ClearAllOf}
use Rattle.entering.specs.Footing.{Footing}
use Rattle.entering.proofs.Clearing.{all_alike_of}
use Rattle.search.specs.declared.agenda.Agenda.{Agenda}
use Rattle.search.specs.Frames.{Slot, Lists, onto, Frame, Frames, plan, FramesOn, plan_on}
use Rattle.search.proofs.Slots.{lists_size}

-- what nests may nest deeper
mutual
  pub nests_more : (d : Placed) (i j : ℕ) → i ≤ j → Nests d i → Nests d j
  nests_more (place g ds) i j h s = nests_all_more ds i j h s

  nests_all_more : (ds : Places) (i j : ℕ) → i ≤ j → NestsAll ds i → NestsAll ds j
  nests_all_more stop i j h s = tt
  nests_all_more (a also ds) i j h s = let some = s.0 in
      (omega arith, nests_any_more a (i - 1) (j - 1) (omega arith) s.1, nests_all_more ds i j h s.2)

  nests_any_more : (a : Options) (i j : ℕ) → i ≤ j → NestsAny a i → NestsAny a j
  nests_any_more no_more i j h s = tt
  nests_any_more (option x d a) i j h s = (nests_more d i j h s.0, nests_any_more a i j h s.1)

abbrev pub lying_deeper : {n : ℕ} {t : List ℕ} {g i j : ℕ} → i ≤ j → Lying n t g i → Lying n t g j
lying_deeper {n} {t} {g} {i} {j} h l = record {
  d = l.d;
  from = l.from;
  end = l.end;
  to = l.to;
  at = l.at;
  low = l.low;
  nests = nests_more l.d i j h l.nests;
}

-- where the first frame is
abbrev pub reach : List Slot → ℕ
reach [] = 2048
reach (s ∷ l) = s.0

module _ (n : ℕ) (t : List ℕ) (U : List Entry) (m : Marking) where
  module _ (es : List Entry) where
    pub frames_bound : (l : List Slot) (pos lo : ℕ) → Frames n t U es m l pos lo → (pos ≤ length t) × (lo ≤ n)
    frames_bound [] pos lo F = F
    frames_bound (s ∷ l) pos lo F =
        let f = F.0 in
        let b = (all_bounds_of f.lies).2 in
        let r = (frames_bound l f.lies.end f.lies.to F.4).1 in
        let first = F.2 in
        let low = F.3 in
        let there = f.lies.within in
        (omega arith, omega arith)

    pub frames_reach : length t ≡ 2048 → (l : List Slot) (pos lo : ℕ) → Frames n t U es m l pos lo → pos ≤ reach l
    frames_reach e [] pos lo F = let h = F.0 in omega arith
    frames_reach e (s ∷ l) pos lo F = F.2

    -- they stand from an earlier place on
    pub frames_wide : (l : List Slot) (pos lo pos' lo' : ℕ) → pos' ≤ pos → lo' ≤ lo → (F : Frames n t U es m l pos lo) →
        (G : Frames n t U es m l pos' lo') × (plan n t U es m l pos' lo' G ≡ plan n t U es m l pos lo F)
    frames_wide [] pos lo pos' lo' h h' F = let a = F.0 in let b = F.1 in ((omega arith, omega arith), refl)
    frames_wide (s ∷ l) pos lo pos' lo' h h' F = let a = F.2 in let b = F.3 in ((F.0, F.1, omega arith, omega arith, F.4), refl)

    -- a frame before them
    pub frames_onto : (at more left : ℕ) (f : Frame n t U es m at more left) (l : List Slot)
        (F : Frames n t U es m l f.lies.end f.lies.to) (pos lo : ℕ) → pos ≤ at → lo ≤ f.lies.from → left ≤ 5 - length l →
        (G : Frames n t U es m (onto at more l) pos lo)
        × ((S : List Graph) → resume_at m (plan n t U es m (onto at more l) pos lo G) S
        ≡ resume_at m (f.lies.ds ∷ plan n t U es m l f.lies.end f.lies.to F) S)
    frames_onto at zero left f l F pos lo h h' deep =
        let b = all_bounds_of f.lies in
        let x = b.0 in
        let y = b.2 in
        let G = frames_wide l f.lies.end f.lies.to pos lo (omega arith) (omega arith) F in
        (G.0, λ S. ap (λ (fs : List Places). resume_at m fs S) G.1 ∙ sym (none f.lies.ds f.lies.many S))
      where
        none : (ds : Places) → places ds ≡ 0 → (S : List Graph) →
            resume_at m (ds ∷ plan n t U es m l f.lies.end f.lies.to F) S
            ≡ resume_at m (plan n t U es m l f.lies.end f.lies.to F) S
        none stop e S = resume_at_stop m (plan n t U es m l f.lies.end f.lies.to F) S
        none (a also ds) e S = absurd (omega arith)
    frames_onto at (suc more) left f l F pos lo h h' deep = (
      (
        record {
          lies = record {
            ds = f.lies.ds;
            from = f.lies.from;
            end = f.lies.end;
            to = f.lies.to;
            at = f.lies.at;
            within = f.lies.within;
            low = f.lies.low;
            many = f.lies.many;
            nests = nests_all_more f.lies.ds left (5 - length l) deep f.lies.nests;
          };
          among = f.among;
          clear = f.clear;
        },
        omega arith,
        h,
        h',
        F,
      ),
      λ S. refl,
    )

  -- ---- graphs with lower numbers are pushed
  pub frames_pushed : (es es' : List Entry) (l : List Slot) (pos lo : ℕ) →
      ((o : Entry) → Memᴰ o es' → Memᴰ o es ⊎ (o.number < lo)) → (F : Frames n t U es m l pos lo) →
      (G : Frames n t U es' m l pos lo) × (plan n t U es' m l pos lo G ≡ plan n t U es m l pos lo F)
  frames_pushed es es' [] pos lo new F = (F, refl)
  frames_pushed es es' (s ∷ l) pos lo new F =
      let f = F.0 in
      let low = F.3 in
      let b = (all_bounds_of f.lies).2 in
      let r = frames_pushed es es' l f.lies.end f.lies.to (λ o i. ⊎_elim (λ j. inl j) (λ h. inr (omega arith)) (new o i)) F.4 in
      let clear : ClearAllOf es' m f.lies =
      all_alike_of m m es es' f.lies (λ y i. refl)
      (λ o i. ⊎_elim (λ j. inl j) (λ h. inr (inl (omega arith))) (new o i)) f.clear in (
        (
          record { lies = f.lies; among = f.among; clear = clear },
          F.1,
          F.2,
          F.3,
          r.0,
        ),
        ap {B = List Places} (λ (fs : List Places). f.lies.ds ∷ fs) r.1,
      )

-- ---- the disjunctions of a description that stands loaded at g, before frames that stand after it
module _ {n k : ℕ} {w : List ℕ} {es : List Entry} (s : Footing n k w es) where
  -- it stands before them, all that is certain in it is pushed, and it does not nest too deep for them
  pub record Before (g left : ℕ) (l : List Slot) (pos lo : ℕ) (F : FramesOn s l pos lo) : Type 0 where
    pub lies : Lying n s.t g left
    pub among : AmongOf s.U lies
    pub clear : ClearOf es s.m lies
    pub here : lies.end ≤ pos
    pub low : lies.to ≤ lo
    pub deep : length l + left ≤ 5

  -- where `descend` puts them
  abbrev pub descended : ℕ → List Slot → List Slot
  descended g l = onto (tail_at w g + 1) (disjunctions_at w (tail_at w g)) l

  module _ {g left : ℕ} {l : List Slot} {pos lo : ℕ} {F : FramesOn s l pos lo} (b : Before g left l pos lo F) where
    abbrev read : Readable w g left
    read = readable w s.holds.long s.loaded s.ground.few b.lies

    room : (a : Agenda) → Lists a l → (disjunctions_at w (tail_at w g) ≡ 0) ⊎ (a.frames < 5)
    room a h = go b.lies.d read.lies.at b.lies.nests
      where
        go : (d : Placed) → Here read.lies d → Nests d left → (disjunctions_at w (tail_at w g) ≡ 0) ⊎ (a.frames < 5)
        go (place K stop) o s = inl (ap (disjunctions_at w) (tail_of read K stop o) ∙ disjunctions_of read K stop o)
        go (place K (x also ds)) o s = let e = lists_size a l h in let some = s.0 in inr (omega (arith, b.deep))

    -- what `descend` asks
    pub open_asks : (a : Agenda) → Lists a l →
        ((g < 2048) × (16384 ≤ length w)) × ((tail_at w g < 2048) × ((disjunctions_at w (tail_at w g) ≡ 0) ⊎ (a.frames < 5)))
    open_asks a h = let r = reads read in ((r.here, s.holds.long), (r.inside, room a h))

    pub record Opened : Type 0 where
      pub frames : FramesOn s (descended g l) (g + 1) b.lies.from
      pub is : (S : List Graph) → resume_at s.m (plan_on s (descended g l) (g + 1) b.lies.from frames) S
          ≡ resume_at s.m (inner b.lies.d ∷ plan_on s l pos lo F) S

    pub opened : Opened
    opened = go b.lies.d b.lies.at read.lies.at b.lies.nests b.among b.clear refl
      where
        go : (e : Placed) (o : Here b.lies e) → Here read.lies e → Nests e left → AmongHere s.U b.lies e o →
            ClearHere es s.m b.lies e o → inner b.lies.d ≡ inner e → Opened
        go (place K ds) o ow nests u c same =
            let some = o.0 in
            let there = o.4 in
            let f : Frame n s.t s.U es s.m (g + extent K + 1) (places ds) left =
            record {
              lies = record {
                ds = ds;
                from = b.lies.from + length K;
                end = b.lies.end;
                to = b.lies.to;
                at = o.6;
                within = omega arith;
                low = b.lies.low;
                many = refl;
                nests = nests;
              };
              among = u.1;
              clear = c;
            } in
            let W = frames_wide n s.t s.U s.m es l pos lo b.lies.end b.lies.to b.here b.low F in
            let G = frames_onto n s.t s.U s.m es (g + extent K + 1) (places ds) left f l W.0 (g + 1) b.lies.from
            (omega arith) (omega arith) (omega (arith, b.deep)) in
            let e : g + extent K + 1 ≡ tail_at w g + 1 = ap (λ (p : ℕ). p + 1) (sym (tail_of read K ds ow)) in
            let many : places ds ≡ disjunctions_at w (tail_at w g) =
            sym (ap (disjunctions_at w) (tail_of read K ds ow) ∙ disjunctions_of read K ds ow) in
            let all : (S : List Graph) → resume_at s.m (ds ∷ plan_on s l b.lies.end b.lies.to W.0) S
            ≡ resume_at s.m (inner b.lies.d ∷ plan_on s l pos lo F) S =
            λ S. ap (λ (fs : List Places). resume_at s.m (ds ∷ fs) S) W.1
            ∙ ap (λ (z : Places). resume_at s.m (z ∷ plan_on s l pos lo F) S) (sym same) in
            let r = subst (λ (p : ℕ). (X : FramesOn s (onto p (disjunctions_at w (tail_at w g)) l) (g + 1) b.lies.from)
            × ((S : List Graph) →
            resume_at s.m (plan_on s (onto p (disjunctions_at w (tail_at w g)) l) (g + 1) b.lies.from X) S
            ≡ resume_at s.m (inner b.lies.d ∷ plan_on s l pos lo F) S)) e
            (subst (λ (c : ℕ). (X : FramesOn s (onto (g + extent K + 1) c l) (g + 1) b.lies.from)
            × ((S : List Graph) → resume_at s.m (plan_on s (onto (g + extent K + 1) c l) (g + 1) b.lies.from X) S
            ≡ resume_at s.m (inner b.lies.d ∷ plan_on s l pos lo F) S)) many
            (G.0, λ S. G.1 S ∙ all S)) in
            record { frames = r.0; is = r.1 }
