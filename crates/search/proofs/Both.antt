-- The search of both inputs: its agenda is the disjunctions of the first, then those of the second, on what is pushed when it begins.
-- Assumes nothing.
use Prim.Native.Nat.{ℕ, zero, suc, ◌+◌, ◌≤◌, ◌<◌}
use native.Mathlib.Omega.{arith}
use mathlib.Core.Path.{◌≡◌, sym, ap, subst, ◌∙◌}
use mathlib.Core.Logic.{◌⊎◌}
use mathlib.Core.Bool.{Bool, true, false}
use mathlib.Core.Option.{some}
use mathlib.Core.List.{List, [], ◌∷◌}
use lib.ListN.{length}
use Rattle.theory.specs.Limits.{depth_limit}
use Rattle.theory.specs.Descr.{agree}
use Rattle.theory.specs.Modes.{joined}
use Rattle.theory.proofs.Live.{Agrees}
use Rattle.theory.specs.Canonical.{Ctx, Can}
use Rattle.area.specs.Map.{SECOND}
use Rattle.engine.specs.Placed.{Placed, place, Places, strip, inner}
use Rattle.engine.specs.Marks.{Marking, keep}
use Rattle.engine.specs.Certain.{flat}
use Rattle.engine.specs.Beside.{◌next◌, joined_placed}
use Rattle.engine.specs.Search as engine
use Rattle.engine.specs.Agenda.{resume_at}
use Rattle.engine.proofs.Passes.{Agreeing, agreeing_view}
use Rattle.modes_by_marks.proofs.Passes.{can}
use Rattle.engine.specs.Stack.{Equivalent}
use Rattle.engine.proofs.Joined.{keep_can, joined_is, resume_at_after, resume_at_next}
use Rattle.engine.proofs.SearchStack.{search_standing}
use Rattle.loading.specs.Entry.{graphs}
use Rattle.loading.proofs.Lying.{bounds_of}
use Rattle.marks.specs.Positions.{tail_at, disjunctions_at}
use Rattle.marks.specs.Marked.{marking}
use Rattle.classes.proofs.Laws.{holds_agree}
use Rattle.entering.specs.Footing.{Footing}
use Rattle.entering.proofs.Moves.{stands_on}
use Rattle.entering.proofs.Settling.{agrees_true}
use Rattle.entering.proofs.Pairs.{whole_comes}
use Rattle.search.specs.declared.agenda.Agenda.{Agenda}
use Rattle.search.specs.Frames.{Slot, Lists, onto, FramesOn, plan_on}
use Rattle.leaving.specs.Found.{Searching, Searches}
use Rattle.search.specs.Searched.{Resuming, resumed, Resumes}
use Rattle.search.proofs.Planning.{frames_wide, Before, Opened, opened, open_asks}
use Rattle.search.proofs.Finding.{finds_same}

-- ---- what the search of the joined description finds
agreed_true : (gs : Ctx) → agree gs ≡ true → Agrees gs
agreed_true gs e = go (agree gs) (agreeing_view gs) e
  where
    go : (b : Bool) → Agreeing gs b → b ≡ true → Agrees gs
    go true (can a) e = a
    go false v e = let z : ◌≡◌ {A = ℕ} 0 1 = cc in absurd (omega arith)

both_found : (a b j : Placed) → joined_placed a b ≡ some j → (m : Marking) → Can (strip j) → (T : Ctx) →
    Equivalent T (flat (strip (keep m j))) →
    Agrees T → engine.search (keep m j) ≡ resume_at m (inner a ∷ inner b ∷ []) T
both_found (place g ds) (place h es) j e m c T s w =
    let k = joined_is (place g ds) (place h es) j e in
    subst (λ (x : Placed). Can (strip x) → Equivalent T (flat (strip (keep m x))) →
    engine.search (keep m x) ≡ resume_at m (ds ∷ es ∷ []) T) k.is
    (λ c s. search_standing k.k (ds next es) m (keep_can m (place k.k (ds next es)) c) T s w ∙ resume_at_next m ds es [] T) c s

module _ (n k : ℕ) (w : List ℕ) where
  module _ (c : Searching n k w) where
    abbrev standing : Footing n k w c.stage.es
    standing = stands_on c.p.inputs c.stage.ready

    none : FramesOn standing [] c.p.inputs.second.end n
    none = ((bounds_of c.p.inputs.second).1, omega arith)

    -- the second input
    abbrev before_none : Before standing SECOND depth_limit [] c.p.inputs.second.end n none
    before_none = record {
      lies = c.p.inputs.second;
      among = c.p.inputs.among_second;
      clear = c.stage.ready.clear_second;
      here = omega arith;
      low = c.p.inputs.second.low;
      deep = omega arith;
    }

    second : Opened standing before_none
    second = opened standing before_none

    pub second_opens : (a : Agenda) → Lists a [] →
        ((SECOND < 2048) × (16384 ≤ length w))
        × ((tail_at w SECOND < 2048) × ((disjunctions_at w (tail_at w SECOND) ≡ 0) ⊎ (a.frames < 5)))
    second_opens a l = open_asks standing before_none a l

    -- and the first before it
    abbrev behind : List Slot
    behind = onto (tail_at w SECOND + 1) (disjunctions_at w (tail_at w SECOND)) []

    deep : length behind + depth_limit ≤ 5
    deep = go (disjunctions_at w (tail_at w SECOND))
      where
        go : (more : ℕ) → length (onto (tail_at w SECOND + 1) more []) + depth_limit ≤ 5
        go zero = omega arith
        go (suc more) = omega arith

    abbrev before_second : Before standing 0 depth_limit behind (SECOND + 1) c.p.inputs.second.from second.frames
    before_second = record {
      lies = c.p.inputs.first;
      among = c.p.inputs.among_first;
      clear = c.stage.ready.clear_first;
      here = omega (arith, c.p.inputs.before);
      low = c.p.inputs.apart;
      deep = deep;
    }

    first : Opened standing before_second
    first = opened standing before_second

    pub first_opens : (a : Agenda) → Lists a behind →
        ((0 < 2048) × (16384 ≤ length w)) × ((tail_at w 0 < 2048) × ((disjunctions_at w (tail_at w 0) ≡ 0) ⊎ (a.frames < 5)))
    first_opens a l = open_asks standing before_second a l

    abbrev both : List Slot
    both = onto (tail_at w 0 + 1) (disjunctions_at w (tail_at w 0)) behind

    abbrev all : (G : FramesOn standing both 0 0)
        × (plan_on standing both 0 0 G ≡ plan_on standing both (0 + 1) c.p.inputs.first.from first.frames)
    all = frames_wide n c.t c.p.inputs.U (marking w) c.stage.es both (0 + 1) c.p.inputs.first.from 0 0 (omega arith)
        (omega arith) first.frames

    abbrev resuming : (a : Agenda) → Lists a both → Resuming n k w a
    resuming a l = record { es = c.stage.es; s = standing; l = both; lists = l; frames = all.0 }

    pub search_asks : (a : Agenda) → Lists a both → Resuming n k w a
    search_asks a l = resuming a l

    found_is : (a : Agenda) (l : Lists a both) → engine.search (keep (marking w) c.p.j) ≡ resumed (resuming a l)
    found_is a l =
        let m = marking w in
        let S = graphs c.stage.es in
        both_found c.p.inputs.first.d c.p.inputs.second.d c.p.j c.p.joined m (whole_comes n c.t c.p).0 S
        c.stage.same
        (agreed_true S (agrees_true S c.stage.same.fine₁ (holds_agree n c.stage.es k w c.stage.ready.holds)))
        ∙ sym (resume_at_after m (inner c.p.inputs.first.d)
        (plan_on standing behind (SECOND + 1) c.p.inputs.second.from second.frames)
        (inner c.p.inputs.second.d ∷ []) S second.is)
        ∙ sym (first.is S)
        ∙ ap (λ (fs : List Places). resume_at m fs S) (sym all.1)

  module _ (a : Agenda) (lists : Lists a
      (onto (tail_at w 0 + 1) (disjunctions_at w (tail_at w 0)) (onto (tail_at w SECOND + 1) (disjunctions_at w (tail_at w SECOND)) [])))
    where
      pub searches : (r : ℕ) (w' : List ℕ) → Resumes n k w a r w' → Searches n k w r w'
      searches r w' v = record {
        len = v.moved.len;
        rest = λ j h. v.moved.rest j (omega arith);
        since = v.moved.since;
        found = λ c. finds_same n k w c.stage.es (resumed (resuming c a lists)) (engine.search (keep (marking w) c.p.j)) r w'
            (found_is c a lists) (v.found (resuming c a lists));
      }
