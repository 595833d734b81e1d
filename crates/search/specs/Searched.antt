-- What the search asks, and what it does: engine's search by its agenda, on the area.
-- Assumes nothing: these are definitions.
use Rattle.std.specs.Prelude.{ℕ, ◌+◌, ◌≤◌, ◌<◌, ◌≡◌, ◌⊎◌, true, ◌||◌, ◌&&◌, List, eqb, ltb, length, get_or}
use Rattle.theory.specs.Limits.{depth_limit}
use Rattle.area.specs.Map.{MARKS, RESULT, SIZE, LOADED}
use Rattle.engine.specs.Search.{Found, taking}
use Rattle.engine.specs.Agenda.{resume_at, dive_at, each_at}
use Rattle.loading.specs.Entry.{Entry, graphs}
use Rattle.loading.specs.Lying.{Lying, LyingAny, mark_of}
use Rattle.marks.specs.Marked.{marking, lights}
use Rattle.marks.specs.Positions.{tail_at, mark_at}
use Rattle.entering.specs.Taken.{AmongOf, AmongAnyOf, FreeOf, FreeAnyOf}
use Rattle.entering.specs.Footing.{Footing}
use Rattle.entering.specs.Moved.{Moved}
use Rattle.leaving.specs.Found.{Finds}
use Rattle.search.specs.declared.agenda.Agenda.{Agenda}
use Rattle.search.specs.Frames.{Slot, Lists, FramesOn, plan_on}

-- ---- an alternative is found
pub record Noting (w : List ℕ) (g : ℕ) : Type 0 where
  pub room : SIZE ≤ length w
  pub here : g < LOADED
  pub inside : tail_at w g < LOADED

pub record Notes (w : List ℕ) (g found : ℕ) (w' : List ℕ) : Type 0 where
  pub len : length w' ≡ length w
  pub rest : (j : ℕ) → (j < MARKS) ⊎ (RESULT ≤ j) → get_or w' j 0 ≡ get_or w j 0
  pub seen : (y : ℕ) → lights w' y ≡ (lights w y || (ltb 0 found && eqb y (mark_at w g)))
  pub marks : marking w (mark_at w g) ≡ true → marking w' ≡ marking w

-- ---- what is left
pub record Resuming (n k : ℕ) (w : List ℕ) (a : Agenda) : Type 0 where
  pub es : List Entry
  pub s : Footing n k w es
  pub l : List Slot
  pub lists : Lists a l
  pub frames : FramesOn s l 0 0

abbrev pub resumed : {n k : ℕ} {w : List ℕ} {a : Agenda} → Resuming n k w a → Found
resumed {n} {k} {w} {a} c = resume_at c.s.m (plan_on c.s c.l 0 0 c.frames) (graphs c.es)

pub record Resumes (n k : ℕ) (w : List ℕ) (a : Agenda) (r : ℕ) (w' : List ℕ) : Type 0 where
  pub moved : Moved k w k w'
  pub found : (c : Resuming n k w a) → Finds n k w c.es (resumed c) r w'

-- ---- an alternative that stands loaded at g, and then what is left
pub record Taking (n k : ℕ) (w : List ℕ) (g : ℕ) (a : Agenda) : Type 0 where
  pub es : List Entry
  pub s : Footing n k w es
  pub left : ℕ
  pub shallow : left ≤ depth_limit
  pub lies : Lying n s.t g left
  pub among : AmongOf s.U lies
  pub free : FreeOf lies es
  pub kept : s.m (mark_of lies) ≡ true
  pub l : List Slot
  pub lists : Lists a l
  pub deep : length l + left ≤ 5
  pub frames : FramesOn s l lies.end lies.to

abbrev pub taken_with : {n k : ℕ} {w : List ℕ} {g : ℕ} {a : Agenda} → Taking n k w g a → Found
taken_with {n} {k} {w} {g} {a} c =
    taking (mark_of c.lies) (dive_at c.s.m (graphs c.es) c.lies.d
    (plan_on c.s c.l c.lies.end c.lies.to c.frames))

pub record Takes (n k : ℕ) (w : List ℕ) (g : ℕ) (a : Agenda) (r : ℕ) (w' : List ℕ) : Type 0 where
  pub moved : Moved k w k w'
  pub found : (c : Taking n k w g a) → Finds n k w c.es (taken_with c) r w'

-- ---- `count` alternatives that stand loaded from p on, and then what is left
pub record Branching (n k : ℕ) (w : List ℕ) (p count : ℕ) (a : Agenda) : Type 0 where
  pub es : List Entry
  pub s : Footing n k w es
  pub left : ℕ
  pub shallow : left ≤ depth_limit
  pub lies : LyingAny n s.t p count left
  pub among : AmongAnyOf s.U lies
  pub free : FreeAnyOf lies es
  pub l : List Slot
  pub lists : Lists a l
  pub deep : length l + left ≤ 5
  pub frames : FramesOn s l lies.end lies.to

abbrev pub chosen : {n k : ℕ} {w : List ℕ} {p count : ℕ} {a : Agenda} → Branching n k w p count a → Found
chosen {n} {k} {w} {p} {count} {a} c =
    each_at c.s.m (graphs c.es) c.lies.a (plan_on c.s c.l c.lies.end c.lies.to c.frames)

pub record Branches (n k : ℕ) (w : List ℕ) (p count : ℕ) (a : Agenda) (r : ℕ) (w' : List ℕ) : Type 0 where
  pub moved : Moved k w k w'
  pub found : (c : Branching n k w p count a) → Finds n k w c.es (chosen c) r w'
