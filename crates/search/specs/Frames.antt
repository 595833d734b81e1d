-- What is left to go through, as the code has it, and the disjunctions that stand there.
-- Assumes nothing: these are definitions.
use Rattle.std.specs.Prelude.{ℕ, zero, suc, ◌-◌, ◌≤◌, ◌<◌, ◌≡◌, List, [], ◌∷◌, length, get_or}
use Rattle.engine.specs.Placed.{Places}
use Rattle.engine.specs.Marks.{Marking}
use Rattle.loading.specs.Entry.{Entry}
use Rattle.loading.specs.Lying.{LyingAll}
use Rattle.entering.specs.Taken.{AmongAllOf}
use Rattle.entering.specs.Clear.{ClearAllOf}
use Rattle.entering.specs.Footing.{Footing}
use Rattle.search.specs.declared.agenda.Agenda.{Agenda}
use Rattle.search.specs.declared.agenda.Pending.{Pending}

-- a frame: where its next disjunction stands, and how many are left in it
abbrev pub Slot : Type 0
Slot = ℕ × ℕ

-- where nothing is left
abbrev pub nowhere : Pending
nowhere = record { at = 0; more = 0 }

-- the first c of a stack, the last of them first
abbrev pub downward : ℕ → List Pending → List Slot
downward zero ps = []
downward (suc c) ps = ((get_or ps c nowhere).at, (get_or ps c nowhere).more) ∷ downward c ps

unfoldable pub slots : Agenda → List Slot
slots a = downward a.frames a.stack

-- the nearest frame, where one is left
abbrev pub first_at : Agenda → ℕ
first_at a = (get_or a.stack (a.frames - 1) nowhere).at

abbrev pub first_more : Agenda → ℕ
first_more a = (get_or a.stack (a.frames - 1) nowhere).more

-- the frames of a are l
pub record Lists (a : Agenda) (l : List Slot) : Type 0 where
  pub few : a.frames ≤ 5
  pub wide : length a.stack ≡ 5
  pub is : slots a ≡ l

-- a frame before others; one with nothing left is none
abbrev pub onto : ℕ → ℕ → List Slot → List Slot
onto at zero l = l
onto at (suc more) l = (at, suc more) ∷ l

-- `more` disjunctions stand loaded from `at` on; of what is certain in them all is among the graphs es, of the rest nothing
pub record Frame (n : ℕ) (t : List ℕ) (U es : List Entry) (m : Marking) (at more left : ℕ) : Type 0 where
  pub lies : LyingAll n t at more left
  pub among : AmongAllOf U lies
  pub clear : ClearAllOf es m lies

-- the frames stand one after the other, from the position `pos` and the number `lo` on; the more of them, the less deep the first nests
abbrev pub Frames : (n : ℕ) (t : List ℕ) (U es : List Entry) (m : Marking) → List Slot → ℕ → ℕ → Type 0
Frames n t U es m [] pos lo = (pos ≤ length t) × (lo ≤ n)
Frames n t U es m (s ∷ l) pos lo = (f : Frame n t U es m s.0 s.1 (5 - length l)) × (0 < s.1) × (pos ≤ s.0)
    × (lo ≤ f.lies.from) × Frames n t U es m l f.lies.end f.lies.to

-- their disjunctions: engine's agenda
abbrev pub plan : (n : ℕ) (t : List ℕ) (U es : List Entry) (m : Marking) (l : List Slot) (pos lo : ℕ) →
    Frames n t U es m l pos lo → List Places
plan n t U es m [] pos lo F = []
plan n t U es m (s ∷ l) pos lo F = F.0.lies.ds ∷ plan n t U es m l F.0.lies.end F.0.lies.to F.4

-- where a step stands
module _ {n k : ℕ} {w : List ℕ} {es : List Entry} (s : Footing n k w es) where
  abbrev pub FramesOn : List Slot → ℕ → ℕ → Type 0
  FramesOn l pos lo = Frames n s.t s.U es s.m l pos lo

  abbrev pub plan_on : (l : List Slot) (pos lo : ℕ) → FramesOn l pos lo → List Places
  plan_on l pos lo F = plan n s.t s.U es s.m l pos lo F
