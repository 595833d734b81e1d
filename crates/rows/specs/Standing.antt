-- The machine's state and what the memory holds of it.
-- Assumes nothing: these are definitions.
use Rattle.std.specs.Prelude.{ℕ, suc, ◌<◌, ◌≤◌, ◌≡◌, List, [], ◌∷◌, length}
use Rattle.rows.specs.Machine.{Out, OpenFrame, Core, Pen}
use Rattle.rows.specs.Plan.{lasts, none_yet}
use Rattle.rows.specs.Memory.{Memory}
use Rattle.rows.specs.Held.{FramesStand, Held}

-- all that stands open has spots below n and alternatives below k
abbrev pub FramesInside : ℕ → ℕ → List OpenFrame → Type 0
FramesInside n k [] = Unit {0}
FramesInside n k (f ∷ fs) = (f.base < n) × (f.home < k) × FramesInside n k fs

pub record Standing (M : Memory) (c : Core) (p : Pen) (x : Out) : Type 0 where
  pub held : Held M x c.alt
  pub frames : FramesStand (M 10) (M 11) (M 12) (M 13) c.around
  pub spots : c.spot ≡ suc (length x.arcs)
  pub alts : c.alt ≡ suc (length x.alts)
  pub fresh : (j : ℕ) → c.alt ≤ j → lasts none_yet 1 x.alts j ≡ 0
  pub cur : p.cur < c.spot
  pub start : p.start < c.spot
  pub end : p.end < c.spot
  pub base : c.frame.base < c.spot
  pub home : c.frame.home < c.alt
  pub around : FramesInside c.spot c.alt c.around
