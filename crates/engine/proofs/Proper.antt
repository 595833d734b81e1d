-- Descriptions as they come in have two or more alternatives everywhere, so they are folded already, and mode 1 is the greatest stable
-- part of the joined description, folded.
-- Assumes nothing.
use mathlib.Core.Path.{◌≡◌}
use mathlib.Core.Option.{Option}
use Rattle.theory.specs.Descr.{Desc, Disjs, Alts, desc, end, ◌and◌, fail, ◌or◌}
use Rattle.theory.specs.Modes.{joined, fold}
use Rattle.theory.specs.Canonical.{Can}
use Rattle.engine.specs.Sane.{Sane}
use Rattle.theory.proofs.Laws.{laws}
use Rattle.modes_by_marks.proofs.Proper.{Proper, ProperAll, ProperAny}
use Prim.Native.Nat.{ℕ, suc, zero}
use Rattle.theory.specs.Layout.{WellFormed, WellAll, WellAny}

pub proper_sane : (d : Desc) → Can d → Proper d → Sane d
proper_sane = Rattle.modes_by_marks.proofs.Proper.proper_sane laws

pub proper_fold : (d : Desc) → Can d → Proper d → fold d ≡ d
proper_fold = Rattle.modes_by_marks.proofs.Proper.proper_fold laws

abbrev pub Comes : Option Desc → Type 0
Comes = Rattle.modes_by_marks.proofs.Proper.Comes laws

pub joined_comes : (a b : Desc) → Can a → Can b → Proper a → Proper b → Comes (joined a b)
joined_comes = Rattle.modes_by_marks.proofs.Proper.joined_comes laws

-- what is well formed is so
mutual
  pub well_proper : (d : Desc) (n : ℕ) → WellFormed d n → Proper d
  well_proper (desc g ds) n w = well_all_proper ds n w.2

  well_all_proper : (ds : Disjs) (n : ℕ) → WellAll ds n → ProperAll ds
  well_all_proper end n w = tt
  well_all_proper (a and ds) zero w = absurd w
  well_all_proper (a and ds) (suc n) w = (w.0, well_any_proper a n w.1, well_all_proper ds (suc n) w.2)

  well_any_proper : (a : Alts) (n : ℕ) → WellAny a n → ProperAny a
  well_any_proper fail n w = tt
  well_any_proper (d or a) n w = (well_proper d n w.0, well_any_proper a n w.1)
