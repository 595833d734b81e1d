-- Lists of graphs and descriptions in which every graph is canonical.
-- Assumes nothing: these are definitions.
use Rattle.std.specs.Prelude.{List}
use Rattle.theory.specs.Net.{Graph, Canonical}
use Rattle.theory.specs.Descr.{Desc, Disjs, Alts}

abbrev pub Ctx : Type 0
Ctx = List Graph

abbrev pub Fine : Ctx → Type 0
Fine = Rattle.descriptions.specs.Canonical.Fine Canonical

abbrev pub Can : Desc → Type 0
Can = Rattle.descriptions.specs.Canonical.Can Canonical

abbrev pub CanAll : Disjs → Type 0
CanAll = Rattle.descriptions.specs.Canonical.CanAll Canonical

abbrev pub CanAny : Alts → Type 0
CanAny = Rattle.descriptions.specs.Canonical.CanAny Canonical
