use mathlib.Core.Path.{◌≡◌}
use mathlib.Core.List.{◌++◌}
use lib.ListN.{drop}
use Rattle.library.specs.Read.{words_from}
use Rattle.library.proofs.read.fill.Given as goal

abbrev pub invariant-loop-i : goal.invariant-loop-i
invariant-loop-i l = l.dst ≡ words_from l.first 0 l.i l.file ++ drop l.i l.initial.dst
