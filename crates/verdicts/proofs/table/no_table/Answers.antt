-- `verdicts::table::no_table` meets its contract. Assumes nothing.
use mathlib.Core.Path.{refl}
use Rattle.verdicts.specs.Verdicts.{no_table}
use Rattle.verdicts.proofs.table.no_table.Goals as goal

pub returns : goal.returns
unfolding no_table
returns c = refl
