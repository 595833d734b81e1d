-- `suite::counts::none` meets its contract. Assumes nothing.
use mathlib.Core.Path.{refl}
use Rattle.suite.specs.Suite.{no_counts}
use Rattle.suite.proofs.counts.none.Goals as goal

pub returns : goal.returns
unfolding no_counts
returns c = refl
