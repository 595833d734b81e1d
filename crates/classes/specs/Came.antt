-- How the result of an arc that comes is read. Assumes nothing.
use Rattle.std.specs.Prelude.{ℕ, Result, Ok, Err}
use Rattle.forest.specs.declared.merge.Clash.{Clash}
use Rattle.forest.specs.Outcome.{link_code}
use Rattle.classes.specs.declared.visit.Came.{Came}

-- the entries of the log
abbrev pub log_after : Result Came Clash → ℕ
log_after (Ok c) = c.k
log_after (Err c) = c.k

-- where to go on from, as a number; 0 after a clash
abbrev pub link_after : Result Came Clash → ℕ
link_after (Ok c) = link_code c.at
link_after (Err c) = 0
