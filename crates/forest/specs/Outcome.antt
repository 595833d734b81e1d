-- What a step gives, as the laws read it: entries of the log, frames on the stack, and whether it met a clash; an arc that is found; and
-- where to look for the next one.
-- Assumes nothing.
use Rattle.std.specs.Prelude.{ℕ, suc, ◌+◌, Bool, true, false, Result, Ok, Err, Option, Some, None}
use Rattle.forest.specs.declared.merge.Progress.{Progress}
use Rattle.forest.specs.declared.merge.Clash.{Clash}
use Rattle.area.specs.Map.{NEXT}
use Rattle.forest.specs.declared.chain.Start.{Start}
use Rattle.forest.specs.declared.chain.Start.TheVariants.{Unordered, First, After}

abbrev pub entries_of : Result Progress Clash → ℕ
entries_of (Ok p) = p.k
entries_of (Err c) = c.k

-- a clash leaves the s frames of before
abbrev pub frames_of : ℕ → Result Progress Clash → ℕ
frames_of s (Ok p) = p.s
frames_of s (Err c) = s

-- the entries of the log where no frame is left
abbrev pub log_of : Result ℕ Clash → ℕ
log_of (Ok e) = e
log_of (Err c) = c.k

abbrev pub clashes : {A : Type 0} → Result A Clash → Bool
clashes (Ok a) = false
clashes (Err c) = true

-- an arc counted from 1, or 0 where there is none
abbrev pub arc_code : Option ℕ → ℕ
arc_code None = 0
arc_code (Some j) = suc j

-- where to look for the next arc: the link after an arc; 1 for the first; 0 where the chain is not known to rise
abbrev pub link_code : Start → ℕ
link_code Unordered = 0
link_code First = 1
link_code (After j) = NEXT + j
