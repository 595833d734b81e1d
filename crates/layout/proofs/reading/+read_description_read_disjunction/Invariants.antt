use mathlib.Core.Path.{◌≡◌}
use Prim.Native.Nat.{◌+◌, ◌*◌, ◌-◌}
use Rattle.layout.specs.Reading.{times, readDisjunction, readDescription}
use Rattle.layout.proofs.reading.+read_description_read_disjunction.Given as goal

abbrev pub decreases-read_description : goal.decreases-read_description
decreases-read_description l = 2 * l.left + 1

abbrev pub decreases-read_disjunction : goal.decreases-read_disjunction
decreases-read_disjunction l = 2 * l.left

abbrev pub invariant-read_description-loop : goal.invariant-read_description-loop
invariant-read_description-loop l = readDescription l.left l.ws l.p ≡ times (readDisjunction l.left l.ws) (l.end - l.counter) l.at

abbrev pub invariant-read_disjunction-loop : goal.invariant-read_disjunction-loop
invariant-read_disjunction-loop l = readDisjunction l.left l.ws l.p ≡ times (readDescription (l.left - 1) l.ws) (l.count - l.counter) l.at
