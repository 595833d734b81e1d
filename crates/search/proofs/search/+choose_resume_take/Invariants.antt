use Rattle.entering.specs.Moved.{Moved}
use Rattle.search.specs.Frames.{slots}
use Rattle.search.specs.Searched.{Branching}
use Rattle.search.proofs.Planning.{reach}
use Rattle.search.proofs.Choosing.{Going}
use Prim.Native.Nat.{◌+◌, ◌-◌, ◌*◌}
use Rattle.search.proofs.search.+choose_resume_take.Given as goal

abbrev pub decreases-choose : goal.decreases-choose
decreases-choose l = 3 * (2048 - l.p) + 2

abbrev pub decreases-resume : goal.decreases-resume
decreases-resume l = 3 * (2048 - reach (slots l.a))

abbrev pub decreases-take : goal.decreases-take
decreases-take l = 3 * (2048 - l.g) + 1

abbrev pub invariant-choose-loop : goal.invariant-choose-loop
invariant-choose-loop l =
    Moved l.k l.initial.w l.k l.w × ((c : Branching l.n.count l.k l.initial.w l.p l.count l.a) → Going l.n.count l.k l.initial.w l.p l.count l.a c (l.count - l.counter) l.at l.sum l.w)
