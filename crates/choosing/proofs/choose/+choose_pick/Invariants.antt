use Prim.Native.Nat.{◌+◌, ◌-◌, ◌*◌}
use mathlib.Core.Path.{◌≡◌}
use Rattle.choosing.specs.Chosen.{Beyond, ChoosingIn, Picking}
use Rattle.choosing.proofs.Walks.{Still}
use Rattle.choosing.proofs.Picked.{Goes}
use Rattle.choosing.proofs.Going.{Going}
use Rattle.choosing.proofs.choose.+choose_pick.Given as goal

abbrev pub decreases-choose : goal.decreases-choose
decreases-choose l = 2 * l.left

abbrev pub decreases-pick : goal.decreases-pick
decreases-pick l = 2 * l.left + 1

abbrev pub invariant-choose-loop : goal.invariant-choose-loop
invariant-choose-loop l =
    Beyond l.initial.w l.at l.w × ((k : ChoosingIn l.initial.w l.g l.left l.total l.at) → Going k l.c l.new (l.more - l.counter) l.p l.rest l.index l.to l.w)

abbrev pub invariant-pick-loop : goal.invariant-pick-loop
invariant-pick-loop l =
    (l.w ≡ l.initial.w) × ((k : Picking l.w l.p l.count l.left l.at) → Still k.sums (Goes k l.i l.new l.index) (l.count - l.counter) l.g)
