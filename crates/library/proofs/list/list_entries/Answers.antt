-- `library::list::list_entries` meets its contract.
-- Assumes nothing.
use native.Mathlib.Omega.{arith}
use Prim.Native.Nat.{◌*◌}
use lib.Seq.{length-take-le}
use Rattle.library.proofs.Good.{opens}
use Rattle.library.proofs.Opening.{never_short, lists_short, lists_all}
use Rattle.library.proofs.list.list_entries.Goals as goal

pub overflow_mul-need : goal.overflow_mul-need
overflow_mul-need c =
    let few = (opens c.args.file.now c.args.count c.requires).few in
    record { fits = omega arith }

pub fill_list-requires : goal.fill_list-requires
fill_list-requires c =
    let few = (opens c.args.file.now c.args.count c.requires).few in
    let size = length-take-le (2 * c.args.count) c.args.area.now c.if-area-need.false in
    (omega arith, omega arith)

pub returns-in_default : goal.returns-in_default
returns-in_default c = absurd (never_short c.args.file.now c.args.count c.requires c.in_default.ensures.cases)

pub returns-then-area-need : goal.returns-then-area-need
returns-then-area-need c = lists_short c.args.file.now _ c.in-Some.ensures.cases.same c.args.count c.args.area.now c.if-area-need.true

pub returns : goal.returns
returns c = lists_all c.args.file.now _ c.in-Some.ensures.cases.same c.args.count c.args.area.now _ c.if-area-need.false c.fill_list.ensures
