-- `showing::show::show` meets its contract: the joined graph and no disjunctions where neither input has one; else the disjunctions of
-- the first input and of the second, and the number of both.
-- Assumes nothing.
use native.Mathlib.Omega.{arith}
use Rattle.showing.proofs.Showing.{show_writes, show_reads, show_near, plain, show_back, show_first, show_second, show_few}
use Rattle.showing.proofs.Showing.{show_long, shows}
use Rattle.showing.proofs.show.show.Goals as goal

pub write_graph-e-requires : goal.write_graph-e-requires
write_graph-e-requires c = show_writes _ _ _ c.requires

pub disjunctions-requires : goal.disjunctions-requires
disjunctions-requires c = let (first, second, long) = show_reads _ _ _ c.requires _ _
    c.write_graph-e.ensures in (first, second)

pub overflow_add-w : goal.overflow_add-w
overflow_add-w c = let h = show_near _ _ _ c.requires _ _
    c.write_graph-e.ensures in omega arith

pub offset_bounds-w-e : goal.offset_bounds-w-e
offset_bounds-w-e c = let h = show_near _ _ _ c.requires _ _
    c.write_graph-e.ensures in omega arith

pub bounds-w-e : goal.bounds-w-e
bounds-w-e c = let h = show_near _ _ _ c.requires _ _
    c.write_graph-e.ensures in
    let l = (show_reads _ _ _ c.requires _ _
    c.write_graph-e.ensures).2 in omega arith

pub overflow_add-result : goal.overflow_add-result
overflow_add-result c = let h = show_near _ _ _ c.requires _ _
    c.write_graph-e.ensures in omega arith

pub returns-then-disjunctions-eq0 : goal.returns-then-disjunctions-eq0
returns-then-disjunctions-eq0 c = plain _ _ _ c.requires _ _
    c.write_graph-e.ensures (omega arith)

pub back-requires : goal.back-requires
back-requires c = show_back _ _ _ c.requires _ _
    c.write_graph-e.ensures

pub overflow_add-e : goal.overflow_add-e
overflow_add-e c = let h =
    show_near _ _ _ c.requires _ _
    c.write_graph-e.ensures in omega arith

pub put_disjunctions-first-requires : goal.put_disjunctions-first-requires
put_disjunctions-first-requires c =
    show_first _ _ _ c.requires _ _
    c.write_graph-e.ensures _
    c.back.ensures

pub put_disjunctions-second-requires : goal.put_disjunctions-second-requires
put_disjunctions-second-requires c =
    show_second _ _ _ c.requires _ _
    c.write_graph-e.ensures _ c.back.ensures _ _ _
    c.put_disjunctions-first.ensures

pub overflow_add-count : goal.overflow_add-count
overflow_add-count c = let h = show_few _ _ _
    c.requires _ _
    c.write_graph-e.ensures _
    c.back.ensures _ _ _
    c.put_disjunctions-first.ensures _ _ _
    c.put_disjunctions-second.ensures in omega arith

pub overflow_cast-w : goal.overflow_cast-w
overflow_cast-w c = let h = show_few _ _ _
    c.requires _ _
    c.write_graph-e.ensures _
    c.back.ensures _ _ _
    c.put_disjunctions-first.ensures _ _ _
    c.put_disjunctions-second.ensures in omega arith

pub overflow_add-w-2 : goal.overflow_add-w-2
overflow_add-w-2 c = let h = show_near _ _ _
    c.requires _ _
    c.write_graph-e.ensures in omega arith

pub offset_bounds-w-e-2 : goal.offset_bounds-w-e-2
offset_bounds-w-e-2 c = let h = show_near _ _ _
    c.requires _ _
    c.write_graph-e.ensures in omega arith

pub bounds-w-e-2 : goal.bounds-w-e-2
bounds-w-e-2 c = let h = show_long _ _ _
    c.requires _ _
    c.write_graph-e.ensures _
    c.back.ensures _ _ _
    c.put_disjunctions-first.ensures _ _ _
    c.put_disjunctions-second.ensures in omega arith

pub returns : goal.returns
returns c = shows _ _ _ c.requires _ _
    c.write_graph-e.ensures _
    c.back.ensures _ _ _
    c.put_disjunctions-first.ensures _ _ _
    c.put_disjunctions-second.ensures
