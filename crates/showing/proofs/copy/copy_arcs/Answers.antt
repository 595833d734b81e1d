-- `showing::copy::copy_arcs` meets its contract: what is left to copy goes on to the whole.
-- Assumes nothing.
use Prim.Native.Nat.{◌+◌}
use native.Mathlib.Omega.{arith}
use native.Mathlib.Nat.{sub-zero, sub-add-eq}
use lib.ListN.{length-set}
use Rattle.area.specs.Map.{RESULT}
use Rattle.showing.proofs.Nodes.{arcs_start, arcs_done, arcs_same, arcs_here, arcs_above, arcs_on}
use Rattle.showing.proofs.copy.copy_arcs.Goals as goal

pub loop-init : goal.loop-init
loop-init c = λ d. rw sub-zero (arcs_start _ _ _ _ _ d)

pub word_at-feature-requires : goal.word_at-feature-requires
word_at-feature-requires c = let v = c.loop.invariant c.requires in
    let h = arcs_here _ _ _ _ _ c.requires _ _ _ _ v (omega arith) in let x = h.0 in omega arith

pub overflow_add-at : goal.overflow_add-at
overflow_add-at c = let v = c.loop.invariant c.requires in
    let h = arcs_here _ _ _ _ _ c.requires _ _ _ _ v (omega arith) in let x = h.0 in omega arith

pub word_at-target-requires : goal.word_at-target-requires
word_at-target-requires c = let v = c.loop.invariant c.requires in let h = arcs_here _ _ _ _ _ c.requires _ _ _ _ v (omega arith) in h.0

pub overflow_add-w : goal.overflow_add-w
overflow_add-w c = let v = c.loop.invariant c.requires in let h = arcs_here _ _ _ _ _ c.requires _ _ _ _ v (omega arith) in let x = h.1 in omega arith

pub offset_bounds-w-out : goal.offset_bounds-w-out
offset_bounds-w-out c = let v = c.loop.invariant c.requires in let h = arcs_here _ _ _ _ _ c.requires _ _ _ _ v (omega arith) in let x = h.1 in omega arith

pub bounds-w-out : goal.bounds-w-out
bounds-w-out c = let v = c.loop.invariant c.requires in let h = arcs_here _ _ _ _ _ c.requires _ _ _ _ v (omega arith) in let x = h.1 in let y = h.2 in omega arith

pub overflow_sub-w : goal.overflow_sub-w
overflow_sub-w c = let v = c.loop.invariant c.requires in let h = arcs_here _ _ _ _ _ c.requires _ _ _ _ v (omega arith) in
    let a = arcs_above _ _ _ _ _ c.requires _ _ _ _ v (omega arith) _ _ c.word_at-feature.ensures c.word_at-target.ensures in omega arith

pub overflow_add-w-in-loop : goal.overflow_add-w-in-loop
overflow_add-w-in-loop c = let v = c.loop.invariant c.requires in let h = arcs_here _ _ _ _ _ c.requires _ _ _ _ v (omega arith) in let x = h.1 in omega arith

pub overflow_add-w-in-loop-2 : goal.overflow_add-w-in-loop-2
overflow_add-w-in-loop-2 c = let v = c.loop.invariant c.requires in let h = arcs_here _ _ _ _ _ c.requires _ _ _ _ v (omega arith) in let x = h.1 in omega arith

pub offset_bounds-w-out-in-loop : goal.offset_bounds-w-out-in-loop
offset_bounds-w-out-in-loop c = let v = c.loop.invariant c.requires in let h = arcs_here _ _ _ _ _ c.requires _ _ _ _ v (omega arith) in let x = h.1 in omega arith

pub bounds-w-out-in-loop : goal.bounds-w-out-in-loop
bounds-w-out-in-loop c = let v = c.loop.invariant c.requires in let h = arcs_here _ _ _ _ _ c.requires _ _ _ _ v (omega arith) in let x = h.1 in let y = h.2 in
    omega (
      arith,
      length-set c.loop.w
          (RESULT + c.loop.out) c.word_at-feature.result,
    )

pub overflow_add-at-in-loop : goal.overflow_add-at-in-loop
overflow_add-at-in-loop c = let v = c.loop.invariant c.requires in let h = arcs_here _ _ _ _ _ c.requires _ _ _ _ v (omega arith) in let x = h.0 in omega arith

pub overflow_add-out : goal.overflow_add-out
overflow_add-out c = let v = c.loop.invariant c.requires in let h = arcs_here _ _ _ _ _ c.requires _ _ _ _ v (omega arith) in let x = h.1 in omega arith

pub loop-preserved : goal.loop-preserved
loop-preserved c = λ d. rw sub-add-eq (arcs_on _ _ _ _ _ d _ _ _ _ (c.loop.invariant d) (omega arith) _ _
    c.word_at-feature.ensures c.word_at-target.ensures)

pub returns : goal.returns
returns c = λ d. arcs_done _ _ _ _ _ d _ _ _ _ (c.loop.invariant d) (omega arith)
