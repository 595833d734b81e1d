-- `forest::merge::fuse` meets its contract. Assumes nothing.
use Prim.Native.Nat.{ℕ, ◌+◌}
use mathlib.Core.Path.{sym, ap, ◌∙◌, subst}
use native.Mathlib.Omega.{arith}
use lib.ListN.{get_or}
use Rattle.area.specs.Map.{HELD}
use Rattle.area.specs.Log.{Stores}
use Rattle.area.proofs.Region.{held_at}
use Rattle.forest.proofs.Contents.{told_nothing}
use Rattle.forest.proofs.Cases.{room, linking, moved, clash_met}
use Rattle.forest.proofs.merge.fuse.Goals as goal

pub link-e-requires : goal.link-e-requires
link-e-requires c =
    record {
      linking = linking c.args.n.count c.args.k c.args.s c.args.w.now c.args.a c.args.b c.requires.fusing c.args.n.in_area (omega arith) c.requires.some_state;
    }

pub put-d-requires : goal.put-d-requires
put-d-requires c =
    let rm = room c.args.n.count c.args.k c.args.s c.args.w.now c.args.a c.args.b c.requires.fusing c.args.n.in_area (omega arith) c.requires.some_state in
    let sm = c.requires.some_state.state.logged.small (HELD + c.args.b) (omega arith) in record {
      logged = c.link-e.ensures.later.logged;
      i_bound = (omega arith, (omega (arith, c.link-e.ensures.next), omega arith));
    }

pub returns-in-Nothing-there : goal.returns-in-Nothing-there
returns-in-Nothing-there c =
    let v = get_or c.args.w.now (HELD + c.args.b) 0 in
    let none = sym c.held_by-there.ensures
    ∙ c.in-Nothing-there.is in
    moved c.args.n.count c.args.k c.args.s c.args.w.now c.args.a c.args.b c.requires.fusing c.args.n.in_area (omega arith) c.requires.some_state c.link-e.result c.link-e.new.w
    c.link-e.ensures v c.put-d.result c.put-d.new.w
    (ap (λ (i : ℕ). get_or c.args.w.now i 0) (held_at c.args.b))
    (subst (λ (i : ℕ). Stores c.link-e.result c.link-e.new.w i v c.put-d.result c.put-d.new.w) (held_at c.args.a) c.put-d.ensures)
    (told_nothing c.args.w.now c.args.a none)

pub returns-in_default-came : goal.returns-in_default-came
returns-in_default-came c =
    clash_met c.args.n.count c.args.k c.args.s c.args.w.now c.args.a c.args.b c.requires.fusing c.args.n.in_area (omega arith) c.requires.some_state _ _
    c.held_by-came.ensures
    c.held_by-there.ensures (c.covered.ensures.1 c.if-covered.false)
    c.in_default-there.not-Nothing (λ x y e i. c.in_default-came.not-Arcs x e)

pub returns-in_default-there-2 : goal.returns-in_default-there-2
returns-in_default-there-2 c =
    clash_met c.args.n.count c.args.k c.args.s c.args.w.now c.args.a c.args.b c.requires.fusing c.args.n.in_area (omega arith) c.requires.some_state _ _
    c.held_by-came.ensures
    c.held_by-there.ensures
    (c.covered.ensures.1 c.if-covered.false)
    c.in_default-there.not-Nothing (λ x y e i. c.in_default-there-2.not-Arcs y i)
