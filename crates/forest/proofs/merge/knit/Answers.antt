-- `forest::merge::knit` meets its contract. Assumes nothing.
use Prim.Native.Nat.{ℕ, ◌+◌, ◌*◌}
use mathlib.Core.Path.{refl, sym, subst}
use native.Mathlib.Omega.{arith}
use lib.ListN.{set}
use Rattle.area.specs.Map.{STACK}
use Rattle.area.specs.Log.{Stores}
use Rattle.area.proofs.Region.{held_at}
use Rattle.forest.specs.State.{Runs}
use Rattle.forest.proofs.Contents.{told_arcs}
use Rattle.forest.proofs.Cases.{room, linking, knitted, ready_runs}
use Rattle.forest.proofs.merge.knit.Goals as goal

pub overflow_cast-x : goal.overflow_cast-x
overflow_cast-x c = let came = told_arcs c.args.w.now c.args.b c.args.p c.requires.b_value.0 in omega arith

pub overflow_cast-y : goal.overflow_cast-y
overflow_cast-y c = let there = told_arcs c.args.w.now c.args.a c.args.q c.requires.b_value.1 in omega arith

pub last-z-requires : goal.last-z-requires
last-z-requires c =
    let came = told_arcs c.args.w.now c.args.b c.args.p c.requires.b_value.0 in record {
      x_nonzero = omega arith;
      runs = subst (Runs c.args.w.now) (sym came.0)
          (ready_runs c.args.n.count c.args.k c.args.s c.args.w.now c.args.a c.args.b c.requires.fusing c.args.n.in_area (omega arith) c.requires.some_state c.args.b
          c.requires.fusing.low_b c.requires.fusing.top_b (omega arith));
    }

pub link-e-requires : goal.link-e-requires
link-e-requires c =
    record {
      linking = linking c.args.n.count c.args.k c.args.s c.args.w.now c.args.a c.args.b c.requires.fusing c.args.n.in_area (omega arith) c.requires.some_state;
    }

pub put-d-requires : goal.put-d-requires
put-d-requires c =
    let rm = room c.args.n.count c.args.k c.args.s c.args.w.now c.args.a c.args.b c.requires.fusing c.args.n.in_area (omega arith) c.requires.some_state in
    let there = told_arcs c.args.w.now c.args.a c.args.q c.requires.b_value.1 in
    record {
      logged = c.link-e.ensures.later.logged;
      i_bound = (
        omega arith,
        (omega (arith, c.link-e.ensures.next), omega arith),
      );
    }

pub put-c-requires : goal.put-c-requires
put-c-requires c =
    let rm = room c.args.n.count c.args.k c.args.s c.args.w.now c.args.a c.args.b c.requires.fusing c.args.n.in_area (omega arith) c.requires.some_state in
    let came = told_arcs c.args.w.now c.args.b c.args.p c.requires.b_value.0 in record {
      logged = c.put-d.ensures.later.logged;
      i_bound = (
        omega arith,
        (
          omega (arith, c.link-e.ensures.next, c.put-d.ensures.next),
          omega arith,
        ),
      );
    }

pub overflow_mul-w : goal.overflow_mul-w
overflow_mul-w c =
    let there = told_arcs c.args.w.now c.args.a c.args.q c.requires.b_value.1 in
    omega arith

pub overflow_add-w : goal.overflow_add-w
overflow_add-w c =
    let came = told_arcs c.args.w.now c.args.b c.args.p c.requires.b_value.0 in
    let there = told_arcs c.args.w.now c.args.a c.args.q c.requires.b_value.1 in
    omega arith

pub returns : goal.returns
returns c =
    let came = told_arcs c.args.w.now c.args.b c.args.p c.requires.b_value.0 in
    let there = told_arcs c.args.w.now c.args.a c.args.q c.requires.b_value.1 in
    knitted c.args.n.count c.args.k c.args.s c.args.w.now c.args.a c.args.b c.requires.fusing c.args.n.in_area (omega arith)
    c.requires.some_state c.link-e.result c.link-e.new.w c.link-e.ensures c.args.p c.args.q c.last-z.result c.put-d.result c.put-c.result c.put-d.new.w
    c.put-c.new.w (set c.put-c.new.w (STACK + c.args.s) (c.args.p + 4096 * c.args.q)) came.0 there.0 came.1 there.1 c.last-z.ensures
    c.put-d.ensures
    (subst (λ (i : ℕ). Stores c.put-d.result c.put-d.new.w i c.args.p c.put-c.result c.put-c.new.w) (held_at c.args.a) c.put-c.ensures) refl
