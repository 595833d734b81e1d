-- `forest::settle::step` meets its contract. Assumes nothing.
use Prim.Native.Nat.{ℕ, suc, ◌-◌, ◌<◌}
use mathlib.Core.Path.{refl, subst}
use native.Mathlib.Omega.{arith}
use lib.ListN.{get_or}
use Rattle.area.specs.Region.{loaded_words}
use Rattle.forest.specs.State.{targets, Looked}
use Rattle.forest.proofs.Turns.{after_runs, arc_pos, arc_low, arc_target, match_target, turned_miss, turned_hit}
use borrow.Author.Rules.{rules}
use Rattle.forest.proofs.settle.step.Goals as goal

pub overflow_sub-j : goal.overflow_sub-j
overflow_sub-j c =
    let F = loaded_words c.args.w.now in
    let T = targets c.args.w.now in
    let ps = arc_pos c.requires.working.G c.requires.working.H F T c.args.n.count c.args.k c.args.s c.args.x c.args.to c.requires.working.fs c.args.w.now c.args.n.in_area (omega arith) c.requires.working.state
    c.requires.fact in
    let lw = arc_low c.requires.working.G c.requires.working.H F T c.args.n.count c.args.k c.args.s c.args.x c.args.to c.requires.working.fs c.args.w.now c.args.n.in_area (omega arith) c.requires.working.state
    c.requires.fact in
    search rules

pub loaded-f-requires : goal.loaded-f-requires
loaded-f-requires c =
    let F = loaded_words c.args.w.now in
    let T = targets c.args.w.now in
    let ps = arc_pos c.requires.working.G c.requires.working.H F T c.args.n.count c.args.k c.args.s c.args.x c.args.to c.requires.working.fs c.args.w.now c.args.n.in_area (omega arith) c.requires.working.state
    c.requires.fact in
    let lw = arc_low c.requires.working.G c.requires.working.H F T c.args.n.count c.args.k c.args.s c.args.x c.args.to c.requires.working.fs c.args.w.now c.args.n.in_area (omega arith) c.requires.working.state
    c.requires.fact in
    omega arith

pub look-requires : goal.look-requires
look-requires c =
    let F = loaded_words c.args.w.now in
    let T = targets c.args.w.now in
    record {
      runs = after_runs c.requires.working.G c.requires.working.H F T c.args.n.count c.args.k c.args.s c.args.x c.args.to c.requires.working.fs c.args.w.now c.args.n.in_area (omega arith) c.requires.working.state;
    }

pub returns-in_default : goal.returns-in_default
returns-in_default c =
    let F = loaded_words c.args.w.now in
    let T = targets c.args.w.now in
    turned_miss F T c.args.n.count c.args.k c.args.s c.args.x c.args.to c.args.w.now c.args.n.in_area (omega arith) c.requires.fact c.requires.working
    (subst (λ (v : ℕ). Looked F c.args.w.now v c.args.to 0) c.loaded-f.ensures c.in_default.ensures)

pub target-p-requires : goal.target-p-requires
target-p-requires c =
    let F = loaded_words c.args.w.now in
    let T = targets c.args.w.now in
    let ps = arc_pos c.requires.working.G c.requires.working.H F T c.args.n.count c.args.k c.args.s c.args.x c.args.to c.requires.working.fs c.args.w.now c.args.n.in_area (omega arith) c.requires.working.state
    c.requires.fact in
    let lw = arc_low c.requires.working.G c.requires.working.H F T c.args.n.count c.args.k c.args.s c.args.x c.args.to c.requires.working.fs c.args.w.now c.args.n.in_area (omega arith) c.requires.working.state
    c.requires.fact in
    omega arith

pub target-q-requires : goal.target-q-requires
target-q-requires c =
    let F = loaded_words c.args.w.now in
    let T = targets c.args.w.now in
    let lk : Looked F c.args.w.now (get_or F (c.args.x - 1) 0) c.args.to (suc c.in-Some.i) =
    subst (λ (v : ℕ). Looked F c.args.w.now v c.args.to (suc c.in-Some.i)) c.loaded-f.ensures
    c.in-Some.ensures in
    let mt = match_target c.requires.working.G c.requires.working.H F T c.args.n.count c.args.k c.args.s c.args.x c.args.to c.requires.working.fs c.args.w.now c.args.n.in_area (omega arith) c.requires.working.state
    c.requires.fact (suc c.in-Some.i) c.in-Some.i lk refl in
    let mi : c.in-Some.i < 2047 = mt.1 in
    omega arith

pub join-requires : goal.join-requires
join-requires c =
    let F = loaded_words c.args.w.now in
    let T = targets c.args.w.now in
    let lk : Looked F c.args.w.now (get_or F (c.args.x - 1) 0) c.args.to (suc c.in-Some.i) =
    subst (λ (v : ℕ). Looked F c.args.w.now v c.args.to (suc c.in-Some.i))
    c.loaded-f.ensures c.in-Some.ensures in
    let mt = match_target c.requires.working.G c.requires.working.H F T c.args.n.count c.args.k c.args.s c.args.x c.args.to c.requires.working.fs c.args.w.now c.args.n.in_area (omega arith) c.requires.working.state
    c.requires.fact (suc c.in-Some.i) c.in-Some.i lk refl in
    let mi : c.in-Some.i < 2047 = mt.1 in record {
      x_lt_n = (
        omega (
          arith,
          c.target-p.ensures,
          arc_target c.requires.working.G c.requires.working.H F T c.args.n.count c.args.k c.args.s c.args.x c.args.to c.requires.working.fs c.args.w.now c.args.n.in_area (omega arith) c.requires.working.state
              c.requires.fact,
        ),
        omega (arith, c.target-q.ensures, mt.0),
      );
      some_state = record { G = c.requires.working.G; H = c.requires.working.H; F = F; T = T; fs = _; state = c.requires.working.state };
    }

pub returns : goal.returns
returns c =
    let F = loaded_words c.args.w.now in
    let T = targets c.args.w.now in
    let lk : Looked F c.args.w.now (get_or F (c.args.x - 1) 0) c.args.to (suc c.in-Some.i) =
    subst (λ (v : ℕ). Looked F c.args.w.now v c.args.to (suc c.in-Some.i))
    c.loaded-f.ensures c.in-Some.ensures in
    let mt = match_target c.requires.working.G c.requires.working.H F T c.args.n.count c.args.k c.args.s c.args.x c.args.to c.requires.working.fs c.args.w.now c.args.n.in_area (omega arith) c.requires.working.state
    c.requires.fact (suc c.in-Some.i) c.in-Some.i lk refl in
    let mi : c.in-Some.i < 2047 = mt.1 in
    turned_hit F T c.args.n.count c.args.k c.args.s c.args.x c.args.to c.args.w.now c.args.n.in_area (omega arith) c.requires.fact c.requires.working (suc c.in-Some.i) c.in-Some.i _ _ _ c.join.new.w lk refl
    (rw (c.target-p.ensures, c.target-q.ensures) at
    c.join.ensures)
