-- `classes::visit::visit` meets its contract. Assumes nothing.
use mathlib.Core.Logic.{⊎_elim}
use mathlib.Core.Bool.{true, false}
use Prim.Native.Nat.{ℕ, suc, ◌<◌, ◌+◌, ◌≤◌}
use mathlib.Core.Path.{◌≡◌, refl, ap, subst}
use native.Mathlib.Omega.{arith}
use lib.ListN.{get_or}
use Rattle.area.specs.Region.{loaded_words}
use Rattle.area.specs.Map.{NEXT}
use Rattle.forest.specs.State.{targets, Looked, withPair, Equal}
use Rattle.forest.specs.Outcome.{arc_code, link_code}
use Rattle.forest.specs.Order.{Located, Hint, Ordered}
use Rattle.forest.proofs.Contents.{told_bears, told_bare}
use Rattle.forest.proofs.Words.{words_later}
use Rattle.forest.specs.Held.{ChainCode}
use Rattle.classes.proofs.Visits.{ordered_none, hint_calm, class_runs, visit_clash, visit_hung, hung_ordered, visit_found, found_arc}
use Rattle.classes.proofs.Visits.{found_same}
use Rattle.classes.specs.Nodes.{Hung}
use Rattle.std.proofs.lemmas.Result.{err_from_is_err_and}
use Rattle.classes.proofs.visit.visit.Goals as goal

never : {A : Type 0} → true ≡ false → A
never e = let z : ◌≡◌ {A = ℕ} 0 1 = cc in absurd (omega arith)

pub returns-then-bears_atom : goal.returns-then-bears_atom
returns-then-bears_atom c =
    let bears = told_bears _ _ _ c.bears_atom.ensures c.if-bears_atom.true in
    record {
      visited = visit_clash (loaded_words c.args.w.now) (targets c.args.w.now) c.args.n.count c.args.k c.args.w.now c.args.n.in_area (omega arith) c.args.x c.requires.x_lt_n.0
          c.find-c.result c.find-c.ensures c.args.t c.requires.coming.state.logged (omega arith);
      next = λ z. let y : ◌≡◌ {A = ℕ} 0 1 = cc in absurd (omega arith);
    }

pub locate-place-requires : goal.locate-place-requires
locate-place-requires c =
    let chained = told_bare _ _ _ c.bears_atom.ensures c.if-bears_atom.false in
    record {
      c_bound = omega arith;
      runs = class_runs (loaded_words c.args.w.now) (targets c.args.w.now) c.args.n.count c.args.k c.args.w.now c.args.n.in_area (omega arith) c.args.x c.requires.x_lt_n.0
          c.find-c.result c.find-c.ensures c.requires.coming.G c.requires.coming.H
          c.requires.coming.state chained;
      hint = λ z. c.requires.ordered.hint z
          c.find-c.result c.find-c.ensures;
    }

pub returns-in_default : goal.returns-in_default
returns-in_default c =
    let chained : ChainCode (get_or c.args.w.now c.find-c.result 0) = told_bare _ _ _ c.bears_atom.ensures c.if-bears_atom.false in
    let hint : 0 < link_code c.args.at → Hint (loaded_words c.args.w.now) c.args.w.now c.find-c.result (link_code c.args.at) = λ z. c.requires.ordered.hint z c.find-c.result c.find-c.ensures in
    let located : Located (loaded_words c.args.w.now) c.args.w.now (get_or (loaded_words c.args.w.now) c.args.t 0) c.find-c.result c.locate-place.result.link 0 =
    subst (Located (loaded_words c.args.w.now) c.args.w.now (get_or (loaded_words c.args.w.now) c.args.t 0) c.find-c.result c.locate-place.result.link) (ap arc_code c.in_default.is)
    (subst (λ (f : ℕ). Located (loaded_words c.args.w.now) c.args.w.now f c.find-c.result c.locate-place.result.link (arc_code c.locate-place.result.arc)) c.loaded-f.ensures c.locate-place.ensures) in
    let hung : Hung c.args.k c.args.w.now c.args.t c.locate-place.result.link (link_code c.args.at) c.hang.result.k (link_code c.hang.result.at) c.hang.new.w = c.hang.ensures in
    let two_more : c.args.k + 2 ≤ 4096 = let g = c.requires.coming in omega (arith, g.fresh.room, g.state.room) in
    let visited_hung = visit_hung (loaded_words c.args.w.now) (targets c.args.w.now) c.args.n.count c.args.k c.args.w.now c.args.n.in_area (omega arith) c.args.x c.requires.x_lt_n.0 _ c.find-c.ensures
    c.args.t (omega arith) chained _ _ hint located _ refl two_more _ _ _ _ hung.before hung.after in
    let ordered_hung : 0 < link_code c.args.at → Ordered (loaded_words c.args.w.now) c.args.n.count c.hang.new.w c.args.x (NEXT + c.args.t) =
    let g = c.requires.coming in
    hung_ordered _ _ _ _ _ c.args.n.in_area (omega arith) _ c.requires.x_lt_n.0 _ c.find-c.ensures _ (omega arith) chained _ _ hint
    located _ refl two_more _ _ _ _ hung.before hung.after g.G g.H g.state g.fresh in
    record {
      visited = visited_hung;
      next = λ z. ⊎_elim (λ e. rw e (ordered_none _ _ _ _)) (λ e. rw e.1 (ordered_hung e.0)) hung.next;
    }

pub target-q-requires : goal.target-q-requires
target-q-requires c =
    let chained : ChainCode (get_or c.args.w.now c.find-c.result 0) = told_bare _ _ _ c.bears_atom.ensures c.if-bears_atom.false in
    let looked : Looked (loaded_words c.args.w.now) c.args.w.now (get_or (loaded_words c.args.w.now) c.args.t 0) (get_or c.args.w.now c.find-c.result 0) (suc c.in-Some.r) =
    subst (Looked (loaded_words c.args.w.now) c.args.w.now (get_or (loaded_words c.args.w.now) c.args.t 0) (get_or c.args.w.now c.find-c.result 0)) (ap arc_code c.in-Some.is)
    (rw c.loaded-f.ensures at c.locate-place.ensures.looked) in
    let there : (get_or (targets c.args.w.now) c.in-Some.r 0 < c.args.n.count) × (c.in-Some.r < 2047) = let g = c.requires.coming in
    found_arc _ _ _ _ _ c.args.n.in_area (omega arith) _ c.requires.x_lt_n.0 _ c.find-c.ensures _ (suc c.in-Some.r) c.in-Some.r
    chained looked refl g.G g.H g.state in
    omega arith

pub unite-requires : goal.unite-requires
unite-requires c =
    let chained : ChainCode (get_or c.args.w.now c.find-c.result 0) = told_bare _ _ _ c.bears_atom.ensures c.if-bears_atom.false in
    let looked : Looked (loaded_words c.args.w.now) c.args.w.now (get_or (loaded_words c.args.w.now) c.args.t 0) (get_or c.args.w.now c.find-c.result 0) (suc c.in-Some.r) =
    subst (Looked (loaded_words c.args.w.now) c.args.w.now (get_or (loaded_words c.args.w.now) c.args.t 0) (get_or c.args.w.now c.find-c.result 0)) (ap arc_code c.in-Some.is)
    (rw c.loaded-f.ensures at c.locate-place.ensures.looked) in
    let there : (get_or (targets c.args.w.now) c.in-Some.r 0 < c.args.n.count) × (c.in-Some.r < 2047) = let g = c.requires.coming in
    found_arc _ _ _ _ _ c.args.n.in_area (omega arith) _ c.requires.x_lt_n.0 _ c.find-c.ensures _ (suc c.in-Some.r) c.in-Some.r
    chained looked refl g.G g.H g.state in
    let same : Equal c.requires.coming.G (loaded_words c.args.w.now) (targets c.args.w.now) (get_or (targets c.args.w.now) c.args.t 0) (get_or (targets c.args.w.now) c.in-Some.r 0) = let g = c.requires.coming in
    found_same _ _ _ _ _ c.args.n.in_area (omega arith) _ c.requires.x_lt_n.0 _ c.find-c.ensures _ (suc c.in-Some.r) c.in-Some.r
    chained looked refl g.G g.H g.state g.fresh in
    let g = c.requires.coming in
    record {
      x_lt_n = (
        omega (arith, c.target-p.ensures, (g.state.arcs c.args.t g.fresh.arc).1.1),
        omega (arith, c.target-q.ensures, there.0),
      );
      uniting = record { G = g.G; H = g.H; state = g.state; same = rw (c.target-p.ensures, c.target-q.ensures) same };
    }

pub returns-in_err-e : goal.returns-in_err-e
returns-in_err-e c =
    let chained : ChainCode (get_or c.args.w.now c.find-c.result 0) = told_bare _ _ _ c.bears_atom.ensures c.if-bears_atom.false in
    let looked : Looked (loaded_words c.args.w.now) c.args.w.now (get_or (loaded_words c.args.w.now) c.args.t 0) (get_or c.args.w.now c.find-c.result 0) (suc c.in-Some.r) =
    subst (Looked (loaded_words c.args.w.now) c.args.w.now (get_or (loaded_words c.args.w.now) c.args.t 0) (get_or c.args.w.now c.find-c.result 0)) (ap arc_code c.in-Some.is)
    (rw c.loaded-f.ensures at c.locate-place.ensures.looked) in
    let p = err_from_is_err_and c.from_residual.result c.from_residual.ensures.1 in
    rw (p.1, p.2) (record {
      visited = visit_found _ _ _ _ _ c.args.n.in_area (omega arith) _ c.requires.x_lt_n.0 _ c.find-c.ensures _ (suc c.in-Some.r) c.in-Some.r
          chained looked refl _ _ _
          (rw (c.target-p.ensures, c.target-q.ensures) at c.in_err-e.ensures);
      next = λ z. never z;
    })

pub onward-a-requires : goal.onward-a-requires
onward-a-requires c =
    let chained : ChainCode (get_or c.args.w.now c.find-c.result 0) = told_bare _ _ _ c.bears_atom.ensures c.if-bears_atom.false in
    let hint : 0 < link_code c.args.at → Hint (loaded_words c.args.w.now) c.args.w.now c.find-c.result (link_code c.args.at) = λ z. c.requires.ordered.hint z c.find-c.result c.find-c.ensures in
    let looked : Looked (loaded_words c.args.w.now) c.args.w.now (get_or (loaded_words c.args.w.now) c.args.t 0) (get_or c.args.w.now c.find-c.result 0) (suc c.in-Some.r) =
    subst (Looked (loaded_words c.args.w.now) c.args.w.now (get_or (loaded_words c.args.w.now) c.args.t 0) (get_or c.args.w.now c.find-c.result 0)) (ap arc_code c.in-Some.is)
    (rw c.loaded-f.ensures at c.locate-place.ensures.looked) in
    let there : (get_or (targets c.args.w.now) c.in-Some.r 0 < c.args.n.count) × (c.in-Some.r < 2047) = let g = c.requires.coming in
    found_arc _ _ _ _ _ c.args.n.in_area (omega arith) _ c.requires.x_lt_n.0 _ c.find-c.ensures _ (suc c.in-Some.r) c.in-Some.r
    chained looked refl g.G g.H g.state in
    let same : Equal c.requires.coming.G (loaded_words c.args.w.now) (targets c.args.w.now) (get_or (targets c.args.w.now) c.args.t 0) (get_or (targets c.args.w.now) c.in-Some.r 0) = let g = c.requires.coming in
    found_same _ _ _ _ _ c.args.n.in_area (omega arith) _ c.requires.x_lt_n.0 _ c.find-c.ensures _ (suc c.in-Some.r) c.in-Some.r
    chained looked refl g.G g.H g.state g.fresh in
    let g = c.requires.coming in
    let rr = g.fresh.room in
    let rq = g.state.room in
    let wl = words_later _ c.args.w.now _ _ (omega arith) c.unite.ensures.later in
    record {
      x_lt_n = omega arith;
      r_bound = (omega arith, omega arith);
      turning = rw wl (record {
        steady = record {
          G = g.G;
          H = withPair g.H c.target-p.result c.target-q.result;
          F = loaded_words c.args.w.now;
          T = targets c.args.w.now;
          state = c.in_ok-e.ensures.fine refl g.G g.H g.state
              (rw (c.target-p.ensures, c.target-q.ensures) same);
        };
        kept = λ h z. hint_calm _ _ _ _ _ _ _ (omega arith) (omega arith) looked (hint z) (c.in_ok-e.ensures.calm h);
      });
    }

pub returns : goal.returns
returns c =
    let chained : ChainCode (get_or c.args.w.now c.find-c.result 0) = told_bare _ _ _ c.bears_atom.ensures c.if-bears_atom.false in
    let looked : Looked (loaded_words c.args.w.now) c.args.w.now (get_or (loaded_words c.args.w.now) c.args.t 0) (get_or c.args.w.now c.find-c.result 0) (suc c.in-Some.r) =
    subst (Looked (loaded_words c.args.w.now) c.args.w.now (get_or (loaded_words c.args.w.now) c.args.t 0) (get_or c.args.w.now c.find-c.result 0)) (ap arc_code c.in-Some.is)
    (rw c.loaded-f.ensures at c.locate-place.ensures.looked) in
    let wl = words_later _ c.args.w.now _ _ (omega arith) c.unite.ensures.later in
    record {
      visited = visit_found _ _ _ _ _ c.args.n.in_area (omega arith) _ c.requires.x_lt_n.0 _ c.find-c.ensures _ (suc c.in-Some.r) c.in-Some.r
          chained looked refl _ _ _
          (rw (c.target-p.ensures, c.target-q.ensures) at c.in_ok-e.ensures);
      next = λ z. rw wl at c.onward-a.ensures;
    }
