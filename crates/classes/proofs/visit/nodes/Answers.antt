-- `classes::visit::nodes` meets its contract. The loop's invariant: the nodes from the number y on are left, and stand from the position `at` on.
-- Assumes nothing.
use Prim.Native.Nat.{ℕ, ◌+◌, ◌-◌, ◌<◌}
use mathlib.Core.Path.{◌≡◌, refl, ap, ◌∙◌}
use mathlib.Core.List.{List}
use native.Mathlib.Omega.{arith}
use lib.ListN.{length, get_or}
use Rattle.area.specs.Region.{loaded_words}
use Rattle.forest.specs.State.{targets}
use Rattle.forest.proofs.Words.{words_later, targets_later}
use Rattle.classes.proofs.Runs.{node_low, nodes_low, node_span, marching_start, marching_noding, marching_turn, listed_bad}
use Rattle.classes.proofs.Runs.{listed_end}
use borrow.Author.Rules.{rules}
use mathlib.Core.Logic.{⊎_elim}
use Rattle.std.proofs.lemmas.Result.{err_from_is_err_and}
use Rattle.classes.proofs.visit.nodes.Goals as goal

pub loop-y-init : goal.loop-y-init
loop-y-init c =
    let F = loaded_words c.args.w.now in
    let T = targets c.args.w.now in
    let all : c.args.x + c.args.c - c.args.x ≡ c.args.c = omega arith in
    rw all (marching_start F T c.args.n.count c.args.k c.args.w.now c.args.x c.args.p c.args.c c.requires.listing.state.logged)

pub node-requires : goal.node-requires
node-requires c =
    let F = loaded_words c.args.w.now in
    let T = targets c.args.w.now in
    let le : length c.loop-y.w ≡ length c.args.w.now = c.loop-y.invariant.later.len in
    let h : 0 < c.args.x + c.args.c - c.loop-y.y = omega arith in
    let wl = words_later c.args.k c.args.w.now c.loop-y.e c.loop-y.w (omega arith) c.loop-y.invariant.later in
    let tl = targets_later c.args.k c.args.w.now c.loop-y.e c.loop-y.w (omega arith) c.loop-y.invariant.later in record {
      noding = rw (wl, tl)
          (marching_noding F T c.args.n.count c.args.k c.args.w.now c.args.x c.args.p c.args.c c.loop-y.e c.loop-y.y c.loop-y.at (c.args.x + c.args.c - c.loop-y.y) c.loop-y.w c.loop-y.invariant c.requires.listing h);
    }

pub returns-in_err-e : goal.returns-in_err-e
returns-in_err-e c =
    let F = loaded_words c.args.w.now in
    let T = targets c.args.w.now in
    let le : length c.loop-y.w ≡ length c.args.w.now = c.loop-y.invariant.later.len in
    let h : 0 < c.args.x + c.args.c - c.loop-y.y = omega arith in
    let wl = words_later c.args.k c.args.w.now c.loop-y.e c.loop-y.w (omega arith) c.loop-y.invariant.later in
    let tl = targets_later c.args.k c.args.w.now c.loop-y.e c.loop-y.w (omega arith) c.loop-y.invariant.later in
    let p = err_from_is_err_and c.from_residual.result c.from_residual.ensures.1 in
    rw (p.1, p.2) (listed_bad F T c.args.n.count c.args.k c.args.w.now c.args.x c.args.p c.args.c c.loop-y.e c.loop-y.y c.loop-y.at (c.args.x + c.args.c - c.loop-y.y) c.loop-y.w c.loop-y.invariant h _ _ _
    (rw (wl, tl) at c.in_err-e.ensures) refl)

pub loaded-requires : goal.loaded-requires
loaded-requires c =
    let F = loaded_words c.args.w.now in
    let T = targets c.args.w.now in
    let le : length c.loop-y.w ≡ length c.args.w.now = c.loop-y.invariant.later.len in
    let h : 0 < c.args.x + c.args.c - c.loop-y.y = omega arith in
    let nd = marching_noding F T c.args.n.count c.args.k c.args.w.now c.args.x c.args.p c.args.c c.loop-y.e c.loop-y.y c.loop-y.at (c.args.x + c.args.c - c.loop-y.y) c.loop-y.w c.loop-y.invariant c.requires.listing h in
    let lo = node_low F nd.G c.args.n.count c.loop-y.y c.loop-y.at nd.v nd.node in
    let lp = lo.0 in
    let lx = lo.1 in
    omega arith

pub overflow_add-at : goal.overflow_add-at
overflow_add-at c =
    let F = loaded_words c.args.w.now in
    let T = targets c.args.w.now in
    let le : length c.loop-y.w ≡ length c.args.w.now = c.loop-y.invariant.later.len in
    let h : 0 < c.args.x + c.args.c - c.loop-y.y = omega arith in
    let wl = words_later c.args.k c.args.w.now c.loop-y.e c.loop-y.w (omega arith) c.loop-y.invariant.later in
    let nd = marching_noding F T c.args.n.count c.args.k c.args.w.now c.args.x c.args.p c.args.c c.loop-y.e c.loop-y.y c.loop-y.at (c.args.x + c.args.c - c.loop-y.y) c.loop-y.w c.loop-y.invariant c.requires.listing h in
    let lo = node_low F nd.G c.args.n.count c.loop-y.y c.loop-y.at nd.v nd.node in
    let lp = lo.0 in
    let lx = lo.1 in
    let w2 = words_later c.loop-y.e c.loop-y.w _ c.node.new.w (omega arith) c.node.ensures.later ∙ wl in
    let he : c.loaded.result ≡ get_or F c.loop-y.at 0 = c.loaded.ensures ∙ ap (λ (z : List ℕ). get_or z c.loop-y.at 0) w2 in
    let z = node_span F nd.G c.args.n.count c.loop-y.y c.loop-y.at nd.v nd.node c.span-at.result (λ b. c.span-at.ensures.0 (omega arith))
    (λ b. c.span-at.ensures.1 (omega arith) ∙ omega arith) in
    search rules

pub loop-y-preserved : goal.loop-y-preserved
loop-y-preserved c =
    let F = loaded_words c.args.w.now in
    let T = targets c.args.w.now in
    let le : length c.loop-y.w ≡ length c.args.w.now = c.loop-y.invariant.later.len in
    let h : 0 < c.args.x + c.args.c - c.loop-y.y = omega arith in
    let wl = words_later c.args.k c.args.w.now c.loop-y.e c.loop-y.w (omega arith) c.loop-y.invariant.later in
    let tl = targets_later c.args.k c.args.w.now c.loop-y.e c.loop-y.w (omega arith) c.loop-y.invariant.later in
    let w2 = words_later c.loop-y.e c.loop-y.w _ c.node.new.w (omega arith) c.node.ensures.later ∙ wl in
    let he : c.loaded.result ≡ get_or F c.loop-y.at 0 = c.loaded.ensures ∙ ap (λ (z : List ℕ). get_or z c.loop-y.at 0) w2 in
    let less : c.args.x + c.args.c - c.loop-y.y - 1 ≡ c.args.x + c.args.c - (c.loop-y.y + 1) = omega arith in
    rw (← less) (marching_turn F T c.args.n.count c.args.k c.args.w.now c.args.x c.args.p c.args.c c.loop-y.e c.loop-y.y c.loop-y.at (c.args.x + c.args.c - c.loop-y.y) c.loop-y.w c.loop-y.invariant h _ _ _
    (rw (wl, tl) at c.in_ok-e.ensures) refl c.span-at.result (λ b. c.span-at.ensures.0 (omega arith)) (λ b. c.span-at.ensures.1 (omega arith) ∙ omega arith))

pub returns : goal.returns
returns c =
    let F = loaded_words c.args.w.now in
    let T = targets c.args.w.now in
    let le : length c.loop-y.w ≡ length c.args.w.now = c.loop-y.invariant.later.len in
    listed_end F T c.args.n.count c.args.k c.args.w.now c.args.x c.args.p c.args.c c.loop-y.e c.loop-y.y c.loop-y.at (c.args.x + c.args.c - c.loop-y.y) c.loop-y.w c.loop-y.invariant (omega arith)

pub overflow_add-y-end : goal.overflow_add-y-end
overflow_add-y-end c =
    let g = c.requires.listing in
    let low = nodes_low _ _ _ _ _ _ g.nodes in
    let many = g.many in
    let x = c.ranges.x in
    ⊎_elim (λ e. omega arith) (λ h. omega arith) low
