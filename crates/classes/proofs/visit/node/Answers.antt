-- `classes::visit::node` meets its contract. Assumes nothing.
use mathlib.Core.Path.{◌≡◌, ◌∙◌}
use native.Mathlib.Omega.{arith}
use lib.ListN.{get_or}
use Rattle.area.specs.Region.{loaded_words}
use Rattle.forest.specs.State.{targets}
use Rattle.classes.proofs.Runs.{node_low, noded_mark, noded_run}
use Rattle.classes.proofs.visit.node.Goals as goal

pub returns-then-h-ge-CODE_LIMIT : goal.returns-then-h-ge-CODE_LIMIT
returns-then-h-ge-CODE_LIMIT c =
    let F = loaded_words c.args.w.now in
    let T = targets c.args.w.now in
    let lo = node_low F c.requires.noding.G c.args.n.count c.args.x c.args.p c.requires.noding.v c.requires.noding.node in
    let lp = lo.0 in
    let lx = lo.1 in
    let he : c.loaded-h.result ≡ get_or F c.args.p 0 = c.loaded-h.ensures in
    noded_mark F T c.args.n.count c.args.k c.args.w.now c.args.x c.args.p _ _ c.mark.new.w (omega arith)
    (rw he at c.mark.ensures)

pub returns : goal.returns
returns c =
    let F = loaded_words c.args.w.now in
    let T = targets c.args.w.now in
    let lo = node_low F c.requires.noding.G c.args.n.count c.args.x c.args.p c.requires.noding.v c.requires.noding.node in
    let lp = lo.0 in
    let lx = lo.1 in
    let he : c.loaded-h.result ≡ get_or F c.args.p 0 = c.loaded-h.ensures in
    let we : c.wide.result ≡ get_or F c.args.p 0 = c.wide.ensures ∙ he in
    noded_run F T c.args.n.count c.args.k c.args.w.now c.args.x c.args.p _ _ c.arcs.new.w (omega arith)
    (rw we at c.arcs.ensures)
