-- `trying::guess::guess_through` meets its contract. Assumes nothing.
use mathlib.Core.Path.{sym, ◌∙◌, subst}
use mathlib.Core.Logic.{inl, inr}
use native.Mathlib.Omega.{arith}
use Rattle.forest.proofs.Contents.{told_atom, told_code}
use Rattle.forest.proofs.Walks.{some}
use Rattle.sieving.specs.Sieved.{Sieves}
use Rattle.trying.proofs.Guessing.{guesses_unsure, guess_low, guess_room, guess_anchored, guesses_root, guesses_arcs}
use Rattle.trying.proofs.guess.guess_through.Goals as goal
use Rattle.trying.proofs.guess.guess_through.Goals.{in-Nothing, in-Arcs}

pub loaded-requires : goal.loaded-requires
loaded-requires c =
    let l = guess_low c.args.n.count c.args.k c.args.w.now c.args.g c.requires.pushing in
    l.0

pub returns-then-d-c : goal.returns-then-d-c
returns-then-d-c c = guesses_unsure _ _ _ _

pub find-a-requires : goal.find-a-requires
find-a-requires c =
    let l = guess_low c.args.n.count c.args.k c.args.w.now c.args.g c.requires.pushing in
    record {
      i_lt_n = l.1.0;
      shape = c.requires.pushing.holds.state.shape;
    }

pub held_by-held-requires : goal.held_by-held-requires
held_by-held-requires c =
    omega arith

pub returns-then-d-eq0 : goal.returns-then-d-eq0
returns-then-d-eq0 c = guesses_unsure _ _ _ _

pub returns-in-Atom : goal.returns-in-Atom
returns-in-Atom c =
    let bears = told_atom _ _ _ (sym c.held_by-held.ensures ∙ c.in-Atom.is) in
    guesses_root c.args.n.count c.args.k c.args.w.now c.args.g c.loaded-head.result c.number_of-base.result c.nodes_of-c.result c.wide-d.result c.loaded-head.ensures c.number_of-base.ensures c.nodes_of-c.ensures
    (c.wide-d.ensures ∙ c.loaded.ensures) c.if-d-c.false c.find-a.result c.find-a.ensures
    (some c.wide-d.result c.if-d-eq0.false) (omega arith)

pub lead_all-requires : goal.lead_all-requires
lead_all-requires c =
    let code = told_code _ _ _ c.held_by-held.ensures _
    (elim c.match-held.branch [ in-Nothing u ↦ inl (u.in-Nothing.is, u.x-is) | in-Arcs u ↦ inr (_, (u.in-Arcs.is, u.x-is)) ]) in record {
      anchored = guess_anchored c.args.n.count c.args.k c.args.w.now c.args.g c.loaded-head.result c.number_of-base.result c.nodes_of-c.result c.wide-d.result c.loaded-head.ensures c.number_of-base.ensures c.nodes_of-c.ensures
          (c.wide-d.ensures ∙ c.loaded.ensures) c.if-d-c.false c.find-a.result c.find-a.ensures c.requires.pushing c.match-held.x
          code.0 (omega arith);
      sieves = subst (Sieves c.args.w.now c.args.t.now) (sym code.0) (c.requires.sieved.tells c.find-a.result c.find-a.ensures);
      base_bound = (
        omega arith,
        guess_room c.args.n.count c.args.k c.args.w.now c.args.g c.loaded-head.result c.number_of-base.result c.nodes_of-c.result c.wide-d.result c.loaded-head.ensures c.number_of-base.ensures c.nodes_of-c.ensures
            (c.wide-d.ensures ∙ c.loaded.ensures) c.if-d-c.false c.requires.pushing,
      );
    }

pub returns : goal.returns
returns c =
    let code = told_code _ _ _ c.held_by-held.ensures _
    (elim c.match-held.branch [ in-Nothing u ↦ inl (u.in-Nothing.is, u.x-is) | in-Arcs u ↦ inr (_, (u.in-Arcs.is, u.x-is)) ]) in
    guesses_arcs c.args.n.count c.args.k c.args.w.now c.args.g c.loaded-head.result c.number_of-base.result c.nodes_of-c.result c.wide-d.result c.loaded-head.ensures c.number_of-base.ensures c.nodes_of-c.ensures
    (c.wide-d.ensures ∙ c.loaded.ensures) c.if-d-c.false c.find-a.result c.find-a.ensures (omega arith)
    c.lead_all.result c.lead_all.ensures
