-- `trying::guess::lead` meets its contract. Assumes nothing.
use mathlib.Core.Path.{sym, ◌∙◌}
use native.Mathlib.Omega.{arith}
use Rattle.trying.proofs.Leading.{leads_unsure, leads_bare, leads_atom}
use Rattle.trying.proofs.guess.lead.Goals as goal

pub returns-then-to-base : goal.returns-then-to-base
returns-then-to-base c = leads_unsure _ _ _ _ _ _

pub returns-then-v-eq0 : goal.returns-then-v-eq0
returns-then-v-eq0 c = leads_bare _ _ _ _ _ _ (sym c.target-to.ensures
    ∙ c.if-to-base.false) (sym c.loaded-v.ensures ∙ c.if-v-eq0.true)

pub returns-then-v-lt-CODE_LIMIT : goal.returns-then-v-lt-CODE_LIMIT
returns-then-v-lt-CODE_LIMIT c = leads_unsure _ _ _ _ _ _

pub suit-requires : goal.suit-requires
suit-requires c =
    record {
      anchored = c.requires.anchored;
      sieves = c.requires.sieves;
      atom_code = omega arith;
    }

pub returns : goal.returns
returns c =
    leads_atom c.args.n.count c.args.w.now c.args.g c.args.base c.args.d c.args.i (sym c.target-to.ensures
    ∙ c.if-to-base.false) (omega (arith, c.if-v-lt-CODE_LIMIT.false)) c.suit.result
    (rw (← c.loaded-v.ensures, ← c.loaded-f.ensures) c.suit.ensures)
