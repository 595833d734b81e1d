-- `quick::bare::try_bare` meets its contract: what the graph would do is told, or it is pushed.
-- Assumes nothing.
use mathlib.Core.Path.{subst}
use Rattle.trying.specs.Guessed.{Guesses}
use Rattle.quick.proofs.Plain.{told_clash, told_stands}
use Rattle.quick.proofs.bare.try_bare.Goals as goal

pub returns-in-Agrees : goal.returns-in-Agrees
returns-in-Agrees c =
    record {
      tries = λ left e z. told_stands c.args.n.count c.args.k c.args.w.now c.args.g left e z
          (subst (Guesses c.args.n.count c.args.k c.args.w.now c.args.g) c.in-Agrees.is c.guess_through-told.ensures);
    }

pub returns-in-Clashes : goal.returns-in-Clashes
returns-in-Clashes c =
    record {
      tries = λ left e z. told_clash c.args.n.count c.args.k c.args.w.now c.args.g left e
          (subst (Guesses c.args.n.count c.args.k c.args.w.now c.args.g) c.in-Clashes.is c.guess_through-told.ensures);
    }
