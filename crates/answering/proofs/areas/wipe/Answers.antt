-- `answering::areas::wipe` meets its contract. Assumes nothing.
use Rattle.std.proofs.Common.{◌≡◌, ◌++◌, sym, ap, ◌∙◌, ℕ, List, length, replicate, arith}
use Rattle.std.proofs.Math.ListN.{drop_of_length-le}
use Rattle.std.proofs.lemmas.List.{append-nil}
use Rattle.theory.specs.Limits.{working_size}
use Rattle.theory.specs.Outcome.{wiped}
use Rattle.answering.proofs.areas.wipe.Goals as goal

pub returns : goal.returns
unfolding wiped
returns c =
    let size : length c.args.w.now ≡ working_size = omega arith in
    c.fill.ensures.after (λ y e. e) ∙ ap (λ (n : ℕ). replicate n 0) size
    ∙ sym (ap (λ (l : List ℕ). replicate working_size 0 ++ l) (drop_of_length-le c.args.w.now {i = working_size} (omega arith)) ∙ append-nil (replicate working_size 0))
