-- `unify::conclude` meets its contract. Assumes nothing.
use native.Mathlib.Omega.{arith}
use Rattle.answering.proofs.Handing.{handed_caused}
use Rattle.unify.proofs.Outcomes.{made_room, concluded}
use Rattle.unify.proofs.conclude.Goals as goal

pub hand_over-answer-requires : goal.hand_over-answer-requires
hand_over-answer-requires c = made_room _ _ _ _ c.requires.0
    c.requires.1 _ _
    c.make-made.ensures

pub returns : goal.returns
returns c =
    record {
      outcome = λ rest. concluded _ _ _ _ c.requires.0 c.requires.1 _ _ c.make-made.ensures _ _ c.wipe.ensures (omega arith) rest _ _
          c.hand_over-answer.ensures;
      caused = handed_caused _ _ _ _ c.make-made.result _ _ c.hand_over-answer.ensures;
    }
