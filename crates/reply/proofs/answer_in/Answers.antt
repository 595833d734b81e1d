-- `reply::answer_in` meets its contract. Assumes nothing.
use Rattle.unify.proofs.Sizes.{outcome_told}
use Rattle.reply.proofs.Replies.{said_other, said_done, reply_told}
use Rattle.reply.proofs.answer_in.Goals as goal
use Rattle.reply.proofs.answer_in.Goals.{then-row-eq0, else-row-eq0}

pub returns : goal.returns
returns c =
    let o = outcome_told _ _ _ c.unify-came.result _ _ _ _ c.unify-came.ensures.outcome c.told-row.ensures in
    reply_told _ _ _ _ c.requires.0 c.requires.1 o _ c.args.out.now c.write_answer-written.new.dst c.write_answer-written.result
    (elim c.if-row-eq0.branch [
      | then-row-eq0 w ↦ rw w.shown-is (said_done _ _ _ _ c.requires.0 c.requires.1 o w.if-row-eq0.true)
      | else-row-eq0 w ↦ said_other _ _ _ _ c.requires.0 c.requires.1 o _ w.if-row-eq0.false
    ])
    c.write_answer-written.ensures
