-- `explaining::explain_text` meets its contract.
-- Assumes nothing.
use Prim.Native.Nat.{ℕ}
use lib.ListN.{length-replicate}
use Rattle.reply.proofs.Replies.{heard_bad, heard_good}
use Rattle.explaining.proofs.Texts.{bad_explained, heard_explained}
use Rattle.explaining.proofs.explain_text.Goals as goal

pub returns-in_default : goal.returns-in_default
returns-in_default c =
    let e = heard_bad _ _ _ _ _ _ (length-replicate {A = ℕ} 2048 0) (length-replicate {A = ℕ} 2048 0) c.read_call.ensures c.in_default.is in
    bad_explained _ c.args.out.now c.write_bad.new.dst c.write_bad.result e c.write_bad.ensures

pub returns : goal.returns
returns c =
    let e = heard_good _ _ _ _ _ _ (length-replicate {A = ℕ} 2048 0) (length-replicate {A = ℕ} 2048 0) c.read_call.ensures c.in-Some.call c.in-Some.is in
    heard_explained _ c.args.out.now c.explain_call.new.out c.explain_call.result _ e c.explain_call.ensures
