-- `reply::reply_in` meets its contract. Assumes nothing.
use native.Mathlib.Omega.{arith}
use mathlib.Core.Path.{refl}
use Rattle.reply.proofs.Replies.{printed_bad, rooms, printed_good, take_count, wrote_same}
use Rattle.reply.proofs.reply_in.Goals as goal

pub returns-in_default : goal.returns-in_default
returns-in_default c =
    let e = printed_bad _ c.args.first.now c.args.second.now _ _ _ c.requires.0 c.requires.1 c.in_default.ensures refl in
    wrote_same _ _ c.args.out.now c.write_bad.new.dst c.write_bad.result e c.write_bad.ensures

pub slice_bounds-answer-end : goal.slice_bounds-answer-end
slice_bounds-answer-end c =
    let h = rooms _ c.args.first.now c.args.second.now _ _ _ c.requires.0 c.requires.1 c.in-Some.ensures c.in-Some.call refl in
    omega arith

pub slice_bounds-answer-end-2 : goal.slice_bounds-answer-end-2
slice_bounds-answer-end-2 c =
    let h = rooms _ c.args.first.now c.args.second.now _ _ _ c.requires.0 c.requires.1 c.in-Some.ensures c.in-Some.call refl in
    take_count _ _ (omega arith)

pub slice_bounds-answer-end-3 : goal.slice_bounds-answer-end-3
slice_bounds-answer-end-3 c =
    let h = rooms _ c.args.first.now c.args.second.now _ _ _ c.requires.0 c.requires.1 c.in-Some.ensures c.in-Some.call refl in
    omega arith

pub slice_bounds-answer-end-4 : goal.slice_bounds-answer-end-4
slice_bounds-answer-end-4 c =
    let h = rooms _ c.args.first.now c.args.second.now _ _ _ c.requires.0 c.requires.1 c.in-Some.ensures c.in-Some.call refl in
    take_count _ _ (omega arith)

pub returns : goal.returns
returns c =
    let e = printed_good _ c.args.first.now c.args.second.now _ _ _ c.requires.0 c.requires.1 c.in-Some.ensures c.in-Some.call refl in
    wrote_same _ _ c.args.out.now c.answer.new.out c.answer.result e c.answer.ensures
