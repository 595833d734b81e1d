-- `suite_lines::lines::put_other` meets its contract. Assumes nothing.
use Rattle.suite_lines.proofs.Pieces.{goes, stops, ends, other_begins}
use Rattle.suite_lines.proofs.lines.put_other.Goals as goal

pub returns-in_err-two : goal.returns-in_err-two
returns-in_err-two c =
    let begun = other_begins c.args.test c.args.seen.number c.args.seen.readings c.args.out.now c.args.at in
    rw c.from_residual.ensures (stops begun c.put_labelled.new.dst c.in_err-two.ensures)

pub returns-in_err-three : goal.returns-in_err-three
returns-in_err-three c =
    let begun = other_begins c.args.test c.args.seen.number c.args.seen.readings c.args.out.now c.args.at in
    let left₁ = goes begun c.in_ok-two.two c.put_labelled.new.dst c.in_ok-two.ensures in
    rw c.from_residual-in_err-three.ensures (stops left₁ c.put_labelled-2.new.dst c.in_err-three.ensures)

pub returns-in_err-four : goal.returns-in_err-four
returns-in_err-four c =
    let begun = other_begins c.args.test c.args.seen.number c.args.seen.readings c.args.out.now c.args.at in
    let left₁ = goes begun c.in_ok-two.two c.put_labelled.new.dst c.in_ok-two.ensures in
    let left₂ = goes left₁ c.in_ok-three.three c.put_labelled-2.new.dst c.in_ok-three.ensures in
    rw c.from_residual-in_err-four.ensures (stops left₂ c.put_labelled-3.new.dst c.in_err-four.ensures)

pub returns : goal.returns
returns c =
    let begun = other_begins c.args.test c.args.seen.number c.args.seen.readings c.args.out.now c.args.at in
    let left₁ = goes begun c.in_ok-two.two c.put_labelled.new.dst c.in_ok-two.ensures in
    let left₂ = goes left₁ c.in_ok-three.three c.put_labelled-2.new.dst c.in_ok-three.ensures in
    let left₃ = goes left₂ c.in_ok-four.four c.put_labelled-3.new.dst c.in_ok-four.ensures in
    ends left₃ c.put_last.new.dst c.put_last.result c.put_last.ensures
