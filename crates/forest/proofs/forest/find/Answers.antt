-- `forest::forest::find` meets its contract. The loop's invariant: x has the root of i, and p is its parent. Its measure: the
-- steps that are left, ten at most. Assumes nothing.
use mathlib.Core.Path.{◌≡◌, refl, sym, ap, ◌∙◌}
use Prim.Native.Nat.{ℕ}
use native.Mathlib.Omega.{arith}
use lib.ListN.{length, get_or}
use Rattle.forest.specs.Forest.{parents}
use Rattle.forest.proofs.Wood.{climb_less}
use Rattle.forest.proofs.Parents.{length_parents}
use borrow.Author.Rules.{rules}
use Rattle.forest.proofs.forest.find.Goals as goal

pub loop-p-init : goal.loop-p-init
loop-p-init c = (search rules, (c.parent-p.ensures.0, λ L f. refl))

pub loop-p-smaller : goal.loop-p-smaller
loop-p-smaller c =
    let l : length (parents c.args.n.count c.args.w.now) ≡ c.args.n.count = length_parents c.args.n.count c.args.w.now (omega arith) in
    rw c.loop-p.invariant.1.0 (climb_less (parents c.args.n.count c.args.w.now) c.requires.shape c.loop-p.x (omega arith)
    (λ e. c.loop-p-test.true (c.loop-p.invariant.1.0 ∙ e)))

pub loop-p-preserved : goal.loop-p-preserved
loop-p-preserved c =
    let l : length (parents c.args.n.count c.args.w.now) ≡ c.args.n.count = length_parents c.args.n.count c.args.w.now (omega arith) in (
      omega arith,
      (
        c.parent-p-in-loop-p.ensures.0,
        λ L f. c.loop-p.invariant.1.1 L f ∙ f.follow c.loop-p.x (omega arith)
            ∙ ap (λ (t : ℕ). get_or L t 0) (sym c.loop-p.invariant.1.0),
      ),
    )

pub returns : goal.returns
returns c =
    let l : length (parents c.args.n.count c.args.w.now) ≡ c.args.n.count = length_parents c.args.n.count c.args.w.now (omega arith) in
    let t = sym c.loop-p.invariant.1.0 ∙ c.loop-p-test.false in
    record { low = omega arith; top = t; is = λ L f. c.loop-p.invariant.1.1 L f ∙ f.tops c.loop-p.x (omega arith) t }
