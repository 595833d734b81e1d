-- `library::survey::check_held` meets its contract.
-- Assumes nothing.
use native.Mathlib.Omega.{arith}
use mathlib.Core.Path.{◌∙◌}
use Rattle.library.proofs.Good.{opens}
use Rattle.library.proofs.Opening.{never_short, block_held, held_start, checks_none, checks_damaged, checks_whole}
use Rattle.library.proofs.survey.check_held.Goals as goal

-- no index counts so many
pub returns-then-count-gt-ENTRIES : goal.returns-then-count-gt-ENTRIES
returns-then-count-gt-ENTRIES c = λ good.
    absurd (let few = (opens c.args.file.now c.args.count good).few in omega (arith, c.if-count-gt-ENTRIES.true))

pub returns-then-k-eq0 : goal.returns-then-k-eq0
returns-then-k-eq0 c = λ good.
    held_start c.args.k c.args.count c.args.file.now c.if-k-eq0.true ∙ block_held c.args.k c.args.count c.args.file.now good

pub returns-in_default : goal.returns-in_default
returns-in_default c = λ good. absurd (never_short c.args.file.now c.args.count good c.in_default.ensures.cases)

pub returns-in_default-find_holder : goal.returns-in_default-find_holder
returns-in_default-find_holder c = λ good.
    checks_none c.args.file.now _ c.in-Some.ensures.cases.same _ _ c.if-k-eq0.false _ c.find_holder.ensures c.in_default-find_holder.is
    ∙ block_held c.args.k c.args.count c.args.file.now good

pub returns-then-is_damaged : goal.returns-then-is_damaged
returns-then-is_damaged c = λ good.
    checks_damaged c.args.file.now _ c.in-Some.ensures.cases.same _ _ c.if-k-eq0.false _ c.find_holder.ensures
    _ c.in-Some-find_holder.is c.if-is_damaged.ensures
    ∙ block_held c.args.k c.args.count c.args.file.now good

pub returns-else-is_damaged : goal.returns-else-is_damaged
returns-else-is_damaged c = λ good.
    checks_whole c.args.file.now _ c.in-Some.ensures.cases.same _ _ c.if-k-eq0.false _ c.find_holder.ensures
    _ c.in-Some-find_holder.is c.if-is_damaged.ensures
    ∙ block_held c.args.k c.args.count c.args.file.now good
