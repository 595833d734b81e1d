-- `counting::choices::count_both` meets its contract. Assumes nothing.
use Rattle.counting.proofs.Products.{cap_fits}
use Rattle.counting.proofs.Both.{counted_both}
use Rattle.counting.proofs.choices.count_both.Goals as goal

pub overflow_mul-first : goal.overflow_mul-first
overflow_mul-first c = cap_fits c.count_choices-first.ensures.small c.count_choices-second.ensures.small

pub returns : goal.returns
returns c = counted_both _ _ _ _ _ c.count_choices-first.ensures c.count_choices-second.ensures c.capped.ensures
