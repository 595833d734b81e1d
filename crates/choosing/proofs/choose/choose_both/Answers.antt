-- `choosing::choose::choose_both` meets its contract. Assumes nothing.
use Rattle.choosing.proofs.Both.{both_asks, both_some, both_first, both_second, both_beyond, both_long, both_writes}
use Rattle.choosing.proofs.choose.choose_both.Goals as goal

pub count_choices-first-requires : goal.count_choices-first-requires
count_choices-first-requires c = (both_asks c.requires).0

pub count_choices-second-requires : goal.count_choices-second-requires
count_choices-second-requires c = (both_asks c.requires).1

pub nonzero_div-c : goal.nonzero_div-c
nonzero_div-c c =
    both_some c.requires _ _ c.count_choices-first.ensures
    c.count_choices-second.ensures

pub choose-at-requires : goal.choose-at-requires
choose-at-requires c =
    both_first c.requires _ _ c.count_choices-first.ensures
    c.count_choices-second.ensures

pub nonzero_rem-c : goal.nonzero_rem-c
nonzero_rem-c c =
    both_some c.requires _ _
    c.count_choices-first.ensures
    c.count_choices-second.ensures

pub choose-requires : goal.choose-requires
choose-requires c =
    both_second c.requires _ _
    c.count_choices-first.ensures
    c.count_choices-second.ensures _ _ c.choose-at.ensures

pub returns : goal.returns
returns c =
    record {
      beyond =
          both_beyond c.requires _ _
          c.count_choices-first.ensures c.count_choices-second.ensures _ _ c.choose-at.ensures _ _ c.choose.ensures;
      long = λ k. both_long k _ _ c.count_choices-first.ensures c.count_choices-second.ensures _ _ c.choose-at.ensures _ _ c.choose.ensures;
      stands = λ k. both_writes k _ _ c.count_choices-first.ensures c.count_choices-second.ensures _ _ c.choose-at.ensures _ _ c.choose.ensures;
    }
