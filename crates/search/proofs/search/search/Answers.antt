-- `search::search::search` meets its contract. Assumes nothing.
use mathlib.Core.List.{[]}
use Rattle.search.proofs.Both.{second_opens, first_opens, search_asks, searches}
use Rattle.search.proofs.search.search.Goals as goal

pub descend-second-requires : goal.descend-second-requires
descend-second-requires c = let old : _ × (_ × _) = second_opens _ _ _ c.requires _ c.nothing-none.ensures in record { g_bound = old.0.0; g_bound_2 = old.1.0; fact = old.1.1 }

pub descend-both-requires : goal.descend-both-requires
descend-both-requires c = let old : _ × (_ × _) = first_opens _ _ _ c.requires _
    (c.descend-second.ensures [] c.nothing-none.ensures) in record { g_bound = old.0.0; g_bound_2 = old.1.0; fact = old.1.1 }

pub resume-requires : goal.resume-requires
resume-requires c = search_asks _ _ _ c.requires _
    (c.descend-both.ensures _
    (c.descend-second.ensures [] c.nothing-none.ensures))

pub returns : goal.returns
returns c = searches _ _ _ _ (c.descend-both.ensures _
    (c.descend-second.ensures []
    c.nothing-none.ensures)) _ _ c.resume.ensures
