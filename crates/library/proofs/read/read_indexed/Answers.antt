-- `library::read::read_indexed` meets its contract.
-- Assumes nothing.
use mathlib.Core.Path.{sym, ◌∙◌}
use Rattle.library.proofs.Good.{opens, found_placed}
use Rattle.library.proofs.Opening.{never_short, sought_there, fetches_absent, fetches_found}
use Rattle.library.proofs.read.read_indexed.Goals as goal

pub find-requires : goal.find-requires
find-requires c = (opens c.args.file.now c.args.count c.requires).few

pub read_description-requires : goal.read_description-requires
read_description-requires c =
    let there = sought_there c.args.file.now _ c.in-Some.ensures.cases.same c.args.identifier c.args.count _ c.find.ensures in
    found_placed c.args.file.now c.args.identifier c.args.count c.in-Some-find.place.first c.in-Some-find.place.words c.requires
    (sym c.in-Some-find.is ∙ there)

pub returns-in_default : goal.returns-in_default
returns-in_default c = absurd (never_short c.args.file.now c.args.count c.requires c.in_default.ensures.cases)

pub returns-in_default-find : goal.returns-in_default-find
returns-in_default-find c =
    fetches_absent c.args.file.now _ c.in-Some.ensures.cases.same c.args.identifier c.args.count c.args.area.now _ c.find.ensures
    c.in_default-find.is

pub returns : goal.returns
returns c =
    fetches_found c.args.file.now _ c.in-Some.ensures.cases.same c.args.identifier c.args.count c.args.area.now _ c.find.ensures
    _ _ _ c.in-Some-find.is c.read_description.ensures
