-- What a list of graphs says: a graph that may be joined to it with no effect. Order and repetition do not count, and a join stands
-- for what it joins.
-- Assumes nothing.
use mathlib.Core.Path.{◌≡◌}
use mathlib.Core.Logic.{◌⊎◌}
use mathlib.Core.List.{◌∷◌, ◌++◌, Memᴰ}
use Rattle.theory.specs.Net.{Graph, Canonical}
use Rattle.theory.specs.Join.{join}
use Rattle.theory.proofs.Instance.{AllCanonical}
use Rattle.theory.specs.Canonical.{Ctx, Fine}
use Rattle.theory.proofs.Live.{Agrees}
use Rattle.descriptions.proofs.Laws.{Within}
use Rattle.theory.proofs.Laws.{laws}

abbrev pub Says : Ctx → Graph → Type 0
Says = Rattle.modes_by_marks.proofs.Entail.Says laws

abbrev pub SaysAll : Ctx → Ctx → Type 0
SaysAll = Rattle.modes_by_marks.proofs.Entail.SaysAll laws

pub fine_cons : (g : Graph) (a : Ctx) → Canonical g → AllCanonical a → Fine (g ∷ a)
fine_cons = Rattle.modes_by_marks.proofs.Entail.fine_cons laws

pub agrees_says : (A B : Ctx) → Fine A → Fine B → SaysAll A B → Agrees A → Agrees B
agrees_says = Rattle.modes_by_marks.proofs.Entail.agrees_says laws

pub join_both : (A B : Ctx) → Fine A → Fine B → SaysAll A B → SaysAll B A → join A ≡ join B
join_both = Rattle.modes_by_marks.proofs.Entail.join_both laws

pub join_without : (A B C : Ctx) → Fine A → AllCanonical B → AllCanonical C → Within C B →
    ((g : Graph) → Memᴰ g B → Memᴰ g C ⊎ Says A g) → join (A ++ B) ≡ join (A ++ C)
join_without = Rattle.modes_by_marks.proofs.Entail.join_without laws
