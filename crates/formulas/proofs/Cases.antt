-- The known formulas, as one table under one claim.
-- Assumes nothing.
use mathlib.Core.Path.{◌≡◌, refl}
use mathlib.Core.List.{map}
use Rattle.formulas.specs.Part.{part_graph}
use Rattle.formulas.specs.Describe.{settle_draft, describe}
use Rattle.formulas.specs.Known.{FormulaCase, known_formulas, shown_words}

pub known_cases : map (λ (c : FormulaCase). shown_words (describe c.formula)) known_formulas
    ≡ map (λ (c : FormulaCase). c.answer) known_formulas
unfolding settle_draft part_graph
known_cases = refl
