-- Case 11 of document 01 from the reader's contract: "`1 0 1 1` A is malformed; `1 65536 0` is not; `1 131072 0` is."
-- Assumes nothing.
use mathlib.Core.Path.{◌≡◌, refl}
use mathlib.Core.List.{[], ◌∷◌}
use Rattle.theory.specs.Reading.{decode}
use Rattle.theory.specs.Known.{A}
use Rattle.std.specs.Prelude.{Bool, true, false}
use Rattle.layout.specs.Judged.{Judged}
use Rattle.layout.proofs.Whole.{accepted_decodes, refused_decodes, malformed_answer}

pub one_alternative : (r : Bool) → Judged (1 ∷ 0 ∷ 1 ∷ 1 ∷ A) r → r ≡ false
unfolding decode
one_alternative r j = malformed_answer r ((refused_decodes _ r j).1 refl)

pub lowest_atom : (r : Bool) → Judged (1 ∷ 65536 ∷ 0 ∷ []) r → r ≡ true
unfolding decode
lowest_atom r j = (accepted_decodes _ r j).1 (_, refl)

pub head_too_high : (r : Bool) → Judged (1 ∷ 131072 ∷ 0 ∷ []) r → r ≡ false
unfolding decode
head_too_high r j = malformed_answer r ((refused_decodes _ r j).1 refl)
