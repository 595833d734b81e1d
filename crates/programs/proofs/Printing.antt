-- What is printed of an input, where one text alone may be said of it.
use Rattle.std.proofs.Common.{◌≡◌, List, ℕ, subst}
use Rattle.std.specs.Prelude.{Option, Result, IfSome, OnOk}
use Rattle.std.specs.Io.KnownBytes.{Appends}
use Rattle.std.proofs.lemmas.Option.{IfSome_then}
use Rattle.std.proofs.lemmas.Result.{on_ok_weaker}
use Rattle.programs.specs.Said.{Prints}

module _ {T E : Type 0} (r : Result T E) (input old new : Option (List ℕ)) (text : List ℕ → List ℕ) where
  -- that text
  pub one_text : OnOk r (IfSome input (λ all. Prints (λ said. said ≡ text all) old new))
      → OnOk r (IfSome input (λ all. Appends old new (text all)))
  one_text = on_ok_weaker r (λ known. IfSome_then input known (λ all prints. subst (Appends old new) prints.1 prints.2))

  -- that text, where it fits
  pub one_text_that_fits : (Fits : List ℕ → Type 0) → OnOk r (IfSome input (λ all. Prints (λ said. Fits all → said ≡ text all) old new))
      → OnOk r (IfSome input (λ all. Fits all → Appends old new (text all)))
  one_text_that_fits Fits =
      on_ok_weaker r (λ known. IfSome_then input known (λ all prints fits. subst (Appends old new) (prints.1 fits) prints.2))
