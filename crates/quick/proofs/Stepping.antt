-- The parts of steps that are the same.
-- Assumes nothing.
use Prim.Native.Nat.{ℕ}
use mathlib.Core.Path.{◌≡◌, ap}
use Rattle.std.specs.Prelude.{Some}
use Rattle.std.proofs.lemmas.Option.{same_Some}
use Rattle.quick.specs.declared.step.Step.{Step}
use Rattle.quick.specs.Stepped.{stepped}

pub same_log : (a b c d : ℕ) → Some (stepped a b) ≡ Some (stepped c d) → a ≡ c
same_log a b c d e = ap (λ (s : Step). s.log) (same_Some _ _ e)

pub same_drops : (a b c d : ℕ) → Some (stepped a b) ≡ Some (stepped c d) → b ≡ d
same_drops a b c d e = ap (λ (s : Step). s.drops) (same_Some _ _ e)
