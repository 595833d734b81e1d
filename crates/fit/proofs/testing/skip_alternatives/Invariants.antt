use Prim.Native.Nat.{ℕ, ◌-◌}
use Rattle.fit.specs.Testing.{Skips}
use Rattle.fit.proofs.testing.skip_alternatives.Given as goal

abbrev pub invariant-loop : goal.invariant-loop
invariant-loop l = (r : ℕ) → Skips l.ws l.at (l.count - l.counter) r → Skips l.ws l.p l.count r
