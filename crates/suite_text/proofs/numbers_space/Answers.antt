-- `suite_text::numbers_space` meets its contract. Assumes nothing.
use Prim.Native.Nat.{ℕ}
use mathlib.Core.Path.{◌≡◌}
use lib.ListN.{length, replicate, length-replicate}
use Rattle.suite_text.specs.Report.{suite_text_limit}
use Rattle.suite_text.proofs.numbers_space.Goals as goal

zeros : (n : ℕ) → length {A = ℕ} (replicate n 0) ≡ n
zeros n = length-replicate n 0

pub returns : goal.returns
returns c = zeros suite_text_limit
