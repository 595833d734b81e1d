-- What is asked of a map, step by step.
-- Assumes nothing.
use Prim.Native.Nat.{ℕ}
use mathlib.Core.Logic.{◌↔◌}
use mathlib.Core.List.{List}
use Rattle.fit.specs.Sending.{SameMaps, Turns, NoMap}

abbrev Asks : Type 1
Asks = (ℕ → ℕ) → Type 0

pub comes_start : (M : List ℕ) (k : ℕ) (P : Asks) → SameMaps M k P M k P
comes_start M k P = record { onward = λ m a p. (a, p); back = λ m a p. (a, p) }

module _ (L : List ℕ) (j : ℕ) (O : Asks) (M : List ℕ) (k : ℕ) (P : Asks) (c : SameMaps L j O M k P) where
  -- a part of what is asked is done
  pub comes_on : (Q : Asks) (N : List ℕ) (l : ℕ) (R : Asks) → ((m : ℕ → ℕ) → P m ↔ (Q m × R m)) → Turns M k Q N l → SameMaps L j O N l R
  comes_on Q N l R same t = record {
    onward = λ m a o.
        let s = c.onward m a o in
        let q = (same m).0 s.1 in
        ((t.onward m s.0 q.0).0, q.1);
    back = λ m a r. let s = t.back m a tt in c.back m s.0 ((same m).1 (s.1, r));
  }

  -- nothing is left
  pub comes_end : ((m : ℕ → ℕ) → P m) → Turns L j O M k
  comes_end all = record { onward = λ m a o. ((c.onward m a o).0, tt); back = λ m a _. c.back m a (all m) }

  pub comes_refused : NoMap M k P → NoMap L j O
  comes_refused n m a o = let s = c.onward m a o in n m s.0 s.1
