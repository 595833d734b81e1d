-- What a word that stands for an alternative tells of it.
-- Assumes nothing.
use Prim.Native.Nat.{ℕ, ◌+◌, ◌-◌, ◌≤◌, ◌<◌}
use native.Mathlib.Omega.{arith}
use mathlib.Core.Path.{◌≡◌, refl}
use mathlib.Core.Bool.{Bool, true, false}
use borrow.Author.Tests.{le-leb, lt-leb}
use lib.Dec.{leb}
use Rattle.area.specs.Map.{LOADED}
use Rattle.choosing.specs.Ways.{Take, take_word, new_part}

pub record Told (word : ℕ) (k : Take) : Type 0 where
  pub low : word < LOADED → word ≡ k.entry.at
  pub high : LOADED ≤ word → word - LOADED ≡ k.entry.at
  pub new : leb LOADED word ≡ k.new

pub word_told : (word : ℕ) (k : Take) → k.entry.at < LOADED → word ≡ take_word k → Told word k
word_told word k h e = go k.new refl e
  where
    go : (b : Bool) → k.new ≡ b → word ≡ k.entry.at + new_part b → Told word k
    go true z e = record {
      low = λ l. absurd (omega arith);
      high = λ l. omega arith;
      new = (let m : leb LOADED word ≡ true = le-leb LOADED word (omega arith) in cc);
    }
    go false z e = record {
      low = λ l. omega arith;
      high = λ l. absurd (omega arith);
      new = (let m : leb LOADED word ≡ false = lt-leb LOADED word (omega arith) in cc);
    }
