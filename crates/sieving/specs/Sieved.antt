-- What a sieve tells of the graphs that are pushed. Assumes nothing: these are definitions.
use Rattle.std.specs.Prelude.{◌≡◌, List, ℕ, ◌%◌, ◌<◌, length, get_or}
use Rattle.area.specs.Region.{loaded_words}
use Rattle.forest.specs.Forest.{Root}
use Rattle.forest.specs.State.{Runs, Looked}

-- a sieve has as many words: one for each feature modulo this
abbrev pub SIEVE_SIZE : ℕ
SIEVE_SIZE = 256

-- nothing is noted
abbrev pub Blank : List ℕ → Type 0
Blank t = (i : ℕ) → get_or t i 0 ≡ 0

-- t has an arc for the feature f, or 0, and what is found from there on is what is found on the whole chain from the code x
pub record Sieves (w t : List ℕ) (x : ℕ) : Type 0 where
  pub runs : (f : ℕ) → f % SIEVE_SIZE < length t → Runs w (get_or t (f % SIEVE_SIZE) 0)
  pub same : (f r : ℕ) → f % SIEVE_SIZE < length t → Looked (loaded_words w) w f (get_or t (f % SIEVE_SIZE) 0) r →
      Looked (loaded_words w) w f x r

-- c is the class of all roots, with which the number 0 is united
abbrev pub OfRoots : ℕ → List ℕ → ℕ → Type 0
OfRoots n w c = Root n w 0 c

-- t tells of the chain of the class of all roots
pub record Sieved (n : ℕ) (w t : List ℕ) : Type 0 where
  pub tells : (c : ℕ) → OfRoots n w c → Sieves w t (get_or w c 0)
