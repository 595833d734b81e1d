-- The limits of request One, each with its one name.
-- Assumes nothing: these are definitions.
use Rattle.std.specs.Prelude.{ℕ}

-- "Numbers go to 65,535"
abbrev pub largest_number : ℕ
largest_number = 65535

-- a sign's word is its kind times this, and its number
abbrev pub kind_unit : ℕ
kind_unit = 65536

-- "25 text over 4,096 bytes"
abbrev pub formula_limit : ℕ
formula_limit = 4096
