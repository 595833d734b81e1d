-- Which of two inputs is malformed, and what is told of it.
-- Assumes nothing: these are definitions.
use Rattle.std.specs.Prelude.{ℕ, ◌<◌, ◌≤◌, true, false, ◌≡◌, ◌⊎◌, List, ltb, length, Option, Some, None}
use Rattle.theory.specs.Limits.{input_limit}
use Rattle.theory.specs.LayoutOne.{Image}
use Rattle.roles.specs.Faults.{Faulty}
use Rattle.roles.specs.Coded.{cause_of}
use Rattle.roles.specs.Causes.{cause_number, cause_data}
use Rattle.malformed.specs.declared.judging.Malformed.{Malformed}
use Rattle.malformed.specs.declared.judging.Malformed.TheVariants.{TooLong, First, Second}

-- neither input is over 1,024 words
abbrev pub BothShort : (first second : List ℕ) → Type 0
BothShort first second = (length first ≤ input_limit) × (length second ≤ input_limit)

-- "Where neither is malformed, or either is over 1,024 words"; of two malformed inputs the first, as the numbers 4 and 5 have it
abbrev pub MalformedIn : (first second : List ℕ) → Option Malformed → Type 0
MalformedIn first second (Some TooLong) = (input_limit < length first) ⊎ (input_limit < length second)
MalformedIn first second (Some (First f)) = BothShort first second × Faulty first (cause_of f.cause) f.at
MalformedIn first second (Some (Second f)) = BothShort first second × Image first × Faulty second (cause_of f.cause) f.at
MalformedIn first second None = BothShort first second × Image first × Image second

-- the greatest word stands for a greater length
abbrev pub capped : ℕ → ℕ
capped n = elim (ltb n 4294967296) [ true ↦ n | false ↦ 4294967295 ]

-- a number of document 01's table; the cause and its own data; and the place of the word that decides, or else the length of the first
pub record Report : Type 0 where
  pub number : ℕ
  pub cause : ℕ
  pub value : ℕ
  pub place : ℕ

abbrev pub report_of : ℕ → Option Malformed → Report
report_of n None = record { number = 0; cause = 0; value = 0; place = capped n }
report_of n (Some TooLong) = record { number = 3; cause = 0; value = 0; place = capped n }
report_of n (Some (First f)) =
    record { number = 4; cause = cause_number (cause_of f.cause); value = cause_data (cause_of f.cause); place = capped f.at }
report_of n (Some (Second f)) =
    record { number = 5; cause = cause_number (cause_of f.cause); value = cause_data (cause_of f.cause); place = capped f.at }

-- what is told of two inputs
pub record Reported (first second : List ℕ) (number cause value place : ℕ) : Type 0 where
  pub what : Option Malformed
  pub is_so : MalformedIn first second what
  pub the_number : number ≡ (report_of (length first) what).number
  pub the_cause : cause ≡ (report_of (length first) what).cause
  pub the_value : value ≡ (report_of (length first) what).value
  pub the_place : place ≡ (report_of (length first) what).place
