-- The word layout of document 01.
-- Assumes nothing: these are definitions.
use Rattle.std.specs.Prelude.{List, ℕ}
use Rattle.descriptions.specs.Layout.{Layout}
use Rattle.theory.specs.Net.{Graph}
use Rattle.theory.specs.Layout.{words, WellFormed}
use Rattle.theory.specs.Reading.{decode}

abbrev pub layout_one : Layout Graph
layout_one = record { words = words; WellFormed = WellFormed; decode = decode }

-- the words that are a description
abbrev pub Image : List ℕ → Type 0
Image = Rattle.descriptions.specs.Layout.Image layout_one
