-- `Rows` has the rows of a sheet in words; `Labels` says what closing does to labels, `Chains` has the lists of arcs by label, and
-- `Bearing` the atoms by label.
pub mod Rows
pub mod Labels
pub mod Chains
pub mod Bearing
