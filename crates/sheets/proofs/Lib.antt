-- `Queue`, `Gathered`, `Written` and `Arrived` go from arcs and nodes to the words of the graph; `Whole` concludes for a sheet, and
-- `Cases` has known ones.
mod Queue
mod Gathered
mod Written
mod Arrived
mod Whole
mod Cases
