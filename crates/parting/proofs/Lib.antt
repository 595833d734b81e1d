-- `Gathered` has the laws of gathering rows, `Marked` those of marking the arcs to a spot, `Parted` those of a part and its graph.
mod Gathered
mod Marked
mod Parted
