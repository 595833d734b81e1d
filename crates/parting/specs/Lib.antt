-- `Gathered` says which rows are gathered, `Parted` what one part is and comes to.
pub mod Gathered
pub mod Parted
