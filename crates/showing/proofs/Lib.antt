-- `Written` has the laws of words put into the result, `Leaving` those of what is left, as words; the others go through a description
-- as the functions do.
pub mod Written
pub mod Leaving
pub mod Leading
pub mod Describing
pub mod Disjoining
pub mod Varying
pub mod Offering
pub mod Showing
pub mod Fitting
pub mod Nodes
pub mod Copying
pub mod Looking
pub mod Owning
