-- `Products` has the laws of sums and products that stop, `Descent` those of the function that counts, `Both` joins two counts,
-- `Whole` says what is counted of an input.
mod Products
mod Descent
pub mod Both
pub mod Whole
