-- `Sieved` says what a sieve tells.
pub mod Sieved
