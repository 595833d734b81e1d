-- `Gathering` goes along the chain of the class of all roots, `Keeping` says what a sieve asks, what it is good for and what it survives.
mod Gathering
pub mod Keeping
