-- `Handing` has handing over.
pub mod Handing
