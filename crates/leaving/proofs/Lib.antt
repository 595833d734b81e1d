-- `Restarting` has what is certain in both inputs pushed anew, `Premises` what engine's theorems ask of a pair, `Stages` what is then
-- pushed as a stage, `Fulling` the full step, return by return, `Whole` its results as document 01 says them.
mod Restarting
pub mod Premises
mod Stages
pub mod Fulling
pub mod Whole
