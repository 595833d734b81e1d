-- `Buffer` says how words are written from the end, `Homing` what has come to which
-- alternative, `Settled` what settling asks and promises.
pub mod Buffer
pub mod Homing
pub mod Settled
