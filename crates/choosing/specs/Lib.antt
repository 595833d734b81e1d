-- `Ways` says which alternatives the choice with a given number takes, `Told` whether one stands beside another as code tells it,
-- `Chosen` what writing a way down asks and promises.
pub mod Ways
pub mod Told
pub mod Chosen
