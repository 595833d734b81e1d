-- `Given`: over the signs of a formula the machine gives what the formula does. `Lies`: tables that hold it lie as the formula's draft.
-- `Depth`: how deep its alternatives are nested. `Bounds`: a text of at most 4,096 bytes gives few rows. `Numbered`: arcs in order.
-- `Fits`: small numbers. `Turns` and `Memory` have what the functions cite, `Holding`, `Adding` and `Steps` what the memory holds, at
-- the end and sign by sign. `Columns` numbers rows; `Tabled` and `Placed` say that the tables in words hold a formula's rows and its
-- alternatives. `Cases` computes.
pub mod Given
pub mod Lies
pub mod Depth
pub mod Bounds
pub mod Numbered
pub mod Fits
pub mod Turns
pub mod Memory
pub mod Holding
pub mod Adding
pub mod Cases
pub mod Steps
pub mod Columns
pub mod Tabled
pub mod Placed
