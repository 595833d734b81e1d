-- `Limits` has the numbers, `Signs` says how signs are spelt, `Grammar` what a formula's text is, `Judged` what is answered; `Machine` is
-- what the code does.
pub mod Limits
pub mod Signs
pub mod Grammar
pub mod Machine
pub mod Judged
