-- `Tokens` has signs as numbers and which groups have alternatives, `Machine` what each sign gives, `Given` the same by the formula.
-- `Plan` says how alternatives lie in tables, `Memory` what tables hold, `Laid` what they hold of a formula, `Held` and `Standing`
-- what they hold while signs are gone through, `Flagged` what marking groups promises.
pub mod Tokens
pub mod Machine
pub mod Given
pub mod Plan
pub mod Memory
pub mod Laid
pub mod Held
pub mod Flagged
pub mod Standing
