-- `Counted` says what counting choices asks, and what is counted.
pub mod Counted
