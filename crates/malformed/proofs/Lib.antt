-- `Exact` says that one thing is told and one part handed back, and that the number is the table's.
pub mod Exact
