-- `Table` says how rows are stored, `Step` what each sign does to the state, `Laying` what laying out asks and promises.
pub mod Table
pub mod Step
pub mod Laying
