-- `Beginning`, `Completed` and `Made` have what each function makes, `Meaning` what theory says of it.
-- `Outcomes` ties each return of a call to the table, `Sizes` bounds a result, `NodeSizes` the node of a clash, `Engines`
-- says that both engines answer alike.
pub mod Beginning
pub mod Meaning
pub mod Completed
pub mod Made
pub mod Outcomes
pub mod Sizes
pub mod NodeSizes
pub mod Engines
