-- `Map` is the map of the working area, `Region` a region of it, `Log` the undo log.
pub mod Map
pub mod Region
pub mod Log
