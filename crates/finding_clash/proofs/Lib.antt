-- `Bare` says that graphs without their atoms have the same classes and never clash.
-- `Baring` takes atoms out of nodes that stand among the words, `Stripping` out of both graphs, `Pushes` pushes both, `Mixing` has a
-- head that comes to the note of a class, `Passing` the notes of all classes, `Conflicts` what a note tells of a class,
-- `Found` that the first node with a clash noted is the one.
-- For the layers above: `Loaded` has two descriptions that stand loaded, as `opening` leaves them.
mod Bare
mod Baring
mod Stripping
mod Pushes
mod Mixing
mod Passing
mod Conflicts
mod Found
pub mod Loaded
