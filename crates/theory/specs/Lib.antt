-- `Net`, `Structure` and `Layout` are graphs, structures and words, `Weight` how many words; `Isomorphic` says when two graphs are one
-- but for the numbers of their nodes.
-- `JoiningOne`, `LayoutOne` and `Structure` say what `descriptions` takes for layout one; files with the names of its files are its
-- instance.
-- `ClashNode` says at which node two graphs clash.
-- `Join`, `Located`, `Reading` and `Fitted` are programs, so that cases compute; `FitTest` is the table of the fit test, `Known` has the
-- known inputs and cases.
pub mod Limits
pub mod Net
pub mod Structure
pub mod Join
pub mod ClashNode
pub mod Located
pub mod JoiningOne
pub mod Descr
pub mod Canonical
pub mod Modes
pub mod Satisfaction
pub mod Layout
pub mod Weight
pub mod Isomorphic
pub mod Reading
pub mod LayoutOne
pub mod Answer
pub mod Unified
pub mod Known
pub mod Rules
pub mod Outcome
pub mod Demands
pub mod Programs
pub mod FitTest
pub mod Fitted
