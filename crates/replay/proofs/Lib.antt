-- `Ready` shows that a joined graph may be written once two inputs are opened.
pub mod Ready
