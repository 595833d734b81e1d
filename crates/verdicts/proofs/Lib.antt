-- `Laws` has a cell of the table that is raised.
pub mod Laws
