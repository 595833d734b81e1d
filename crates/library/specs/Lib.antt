-- `File` says what a library's file is, `Index` what its start must be, `Read` what reading a description of it gives, `Contents`
-- what it holds, `Rules` why a read is refused, `List` what listing it gives, `Told` by which numbers the answers are told,
-- `Check` which block is damaged.
pub mod File
pub mod Index
pub mod Read
pub mod Contents
pub mod Rules
pub mod List
pub mod Told
pub mod Check
