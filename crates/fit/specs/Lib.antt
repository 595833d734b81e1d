-- `Number` gives the numbers of the answers. `Parts` says what nodes words are, `Sending` what is asked and promised of a map,
-- `Testing` of a description.
pub mod Number
pub mod Parts
pub mod Sending
pub mod Testing
