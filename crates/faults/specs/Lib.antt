-- `Coded` says what the values of the code stand for, `Stops` where going over the words stops, `Told` what is told of words, `Hints`
-- what could stand instead.
pub mod Coded
pub mod Stops
pub mod Told
pub mod Hints
