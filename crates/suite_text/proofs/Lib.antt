-- `Rests` has where the name of a test stands, `Answers` what comes of a test, `Reporting` what is left of a report while tests are run,
-- `Stepping` one step of that, `Printed` what is printed in the end, `Promises` what its
-- numbers say.
pub mod Answers
pub mod Rests
pub mod Reporting
pub mod Stepping
pub mod Printed
pub mod Promises
