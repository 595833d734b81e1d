-- `Answer` names the answer of a call and what a mode made. `Number` says what document 01 gives for each answer, `Handing` how what a
-- mode made is handed over, `Caused` which cause an answer carries.
pub mod Answer
pub mod Number
pub mod Handing
pub mod Caused
