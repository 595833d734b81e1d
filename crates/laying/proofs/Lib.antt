-- `Columns`: words stored in columns. `States`: the state after a sign. `Held`: what is stored is held. `Signs`: each
-- sign adds to it. `Passing`: a sign comes and is gone through. `Along`: all signs.
pub mod Columns
pub mod States
pub mod Held
pub mod Signs
pub mod Passing
pub mod Along
