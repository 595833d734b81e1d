-- `Suiting` has what the roots say under a feature, `Leading` one arc of a root after the other, `Flatness` reads a flat graph off its
-- words, `Agreeing` shows that it agrees, `Clashing` that it clashes, and `Guessing` puts what is told together.
mod Suiting
mod Leading
mod Flatness
mod Agreeing
mod Clashing
mod Guessing
