-- Every program with the contract of `unify` meets the second and the third demand.
-- Assumes nothing.
use Rattle.theory.specs.Demands.{Demand2, Demand3}
use Rattle.theory.specs.Programs.{Program, Meets, sized}
use Rattle.theory.proofs.Reading.{reads}
use Rattle.theory.proofs.Senses.{sense}

pub program_demand2 : (P : Program) → Meets P → Demand2 (sized P)
program_demand2 = Rattle.descriptions.proofs.Programs.program_demand2 sense reads

pub program_demand3 : (P : Program) → Meets P → Demand3 (sized P)
program_demand3 = Rattle.descriptions.proofs.Programs.program_demand3 sense reads
