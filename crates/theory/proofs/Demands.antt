-- `unified` meets the second and the third demand.
-- Assumes nothing.
use Rattle.theory.specs.Unified.{unified}
use Rattle.theory.specs.Demands.{Demand2, Demand3}
use Rattle.theory.proofs.Reading.{reads}
use Rattle.theory.proofs.Senses.{sense}

pub demand2 : Demand2 unified
demand2 = Rattle.descriptions.proofs.Demands.demand2 sense reads

pub demand3 : Demand3 unified
demand3 = Rattle.descriptions.proofs.Demands.demand3 sense reads
