-- `trying::guess::guess` meets its contract. Assumes nothing.
use Rattle.sieving.proofs.Keeping.{sieved_none}
use Rattle.trying.proofs.guess.guess.Goals as goal

pub guess_through-requires : goal.guess_through-requires
guess_through-requires c = record {
  pushing = c.requires;
  sieved = sieved_none _ _;
}
