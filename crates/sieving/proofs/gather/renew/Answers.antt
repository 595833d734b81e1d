-- `sieving::gather::renew` meets its contract. Assumes nothing.
use native.Mathlib.Omega.{arith}
use Rattle.sieving.proofs.Keeping.{blank}
use Rattle.sieving.proofs.gather.renew.Goals as goal

pub returns-then-j-k : goal.returns-then-j-k
returns-then-j-k c = (c.requires.n_nonzero.1, c.requires.sieved c.if-j-k.true)

pub gather-requires : goal.gather-requires
gather-requires c = record {
  n_nonzero = (c.requires.n_nonzero.0, omega arith);
  labelled = c.requires.labelled;
  blank = blank 256;
}

pub returns : goal.returns
returns c = (c.gather.auto.t, c.gather.ensures)
