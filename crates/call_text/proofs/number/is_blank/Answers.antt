-- `call_text::number::is_blank` meets its contract.
-- Assumes nothing.
use borrow.Author.Tests.{eq-eqb, ne_eqb}
use Rattle.call_text.specs.Token.{space_or_newline}
use Rattle.call_text.proofs.number.is_blank.Goals as goal

pub returns-then-c-eq32 : goal.returns-then-c-eq32
unfolding space_or_newline
returns-then-c-eq32 c = rw (eq-eqb c.args.c 32 c.if-c-eq32.true, space_or_newline)

pub returns-else-c-eq32 : goal.returns-else-c-eq32
unfolding space_or_newline
returns-else-c-eq32 c = rw (ne_eqb c.args.c 32 c.if-c-eq32.false, space_or_newline)
