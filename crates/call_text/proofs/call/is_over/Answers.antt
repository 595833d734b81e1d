-- `call_text::call::is_over` meets its contract.
-- Assumes nothing.
use mathlib.Core.Path.{◌≡◌, ap, ◌∙◌}
use lib.ListN.{drop}
use Rattle.call_text.specs.declared.number.Token.TheVariants.{Over}
use Rattle.call_text.proofs.Tokens.{meant, said}
use Rattle.call_text.proofs.Calls.{done_by, still_more}
use Rattle.call_text.proofs.call.is_over.Goals as goal

pub returns-in-Over : goal.returns-in-Over
returns-in-Over c =
    let gone : Over ≡ c.read_token.result = cc in
    done_by (drop c.args.p c.args.text.now) _
    (ap (meant c.args.text.now) gone ∙ said c.args.text.now c.args.p c.read_token.result c.read_token.ensures)

pub returns-in_default : goal.returns-in_default
returns-in_default c =
    still_more c.args.text.now _ c.read_token.result (said c.args.text.now c.args.p c.read_token.result c.read_token.ensures)
    c.in_default.not-Over
