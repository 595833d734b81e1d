-- `unify::run` meets its contract: each return is the table's. Assumes nothing.
use native.Mathlib.Omega.{arith}
use mathlib.Core.Logic.{inl, inr}
use Rattle.unify.proofs.Outcomes.{bad_mode, small_area, too_long, bad_first, bad_second, no_image, opening, lent_long, lent_kept, lent_changed}
use Rattle.unify.proofs.run.Goals as goal

pub returns-then-mode-gt-LAST_MODE : goal.returns-then-mode-gt-LAST_MODE
returns-then-mode-gt-LAST_MODE c = record {
  outcome = bad_mode _ _ _ (omega arith);
  caused = tt;
}

pub returns-in_default : goal.returns-in_default
returns-in_default c = record {
  outcome = small_area _ _ _ (omega arith) c.in_default.ensures.cases;
  caused = tt;
}

pub returns-then-first-gt-INPUT_LIMIT : goal.returns-then-first-gt-INPUT_LIMIT
returns-then-first-gt-INPUT_LIMIT c =
    let lent = c.in-Some.ensures.cases in record {
      outcome = lent_kept _ _ _ _ lent _ (too_long _ _ _ (omega arith) lent.enough (inl (omega arith)));
      caused = tt;
    }

pub returns-then-second-gt-INPUT_LIMIT : goal.returns-then-second-gt-INPUT_LIMIT
returns-then-second-gt-INPUT_LIMIT c =
    let lent = c.in-Some.ensures.cases in record {
      outcome = lent_kept _ _ _ _ lent _ (too_long _ _ _ (omega arith) lent.enough (inr (omega arith)));
      caused = tt;
    }

pub cause_in-requires : goal.cause_in-requires
cause_in-requires c = no_image _ _ c.if-not-judge.true c.judge.ensures

pub returns-then-not-judge : goal.returns-then-not-judge
returns-then-not-judge c =
    let lent = c.in-Some.ensures.cases in record {
      outcome = lent_kept _ _ _ _ lent _ (bad_first _ _ _ (omega arith) lent.enough (omega arith) (omega arith) (no_image _ _ c.if-not-judge.true c.judge.ensures));
      caused = c.cause_in.ensures;
    }

pub cause_in-requires-then-not-judge-2 : goal.cause_in-requires-then-not-judge-2
cause_in-requires-then-not-judge-2 c = no_image _ _ c.if-not-judge-2.true c.judge-2.ensures

pub returns-then-not-judge-2 : goal.returns-then-not-judge-2
returns-then-not-judge-2 c =
    let lent = c.in-Some.ensures.cases in
    let first = c.judge.ensures.sound c.if-not-judge.false in record {
      outcome = lent_kept _ _ _ _ lent _ (bad_second _ _ _ (omega arith) lent.enough (omega arith) (omega arith) first (no_image _ _ c.if-not-judge-2.true c.judge-2.ensures));
      caused = c.cause_in-then-not-judge-2.ensures;
    }

pub conclude-requires : goal.conclude-requires
conclude-requires c = (
  omega arith,
  opening _ _ _ (lent_long (record { mode = c.args.mode; first = c.args.first.now; second = c.args.second.now }) c.args.res.now _ _ c.in-Some.ensures.cases) (omega arith) (omega arith)
      (c.judge.ensures.sound c.if-not-judge.false)
      (c.judge-2.ensures.sound c.if-not-judge-2.false),
)

pub returns : goal.returns
returns c = record {
  outcome = lent_changed _ _ _ _ c.in-Some.ensures.cases _ _ _ (c.conclude.ensures.outcome _);
  caused = c.conclude.ensures.caused;
}
