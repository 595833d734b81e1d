-- `unify::making::make` meets its contract: each return is what the mode makes. Assumes nothing.
use native.Mathlib.Omega.{arith}
use Rattle.std.proofs.lemmas.Result.{err_from_is_err_and}
use Rattle.unify.proofs.Made.{makes_clash, asks_show, makes_join, asks_quick, makes_quick_fails, asks_show_quick, makes_quick}
use Rattle.unify.proofs.Made.{quick_failed, asks_complete, makes_full}
use Rattle.unify.proofs.making.make.Goals as goal

pub returns-in_err-opened : goal.returns-in_err-opened
returns-in_err-opened c =
    let p = err_from_is_err_and c.from_residual.result c.from_residual.ensures.1 in
    rw (p.1, p.2) (makes_clash _ _ _ _ c.begin.result _ c.begin.ensures _ c.in_err-opened.was)

pub show-length-requires : goal.show-length-requires
show-length-requires c =
    asks_show c.args.mode _ _ _ c.begin.result _ c.begin.ensures _ _ c.in_ok-opened.was c.requires.1

pub returns-then-mode-eq0 : goal.returns-then-mode-eq0
returns-then-mode-eq0 c =
    makes_join _ _ _ _ c.begin.result _ c.begin.ensures _ _ c.in_ok-opened.was (omega arith) _ _ c.show-length.ensures

pub quick-requires : goal.quick-requires
quick-requires c =
    asks_quick c.args.mode _ _ _ c.begin.result _ c.begin.ensures _ _ c.in_ok-opened.was c.requires.1

pub returns-in_err-log : goal.returns-in_err-log
returns-in_err-log c =
    let p = err_from_is_err_and c.from_residual-in_err-log.result c.from_residual-in_err-log.ensures.1 in
    let x = quick_failed c.quick.result _ c.in_err-log.ensures.ok_part c.in_err-log.ensures.value in
    rw (p.1, p.2, x) (makes_quick_fails _ _ _ _ c.begin.result _ c.begin.ensures _ _ c.in_ok-opened.was c.quick.result _ c.quick.ensures
    (omega arith) c.in_err-log.ensures.ok_part)

pub show-length-requires-then-mode-eq1 : goal.show-length-requires-then-mode-eq1
show-length-requires-then-mode-eq1 c =
    asks_show_quick c.args.mode _ _ _ c.begin.result _ c.begin.ensures _ _ c.in_ok-opened.was
    c.quick.result _ c.quick.ensures _ c.in_ok-log.ensures.ok_part c.requires.1

pub returns-then-mode-eq1 : goal.returns-then-mode-eq1
returns-then-mode-eq1 c =
    makes_quick _ _ _ _ c.begin.result _ c.begin.ensures _ _ c.in_ok-opened.was c.quick.result _
    c.quick.ensures _ c.in_ok-log.ensures.ok_part (omega arith) _ _ c.show-length-then-mode-eq1.ensures

pub complete-requires : goal.complete-requires
complete-requires c =
    asks_complete c.args.mode _ _ _ c.begin.result _ c.begin.ensures _ _ c.in_ok-opened.was
    c.quick.result _ c.quick.ensures _ c.in_ok-log.ensures.ok_part c.requires.1

pub returns : goal.returns
returns c =
    makes_full _ _ _ _ c.begin.result _ c.begin.ensures _ _ c.in_ok-opened.was c.quick.result _
    c.quick.ensures _ c.in_ok-log.ensures.ok_part (omega (arith, c.requires.0)) _ _ c.complete.ensures
