-- `finding_clash::notes::mix` meets its contract. Assumes nothing.
use native.Mathlib.Omega.{arith}
use Rattle.finding_clash.proofs.Mixing.{mix_none, mix_first_arcs, mix_first_head, mix_same, mix_more_arcs, mix_head, mix_other}
use Rattle.finding_clash.proofs.notes.mix.Goals as goal

pub returns-then-h-eq0 : goal.returns-then-h-eq0
returns-then-h-eq0 c = mix_none _ _ (omega arith)

pub returns-then-h-lt-CODE_LIMIT : goal.returns-then-h-lt-CODE_LIMIT
returns-then-h-lt-CODE_LIMIT c = mix_first_arcs _ _ (λ e. omega arith) (omega arith) (omega arith)

pub returns-else-h-lt-CODE_LIMIT : goal.returns-else-h-lt-CODE_LIMIT
returns-else-h-lt-CODE_LIMIT c = mix_first_head _ _ (omega arith) (omega arith)

pub returns-then-v-h : goal.returns-then-v-h
returns-then-v-h c = mix_same _ _ (λ e. omega arith) (omega arith)

pub returns-then-h-lt-CODE_LIMIT-2 : goal.returns-then-h-lt-CODE_LIMIT-2
returns-then-h-lt-CODE_LIMIT-2 c = mix_more_arcs _ _ (omega arith) (omega arith)

pub returns-else-h-lt-CODE_LIMIT-2 : goal.returns-else-h-lt-CODE_LIMIT-2
returns-else-h-lt-CODE_LIMIT-2 c = mix_head _ _ (omega arith) (omega arith)

pub returns : goal.returns
returns c = mix_other _ _ (λ e. omega arith) (λ e. omega arith) (λ e. omega arith) (λ e. omega arith)
