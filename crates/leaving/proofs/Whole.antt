-- What the full step answers, as document 01 says it of the two inputs.
-- Assumes nothing.
use Prim.Native.Nat.{ℕ}
use mathlib.Core.Path.{◌≡◌, refl, sym, ap, ap₂, subst, ◌∙◌}
use mathlib.Core.Bool.{true, false}
use mathlib.Core.Option.{Option, none, some}
use mathlib.Core.List.{List}
use lib.Dec.{ltb}
use Rattle.theory.specs.Limits.{choice_limit, choice_stop}
use Rattle.theory.specs.Descr.{Desc, number}
use Rattle.theory.specs.Modes.{quick, full}
use Rattle.theory.specs.Answer.{consistent}
use Rattle.engine.specs.Placed.{strip}
use Rattle.engine.specs.Marks.{keep}
use Rattle.engine.specs.Counting.{count_at}
use Rattle.engine.specs.Shown.{shown}
use Rattle.engine.specs.Search.{full_left, full_readings_by}
use Rattle.engine.proofs.Shown.{shown_some}
use Rattle.engine.proofs.Whole as engine
use Rattle.marks.specs.Marked.{marking}
use Rattle.std.specs.Prelude.{Result, Ok, Err}
use Rattle.leaving.specs.declared.leave.Left.{Left}
use Rattle.leaving.specs.declared.leave.NoneLeft.{NoneLeft}
use Rattle.leaving.specs.declared.leave.NoneLeft.TheVariants.{TooMany, NoChoice}
use Rattle.leaving.specs.Fulled.{Fulling, few_enough, remaining, Fulls}
use Rattle.entering.proofs.Pairs.{strip_first, strip_second, first_can, second_can, first_proper, second_proper, first_distinct}
use Rattle.entering.proofs.Pairs.{second_distinct, both_apart}

module _ (n k : ℕ) (w : List ℕ) (r : Result Left NoneLeft) (w' : List ℕ) (u : Fulls n k w r w') (c : Fulling n k w) where
  -- of the strips, of the two inputs
  inputs_are : (P : Desc → Desc → Type 0) → P (strip c.p.inputs.first.d) (strip c.p.inputs.second.d) → P c.p.d c.p.e
  inputs_are P x = subst (λ (b : Desc). P c.p.d b) (strip_second n c.t c.p)
      (subst (λ (a : Desc). P a (strip c.p.inputs.second.d)) (strip_first n c.t c.p) x)

  full_shown : full c.p.d c.p.e ≡ shown_some (full_left (marking w) c.p.j)
  full_shown = inputs_are (λ a b. full a b ≡ shown_some (full_left (marking w) c.p.j))
      (engine.full_shown c.p.inputs.first.d c.p.inputs.second.d (first_can n c.t c.p) (second_can n c.t c.p)
      (first_proper n c.t c.p) (second_proper n c.t c.p) (first_distinct n c.t c.p) (second_distinct n c.t c.p)
      (both_apart n c.t c.p) c.p.j c.p.joined (marking w) c.left)

  consistent_is : full_readings_by (marking w) c.p.j ≡ consistent c.p.d c.p.e
  consistent_is = inputs_are (λ a b. full_readings_by (marking w) c.p.j ≡ consistent a b)
      (engine.full_consistent c.p.inputs.first.d c.p.inputs.second.d (first_can n c.t c.p) (second_can n c.t c.p)
      (first_proper n c.t c.p) (second_proper n c.t c.p) (first_distinct n c.t c.p) (second_distinct n c.t c.p)
      (both_apart n c.t c.p) c.p.j c.p.joined (marking w) c.left)

  -- "if there is no consistent choice, clash"
  pub nothing_whole : r ≡ Err NoChoice → full c.p.d c.p.e ≡ none
  nothing_whole e = full_shown ∙ ap shown_some (u.nothing e c).1

  -- the result of mode 2, and "consistent choices of the joined description"
  pub left_whole : (log readings : ℕ) → r ≡ Ok (remaining log readings) →
      (full c.p.d c.p.e ≡ some (shown (strip (keep (marking w') c.p.j)))) × (readings ≡ consistent c.p.d c.p.e)
  left_whole log readings e = let s = (u.leaves log readings e c).1 in
      (full_shown ∙ ap shown_some s.left_is, s.readings_are ∙ consistent_is)

  -- "mode 2, quick step did not fail, its result has over 4,096 choices"
  module _ (q : Desc) (is : quick c.p.d c.p.e ≡ some q) where
    limit_is : ltb choice_limit (count_at choice_stop (marking w) c.p.j) ≡ ltb choice_limit (number q)
    limit_is =
        engine.over_limit_at c.p.inputs.first.d c.p.inputs.second.d (first_can n c.t c.p) (second_can n c.t c.p)
        (first_proper n c.t c.p) (second_proper n c.t c.p) (first_distinct n c.t c.p)
        (second_distinct n c.t c.p) (both_apart n c.t c.p) c.p.j c.p.joined (marking w) c.left q
        (ap₂ {C = Option Desc} quick (strip_first n c.t c.p) (strip_second n c.t c.p) ∙ is)

    pub over_whole : r ≡ Err TooMany → ltb choice_limit (number q) ≡ true
    over_whole e = sym limit_is ∙ u.over e c

    pub few_whole : (r ≡ Err TooMany → ⊥) → ltb choice_limit (number q) ≡ false
    few_whole not = sym limit_is ∙ go r refl
      where
        go : (x : Result Left NoneLeft) → r ≡ x → few_enough (marking w) c.p.j
        go (Err TooMany) e = absurd (not e)
        go (Err NoChoice) e = (u.nothing e c).0
        go (Ok l) e = (u.leaves l.log l.readings e c).0
