-- `full::full::full` meets its contract: the choices are counted, then an engine goes through them, and what was found is kept.
-- Assumes nothing.
use Prim.Native.Nat.{ℕ}
use native.Mathlib.Omega.{arith}
use mathlib.Core.Path.{◌≡◌, sym, subst}
use mathlib.Core.List.{List}
use Rattle.leaving.specs.Found.{Searches}
use Rattle.leaving.proofs.Fulling.{full_counts, fulls_over}
use Rattle.plain.proofs.Choices.{expand_asks}
use Rattle.full.proofs.full.full.Goals as goal
use Rattle.full.proofs.full.full.Goals.{in-Fast, in-Plain}

searches_as : {n k : ℕ} {w w₁ w₂ : List ℕ} {r s : ℕ} → w₂ ≡ w₁ → s ≡ r → Searches n k w r w₁ → Searches n k w s w₂
searches_as {n} {k} {w} {w₁} {w₂} {r} {s} e f h =
    subst (λ (v : List ℕ). Searches n k w s v) (sym e) (subst (λ (i : ℕ). Searches n k w i w₁) (sym f) h)

pub count_both-choices-requires : goal.count_both-choices-requires
count_both-choices-requires c = full_counts _ _ _ c.requires

pub returns-then-choices-gt-CHOICE_LIMIT : goal.returns-then-choices-gt-CHOICE_LIMIT
returns-then-choices-gt-CHOICE_LIMIT c = fulls_over _ _ _ _ c.count_both-choices.ensures (omega arith)

pub expand-readings-requires : goal.expand-readings-requires
expand-readings-requires c = expand_asks c.requires c.count_both-choices.ensures (omega arith)

pub leave-requires : goal.leave-requires
leave-requires c = record {
  w = c.args.w.now;
  fulling = c.requires;
  ended = record {
    count = c.count_both-choices.result;
    counted = c.count_both-choices.ensures;
    few = omega arith;
    searches = elim c.match-engine.branch [
      | in-Fast u ↦ searches_as u.w-is u.readings-is u.search-readings.ensures
      | in-Plain u ↦ searches_as u.w-is u.readings-is u.expand-readings.ensures
    ];
  };
}

pub returns : goal.returns
returns c =
    c.leave.ensures.told _ (record {
      count = c.count_both-choices.result;
      counted = c.count_both-choices.ensures;
      few = omega arith;
      searches = elim c.match-engine.branch [
        | in-Fast u ↦ searches_as u.w-is u.readings-is u.search-readings.ensures
        | in-Plain u ↦ searches_as u.w-is u.readings-is u.expand-readings.ensures
      ];
    })
