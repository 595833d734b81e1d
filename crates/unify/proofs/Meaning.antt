-- What each mode makes of two inputs is what theory says of it. Assumes nothing.
use mathlib.Core.Path.{◌≡◌, refl, sym, ap, ◌∙◌, subst}
use mathlib.Core.Logic.{inl, inr}
use mathlib.Core.Bool.{true, false}
use mathlib.Core.Option.{Option, none, some}
use mathlib.Core.List.{List}
use Prim.Native.Nat.{ℕ, ◌+◌, ◌≤◌}
use native.Mathlib.Omega.{arith}
use lib.Dec.{ltb}
use borrow.Author.Tests.{ltb-true, ltb-false}
use lib.ListN.{length}
use Rattle.theory.specs.Limits.{choice_limit}
use Rattle.theory.specs.Descr.{Desc, number}
use Rattle.theory.specs.Layout.{words}
use Rattle.theory.specs.Modes.{joined, quick, full}
use Rattle.theory.specs.Answer.{consistent}
use Rattle.theory.specs.Rules as rules
use Rattle.theory.specs.Rules.{mode_result, mode_readings, Clashes}
use Rattle.theory.proofs.Table.{FullView, full_view}
use Rattle.descriptions.proofs.Table.{full_some, full_none}
use Rattle.layout.specs.Standing.{Stands}
use Rattle.engine.specs.Placed.{strip}
use Rattle.engine.specs.Marks.{Marking, all_kept, keep}
use Rattle.engine.specs.Quickly.{quick_at, Leaves}
use Rattle.engine.specs.Shown.{shown}
use Rattle.area.specs.Map.{RESULT}
use Rattle.entering.specs.Stage.{Pair}
use Rattle.entering.proofs.Conclusions.{joined_shown, quick_none, quick_shown}
use Rattle.answering.specs.declared.hand.Failure.TheVariants.{QuickFails, TooMany, NoChoice}
use Rattle.answering.specs.Answer.{Made, done}
use Rattle.std.specs.Prelude.{Err}
use Rattle.unify.specs.Making.{Meant}

none_some : {A : Type 0} {o : Option A} {x : A} → o ≡ none → o ≡ some x → ⊥
none_some e f = let z : ◌≡◌ {A = ℕ} 0 1 = cc in absurd (omega arith)

-- for the descriptions themselves
pub meant_of : {n : ℕ} {t : List ℕ} (p : Pair n t) (mode : ℕ) (w : List ℕ) (r : Made) (d e : Desc) → p.d ≡ d → p.e ≡ e →
    Meant mode p.d p.e w r → Meant mode d e w r
meant_of p mode w r d e f g h = subst (λ (z : Desc). Meant mode z e w r) f (subst (λ (z : Desc). Meant mode p.d z w r) g h)

module _ {n : ℕ} {t : List ℕ} (p : Pair n t) where
  -- a result that the mode makes, after no clash
  ready : (mode : ℕ) (s : Desc) (w : List ℕ) (l r : ℕ) → ¬ (Clashes mode p.d p.e) → ¬ (rules.TooMany mode p.d p.e) →
      mode_result mode p.d p.e ≡ some s
      → r ≡ mode_readings mode p.d p.e → l ≡ length (words s) → Stands w RESULT (words s) (RESULT + l) →
      Meant mode p.d p.e w (done l r)
  ready mode s w l r c m e q h z = (c, m, s, e, h, q, z)

  abbrev pub left : Marking → Desc
  left m = shown (strip (keep m p.j))

  -- the definite graphs join
  joins : (joined p.d p.e ≡ none) → ⊥
  joins e = none_some e (joined_shown _ _ p)

  -- ---- mode 0
  pub join_result : (m : Marking) → m ≡ all_kept → joined p.d p.e ≡ some (left m)
  join_result m e = joined_shown _ _ p ∙ ap (λ (k : Marking). some (left k)) (sym e)

  pub meant_join : (m : Marking) (w : List ℕ) (l : ℕ) → m ≡ all_kept → l ≡ length (words (left m)) →
      Stands w RESULT (words (left m)) (RESULT + l) → Meant 0 p.d p.e w (done l 0)
  meant_join m w l e h z = ready 0 (left m) w l 0 (λ c. no c) (λ c. let k : ◌≡◌ {A = ℕ} 0 2 = c.0 in
      absurd (omega arith)) (join_result m e) refl h z
    where
      no : Clashes 0 p.d p.e → ⊥
      no (inl c) = joins c
      no (inr c) = let k = c.0 in absurd (omega arith)

  -- ---- modes 1 and 2
  pub meant_fails : (mode : ℕ) (w : List ℕ) → 1 ≤ mode → quick_at p.j ≡ none → Meant mode p.d p.e w (Err QuickFails)
  meant_fails mode w h e = (joins, h, quick_none _ _ p e)

  module _ (m : Marking) (q : Leaves p.j m) where
    pub quick_result : quick p.d p.e ≡ some (left m)
    quick_result = quick_shown _ _ p m q

    pub stands_quick : (mode : ℕ) → ¬ (Clashes mode p.d p.e)
    stands_quick mode (inl c) = joins c
    stands_quick mode (inr c) = none_some c.1 quick_result

    pub meant_quick : (w : List ℕ) (l : ℕ) → l ≡ length (words (left m)) → Stands w RESULT (words (left m)) (RESULT + l) →
        Meant 1 p.d p.e w (done l 0)
    meant_quick w l h z = ready 1 (left m) w l 0 (stands_quick 1) (λ c. let k : ◌≡◌ {A = ℕ} 1 2 = c.0 in
        absurd (omega arith)) quick_result refl h z

    -- ---- mode 2
    few : ltb choice_limit (number (left m)) ≡ false → ¬ (rules.TooMany 2 p.d p.e)
    few e (z, r, h, l) = let same : left m ≡ r = some_one (sym quick_result ∙ h) in let f = ltb-false choice_limit (number (left m)) e in
        let k : number (left m) ≡ number r = ap number same in absurd (omega arith)
      where
        some_one : {a b : Desc} → some a ≡ some b → a ≡ b
        some_one e = cc

    pub meant_many : (w : List ℕ) → ltb choice_limit (number (left m)) ≡ true → Meant 2 p.d p.e w (Err TooMany)
    meant_many w e = (stands_quick 2, (refl, left m, quick_result, ltb-true choice_limit (number (left m)) e))

    module _ (e : ltb choice_limit (number (left m)) ≡ false) where
      pub meant_nothing : (w : List ℕ) → full p.d p.e ≡ none → Meant 2 p.d p.e w (Err NoChoice)
      meant_nothing w z = (stands_quick 2, few e, refl, zero (full p.d p.e) z (full_view p.d p.e))
        where
          zero : (o : Option Desc) → o ≡ none → FullView p.d p.e o → consistent p.d p.e ≡ 0
          zero none q (full_none h) = h
          zero (some r) q (full_some s h) = absurd (none_some q refl)

      pub meant_full : (s : Desc) (w : List ℕ) (l r : ℕ) → full p.d p.e ≡ some s → r ≡ consistent p.d p.e →
          l ≡ length (words s) → Stands w RESULT (words s) (RESULT + l) → Meant 2 p.d p.e w (done l r)
      meant_full s w l r f q h z = ready 2 s w l r (stands_quick 2) (few e) f q h z
