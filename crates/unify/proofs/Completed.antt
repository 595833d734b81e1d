-- Each return of `complete` is what mode 2 makes. Assumes nothing.
use mathlib.Core.Path.{◌≡◌, sym, ◌∙◌, subst}
use mathlib.Core.Logic.{inl, inr}
use mathlib.Core.List.{List}
use Prim.Native.Nat.{ℕ}
use native.Mathlib.Omega.{arith}
use Rattle.engine.specs.Quickly.{Leaves}
use Rattle.marks.specs.Marked.{marking, Doused}
use Rattle.entering.specs.Stage.{Pair, Stage}
use Rattle.entering.proofs.Stages.{stage_again}
use Rattle.leaving.specs.Fulled.{Fulling, Fulls, remaining}
use Rattle.std.specs.Prelude.{Result, Ok, Err}
use Rattle.leaving.specs.declared.leave.Left.{Left}
use Rattle.leaving.specs.declared.leave.NoneLeft.{NoneLeft}
use Rattle.leaving.specs.declared.leave.NoneLeft.TheVariants as none_left
use Rattle.leaving.proofs.Whole.{over_whole, few_whole, nothing_whole, left_whole}
use Rattle.showing.specs.Showing.{outcome, Showing, Shows}
use Rattle.showing.proofs.Fitting.{showing}
use Rattle.answering.specs.declared.hand.Failure.TheVariants.{TooMany, NoChoice}
use Rattle.answering.specs.Answer.{Made, done}
use Rattle.unify.specs.Making.{Meant, Completing, Completes}
use Rattle.unify.proofs.Meaning.{left, quick_result, meant_many, meant_nothing, meant_full}

module _ (n k : ℕ) (w w₁ : List ℕ) (d : Doused w w₁) where
  -- what the full step asks
  abbrev asked : (t : List ℕ) (p : Pair n t) → Stage n t p k w → Leaves p.j (marking w) → Fulling n k w₁
  asked t p s q = record {
    t = t;
    p = p;
    stage = stage_again n t p k w s w₁ d.len (λ j h. d.rest j (inl h)) d.marks;
    dark = d.dark;
    left = subst (Leaves p.j) (sym d.marks) q;
  }

  pub asks_full : Completing n k w → Fulling n k w₁
  asks_full c = asked c.t c.p c.stage c.left

  module _ (r : Result Left NoneLeft) (w₂ : List ℕ) (f : Fulls n k w₁ r w₂) where
    same : (m : Made) → ((t : List ℕ) (p : Pair n t) → Stage n t p k w → Leaves p.j (marking w) → Meant 2 p.d p.e w₂ m) →
        Completes n k w m w₂
    same m told = record { len = f.len ∙ d.len; rest = λ j h. f.rest j (omega arith) ∙ d.rest j (inr (omega arith)); told = told }

    pub completes_many : r ≡ Err none_left.TooMany → Completes n k w (Err TooMany) w₂
    completes_many e = same (Err TooMany) (λ t p s q. let c = asked t p s q in
        meant_many p (marking w₁) c.left w₂ (over_whole n k w₁ r w₂ f c (left p (marking w₁)) (quick_result p (marking w₁) c.left) e))

    pub completes_nothing : r ≡ Err none_left.NoChoice → Completes n k w (Err NoChoice) w₂
    completes_nothing e = same (Err NoChoice) (λ t p s q.
        let c = asked t p s q in
        let few = few_whole n k w₁ r w₂ f c (left p (marking w₁)) (quick_result p (marking w₁) c.left) (λ z. other (sym e ∙ z)) in
        meant_nothing p (marking w₁) c.left few w₂ (nothing_whole n k w₁ r w₂ f c e))
      where
        other : ◌≡◌ {A = Result Left NoneLeft} (Err none_left.NoChoice) (Err none_left.TooMany) → ⊥
        other z = let y : ◌≡◌ {A = ℕ} 0 1 = cc in absurd (omega arith)

    module _ (log readings : ℕ) (e : r ≡ Ok (remaining log readings)) where
      abbrev shows : Fulling n k w₁ → Showing n log w₂
      shows c = let v = (f.leaves log readings e c).1 in
          showing n c.t c.p log w₂ v.stage 2 v.can v.sane (left_whole n k w₁ r w₂ f c log readings e).0

      pub asks_show_full : Completing n k w → Showing n log w₂
      asks_show_full c = shows (asks_full c)

      pub completes_left : (l : ℕ) (w₃ : List ℕ) → Shows n log w₂ l w₃ → Completes n k w (done l readings) w₃
      completes_left l w₃ v = record {
        len = v.len ∙ f.len ∙ d.len;
        rest = λ j h. v.rest j (omega arith) ∙ f.rest j (omega arith) ∙ d.rest j (inr (omega arith));
        told = λ t p s q.
            let c = asked t p s q in
            let y = left_whole n k w₁ r w₂ f c log readings e in
            let u = v.told (shows c) in
            meant_full p (marking w₁) c.left
            (few_whole n k w₁ r w₂ f c (left p (marking w₁)) (quick_result p (marking w₁) c.left) (λ z. other (sym e ∙ z)))
            (outcome w₂ p) w₃ l readings y.0 y.1 u.0 u.1;
      }
        where
          other : ◌≡◌ {A = Result Left NoneLeft} (Ok (remaining log readings)) (Err none_left.TooMany) → ⊥
          other z = let y : ◌≡◌ {A = ℕ} 0 1 = cc in absurd (omega arith)
