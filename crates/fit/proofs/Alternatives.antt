-- Testing alternatives one after the other, and skipping those after the first that fits.
-- Assumes nothing.
use Prim.Native.Nat.{ℕ, ◌+◌, ◌-◌, ◌≤◌, ◌<◌}
use native.Mathlib.Omega.{arith}
use mathlib.Core.Path.{◌≡◌, sym, subst, ◌∙◌}
use mathlib.Core.Logic.{inl, inr, ⊎_elim}
use mathlib.Core.List.{List}
use lib.ListN.{length, get_or}
use Rattle.theory.specs.Limits.{depth_limit}
use Rattle.theory.specs.Net.{Graph}
use Rattle.theory.specs.Descr.{Alts, fail, ◌or◌, alts}
use Rattle.theory.specs.Layout.{alts_words, WellAny}
use Rattle.theory.specs.FitTest.{FitsAny}
use Rattle.layout.specs.Skipping.{descriptionEnd}
use Rattle.layout.proofs.Standing.{stands_nil, stands_disjunction, stands_alternatives}
use Rattle.layout.proofs.Ends.{description_ends}
use Rattle.fit.specs.Testing.{Subject, description_subject, disjunction_subject, Testable, Answers, Skips}
use Rattle.std.specs.Prelude.{Option, Some, None}
use Rattle.fit.proofs.Things.{Left, left_says, left_on}

-- k alternatives under which others nest at most `left` deep
abbrev pub its_alternatives : Graph → ℕ → ℕ → Subject
its_alternatives H left k = record {
  Thing = Alts;
  Fine = λ a. (alts a ≡ k) × (left ≤ depth_limit) × WellAny a left;
  text = alts_words;
  Holds = FitsAny H;
}

module _ (ws : List ℕ) where
  pub skips_end : (at k : ℕ) → k ≤ 0 → Skips ws at k at
  skips_end at k h fail left q e l w s = (stands_nil ws at q).0 s
  skips_end at k h (d or a) left q e l w s = absurd (omega arith)

  pub skips_step : (at k n r : ℕ) → 0 < k → n ≡ descriptionEnd ws at → Skips ws n (k - 1) r → Skips ws at k r
  skips_step at k n r h d others fail left q e l w s = absurd (omega arith)
  skips_step at k n r h d others (x or a) left q e l w s =
      let t = (stands_alternatives ws x a at q).0 s in
      let z : n ≡ t.0 = d ∙ description_ends ws x left at t.0 l w.0 t.1 in
      others a left q (omega arith) l w.1 (rw z t.2)

  module _ (H : Graph) where
    module _ (left p : ℕ) where
      pub disjunction_there : Testable (disjunction_subject H left) ws p → (0 < left) × (p < length ws)
      disjunction_there a = let b = a.1 in (b.2.0, ((stands_disjunction ws b.0 p b.1).0 b.3).0)

      pub alternatives_start : Left ws (disjunction_subject H left) p (its_alternatives H (left - 1) (get_or ws p 0)) (p + 1)
      alternatives_start a q f s =
          let t = (stands_disjunction ws a p q).0 s in
          let l = f.1 in
          record { rest = a; fine = (sym t.1, omega arith, f.2); there = t.2; same = (λ h. h, λ h. h) }

    module _ (left count at : ℕ) where
      pub alternative_next : 0 < count → Testable (its_alternatives H left count) ws at → Testable (description_subject H left) ws at
      alternative_next some (few, (fail, q, f, s)) = let z = f.0 in absurd (omega arith)
      alternative_next some (few, (d or a, q, f, s)) = let t = (stands_alternatives ws d a at q).0 s in
          (few, (d, t.0, (f.1, f.2.0), t.1))

      module _ (r : Option ℕ) (answers : Answers (description_subject H left) ws at r) (some : 0 < count) where
        others : (n : ℕ) → r ≡ None → n ≡ descriptionEnd ws at →
            Left ws (its_alternatives H left count) at (its_alternatives H left (count - 1)) n
        others n e d fail q f s = let z = f.0 in absurd (omega arith)
        others n e d (x or a) q f s =
            let z = f.0 in
            let t = (stands_alternatives ws x a at q).0 s in
            let y : n ≡ t.0 = d ∙ description_ends ws x left at t.0 f.1 f.2.0 t.1 in
            let lost = subst (Answers (description_subject H left) ws at) e answers x t.0 (f.1, f.2.0) t.1 in
            record {
              rest = a;
              fine = (omega arith, f.1, f.2.1);
              there = rw y t.2;
              same =
                  (⊎_elim (λ h. absurd (lost h)) (λ h. h), λ h. inr h);
            }

        one : (n m : ℕ) → r ≡ Some n → Skips ws n (count - 1) m → Answers (its_alternatives H left count) ws at (Some m)
        one n m e skips fail q f s = let z = f.0 in absurd (omega arith)
        one n m e skips (x or a) q f s =
            let z = f.0 in
            let t = (stands_alternatives ws x a at q).0 s in
            let b = subst (Answers (description_subject H left) ws at) e answers x t.0 (f.1, f.2.0) t.1 in
            let y = b.0 in
            (skips a left q (omega arith) f.1 f.2.1 (rw y t.2), inl b.1)

        module _ (K : Subject) (p : ℕ) (going : Left ws K p (its_alternatives H left count) at) where
          pub alternatives_step : (n : ℕ) → r ≡ None → n ≡ descriptionEnd ws at →
              Left ws K p (its_alternatives H left (count - 1)) n
          alternatives_step n e d = left_on ws K (its_alternatives H left count) (its_alternatives H left (count - 1)) p at n going
              (others n e d)

          pub alternatives_fit : (n m : ℕ) → r ≡ Some n → Skips ws n (count - 1) m → Answers K ws p (Some m)
          alternatives_fit n m e skips = left_says ws K (its_alternatives H left count) p at (Some m) going (one n m e skips)

      none : count ≤ 0 → Answers (its_alternatives H left count) ws at None
      none h fail q f s = λ o. o
      none h (d or a) q f s = let z = f.0 in absurd (omega arith)

      pub alternatives_end : (K : Subject) (p : ℕ) → Left ws K p (its_alternatives H left count) at → count ≤ 0 →
          Answers K ws p None
      alternatives_end K p going h = left_says ws K (its_alternatives H left count) p at None going (none h)
