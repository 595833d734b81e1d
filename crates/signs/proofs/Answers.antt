-- The answer is the only one: bad exactly where no formula can go on, fine exactly on the texts of formulas.
-- Assumes nothing.
use Prim.Native.Nat.{ℕ, zero, suc, ◌<◌, ◌≤◌}
use mathlib.Core.Path.{◌≡◌, refl, sym, ap, subst, ◌∙◌}
use mathlib.Core.Logic.{◌⊎◌, inl, inr, ⊎_elim}
use mathlib.Core.List.{List, [], ◌∷◌, ◌++◌, append_assoc, append-nil}
use native.Mathlib.Omega.{arith}
use Rattle.std.specs.Prelude.{Option, Some, None, Result, Ok, Err}
use lib.ListN.{length, take, length-append}
use lib.Seq.{take_at}
use Rattle.formulas.specs.Formula.{Formula}
use Rattle.signs.specs.declared.machine.Place.{Place}
use Rattle.signs.specs.declared.machine.Place.TheVariants.{Start}
use Rattle.signs.specs.declared.machine.Seen.{Seen}
use Rattle.signs.specs.Signs.{Sign}
use Rattle.signs.specs.Machine.{stepped, noted, over}
use Rattle.signs.proofs.Run.{on, run, run_after, run_step, run_stop}
use Rattle.signs.proofs.Sofar.{Sofar, sofar}
use Rattle.signs.proofs.Exact.{stood_full, whole_reads, stop_bad, end_bad, Ending, ends_well, ends_badly, ending}
use Rattle.signs.specs.declared.reading.ReadError.{ReadError}
use Rattle.signs.specs.declared.reading.ReadError.TheVariants.{Bad, Long}
use Rattle.signs.specs.Limits.{formula_limit}
use Rattle.signs.specs.Grammar.{Reads, Viable, BadAt}
use Rattle.signs.specs.Judged.{SignsJudged}

abbrev pub Told : List ℕ → Type 0
Told t = ((φ : Formula) × Reads t φ) ⊎ ((i : ℕ) × BadAt t i)

-- what a formula's text begins with begins a formula's text
pub viable-front : (u v : List ℕ) → Viable (u ++ v) → Viable u
viable-front u v w = (v ++ w.0, w.1, subst (λ (l : List ℕ). Reads l w.1) (append_assoc u v w.0) w.2)

take_front : (i j : ℕ) (t : List ℕ) → i ≤ j → (v : List ℕ) × (take j t ≡ take i t ++ v)
take_front zero j t h = (take j t, refl)
take_front (suc i) zero t h = absurd (omega arith)
take_front (suc i) (suc j) [] h = ([], refl)
take_front (suc i) (suc j) (b ∷ t) h = let w = take_front i j t (omega arith) in (w.0, ap (λ (l : List ℕ). b ∷ l) w.1)

pub viable-take : (i j : ℕ) (t : List ℕ) → i ≤ j → Viable (take j t) → Viable (take i t)
viable-take i j t h w = let f = take_front i j t h in viable-front (take i t) f.0 (subst Viable f.1 w)

-- it is the least: every shorter beginning, with the byte after it, begins a formula's text
pub bad-least : (t : List ℕ) (i j : ℕ) → BadAt t i → j < i → Viable (take (suc j) t)
bad-least t i j b h = viable-take (suc j) i t (omega arith) b.before

not-later : (t : List ℕ) (i j : ℕ) → BadAt t i → BadAt t j → i < j → ⊥
not-later t i j a b h = let s = b.inside in a.here (omega arith) (bad-least t j i b h)

-- there is one such byte at most
pub bad-once : (t : List ℕ) (i j : ℕ) → BadAt t i → BadAt t j → i ≡ j
bad-once t i j a b = ⊎_elim (λ h. absurd (not-later t i j a b h))
    (λ h. ⊎_elim (λ k. absurd (not-later t j i b a k)) (λ k. omega arith) (order j i)) (order i j) where
      order : (m n : ℕ) → (m < n) ⊎ (n ≤ m)
      order zero zero = inr (omega arith)
      order zero (suc n) = inl (omega arith)
      order (suc m) zero = inr (omega arith)
      order (suc m) (suc n) = ⊎_elim (λ h. inl (omega arith)) (λ h. inr (omega arith)) (order m n)

-- bad text, and the byte, exactly
pub answer-bad : (t w : List ℕ) (r : Result ℕ ReadError) (i : ℕ) → length t ≤ formula_limit → SignsJudged t w r → BadAt t i → r ≡ Err (Bad i)
answer-bad t w (Ok n) i h j b =
    absurd (b.unread j.1.tree (record { signs = j.1.signs; spelt = j.1.spelt; formula = j.1.formula }))
answer-bad t w (Err (Bad k)) i h j b = ap (λ (x : ℕ). Err (Bad x)) (bad-once t k i j.1 b)
answer-bad t w (Err Long) i h j b = absurd (omega arith)

-- a formula's text, exactly
pub answer-fine : (t w : List ℕ) (r : Result ℕ ReadError) (φ : Formula) → length t ≤ formula_limit → SignsJudged t w r → Reads t φ → (n : ℕ)
    × (r ≡ Ok n)
answer-fine t w (Ok n) φ h j q = (n, refl)
answer-fine t w (Err (Bad k)) φ h j q = absurd (j.1.unread φ q)
answer-fine t w (Err Long) φ h j q = absurd (omega arith)

pub answer-long : (t w : List ℕ) (r : Result ℕ ReadError) → formula_limit < length t → SignsJudged t w r → r ≡ Err Long
answer-long t w (Ok n) h j = let k = j.0 in absurd (omega arith)
answer-long t w (Err (Bad i)) h j = let k = j.0 in absurd (omega arith)
answer-long t w (Err Long) h j = refl

-- every text, however long, is a formula's or has such a byte
step-told : (u l : List ℕ) (b : ℕ) (p : Place) (g : ℕ) (ss : List Sign) → run u Start 0 [] ≡ on p g ss → (x : Option Seen) → stepped p g b ≡ x →
    ((p' : Place) (g' : ℕ) (ss' : List Sign) → run (u ++ (b ∷ [])) Start 0 [] ≡ on p' g' ss' → Told ((u ++ (b ∷ [])) ++ l)) →
    Told (u ++ (b ∷ l))
step-told u l b p g ss e None q f =
    let t = u ++ (b ∷ l) in
    let n = length u in
    let long = length-append u (b ∷ l) in
    let front : take (suc n) t ≡ u ++ (b ∷ []) = ap (λ (k : List ℕ). take (suc n) k) (sym (append_assoc u (b ∷ []) l))
    ∙ take_at (u ++ (b ∷ [])) l (suc n) (length-append u (b ∷ []) ∙ omega arith) in
    inr (
      n,
      stop_bad t n p g ss (omega arith) (ap (λ (k : List ℕ). run k Start 0 []) (take_at u (b ∷ l) n refl) ∙ e)
          (ap (λ (k : List ℕ). run k Start 0 []) front ∙ run_after u (b ∷ []) Start p 0 g [] ss e ∙ run_stop b p g ss q),
    )
step-told u l b p g ss e (Some s) q f =
    subst Told (append_assoc u (b ∷ []) l)
    (f s.place s.groups (noted p s.place b ss)
    (run_after u (b ∷ []) Start p 0 g [] ss e ∙ run_step b [] p s.place g s.groups ss q))

end-told : (t : List ℕ) (p : Place) (g : ℕ) (ss : List Sign) → run t Start 0 [] ≡ on p g ss → (r : Result ℕ ReadError) → over p g 0 (length t) ≡ r →
    Ending p g 0 (length t) r → Told t
end-told t p g ss e r q (ends_well s z) = inl (whole_reads (stood_full 0 s (subst (Sofar t ss p) z (sofar t p g ss e))))
end-told t p g ss e r q ends_badly = inr (length t, end_bad t p g ss 0 (length t) (length t) refl e q)

told-from : (l u : List ℕ) (p : Place) (g : ℕ) (ss : List Sign) → run u Start 0 [] ≡ on p g ss → Told (u ++ l)
told-from [] u p g ss e = subst Told (sym (append-nil u)) (end-told u p g ss e (over p g 0 (length u)) refl (ending p g 0 (length u)))
told-from (b ∷ l) u p g ss e = step-told u l b p g ss e (stepped p g b) refl (λ p' g' ss' r. told-from l (u ++ (b ∷ [])) p' g' ss' r)

pub told : (t : List ℕ) → Told t
told t = told-from t [] Start 0 [] refl
