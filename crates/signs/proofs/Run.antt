-- The machine over a list of bytes.
-- Assumes nothing.
use Prim.Native.Nat.{ℕ}
use Rattle.std.specs.Prelude.{Option, Some, None}
use mathlib.Core.Path.{◌≡◌, refl, sym, ap, ◌∙◌}
use mathlib.Core.List.{List, [], ◌∷◌, ◌++◌}
use Rattle.signs.specs.declared.machine.Place.{Place}
use Rattle.signs.specs.declared.machine.Seen.{Seen}
use Rattle.signs.specs.Signs.{Sign}
use Rattle.signs.specs.Machine.{seen_at, stepped, noted}

-- where the bytes lead, with the signs so far, the last one first
pub data Run : Type 0 where
  dead : Run
  on : Place → ℕ → List Sign → Run

abbrev pub onward : Option Seen → (Place → ℕ → Run) → Run
onward None f = dead
onward (Some s) f = f s.place s.groups

abbrev pub onto : Run → (Place → ℕ → List Sign → Run) → Run
onto dead f = dead
onto (on p g ss) f = f p g ss

abbrev pub run : List ℕ → Place → ℕ → List Sign → Run
run [] p g ss = on p g ss
run (b ∷ l) p g ss = onward (stepped p g b) (λ p' g'. run l p' g' (noted p p' b ss))

onward_onto : (x : Option Seen) (f : Place → ℕ → Run) (h : Place → ℕ → List Sign → Run) → onto (onward x f) h ≡ onward x (λ p g. onto (f p g) h)
onward_onto None f h = refl
onward_onto (Some s) f h = refl

onward_same : (x : Option Seen) (f h : Place → ℕ → Run) → ((p : Place) (g : ℕ) → f p g ≡ h p g) → onward x f ≡ onward x h
onward_same None f h e = refl
onward_same (Some s) f h e = e s.place s.groups

pub run_append : (u v : List ℕ) (p : Place) (g : ℕ) (ss : List Sign) → run (u ++ v) p g ss ≡ onto (run u p g ss) (run v)
run_append [] v p g ss = refl
run_append (b ∷ u) v p g ss =
    onward_same (stepped p g b) (λ p' g'. run (u ++ v) p' g' (noted p p' b ss)) (λ p' g'. onto (run u p' g' (noted p p' b ss)) (run v))
    (λ p' g'. run_append u v p' g' (noted p p' b ss))
    ∙ sym (onward_onto (stepped p g b) (λ p' g'. run u p' g' (noted p p' b ss)) (run v))

-- two texts one after the other
pub run_after : (u v : List ℕ) (p p' : Place) (g g' : ℕ) (ss ss' : List Sign) → run u p g ss ≡ on p' g' ss' →
    run (u ++ v) p g ss ≡ run v p' g' ss'
run_after u v p p' g g' ss ss' e = run_append u v p g ss ∙ ap (λ (r : Run). onto r (run v)) e

pub run_dead : (u v : List ℕ) (p : Place) (g : ℕ) (ss : List Sign) → run u p g ss ≡ dead → run (u ++ v) p g ss ≡ dead
run_dead u v p g ss e = run_append u v p g ss ∙ ap (λ (r : Run). onto r (run v)) e

pub run_step : (b : ℕ) (l : List ℕ) (p p' : Place) (g g' : ℕ) (ss : List Sign) → stepped p g b ≡ seen_at p' g' →
    run (b ∷ l) p g ss ≡ run l p' g' (noted p p' b ss)
run_step b l p p' g g' ss e = ap (λ (x : Option Seen). onward x (λ p'' g''. run l p'' g'' (noted p p'' b ss))) e

pub run_stop : (b : ℕ) (p : Place) (g : ℕ) (ss : List Sign) → stepped p g b ≡ None → run (b ∷ []) p g ss ≡ dead
run_stop b p g ss e = ap (λ (x : Option Seen). onward x (λ p'' g''. run [] p'' g'' (noted p p'' b ss))) e

abbrev pub rev : List Sign → List Sign
rev [] = []
rev (s ∷ ss) = rev ss ++ (s ∷ [])

pub rev_snoc : (σ : List Sign) (s : Sign) → rev (σ ++ (s ∷ [])) ≡ s ∷ rev σ
rev_snoc [] s = refl
rev_snoc (x ∷ σ) s = ap (λ (l : List Sign). l ++ (x ∷ [])) (rev_snoc σ s)

pub rev_rev : (σ : List Sign) → rev (rev σ) ≡ σ
rev_rev [] = refl
rev_rev (s ∷ σ) = rev_snoc (rev σ) s ∙ ap (λ (l : List Sign). s ∷ l) (rev_rev σ)
