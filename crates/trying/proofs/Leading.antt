-- One arc of a root after the other. Assumes nothing.
use mathlib.Core.Path.{◌≡◌, refl, subst}
use mathlib.Core.Logic.{inl, inr}
use mathlib.Core.List.{List}
use Prim.Native.Nat.{ℕ, ◌+◌, ◌≤◌, ◌<◌}
use native.Mathlib.Decide.{dec_lt}
use native.Mathlib.Omega.{arith}
use Rattle.theory.specs.Limits.{code_limit}
use Rattle.trying.specs.Leaf.{feature, leaf_head, Next, Leaf, Suits, LeafTold, FirstLeaves, LeavesTold}
use Rattle.trying.specs.declared.told.Guess.{Guess}
use Rattle.trying.specs.declared.told.Guess.TheVariants.{Agrees, Unsure}

module _ (n : ℕ) (w : List ℕ) (g b d : ℕ) where
  -- ---- one arc
  module _ (i : ℕ) where
    pub leads_unsure : LeafTold n w g b d i Unsure
    leads_unsure = record {
      agrees = λ y. let i : ◌≡◌ {A = ℕ} 0 1 = cc in absurd (omega arith);
      clashes = λ y. let i : ◌≡◌ {A = ℕ} 0 1 = cc in absurd (omega arith);
    }

    module _ (next : Next w g b i) where
      pub leads_bare : leaf_head w g d i ≡ 0 → LeafTold n w g b d i Agrees
      leads_bare z = record {
        agrees = λ y. record { next = next; says = inl z };
        clashes = λ y. let i : ◌≡◌ {A = ℕ} 0 1 = cc in absurd (omega arith);
      }

      pub leads_atom : code_limit ≤ leaf_head w g d i → (r : Guess) → Suits n w (feature w g i) (leaf_head w g d i) r →
          LeafTold n w g b d i r
      leads_atom l r s = record {
        agrees = λ y. record { next = next; says = inr (l, s.agrees y) };
        clashes = λ y. record { next = next; atom = l; foul = s.clashes y };
      }

  -- ---- all arcs
  pub leaves_none : FirstLeaves n w g b d 0
  leaves_none j h = absurd (omega arith)

  pub leaves_more : (i : ℕ) → FirstLeaves n w g b d i → LeafTold n w g b d i Agrees → FirstLeaves n w g b d (i + 1)
  leaves_more i l s j h = go (dec_lt j i)
    where
      go : Dec (j < i) → Leaf n w g b d j
      go (yes z) = l j z
      go (no z) = let e : i ≡ j = omega arith in subst (Leaf n w g b d) e (s.agrees refl)

  pub all_agree : FirstLeaves n w g b d d → LeavesTold n w g b d Agrees
  all_agree l = record {
    agrees = λ y. l;
    clashes = λ y. let i : ◌≡◌ {A = ℕ} 0 1 = cc in absurd (omega arith);
  }

  pub all_stop : (i : ℕ) (r : Guess) → i < d → FirstLeaves n w g b d i → LeafTold n w g b d i r → (r ≡ Agrees → ⊥) → LeavesTold n w g b d r
  all_stop i r h l s z = record {
    agrees = λ y. absurd (z y);
    clashes = λ y. (i, (h, (l, s.clashes y)));
  }
