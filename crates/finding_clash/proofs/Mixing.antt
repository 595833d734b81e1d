-- A head comes to the note of a class: the note says what the class bears then.
-- Assumes nothing.
use mathlib.Core.Path.{◌≡◌, refl, sym, ◌∙◌, subst}
use mathlib.Core.Logic.{◌⊎◌, inl, inr}
use Prim.Native.Nat.{ℕ, suc, ◌≤◌, ◌<◌}
use native.Mathlib.Omega.{arith}
use native.Mathlib.Decide.{ℕ_discrete, dec_lt}
use Rattle.theory.specs.Limits.{code_limit}
use Rattle.finding_clash.specs.Notes.{Conflict, two_heads, head_and_arcs, ClassNote, bears_nothing, bears_arcs, bears_head}
use Rattle.finding_clash.specs.Notes.{bears_clash, Mixes}

module _ (L H : ℕ → ℕ) (k c : ℕ) where
  -- what holds of the heads before, and of the head that comes
  one_more : (P : ℕ → Type 0) → ((i : ℕ) → i < k → L i ≡ c → P (H i)) → (L k ≡ c → P (H k)) → (i : ℕ) → i < suc k → L i ≡ c → P (H i)
  one_more P old new i l e = go (ℕ_discrete i k)
    where
      go : Dec (i ≡ k) → P (H i)
      go (yes d) = subst (λ (z : ℕ). P (H z)) (sym d) (new (subst (λ (z : ℕ). L z ≡ c) d e))
      go (no d) = old i (omega arith) e

  pub conflict_more : Conflict L H k c → Conflict L H (suc k) c
  conflict_more (two_heads i j a b p q u v d) = two_heads i j (omega arith) (omega arith) p q u v d
  conflict_more (head_and_arcs i j a b p q u v d) = head_and_arcs i j (omega arith) (omega arith) p q u v d

  -- a node of another class changes nothing
  pub noted_other : (v : ℕ) → (L k ≡ c → ⊥) → ClassNote L H k c v → ClassNote L H (suc k) c v
  noted_other v o (bears_nothing z f) = bears_nothing z (one_more (λ x. x ≡ 0) f (λ e. absurd (o e)))
  noted_other v o (bears_arcs z f j a b p q) =
      bears_arcs z (one_more (λ x. x < code_limit) f (λ e. absurd (o e))) j (omega arith) b p q
  noted_other v o (bears_head z f j a b p) =
      bears_head z (one_more (λ x. (x ≡ 0) ⊎ (x ≡ v)) f (λ e. absurd (o e))) j (omega arith) b p
  noted_other v o (bears_clash z x) = bears_clash z (conflict_more x)

  module _ (own : L k ≡ c) (h : ℕ) (is : H k ≡ h) where
    -- neither an atom nor an arc
    with_none : (v : ℕ) → h ≡ 0 → ClassNote L H k c v → ClassNote L H (suc k) c v
    with_none v n (bears_nothing z f) = bears_nothing z (one_more (λ x. x ≡ 0) f (λ e. is ∙ n))
    with_none v n (bears_arcs z f j a b p q) =
        bears_arcs z (one_more (λ x. x < code_limit) f (λ e. omega arith)) j (omega arith) b p q
    with_none v n (bears_head z f j a b p) =
        bears_head z (one_more (λ x. (x ≡ 0) ⊎ (x ≡ v)) f (λ e. inl (is ∙ n))) j (omega arith) b p
    with_none v n (bears_clash z x) = bears_clash z (conflict_more x)

    first_arcs : (v : ℕ) → (h ≡ 0 → ⊥) → h < code_limit → v ≡ 0 → ClassNote L H k c v → ClassNote L H (suc k) c 1
    first_arcs v n l e (bears_nothing z f) =
        bears_arcs refl (one_more (λ x. x < code_limit) (λ i a b. let d = f i a b in omega arith) (λ d. omega arith)) k (omega arith) own
        (positive n) (omega arith)
      where
        positive : (h ≡ 0 → ⊥) → 0 < H k
        positive n = go (dec_lt 0 (H k))
          where
            go : Dec (0 < H k) → 0 < H k
            go (yes p) = p
            go (no p) = absurd (n (omega arith))
    first_arcs v n l e (bears_arcs z f j a b p q) = absurd (omega arith)
    first_arcs v n l e (bears_head z f j a b p) = absurd (omega arith)
    first_arcs v n l e (bears_clash z x) = absurd (omega arith)

    first_head : (v : ℕ) → code_limit ≤ h → v ≡ 0 → ClassNote L H k c v → ClassNote L H (suc k) c h
    first_head v l e (bears_nothing z f) =
        bears_head l (one_more (λ x. (x ≡ 0) ⊎ (x ≡ h)) (λ i a b. inl (f i a b)) (λ d. inr is)) k (omega arith) own is
    first_head v l e (bears_arcs z f j a b p q) = absurd (omega arith)
    first_head v l e (bears_head z f j a b p) = absurd (omega arith)
    first_head v l e (bears_clash z x) = absurd (omega arith)

    same_again : (v : ℕ) → (h ≡ 0 → ⊥) → v ≡ h → ClassNote L H k c v → ClassNote L H (suc k) c v
    same_again v n e (bears_nothing z f) = absurd (n (sym e ∙ z))
    same_again v n e (bears_arcs z f j a b p q) =
        bears_arcs z (one_more (λ x. x < code_limit) f (λ d. omega arith)) j (omega arith) b p q
    same_again v n e (bears_head z f j a b p) =
        bears_head z (one_more (λ x. (x ≡ 0) ⊎ (x ≡ v)) f (λ d. inr (is ∙ sym e))) j (omega arith) b p
    same_again v n e (bears_clash z x) = bears_clash z (conflict_more x)

    more_arcs : (v : ℕ) → h < code_limit → v ≡ 1 → ClassNote L H k c v → ClassNote L H (suc k) c 1
    more_arcs v l e (bears_nothing z f) = absurd (omega arith)
    more_arcs v l e (bears_arcs z f j a b p q) =
        bears_arcs refl (one_more (λ x. x < code_limit) f (λ d. omega arith)) j (omega arith) b p q
    more_arcs v l e (bears_head z f j a b p) = absurd (omega arith)
    more_arcs v l e (bears_clash z x) = absurd (omega arith)

    arcs_then_head : (v : ℕ) → code_limit ≤ h → v ≡ 1 → ClassNote L H k c v → ClassNote L H (suc k) c 2
    arcs_then_head v l e (bears_nothing z f) = absurd (omega arith)
    arcs_then_head v l e (bears_arcs z f j a b p q) =
        bears_clash refl (head_and_arcs k j (omega arith) (omega arith) own b (omega arith) p q)
    arcs_then_head v l e (bears_head z f j a b p) = absurd (omega arith)
    arcs_then_head v l e (bears_clash z x) = absurd (omega arith)

    head_then_other : (v : ℕ) → (h ≡ 0 → ⊥) → (v ≡ 0 → ⊥) → (v ≡ h → ⊥) → (v ≡ 1 → ⊥) → ClassNote L H k c v → ClassNote L H (suc k) c 2
    head_then_other v n a₀ a₁ a₂ (bears_nothing z f) = absurd (a₀ z)
    head_then_other v n a₀ a₁ a₂ (bears_arcs z f j a b p q) = absurd (a₂ z)
    head_then_other v n a₀ a₁ a₂ (bears_head z f j a b p) = bears_clash refl (go (dec_lt (H k) code_limit) (dec_lt 0 (H k)))
      where
        go : Dec (H k < code_limit) → Dec (0 < H k) → Conflict L H (suc k) c
        go (yes l) (yes m) = head_and_arcs j k (omega arith) (omega arith) b own (omega arith) m l
        go (yes l) (no m) = absurd (n (omega arith))
        go (no l) m = two_heads j k (omega arith) (omega arith) b own (omega arith) (omega arith) (λ d. a₁ (sym p ∙ d ∙ is))
    head_then_other v n a₀ a₁ a₂ (bears_clash z x) = bears_clash refl (conflict_more x)

-- ---- one law a return
pub mix_none : (v h : ℕ) → h ≡ 0 → Mixes v h v
mix_none v h n = record { is = λ L H k c own is. with_none L H k c own h is v n }

pub mix_first_arcs : (v h : ℕ) → (h ≡ 0 → ⊥) → h < code_limit → v ≡ 0 → Mixes v h 1
mix_first_arcs v h n l e = record { is = λ L H k c own is. first_arcs L H k c own h is v n l e }

pub mix_first_head : (v h : ℕ) → code_limit ≤ h → v ≡ 0 → Mixes v h h
mix_first_head v h l e = record { is = λ L H k c own is. first_head L H k c own h is v l e }

pub mix_same : (v h : ℕ) → (h ≡ 0 → ⊥) → v ≡ h → Mixes v h v
mix_same v h n e = record { is = λ L H k c own is. same_again L H k c own h is v n e }

pub mix_more_arcs : (v h : ℕ) → h < code_limit → v ≡ 1 → Mixes v h 1
mix_more_arcs v h l e = record { is = λ L H k c own is. more_arcs L H k c own h is v l e }

pub mix_head : (v h : ℕ) → code_limit ≤ h → v ≡ 1 → Mixes v h 2
mix_head v h l e = record { is = λ L H k c own is. arcs_then_head L H k c own h is v l e }

pub mix_other : (v h : ℕ) → (h ≡ 0 → ⊥) → (v ≡ 0 → ⊥) → (v ≡ h → ⊥) → (v ≡ 1 → ⊥) → Mixes v h 2
mix_other v h n a b d = record { is = λ L H k c own is. head_then_other L H k c own h is v n a b d }
