-- Every mode keeps a description well formed, with at most the words of both inputs less 3; and what an answer of the table says.
-- Assumes nothing.
use mathlib.Core.Path.{◌≡◌, refl, subst}
use mathlib.Core.Logic.{◌⊎◌, inl, inr}
use mathlib.Core.Option.{none, some}
use mathlib.Core.List.{[]}
use Prim.Native.Nat.{ℕ, ◌≤◌, ◌<◌}
use native.Mathlib.Omega.{arith}
use lib.ListN.{length}
use Rattle.descriptions.specs.Descr.{Desc}
use Rattle.descriptions.specs.Satisfaction.{Sat}
use Rattle.descriptions.specs.Modes.{full, joined, quick}
use Rattle.descriptions.specs.Call.{Call}
use Rattle.descriptions.specs.Answer.{Answer}
use Rattle.descriptions.specs.Rules.{Accepted, Given, done, eight, eleven, five, four, mode_readings, mode_result, one, seven, six}
use Rattle.descriptions.specs.Rules.{ten, three, two}
use Rattle.descriptions.specs.Demands.{ClashNumber, Refused}
use Rattle.descriptions.proofs.Mean.{Can}
use Rattle.descriptions.proofs.Sense.{Both, full_sat, joined_sat, quick_sat}
use Rattle.descriptions.proofs.Chain.{Means, both, full_result_means, joined_means, quick_means}
use Rattle.descriptions.proofs.Table.{full_is}
use Rattle.descriptions.specs.Joining.{Joining}
use Rattle.descriptions.specs.Structures.{Structures}
use Rattle.descriptions.proofs.Laws.{Laws}
use Rattle.descriptions.proofs.Senses.{Sense}
use Rattle.descriptions.specs.Layout.{Layout}

module _ {Graph : Type 0} (J : Joining Graph) where
  -- what a clash says, whichever of the three
  abbrev pub None : Desc Graph → Desc Graph → Type 0
  None d e = (joined J d e ≡ none) ⊎ ((quick J d e ≡ none) ⊎ (full J d e ≡ none))

module _ {Graph : Type 0} (J : Joining Graph) (𝓕 : Layout Graph) where
  open 𝓕 use {words}

  -- what an answer 0 says
  pub record Good (C : Call) (work : ℕ) (r : Answer) (d e s : Desc Graph) : Type 0 where
    pub accepted : Accepted 𝓕 C work d e
    pub by : mode_result J C.mode d e ≡ some s
    pub wrote : r.result ≡ words s
    pub long : r.extent ≡ length (words s)
    pub count : r.readings ≡ mode_readings J C.mode d e

  pub on_zero : (C : Call) (room work : ℕ) (r : Answer) → Given J 𝓕 C room work r → r.number ≡ 0 →
      (d : Desc Graph) × (e : Desc Graph) × (s : Desc Graph) × Good C work r d e s
  on_zero C room work r (one h) z = let k : ◌≡◌ {A = ℕ} 1 0 = z in absurd (omega arith)
  on_zero C room work r (two m h) z = let k : ◌≡◌ {A = ℕ} 2 0 = z in absurd (omega arith)
  on_zero C room work r (three m w h) z = let k : ◌≡◌ {A = ℕ} 3 0 = z in absurd (omega arith)
  on_zero C room work r (four m w la lb n) z = let k : ◌≡◌ {A = ℕ} 4 0 = z in absurd (omega arith)
  on_zero C room work r (five m w la lb i n) z = let k : ◌≡◌ {A = ℕ} 5 0 = z in absurd (omega arith)
  on_zero C room work r (six d e i A h n) z = let k : ◌≡◌ {A = ℕ} 6 0 = z in absurd (omega arith)
  on_zero C room work r (ten d e A j l h) z = let k : ◌≡◌ {A = ℕ} 10 0 = z in absurd (omega arith)
  on_zero C room work r (seven d e A c t) z = let k : ◌≡◌ {A = ℕ} 7 0 = z in absurd (omega arith)
  on_zero C room work r (eleven d e A c t m n) z = let k : ◌≡◌ {A = ℕ} 11 0 = z in absurd (omega arith)
  on_zero C room work r (eight d e s A c t h l) z = let k : ◌≡◌ {A = ℕ} 8 0 = z in absurd (omega arith)
  on_zero C room work r (done d e s A c t h l) z = (d, e, s, record { accepted = A; by = h; wrote = refl; long = refl; count = refl })

  -- no clash has such a number
  no_clash : {A : Type 0} (n : ℕ) → (n ≡ 6 → ⊥) → n ≤ 9 → ClashNumber n → A
  no_clash n h l (inl e) = absurd (h e)
  no_clash n h l (inr (inl e)) = absurd (omega arith)
  no_clash n h l (inr (inr e)) = absurd (omega arith)

  other : (n k : ℕ) → n < k → (n ≡ k → ⊥) × (k ≡ n → ⊥)
  other n k l = (λ e. omega arith, λ e. omega arith)

  pub on_clash : (C : Call) (room work : ℕ) (r : Answer) → Given J 𝓕 C room work r → ClashNumber r.number →
      (d : Desc Graph) × (e : Desc Graph) × Accepted 𝓕 C work d e × None J d e
  on_clash C room work r (one h) z = no_clash 1 (other 1 6 (omega arith)).0 (omega arith) z
  on_clash C room work r (two m h) z = no_clash 2 (other 2 6 (omega arith)).0 (omega arith) z
  on_clash C room work r (three m w h) z = no_clash 3 (other 3 6 (omega arith)).0 (omega arith) z
  on_clash C room work r (four m w la lb n) z = no_clash 4 (other 4 6 (omega arith)).0 (omega arith) z
  on_clash C room work r (five m w la lb i n) z = no_clash 5 (other 5 6 (omega arith)).0 (omega arith) z
  on_clash C room work r (six d e i A h n) z = (d, e, A, inl h)
  on_clash C room work r (ten d e A j l h) z = (d, e, A, inr (inl h))
  on_clash C room work r (seven d e A c t) z = no_clash 7 (other 6 7 (omega arith)).1 (omega arith) z
  on_clash C room work r (eleven d e A c t m n) z = (d, e, A, inr (inr (full_is J 𝓕 d e n)))
  on_clash C room work r (eight d e s A c t h l) z = no_clash 8 (other 6 8 (omega arith)).1 (omega arith) z
  on_clash C room work r (done d e s A c t h l) z = no_clash 0 (other 0 6 (omega arith)).0 (omega arith) z

  -- an answer is 0, a clash or a refusal on another ground
  pub which : (C : Call) (room work : ℕ) (r : Answer) → Given J 𝓕 C room work r →
      (r.number ≡ 0) ⊎ (ClashNumber r.number ⊎ Refused r.number)
  which C room work r (one h) = inr (inr (inl (omega arith, omega arith)))
  which C room work r (two m h) = inr (inr (inl (omega arith, omega arith)))
  which C room work r (three m w h) = inr (inr (inl (omega arith, omega arith)))
  which C room work r (four m w la lb n) = inr (inr (inl (omega arith, omega arith)))
  which C room work r (five m w la lb i n) = inr (inr (inl (omega arith, omega arith)))
  which C room work r (six d e i A h n) = inr (inl (inl refl))
  which C room work r (ten d e A j l h) = inr (inl (inr (inl refl)))
  which C room work r (seven d e A c t) = inr (inr (inr (omega arith, omega arith)))
  which C room work r (eleven d e A c t m n) = inr (inl (inr (inr refl)))
  which C room work r (eight d e s A c t h l) = inr (inr (inr (omega arith, omega arith)))
  which C room work r (done d e s A c t h l) = inl refl

module _ {Graph : Type 0} {J : Joining Graph} (𝓛 : Laws J) where
  -- where some mode finds none, there is no meaning, and nothing satisfies both
  pub none_means : (d e : Desc Graph) → Can 𝓛 d → Can 𝓛 e → None J d e → both J d e ≡ []
  none_means d e p q (inl h) = subst (Means J (both J d e)) h (joined_means 𝓛 d e p q)
  none_means d e p q (inr (inl h)) = subst (Means J (both J d e)) h (quick_means 𝓛 d e p q)
  none_means d e p q (inr (inr h)) = subst (Means J (both J d e)) h (full_result_means 𝓛 d e p q)

module _ {Graph : Type 0} {J : Joining Graph} {𝓛 : Laws J} {𝓜 : Structures Graph} (𝓢 : Sense 𝓛 𝓜) where
  open 𝓜 use {Structure}

  pub none_sat : (S : Structure) (d e : Desc Graph) → Can 𝓛 d → Can 𝓛 e → None J d e → Sat 𝓜 S d → Sat 𝓜 S e → ⊥
  none_sat S d e p q (inl h) = subst (Both 𝓢 S d e) h (joined_sat 𝓢 S d e p q)
  none_sat S d e p q (inr (inl h)) = subst (Both 𝓢 S d e) h (quick_sat 𝓢 S d e p q)
  none_sat S d e p q (inr (inr h)) = subst (Both 𝓢 S d e) h (full_sat 𝓢 S d e p q)
