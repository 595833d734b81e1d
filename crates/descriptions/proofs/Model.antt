-- Every consistent choice is satisfied by a structure, finite and with all nodes reached: the joined graph itself.
-- Assumes nothing.
use mathlib.Core.Path.{◌≡◌, refl, ap}
use mathlib.Core.Bool.{true, false}
use mathlib.Core.Option.{Option, none, some}
use mathlib.Core.List.{List, [], ◌∷◌, Memᴰ}
use Prim.Native.Nat.{ℕ}
use native.Mathlib.Omega.{arith}
use Rattle.descriptions.specs.Structures.{SatisfiesAll, Structures}
use Rattle.descriptions.specs.Descr.{Desc, agree, answers, choices}
use Rattle.descriptions.specs.Satisfaction.{Sat}
use Rattle.descriptions.proofs.Mean.{Can, Fine}
use Rattle.descriptions.proofs.Satisfy.{choice_sat}
use Rattle.descriptions.proofs.Chain.{choices_full}
use Rattle.descriptions.proofs.Senses.{Sense}
use Rattle.descriptions.specs.Joining.{Joining}
use Rattle.descriptions.proofs.Laws.{Laws}

module _ {Graph : Type 0} (J : Joining Graph) where
  open J use {join}

  -- a choice is consistent exactly when a structure satisfies all the graphs that it takes
  pub agree_view : (r : List Graph) → (o : Option Graph) → join r ≡ o → agree J r ≡ true → (G : Graph) × (join r ≡ some G)
  unfolding agree
  agree_view r none e h = let k : answers (join r) ≡ false = ap answers e in let z : ◌≡◌ {A = ℕ} 0 1 = cc in absurd (omega arith)
  agree_view r (some G) e h = (G, e)

module _ {Graph : Type 0} {J : Joining Graph} {𝓛 : Laws J} {𝓜 : Structures Graph} (𝓢 : Sense 𝓛 𝓜) where
  open J use {join}
  open 𝓜 use {Structure}
  open 𝓢 use {Proper}

  pub graphs_model : (r : List Graph) → Fine 𝓛 r → (G : Graph) → join r ≡ some G → (S : Structure) × Proper S × SatisfiesAll 𝓜 S r
  graphs_model r f G e = let (S, p, s) = 𝓢.model r f.0 f.1 G e in (S, p, (𝓢.joined_satisfied r f.0 f.1 G e S).0 s)

  pub consistent_satisfied : (d : Desc Graph) → Can 𝓛 d → (r : List Graph) → Memᴰ r (choices d) → agree J r ≡ true →
      (S : Structure) × Proper S × SatisfiesAll 𝓜 S r × Sat 𝓜 S d
  consistent_satisfied d c r i h =
      let (G, e) = agree_view J r (join r) refl h in
      let (S, p, s) = graphs_model r (choices_full 𝓛 d c r i) G e in
      (S, p, s, choice_sat 𝓢 S d (r, i, s))

  pub satisfied_consistent : (r : List Graph) → Fine 𝓛 r → (S : Structure) → SatisfiesAll 𝓜 S r → agree J r ≡ true
  unfolding agree
  satisfied_consistent [] f S s = let h = f.0 in absurd (omega (arith, h))
  satisfied_consistent (g ∷ gs) f S s = go (join (g ∷ gs)) refl
    where
      go : (o : Option Graph) → join (g ∷ gs) ≡ o → answers o ≡ true
      go none e = absurd (𝓢.clash_unsatisfied (g ∷ gs) (omega arith) f.1 e S s)
      go (some G) e = refl
