-- Every consistent choice is satisfied by a structure, finite and with all nodes reached: the joined graph itself.
-- Assumes nothing.
use mathlib.Core.Path.{◌≡◌, refl}
use mathlib.Core.Bool.{true}
use mathlib.Core.Option.{Option, some, none}
use Rattle.theory.specs.Net.{Graph, beside, roots, Agree}
use Rattle.theory.specs.Join.{join}
use Rattle.theory.specs.Descr.{agree, answers}
use Rattle.theory.specs.Canonical.{Ctx, Fine}
use Rattle.theory.specs.JoiningOne.{joining_one}
use mathlib.Core.Logic.{◌↔◌}
use mathlib.Core.List.{[], ◌∷◌}
use native.Mathlib.Omega.{arith}
use Rattle.theory.proofs.Meaning.{joined_agrees}
use Rattle.theory.proofs.Instance.{join_some, join_none}

pub agree_view : (r : Ctx) → (o : Option Graph) → join r ≡ o → agree r ≡ true → (G : Graph) × (join r ≡ some G)
agree_view = Rattle.descriptions.proofs.Model.agree_view joining_one

-- and exactly when no class clashes
pub agree_iff : (r : Ctx) → Fine r → (agree r ≡ true) ↔ Agree r
unfolding Rattle.descriptions.specs.Descr.agree
agree_iff [] f = let h = f.0 in absurd (omega (arith, h))
agree_iff (g ∷ gs) f = (
  λ h. let (G, e) = agree_view (g ∷ gs) (join (g ∷ gs)) refl h in
      joined_agrees (beside (g ∷ gs)) (roots (beside (g ∷ gs))) G (join_some g gs f.1 G e),
  λ n. go n (join (g ∷ gs)) refl,
)
  where
    go : Agree (g ∷ gs) → (o : Option Graph) → join (g ∷ gs) ≡ o → answers o ≡ true
    go n none e = absurd (n (join_none g gs f.1 e))
    go n (some G) e = refl
