-- `forest::merge::covered` meets its contract. Assumes nothing.
use Prim.Native.Nat.{ℕ}
use mathlib.Core.Path.{◌≡◌, sym, ap, ◌∙◌}
use mathlib.Core.Bool.{true, false}
use mathlib.Core.Logic.{◌⊎◌, inl, inr}
use native.Mathlib.Omega.{arith}
use borrow.Author.Tests.{eqb-true, eqb-false}
use Rattle.forest.specs.Held.{Covered}
use Rattle.forest.specs.declared.held.Held.{Held}
use Rattle.forest.specs.declared.held.Held.TheVariants.{Nothing, Arcs, Atom}
use Rattle.forest.proofs.merge.covered.Goals as goal

apart : {A : Type 0} → true ≡ false → A
apart e = let z : ◌≡◌ {A = ℕ} 0 1 = cc in absurd (omega arith)

arcs-new : (came there : Held) (p : ℕ) → came ≡ Arcs p → Covered came there → ⊥
arcs-new came there p e (inl o) = let z : ◌≡◌ {A = ℕ} 0 1 = cc in omega arith
arcs-new came there p e (inr o) = let i = o.1.0 in let z : ◌≡◌ {A = ℕ} 0 1 = cc in omega arith

atom-new : (came there : Held) (u : ℕ) → came ≡ Atom u → Covered came there → there ≡ Atom u
atom-new came there u e (inl o) = let z : ◌≡◌ {A = ℕ} 0 1 = cc in absurd (omega arith)
atom-new came there u e (inr o) = let i = o.1.0 in let s : o.0 ≡ u = cc in o.1.1 ∙ ap Atom s

no_atom : (there : Held) (u : ℕ) → (there ≡ Nothing) ⊎ ((x : ℕ) × (there ≡ Arcs x)) → there ≡ Atom u → ⊥
no_atom there u (inl i) e = cc
no_atom there u (inr i) e = let k = i.1 in cc

pub returns-in-Nothing : goal.returns-in-Nothing
returns-in-Nothing c = ((λ y. inl c.in-Nothing.is), λ y. apart y)

pub returns-in-Arcs : goal.returns-in-Arcs
returns-in-Arcs c = ((λ y. apart (sym y)), λ y. arcs-new _ _ _ c.in-Arcs.is)

pub returns-in-Nothing-there : goal.returns-in-Nothing-there
returns-in-Nothing-there c = (
  (λ y. apart (sym y)),
  λ y k. no_atom _ _ c.in-Nothing-there.is (atom-new _ _ _ c.in-Atom.is k),
)

pub returns-in-Atom-there : goal.returns-in-Atom-there
returns-in-Atom-there c = (
  (λ y. inr (c.in-Atom.u, (c.in-Atom.is, c.in-Atom-there.is ∙ ap Atom (sym (eqb-true c.in-Atom.u c.in-Atom-there.v y))))),
  λ y k.
      let same = sym (atom-new _ _ c.in-Atom.u c.in-Atom.is k) ∙ c.in-Atom-there.is in
      let e : c.in-Atom.u ≡ c.in-Atom-there.v = cc in
      eqb-false c.in-Atom.u c.in-Atom-there.v y e,
)
