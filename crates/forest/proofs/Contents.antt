-- What a class holds, as it is read and as it is told. Assumes nothing.
use Prim.Native.Nat.{ℕ, zero, suc, ◌+◌, ◌<◌}
use mathlib.Core.Path.{◌≡◌, refl, sym, ap, ◌∙◌, subst}
use mathlib.Core.Bool.{Bool, true, false}
use mathlib.Core.List.{List}
use mathlib.Core.Logic.{◌⊎◌, inl, inr}
use native.Mathlib.Omega.{arith}
use native.Mathlib.Decide.{ℕ_discrete, dec_lt}
use lib.Dec.{ltb}
use lib.ListN.{get_or}
use borrow.Author.Tests.{lt-ltb, le-ltb}
use Rattle.area.specs.Map.{HELD}
use Rattle.area.proofs.Region.{held_at}
use Rattle.forest.specs.Held.{last_arc, ChainCode, AtomCode, held, held_by, bears}
use Rattle.forest.specs.declared.held.Held.{Held}
use Rattle.forest.specs.declared.held.Held.TheVariants.{Nothing, Arcs, Atom}

-- ---- a code is read
unfoldable chosen : ℕ → Bool → Held
chosen x t = elim t [ true ↦ Atom x | false ↦ Arcs x ]

pub held_nothing : (x : ℕ) → x ≡ 0 → Nothing ≡ held x
unfolding held
held_nothing zero e = refl
held_nothing (suc j) e = absurd (omega arith)

pub held_atom : (x : ℕ) → AtomCode x → Atom x ≡ held x
unfolding held chosen
held_atom zero h = absurd (omega arith)
held_atom (suc j) h = sym (ap (chosen (suc j)) (lt-ltb last_arc (suc j) h))

pub held_arcs : (x : ℕ) → 0 < x → ChainCode x → Arcs x ≡ held x
unfolding held chosen
held_arcs zero some h = absurd (omega arith)
held_arcs (suc j) some h = sym (ap (chosen (suc j)) (le-ltb last_arc (suc j) h))

-- ---- what a class holds is told
data Case (x : ℕ) : Held → Type 0 where
  empty : x ≡ 0 → Case x Nothing
  chain : 0 < x → ChainCode x → Case x (Arcs x)
  atom : AtomCode x → Case x (Atom x)

case_of : (x : ℕ) → Case x (held x)
case_of x = go (ℕ_discrete x 0) (dec_lt last_arc x)
  where
    go : Dec (x ≡ 0) → Dec (last_arc < x) → Case x (held x)
    go (yes e) l = subst (Case x) (held_nothing x e) (Case.empty e)
    go (no e) (yes l) = subst (Case x) (held_atom x l) (Case.atom l)
    go (no e) (no l) = let some : 0 < x = omega arith in subst (Case x) (held_arcs x some (omega arith)) (Case.chain some (omega arith))

-- a code above the last arc is an atom's
pub bears_code : (x : ℕ) → ltb last_arc x ≡ bears (held x)
bears_code x = go (held x) (case_of x)
  where
    go : (r : Held) → Case x r → ltb last_arc x ≡ bears r
    go Nothing (Case.empty e) = le-ltb last_arc x (omega arith)
    go (Arcs y) (Case.chain some l) = le-ltb last_arc x l
    go (Atom y) (Case.atom l) = lt-ltb last_arc x l

case_at : (w : List ℕ) (c : ℕ) → Case (get_or w c 0) (held_by w c)
unfolding held_by
case_at w c = subst (λ (i : ℕ). Case (get_or w i 0) (held (get_or w (HELD + c) 0))) (held_at c) (case_of (get_or w (HELD + c) 0))

module _ (w : List ℕ) (c : ℕ) where
  pub told_nothing : held_by w c ≡ Nothing → get_or w c 0 ≡ 0
  told_nothing = go (held_by w c) (case_at w c)
    where
      go : (r : Held) → Case (get_or w c 0) r → r ≡ Nothing → get_or w c 0 ≡ 0
      go Nothing (Case.empty e) i = e
      go (Arcs x) (Case.chain some l) i = let z : ◌≡◌ {A = ℕ} 0 1 = cc in absurd (omega arith)
      go (Atom x) (Case.atom l) i = let z : ◌≡◌ {A = ℕ} 0 1 = cc in absurd (omega arith)

  pub told_arcs : (x : ℕ) → held_by w c ≡ Arcs x → (x ≡ get_or w c 0) × ((0 < x) × ChainCode x)
  told_arcs x = go (held_by w c) (case_at w c)
    where
      go : (r : Held) → Case (get_or w c 0) r → r ≡ Arcs x → (x ≡ get_or w c 0) × ((0 < x) × ChainCode x)
      go Nothing (Case.empty e) i = let z : ◌≡◌ {A = ℕ} 0 1 = cc in absurd (omega arith)
      go (Arcs y) (Case.chain some l) i = let e : get_or w c 0 ≡ x = cc in (sym e, (omega arith, omega arith))
      go (Atom y) (Case.atom l) i = let z : ◌≡◌ {A = ℕ} 0 1 = cc in absurd (omega arith)

  pub told_atom : (v : ℕ) → held_by w c ≡ Atom v → (v ≡ get_or w c 0) × AtomCode v
  told_atom v = go (held_by w c) (case_at w c)
    where
      go : (r : Held) → Case (get_or w c 0) r → r ≡ Atom v → (v ≡ get_or w c 0) × AtomCode v
      go Nothing (Case.empty e) i = let z : ◌≡◌ {A = ℕ} 0 1 = cc in absurd (omega arith)
      go (Arcs y) (Case.chain some l) i = let z : ◌≡◌ {A = ℕ} 0 1 = cc in absurd (omega arith)
      go (Atom y) (Case.atom l) i = let e : get_or w c 0 ≡ v = cc in (sym e, omega arith)

  -- whether it is an atom
  pub told_bears : (b : Bool) → b ≡ bears (held_by w c) → b ≡ true → AtomCode (get_or w c 0)
  told_bears b e t = go (held_by w c) (case_at w c) (sym e ∙ t)
    where
      go : (r : Held) → Case (get_or w c 0) r → bears r ≡ true → AtomCode (get_or w c 0)
      go Nothing (Case.empty e) i = let z : ◌≡◌ {A = ℕ} 0 1 = cc in absurd (omega arith)
      go (Arcs y) (Case.chain some l) i = let z : ◌≡◌ {A = ℕ} 0 1 = cc in absurd (omega arith)
      go (Atom y) (Case.atom l) i = l

  pub told_bare : (b : Bool) → b ≡ bears (held_by w c) → b ≡ false → ChainCode (get_or w c 0)
  told_bare b e t = go (held_by w c) (case_at w c) (sym e ∙ t)
    where
      go : (r : Held) → Case (get_or w c 0) r → bears r ≡ false → ChainCode (get_or w c 0)
      go Nothing (Case.empty e) i = omega arith
      go (Arcs y) (Case.chain some l) i = l
      go (Atom y) (Case.atom l) i = let z : ◌≡◌ {A = ℕ} 0 1 = cc in absurd (omega arith)

  -- the tag of an answer, as a match has it: 0 for nothing, 1 for arcs, 2 for an atom
  pub told_chain : (r : Held) → r ≡ held_by w c → ((x : ℕ) → r ≡ Atom x → ⊥) → ChainCode (get_or w c 0)
  told_chain r e other = go r other (subst (Case (get_or w c 0)) (sym e) (case_at w c))
    where
      go : (r : Held) → ((x : ℕ) → r ≡ Atom x → ⊥) → Case (get_or w c 0) r → ChainCode (get_or w c 0)
      go Nothing t (Case.empty e) = omega arith
      go (Arcs x) t (Case.chain some l) = l
      go (Atom x) t (Case.atom l) = absurd (t x refl)

  pub told_other : (r : Held) → r ≡ held_by w c → ((x : ℕ) → r ≡ Arcs x → ⊥) → (get_or w c 0 ≡ 0) ⊎ AtomCode (get_or w c 0)
  told_other r e other = go r other (subst (Case (get_or w c 0)) (sym e) (case_at w c))
    where
      go : (r : Held) → ((x : ℕ) → r ≡ Arcs x → ⊥) → Case (get_or w c 0) r → (get_or w c 0 ≡ 0) ⊎ AtomCode (get_or w c 0)
      go Nothing t (Case.empty e) = inl e
      go (Atom x) t (Case.atom l) = inr l
      go (Arcs x) t (Case.chain some l) = absurd (t x refl)

  -- the code x of a chain, which is 0 where nothing is held
  pub told_code : (r : Held) → r ≡ held_by w c → (x : ℕ) → ((r ≡ Nothing) × (x ≡ 0)) ⊎ ((y : ℕ) × ((r ≡ Arcs y) × (x ≡ y))) →
      (x ≡ get_or w c 0) × ChainCode x
  told_code r e x (inl o) = (o.1 ∙ sym (told_nothing (sym e ∙ o.0)), omega (arith, o.1))
  told_code r e x (inr o) = let chain = told_arcs o.0 (sym e ∙ o.1.0) in (o.1.1 ∙ chain.0, omega (arith, chain, o.1.1))
