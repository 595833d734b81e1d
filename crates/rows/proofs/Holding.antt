-- A memory that holds all that a formula gives lies as its draft says.
-- Assumes nothing.
use Prim.Native.Nat.{ℕ, suc, ◌+◌, ◌*◌, ◌/◌, ◌%◌, ◌<◌, ◌≤◌}
use mathlib.Core.Path.{◌≡◌, refl, ap, subst, ◌∙◌}
use mathlib.Core.Bool.{Bool, true, false}
use mathlib.Core.List.{List, [], ◌∷◌}
use native.Mathlib.Omega.{arith}
use lib.ListN.{length}
use lib.Dec.{eqb}
use borrow.Author.Tests.{eqb-true, eqb-false}
use Rattle.theory.specs.Join.{Edge}
use Rattle.formulas.specs.Formula.{Formula}
use Rattle.formulas.specs.Sheet.{count}
use Rattle.formulas.specs.Flat.{width}
use Rattle.signs.specs.Limits.{formula_limit}
use Rattle.signs.specs.Signs.{Sign, Spelt}
use Rattle.signs.specs.Grammar.{Whole}
use Rattle.rows.specs.Machine.{Alt, Out}
use Rattle.rows.specs.Given.{given}
use Rattle.rows.specs.Plan.{renewed, none_yet, AltsStand, ArcsLead}
use Rattle.rows.specs.Memory.{row_limit, Memory, ListedFrom}
use Rattle.rows.specs.Laid.{spot_unit, mapped, arc_word, home_of_arc, pair_word, pair_home, ArcsNumbered, LowArcs, LowAtoms}
use Rattle.rows.specs.Laid.{row_before, memory_plan, LaidIn}
use Rattle.rows.specs.Held.{alt_group, alt_spot, befores, Held}
use Rattle.rows.proofs.Given.{given_rows}
use Rattle.rows.proofs.Lies.{whole_lies}
use Rattle.rows.proofs.Bounds.{spelt_weight, whole_few}
use Rattle.rows.proofs.Fits.{whole_fits, arcs_low, atoms_low}
use Rattle.rows.proofs.Numbered.{arcs_count, arcs_numbered, bears_count, shares_count}

pub mapped_long : {A : Type 0} (f : A → ℕ) (l : List A) → length (mapped f l) ≡ length l
mapped_long f [] = refl
mapped_long f (x ∷ l) = let e = mapped_long f l in omega (arith, e)

pub befores_long : (f : ℕ → ℕ) (k : ℕ) (A : List Alt) → length (befores f k A) ≡ length A
befores_long f k [] = refl
befores_long f k (a ∷ A) = let e = befores_long (renewed f a.owner k) (suc k) A in omega (arith, e)

row_parent : (x p f : ℕ) → x ≡ p + spot_unit * f → p < spot_unit → x % spot_unit ≡ p
row_parent x p f e l = omega arith

row_feature : (x p f : ℕ) → x ≡ p + spot_unit * f → p < spot_unit → x / spot_unit ≡ f
row_feature x p f e l = omega arith

module _ (M : Memory) (N : ℕ) (few : N < spot_unit) where
  leads_of : (i : ℕ) (l : List (ℕ × Edge)) → i + length l ≤ N → ArcsNumbered (suc i) l → ListedFrom (M 0) i (mapped arc_word l) →
      ArcsLead (memory_plan M) N l
  leads_of i [] b n p = tt
  leads_of i (e ∷ l) b n p =
      let end = n.0 in
      let low = n.1 in
      let at : M 0 (row_before e.1.2) ≡ arc_word e = ap (λ (s : ℕ). M 0 (row_before s)) end ∙ p.0 in
      let small : e.1.0 < spot_unit = omega (arith, low, b, few) in (
        (
          omega (arith, end, low),
          omega (arith, end, b),
          row_parent (M 0 (row_before e.1.2)) e.1.0 e.1.1 at small,
          row_feature (M 0 (row_before e.1.2)) e.1.0 e.1.1 at small,
        ),
        leads_of (suc i) l (omega arith) n.2 p.1,
      )

  parents_low : (i : ℕ) (l : List (ℕ × Edge)) → i + length l ≤ N → ArcsNumbered (suc i) l → ListedFrom (M 0) i (mapped arc_word l) →
      (j : ℕ) → i ≤ j → j < i + length l → M 0 j % spot_unit ≤ j
  parents_low i [] b n p j u v = absurd (omega arith)
  parents_low i (e ∷ l) b n p j u v = go (eqb i j) refl (λ k. parents_low (suc i) l (omega arith) n.2 p.1 j k (omega arith)) where
    go : (t : Bool) → eqb i j ≡ t → (suc i ≤ j → M 0 j % spot_unit ≤ j) → M 0 j % spot_unit ≤ j
    go true q f =
        let z = eqb-true i j q in
        let low = n.1 in
        let r = row_parent (M 0 i) e.1.0 e.1.1 p.0 (omega (arith, low, b, few)) in
        subst (λ (k : ℕ). M 0 k % spot_unit ≤ k) z (omega (arith, r, low))
    go false q f = let d = eqb-false i j q in f (omega arith)

stands_of : (M : Memory) (f : ℕ → ℕ) (k : ℕ) (A : List Alt) → ListedFrom (M 6) k (mapped alt_group A) →
    ListedFrom (M 9) k (mapped alt_spot A) →
    ListedFrom (M 7) k (befores f k A) → AltsStand (memory_plan M) f k A
stands_of M f k [] p q r = tt
stands_of M f k (a ∷ A) p q r = (p.0, q.0, r.0, stands_of M (renewed f a.owner k) (suc k) A p.1 q.1 r.1)

-- a formula's text is laid out
pub held_laid : (t : List ℕ) (σ : List Sign) (φ : Formula) (M : Memory) → length t ≤ formula_limit → Spelt σ t → Whole σ φ →
    Held M (given 1 1 0 0 0 φ) (suc (width φ)) → LaidIn M φ
held_laid t σ φ M lt spelt tree h =
    let x = given 1 1 0 0 0 φ in
    let weight = spelt_weight spelt in
    let few = whole_few tree in
    let few-n = few.0.spots in
    let few-a = few.0.atoms in
    let few-t = few.0.ties in
    let few-k = few.1 in
    let n = arcs_count 1 1 0 0 0 φ in
    let a = bears_count 1 1 0 0 0 φ in
    let b = shares_count 1 1 0 0 0 φ in
    let N : count φ < spot_unit = omega (arith, lt, weight, few-n) in
    let num = arcs_numbered 1 1 0 0 0 φ (omega arith) in
    let rows = given_rows 1 1 0 0 0 φ in
    let fits = whole_fits spelt tree in
    record {
      few_spots = N;
      few_alts = omega (arith, lt, weight, few-k);
      arcs = subst (λ (y : Out). ListedFrom (M 0) 0 (mapped arc_word y.arcs)) rows h.arcs;
      homes = subst (λ (y : Out). ListedFrom (M 1) 0 (mapped home_of_arc y.arcs)) rows h.homes;
      atoms = subst (λ (y : Out). ListedFrom (M 2) 0 (mapped pair_word y.bears)) rows h.atoms;
      atom_homes = subst (λ (y : Out). ListedFrom (M 3) 0 (mapped pair_home y.bears)) rows h.atom_homes;
      ties = subst (λ (y : Out). ListedFrom (M 4) 0 (mapped pair_word y.shares)) rows h.ties;
      tie_homes = subst (λ (y : Out). ListedFrom (M 5) 0 (mapped pair_home y.shares)) rows h.tie_homes;
      numbered = subst (λ (y : Out). ArcsNumbered 1 y.arcs) rows num;
      features = subst (λ (y : Out). LowArcs y.arcs) rows (arcs_low 1 1 0 0 0 φ fits);
      low_atoms = subst (λ (y : Out). LowAtoms y.bears) rows (atoms_low 1 1 0 0 0 φ fits);
      few_atoms = subst (λ (y : Out). length y.bears ≤ row_limit) rows (omega (arith, a, few-a, lt, weight));
      few_ties = subst (λ (y : Out). length y.shares ≤ row_limit) rows (omega (arith, b, few-t, lt, weight));
      lies = whole_lies (memory_plan M) (count φ)
          (λ i l. parents_low M (count φ) N 0 x.arcs (omega (arith, n)) num h.arcs i (omega arith) (omega (arith, l, n)))
          φ h.root
          (leads_of M (count φ) N 0 x.arcs (omega (arith, n)) num h.arcs)
          (stands_of M none_yet 1 x.alts h.groups h.spots h.before)
          (λ j l. h.last j (omega (arith, l)));
    }
