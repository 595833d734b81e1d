-- Laws of the graph of an alternative, whose words come before the number of its disjunctions.
-- Assumes nothing.
use Prim.Native.Nat.{ℕ, ◌≤◌}
use native.Mathlib.Omega.{arith}
use mathlib.Core.Path.{◌≡◌, refl, subst}
use mathlib.Core.Logic.{inl, inr}
use mathlib.Core.Option.{Option, none, some}
use mathlib.Core.List.{List, [], ◌∷◌}
use lib.ListN.{length, take}
use Rattle.theory.specs.Net.{Graph}
use Rattle.layout.specs.Standing.{graph_words}
use Rattle.folding.specs.Buffer.{PutsBefore}
use Rattle.parting.specs.Parted.{Drawn_as}
use Rattle.folding.specs.Settled.{ClosedBy}
use Rattle.std.specs.Prelude.{Result, Ok, Some}
use Rattle.sheets.specs.declared.drawing.Undrawn.{Undrawn}
use Rattle.layout.proofs.Standing.{stands_within, stands_taken}
use Rattle.folding.proofs.Ending.{puts_on}

pub drawn_fits : (o : Option Graph) (r : Result ℕ Undrawn) (out : List ℕ) (n : ℕ) → Drawn_as o r out → r ≡ Ok n → n ≤ length out
drawn_fits none r out n p e = let z : ◌≡◌ {A = ℕ} 0 1 = cc in absurd (omega arith)
drawn_fits (some g) r out n (inl (l, f)) e = let z : ◌≡◌ {A = ℕ} 0 1 = cc in absurd (omega arith)
drawn_fits (some g) r out n (inr (i, s)) e =
    let size : n ≡ length (graph_words g) = cc in
    let fits = stands_within out (graph_words g) 0 (length (graph_words g)) (omega arith) s in
    omega arith

module _ (b : List ℕ) (len count : ℕ) where
  pub closed_words : (o : Option Graph) (r : Result ℕ Undrawn) (out : List ℕ) (n : ℕ) → Drawn_as o r out → r ≡ Ok n →
      (c d : List ℕ) (tail whole : ℕ) → PutsBefore b len (count ∷ []) c tail → PutsBefore c tail (take n out) d whole →
      ClosedBy b d len count o (Some (record { count = count; inner = len; whole = whole }))
  closed_words none r out n p e c d tail whole u v = let z : ◌≡◌ {A = ℕ} 0 1 = cc in absurd (omega arith)
  closed_words (some g) r out n (inl (l, f)) e c d tail whole u v = let z : ◌≡◌ {A = ℕ} 0 1 = cc in absurd (omega arith)
  closed_words (some g) r out n (inr (i, s)) e c d tail whole u v =
      let size : n ≡ length (graph_words g) = cc in
      let taken : take n out ≡ graph_words g = rw size (stands_taken out (graph_words g) 0 (length (graph_words g)) s) in (
        whole,
        refl,
        puts_on b c d len tail whole (count ∷ []) (graph_words g) u (subst (λ (z : List ℕ). PutsBefore c tail z d whole) taken
            v),
      )
