-- When all that is pushed is done, the classes are the least equivalence and there is no clash. Assumes nothing.
use mathlib.Core.Path.{◌≡◌, refl, sym, ap, ◌∙◌, subst}
use mathlib.Core.List.Memᴰ
use mathlib.Core.List.{List, [], Memᴰ}
use Prim.Native.Nat.{ℕ, ◌≤◌}
use native.Mathlib.Omega.{arith}
use lib.ListN.{length, get_or}
use Rattle.area.specs.Map.{SIZE}
use Rattle.forest.specs.Labels.{Eq}
use Rattle.forest.specs.Held.{AtomCode}
use Rattle.forest.specs.State.{Pile, Done, Equal, ClashIn, First, State, Full}
use Rattle.forest.proofs.Fuse.{low, top}
use Rattle.forest.proofs.Links.{first_det, first_mem}
use Rattle.classes.proofs.Visits.{near_none}

module _ (G : Pile) (H : Done) (F T : List ℕ) (n k s : ℕ) (w : List ℕ) (hn : n ≤ 1024) (hw : SIZE ≤ length w) (u : State G H F T n k s [] w)
    (f : Full G H) where
  pub complete : {x y : ℕ} → Equal G F T x y → Eq u.M x y
  complete {x} {y} (Equal.root a b) = sym (u.held f.root x (f.roots x a)).1 ∙ (u.held f.root y (f.roots y b)).1
  complete (Equal.self x) = refl
  complete (Equal.back r) = sym (complete r)
  complete (Equal.on r t) = complete r ∙ complete t
  complete (Equal.along {p} {q} a b e r) =
      let o = u.cover p (f.arcs p a) in
      let o' = u.cover q (f.arcs q b) in
      let c : Eq u.M (G.S p) (G.S q) = complete r in
      let d : o.0 ≡ o'.0 = first_det F (get_or F q 0) (get_or u.C (get_or u.M (G.S q) 0) []) o.0 o'.0
      (subst (λ (z : ℕ). First F z (get_or u.C (get_or u.M (G.S q) 0) []) o.0) e
      (subst (λ (z : ℕ). First F (get_or F p 0) (get_or u.C z []) o.0) c o.1.0)) o'.1.0 in
      sym (near_none F T u.M w o.1.1).1 ∙ ap (λ (z : ℕ). get_or u.M (get_or T z 0) 0) d ∙ (near_none F T u.M w o'.1.1).1

  pub agree : ClashIn G F T → ⊥
  agree (ClashIn.atoms {x} {y} a b r nx ny ne) =
      ne (sym (u.met x (f.atoms x a nx) nx) ∙ ap (λ (z : ℕ). get_or w z 0) (complete r) ∙ u.met y (f.atoms y b ny) ny)
  agree (ClashIn.mixed {x} {q} a nx b r) =
      let e : Eq u.M x (G.S q) = complete r in
      let m = f.atoms x a nx in
      let hx = (u.nodes x m).0 in
      let o = u.cover q (f.arcs q b) in
      let g : AtomCode (get_or w (get_or u.M x 0) 0) = subst AtomCode (sym (u.met x m nx)) (u.atoms x a nx) in
      let nil = (u.bare (get_or u.M x 0) (low G H F T n k s [] w (omega arith) hw u x hx)
      (top G H F T n k s [] w (omega arith) hw u x hx) g).0 in
      Memᴰ.not-nil (subst (Memᴰ o.0) nil
      (subst (λ (z : ℕ). Memᴰ o.0 (get_or u.C z [])) (sym e)
      (first_mem F (get_or F q 0) (get_or u.C (get_or u.M (G.S q) 0) []) o.0 o.1.0)))
