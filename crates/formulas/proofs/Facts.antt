-- A structure satisfies the graph of a part when its facts hold and it satisfies what is folded into it.
-- Assumes nothing.
use mathlib.Core.Path.{◌≡◌, refl, sym, ◌∙◌, subst}
use mathlib.Core.Logic.{◌⊎◌, inl, inr, ◌↔◌}
use mathlib.Core.List.{List, [], ◌∷◌, ◌++◌}
use Prim.Native.Nat.{ℕ}
use native.Mathlib.Omega.{arith}
use lib.ListN.{length}
use Rattle.theory.specs.Net.{atom, arcs, Graph, Net, graph, ◌⊕◌, beside}
use Rattle.theory.specs.Structure.{Structure, Into, Satisfies, SatisfiesAll}
use Rattle.theory.proofs.Meaning.{all_beside, beside_all}
use Rattle.formulas.specs.Formula.{Path, Leads}
use Rattle.formulas.specs.Part.{Fact, reach, bears, share, chain, bare, fact_graphs, EndsShared, part, seeds, PartClashes, Definite}
use Rattle.formulas.proofs.Chains.{first, last}
use Rattle.formulas.proofs.Walks.{chain_into, chain_end, into_leads, chain_atom}
use Rattle.formulas.proofs.Joining.{Keeps, clash_to, joined_down, joined_keeps, joined_up}

-- what a fact says of a structure
abbrev pub FactHolds : Structure → Fact → Type 0
FactHolds S (reach p) = (d : S.Carrier) × Leads S S.start p d
FactHolds S (bears p a) = (d : S.Carrier) × Leads S S.start p d × S.Has d a
FactHolds S (share p q) = (d : S.Carrier) × Leads S S.start p d × Leads S S.start q d

abbrev pub FactsHold : Structure → List Fact → Type 0
FactsHold S [] = Unit {0}
FactsHold S (f ∷ F) = FactHolds S f × FactsHold S F

pub hold_both : (S : Structure) (F H : List Fact) → FactsHold S F → FactsHold S H → FactsHold S (F ++ H)
hold_both S [] H p q = q
hold_both S (f ∷ F) H p q = (p.0, hold_both S F H p.1 q)

pub hold_each : (S : Structure) (F H : List Fact) → FactsHold S (F ++ H) → FactsHold S F × FactsHold S H
hold_each S [] H p = (tt, p)
hold_each S (f ∷ F) H p = let (a, b) = hold_each S F H p.1 in ((p.0, a), b)

-- two nets side by side
module _ (S : Structure) (N M : Net) where
  abbrev both_to : Into N S → Into M S → N.Spot ⊎ M.Spot → S.Carrier
  both_to h k (inl x) = h.to x
  both_to h k (inr y) = k.to y

  both_root : (h : Into N S) (k : Into M S) (x : N.Spot ⊎ M.Spot) → (N ⊕ M).Root x → both_to h k x ≡ S.start
  both_root h k (inl x) r = h.root_to x r
  both_root h k (inr y) r = k.root_to y r

  both_atom : (h : Into N S) (k : Into M S) (x : N.Spot ⊎ M.Spot) (a : ℕ) → (N ⊕ M).Atom x a → S.Has (both_to h k x) a
  both_atom h k (inl x) a r = h.atom_to x a r
  both_atom h k (inr y) a r = k.atom_to y a r

  both_arc : (h : Into N S) (k : Into M S) (x : N.Spot ⊎ M.Spot) (f : ℕ) (y : N.Spot ⊎ M.Spot) → (N ⊕ M).Arc x f y →
      S.Goes (both_to h k x) f (both_to h k y)
  both_arc h k (inl x) f (inl y) r = h.arc_to x f y r
  both_arc h k (inl x) f (inr y) r = absurd r
  both_arc h k (inr x) f (inl y) r = absurd r
  both_arc h k (inr x) f (inr y) r = k.arc_to x f y r

  abbrev both : Into N S → Into M S → Into (N ⊕ M) S
  both h k = record { to = both_to h k; root_to = both_root h k; atom_to = both_atom h k; arc_to = both_arc h k }

  abbrev left : Into (N ⊕ M) S → Into N S
  left h = record {
    to = λ x. h.to (inl x);
    root_to = λ x. h.root_to (inl x);
    atom_to = λ x. h.atom_to (inl x);
    arc_to =
        λ x f y. h.arc_to (inl x) f (inl y);
  }

  abbrev right : Into (N ⊕ M) S → Into M S
  right h = record {
    to = λ x. h.to (inr x);
    root_to = λ x. h.root_to (inr x);
    atom_to = λ x. h.atom_to (inr x);
    arc_to =
        λ x f y. h.arc_to (inr x) f (inr y);
  }

module _ (S : Structure) where
  no_atom : (d : S.Carrier) (a : ℕ) → arcs [] ≡ atom a → S.Has d a
  no_atom d a e = let z : ◌≡◌ {A = ℕ} 0 1 = cc in absurd (omega arith)

  bare_into : (p : Path) (d : S.Carrier) → Leads S S.start p d → Into (graph (bare p)) S
  bare_into p d l = chain_into S p (arcs []) refl d l (no_atom d)

  bare_end : (p : Path) (d : S.Carrier) (l : Leads S S.start p d) (x : (graph (bare p)).Spot) → x.0 ≡ length p →
      (bare_into p d l).to x ≡ d
  unfolding bare_into
  bare_end p d l x e = chain_end S p (arcs []) refl d l (no_atom d) x.0 e

  atom_into : (p : Path) (a : ℕ) (d : S.Carrier) → Leads S S.start p d → S.Has d a → Into (graph (chain 0 p (atom a))) S
  atom_into p a d l h = chain_into S p (atom a) refl d l (λ b e. let z : a ≡ b = cc in subst (λ (n : ℕ). S.Has d n) z h)

  -- the graphs of the facts, and their ends
  abbrev Met : (F : List Fact) (gs : List Graph) → Into (beside (fact_graphs F gs)) S → Type 0
  Met F gs h = (x y : (beside (fact_graphs F gs)).Spot) → EndsShared F gs x y → h.to x ≡ h.to y

  facts_into : (F : List Fact) (gs : List Graph) → FactsHold S F → SatisfiesAll S gs → (h : Into (beside (fact_graphs F gs)) S) × Met F gs h
  facts_into [] gs p s = (all_beside S gs s, λ x y e. absurd e)
  facts_into (reach p ∷ F) gs (f, r) s = let (h, m) = facts_into F gs r s in
      (both S (graph (bare p)) (beside (fact_graphs F gs)) (bare_into p f.0 f.1) h, meet h m)
    where
      meet : (h : Into (beside (fact_graphs F gs)) S) → Met F gs h →
          Met (reach p ∷ F) gs (both S (graph (bare p)) (beside (fact_graphs F gs)) (bare_into p f.0 f.1) h)
      meet h m (inl x) y e = absurd e
      meet h m (inr x) (inl y) e = absurd e
      meet h m (inr x) (inr y) e = m x y e
  facts_into (bears p a ∷ F) gs (f, r) s = let (h, m) = facts_into F gs r s in
      (both S (graph (chain 0 p (atom a))) (beside (fact_graphs F gs)) (atom_into p a f.0 f.1 f.2) h, meet h m)
    where
      meet : (h : Into (beside (fact_graphs F gs)) S) → Met F gs h →
          Met (bears p a ∷ F) gs (both S (graph (chain 0 p (atom a))) (beside (fact_graphs F gs)) (atom_into p a f.0 f.1 f.2) h)
      meet h m (inl x) y e = absurd e
      meet h m (inr x) (inl y) e = absurd e
      meet h m (inr x) (inr y) e = m x y e
  facts_into (share p q ∷ F) gs (f, r) s = let (h, m) = facts_into F gs r s in (
    both S (graph (bare p)) (beside (bare q ∷ fact_graphs F gs)) (bare_into p f.0 f.1)
        (both S (graph (bare q)) (beside (fact_graphs F gs)) (bare_into q f.0 f.2) h),
    meet h m,
  )
    where
      meet : (h : Into (beside (fact_graphs F gs)) S) → Met F gs h →
          Met (share p q ∷ F) gs
          (both S (graph (bare p)) (beside (bare q ∷ fact_graphs F gs)) (bare_into p f.0 f.1)
          (both S (graph (bare q)) (beside (fact_graphs F gs)) (bare_into q f.0 f.2) h))
      meet h m (inl x) (inl y) e = absurd e
      meet h m (inl x) (inr (inl y)) e = bare_end p f.0 f.1 x e.0 ∙ sym (bare_end q f.0 f.2 y e.1)
      meet h m (inl x) (inr (inr y)) e = absurd e
      meet h m (inr (inl x)) y e = absurd e
      meet h m (inr (inr x)) (inl y) e = absurd e
      meet h m (inr (inr x)) (inr (inl y)) e = absurd e
      meet h m (inr (inr x)) (inr (inr y)) e = m x y e

  -- and the other way round
  into_facts : (F : List Fact) (gs : List Graph) (h : Into (beside (fact_graphs F gs)) S) → Met F gs h → FactsHold S F × SatisfiesAll S gs
  into_facts [] gs h m = (tt, beside_all S gs h)
  into_facts (reach p ∷ F) gs h m =
      let N = graph (bare p) in
      let M = beside (fact_graphs F gs) in
      let (r, s) = into_facts F gs (right S N M h) (λ x y e. m (inr x) (inr y) e) in
      ((((left S N M h).to (length p, last p (arcs [])), into_leads S p (arcs []) refl (left S N M h)), r), s)
  into_facts (bears p a ∷ F) gs h m =
      let N = graph (chain 0 p (atom a)) in
      let M = beside (fact_graphs F gs) in
      let (r, s) = into_facts F gs (right S N M h) (λ x y e. m (inr x) (inr y) e) in (
        (
          (
            (left S N M h).to (length p, last p (atom a)),
            into_leads S p (atom a) refl (left S N M h),
            (left S N M h).atom_to (length p, last p (atom a)) a (chain_atom S 0 p (atom a)),
          ),
          r,
        ),
        s,
      )
  into_facts (share p q ∷ F) gs h m =
      let N = graph (bare p) in
      let K = graph (bare q) in
      let M = beside (fact_graphs F gs) in
      let k : Into (K ⊕ M) S = right S N (K ⊕ M) h in
      let (r, s) = into_facts F gs (right S K M k) (λ x y e. m (inr (inr x)) (inr (inr y)) e) in
      let x : N.Spot = (length p, last p (arcs [])) in
      let y : K.Spot = (length q, last q (arcs [])) in
      let e : h.to (inl x) ≡ h.to (inr (inl y)) = m (inl x) (inr (inl y)) (refl, refl) in (
        (
          (
            h.to (inl x),
            into_leads S p (arcs []) refl (left S N (K ⊕ M) h),
            subst (λ (c : S.Carrier). Leads S S.start q c) (sym e) (into_leads S q (arcs []) refl (left S K M k)),
          ),
          r,
        ),
        s,
      )

  module _ (F : List Fact) (gs : List Graph) where
    abbrev N : Net
    N = part F gs

    part_into : FactsHold S F → SatisfiesAll S gs → (h : Into N S) × Keeps N (seeds F gs) S h
    part_into p s = let (k, m) = facts_into F gs p s in
        (both S (graph (bare [])) (beside (fact_graphs F gs)) (bare_into [] S.start refl) k, keep k m)
      where
        keep : (k : Into (beside (fact_graphs F gs)) S) → Met F gs k →
            Keeps N (seeds F gs) S (both S (graph (bare [])) (beside (fact_graphs F gs)) (bare_into [] S.start refl) k)
        keep k m x y (inl r) =
            let h : Into N S = both S (graph (bare [])) (beside (fact_graphs F gs)) (bare_into [] S.start refl) k in
            h.root_to x r.0 ∙ sym (h.root_to y r.1)
        keep k m (inl x) y (inr e) = absurd e
        keep k m (inr x) (inl y) (inr e) = absurd e
        keep k m (inr x) (inr y) (inr e) = m x y e

    into_part : (h : Into N S) → Keeps N (seeds F gs) S h → FactsHold S F × SatisfiesAll S gs
    into_part h k = into_facts F gs (right S (graph (bare [])) (beside (fact_graphs F gs)) h) (λ x y e. k (inr x) (inr y) (inr e))

    -- what a part says
    pub part_says : ((h : Into N S) × Keeps N (seeds F gs) S h) ↔ (FactsHold S F × SatisfiesAll S gs)
    part_says = (λ (h, k). into_part h k, λ p. part_into p.0 p.1)

    pub definite_sat : (G : Graph) → Definite F gs G → Satisfies S G ↔ (FactsHold S F × SatisfiesAll S gs)
    definite_sat G j = (
      λ h. into_part (joined_down N (seeds F gs) S G j h) (joined_keeps N (seeds F gs) S G j h),
      λ p. let (h, k) = part_into p.0 p.1 in joined_up N (seeds F gs) S G j h k (first F gs, refl),
    )

    pub clashes_sat : PartClashes F gs → FactsHold S F → SatisfiesAll S gs → ⊥
    clashes_sat c p s = let (h, k) = part_into p s in clash_to N (seeds F gs) S h k c
