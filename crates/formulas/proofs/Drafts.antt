-- A draft says of a structure what its formula says.
-- Assumes nothing.
use mathlib.Core.Path.{◌≡◌, refl, subst}
use mathlib.Core.Logic.{◌⊎◌, inl, inr, ◌↔◌}
use mathlib.Core.List.{List, [], ◌∷◌, ◌++◌}
use Prim.Native.Nat.{ℕ}
use native.Mathlib.Omega.{arith}
use Rattle.theory.specs.Structure.{Structure}
use Rattle.formulas.specs.Formula.{Path, Formula, nil, top, atom, at, same, all, any, Formulas, one, ◌also◌, Leads, LeadAll, HoldsAt}
use Rattle.formulas.specs.Formula.{HoldsAll, HoldsAny, Satisfied}
use Rattle.formulas.specs.Draft.{Draft, draft, Splits, done, ◌beside◌, Sides, out, ◌versus◌, ◌then◌, shares, facts, facts_all, splits}
use Rattle.formulas.specs.Draft.{splits_all, sides, drafted}
use Rattle.formulas.proofs.Walks.{leads_on, leads_back, leads_one}
use Rattle.formulas.proofs.Facts.{FactsHold, hold_both, hold_each}

-- what a draft says
module _ (S : Structure) where
  abbrev mutual
    pub SatDraft : Draft → Type 0
    SatDraft (draft F ds) = FactsHold S F × SatSplits ds

    pub SatSplits : Splits → Type 0
    SatSplits done = Unit {0}
    SatSplits (a beside ds) = SatSides a × SatSplits ds

    pub SatSides : Sides → Type 0
    SatSides out = ⊥
    SatSides (d versus a) = SatDraft d ⊎ SatSides a

  splits_both : (ds es : Splits) → SatSplits ds → SatSplits es → SatSplits (ds then es)
  splits_both done es p q = q
  splits_both (a beside ds) es p q = (p.0, splits_both ds es p.1 q)

  splits_each : (ds es : Splits) → SatSplits (ds then es) → SatSplits ds × SatSplits es
  splits_each done es p = (tt, p)
  splits_each (a beside ds) es p = let (x, y) = splits_each ds es p.1 in ((p.0, x), y)

  abbrev C : Type 0
  C = S.Carrier

  -- a path from the end of π, seen from there
  from_end : (π p : Path) (c d : C) → Leads S S.start π c → Leads S S.start (π ++ p) d → Leads S c p d
  from_end π p c d l m = let (e, a, b) = leads_back S S.start π p d m in
      subst (λ (z : C). Leads S z p d) (leads_one S S.start π e c a l) b

  shared_to : (π p : Path) (ps : List Path) (c d : C) → Leads S S.start π c → Leads S S.start (π ++ p) d →
      FactsHold S (shares π (π ++ p) ps) → LeadAll S c ps d
  shared_to π p [] c d l m h = tt
  shared_to π p (q ∷ ps) c d l m ((e, a, b), h) = (
    from_end π q c d l (subst (λ (z : C). Leads S S.start (π ++ q) z) (leads_one S S.start (π ++ p) e d a m) b),
    shared_to π p ps c d l m h,
  )

  shared_from : (π p : Path) (ps : List Path) (c d : C) → Leads S S.start π c → Leads S S.start (π ++ p) d → LeadAll S c ps d →
      FactsHold S (shares π (π ++ p) ps)
  shared_from π p [] c d l m h = tt
  shared_from π p (q ∷ ps) c d l m h = ((d, m, leads_on S S.start π q c d l h.0), shared_from π p ps c d l m h.1)

  -- from the draft to the formula, which speaks of the end c of π
  mutual
    means_to : (π : Path) (φ : Formula) (c : C) → Leads S S.start π c → FactsHold S (facts π φ) → SatSplits (splits π φ) → HoldsAt S c φ
    means_to π nil c l p q = tt
    means_to π top c l ((d, a, h), ((e, b, k), p)) q = let z : ◌≡◌ {A = ℕ} 0 1 =
        S.one_atom e 0 1 (subst (λ (z : C). S.Has z 0) (leads_one S S.start π d e a b) h) k in absurd (omega arith)
    means_to π (atom a) c l ((d, m, h), p) q = subst (λ (z : C). S.Has z a) (leads_one S S.start π d c m l) h
    means_to π (at f φ) c l ((d, m), p) q =
        let (e, g, r) = from_end π (f ∷ []) c d l m in
        (d, subst (λ (z : C). S.Goes c f z) r g, means_to (π ++ f ∷ []) φ d m p q)
    means_to π (same p ps) c l ((d, m), h) q = (d, from_end π p c d l m, shared_to π p ps c d l m h)
    means_to π (all φ φs) c l p q =
        let (a, b) = hold_each S (facts π φ) (facts_all π φs) p in
        let (u, v) = splits_each (splits π φ) (splits_all π φs) q in
        (means_to π φ c l a u, means_all π φs c l b v)
    means_to π (any φ φs) c l p (inl (a, u), q) = inl (means_to π φ c l a.1 u)
    means_to π (any φ φs) c l p (inr s, q) = inr (means_any π φs c l s)

    means_all : (π : Path) (φs : Formulas) (c : C) → Leads S S.start π c → FactsHold S (facts_all π φs) → SatSplits (splits_all π φs) →
        HoldsAll S c φs
    means_all π (one φ) c l p q = means_to π φ c l p q
    means_all π (φ also φs) c l p q =
        let (a, b) = hold_each S (facts π φ) (facts_all π φs) p in
        let (u, v) = splits_each (splits π φ) (splits_all π φs) q in
        (means_to π φ c l a u, means_all π φs c l b v)

    means_any : (π : Path) (φs : Formulas) (c : C) → Leads S S.start π c → SatSides (sides π φs) → HoldsAny S c φs
    means_any π (one φ) c l (inl (a, u)) = means_to π φ c l a.1 u
    means_any π (one φ) c l (inr s) = absurd s
    means_any π (φ also φs) c l (inl (a, u)) = inl (means_to π φ c l a.1 u)
    means_any π (φ also φs) c l (inr s) = inr (means_any π φs c l s)

  -- and back
  mutual
    means_from : (π : Path) (φ : Formula) (c : C) → Leads S S.start π c → HoldsAt S c φ → FactsHold S (facts π φ)
        × SatSplits (splits π φ)
    means_from π nil c l h = (tt, tt)
    means_from π top c l h = absurd h
    means_from π (atom a) c l h = (((c, l, h), tt), tt)
    means_from π (at f φ) c l (d, g, h) =
        let m : Leads S S.start (π ++ f ∷ []) d = leads_on S S.start π (f ∷ []) c d l (d, g, refl) in
        let (p, q) = means_from (π ++ f ∷ []) φ d m h in
        (((d, m), p), q)
    means_from π (same p ps) c l (d, m, h) = let k : Leads S S.start (π ++ p) d = leads_on S S.start π p c d l m in
        (((d, k), shared_from π p ps c d l k h), tt)
    means_from π (all φ φs) c l (h, k) =
        let (a, u) = means_from π φ c l h in
        let (b, v) = means_all_from π φs c l k in
        (hold_both S (facts π φ) (facts_all π φs) a b, splits_both (splits π φ) (splits_all π φs) u v)
    means_from π (any φ φs) c l (inl h) = let (a, u) = means_from π φ c l h in (tt, (inl (((c, l), a), u), tt))
    means_from π (any φ φs) c l (inr h) = (tt, (inr (means_any_from π φs c l h), tt))

    means_all_from : (π : Path) (φs : Formulas) (c : C) → Leads S S.start π c → HoldsAll S c φs →
        FactsHold S (facts_all π φs) × SatSplits (splits_all π φs)
    means_all_from π (one φ) c l h = means_from π φ c l h
    means_all_from π (φ also φs) c l (h, k) =
        let (a, u) = means_from π φ c l h in
        let (b, v) = means_all_from π φs c l k in
        (hold_both S (facts π φ) (facts_all π φs) a b, splits_both (splits π φ) (splits_all π φs) u v)

    means_any_from : (π : Path) (φs : Formulas) (c : C) → Leads S S.start π c → HoldsAny S c φs → SatSides (sides π φs)
    means_any_from π (one φ) c l h = let (a, u) = means_from π φ c l h in inl (((c, l), a), u)
    means_any_from π (φ also φs) c l (inl h) = let (a, u) = means_from π φ c l h in inl (((c, l), a), u)
    means_any_from π (φ also φs) c l (inr h) = inr (means_any_from π φs c l h)

  pub draft_means : (φ : Formula) → SatDraft (drafted φ) ↔ Satisfied S φ
  draft_means φ = (λ p. means_to [] φ S.start refl p.0 p.1, λ h. means_from [] φ S.start refl h)
