-- What is left of a draft says of a structure what the draft says; so a formula's description is satisfied by the formula's structures.
-- Assumes nothing.
use mathlib.Core.Path.{◌≡◌, subst}
use mathlib.Core.Logic.{inl, inr, ◌↔◌}
use mathlib.Core.Option.{Option, none, some}
use mathlib.Core.List.{List, ◌∷◌}
use Rattle.theory.specs.Net.{Graph}
use Rattle.theory.specs.Structure.{Structure, SatisfiesAll}
use Rattle.theory.specs.Satisfaction.{Sat, SatEach, SatSome}
use Rattle.theory.specs.Descr.{Desc, desc, Disjs, end, ◌and◌, Alts, fail, ◌or◌, ◌then◌}
use Rattle.theory.specs.Modes.{Round, after}
use Rattle.theory.proofs.Instance.{AllCanonical}
use Rattle.theory.specs.Canonical.{Can, CanAll, CanAny}
use Rattle.descriptions.proofs.Mean.{can_then}
use Rattle.theory.proofs.Laws.{laws}
use Rattle.formulas.specs.Formula.{Formula, Satisfied}
use Rattle.formulas.specs.Part.{Fact, part_graph}
use Rattle.formulas.specs.Draft.{Draft, draft, Splits, done, ◌beside◌, Sides, out, ◌versus◌, drafted}
use Rattle.formulas.specs.Describe.{with_graph, kept_before, settle_draft, settle_all, left_of, describe}
use Rattle.formulas.proofs.Definite.{Answer, is_definite, is_clash, definite_answers}
use Rattle.formulas.proofs.Facts.{definite_sat, clashes_sat}
use Rattle.formulas.proofs.Drafts.{SatDraft, SatSplits, SatSides, draft_means}

module _ (S : Structure) where
  each_both : (ds es : Disjs) → SatEach S ds → SatEach S es → SatEach S (ds then es)
  each_both end es p q = q
  each_both (a and ds) es p q = (p.0, each_both ds es p.1 q)

  both_each : (ds es : Disjs) → SatEach S (ds then es) → SatEach S ds × SatEach S es
  both_each end es p = (tt, p)
  both_each (a and ds) es p = let (x, y) = both_each ds es p.1 in ((p.0, x), y)

  -- what a round says: the graphs folded, and the disjunctions left
  abbrev SatRound : Round → Type 0
  SatRound r = SatisfiesAll S r.folded × SatEach S r.left

  abbrev CanRound : Round → Type 0
  CanRound r = AllCanonical r.folded × CanAll r.left

  -- one disjunction more, a being left of it
  abbrev After : Alts → Round → Option Round → Type 0
  After a r none = SatSome S a → ⊥
  After a r (some t) = CanRound t × (SatRound t ↔ (SatSome S a × SatRound r))

  after_sat : (a : Alts) (r : Round) → CanAny a → CanRound r → After a r (after a r)
  after_sat fail r p q = λ s. s
  after_sat (desc g ds or fail) r p q = (
    ((p.0.0, q.0), can_then laws ds r.left p.0.1 q.1),
    (λ s. let (x, y) = both_each ds r.left s.1 in (inl (s.0.0, x), (s.0.1, y)), to),
  )
    where
      to : SatSome S (desc g ds or fail) × SatRound r → SatisfiesAll S (g ∷ r.folded) × SatEach S (ds then r.left)
      to (inl s, t) = ((s.0, t.0), each_both ds r.left s.1 t.1)
      to (inr s, t) = absurd s
  after_sat (d or (e or a)) r p q = ((q.0, (p, q.1)), (λ s. (s.1.0, (s.0, s.1.1)), λ s. (s.1.0, (s.0, s.1.1))))

  abbrev Settled : Draft → Option Desc → Type 0
  Settled d none = SatDraft S d → ⊥
  Settled d (some e) = Can e × (Sat S e ↔ SatDraft S d)

  abbrev SettledAll : Splits → Option Round → Type 0
  SettledAll ds none = SatSplits S ds → ⊥
  SettledAll ds (some r) = CanRound r × (SatRound r ↔ SatSplits S ds)

  -- the graph of the definite part with what is folded into it
  graph_sat : (F : List Fact) (ds : Splits) (r : Round) → CanRound r → (SatRound r ↔ SatSplits S ds) →
      Settled (draft F ds) (with_graph r.left (part_graph F r.folded))
  graph_sat F ds r c s = go (part_graph F r.folded) (definite_answers F r.folded c.0)
    where
      go : (o : Option Graph) → Answer F r.folded c.0 o → Settled (draft F ds) (with_graph r.left o)
      go none (is_clash k) = λ p. let q = s.1 p.1 in clashes_sat S F r.folded k p.0 q.0
      go (some g) (is_definite G j) = (
        (j.canonical, c.1),
        (
          λ p. let q = (definite_sat S F r.folded G j).0 p.0 in (q.0, s.0 (q.1, p.1)),
          λ p. let q = s.1 p.1 in
              ((definite_sat S F r.folded G j).1 (p.0, q.0), q.1),
        ),
      )

  all_sat : (a : Sides) (ds : Splits) (b : Alts) (r : Round) → CanAny b → (SatSome S b ↔ SatSides S a) → CanRound r →
      (SatRound r ↔ SatSplits S ds) → SettledAll (a beside ds) (after b r)
  all_sat a ds b r p s q t = go (after b r) (after_sat b r p q)
    where
      go : (o : Option Round) → After b r o → SettledAll (a beside ds) o
      go none k = λ x. k (s.1 x.0)
      go (some u) k = (k.0, (λ x. let y = k.1.0 x in (s.0 y.0, t.0 y.1), λ x. k.1.1 (s.1 x.0, t.1 x.1)))

  before_sat : (d : Draft) (a : Sides) (b : Alts) (o : Option Desc) → Settled d o → CanAny b × (SatSome S b ↔ SatSides S a) →
      CanAny (kept_before o b) × (SatSome S (kept_before o b) ↔ SatSides S (d versus a))
  before_sat d a b none s t = (t.0, (λ x. inr (t.1.0 x), back))
    where
      back : SatSides S (d versus a) → SatSome S b
      back (inl x) = absurd (s x)
      back (inr x) = t.1.1 x
  before_sat d a b (some e) s t = ((s.0, t.0), (to, back))
    where
      to : SatSome S (e or b) → SatSides S (d versus a)
      to (inl x) = inl (s.1.0 x)
      to (inr x) = inr (t.1.0 x)

      back : SatSides S (d versus a) → SatSome S (e or b)
      back (inl x) = inl (s.1.1 x)
      back (inr x) = inr (t.1.1 x)

  mutual
    unfolding settle_draft

    settle_sat : (d : Draft) → Settled d (settle_draft d)
    settle_sat (draft F ds) = go (settle_all ds) (settle_all_sat ds)
      where
        go : (o : Option Round) → SettledAll ds o →
            Settled (draft F ds) (elim o [ none ↦ none | some r ↦ with_graph r.left (part_graph F r.folded) ])
        go none s = λ p. s p.1
        go (some r) s = graph_sat F ds r s.0 s.1

    settle_all_sat : (ds : Splits) → SettledAll ds (settle_all ds)
    settle_all_sat done = ((tt, tt), (λ p. tt, λ p. (tt, tt)))
    settle_all_sat (a beside ds) = go (settle_all ds) (settle_all_sat ds) (left_sat a)
      where
        go : (o : Option Round) → SettledAll ds o → CanAny (left_of a) × (SatSome S (left_of a) ↔ SatSides S a) →
            SettledAll (a beside ds) (elim o [ none ↦ none | some r ↦ after (left_of a) r ])
        go none s t = λ p. s p.1
        go (some r) s t = all_sat a ds (left_of a) r t.0 t.1 s.0 s.1

    left_sat : (a : Sides) → CanAny (left_of a) × (SatSome S (left_of a) ↔ SatSides S a)
    left_sat out = (tt, (λ p. p, λ p. p))
    left_sat (d versus a) = before_sat d a (left_of a) (settle_draft d) (settle_sat d) (left_sat a)

-- "The result must be satisfied by exactly the formula's structures."
pub describe_means : (φ : Formula) (d : Desc) → describe φ ≡ some d → (S : Structure) → Sat S d ↔ Satisfied S φ
describe_means φ d e S =
    let s : Settled S (drafted φ) (some d) = subst (Settled S (drafted φ)) e (settle_sat S (drafted φ)) in
    (λ p. (draft_means S φ).0 (s.1.0 p), λ p. s.1.1 ((draft_means S φ).1 p))

-- and no structure satisfies a formula that is a clash
pub describe_clash : (φ : Formula) → describe φ ≡ none → (S : Structure) → Satisfied S φ → ⊥
describe_clash φ e S p = subst (Settled S (drafted φ)) e (settle_sat S (drafted φ)) ((draft_means S φ).1 p)
