-- Folding facts comes to the same as folding graphs.
-- Assumes nothing.
use mathlib.Core.Path.{◌≡◌, refl, ap}
use mathlib.Core.Logic.{◌↔◌}
use mathlib.Core.Option.{Option, none, some}
use mathlib.Core.List.{List, [], ◌∷◌, ◌++◌}
use Rattle.theory.specs.Net.{Graph}
use Rattle.theory.specs.Structure.{Structure, SatisfiesAll}
use Rattle.theory.specs.Descr.{Desc, Disjs, end, ◌and◌, Alts, ◌or◌, ◌then◌}
use Rattle.theory.specs.Modes.{Round, after}
use Rattle.theory.proofs.Instance.{AllCanonical}
use Rattle.formulas.specs.Part.{Fact, part_graph, Definite}
use Rattle.formulas.specs.Draft.{Draft, draft, Splits, done, ◌beside◌, Sides, out, ◌versus◌}
use Rattle.formulas.specs.Describe.{with_graph, kept_before, settle_draft, settle_all, left_of}
use Rattle.formulas.proofs.Gathering.{Gathered, as_desc, as_alts, gathered_desc, Gain, gained, gather_closed, put_before, gather}
use Rattle.formulas.proofs.Gathering.{gather_all, gather_left}
use Rattle.formulas.proofs.Definite.{definite_iff}
use Rattle.formulas.proofs.Facts.{FactsHold, hold_both, hold_each, definite_sat}
use Rattle.formulas.proofs.Alike.{part_same}

-- a graph and the facts that it is the graph of
abbrev Graphed : Gathered → Type 0
Graphed x = Definite x.own [] x.graph

abbrev AllGraphed : List Gathered → Type 0
AllGraphed [] = Unit {0}
AllGraphed (x ∷ l) = Graphed x × AllGraphed l

data Matches : Option Desc → Option Gathered → Type 1 where
  clash : Matches none none
  match : (x : Gathered) → Graphed x → Matches (some (as_desc x)) (some x)

-- what is folded says what its facts say
record SameGain (r : Round) (g : Gain) : Type 1 where
  rest : r.left ≡ g.left
  canonical : AllCanonical r.folded
  says : (S : Structure) → SatisfiesAll S r.folded ↔ FactsHold S g.facts

data Gains : Option Round → Option Gain → Type 1 where
  clash : Gains none none
  gain : (r : Round) (g : Gain) → SameGain r g → Gains (some r) (some g)

-- the alternatives left
record SameLeft (a : Alts) (l : List Gathered) : Type 1 where
  same : a ≡ as_alts l
  graphed : AllGraphed l

gained_same : (l : List Gathered) (r : Round) (g : Gain) → AllGraphed l → SameGain r g → Gains (after (as_alts l) r) (gained l g)
gained_same [] r g p s = clash
gained_same (x ∷ []) r g p s =
    gain (record { folded = x.graph ∷ r.folded; left = x.rest then r.left })
    (record { facts = x.own ++ g.facts; left = x.rest then g.left })
    (record {
      rest = ap (λ (z : Disjs). x.rest then z) s.rest;
      canonical = (p.0.canonical, s.canonical);
      says = λ S. (
        λ h. hold_both S x.own g.facts ((definite_sat S x.own [] x.graph p.0).0 h.0).0 ((s.says S).0 h.1),
        λ h. let (u, v) = hold_each S x.own g.facts h in ((definite_sat S x.own [] x.graph p.0).1 (u, tt), (s.says S).1 v),
      );
    })
gained_same (x ∷ (y ∷ l)) r g p s =
    gain (record { folded = r.folded; left = as_alts (x ∷ y ∷ l) and r.left })
    (record { facts = g.facts; left = as_alts (x ∷ y ∷ l) and g.left })
    (record { rest = ap (λ (z : Disjs). as_alts (x ∷ y ∷ l) and z) s.rest; canonical = s.canonical; says = s.says })

graph_same : (F : List Fact) (r : Round) (g : Gain) → SameGain r g →
    Matches (with_graph r.left (part_graph F r.folded)) (gather_closed (F ++ g.facts) g.left (part_graph (F ++ g.facts) []))
graph_same F r g s = rw (same, s.rest) (go (part_graph (F ++ g.facts) []) refl)
  where
    same : part_graph F r.folded ≡ part_graph (F ++ g.facts) []
    same = part_same F (F ++ g.facts) r.folded [] s.canonical tt
        (λ S. (
          λ p. (hold_both S F g.facts p.0 ((s.says S).0 p.1), tt),
          λ p. let (u, v) = hold_each S F g.facts p.0 in
              (u, (s.says S).1 v),
        ))

    go : (o : Option Graph) → part_graph (F ++ g.facts) [] ≡ o →
        Matches (with_graph g.left o) (gather_closed (F ++ g.facts) g.left o)
    go none e = clash
    go (some G) e = match (record { own = F ++ g.facts; graph = G; rest = g.left }) ((definite_iff (F ++ g.facts) [] tt G).0 e)

put_same : (o : Option Desc) (x : Option Gathered) (a : Alts) (l : List Gathered) → Matches o x → SameLeft a l →
    SameLeft (kept_before o a) (put_before x l)
put_same none none a l clash p = p
put_same (some d) (some y) a l (match x q) p = record { same = ap (λ (z : Alts). as_desc x or z) p.same; graphed = (q, p.graphed) }
put_same none (some y) a l x6 p = elim x6 [ ]
put_same (some d) none a l x6 p = elim x6 [ ]

mutual
  unfolding settle_draft gather

  gather_same : (d : Draft) → Matches (settle_draft d) (gather d)
  gather_same (draft F ds) = go (settle_all ds) (gather_all ds) (all_same ds)
    where
      go : (o : Option Round) (x : Option Gain) → Gains o x →
          Matches (elim o [ none ↦ none | some r ↦ with_graph r.left (part_graph F r.folded) ])
          (elim x [ none ↦ none | some g ↦ gather_closed (F ++ g.facts) g.left (part_graph (F ++ g.facts) []) ])
      go none none clash = clash
      go (some t) (some h) (gain r g s) = graph_same F r g s
      go none (some h) x4 = elim x4 [ ]
      go (some t) none x5 = elim x5 [ ]

  all_same : (ds : Splits) → Gains (settle_all ds) (gather_all ds)
  all_same done = gain (record { folded = []; left = end }) (record { facts = []; left = end })
      (record { rest = refl; canonical = tt; says = λ S. (λ p. tt, λ p. tt) })
  all_same (a beside ds) = go (settle_all ds) (gather_all ds) (all_same ds) (left_same a)
    where
      go : (o : Option Round) (x : Option Gain) → Gains o x → SameLeft (left_of a) (gather_left a) →
          Gains (elim o [ none ↦ none | some r ↦ after (left_of a) r ]) (elim x [ none ↦ none | some g ↦ gained (gather_left a) g ])
      go none none clash p = clash
      go (some t) (some h) (gain r g s) p = rw p.same (gained_same (gather_left a) r g p.graphed s)
      go none (some h) x6 p = elim x6 [ ]
      go (some t) none x6 p = elim x6 [ ]

  left_same : (a : Sides) → SameLeft (left_of a) (gather_left a)
  left_same out = record { same = refl; graphed = tt }
  left_same (d versus a) = put_same (settle_draft d) (gather d) (left_of a) (gather_left a) (gather_same d) (left_same a)

pub gather_settle : (d : Draft) → settle_draft d ≡ gathered_desc (gather d)
gather_settle d = go (settle_draft d) (gather d) (gather_same d)
  where
    go : (o : Option Desc) (x : Option Gathered) → Matches o x → o ≡ gathered_desc x
    go none none clash = refl
    go (some e) (some y) (match x p) = refl
    go none (some y) x4 = elim x4 [ ]
    go (some e) none x5 = elim x5 [ ]
