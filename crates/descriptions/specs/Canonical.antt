-- Lists of graphs and descriptions in which every graph is canonical, whatever that is for a kind of graph.
-- Assumes nothing: these are definitions.
use Rattle.std.specs.Prelude.{List, [], ◌∷◌, ◌<◌, length}
use Rattle.descriptions.specs.Descr.{Alts, Desc, Disjs, ◌and◌, ◌or◌, desc, end, fail}

abbrev pub All : {A : Type 0} → (A → Type 0) → List A → Type 0
All P [] = Unit {0}
All P (g ∷ gs) = P g × All P gs

module _ {Graph : Type 0} (Canonical : Graph → Type 0) where
  -- at least one graph, and all canonical
  abbrev pub Fine : List Graph → Type 0
  Fine c = (0 < length c) × All Canonical c

  -- descriptions of canonical graphs
  abbrev mutual
    pub Can : Desc Graph → Type 0
    Can (desc g ds) = Canonical g × CanAll ds

    pub CanAll : Disjs Graph → Type 0
    CanAll end = Unit {0}
    CanAll (a and ds) = CanAny a × CanAll ds

    pub CanAny : Alts Graph → Type 0
    CanAny fail = Unit {0}
    CanAny (d or a) = Can d × CanAny a
