-- Choices and alternatives by their place in a description: what `full` keeps.
-- Assumes nothing: these are definitions.
use Rattle.std.specs.Prelude.{◌≡◌, ◌⊎◌, Bool, true, false, List, [], ◌∷◌, ◌++◌}
use Rattle.std.proofs.Common.{inl, inr}
use Rattle.descriptions.specs.Descr.{Alts, Desc, Disjs, ◌and◌, ◌or◌, agree, desc, end, fail}
use Rattle.descriptions.specs.Joining.{Joining}

module _ {Graph : Type 0} where
  -- "A choice of a description takes one alternative of each disjunction and, within it, a choice of that alternative."
  abbrev mutual
    pub Pick : Desc Graph → Type 0
    Pick (desc g ds) = PickAll ds

    pub PickAll : Disjs Graph → Type 0
    PickAll end = Unit {0}
    PickAll (a and ds) = PickAny a × PickAll ds

    pub PickAny : Alts Graph → Type 0
    PickAny fail = ⊥
    PickAny (d or a) = Pick d ⊎ PickAny a

  -- the graphs that it takes, the definite graph first
  abbrev mutual
    pub picked : (d : Desc Graph) → Pick d → List Graph
    picked (desc g ds) p = g ∷ picked_all ds p

    pub picked_all : (ds : Disjs Graph) → PickAll ds → List Graph
    picked_all end p = []
    picked_all (a and ds) p = picked_any a p.0 ++ picked_all ds p.1

    pub picked_any : (a : Alts Graph) → PickAny a → List Graph
    picked_any fail p = absurd p
    picked_any (d or a) (inl p) = picked d p
    picked_any (d or a) (inr p) = picked_any a p

  -- the places of the alternatives, at every depth
  abbrev mutual
    pub Place : Desc Graph → Type 0
    Place (desc g ds) = PlaceAll ds

    pub PlaceAll : Disjs Graph → Type 0
    PlaceAll end = ⊥
    PlaceAll (a and ds) = PlaceAny a ⊎ PlaceAll ds

    -- the first alternative, one within it, or a later one
    pub PlaceAny : Alts Graph → Type 0
    PlaceAny fail = ⊥
    PlaceAny (d or a) = (Unit {0} ⊎ Place d) ⊎ PlaceAny a

  -- the alternative at this place stands in this choice
  abbrev mutual
    pub StandsIn : (d : Desc Graph) → Place d → Pick d → Type 0
    StandsIn (desc g ds) x p = StandsInAll ds x p

    pub StandsInAll : (ds : Disjs Graph) → PlaceAll ds → PickAll ds → Type 0
    StandsInAll end x p = absurd x
    StandsInAll (a and ds) (inl x) p = StandsInAny a x p.0
    StandsInAll (a and ds) (inr x) p = StandsInAll ds x p.1

    pub StandsInAny : (a : Alts Graph) → PlaceAny a → PickAny a → Type 0
    StandsInAny fail x p = absurd x
    StandsInAny (d or a) (inl (inl u)) (inl p) = Unit {0}
    StandsInAny (d or a) (inl (inr x)) (inl p) = StandsIn d x p
    StandsInAny (d or a) (inl x) (inr p) = ⊥
    StandsInAny (d or a) (inr x) (inl p) = ⊥
    StandsInAny (d or a) (inr x) (inr p) = StandsInAny a x p

  -- the description with only the alternatives at the places that pass
  abbrev mutual
    pub only : (d : Desc Graph) → (Place d → Bool) → Desc Graph
    only (desc g ds) k = desc g (only_all ds k)

    pub only_all : (ds : Disjs Graph) → (PlaceAll ds → Bool) → Disjs Graph
    only_all end k = end
    only_all (a and ds) k = only_any a (λ x. k (inl x)) and only_all ds (λ x. k (inr x))

    pub only_any : (a : Alts Graph) → (PlaceAny a → Bool) → Alts Graph
    only_any fail k = fail
    only_any (d or a) k =
        let e = only d (λ x. k (inl (inr x))) in
        let b = only_any a (λ x. k (inr x)) in
        elim (k (inl (inl tt))) [ true ↦ e or b | false ↦ b ]

module _ {Graph : Type 0} (J : Joining Graph) where
  abbrev pub Consistent : (d : Desc Graph) → Pick d → Type 0
  Consistent d p = agree J (picked d p) ≡ true

  -- "drop every alternative that stands in no consistent choice of the whole"
  pub record Pruned (d e : Desc Graph) : Type 0 where
    pub keep : Place d → Bool
    pub left : e ≡ only d keep
    pub kept : (x : Place d) → keep x ≡ true → (p : Pick d) × StandsIn d x p × Consistent d p
    pub stays : (x : Place d) (p : Pick d) → StandsIn d x p → Consistent d p → keep x ≡ true
