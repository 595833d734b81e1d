-- Tidying, round by round, as document 01 tells it: rules without any bound on their depth.
-- `tidy`, with the size of the description for its bound, gives exactly what they give (`tidy_iff`).
-- Assumes nothing: these are definitions.
use Rattle.std.specs.Prelude.{◌≡◌, List, [], ◌∷◌}
use Rattle.std.proofs.Math.Option.{Option, none, some}
use Rattle.descriptions.specs.Descr.{Alts, Desc, Disjs, ◌and◌, ◌or◌, desc, end, fail}
use Rattle.descriptions.specs.Modes.{Round, after}
use Rattle.descriptions.specs.Joining.{Joining}

module _ {Graph : Type 0} (J : Joining Graph) where
  open J use {join}

  mutual
    -- tidying a description under the condition c gives this, or fails
    pub data Tidies : Graph → Desc Graph → Option (Desc Graph) → Type 0 where
      -- "join condition and definite graph; a clash means it fails"
      clash : (c g : Graph) (ds : Disjs Graph) → join (c ∷ g ∷ []) ≡ none → Tidies c (desc g ds) none
      -- "A disjunction with none left fails the description."
      emptied : (c g : Graph) (ds : Disjs Graph) (k : Graph) → join (c ∷ g ∷ []) ≡ some k → Rounds k ds none →
          Tidies c (desc g ds) none
      -- "a round that folded nothing is the last"
      last : (c g : Graph) (ds : Disjs Graph) (k : Graph) → join (c ∷ g ∷ []) ≡ some k → (left : Disjs Graph) →
          Rounds k ds (some (record { folded = []; left = left })) → Tidies c (desc g ds) (some (desc g left))
      -- "its graph is joined to the definite graph": a clash there fails the description
      folds_clash : (c g : Graph) (ds : Disjs Graph) (k : Graph) → join (c ∷ g ∷ []) ≡ some k →
          (h : Graph) (hs : List Graph) (left : Disjs Graph) → Rounds k ds (some (record { folded = h ∷ hs; left = left })) →
          join (g ∷ h ∷ hs) ≡ none → Tidies c (desc g ds) none
      -- "After a round that folded anything, the condition and the new definite graph are joined again and a new round begins"
      again : (c g : Graph) (ds : Disjs Graph) (k : Graph) → join (c ∷ g ∷ []) ≡ some k →
          (h : Graph) (hs : List Graph) (left : Disjs Graph) → Rounds k ds (some (record { folded = h ∷ hs; left = left })) →
          (g' : Graph) → join (g ∷ h ∷ hs) ≡ some g' → (o : Option (Desc Graph)) → Tidies c (desc g' left) o →
          Tidies c (desc g ds) o

    -- "tidy each alternative under that join …, drop those that fail, and keep the others in their tidied form"
    pub data Keeps : Graph → Alts Graph → Alts Graph → Type 0 where
      no_more : (k : Graph) → Keeps k fail fail
      drops : (k : Graph) (d : Desc Graph) (a b : Alts Graph) → Tidies k d none → Keeps k a b → Keeps k (d or a) b
      keeps : (k : Graph) (d e : Desc Graph) (a b : Alts Graph) → Tidies k d (some e) → Keeps k a b → Keeps k (d or a) (e or b)

    -- one round over the disjunctions; `after` says what becomes of one with none, one or more left
    pub data Rounds : Graph → Disjs Graph → Option (Round Graph) → Type 0 where
      over : (k : Graph) (r : Round Graph) → r ≡ record { folded = []; left = end } → Rounds k end (some r)
      fails : (k : Graph) (a : Alts Graph) (ds : Disjs Graph) → Rounds k ds none → Rounds k (a and ds) none
      one : (k : Graph) (a b : Alts Graph) (ds : Disjs Graph) (r : Round Graph) → Keeps k a b → Rounds k ds (some r) →
          (o : Option (Round Graph)) → after J b r ≡ o → Rounds k (a and ds) o
