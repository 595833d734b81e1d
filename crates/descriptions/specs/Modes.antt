-- The three modes.
-- Assumes nothing: these are definitions.
use Rattle.std.specs.Prelude.{◌≡◌, Bool, true, false, List, [], ◌∷◌, ℕ, zero, suc, ◌+◌}
use Rattle.std.proofs.Math.Option.{Option, none, some}
use Rattle.descriptions.specs.Descr.{Alts, Desc, Disjs, ◌and◌, ◌or◌, ◌then◌, agree, choices, choices_all, choices_any, desc, end}
use Rattle.descriptions.specs.Descr.{fail, pairs}
use Rattle.descriptions.specs.Joining.{Joining}

-- what a round leaves: the graphs folded in, and the disjunctions
pub record Round (Graph : Type 0) : Type 0 where
  pub folded : List Graph
  pub left : Disjs Graph

module _ {Graph : Type 0} where
  -- "tidy each alternative under that join as it stood at the start of the round, drop those that fail, and keep the others in their
  -- tidied form": t tidies an alternative
  abbrev pub kept : (Desc Graph → Option (Desc Graph)) → Alts Graph → Alts Graph
  kept t fail = fail
  kept t (d or a) = let r = kept t a in elim (t d) [ none ↦ r | some e ↦ e or r ]

  unfoldable mutual
    pub size : Desc Graph → ℕ
    size (desc g ds) = suc (size_all ds)

    pub size_all : Disjs Graph → ℕ
    size_all end = 0
    size_all (a and ds) = suc (size_any a + size_all ds)

    pub size_any : Alts Graph → ℕ
    size_any fail = 0
    size_any (d or a) = size d + size_any a

  -- that this never clashes is proved; the description with no choice stands for it
  unfoldable pub folded_in : Graph → Round Graph → Option Graph → Desc Graph
  folded_in g r none = desc g (fail and end)
  folded_in g r (some k) = desc k r.left

module _ {Graph : Type 0} (J : Joining Graph) where
  open J use {join, nil}

  -- "0, join. The graph is the join of both definite graphs (a clash there is a clash in all modes). The disjunctions are those of the
  -- first input, then those of the second, in order."
  unfoldable pub joined : Desc Graph → Desc Graph → Option (Desc Graph)
  joined (desc g ds) (desc h es) = elim (join (g ∷ h ∷ [])) [ none ↦ none | some k ↦ some (desc k (ds then es)) ]

  -- "One with exactly one left is folded: its graph is joined to the definite graph and its disjunctions take its place in the list."
  abbrev pub in_place : Alts Graph → Round Graph → Round Graph
  in_place fail r = record { folded = r.folded; left = fail and r.left }
  in_place (d or fail) r = elim d [ desc g ds ↦ record { folded = g ∷ r.folded; left = ds then r.left } ]
  in_place (d or (e or a)) r = record { folded = r.folded; left = (d or e or a) and r.left }

  -- "A disjunction with none left fails the description."
  abbrev pub after : Alts Graph → Round Graph → Option (Round Graph)
  after fail r = none
  after (d or a) r = some (in_place (d or a) r)

  abbrev pub round : (Desc Graph → Option (Desc Graph)) → Disjs Graph → Option (Round Graph)
  round t end = some (record { folded = []; left = end })
  round t (a and ds) = elim (round t ds) [ none ↦ none | some r ↦ after (kept t a) r ]

  -- "After a round that folded anything, the condition and the new definite graph are joined again (a clash fails the description) and
  -- a new round begins; a round that folded nothing is the last."
  unfoldable pub finish : (Desc Graph → Option (Desc Graph)) → Graph → Disjs Graph → List Graph → Option (Desc Graph)
  finish again g ds [] = some (desc g ds)
  finish again g ds (h ∷ hs) = elim (join (g ∷ h ∷ hs)) [ none ↦ none | some g' ↦ again (desc g' ds) ]

  -- "To tidy a description under a condition: join condition and definite graph; a clash means it fails." The first argument bounds
  -- the depth of calls; from the size of the description on it makes no difference.
  unfoldable pub tidy : ℕ → Graph → Desc Graph → Option (Desc Graph)
  tidy zero c d = some d
  tidy (suc n) c (desc g ds) = elim (join (c ∷ g ∷ [])) [
    | none ↦ none
    | some k ↦ elim (round (tidy n k) ds) [ none ↦ none | some r ↦ finish (tidy n c) g r.left r.folded ]
  ]

  -- "1, quick. Take the joined description and tidy it under the graph that says nothing."
  unfoldable pub quick : Desc Graph → Desc Graph → Option (Desc Graph)
  quick a b = elim (joined a b) [ none ↦ none | some d ↦ tidy (suc (size d)) nil d ]

  -- "2, full. From the joined description drop every alternative that stands in no consistent choice of the whole; if there is no
  -- consistent choice, clash." `others` are the choices of all that stands beside
  unfoldable pub some_agree : List (List Graph) → Bool
  some_agree [] = false
  some_agree (c ∷ l) = elim (agree J c) [ true ↦ true | false ↦ some_agree l ]

  unfoldable mutual
    pub prune : List (List Graph) → Desc Graph → Desc Graph
    prune others (desc g ds) = desc g (prune_all (pairs others ((g ∷ []) ∷ [])) ds)

    pub prune_all : List (List Graph) → Disjs Graph → Disjs Graph
    prune_all others end = end
    prune_all others (a and ds) = prune_any (pairs others (choices_all ds)) a and prune_all (pairs others (choices_any a)) ds

    pub prune_any : List (List Graph) → Alts Graph → Alts Graph
    prune_any others fail = fail
    prune_any others (d or a) = let r = prune_any others a in let e = prune others d in
        elim (some_agree (pairs others (choices d))) [ true ↦ e or r | false ↦ r ]

  -- a graph with those folded into it; one into which nothing is folded stays as it came
  abbrev pub glue : Graph → List Graph → Option Graph
  glue g [] = some g
  glue g (h ∷ hs) = join (g ∷ h ∷ hs)

  -- they can be folded in
  abbrev pub Glues : Graph → List Graph → Type 0
  Glues g hs = (K : Graph) × (glue g hs ≡ some K)

  -- "Then fold all disjunctions with one alternative left, at every depth, in place."
  unfoldable mutual
    pub fold : Desc Graph → Desc Graph
    fold (desc g ds) = let r = fold_all ds in folded_in g r (glue g r.folded)

    pub fold_all : Disjs Graph → Round Graph
    fold_all end = record { folded = []; left = end }
    fold_all (a and ds) = in_place (fold_any a) (fold_all ds)

    pub fold_any : Alts Graph → Alts Graph
    fold_any fail = fail
    fold_any (d or a) = fold d or fold_any a

  unfoldable pub full : Desc Graph → Desc Graph → Option (Desc Graph)
  full a b = elim (joined a b) [
    | none ↦ none
    | some d ↦ elim (some_agree (choices d)) [ true ↦ some (fold (prune ([] ∷ []) d)) | false ↦ none ]
  ]
