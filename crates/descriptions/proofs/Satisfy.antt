-- A structure satisfies a description when it satisfies the joined graph of one of its consistent choices.
-- Assumes nothing.
use mathlib.Core.Path.{◌≡◌, refl, subst}
use mathlib.Core.Logic.{◌⊎◌, inl, inr, ⊎_elim, ◌↔◌}
use mathlib.Core.Option.{Option, none, some}
use mathlib.Core.List.Memᴰ
use mathlib.Core.List.{List, [], ◌∷◌, ◌++◌, Memᴰ}
use Prim.Native.Nat.{◌<◌}
use native.Mathlib.Omega.{arith}
use lib.ListN.{length}
use Rattle.descriptions.specs.Satisfaction.{Sat, SatEach, SatSome}
use Rattle.descriptions.specs.Structures.{SatisfiesAll, Structures}
use Rattle.descriptions.specs.Descr.{Alts, Desc, Disjs, ◌and◌, ◌or◌, choices, choices_all, choices_any, desc, end, fail}
use Rattle.descriptions.proofs.Mean.{Can, Fine, choices_fine, run}
use Rattle.descriptions.proofs.Quick.{leaf, meanings, one}
use Rattle.descriptions.proofs.Full.{each_from, each_in, pairs_from, pairs_in}
use Rattle.descriptions.proofs.Senses.{Sense}
use Rattle.descriptions.specs.Joining.{Joining}
use Rattle.descriptions.proofs.Laws.{Laws}

module _ {Graph : Type 0} {J : Joining Graph} {𝓛 : Laws J} {𝓜 : Structures Graph} (𝓢 : Sense 𝓛 𝓜) where
  open J use {join}
  open 𝓜 use {Structure, Satisfies}

  module _ (S : Structure) where
    abbrev Chosen : List (List Graph) → Type 0
    Chosen l = (r : List Graph) × Memᴰ r l × SatisfiesAll 𝓜 S r

    sat_append : (a b : List Graph) → SatisfiesAll 𝓜 S a → SatisfiesAll 𝓜 S b → SatisfiesAll 𝓜 S (a ++ b)
    sat_append [] b p q = q
    sat_append (g ∷ a) b p q = (p.0, sat_append a b p.1 q)

    append_sat : (a b : List Graph) → SatisfiesAll 𝓜 S (a ++ b) → SatisfiesAll 𝓜 S a × SatisfiesAll 𝓜 S b
    append_sat [] b p = (tt, p)
    append_sat (g ∷ a) b p = let (x, y) = append_sat a b p.1 in ((p.0, x), y)

    chosen_cases : (l m : List (List Graph)) → Chosen (l ++ m) → Chosen l ⊎ Chosen m
    chosen_cases l m (r, i, s) = ⊎_elim (λ j. inl (r, j, s)) (λ j. inr (r, j, s)) (Memᴰ.append_cases l i)

    mutual
      pub sat_choice : (d : Desc Graph) → Sat 𝓜 S d → Chosen (choices d)
      sat_choice (desc g ds) p = let (r, m, s) = each_choice ds p.1 in (g ∷ r, each_in (g ∷ []) (choices_all ds) r m, (p.0, s))

      each_choice : (ds : Disjs Graph) → SatEach 𝓜 S ds → Chosen (choices_all ds)
      each_choice end p = ([], Memᴰ.head refl, tt)
      each_choice (a and ds) p =
          let (x, i, s) = some_choice a p.0 in
          let (y, j, t) = each_choice ds p.1 in
          (x ++ y, pairs_in (choices_any a) (choices_all ds) x y i j, sat_append x y s t)

      some_choice : (a : Alts Graph) → SatSome 𝓜 S a → Chosen (choices_any a)
      some_choice fail p = absurd p
      some_choice (d or a) (inl p) = let (r, i, s) = sat_choice d p in (r, Memᴰ.append_left (choices_any a) i, s)
      some_choice (d or a) (inr p) = let (r, i, s) = some_choice a p in (r, Memᴰ.append_right (choices d) i, s)

    mutual
      pub choice_sat : (d : Desc Graph) → Chosen (choices d) → Sat 𝓜 S d
      choice_sat (desc g ds) (r, i, s) =
          let (t, j, e) = each_from (g ∷ []) (choices_all ds) r i in
          let s' : SatisfiesAll 𝓜 S (g ∷ t) = subst (SatisfiesAll 𝓜 S) e s in
          (s'.0, choice_each ds (t, j, s'.1))

      choice_each : (ds : Disjs Graph) → Chosen (choices_all ds) → SatEach 𝓜 S ds
      choice_each end p = tt
      choice_each (a and ds) (r, i, s) =
          let (x, y, j, k, e) = pairs_from (choices_any a) (choices_all ds) r i in
          let (u, v) = append_sat x y (subst (SatisfiesAll 𝓜 S) e s) in
          (choice_some a (x, j, u), choice_each ds (y, k, v))

      choice_some : (a : Alts Graph) → Chosen (choices_any a) → SatSome 𝓜 S a
      choice_some fail p = absurd (Memᴰ.not-nil p.1)
      choice_some (d or a) p = ⊎_elim (λ q. inl (choice_sat d q)) (λ q. inr (choice_some a q)) (chosen_cases (choices d) (choices_any a) p)

    -- a choice is not empty
    choice_some_graph : (d : Desc Graph) (r : List Graph) → Memᴰ r (choices d) → 0 < length r
    choice_some_graph (desc g ds) r m = let (t, j, e) = each_from (g ∷ []) (choices_all ds) r m in rw e (omega arith)

    abbrev Meant : List Graph → Type 0
    Meant l = (G : Graph) × Memᴰ G l × Satisfies S G

    -- a choice is satisfied as its joined graph is
    one_of : (r : List Graph) → Fine 𝓛 r → SatisfiesAll 𝓜 S r ↔ Meant (leaf J r)
    one_of [] f = absurd (omega arith)
    one_of (g ∷ gs) f = go (join (g ∷ gs)) refl
      where
        go : (o : Option Graph) → join (g ∷ gs) ≡ o → SatisfiesAll 𝓜 S (g ∷ gs) ↔ Meant (one o)
        go none e = (λ s. absurd (𝓢.clash_unsatisfied (g ∷ gs) (omega arith) f.1 e S s), λ m. absurd (Memᴰ.not-nil m.1))
        go (some G) e = let i = 𝓢.joined_satisfied (g ∷ gs) (omega arith) f.1 G e S in
            (λ s. (G, Memᴰ.head refl, i.1 s), λ (H, m, s). i.0 (subst (Satisfies S) (Memᴰ.eq_of_singleton m) s))

    meant_of : (l : List (List Graph)) → ((r : List Graph) → Memᴰ r l → Fine 𝓛 r) → Chosen l → Meant (run l [] (leaf J))
    meant_of [] f p = absurd (Memᴰ.not-nil p.1)
    meant_of (r ∷ l) f (t, i, s) = go (Memᴰ.cases_cons i) (λ j. meant_of l (λ u m. f u (Memᴰ.tail m)) (t, j, s))
      where
        go : (t ≡ r) ⊎ Memᴰ t l → (Memᴰ t l → Meant (run l [] (leaf J))) → Meant (leaf J r ++ run l [] (leaf J))
        go (inl e) k = let (G, m, u) = (one_of r (f r (Memᴰ.head refl))).0 (subst (SatisfiesAll 𝓜 S) e s) in
            (G, Memᴰ.append_left (run l [] (leaf J)) m, u)
        go (inr j) k = let (G, m, u) = k j in (G, Memᴰ.append_right (leaf J r) m, u)

    of_meant : (l : List (List Graph)) → ((r : List Graph) → Memᴰ r l → Fine 𝓛 r) → Meant (run l [] (leaf J)) → Chosen l
    of_meant [] f p = absurd (Memᴰ.not-nil p.1)
    of_meant (r ∷ l) f (G, i, s) = go (Memᴰ.append_cases (leaf J r) i) (λ j. of_meant l (λ u m. f u (Memᴰ.tail m)) (G, j, s))
      where
        go : Memᴰ G (leaf J r) ⊎ Memᴰ G (run l [] (leaf J)) → (Memᴰ G (run l [] (leaf J)) → Chosen l) → Chosen (r ∷ l)
        go (inl j) k = (r, Memᴰ.head refl, (one_of r (f r (Memᴰ.head refl))).1 (G, j, s))
        go (inr j) k = let (t, m, u) = k j in (t, Memᴰ.tail m, u)

    -- satisfaction is satisfaction of a meaning
    pub sat_meaning : (d : Desc Graph) → Can 𝓛 d → Sat 𝓜 S d ↔ Meant (meanings J d)
    unfolding meanings
    sat_meaning d c =
        let f : (r : List Graph) → Memᴰ r (choices d) → Fine 𝓛 r = λ r m. (choice_some_graph d r m, choices_fine 𝓛 d c r m) in
        (λ s. meant_of (choices d) f (sat_choice d s), λ m. choice_sat d (of_meant (choices d) f m))

    pub same_meaning : (d e : Desc Graph) → Can 𝓛 d → Can 𝓛 e → meanings J d ≡ meanings J e → Sat 𝓜 S d → Sat 𝓜 S e
    same_meaning d e p q h s = (sat_meaning e q).1 (subst Meant h ((sat_meaning d p).0 s))
