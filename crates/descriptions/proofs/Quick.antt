-- Mode 1 keeps the readings and what satisfies; what a description's choices are for.
-- Assumes nothing.
use mathlib.Core.Path.{◌≡◌, refl, ap, sym, ◌∙◌}
use mathlib.Core.Bool.{true, false}
use mathlib.Core.Option.{Option, none, some}
use mathlib.Core.List.{List, [], ◌∷◌, ◌++◌, append-nil, Memᴰ}
use Prim.Native.Nat.{ℕ, suc}
use native.Mathlib.Omega.{arith}
use lib.ListN.{length}
use Rattle.descriptions.proofs.Laws.{Laws}
use Rattle.descriptions.specs.Descr.{Desc, agree, agreeing, answers, choices, readings}
use Rattle.descriptions.specs.Modes.{tidy}
use Rattle.descriptions.proofs.Mean.{Can, Good, Holds, Tidied, run, run_none, tidy_ok}
use Rattle.descriptions.specs.Joining.{Joining}

module _ {Graph : Type 0} where
  -- the joined graph of a choice, if there is one
  abbrev pub one : Option Graph → List Graph
  one none = []
  one (some G) = G ∷ []

module _ {Graph : Type 0} (J : Joining Graph) where
  open J use {join}

  abbrev pub leaf : List Graph → List Graph
  leaf c = one (join c)

  -- what a description means: the joined graphs of its consistent choices, in order
  unfoldable pub meanings : Desc Graph → List Graph
  meanings d = run (choices d) [] leaf

  pub all_none : (d : Desc Graph) → ((c : List Graph) → Memᴰ c (choices d) → join c ≡ none) → meanings d ≡ []
  unfolding meanings
  all_none d h = run_none (choices d) [] leaf (λ r m. ap one (h r m))

  -- readings are meanings
  pub readings_count : (d : Desc Graph) → readings J d ≡ length (meanings d)
  unfolding readings agreeing agree meanings
  readings_count d = go (choices d)
    where
      go : (l : List (List Graph)) → agreeing J l ≡ length (run l [] leaf)
      go [] = refl
      go (c ∷ l) = step (join c) (go l)
        where
          step : (o : Option Graph) → agreeing J l ≡ length (run l [] leaf) →
              elim (answers o) [ true ↦ suc (agreeing J l) | false ↦ agreeing J l ] ≡ length (one o ++ run l [] leaf)
          step none e = e
          step (some G) e = ap suc e

module _ {Graph : Type 0} {J : Joining Graph} (𝓛 : Laws J) where
  open J use {join, nil}
  open 𝓛 use {nil_canonical}

  -- the graph that says nothing changes nothing
  pub nil_holds : Holds 𝓛 nil []
  nil_holds hs ch p = sym (𝓛.silent hs ch)

  pub good_leaf : Good 𝓛 (leaf J)
  good_leaf = record {
    same = λ c d f h p. ap one (sym (ap join (append-nil c)) ∙ p [] tt ∙ ap join (append-nil d));
    dead = λ c f e. ap one e;
  }

  pub tidy_means : (n : ℕ) (d e : Desc Graph) → Can 𝓛 d → tidy J n nil d ≡ some e → meanings J d ≡ meanings J e
  unfolding meanings
  tidy_means n d e c h = go (tidy J n nil d) (tidy_ok 𝓛 n nil nil_canonical d c) h
    where
      go : (o : Option (Desc Graph)) → Tidied 𝓛 nil d o → o ≡ some e → run (choices d) [] (leaf J) ≡ run (choices e) [] (leaf J)
      go none t p = let z : ◌≡◌ {A = ℕ} 0 1 = cc in absurd (omega arith)
      go (some e') t p = let q : e' ≡ e = cc in rw (← q) (t.1 [] tt nil_holds (leaf J) good_leaf)

  pub tidy_fails : (n : ℕ) (d : Desc Graph) → Can 𝓛 d → tidy J n nil d ≡ none → meanings J d ≡ []
  unfolding meanings
  tidy_fails n d c h = go (tidy J n nil d) (tidy_ok 𝓛 n nil nil_canonical d c) h
    where
      go : (o : Option (Desc Graph)) → Tidied 𝓛 nil d o → o ≡ none → run (choices d) [] (leaf J) ≡ []
      go none t p = t [] tt nil_holds (leaf J) good_leaf
      go (some e') t p = let z : ◌≡◌ {A = ℕ} 0 1 = cc in absurd (omega arith)
