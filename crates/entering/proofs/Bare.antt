-- A description without disjunctions, of which is told what its graph would do.
-- Assumes nothing.
use Prim.Native.Nat.{ℕ, ◌+◌}
use native.Mathlib.Omega.{arith}
use mathlib.Core.Path.{◌≡◌, refl, sym, ap, subst, ◌∙◌}
use mathlib.Core.Bool.{true}
use mathlib.Core.List.{List, [], ◌∷◌, ◌++◌}
use Rattle.theory.specs.Net.{Graph, Agree}
use Rattle.theory.specs.Descr.{agree}
use Rattle.theory.specs.Canonical.{Fine}
use Rattle.engine.specs.Placed.{Placed, place, stop, ◌also◌, strip}
use Rattle.engine.specs.Marks.{keep}
use Rattle.engine.specs.Certain.{flat}
use Rattle.loading.specs.Entry.{graphs, entry}
use Rattle.loading.specs.Loaded.{extent}
use Rattle.loading.specs.Numbered.{places}
use Rattle.loading.specs.Lying.{Here}
use Rattle.marks.specs.Positions.{tail_at, disjunctions_at}
use Rattle.marks.specs.Marked.{marking}
use Rattle.marks.specs.Readable.{Readable}
use Rattle.marks.proofs.Reading.{readable, tail_of, disjunctions_of}
use Rattle.std.specs.Prelude.{None}
use Rattle.classes.proofs.Laws.{since_refl}
use Rattle.trying.specs.Guessed.{Guesses}
use Rattle.trying.specs.declared.told.Guess.TheVariants.{Agrees, Clashes}
use Rattle.entering.specs.Taken.{AmongHere}
use Rattle.entering.specs.Entered.{Entering, Enters}
use Rattle.entering.proofs.Entering.{own_comes, enters_own}
use Rattle.entering.proofs.Settling.{agrees_true}
use Rattle.entering.proofs.Within.{fine}

module _ (n k : ℕ) (w : List ℕ) (g left : ℕ) (c : Entering n k w g left) where
  -- it clashes
  pub told_enters : Guesses n k w g Clashes → Enters n k w g left None w
  told_enters s = enters_own n k w g left None w (record {
    len = refl;
    rest = λ j h. refl;
    inside = λ j y. let x : ◌≡◌ {A = ℕ} 0 1 = cc in absurd (omega arith);
    clashed = λ y. ((since_refl n c.es k w c.s.holds, refl), λ es e i h d. (s.clashes refl es e i h d, h));
  }) refl

  module _ (none : disjunctions_at w (tail_at w g) ≡ 0) where
    abbrev read : Readable w g left
    read = readable w c.s.holds.long c.s.loaded c.s.ground.few c.lies

    -- the description is its graph
    pub bare_one : (K : Graph) × ((c.lies.d ≡ place K stop) × (Guesses n k w g Agrees → Agree (graphs c.es ++ K ∷ [])))
    bare_one = go c.lies.d c.lies.at read.lies.at c.among refl
      where
        go : (d : Placed) (at : Here c.lies d) → Here read.lies d →
            AmongHere c.s.U c.lies d at → c.lies.d ≡ d →
            (K : Graph) × ((c.lies.d ≡ place K stop) × (Guesses n k w g Agrees → Agree (graphs c.es ++ K ∷ [])))
        go (place K stop) at here u e =
            (K, (e, λ s. s.agrees refl c.es (entry g c.lies.from K) refl c.s.holds (own_comes n k w g left c K stop at u)))
        go (place K (a also ds)) at here u e =
            let t = tail_of read K (a also ds) here in
            let m : disjunctions_at w (g + extent K) ≡ places (a also ds) = disjunctions_of read K (a also ds) here in
            let z : disjunctions_at w (g + extent K) ≡ 0 = ap (disjunctions_at w) (sym t) ∙ none in
            absurd (omega arith)

    -- it agrees
    module _ (s : Guesses n k w g Agrees) where
      pub bare_good : agree (graphs c.es ++ bare_one.0 ∷ []) ≡ true
      bare_good = agrees_true (graphs c.es ++ bare_one.0 ∷ [])
          (subst (λ (d : Placed). Fine (graphs c.es ++ flat (strip (keep (marking w) d)))) bare_one.1.0 (fine n k w g left c))
          (bare_one.1.1 s)
