-- What is certain in both inputs, pushed anew, is a stage of what the marks leave; and it does not clash where that can be folded.
-- Assumes nothing.
use Prim.Native.Nat.{ℕ, ◌<◌}
use native.Mathlib.Omega.{arith}
use mathlib.Core.Path.{◌≡◌, sym, ap, ap₂, subst, ◌∙◌}
use mathlib.Core.Logic.{inl, inr, ⊎_elim}
use mathlib.Core.Bool.{Bool, true, false}
use mathlib.Core.Option.{some}
use mathlib.Core.List.Memᴰ
use mathlib.Core.List.{List, ◌∷◌, ◌++◌}
use Rattle.theory.specs.Net.{Graph, Clash}
use Rattle.theory.specs.Descr.{Desc, desc, agree}
use Rattle.theory.specs.Canonical.{Ctx, Can}
use Rattle.theory.proofs.Live.{Agrees, not_none}
use Rattle.theory.proofs.Laws.{glue_joins}
use Rattle.area.specs.Region.{loaded_words}
use Rattle.engine.specs.Placed.{Placed, place, Places, strip, strip_all, inner}
use Rattle.engine.specs.Marks.{Marking, keep, keep_all}
use Rattle.engine.specs.Certain.{flat, sure, certain}
use Rattle.engine.specs.Beside.{◌next◌, joined_placed}
use Rattle.engine.proofs.Entail.{agrees_says}
use Rattle.engine.specs.Sane.{Sane}
use Rattle.engine.specs.Stack.{Equivalent}
use Rattle.engine.proofs.Stable.{sure_can}
use Rattle.engine.proofs.Passes.{Agreeing, agreeing_view}
use Rattle.modes_by_marks.proofs.Passes.{cannot}
use Rattle.modes_by_marks.proofs.Marks.{keep_same}
use Rattle.engine.proofs.Joined.{keep_can, joined_is, joined_same}
use Rattle.modes_by_marks.proofs.Joined.{certain_next, keep_next}
use Rattle.loading.specs.Entry.{Entry, graphs}
use Rattle.marks.specs.Marked.{marking}
use Rattle.classes.specs.Holds.{Holds, Undoable}
use Rattle.classes.proofs.Comings.{graphs_append}
use Rattle.entering.specs.Taken.{taken_of}
use Rattle.entering.specs.Clear.{ClearOf}
use Rattle.entering.specs.Stage.{Pair, Stage}
use Rattle.entering.proofs.Certain.{flat_of, between_of}
use Rattle.entering.proofs.Clearing.{clear_of}
use Rattle.entering.proofs.Settling.{clash_false}
use Rattle.leaving.specs.Restarted.{certain_both}
use Rattle.entering.proofs.Pairs.{first_can, second_can}
use Rattle.leaving.proofs.Restarting.{certain_inside}

-- ---- what is certain in both says what is certain in the joined description
both_same : (a b j : Placed) → joined_placed a b ≡ some j → Can (strip a) → Can (strip b) → (m : Marking) →
    Equivalent (flat (strip (keep m a)) ++ flat (strip (keep m b))) (flat (strip (keep m j)))
both_same (place g ds) (place h es) j e ca cb m =
    let x = joined_is (place g ds) (place h es) j e in
    let cx = (keep_can m (place g ds) ca).1 in
    let cy = (keep_can m (place h es) cb).1 in
    subst (λ (z : Placed). Equivalent (flat (strip (keep m (place g ds))) ++ flat (strip (keep m (place h es)))) (flat (strip (keep m z))))
    x.is
    (subst (λ (l : List Graph). Equivalent (flat (strip (keep m (place g ds))) ++ flat (strip (keep m (place h es)))) (x.k ∷ l))
    (sym (certain_next m ds es)) (joined_same g h x.k (certain m ds) (certain m es) ca.0 cb.0
    (sure_can (strip_all (keep_all m ds)) cx) (sure_can (strip_all (keep_all m es)) cy) x.joins))

sane_agrees : (d : Desc) → Can d → Sane d → Agrees (flat d)
sane_agrees (desc g ds) c s = (s.0.0, glue_joins g c.0 (sure ds) s.0.0 s.0.1)

no_clash : (gs : Ctx) → agree gs ≡ false → Agrees gs → ⊥
no_clash gs e a = go (agree gs) (agreeing_view gs) e
  where
    go : (b : Bool) → Agreeing gs b → b ≡ false → ⊥
    go true v e = let z : ◌≡◌ {A = ℕ} 0 1 = cc in omega arith
    go false (cannot z) e = not_none gs a z

-- ---- marks that are the same below n keep the same
keep_both : (a b j : Placed) → joined_placed a b ≡ some j → (m m' : Marking) → keep m a ≡ keep m' a → keep m b ≡ keep m' b →
    keep m j ≡ keep m' j
keep_both (place g ds) (place h es) j e m m' p q =
    let x = joined_is (place g ds) (place h es) j e in
    let same : keep_all m ds next keep_all m es ≡ keep_all m' ds next keep_all m' es = ap₂ {C = Places} ◌next◌ (ap inner p) (ap inner q) in
    subst (λ (z : Placed). keep m z ≡ keep m' z) x.is (ap (place x.k) (keep_next m ds es ∙ same ∙ sym (keep_next m' ds es)))

module _ (n : ℕ) (t : List ℕ) (p : Pair n t) where
  pub pair_keeps : (m m' : Marking) → ((y : ℕ) → y < n → m y ≡ m' y) → keep m p.j ≡ keep m' p.j
  pair_keeps m m' h = keep_both p.inputs.first.d p.inputs.second.d p.j p.joined m m'
      (keep_same p.inputs.first.d m m'
      (λ y i. h y (omega (arith, (p.inputs.marks_first y i).1, p.inputs.first.low))))
      (keep_same p.inputs.second.d m m'
      (λ y i. h y (omega (arith, (p.inputs.marks_second y i).1, p.inputs.second.low))))

  module _ (m : Marking) where
    abbrev both : List Entry
    both = certain_both p.inputs m

    both_graphs : graphs both ≡ flat (strip (keep m p.inputs.first.d)) ++ flat (strip (keep m p.inputs.second.d))
    both_graphs =
        graphs_append (taken_of m p.inputs.first)
        (taken_of m p.inputs.second)
        ∙ ap₂ {C = List Graph} ◌++◌ (flat_of m p.inputs.first)
        (flat_of m p.inputs.second)

    same : Equivalent (graphs both) (flat (strip (keep m p.j)))
    same = subst (λ (l : List Graph). Equivalent l (flat (strip (keep m p.j)))) (sym both_graphs)
        (both_same p.inputs.first.d p.inputs.second.d p.j p.joined (first_can n t p) (second_can n t p) m)

    pub both_agrees : Can (strip (keep m p.j)) → Sane (strip (keep m p.j)) → Clash (graphs both) → ⊥
    both_agrees c s z = no_clash (graphs both) (clash_false (graphs both) same.fine₁ z)
        (agrees_says (flat (strip (keep m p.j))) (graphs both) same.fine₂ same.fine₁ same.from
        (sane_agrees (strip (keep m p.j)) c s))

    pub both_stage : (k : ℕ) (w : List ℕ) → loaded_words w ≡ t → marking w ≡ m → Holds n both k w → Undoable n k w → Stage n t p k w
    both_stage k w loaded marks holds undoable = record {
      es = both;
      ready = record {
        loaded = loaded;
        holds = holds;
        inside = certain_inside n t p.inputs m;
        clear_first = subst (λ (x : Marking). ClearOf both x p.inputs.first)
            (sym marks) (clear_of m both p.inputs.first
            (λ o i. ⊎_elim (λ j. inr j) (λ j. let high = (between_of m p.inputs.second o j).0 in
            inl (inr (omega (arith, p.inputs.apart))))
            (Memᴰ.append_cases (taken_of m p.inputs.first) i)));
        clear_second = subst (λ (x : Marking). ClearOf both x p.inputs.second)
            (sym marks) (clear_of m both p.inputs.second
            (λ o i. ⊎_elim (λ j. let low = (between_of m p.inputs.first o j).1 in inl (inl (omega (arith, p.inputs.apart))))
            (λ j. inr j)
            (Memᴰ.append_cases (taken_of m p.inputs.first) i)));
      };
      undoable = undoable;
      same = subst (λ (x : Marking). Equivalent (graphs both) (flat (strip (keep x p.j)))) (sym marks) same;
    }
