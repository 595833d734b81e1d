-- The first stage: both inputs stand loaded, their definite graphs are pushed, and all alternatives are kept.
-- Assumes nothing.
use Prim.Native.Nat.{ℕ, ◌+◌, ◌≤◌, ◌<◌}
use native.Mathlib.Omega.{arith}
use mathlib.Core.Path.{◌≡◌, refl, sym, ap, subst, ◌∙◌}
use mathlib.Core.Logic.{◌⊎◌, inl, inr, ⊎_elim}
use mathlib.Core.Option.{Option, none, some}
use mathlib.Core.List.Memᴰ
use mathlib.Core.List.{List, [], ◌∷◌, Memᴰ}
use lib.ListN.{length, get_or}
use Rattle.theory.specs.Limits.{input_limit, depth_limit}
use Rattle.theory.specs.Net.{Graph}
use Rattle.theory.specs.Join.{join}
use Rattle.theory.specs.Descr.{Desc, desc}
use Rattle.theory.specs.Layout as layout
use Rattle.theory.specs.Layout.{WellFormed}
use Rattle.theory.specs.Canonical.{Ctx, Fine}
use Rattle.theory.proofs.Live.{Agrees}
use Rattle.theory.proofs.Reading.{well_can}
use Rattle.area.specs.Map.{SECOND, MARKS, SIZE}
use Rattle.area.specs.Region.{loaded_words}
use Rattle.area.proofs.Region.{words_same}
use Rattle.engine.specs.Placed.{Placed, place, strip, strip_all, own}
use Rattle.engine.specs.Marks.{Marking, all_kept, keep}
use Rattle.engine.specs.Certain.{flat}
use Rattle.engine.specs.Beside.{joined_placed}
use Rattle.engine.proofs.Entail.{fine_cons}
use Rattle.modes_by_marks.proofs.Proper.{Proper, proper_sure}
use Rattle.modes_by_marks.proofs.Marks.{keep_all_marked}
use Rattle.engine.specs.Stack.{Equivalent}
use Rattle.engine.proofs.Joined.{joined_same}
use Rattle.loading.specs.Entry.{Entry, graphs}
use Rattle.loading.specs.Loaded.{nodes_in}
use Rattle.loading.specs.Numbered.{numbered, input_numbered}
use Rattle.loading.specs.At.{At}
use Rattle.loading.proofs.Names.{alts_few, input_between}
use Rattle.loading.proofs.Loads.{input_at}
use Rattle.loading.proofs.Entries.{entries}
use Rattle.marks.specs.Marked.{marking}
use Rattle.counting.specs.Counted.{inner_both}
use Rattle.counting.proofs.Whole.{well_nests}
use Rattle.classes.specs.Holds.{Holds, Undoable}
use Rattle.classes.proofs.Laws.{holds_agree, holds_frame, undoable_frame}
use Rattle.opening.specs.Opening.{Stand, definite}
use Rattle.opening.proofs.Universe.{universe, in_one, in_two}
use Rattle.opening.proofs.Opens.{number_definite}
use Rattle.entering.specs.Taken.{taken}
use Rattle.entering.specs.Clear.{Outside, ClearOf}
use Rattle.entering.specs.Inputs.{Inputs, Ready}
use Rattle.entering.specs.Stage.{Pair, Stage}
use Rattle.entering.proofs.Clearing.{clear_taken}
use Rattle.entering.proofs.Grounds.{ground, numbered_among}
use Rattle.entering.proofs.Pairs.{whole_comes}
use Rattle.entering.proofs.Settling.{agree_joins}

-- ---- definite graphs
definite_taken : (t : List ℕ) (k : Marking) (d : Desc) (p n y q m : ℕ) (at : At t p n (numbered y d) q m) →
    Memᴰ (definite p n d) (taken t k p n (numbered y d) q m at)
definite_taken t k (desc g ds) p n y q m at = Memᴰ.head refl

both_fine : (d e : Desc) (p q m n left : ℕ) → WellFormed d left → WellFormed e left → Fine (graphs (definite p m d ∷ definite q n e ∷ []))
both_fine (desc g ds) (desc h es) p q m n left a b = fine_cons g (h ∷ []) a.0 (b.0, tt)

both_joined : (d e : Desc) (p q m n x y : ℕ) (G : Graph) → join (graphs (definite p m d ∷ definite q n e ∷ [])) ≡ some G →
    joined_placed (numbered x d) (numbered y e) ≡ some (place G (inner_both (numbered x d) (numbered y e)))
both_joined (desc g ds) (desc h es) p q m n x y G z =
    ap {B = Option Placed} (λ (o : Option Graph). elim o [
      | none ↦ none
      | some k ↦ some (place k (inner_both (numbered x (desc g ds)) (numbered y (desc h es))))
    ]) z

both_same : (d e : Desc) (p q m n left : ℕ) → WellFormed d left → WellFormed e left → (G : Graph) →
    join (graphs (definite p m d ∷ definite q n e ∷ [])) ≡ some G → Equivalent (graphs (definite p m d ∷ definite q n e ∷ [])) (G ∷ [])
both_same (desc g ds) (desc h es) p q m n left a b G z = joined_same g h G [] [] a.0 b.0 tt tt z

-- where every disjunction has two or more alternatives, its own graph is all that is certain
flat_proper : (d : Placed) → Proper (strip d) → flat (strip d) ≡ own d ∷ []
flat_proper (place g ds) p = ap (λ (l : Ctx). g ∷ l) (proper_sure (strip_all ds) p)

-- of two, the first or the second
two_cases : (P : Entry → Type 0) (x y : Entry) → P x → P y → (o : Entry) → Memᴰ o (x ∷ y ∷ []) → P o
two_cases P x y a b o i = ⊎_elim (λ e. subst P (sym e) a)
    (λ j. ⊎_elim (λ e. subst P (sym e) b) (λ l. absurd (Memᴰ.not-nil l)) (Memᴰ.cases_cons j)) (Memᴰ.cases_cons i)

module _ (w : List ℕ) (d e : Desc) (n : ℕ) (long : SIZE ≤ length w) (wd : WellFormed d depth_limit) (we : WellFormed e depth_limit)
    (fd : length (layout.words d) ≤ input_limit) (fe : length (layout.words e) ≤ input_limit) (s : Stand (loaded_words w) d e n) where
  abbrev t : List ℕ
  t = loaded_words w

  abbrev half : ℕ
  half = nodes_in d

  abbrev a : Placed
  a = input_numbered 0 d

  abbrev b : Placed
  b = input_numbered half e

  abbrev end_a : ℕ
  end_a = length (layout.words d)

  abbrev end_b : ℕ
  end_b = SECOND + length (layout.words e)

  few : half + nodes_in e ≤ input_limit
  few = omega (arith, (ground w d e n long wd we fd fe s).few, s.count)

  at_a : At t 0 0 a end_a half
  at_a = let z : 0 + half ≡ half = omega arith in
      subst (λ (m : ℕ). At t 0 0 a end_a m) z (input_at t d 0 0 end_a (well_can d wd) fd (omega (arith, few)) s.first)

  at_b : At t SECOND half b end_b n
  at_b = subst (λ (m : ℕ). At t SECOND half b end_b m) (sym s.count)
      (input_at t e SECOND half end_b (well_can e we) fe (omega (arith, few)) s.second)

  abbrev inputs : Inputs n t
  inputs = record {
    U = universe d e;
    ground = ground w d e n long wd we fd fe s;
    first = record {
      d = a;
      from = 0;
      end = end_a;
      to = half;
      at = at_a;
      low = omega (arith, s.count);
      nests = well_nests d 1 depth_limit wd;
    };
    second = record {
      d = b;
      from = half;
      end = end_b;
      to = n;
      at = at_b;
      low = omega arith;
      nests = well_nests e (half + 1) depth_limit we;
    };
    before = omega (arith, fd);
    apart = omega arith;
    marks_first = λ y i. let u = input_between 0 d (well_can d wd) y i in let v = u.1 in (u.0, omega arith);
    marks_second = λ y i. let u = input_between half e (well_can e we) y i in let v = u.1 in (u.0, omega (arith, s.count));
    among_first = numbered_among t (universe d e) d 0 0 0 1 end_a half refl at_a (λ x i. Memᴰ.append_left (entries SECOND half e) i);
    among_second = numbered_among t (universe d e) e SECOND half half (half + 1) end_b n refl at_b
        (λ x i. Memᴰ.append_right (entries 0 0 d) i);
  }

  abbrev both : List Entry
  both = definite 0 0 d ∷ definite SECOND half e ∷ []

  module _ (k : ℕ) (held : Holds n both k w) where
    ready : Ready n t inputs k w both
    ready = record {
      loaded = refl;
      holds = held;
      inside = two_cases (λ o. Memᴰ o (universe d e)) (definite 0 0 d) (definite SECOND half e) (in_one d e) (in_two d e);
      clear_first = clear_taken t (marking w) both 0 0 a end_a half at_a
          (two_cases (λ o. Outside 0 half o.number ⊎ Memᴰ o (taken t (marking w) 0 0 a end_a half at_a)) (definite 0 0 d)
          (definite SECOND half e) (inr (definite_taken t (marking w) d 0 0 1 end_a half at_a)) (let z = number_definite SECOND half e in
          inl (inr (omega arith))));
      clear_second = clear_taken t (marking w) both SECOND half b end_b n at_b
          (two_cases (λ o. Outside half n o.number ⊎ Memᴰ o (taken t (marking w) SECOND half b end_b n at_b)) (definite 0 0 d)
          (definite SECOND half e) (let z = number_definite 0 0 d in let m = alts_few d (well_can d wd) in
          inl (inl (omega arith))) (inr (definite_taken t (marking w) e SECOND half (half + 1) end_b n at_b)));
    }

    joins : Agrees (graphs both)
    joins = agree_joins (graphs both) (both_fine d e 0 SECOND 0 half depth_limit wd we) (holds_agree n both k w held)

    abbrev pair : Pair n t
    pair = record {
      d = d;
      e = e;
      first_well = wd;
      second_well = we;
      first_few = fd;
      second_few = fe;
      inputs = inputs;
      first_is = refl;
      second_is = refl;
      j = place joins.0 (inner_both a b);
      joined = both_joined d e 0 SECOND 0 half 1 (half + 1) joins.0 joins.1;
    }

    same : marking w ≡ all_kept → Equivalent (graphs both) (flat (strip (keep (marking w) pair.j)))
    same every =
        let z : flat (strip (keep (marking w) pair.j)) ≡ joins.0 ∷ [] = ap (λ (m : Marking). flat (strip (keep m pair.j))) every
        ∙ ap (λ (z : Placed). flat (strip z)) (keep_all_marked pair.j) ∙ flat_proper pair.j (whole_comes n t pair).1 in
        subst (λ (l : Ctx). Equivalent (graphs both) l) (sym z) (both_same d e 0 SECOND 0 half depth_limit wd we joins.0 joins.1)

    pub first_stage : Undoable n k w → marking w ≡ all_kept → (p : Pair n (loaded_words w))
        × ((p.d ≡ d) × ((p.e ≡ e) × Stage n (loaded_words w) p k w))
    first_stage undoable every = (pair, (refl, (refl, record { es = both; ready = ready; undoable = undoable; same = same every })))

-- a stage is where it was when only marks have changed, and none of these for what is kept
pub stage_again : (n : ℕ) (t : List ℕ) (p : Pair n t) (k : ℕ) (w : List ℕ) (s : Stage n t p k w) (w' : List ℕ) → length w' ≡ length w →
    ((j : ℕ) → j < MARKS → get_or w' j 0 ≡ get_or w j 0) → marking w' ≡ marking w → Stage n t p k w'
stage_again n t p k w s w' len same m = record {
  es = s.es;
  ready = record {
    loaded = words_same w w' s.ready.holds.long len (λ j a b. same j b) ∙ s.ready.loaded;
    holds = holds_frame n s.es k w s.ready.holds w' len same;
    inside = s.ready.inside;
    clear_first = subst (λ (z : Marking). ClearOf s.es z p.inputs.first) (sym m) s.ready.clear_first;
    clear_second = subst (λ (z : Marking). ClearOf s.es z p.inputs.second) (sym m) s.ready.clear_second;
  };
  undoable = undoable_frame n k w s.undoable w' len same;
  same = subst (λ (z : Marking). Equivalent (graphs s.es) (flat (strip (keep z p.j)))) (sym m) s.same;
}
