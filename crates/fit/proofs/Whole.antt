-- What the answers say of the whole of both inputs.
-- Assumes nothing.
use Prim.Native.Nat.{ℕ, ◌≤◌, ◌<◌}
use native.Mathlib.Omega.{arith}
use mathlib.Core.Path.{◌≡◌, refl, sym, ap, ◌∙◌}
use mathlib.Core.Logic.{◌↔◌}
use mathlib.Core.List.{List}
use lib.ListN.{length, get_or}
use lib.Dec.{eqb}
use Rattle.theory.specs.Limits.{depth_limit, input_limit}
use Rattle.theory.specs.Net.{Graph}
use Rattle.theory.specs.Descr.{Desc, desc, Disjs, end, ◌and◌, disjs}
use Rattle.theory.specs.Layout.{words, WellFormed}
use Rattle.theory.specs.LayoutOne.{Image}
use Rattle.theory.specs.FitTest.{FitGiven, fits, six, nine}
use Rattle.theory.specs.Fitted.{fitted}
use Rattle.theory.specs.Satisfaction.{Sat}
use Rattle.theory.proofs.Fit.{structure}
use Rattle.theory.proofs.FitTable.{fit_table, fit_satisfies}
use Rattle.layout.specs.Judged.{Judged}
use Rattle.graphs.specs.Graph.{pick}
use Rattle.layout.specs.Skipping.{graphEnd}
use Rattle.layout.proofs.Standing.{stands_whole, stands_graph, stands_description}
use Rattle.layout.proofs.Ends.{graph_ends}
use Rattle.fit.specs.Parts.{nodesEnd, graphIn}
use Rattle.fit.specs.Testing.{description_subject, Testable, Answers, TestAsked, Tested}
use Rattle.fit.specs.Number.{Verdict, number_of}
use Rattle.fit.specs.declared.Refusal.TheVariants.{TooLong, BadStructure, BadDescription, HasDisjunctions}
use Rattle.std.specs.Prelude.{Bool, true, false, is_some, Option, Some, None, Ok, Err}
use Rattle.fit.proofs.Parts.{nodes_stand}

module _ (ws : List ℕ) where
  pub whole_asked : (H : Graph) → length ws ≤ input_limit → Image ws → Testable (description_subject H depth_limit) ws 0
  whole_asked H few i = (few, (i.0, length ws, (omega arith, i.1), (stands_whole ws (words i.0)).0 i.2))

  -- the answer says of the whole whether the structure satisfies it
  pub whole_tested : (s : List ℕ) (r : Option ℕ) → Answers (description_subject (graphIn s 0) depth_limit) ws 0 r → Tested s ws (is_some r)
  whole_tested s (Some q) a d w e = (a d (length ws) (omega arith, w) ((stands_whole ws (words d)).0 e)).1
  whole_tested s None a d w e = a d (length ws) (omega arith, w) ((stands_whole ws (words d)).0 e)

-- words that are refused are no image
pub no_image : (ws : List ℕ) (r : Bool) → r ≡ false → Judged ws r → ¬ (Image ws)
no_image ws r e j i = let z = j.complete i in absurd (cc)

module _ (a : List ℕ) (H : Graph) (ds : Disjs) (w : WellFormed (desc H ds) depth_limit) (is : a ≡ words (desc H ds)) where
  -- where the graph of the structure ends, the number of its disjunctions stands
  counted : (n : ℕ) → n ≡ graphEnd a 0 → (n < length a) × (get_or a n 0 ≡ disjs ds)
  counted n e =
      let t = (stands_description a H ds 0 (length a)).0 ((stands_whole a (words (desc H ds))).0 is) in
      let z : n ≡ t.0 = e ∙ graph_ends a H 0 t.0 w.1 t.1 in
      rw z (t.2, t.3)

  structure_is : (graphIn a 0 ≡ H) × (nodesEnd a 1 (get_or a 0 0) ≤ length a) × (0 < length a)
  structure_is =
      let t = (stands_description a H ds 0 (length a)).0 ((stands_whole a (words (desc H ds))).0 is) in
      let g = (stands_graph a H 0 t.0).0 t.1 in
      let e = g.1 in
      let n = nodes_stand a H 1 t.0 w.1 g.2 in
      let there = t.2 in
      (rw e n.0, rw e (omega (arith, n.1)), g.0)

module _ (a : List ℕ) where
  pub graph_inside : Image a → (n : ℕ) → n ≡ graphEnd a 0 → n < length a
  graph_inside (desc H ds, w, is) n e = (counted a H ds w is n e).0

  pub has_disjunctions : (b : List ℕ) → length a ≤ input_limit → length b ≤ input_limit → Image a → Image b → (n : ℕ) → n ≡ graphEnd a 0 →
      0 < get_or a n 0 → FitGiven a b 9
  has_disjunctions b la lb (desc H end, w, is) i n e h = let z = (counted a H end w is n e).1 in absurd (omega arith)
  has_disjunctions b la lb (desc H (x and ds), w, is) i n e h = nine la lb H x ds w is i

  -- a structure
  plain : Image a → (n : ℕ) → n ≡ graphEnd a 0 → get_or a n 0 ≤ 0 →
      (H : Graph) × WellFormed (desc H end) depth_limit × (a ≡ words (desc H end))
  plain (desc H end, w, is) n e h = (H, w, is)
  plain (desc H (x and ds), w, is) n e h = let z = (counted a H (x and ds) w is n e).1 in absurd (omega arith)

  module _ (b : List ℕ) (la : length a ≤ input_limit) (lb : length b ≤ input_limit) (i : Image a) (j : Image b) (n : ℕ)
      (e : n ≡ graphEnd a 0) (h : get_or a n 0 ≤ 0) where
    pub test_asked : TestAsked a b
    test_asked =
        let p = plain i n e h in
        let s = structure_is a p.0 end p.1 p.2 in
        let z = s.0 in
        record { structure = record { few = la; some = s.2; canonical = rw z p.1.0; there = s.1 }; few = lb; image = j }

    pub tested_number : (r : Bool) → Tested a b r → FitGiven a b (number_of (Ok r))
    tested_number true t =
        let p = plain i n e h in
        let z = (structure_is a p.0 end p.1 p.2).0 in
        fits la lb p.0 p.1 p.2 j.0 j.1 j.2 (rw z at (t j.0 j.1 j.2))
    tested_number false t =
        let p = plain i n e h in
        let z = (structure_is a p.0 end p.1 p.2).0 in
        six la lb p.0 p.1 p.2 j.0 j.1 j.2 (rw z at (t j.0 j.1 j.2))

-- the contract as an equation
pub given_number : (a b : List ℕ) (r : Verdict) → FitGiven a b (number_of r) ↔ (fitted a b ≡ number_of r)
given_number a b r = let t = fit_table a b (number_of r) in (t.1, t.0)

-- the answer with this number
answered : ℕ → Verdict
answered n = pick (eqb n 0) (Ok true) (pick (eqb n 6) (Ok false)
    (Err (pick (eqb n 3) TooLong (pick (eqb n 4) BadStructure (pick (eqb n 5) BadDescription HasDisjunctions)))))

answered_is : (r : Verdict) → answered (number_of r) ≡ r
unfolding answered
answered_is (Ok true) = refl
answered_is (Ok false) = refl
answered_is (Err TooLong) = refl
answered_is (Err BadStructure) = refl
answered_is (Err BadDescription) = refl
answered_is (Err HasDisjunctions) = refl

-- the contract allows one answer
pub one_fit : (a b : List ℕ) (r s : Verdict) → FitGiven a b (number_of r) → FitGiven a b (number_of s) → r ≡ s
one_fit a b r s g h = sym (answered_is r) ∙ ap answered (sym ((given_number a b r).0 g) ∙ (given_number a b s).0 h) ∙ answered_is s

-- in the words of satisfaction: of inputs that are read, the answer is `Ok true` exactly when the structure satisfies the description
pub satisfies_iff : (H : Graph) (d : Desc) (w : WellFormed (desc H end) depth_limit) → WellFormed d depth_limit →
    length (words (desc H end)) ≤ input_limit → length (words d) ≤ input_limit
    → (r : Verdict) → FitGiven (words (desc H end)) (words d) (number_of r) → (r ≡ Ok true) ↔ Sat (structure H w.0) d
satisfies_iff H d w v la lb r g =
    let t = fit_satisfies H d w v la lb in
    let e = (given_number (words (desc H end)) (words d) r).0 g in
    (λ z. t.0 (e ∙ ap number_of z), λ s. sym (answered_is r) ∙ ap answered (sym e ∙ t.1 s) ∙ answered_is (Ok true))
