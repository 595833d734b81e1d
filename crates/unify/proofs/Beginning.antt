-- Both inputs are opened and all alternatives kept. Assumes nothing.
use mathlib.Core.Path.{◌≡◌, refl, sym, ◌∙◌, subst}
use mathlib.Core.Logic.{inl, inr}
use mathlib.Core.Option.{none}
use mathlib.Core.List.{List, [], ◌∷◌}
use Prim.Native.Nat.{ℕ, ◌≤◌}
use native.Mathlib.Omega.{arith}
use lib.ListN.{length}
use Rattle.theory.specs.Limits.{depth_limit, input_limit}
use Rattle.theory.specs.Net.{Graph, Clash}
use Rattle.theory.specs.Descr.{Desc, desc, Disjs}
use Rattle.theory.specs.Layout as layout
use Rattle.theory.specs.Layout.{WellFormed}
use Rattle.theory.specs.Join.{join}
use Rattle.theory.specs.Modes.{joined}
use Rattle.theory.proofs.Instance.{none_join}
use Rattle.area.specs.Map.{WORDS, SIZE}
use Rattle.area.specs.Region.{region, loaded_words}
use Rattle.area.specs.declared.map.Nodes.{Nodes}
use Rattle.area.proofs.Region.{words_same}
use Rattle.classes.proofs.Laws.{holds_frame, undoable_frame}
use Rattle.marks.specs.Marked.{Cleared}
use Rattle.opening.specs.Opening.{Read, Stand, OpenedAs, Opening, Opens}
use Rattle.opening.specs.declared.Opened.{Opened}
use Rattle.entering.proofs.Stages.{first_stage}
use Rattle.finding_clash.specs.TwoGraphs.{Locating, Locates}
use Rattle.finding_clash.proofs.Loaded.{opened_asks, opened_told}
use Rattle.std.specs.Prelude.{Option, Some, None, Ok, Err}
use Rattle.answering.specs.declared.hand.Failure.TheVariants.{Clash as NodeClash}
use Rattle.unify.specs.Making.{begun, Begun, Begins, DefiniteClash}

clash_none : (g h : Graph) (ds es : Disjs) → WellFormed (desc g ds) depth_limit → WellFormed (desc h es) depth_limit → Clash (g ∷ h ∷ []) →
    joined (desc g ds) (desc h es) ≡ none
unfolding Rattle.descriptions.specs.Modes.joined
clash_none g h ds es p q c = let z : join (g ∷ h ∷ []) ≡ none = none_join g (h ∷ []) (p.0, (q.0, tt)) c in
    rw (z, Rattle.descriptions.specs.Modes.joined) refl

loaded_again : (w w' : List ℕ) → SIZE ≤ length w → Cleared w w' → region WORDS 2048 w ≡ loaded_words w'
unfolding loaded_words
loaded_again w w' h c = sym (words_same w w' h c.len (λ j a b. c.rest j (inl b)))

module _ (w a b : List ℕ) (o : Opening w a b) (r : Option Opened) (w₁ : List ℕ) (p : Opens w a b r w₁) where
  long : SIZE ≤ length w₁
  long = let l = p.len in let h = o.long in omega arith

  -- they clash: the node is told
  pub asks_node : Locating w₁
  asks_node = opened_asks w a b o r w₁ p

  pub begins_clash : r ≡ None → (i : ℕ) (w₂ : List ℕ) → Locates w₁ i w₂ → Begins w a b (Err (NodeClash i)) w₂
  begins_clash e i w₂ l = record {
    len = l.len ∙ p.len;
    rest = λ j h. l.rest j h ∙ p.rest j (omega arith);
    told = λ d f q. (i, refl, told d f q (subst (OpenedAs w₁ d f) e (p.told d f q)));
  }
    where
      told : (d f : Desc) → Read a b d f → OpenedAs w₁ d f None → DefiniteClash d f i
      told (desc g ds) (desc h es) q c =
          (clash_none g h ds es q.first_well q.second_well c, opened_told w a b o r w₁ p i w₂ l g h ds es q c)

  -- they join: all alternatives are kept
  module _ (n : Nodes) (k : ℕ) (e : r ≡ Some (begun n k)) (w₂ : List ℕ) (c : Cleared w₁ w₂) where
    pub begins_joined : Begins w a b (Ok (begun n k)) w₂
    begins_joined = record {
      len = c.len ∙ p.len;
      rest = λ j h. c.rest j (inr h) ∙ p.rest j (omega arith);
      told = λ d f q. told d f q (subst (OpenedAs w₁ d f) e (p.told d f q));
    }
      where
        few : (ws : List ℕ) (d : Desc) → ws ≡ layout.words d → length ws ≤ input_limit → length (layout.words d) ≤ input_limit
        few ws d e h = subst (λ (z : List ℕ). length z ≤ input_limit) e h

        told : (d f : Desc) → Read a b d f → OpenedAs w₁ d f (Some (begun n k)) → Begun d f w₂ (Ok (begun n k))
        told d f q t =
            let l = c.len in let h = long in
            let s : Stand (loaded_words w₂) d f n.count = subst (λ (z : List ℕ). Stand z d f n.count) (loaded_again w₁ w₂ long c) t.0 in
            let held = holds_frame n.count _ k w₁ t.1 w₂ c.len (λ j m. c.rest j (inl m)) in
            let u = undoable_frame n.count k w₁ t.2 w₂ c.len (λ j m. c.rest j (inl m)) in
            let x = first_stage w₂ d f n.count (omega arith) q.first_well q.second_well (few a d q.first_is o.inputs.first_few)
            (few b f q.second_is o.inputs.second_few) s k held u c.marks in
            (x.0, x.1.0, x.1.1.0, x.1.1.1, c.marks)
