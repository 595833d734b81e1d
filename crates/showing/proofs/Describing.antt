-- A description is put out: its graph, its disjunctions, and the number of these between.
-- Assumes nothing.
use Prim.Native.Nat.{ℕ, ◌+◌, ◌≤◌, ◌<◌}
use native.Mathlib.Omega.{arith}
use mathlib.Core.Path.{◌≡◌, sym, subst}
use mathlib.Core.List.{List, ◌∷◌, ◌++◌}
use lib.ListN.{length, set}
use Rattle.theory.specs.Descr.{Disjs, disjs}
use Rattle.theory.specs.Layout.{disjs_words}
use Rattle.theory.specs.Canonical.{Can, CanAll}
use Rattle.area.specs.Map.{RESULT}
use Rattle.layout.specs.Standing.{graph_words}
use Rattle.engine.specs.Placed.{Placed, place, strip}
use Rattle.engine.specs.Marks.{Marking, keep}
use Rattle.engine.specs.Shown.{shown_all}
use Rattle.engine.specs.Sane.{Sane, SaneAll}
use Rattle.showing.specs.Putting.{Written, Describing, Describes, LeadPut, lead, left_all, Disjoining, Disjoins}
use Rattle.showing.proofs.Written.{written_order, written_between, based}
use Rattle.showing.proofs.Leaving.{description_words, few_disjunctions}
use Rattle.showing.proofs.Leading.{lead_room}

pub inner_can : (d : Placed) (m : Marking) → Can (strip (keep m d)) → CanAll (left_all m d)
inner_can (place g ds) m c = c.1

pub inner_sane : (d : Placed) (m : Marking) → Sane (strip (keep m d)) → SaneAll (left_all m d)
inner_sane (place g ds) m c = c.1

module _ (n : ℕ) (w : List ℕ) (g left o e : ℕ) (w₁ : List ℕ) (u : LeadPut n w g left o e w₁) (c : Describing n w g left o) where
  abbrev later : Disjs
  later = shown_all (left_all c.base.m c.lies.d)

  near : e + 1 + length (disjs_words later) ≤ 2048
  near = omega (
    arith,
    lead_room n w g left o c,
    written_order n w o (graph_words (lead (strip (keep c.base.m c.lies.d)))) e w₁ (u c),
  )

  pub graph_end : e < 2048
  graph_end = omega (arith, near)

  pub asks_later : Disjoining n w₁ g left (e + 1)
  asks_later = record {
    base = based n w c.base o (graph_words (lead (strip (keep c.base.m c.lies.d)))) e w₁ (u c);
    lies = c.lies;
    among = c.among;
    can = inner_can c.lies.d c.base.m c.can;
    sane = inner_sane c.lies.d c.base.m c.sane;
    room = near;
  }

  module _ (r count : ℕ) (w₂ : List ℕ) (v : Disjoins n w₁ g left (e + 1) r count w₂) where
    told : Written n w₁ (e + 1) (disjs_words later) r w₂ × (count ≡ disjs later)
    unfolding asks_later
    told = v asks_later

    pub later_few : count ≤ 2048
    later_few = omega (arith, told.1, few_disjunctions later, near)

    pub later_long : RESULT + e < length w₂
    later_long = omega (arith, told.0.holds.long, near)

    pub described : Written n w o (graph_words (lead (strip (keep c.base.m c.lies.d))) ++ disjs later ∷ disjs_words later) r
        (set w₂ (RESULT + e) count)
    described = subst (λ (k : ℕ). Written n w o (graph_words (lead (strip (keep c.base.m c.lies.d))) ++ k ∷ disjs_words later) r
        (set w₂ (RESULT + e) count)) told.1
        (written_between n w o (graph_words (lead (strip (keep c.base.m c.lies.d)))) e w₁ (disjs_words later) r w₂ count (u c)
        told.0 graph_end)

pub describes : (n : ℕ) (w : List ℕ) (g left o e : ℕ) (w₁ : List ℕ) → LeadPut n w g left o e w₁ → (r count : ℕ) (w₂ : List ℕ) →
    Disjoins n w₁ g left (e + 1) r count w₂ → Describes n w g left o r (set w₂ (RESULT + e) count)
describes n w g left o e w₁ u r count w₂ v c =
    subst (λ (xs : List ℕ). Written n w o xs r (set w₂ (RESULT + e) count)) (sym (description_words c.lies.d c.base.m))
    (described n w g left o e w₁ u c r count w₂ v)
