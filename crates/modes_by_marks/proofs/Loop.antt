-- The quick step as a loop that leaves its stack standing and ends at a pass that drops nothing. Each law is one return of an engine.
-- Assumes nothing.
use mathlib.Core.Path.{◌≡◌, refl, ap, sym, ◌∙◌, subst}
use mathlib.Core.Option.{Option, none, some}
use mathlib.Core.List.{[], ◌∷◌, Memᴰ, List}
use Prim.Native.Nat.{ℕ, ◌≤◌}
use native.Mathlib.Omega.{arith}
use Rattle.descriptions.specs.Descr.{Desc, Disjs, desc}
use Rattle.descriptions.specs.Modes.{size}
use Rattle.descriptions.proofs.Mean.{Can}
use Rattle.descriptions.proofs.Live.{Agrees}
use Rattle.modes_by_marks.specs.Placed.{Placed, Places, place, strip, strip_all}
use Rattle.modes_by_marks.specs.Marks.{Marking, all_kept, keep, keep_all, left_by}
use Rattle.modes_by_marks.specs.Certain.{certain}
use Rattle.modes_by_marks.specs.Quickly.{Leaves, fails, narrow_at, quick_at, stands}
use Rattle.modes_by_marks.specs.Names.{Distinct, names}
use Rattle.modes_by_marks.proofs.Dropping.{Left, narrow, try}
use Rattle.modes_by_marks.proofs.Passes.{Passed, pass_fails, pass_last, pass_on, passed_one}
use Rattle.modes_by_marks.proofs.Marks.{keep_all_marked, keep_same}
use Rattle.modes_by_marks.proofs.QuickStep.{NarrowedAt, narrow_at_ok, quick_passed}
use Rattle.modes_by_marks.proofs.Stack.{Same}
use Rattle.modes_by_marks.proofs.Standing.{standing_agrees, standing_can, standing_same, standing_try}
use Rattle.descriptions.proofs.Laws.{Laws}
use Rattle.descriptions.specs.Joining.{Joining}

module _ {Graph : Type 0} where
  none_left : (d : Placed Graph) (o : Option Marking) → left_by d o ≡ none → o ≡ none
  none_left d none e = refl
  none_left d (some m) e = let z : ◌≡◌ {A = ℕ} 0 1 = cc in absurd (omega arith)

module _ {Graph : Type 0} {J : Joining Graph} (𝓛 : Laws J) where
  module _ (g : Graph) (ds : Places Graph) (c : Can 𝓛 (strip (place g ds))) (w : Distinct (place g ds)) where
    abbrev pub d : Placed Graph
    d = place g ds

    -- between two passes: what is left has the greatest stable part of the whole, and the stack joins as all that is certain in it does
    pub record Loop (T : List Graph) (m : Marking) : Type 0 where
      pub toward : (o : Option (Desc Graph)) → Passed J (strip (keep m (place g ds))) o → Passed J (strip (place g ds)) o
      pub can : Can 𝓛 (strip (keep m (place g ds)))
      pub same : Same 𝓛 T (g ∷ certain m ds)
      pub agrees : Agrees J T

    pub loop_start : (T : List Graph) → Same 𝓛 T (g ∷ certain all_kept ds) → Agrees J T → Loop T all_kept
    loop_start T s a = record {
      toward = λ o p. subst (λ (z : Placed Graph). Passed J (strip z) o) (keep_all_marked d) p;
      can = subst (λ (z : Placed Graph). Can 𝓛 (strip z)) (sym (keep_all_marked d)) c;
      same = s;
      agrees = a;
    }

    module _ (T : List Graph) (m : Marking) (l : Loop T m) where
      abbrev D : Disjs Graph
      D = strip_all (keep_all m ds)

      tries : (o : Option (Left Graph (Disjs Graph))) → narrow J T D ≡ o →
          try J [] (strip (keep m d)) ≡ elim o [ none ↦ none | some r ↦ some (desc g r.left) ]
      tries o e = standing_try 𝓛 g D l.can T l.same l.agrees
          ∙ ap {B = Option (Desc Graph)}
          (λ (o : Option (Left Graph (Disjs Graph))). elim o [ none ↦ none | some r ↦ some (desc g r.left) ]) e

      settled : (o : Option (Desc Graph)) → Passed J (strip (keep m d)) o → left_by d (quick_at J d) ≡ o
      settled o p = passed_one J (strip d) (left_by d (quick_at J d)) o (quick_passed 𝓛 d c w) (l.toward o p)

      -- a pass that fails
      pub loop_fails : (n : Marking) → narrow_at J T m ds ≡ fails n → quick_at J d ≡ none
      loop_fails n e = none_left d (quick_at J d)
          (settled none (pass_fails 𝓛 (strip (keep m d)) l.can
          (tries none (subst (NarrowedAt J T m ds) e (narrow_at_ok J ds w T m)).0)))

      module _ (U : List Graph) (n : Marking) (e : narrow_at J T m ds ≡ stands U n) where
        abbrev next : Left Graph (Disjs Graph)
        next = record { stack = U; left = strip_all (keep_all n ds) }

        narrowed : narrow J T D ≡ some next
        narrowed = (subst (NarrowedAt J T m ds) e (narrow_at_ok J ds w T m)).0

        -- a pass after which another follows
        pub loop_pass : Loop U n
        loop_pass = record {
          toward = λ o p. l.toward o (pass_on 𝓛 (strip (keep m d)) (strip (keep n d)) l.can (tries (some next) narrowed) o p);
          can = standing_can 𝓛 g D l.can T l.same l.agrees next narrowed;
          same = standing_same 𝓛 g D l.can T l.same l.agrees next narrowed;
          agrees = standing_agrees 𝓛 g D l.can T l.same l.agrees next narrowed;
        }

        -- a pass that drops nothing is the last
        pub loop_last : size (strip (keep m d)) ≤ size (strip (keep n d)) → Leaves J d n
        loop_last h = settled (some (strip (keep n d)))
            (pass_last 𝓛 (strip (keep m d)) (strip (keep n d)) l.can (tries (some next) narrowed) h)

        pub loop_still : ((y : ℕ) → Memᴰ y (names (place g ds)) → n y ≡ m y) → Leaves J d n
        loop_still h = loop_last (same_size (keep_same d n m h))
          where
            same_size : keep n d ≡ keep m d → size (strip (keep m d)) ≤ size (strip (keep n d))
            same_size q = let z : size (strip (keep n d)) ≡ size (strip (keep m d)) = ap (λ (x : Placed Graph). size (strip x)) q in
                omega arith
