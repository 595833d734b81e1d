-- Passes one after the other: each goes on to the whole, and one that drops nothing is the last.
-- Assumes nothing.
use Prim.Native.Nat.{ℕ, zero, suc, ◌+◌, ◌≤◌, ◌<◌}
use native.Mathlib.Omega.{arith}
use mathlib.Core.Path.{◌≡◌, refl, sym, ap, subst, ◌∙◌}
use mathlib.Core.Bool.{Bool, true, false}
use mathlib.Core.Option.{none}
use mathlib.Core.List.{List, ◌∷◌}
use lib.Dec.{ltb}
use borrow.Author.Tests.{lt-ltb}
use Rattle.theory.specs.Net.{Graph}
use Rattle.theory.specs.Canonical.{Can}
use Rattle.engine.specs.Placed.{Placed, place, Places, strip}
use Rattle.engine.specs.Marks.{Marking, all_kept, keep}
use Rattle.engine.specs.Certain.{flat, certain}
use Rattle.engine.specs.Quickly.{quick_at, Leaves}
use Rattle.modes_by_marks.specs.Names.{Distinct}
use Rattle.modes_by_marks.proofs.Marks.{false_true}
use Rattle.engine.specs.Stack.{Equivalent}
use Rattle.engine.proofs.Loop.{Loop, loop_start, loop_pass, loop_still, loop_fails}
use Rattle.engine.proofs.Joined.{joined_is}
use Rattle.loading.specs.Entry.{Entry, graphs}
use Rattle.marks.specs.Marked.{marking}
use Rattle.counting.specs.Counted.{inner_both}
use Rattle.classes.specs.Holds.{Since, Backs, Remembers, Undoable}
use Rattle.classes.proofs.Laws.{holds_agree, since_refl, since_trans, undoable_on}
use Rattle.quick.specs.declared.step.Step.{Step}
use Rattle.std.specs.Prelude.{Option, Some, None}
use Rattle.quick.specs.Stepped.{stepped, total}
use Rattle.entering.specs.Moved.{Moved}
use Rattle.quick.specs.Passed.{Passing, Passes}
use Rattle.entering.specs.Inputs.{Ready}
use Rattle.entering.specs.Stage.{Pair, Stage}
use Rattle.quick.specs.Quickened.{Quickening, Quickens}
use Rattle.entering.proofs.Moves.{moved_trans}
use Rattle.entering.proofs.Pairs.{whole_comes, whole_distinct}
use Rattle.entering.proofs.Settling.{agree_joins}

-- ---- on the joined description
module _ (n : ℕ) (t : List ℕ) (p : Pair n t) where
  abbrev pub top : Graph
  top = (joined_is p.inputs.first.d p.inputs.second.d p.j p.joined).k

  abbrev pub both : Places
  both = inner_both p.inputs.first.d p.inputs.second.d

  pub is : p.j ≡ place top both
  is = sym (joined_is p.inputs.first.d p.inputs.second.d p.j p.joined).is

  pub can : Can (strip (place top both))
  can = subst (λ (z : Placed). Can (strip z)) is (whole_comes n t p).0

  pub distinct : Distinct (place top both)
  distinct = subst Distinct is (whole_distinct n t p)

  -- between two passes
  pub record Between (k : ℕ) (w : List ℕ) : Type 0 where
    pub es : List Entry
    pub ready : Ready n t p.inputs k w es
    pub loop : Loop top both can distinct (graphs es) (marking w)

  pub begin : (k : ℕ) (w : List ℕ) → Stage n t p k w → marking w ≡ all_kept → Between k w
  begin k w s e = record {
    es = s.es;
    ready = s.ready;
    loop = subst (λ (m : Marking). Loop top both can distinct (graphs s.es) m) (sym e)
        (loop_start top both can distinct (graphs s.es) same
        (agree_joins (graphs s.es) same.fine₁ (holds_agree n s.es k w s.ready.holds)));
  }
    where
      kept : Equivalent (graphs s.es) (flat (strip (keep all_kept p.j)))
      kept = subst (λ (m : Marking). Equivalent (graphs s.es) (flat (strip (keep m p.j)))) e s.same

      same : Equivalent (graphs s.es) (top ∷ certain all_kept both)
      same = subst (λ (z : Placed). Equivalent (graphs s.es) (flat (strip (keep all_kept z)))) is kept

  pub stage : (k : ℕ) (w : List ℕ) → Between k w → Undoable n k w → Stage n t p k w
  stage k w o u = record {
    es = o.es;
    ready = o.ready;
    undoable = u;
    same =
        subst (λ (z : Placed). Equivalent (graphs o.es) (flat (strip (keep (marking w) z)))) (sym is) o.loop.same;
  }

  module _ (k : ℕ) (w : List ℕ) (o : Between k w) where
    abbrev pub asks : Passing n k w
    asks = record { t = t; inputs = p.inputs; es = o.es; ready = o.ready }

    module _ (r : Option Step) (w' : List ℕ) (v : Passes n k w r w') where
      pub fails : r ≡ None → quick_at p.j ≡ none
      fails y = let f = ((v.failing y).1 asks).1 in
          subst (λ (z : Placed). quick_at z ≡ none) (sym is)
          (loop_fails top both can distinct (graphs o.es) (marking w) o.loop f.0 f.1)

      module _ (j i : ℕ) (y : r ≡ Some (stepped j i)) where
        pub on : Between j w'
        on = let q = (v.standing j i y).2 asks in
            record {
              es = q.es';
              ready = q.ready';
              loop =
                  loop_pass top both can distinct (graphs o.es) (marking w) o.loop (graphs q.es') (marking w') q.is;
            }

        pub last : i ≡ 0 → Leaves p.j (marking w')
        last z = let q = (v.standing j i y).2 asks in
            subst (λ (z : Placed). Leaves z (marking w')) (sym is)
            (loop_still top both can distinct (graphs o.es) (marking w) o.loop (graphs q.es') (marking w') q.is
            (λ x m. ap (λ (f : Marking). f x) ((v.standing j i y).1.same z)))

-- ---- in the area
-- how many passes may follow, at most
abbrev pub rounds_left : Bool → List ℕ → ℕ
rounds_left true w = suc (total (marking w))
rounds_left false w = 0

module _ (n k : ℕ) (w₀ : List ℕ) where
  -- what holds of whatever pair stood at the start
  abbrev pub Each : ((t : List ℕ) → Pair n t → Type 0) → Type 0
  Each F = (t : List ℕ) (p : Pair n t) → Stage n t p k w₀ → marking w₀ ≡ all_kept → F t p

  pub record Rounds (log : ℕ) (again : Bool) (w : List ℕ) : Type 0 where
    pub moved : Moved k w₀ log w
    pub between : Each (λ t p. Between n t p log w)
    pub ended : again ≡ false → Each (λ t p. Leaves p.j (marking w))

  pub rounds_start : Quickening n k w₀ → Rounds k true w₀
  rounds_start c = record {
    moved = record { len = refl; rest = λ j h. refl; since = since_refl n c.stage.es k w₀ c.stage.ready.holds };
    between = λ t p s e. begin n t p k w₀ s e;
    ended = λ z. let x : ◌≡◌ {A = ℕ} 0 1 = cc in absurd (omega arith);
  }

  pub quick_stands : (log : ℕ) (again : Bool) (w : List ℕ) → Rounds log again w → again ≡ false → Quickens n k w₀ (Some log) w
  quick_stands log again w v z = record {
    standing = λ a x. let f : log ≡ a = cc in
        subst (λ (a : ℕ). Moved k w₀ a w × Each (λ t p. Leaves p.j (marking w) × Stage n t p a w)) f (
          v.moved,
          λ t p s e. (
            v.ended z t p s e,
            stage n t p log w (v.between t p s e)
                (undoable_on n k w₀ s.undoable log w v.moved.since),
          ),
        );
    failing = λ x. let q : ◌≡◌ {A = ℕ} 0 1 = cc in absurd (omega arith);
  }

  module _ (c : Quickening n k w₀) (log : ℕ) (again : Bool) (w : List ℕ) (v : Rounds log again w) where
    pub rounds_asks : Passing n log w
    rounds_asks = asks n c.t c.p log w (v.between c.t c.p c.stage c.every)

  module _ (log : ℕ) (again : Bool) (w : List ℕ) (v : Rounds log again w) (r : Option Step) (w₁ : List ℕ) (u : Passes n log w r w₁) where
    module _ (y : r ≡ None) where
      since₁ : Since k w₀ log w₁
      since₁ = since_trans k w₀ log w log w₁ v.moved.since (u.failing y).0.since

      pub rounds_undo : Remembers k log w₁
      rounds_undo = record { w₀ = w₀; since = since₁ }

      pub quick_fails : (w₂ : List ℕ) → Backs k log w₁ w₂ → Quickens n k w₀ None w₂
      quick_fails w₂ b =
          let q = (u.failing y).0 in
          record {
            standing = λ a x. let z : ◌≡◌ {A = ℕ} 0 1 = cc in absurd (omega arith);
            failing = λ x. (
              record {
                len = b.len ∙ q.len ∙ v.moved.len;
                rest = λ j h. b.rest j (omega arith) ∙ q.rest j h
                    ∙ v.moved.rest j h;
                since = b.since w₀ since₁;
              },
              λ t p s e. fails n t p log w (v.between t p s e) r w₁ u y,
            );
          }

    module _ (j i : ℕ) (y : r ≡ Some (stepped j i)) where
      pub rounds_on : Rounds j (ltb 0 i) w₁
      rounds_on = record {
        moved = moved_trans k w₀ log w j w₁ v.moved (u.standing j i y).0;
        between = λ t p s e. on n t p log w (v.between t p s e) r w₁ u j i y;
        ended = λ z t p s e. last n t p log w (v.between t p s e) r w₁ u j i y (still i z);
      }
        where
          still : (i : ℕ) → ltb 0 i ≡ false → i ≡ 0
          still zero z = refl
          still (suc i) z = absurd (false_true (sym z ∙ lt-ltb 0 (suc i) (omega arith)))

      pub rounds_less : again ≡ true → rounds_left (ltb 0 i) w₁ < rounds_left again w
      rounds_less z = let f = (u.standing j i y).1.fewer in
          subst (λ (b : Bool). rounds_left (ltb 0 i) w₁ < rounds_left b w) (sym z) (go i f)
        where
          go : (i : ℕ) → total (marking w₁) + i ≤ total (marking w) → rounds_left (ltb 0 i) w₁ < suc (total (marking w))
          go zero f = omega arith
          go (suc i) f = subst (λ (b : Bool). rounds_left b w₁ < suc (total (marking w))) (sym (lt-ltb 0 (suc i) (omega arith)))
              (omega arith)
