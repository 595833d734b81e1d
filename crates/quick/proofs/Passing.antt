-- A pass over the disjunctions of both inputs: the first, then the second.
-- Assumes nothing.
use Prim.Native.Nat.{ℕ, ◌+◌}
use native.Mathlib.Omega.{arith}
use mathlib.Core.Path.{◌≡◌, refl, ap, subst, ◌∙◌}
use mathlib.Core.Logic.{inl, inr, ⊎_elim}
use mathlib.Core.List.{List}
use Rattle.theory.specs.Limits.{depth_limit}
use Rattle.theory.specs.Net.{Graph}
use Rattle.area.specs.Map.{SECOND}
use Rattle.engine.specs.Placed.{Placed, place, Places, stop, ◌also◌}
use Rattle.engine.specs.Marks.{Marking}
use Rattle.engine.specs.Beside.{◌next◌}
use Rattle.engine.specs.Quickly as quickly
use Rattle.engine.specs.Quickly.{fails, stands, any_at, narrow_at, inside_at}
use Rattle.loading.specs.Entry.{graphs}
use Rattle.loading.proofs.Lying.{distinct_of}
use Rattle.marks.specs.Marked.{marking}
use Rattle.counting.specs.Counted.{inner_both}
use Rattle.classes.specs.Holds.{Since, Backs, Remembers}
use Rattle.classes.proofs.Laws.{since_trans}
use Rattle.quick.specs.declared.step.Step.{Step}
use Rattle.std.specs.Prelude.{Option, Some, None}
use Rattle.quick.specs.Stepped.{stepped, Fewer, Narrowing, NarrowStands, Narrows}
use Rattle.quick.proofs.Stepping.{same_log, same_drops}
use Rattle.entering.specs.Moved.{Moved}
use Rattle.quick.specs.Passed.{Passing, PassStands, Passes}
use Rattle.entering.proofs.Mirror.{inside_only}
use Rattle.entering.proofs.Clearing.{clear_alike_of}
use Rattle.entering.proofs.Pairs.{inputs_apart}
use Rattle.quick.proofs.Sifting.{fewer_trans}
use Rattle.entering.proofs.Moves.{moved_trans, moved_words, stands_on}

-- ---- engine's `narrow_at`, one list of disjunctions after another
after : quickly.Step → (List Graph → Marking → quickly.Step) → quickly.Step
after s f = elim s [ fails n ↦ fails n | stands T n ↦ f T n ]

narrow_next : (S : List Graph) (m : Marking) (ds es : Places) →
    narrow_at S m (ds next es) ≡ after (narrow_at S m ds) (λ T n. narrow_at T n es)
unfolding Rattle.modes_by_marks.specs.Quickly.narrow_at after
narrow_next S m stop es = refl
narrow_next S m (a also ds) es = go (any_at S m a) (λ T n. narrow_next T n ds es)
  where
    go : (s : quickly.Step) → ((T : List Graph) (n : Marking) →
        narrow_at T n (ds next es) ≡ after (narrow_at T n ds) (λ T n. narrow_at T n es)) →
        ◌≡◌ {A = quickly.Step} (elim s [ fails n ↦ fails n | stands T n ↦ narrow_at T n (ds next es) ])
        (after (elim s [ fails n ↦ fails n | stands T n ↦ narrow_at T n ds ]) (λ T n. narrow_at T n es))
    go (fails n) on = refl
    go (stands T n) on = on T n

narrow_both : (S : List Graph) (m : Marking) (a b : Placed) →
    narrow_at S m (inner_both a b) ≡ after (inside_at S m a) (λ T n. inside_at T n b)
unfolding Rattle.modes_by_marks.specs.Quickly.narrow_at
narrow_both S m (place g ds) (place h es) = narrow_next S m ds es

module _ (n k : ℕ) (w : List ℕ) where
  abbrev pub first : Passing n k w → Narrowing n k w 0 depth_limit
  first c = record {
    es = c.es;
    s = stands_on c.inputs c.ready;
    lies = c.inputs.first;
    among = c.inputs.among_first;
    clear = c.ready.clear_first;
  }

  module _ (r : Option Step) (w₁ : List ℕ) (v : Narrows n k w 0 depth_limit r w₁) where
    pub pass_fails : r ≡ None → Passes n k w None w₁
    unfolding after
    pass_fails y = let f = v.failing y in record {
      standing = λ j i z. let x : ◌≡◌ {A = ℕ} 0 1 = cc in absurd (omega arith);
      failing = λ z. (
        f.0,
        λ c. let told = f.2 (first c) in (
          told.holds',
          (
            marking w₁,
            narrow_both (graphs c.es) (marking w) c.inputs.first.d c.inputs.second.d
                ∙ ap (λ (s : quickly.Step). after s (λ T n. inside_at T n c.inputs.second.d)) told.is,
          ),
        ),
      );
    }

    module _ (j i : ℕ) (y : r ≡ Some (stepped j i)) where
      pub told : (c : Passing n k w) → NarrowStands n k w 0 depth_limit j w₁ (first c)
      told c = (v.standing j i y).2 (first c)

      abbrev pub second : Passing n k w → Narrowing n j w₁ SECOND depth_limit
      second c = record {
        es = (told c).es';
        s = record {
          t = c.t;
          loaded = moved_words k w j w₁ c.ready.holds.long (v.standing j i y).0 ∙ c.ready.loaded;
          m = marking w₁;
          marks = refl;
          U = c.inputs.U;
          ground = c.inputs.ground;
          holds = (told c).stood.holds;
          inside = (told c).stood.inside;
        };
        lies = c.inputs.second;
        among = c.inputs.among_second;
        clear = clear_alike_of (marking w) (marking w₁) c.es (told c).es' c.inputs.second
            (λ y a. inside_only (graphs c.es) (marking w) (marking w₁) (graphs (told c).es') c.inputs.first.d
            (distinct_of c.inputs.first) (told c).is y (λ b. inputs_apart c.inputs y b a))
            (λ o i. ⊎_elim (λ a. inl a) (λ a. let b = a.1 in inr (inl (omega (arith, c.inputs.apart)))) ((told c).stood.fresh o i))
            c.ready.clear_second;
      }

      module _ (r₂ : Option Step) (w₂ : List ℕ) (u : Narrows n j w₁ SECOND depth_limit r₂ w₂) where
        through : (c : Passing n k w) (s : quickly.Step) → inside_at (graphs (told c).es') (marking w₁) c.inputs.second.d ≡ s →
            narrow_at (graphs c.es) (marking w) (inner_both c.inputs.first.d c.inputs.second.d) ≡ s
        unfolding after
        through c s e = narrow_both (graphs c.es) (marking w) c.inputs.first.d c.inputs.second.d
            ∙ ap (λ (s : quickly.Step). after s (λ T n. inside_at T n c.inputs.second.d)) (told c).is ∙ e

        module _ (z : r₂ ≡ None) where
          since₂ : Since k w j w₂
          since₂ = since_trans k w j w₁ j w₂ (v.standing j i y).0.since (u.failing z).0.since

          pub asks_undo : Remembers k j w₂
          asks_undo = record { w₀ = w; since = since₂ }

          pub pass_fails_2 : (w₃ : List ℕ) → Backs k j w₂ w₃ → Passes n k w None w₃
          pass_fails_2 w₃ b =
              let p = (v.standing j i y).0 in
              let q = (u.failing z).0 in
              record {
                standing = λ j i z. let x : ◌≡◌ {A = ℕ} 0 1 = cc in absurd (omega arith);
                failing = λ o. (
                  record {
                    len = b.len ∙ q.len ∙ p.len;
                    rest = λ i h. b.rest i (omega arith) ∙ q.rest i h
                        ∙ p.rest i h;
                    since = b.since w since₂;
                  },
                  λ c. (
                    b.holds n c.es w c.ready.holds since₂,
                    (marking w₂, through c (fails (marking w₂)) ((u.failing z).2 (second c)).is),
                  ),
                );
              }

        pub pass_stands : (l d : ℕ) → r₂ ≡ Some (stepped l d) → Passes n k w (Some (stepped l (i + d))) w₂
        pass_stands l d z = record {
          standing = λ a e x.
              let f : l ≡ a = same_log _ _ _ _ x in
              let g : i + d ≡ e = same_drops _ _ _ _ x in
              subst (λ (a : ℕ). Moved k w a w₂ × Fewer e (marking w) (marking w₂) × ((c : Passing n k w) → PassStands n k w a w₂ c)) f (
                moved_trans k w j w₁ l w₂ (v.standing j i y).0 (u.standing l d z).0,
                subst (λ (e : ℕ). Fewer e (marking w) (marking w₂)) g
                    (fewer_trans i d (marking w) (marking w₁) (marking w₂) (v.standing j i y).1 (u.standing l d z).1),
                both,
              );
          failing = λ x. let q : ◌≡◌ {A = ℕ} 0 1 = cc in absurd (omega arith);
        }
          where
            both : (c : Passing n k w) → PassStands n k w l w₂ c
            both c =
                let s = (u.standing l d z).2 (second c) in
                record {
                  es' = s.es';
                  ready' = record {
                    loaded = moved_words k w l w₂ c.ready.holds.long
                        (moved_trans k w j w₁ l w₂ (v.standing j i y).0 (u.standing l d z).0) ∙ c.ready.loaded;
                    holds = s.stood.holds;
                    inside = s.stood.inside;
                    clear_first = clear_alike_of (marking w₁) (marking w₂) (told c).es' s.es' c.inputs.first
                        (λ y a. inside_only (graphs (told c).es') (marking w₁) (marking w₂) (graphs s.es') c.inputs.second.d
                        (distinct_of c.inputs.second) s.is y (λ b. inputs_apart c.inputs y a b))
                        (λ o i. ⊎_elim (λ a. inl a) (λ a. let b = a.0 in
                        inr (inr (omega (arith, c.inputs.apart)))) (s.stood.fresh o i)) (told c).clear';
                    clear_second = s.clear';
                  };
                  is = through c (stands (graphs s.es') (marking w₂)) s.is;
                }
