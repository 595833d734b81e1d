-- An alternative is tried: it is entered, narrowed, and taken back; engine's `try_at`, return by return.
-- Assumes nothing.
use Prim.Native.Nat.{ℕ}
use native.Mathlib.Omega.{arith}
use mathlib.Core.Path.{◌≡◌, refl, sym, ap, subst, ◌∙◌}
use mathlib.Core.Bool.{Bool, true, false}
use mathlib.Core.List.{List, ◌∷◌, ◌++◌}
use Rattle.theory.specs.Net.{Graph, Clash, Agree}
use Rattle.theory.specs.Descr.{agree}
use Rattle.area.specs.Region.{loaded_words}
use Rattle.area.proofs.Region.{words_same}
use Rattle.engine.specs.Placed.{Placed, place, strip}
use Rattle.engine.specs.Marks.{Marking, keep}
use Rattle.engine.specs.Certain.{flat, certain}
use Rattle.engine.specs.Quickly.{fails, stands, try_at, narrow_at, inside_at}
use Rattle.loading.specs.Entry.{graphs}
use Rattle.marks.specs.Marked.{marking}
use Rattle.marks.proofs.Marks.{marking_frame}
use Rattle.classes.specs.Holds.{Since, Remembers, Backs}
use Rattle.classes.proofs.Laws.{holds_agree, since_trans}
use Rattle.quick.specs.declared.step.Step.{Step}
use Rattle.std.specs.Prelude.{Option, Some, None}
use Rattle.entering.specs.Entered.{Entering, entered, Enters}
use Rattle.entering.specs.Clear.{ClearOf}
use Rattle.quick.specs.Stepped.{stepped, total, Fewer, Narrowing, Narrows, Tries}
use Rattle.quick.proofs.Stepping.{same_log, same_drops}
use Rattle.entering.specs.Moved.{Moved}
use Rattle.entering.proofs.Settling.{agrees_true, clash_false}
use Rattle.entering.proofs.Within.{entered_graphs, entered_inside, fine, entered_clear}

-- ---- engine's `try_at`, by whether what is pushed agrees
try_by : (S : List Graph) (m : Marking) (d : Placed) (b : Bool) → agree (S ++ flat (strip (keep m d))) ≡ b →
    try_at S m d ≡ elim b [ false ↦ fails m | true ↦ inside_at (S ++ flat (strip (keep m d))) m d ]
unfolding Rattle.modes_by_marks.specs.Quickly.try_at
try_by S m (place g ds) b e = ap (λ (b : Bool). elim b [ false ↦ fails m | true ↦ narrow_at (S ++ g ∷ certain m ds) m ds ]) e

module _ (n k : ℕ) (w : List ℕ) (g left : ℕ) where
  module _ (o : Option ℕ) (w₁ : List ℕ) (u : Enters n k w g left o w₁) (c₀ : Entering n k w g left) where
    marks₁ : marking w₁ ≡ marking w
    marks₁ = marking_frame w w₁ c₀.s.holds.long u.len (λ j a b. u.rest j (omega arith))

    loaded₁ : loaded_words w₁ ≡ loaded_words w
    loaded₁ = words_same w w₁ c₀.s.holds.long u.len (λ j a b. u.rest j a)

    pub tries_clash : o ≡ None → Tries n k w g left None w₁
    tries_clash z = record {
      moved = record { len = u.len; rest = λ j h. u.rest j (omega arith); since = (u.clashed z).0 };
      standing = λ j i y. let x : ◌≡◌ {A = ℕ} 0 1 = cc in absurd (omega arith);
      failing = λ y. (
        let e : total (marking w₁) ≡ total (marking w) = ap total marks₁ in omega arith,
        λ c.
            let told = (u.clashed z).1 c in
            record {
              holds' = told.1;
              is = try_by (graphs c.es) (marking w) c.lies.d false
                  (clash_false _ (fine n k w g left c) (subst Clash (entered_graphs n k w g left c) told.0)) ∙ ap fails (sym marks₁);
            },
      );
    }

    module _ (e : ℕ) (z : o ≡ Some e) where
      abbrev goes : Entering n k w g left → Narrowing n e w₁ g left
      goes c = record {
        es = entered c;
        s = record {
          t = c.s.t;
          loaded = loaded₁ ∙ c.s.loaded;
          m = marking w₁;
          marks = refl;
          U = c.s.U;
          ground = c.s.ground;
          holds = (u.pushed e z).1 c;
          inside = entered_inside n k w g left c;
        };
        lies = c.lies;
        among = c.among;
        clear = subst (λ (m : Marking). ClearOf (entered c) m c.lies) (sym marks₁)
            (entered_clear n k w g left c);
      }

      pub asks_narrow : Narrowing n e w₁ g left
      asks_narrow = goes c₀

      -- it is narrowed where it stands
      going : (c : Entering n k w g left) →
          try_at (graphs c.es) (marking w) c.lies.d ≡ inside_at (graphs (entered c)) (marking w₁) c.lies.d
      going c =
          let good = agrees_true _ (fine n k w g left c)
          (subst Agree (entered_graphs n k w g left c) (holds_agree n (entered c) e w₁ ((u.pushed e z).1 c))) in
          try_by (graphs c.es) (marking w) c.lies.d true good
          ∙ ap (λ (S : List Graph). inside_at S (marking w) c.lies.d) (sym (entered_graphs n k w g left c))
          ∙ ap (λ (m : Marking). inside_at (graphs (entered c)) m c.lies.d) (sym marks₁)

      module _ (r : Option Step) (w₂ : List ℕ) (v : Narrows n e w₁ g left r w₂) where
        -- back from j entries to those of the start
        module _ (j : ℕ) (m : Moved e w₁ j w₂) where
          abbrev since₂ : Since k w j w₂
          since₂ = since_trans k w e w₁ j w₂ (u.pushed e z).0 m.since

          pub asks_back : Remembers k j w₂
          asks_back = record { w₀ = w; since = since₂ }

          module _ (w₃ : List ℕ) (b : Backs k j w₂ w₃) where
            moved₃ : Moved k w k w₃
            moved₃ = record {
              len = b.len ∙ m.len ∙ u.len;
              rest = λ i h. b.rest i (omega arith) ∙ m.rest i h
                  ∙ u.rest i (omega arith);
              since = b.since w since₂;
            }

            marks₃ : marking w₃ ≡ marking w₂
            marks₃ = marking_frame w₂ w₃ (omega (arith, m.len, u.len, c₀.s.holds.long)) b.len (λ i h l. b.rest i (omega arith))

        pub tries_fails : (y : r ≡ None) (w₃ : List ℕ) → Backs k e w₂ w₃ → Tries n k w g left None w₃
        tries_fails y w₃ b =
            let f = v.failing y in
            record {
              moved = moved₃ e f.0 w₃ b;
              standing = λ j i y. let x : ◌≡◌ {A = ℕ} 0 1 = cc in absurd (omega arith);
              failing = λ y. (
                (let p : total (marking w₁) ≡ total (marking w) = ap total marks₁ in
                    let q : total (marking w₃) ≡ total (marking w₂) = ap total (marks₃ e f.0 w₃ b) in let s = f.1 in omega arith),
                λ c. let told = f.2 (goes c) in record {
                  holds' = b.holds n c.es w c.s.holds (since₂ e f.0);
                  is = going c ∙ told.is ∙ ap fails (sym (marks₃ e f.0 w₃ b));
                },
              );
            }

        pub tries_stands : (j i : ℕ) (y : r ≡ Some (stepped j i)) (w₃ : List ℕ) → Backs k j w₂ w₃ → Tries n k w g left (Some (stepped k i)) w₃
        tries_stands j i y w₃ b =
            let f = v.standing j i y in
            record {
              moved = moved₃ j f.0 w₃ b;
              standing = λ a l q. let x : i ≡ l = same_drops _ _ _ _ q in (
                subst (λ (l : ℕ). Fewer l (marking w) (marking w₃)) x (record {
                  same = λ p. marks₃ j f.0 w₃ b ∙ f.1.same p ∙ marks₁;
                  fewer = let p : total (marking w₁) ≡ total (marking w) = ap total marks₁ in
                      let q : total (marking w₃) ≡ total (marking w₂) = ap total (marks₃ j f.0 w₃ b) in let s = f.1.fewer in
                      omega arith;
                }),
                λ c. let told = f.2 (goes c) in (
                  graphs told.es',
                  record {
                    holds' = b.holds n c.es w c.s.holds (since₂ j f.0);
                    is = going c ∙ told.is ∙ ap (λ (m : Marking). stands (graphs told.es') m) (sym (marks₃ j f.0 w₃ b));
                  },
                ),
              );
              failing = λ y. let x : ◌≡◌ {A = ℕ} 0 1 = cc in absurd (omega arith);
            }
