-- One disjunction is narrowed: engine's `any_at`, return by return.
-- Assumes nothing.
use Prim.Native.Nat.{ℕ, suc}
use native.Mathlib.Omega.{arith}
use mathlib.Core.Path.{◌≡◌, refl, sym, ap, subst, ◌∙◌}
use mathlib.Core.Logic.{inl, inr, ⊎_elim}
use mathlib.Core.List.Memᴰ
use mathlib.Core.List.{List}
use Rattle.area.specs.Region.{loaded_words}
use Rattle.engine.specs.Marks.{Marking, kept_of}
use Rattle.engine.specs.Quickly.{fails, stands, any_at, settle_at}
use Rattle.loading.specs.Entry.{graphs}
use Rattle.loading.proofs.Lying.{lying_more, distinct_of, any_distinct_of}
use Rattle.marks.specs.Marked.{marking}
use Rattle.marks.specs.Readable.{Alternatives}
use Rattle.marks.specs.Tallied.{Tallied}
use Rattle.marks.specs.declared.tally.Remnant.{Remnant}
use Rattle.marks.specs.declared.tally.Remnant.TheVariants.{Nothing, One, Several}
use Rattle.marks.proofs.Reading.{alternatives}
use Rattle.marks.proofs.Marks.{marking_frame}
use Rattle.marks.proofs.Remnant.{kept_none, kept_alone, alone_at, kept_several}
use Rattle.classes.specs.Holds.{Holds, Since}
use Rattle.classes.proofs.Laws.{since_refl}
use Rattle.quick.specs.declared.step.Step.{Step}
use Rattle.std.specs.Prelude.{Option, Some, None}
use Rattle.entering.specs.Taken.{taken_any_of, FreeAnyOf}
use Rattle.entering.specs.Settled.{Alternating, settled, Settles}
use Rattle.entering.specs.Clear.{ClearAnyOf}
use Rattle.quick.specs.Stepped.{stepped, total, Fewer, Narrowing, Narrows, Choosing, ChooseStands, Chooses, Sifts}
use Rattle.quick.proofs.Stepping.{same_log, same_drops}
use Rattle.entering.specs.Moved.{Moved}
use Rattle.entering.proofs.Certain.{any_between_of, LoneOf, lone_alone}
use Rattle.entering.proofs.Clearing.{clear_any_of, clear_alone, alone_clear, clear_several}
use Rattle.entering.proofs.Mirror.{any_none, any_several, inside_only}
use Rattle.entering.proofs.Settling.{settle_several, settled_inside}
use Rattle.entering.proofs.Moves.{moved_trans, moved_words, footing_as}

module _ (n k : ℕ) (w : List ℕ) (p count left : ℕ) where
  abbrev pub chosen : Choosing n k w p count left → Alternatives w p count
  chosen c = alternatives w c.s.holds.long c.s.loaded c.s.ground.few c.lies

  module _ (which : Remnant) (after : ℕ) (tally : (s : Alternatives w p count) → Tallied w s which after) where
    pub chooses_none : Choosing n k w p count left → which ≡ Nothing → Chooses n k w p count left None w
    chooses_none c₀ z = record {
      standing = λ j i y. let x : ◌≡◌ {A = ℕ} 0 1 = cc in absurd (omega arith);
      failing = λ y. (
        record { len = refl; rest = λ j h. refl; since = since_refl n c₀.es k w c₀.s.holds },
        omega arith,
        λ c. record {
          holds' = c.s.holds;
          is = any_none (graphs c.es) (marking w) c.lies.a (kept_none w (chosen c) which after (tally (chosen c)) z);
        },
      );
    }

    -- ---- the one that stands alone
    module _ (first : ℕ) (one : which ≡ One first) where
      kept_one : (c : Choosing n k w p count left) → kept_of (marking w) c.lies.a ≡ 1
      kept_one c = kept_alone w (chosen c) which after (tally (chosen c)) first one

      lone : (c : Choosing n k w p count left) → LoneOf (marking w) c.lies c.s.U first
      lone c = lone_alone c.s.U (loaded_words w) (marking w) c.lies c.among (kept_one c) first
          (alone_at w (chosen c) which after (tally (chosen c)) first one)

      abbrev goes : Choosing n k w p count left → Narrowing n k w first left
      goes c = record {
        es = c.es;
        s = c.s;
        lies = lying_more c.lies.low (lone c).lies;
        among = (lone c).among;
        clear = (lone c).opens c.es (clear_alone (marking w) c.es c.lies (kept_one c) c.clear);
      }

      pub asks_alone : Choosing n k w p count left → Narrowing n k w first left
      asks_alone c = goes c

      pub chooses_one : (r : Option Step) (w' : List ℕ) → Narrows n k w first left r w' → Chooses n k w p count left r w'
      chooses_one r w' v = record {
        standing = λ j i y. let f = v.standing j i y in (
          f.0,
          f.1,
          λ c.
              let told = f.2 (goes c) in
              let low = (lone c).low in
              let high = (lone c).lies.low in
              let back = (lone c).closes told.es' (marking w') (inside_only (graphs c.es) (marking w) (marking w') (graphs told.es')
              (lone c).lies.d (distinct_of (lone c).lies) told.is) told.clear' in
              record {
                es' = told.es';
                stood = record {
                  holds = told.stood.holds;
                  inside = told.stood.inside;
                  old = told.stood.old;
                  fresh =
                      λ o i. ⊎_elim (λ a. inl a) (λ b. let u = b.0 in let x = b.1 in
                      inr (omega arith, omega arith)) (told.stood.fresh o i);
                };
                clear' = alone_clear (marking w') told.es' c.lies back.0 back.1;
                is = (lone c).any (graphs c.es) ∙ told.is;
              },
        );
        failing = λ y. let f = v.failing y in (
          f.0,
          f.1,
          λ c.
              let told = f.2 (goes c) in
              record {
                holds' = told.holds';
                is = (lone c).any (graphs c.es) ∙ told.is;
              },
        );
      }

    -- ---- several
    module _ (many : ℕ) (several : which ≡ Several many) where
      more : (c : Choosing n k w p count left) → (l : ℕ) × (kept_of (marking w) c.lies.a ≡ suc (suc l))
      more c = kept_several w (chosen c) which after (tally (chosen c)) many several

      free : (c : Choosing n k w p count left) → FreeAnyOf c.lies c.es
      free c = clear_several (marking w) c.es c.lies (more c).0 (more c).1 c.clear

      -- where the graphs are still those of c
      abbrev these : (c : Choosing n k w p count left) (v : List ℕ) → loaded_words v ≡ loaded_words w → Holds n c.es k v →
          Alternating n k v p count left
      these c v e h = record { es = c.es; s = footing_as c.s v e h; lies = c.lies; among = c.among; free = free c }

      pub asks_sift : Choosing n k w p count left → Alternating n k w p count left
      asks_sift c = these c w refl c.s.holds

      module _ (c₀ : Choosing n k w p count left) (drops : ℕ) (w₁ : List ℕ) (s : Sifts n k w p count left drops w₁) where
        words₁ : loaded_words w₁ ≡ loaded_words w
        words₁ = moved_words k w k w₁ c₀.s.holds.long s.moved

        abbrev after_sift : Choosing n k w p count left → Alternating n k w₁ p count left
        after_sift c = these c w₁ words₁ (s.sifted (these c w refl c.s.holds)).holds'

        pub asks_settle : Alternating n k w₁ p count left
        asks_settle = after_sift c₀

        sifts : (c : Choosing n k w p count left) →
            any_at (graphs c.es) (marking w) c.lies.a ≡ settle_at (graphs c.es) (marking w₁) c.lies.a
        sifts c = any_several (graphs c.es) (marking w) c.lies.a (any_distinct_of c.lies) (more c).0 (more c).1
            ∙ ap (λ (m : Marking). settle_at (graphs c.es) m c.lies.a) (s.sifted (these c w refl c.s.holds)).is

        -- nothing was dropped, and several stay
        pub chooses_still : drops ≡ 0 → Chooses n k w p count left (Some (stepped k 0)) w₁
        chooses_still z = record {
          standing = λ a i y.
              let x : k ≡ a = same_log _ _ _ _ y in
              let q : 0 ≡ i = same_drops _ _ _ _ y in
              subst (λ (a : ℕ). Moved k w a w₁ × Fewer i (marking w) (marking w₁)
              × ((c : Choosing n k w p count left) → ChooseStands n k w p count left a w₁ c)) x (
                s.moved,
                subst (λ (i : ℕ). Fewer i (marking w) (marking w₁)) (z ∙ q) s.fewer,
                stood,
              );
          failing = λ y. let x : ◌≡◌ {A = ℕ} 0 1 = cc in absurd (omega arith);
        }
          where
            marks₁ : marking w₁ ≡ marking w
            marks₁ = s.fewer.same z

            stood : (c : Choosing n k w p count left) → ChooseStands n k w p count left k w₁ c
            stood c =
                let told = s.sifted (these c w refl c.s.holds) in
                record {
                  es' = c.es;
                  stood = record { holds = told.holds'; inside = c.s.inside; old = λ o i. i; fresh = λ o i. inl i };
                  clear' = subst (λ (m : Marking). ClearAnyOf c.es m c.lies) (sym marks₁)
                      c.clear;
                  is = sifts c ∙ settle_several (graphs c.es) (marking w₁) c.lies.a (more c).0
                      (ap (λ (m : Marking). kept_of m c.lies.a) marks₁ ∙ (more c).1);
                }

        module _ (r : Option ℕ) (w₂ : List ℕ) (u : Settles n k w₁ p count left r w₂) where
          marks₂ : marking w₂ ≡ marking w₁
          marks₂ = marking_frame w₁ w₂ (omega (arith, s.moved.len, c₀.s.holds.long)) u.len (λ j a b. u.rest j (omega arith))

          moved₂ : (j : ℕ) → Since k w₁ j w₂ → Moved k w j w₂
          moved₂ j x = moved_trans k w k w₁ j w₂ s.moved (record { len = u.len; rest = λ i h. u.rest i (omega arith); since = x })

          pub chooses_fails : r ≡ None → Chooses n k w p count left None w₂
          chooses_fails z =
              let f = u.clashed z in
              record {
                standing = λ j i y. let x : ◌≡◌ {A = ℕ} 0 1 = cc in absurd (omega arith);
                failing = λ y. (
                  moved₂ k f.0,
                  (let e : total (marking w₂) ≡ total (marking w₁) = ap total marks₂ in let x = s.fewer.fewer in omega arith),
                  λ c. let told = f.1 (after_sift c) in
                      record { holds' = told.0; is = sifts c ∙ told.1 ∙ ap fails (sym marks₂) },
                );
              }

          pub chooses_stands : (j : ℕ) → r ≡ Some j → Chooses n k w p count left (Some (stepped j drops)) w₂
          chooses_stands j z = record {
            standing = λ a i y.
                let x : j ≡ a = same_log _ _ _ _ y in
                let q : drops ≡ i = same_drops _ _ _ _ y in
                subst (λ (a : ℕ). Moved k w a w₂ × Fewer i (marking w) (marking w₂)
                × ((c : Choosing n k w p count left) → ChooseStands n k w p count left a w₂ c)) x (
                  moved₂ j (u.pushed j z).0,
                  subst (λ (i : ℕ). Fewer i (marking w) (marking w₂)) q
                      (subst (λ (m : Marking). Fewer drops (marking w) m) (sym marks₂) s.fewer),
                  stood,
                );
            failing = λ y. let x : ◌≡◌ {A = ℕ} 0 1 = cc in absurd (omega arith);
          }
            where
              stood : (c : Choosing n k w p count left) → ChooseStands n k w p count left j w₂ c
              stood c =
                  let told = (u.pushed j z).1 (after_sift c) in
                  let list = taken_any_of (marking w₁) c.lies in
                  record {
                    es' = settled (after_sift c);
                    stood = record {
                      holds = told.0;
                      inside = settled_inside n k w₁ p count left (after_sift c);
                      old = λ o i. Memᴰ.append_left list i;
                      fresh = λ o i. ⊎_elim (λ a. inl a)
                          (λ b. inr (any_between_of (marking w₁) c.lies o b))
                          (Memᴰ.append_cases c.es i);
                    };
                    clear' = subst (λ (m : Marking). ClearAnyOf (settled (after_sift c)) m c.lies)
                        (sym marks₂) (clear_any_of (marking w₁) (settled (after_sift c)) c.lies
                        (λ o i. ⊎_elim (λ a. inl (free c o a)) (λ b. inr b) (Memᴰ.append_cases c.es i)));
                    is = sifts c ∙ told.1 ∙ ap (λ (m : Marking). stands (graphs (settled (after_sift c))) m) (sym marks₂);
                  }
