-- The two definite graphs are pushed, one after the other, on the loaded inputs.
-- Assumes nothing.
use Prim.Native.Nat.{ℕ, ◌+◌, ◌≤◌}
use native.Mathlib.Omega.{arith}
use mathlib.Core.Path.{◌≡◌, refl, sym, ap, subst, ◌∙◌}
use mathlib.Core.Logic.{⊎_elim}
use mathlib.Core.List.Memᴰ
use mathlib.Core.List.{List, [], ◌∷◌, ◌++◌, Memᴰ}
use lib.ListN.{length, get_or, take, drop, length-drop}
use lib.Seq.{length-take-le}
use Rattle.theory.specs.Limits.{input_limit, depth_limit}
use Rattle.theory.specs.Net.{Clash}
use Rattle.theory.specs.Descr.{Desc, desc}
use Rattle.theory.specs.Layout.{words, WellFormed}
use Rattle.theory.proofs.Reading.{well_can}
use Rattle.theory.proofs.Sets.{clash_within}
use Rattle.loading.specs.Entry.{Entry}
use Rattle.loading.specs.Loaded.{nodes_in}
use Rattle.loading.proofs.Names.{alts_few}
use Rattle.area.specs.Map.{NODES, WORDS, MARKS, SIZE, SECOND}
use Rattle.area.specs.Region.{region}
use Rattle.area.specs.declared.map.Nodes.{Nodes}
use Rattle.area.proofs.Region.{region_ext, back, back_length, back_part, back_rest}
use Rattle.classes.specs.Entry.{Comes}
use Rattle.classes.specs.Holds.{Holds, Pushing, Pushes, Undoable, Starts}
use Rattle.classes.proofs.Laws.{undoable_start, undoable_on}
use Rattle.std.specs.Prelude.{Option, Some, None}
use Rattle.opening.specs.Opening.{Read, Stand, Paired, Opening, definite, OpenedAs, Opens}
use Rattle.opening.proofs.Universe.{universe, in_one, in_two, nodes_room, comes}

-- ---- the graphs are pushed
at_definite : (p n : ℕ) (d : Desc) → (definite p n d).at ≡ p
at_definite p n (desc g ds) = refl

pub number_definite : (p n : ℕ) (d : Desc) → (definite p n d).number ≡ n
number_definite p n (desc g ds) = refl

-- a clash of the pushed graphs, as the opening tells it
both : (w : List ℕ) (d e : Desc) → Clash ((definite 0 0 d).graph ∷ (definite SECOND (nodes_in d) e).graph ∷ []) →
    OpenedAs w d e None
both w (desc g ds) (desc h es) c = c

alone : (w : List ℕ) (d e : Desc) → WellFormed d depth_limit → WellFormed e depth_limit → Clash ((definite 0 0 d).graph ∷ []) →
    OpenedAs w d e None
alone w (desc g ds) (desc h es) p q c =
    clash_within (g ∷ []) (g ∷ h ∷ []) (p.0, tt) (p.0, (q.0, tt))
    (λ x i. ⊎_elim (λ m. Memᴰ.head m) (λ m. absurd (Memᴰ.not-nil m)) (Memᴰ.cases_cons i)) c

module _ (w a b t : List ℕ) (o : Opening w a b) (n : ℕ) (p : Paired (take 2048 (drop WORDS w)) a b n t) (w₂ : List ℕ)
    (s : Starts (take WORDS w ++ (t ++ drop 2048 (drop WORDS w))) w₂) where
  room : WORDS + 2048 ≤ length w
  room = omega (arith, o.long)

  size : length t ≡ 2048
  size = p.len ∙ length-take-le 2048 (drop WORDS w) (omega (arith, length-drop WORDS w, room))

  len₂ : length w₂ ≡ length w
  len₂ = s.len ∙ back_length WORDS 2048 w t room size

  long₂ : SIZE ≤ length w₂
  long₂ = omega (arith, len₂, o.long)

  words₂ : region WORDS 2048 w₂ ≡ t
  unfolding region
  words₂ = region_ext WORDS 2048 w₂ (back WORDS 2048 w t room size) (omega (arith, long₂)) s.len
      (λ j h. s.rest (WORDS + j) (omega arith)) ∙ back_part WORDS 2048 w t room size

  pub rest₂ : (j : ℕ) → MARKS ≤ j → get_or w₂ j 0 ≡ get_or w j 0
  rest₂ j h = s.rest j (omega arith) ∙ back_rest WORDS 2048 w t room size j (omega arith)

  module _ (d e : Desc) (r : Read a b d e) where
    fd : length (words d) ≤ input_limit
    fd = subst (λ (x : List ℕ). length x ≤ input_limit) r.first_is o.inputs.first_few

    fe : length (words e) ≤ input_limit
    fe = subst (λ (x : List ℕ). length x ≤ input_limit) r.second_is o.inputs.second_few

    -- the loaded words stay where they are
    stand : (w₃ : List ℕ) → length w₃ ≡ length w₂ → ((j : ℕ) → WORDS ≤ j → get_or w₃ j 0 ≡ get_or w₂ j 0) → Stand (region WORDS 2048 w₃) d e n
    stand w₃ l f = subst (λ (x : List ℕ). Stand x d e n)
        (sym (region_ext WORDS 2048 w₃ w₂ (omega (arith, l, long₂)) l (λ j h. f (WORDS + j) (omega arith)) ∙ words₂)) (p.stand d e r)

    abbrev pub one : Entry
    one = definite 0 0 d

    abbrev pub two : Entry
    two = definite SECOND (nodes_in d) e

    few : n ≤ 1024
    few = omega (arith, nodes_room w₂ d e n long₂ r.first_well r.second_well fd fe (stand w₂ refl (λ j h. refl)))

    empty : Holds n [] 0 w₂
    empty = s.holds n few

    first_comes : Comes n [] one w₂
    first_comes = comes w₂ d e n long₂ r.first_well r.second_well fd fe (stand w₂ refl (λ j h. refl)) [] 0 empty
        (λ x i. absurd (Memᴰ.not-nil i)) one (in_one d e) (λ x i. absurd (Memᴰ.not-nil i))

    pub first_pushing : Pushing n 0 w₂ 0
    first_pushing = record { es = []; e = one; is = at_definite 0 0 d; holds = empty; comes = first_comes }

    -- the first graph alone clashes: then both do
    pub first_clashes : (w₃ : List ℕ) (x : Option ℕ) → Pushes n 0 w₂ 0 x w₃ → x ≡ None → OpenedAs w₃ d e None
    first_clashes w₃ x u z = alone w₃ d e r.first_well r.second_well ((u.clashed z).1 [] one (at_definite 0 0 d) empty first_comes).0

    module _ (w₃ : List ℕ) (k : ℕ) (x : Option ℕ) (u : Pushes n 0 w₂ 0 x w₃) (z : x ≡ Some k) where
      held : Holds n (one ∷ []) k w₃
      held = (u.inside k z).1 [] one (at_definite 0 0 d) empty first_comes

      undoable : Undoable n k w₃
      undoable = undoable_on n 0 w₂ (undoable_start n w₂ empty) k w₃ (u.inside k z).0

      stand₃ : Stand (region WORDS 2048 w₃) d e n
      stand₃ = stand w₃ u.len u.rest

      long₃ : SIZE ≤ length w₃
      long₃ = omega (arith, u.len, long₂)

      only_one : (x : Entry) → Memᴰ x (one ∷ []) → x ≡ one
      only_one x i = ⊎_elim (λ q. q) (λ j. absurd (Memᴰ.not-nil j)) (Memᴰ.cases_cons i)

      apart : two.number ≡ one.number → ⊥
      apart q = let m = alts_few d (well_can d r.first_well) in
          omega (arith, sym (number_definite SECOND (nodes_in d) e) ∙ q ∙ number_definite 0 0 d)

      second_comes : Comes n (one ∷ []) two w₃
      second_comes = comes w₃ d e n long₃ r.first_well r.second_well fd fe stand₃ (one ∷ []) k held
          (λ x i. subst (λ (y : Entry). Memᴰ y (universe d e)) (sym (only_one x i)) (in_one d e)) two (in_two d e)
          (λ x i q. apart (q ∙ ap (λ (y : Entry). y.number) (only_one x i)))

      pub second_pushing : Pushing n k w₃ SECOND
      second_pushing = record { es = one ∷ []; e = two; is = at_definite SECOND (nodes_in d) e; holds = held; comes = second_comes }

      module _ (w₄ : List ℕ) (y : Option ℕ) (v : Pushes n k w₃ SECOND y w₄) where
        pub second_clashes : y ≡ None → OpenedAs w₄ d e None
        second_clashes q = both w₄ d e ((v.clashed q).1 (one ∷ []) two (at_definite SECOND (nodes_in d) e) held second_comes).0

        pub joined : (m : Nodes) → m.count ≡ n → (j : ℕ) → y ≡ Some j → OpenedAs w₄ d e (Some (record { nodes = m; log = j }))
        joined m c j q = rw c (
          stand w₄ (v.len ∙ u.len) (λ i h. v.rest i h ∙ u.rest i h),
          (v.inside j q).1 (one ∷ []) two (at_definite SECOND (nodes_in d) e) held second_comes,
          undoable_on n k w₃ undoable j w₄ (v.inside j q).0,
        )

  -- ---- what the function answers
  first : Read a b o.inputs.first.0 o.inputs.second.0
  first = record {
    first_well = o.inputs.first.1;
    second_well = o.inputs.second.1;
    first_is = o.inputs.first.2;
    second_is =
        o.inputs.second.2;
  }

  pub nodes_few : n ≤ NODES
  nodes_few = few o.inputs.first.0 o.inputs.second.0 first

  pub asks_first : Pushing n 0 w₂ 0
  asks_first = first_pushing o.inputs.first.0 o.inputs.second.0 first

  module _ (w₃ : List ℕ) (x : Option ℕ) (u : Pushes n 0 w₂ 0 x w₃) where
    pub opens_clash : x ≡ None → Opens w a b None w₃
    opens_clash z = record {
      len = u.len ∙ len₂;
      rest = λ j h. u.rest j (omega arith)
          ∙ rest₂ j h;
      stands = λ d e r. (n, stand d e r w₃ u.len u.rest);
      told = λ d e r. first_clashes d e r w₃ x u z;
    }

    module _ (k : ℕ) (z : x ≡ Some k) where
      pub asks_second : Pushing n k w₃ SECOND
      asks_second = second_pushing o.inputs.first.0 o.inputs.second.0 first w₃ k x u z

      module _ (w₄ : List ℕ) (y : Option ℕ) (v : Pushes n k w₃ SECOND y w₄) where
        len₄ : length w₄ ≡ length w
        len₄ = v.len ∙ u.len ∙ len₂

        rest₄ : (j : ℕ) → MARKS ≤ j → get_or w₄ j 0 ≡ get_or w j 0
        rest₄ j h = v.rest j (omega arith) ∙ u.rest j (omega arith) ∙ rest₂ j h

        -- the inputs stand loaded still
        stands₄ : (d e : Desc) → Read a b d e → (m : ℕ) × Stand (region WORDS 2048 w₄) d e m
        stands₄ d e r = (n, stand d e r w₄ (v.len ∙ u.len) (λ j h. v.rest j h ∙ u.rest j h))

        pub opens_clash_2 : y ≡ None → Opens w a b None w₄
        opens_clash_2 q = record {
          len = len₄;
          rest = rest₄;
          stands = stands₄;
          told = λ d e r. second_clashes d e r w₃ k x u z w₄ y v q;
        }

        pub opens_joined : (m : Nodes) → m.count ≡ n → (j : ℕ) → y ≡ Some j → Opens w a b (Some (record { nodes = m; log = j })) w₄
        opens_joined m c j q = record {
          len = len₄;
          rest = rest₄;
          stands = stands₄;
          told = λ d e r. joined d e r w₃ k x u z w₄ y v m c j q;
        }
