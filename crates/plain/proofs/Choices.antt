-- What was found in the first choices, one after the other.
-- Assumes nothing.
use Prim.Native.Nat.{ℕ, ◌+◌, ◌≤◌, ◌<◌}
use native.Mathlib.Omega.{arith}
use native.Mathlib.Numerals.{add-one}
use mathlib.Core.Path.{◌≡◌, refl, sym, ap, subst, ◌∙◌}
use mathlib.Core.Logic.{inl, inr}
use mathlib.Core.Bool.{Bool, true, false, ◌||◌}
use mathlib.Core.List.{List, [], ◌∷◌, ◌++◌, Memᴰ, append-nil}
use lib.ListN.{length, length-append, get_or}
use Rattle.theory.specs.Limits.{choice_limit, depth_limit}
use Rattle.theory.specs.Net.{Graph}
use Rattle.theory.specs.Descr.{agree}
use Rattle.area.specs.Map.{SIZE, NODES, MARKS, RESULT}
use Rattle.area.specs.Region.{loaded_words}
use Rattle.area.specs.Log.{Later, Undone}
use Rattle.area.proofs.Region.{words_same, words_many}
use Rattle.engine.specs.Marks.{Marking, keep}
use Rattle.engine.specs.Search.{Found, lit}
use Rattle.engine.specs.Search as engine
use Rattle.modes_by_marks.specs.Search.{among}
use Rattle.modes_by_marks.proofs.Agenda.{lit_append}
use Rattle.layout.specs.Standing.{Stands}
use Rattle.layout.proofs.Standing.{stands_frame}
use Rattle.loading.specs.Entry.{graphs}
use Rattle.marks.specs.Marked.{marking, lights}
use Rattle.marks.proofs.Marks.{or_none, or_assoc, marking_frame, lights_frame}
use Rattle.classes.specs.Holds.{Holds, Since}
use Rattle.classes.proofs.Amid.{undone_back, undone_holds}
use Rattle.classes.proofs.Laws.{holds_few, holds_frame, since_refl, since_later, since_trans, since_frame}
use Rattle.counting.specs.Counted.{CountedBoth}
use Rattle.leaving.specs.Found.{Searching, Searches}
use Rattle.leaving.specs.Fulled.{Fulling}
use Rattle.choosing.specs.Ways.{Take, marks_of, number_both, way_both, words_of}
use Rattle.choosing.specs.Chosen.{ChoosingBoth, ChoosesBoth}
use Rattle.plain.specs.Lit.{Lighting, Lights}
use Rattle.plain.specs.Expanded.{Expanding}
use Rattle.choosing.proofs.Numbers.{way_inside, way_loaded, way_rises, way_few}
use Rattle.choosing.proofs.Nth.{entries_of, new_of}
use Rattle.choosing.proofs.Newly.{way_new}
use Rattle.choosing.proofs.Finds.{found_up, up_none, up_more, up_all, counted_ways}
use Rattle.plain.proofs.Turns.{turns_count}
use Rattle.plain.proofs.Joining.{Choice, whole}
use Rattle.plain.proofs.Kept.{way_kept}

-- of the first `next` choices so many were found, and what they take is lit; else all is as it was
pub record UpTo {n k : ℕ} {w₀ : List ℕ} (c : Searching n k w₀) (next found : ℕ) (w : List ℕ) : Type 0 where
  pub rest : (j : ℕ) → SIZE ≤ j → get_or w j 0 ≡ get_or w₀ j 0
  pub since : Since k w₀ k w
  pub holds : Holds n c.stage.es k w
  pub marks : marking w ≡ marking w₀
  pub count : found ≡ length (found_up c.stage next)
  pub seen : (y : ℕ) → lights w y ≡ (lights w₀ y || lit (found_up c.stage next) y)

module _ {n k : ℕ} {w₀ : List ℕ} (c : Searching n k w₀) where
  abbrev m₀ : Marking
  m₀ = marking w₀

  -- the way with the number i
  abbrev way : ℕ → List Take
  way i = way_both c.p.inputs m₀ i

  abbrev stack : ℕ → List Graph
  stack i = graphs c.stage.es ++ graphs (entries_of (new_of (way i)))

  upto_none : UpTo c 0 0 w₀
  upto_none = record {
    rest = λ j h. refl;
    since = since_refl n c.stage.es k w₀ c.stage.ready.holds;
    holds = c.stage.ready.holds;
    marks = refl;
    count = ap length (sym (up_none c.stage));
    seen = λ y. or_none (lights w₀ y) ∙ ap (λ (f : Found). lights w₀ y || lit f y) (sym (up_none c.stage));
  }

  module _ {next found : ℕ} {w : List ℕ} (u : UpTo c next found w) where
    room : SIZE ≤ length w
    room = u.holds.long

    loaded_is : loaded_words w ≡ c.t
    loaded_is = words_same w₀ w c.stage.ready.holds.long u.since.len u.since.same ∙ c.stage.ready.loaded

    abbrev upto_chooses : next < number_both c.p.inputs m₀ → number_both c.p.inputs m₀ ≤ choice_limit → ChoosingBoth w next
    upto_chooses h l = record {
      room = room;
      n = n;
      t = c.t;
      loaded = loaded_is;
      inputs = c.p.inputs;
      below = subst (λ (m : Marking). next < number_both c.p.inputs m) (sym u.marks) h;
      most = subst (λ (m : Marking). number_both c.p.inputs m ≤ choice_limit) (sym u.marks) l;
    }

    -- other words may change as they do when a choice is listed, or is taken back
    upto_frame : {w' : List ℕ} → length w' ≡ length w → ((j : ℕ) → MARKS ≤ j → j < RESULT → get_or w' j 0 ≡ get_or w j 0) →
        ((j : ℕ) → SIZE ≤ j → get_or w' j 0 ≡ get_or w j 0) → Since k w₀ k w' → Holds n c.stage.es k w' → UpTo c next found w'
    upto_frame {w'} len f g s h = record {
      rest = λ j x. g j x ∙ u.rest j x;
      since = s;
      holds = h;
      marks = marking_frame w w' room len f ∙ u.marks;
      count = u.count;
      seen = λ y. ap (λ (m : Marking). m y) (lights_frame w w' room len f) ∙ u.seen y;
    }

    -- a choice that does not agree
    upto_clash : next < number_both c.p.inputs m₀ → agree (stack next) ≡ false → UpTo c (next + 1) found w
    upto_clash h z = record {
      rest = u.rest;
      since = u.since;
      holds = u.holds;
      marks = u.marks;
      count = u.count ∙ ap length (sym same);
      seen = λ y. u.seen y ∙ ap (λ (f : Found). lights w₀ y || lit f y) (sym same);
    }
      where
        same : found_up c.stage (next + 1) ≡ found_up c.stage next
        same = rw (add-one next) (up_more c.stage next h
            ∙ ap (λ (b : Bool). found_up c.stage next ++ elim b [ true ↦ marks_of (way next) ∷ [] | false ↦ [] ]) z
            ∙ append-nil (found_up c.stage next))

    -- a choice that agrees, once it is lit
    upto_more : next < number_both c.p.inputs m₀ → agree (stack next) ≡ true → {w' : List ℕ} → length w' ≡ length w →
        ((j : ℕ) → SIZE ≤ j → get_or w' j 0 ≡ get_or w j 0) → Since k w₀ k w' → Holds n c.stage.es k w' → marking w' ≡ marking w →
        ((y : ℕ) → lights w' y ≡ (lights w y || among y (marks_of (way next)))) → UpTo c (next + 1) (found + 1) w'
    upto_more h z {w'} len g s hold m l = record {
      rest = λ j x. g j x ∙ u.rest j x;
      since = s;
      holds = hold;
      marks = m ∙ u.marks;
      count = omega (arith, u.count, ap length more, length-append (found_up c.stage next) (marks_of (way next) ∷ []));
      seen = λ y.
          l y
          ∙ ap (λ (b : Bool). b || among y (marks_of (way next))) (u.seen y)
          ∙ or_assoc (lights w₀ y) (lit (found_up c.stage next) y) (among y (marks_of (way next)))
          ∙ ap (λ (b : Bool). lights w₀ y || (lit (found_up c.stage next) y || b)) (or_none (among y (marks_of (way next))))
          ∙ ap (λ (b : Bool). lights w₀ y || b) (sym (lit_append (found_up c.stage next) (marks_of (way next) ∷ []) y))
          ∙ ap (λ (f : Found). lights w₀ y || lit f y) (sym more);
    }
      where
        more : found_up c.stage (next + 1) ≡ found_up c.stage next ++ marks_of (way next) ∷ []
        more = rw (add-one next) (up_more c.stage next h
            ∙ ap (λ (b : Bool). found_up c.stage next ++ elim b [ true ↦ marks_of (way next) ∷ [] | false ↦ [] ]) z)

-- ---- where the choices are counted, and are not too many
pub expand_asks : {n k : ℕ} {w : List ℕ} {r : ℕ} → Fulling n k w → CountedBoth w depth_limit r → r ≤ choice_limit → Expanding n k w r
expand_asks {n} {k} {w} {r} f counted few = record {
  searching = record { t = f.t; p = f.p; stage = f.stage };
  few = few;
  all = λ c. sym (counted_ways c.p.inputs w c.stage.ready.holds.long c.stage.ready.loaded r counted few);
}

-- the first `next` of all choices are gone through
pub record Gone (n k : ℕ) (w₀ : List ℕ) (total next found : ℕ) (w : List ℕ) : Type 0 where
  pub below : next ≤ total
  pub few : found ≤ next
  pub upto : (c : Searching n k w₀) → UpTo c next found w

pub gone_none : (n k : ℕ) (w₀ : List ℕ) (total : ℕ) → Gone n k w₀ total 0 0 w₀
gone_none n k w₀ total = record { below = omega arith; few = omega arith; upto = λ c. upto_none c }

-- ---- one choice more: of those that are left the next one is listed
pub record Step (n k : ℕ) (w₀ : List ℕ) (total next found many : ℕ) (w₁ : List ℕ) : Type 0 where
  pub pre : Expanding n k w₀ total
  pub w : List ℕ
  pub gone : Gone n k w₀ total next found w
  pub some : next < total
  pub chosen : ChoosesBoth w next many w₁

module _ {n k : ℕ} {w₀ : List ℕ} {total : ℕ} (pre : Expanding n k w₀ total) {next found : ℕ} {w : List ℕ}
    (u : Gone n k w₀ total next found w) (h : next < total) (c : Searching n k w₀) where
  below : next < number_both c.p.inputs (marking w₀)
  below = rw (pre.all c) h

  abbrev asks : ChoosingBoth w next
  asks = upto_chooses c (u.upto c) below (rw (pre.all c) pre.few)

pub choosing_next : {n k : ℕ} {w₀ : List ℕ} {total : ℕ} (pre : Expanding n k w₀ total) {next found : ℕ} {w : List ℕ} →
    Gone n k w₀ total next found w → next < total → ChoosingBoth w next
choosing_next pre u h = asks pre u h pre.searching

module _ {n k : ℕ} {w₀ : List ℕ} {total next found many : ℕ} {w₁ : List ℕ} (s : Step n k w₀ total next found many w₁) where
  module _ (c : Searching n k w₀) where
    abbrev before : UpTo c next found s.w
    before = s.gone.upto c

    listed : UpTo c next found w₁
    listed =
        let v = s.chosen.beyond in
        upto_frame c before v.len (λ j a b. v.rest j (inl (omega arith))) (λ j a. v.rest j (inr (omega arith)))
        (since_frame k w₀ k s.w w₁ v.len before.holds.long (λ j a. v.rest j (inl (omega arith))) before.since)
        (holds_frame n c.stage.es k s.w before.holds w₁ v.len (λ j a. v.rest j (inl (omega arith))))

    stands : Stands w₁ RESULT (words_of (way c next)) (RESULT + many)
    stands = subst (λ (m : Marking). Stands w₁ RESULT (words_of (way_both c.p.inputs m next)) (RESULT + many)) before.marks
        (s.chosen.stands (asks s.pre s.gone s.some c))

    abbrev choice : Choice n k w₁ many
    choice = record {
      t = c.t;
      loaded = loaded_is c listed;
      U = c.p.inputs.U;
      ground = c.p.inputs.ground;
      es = c.stage.es;
      fine = c.stage.same.fine₁;
      holds = listed.holds;
      inside = c.stage.ready.inside;
      ts = way c next;
      stands = stands;
      each = way_inside c.p.inputs (marking w₀) next;
      low = λ x i. omega (
        arith,
        way_loaded c.p.inputs (marking w₀) next x i,
        ap length (loaded_is c listed),
        words_many w₁ listed.holds.long,
      );
      rises = way_rises c.p.inputs (marking w₀) next;
      new = way_new c.p.inputs (marking w₀) next c.stage.es c.stage.ready.clear_first c.stage.ready.clear_second;
    }

  pub step_choice : Choice n k w₁ many
  step_choice = choice s.pre.searching

  pub step_few : many ≤ NODES
  step_few =
      let c = s.pre.searching in
      omega (arith, turns_count w₁ RESULT (way c next) many (stands c), way_few c.p.inputs (marking w₀) next, (listed c).holds.below)

  -- it is joined as far as it goes, and taken back
  module _ {e : ℕ} {w₂ w₃ : List ℕ} (l : Later k w₁ e w₂) (t : Undone k e w₂ w₃) where
    module _ (c : Searching n k w₀) where
      back : Later k w₁ k w₃
      back = undone_back (listed c).holds l t

      taken_back : UpTo c next found w₃
      taken_back =
          let o = (listed c).holds in
          upto_frame c (listed c) back.len (λ j a b. back.rest j (omega arith)) (λ j a. back.rest j (omega arith))
          (since_trans k w₀ k w₁ k w₃ (listed c).since
          (since_later k w₁ k w₃ (holds_few n c.stage.es k w₁ o) o.state.logged back))
          (undone_holds o l t)

      abbrev lighting : Lighting w₃ many
      lighting = record {
        room = taken_back.holds.long;
        few = step_few;
        ts = way c next;
        stands = stands_frame w₁ w₃ (words_of (way c next)) RESULT (RESULT + many)
            (λ j a b x. (omega (arith, back.len), back.rest j (omega arith))) (stands c);
        each = λ x i. way_kept c.p.inputs w₃ taken_back.holds.long (loaded_is c taken_back) next x
            (subst (λ (m : Marking). Memᴰ x (way_both c.p.inputs m next)) (sym taken_back.marks) i);
      }

    pub step_clash : ((b : Choice n k w₁ many) → agree (whole b) ≡ false) → Gone n k w₀ total (next + 1) found w₃
    step_clash z = record {
      below = omega (arith, s.some);
      few = omega (arith, s.gone.few);
      upto = λ c. upto_clash c (taken_back c) (below s.pre s.gone s.some c) (z (choice c));
    }

    pub step_lights : Lighting w₃ many
    step_lights = lighting s.pre.searching

    pub step_more : ((b : Choice n k w₁ many) → agree (whole b) ≡ true) → {w₄ : List ℕ} → Lights w₃ many w₄ →
        Gone n k w₀ total (next + 1) (found + 1) w₄
    step_more z {w₄} x = record {
      below = omega (arith, s.some);
      few = omega (arith, s.gone.few);
      upto = λ c.
          let o = taken_back c in
          upto_more c o (below s.pre s.gone s.some c) (z (choice c)) x.len (λ j a. x.rest j (inr (omega arith)))
          (since_frame k w₀ k w₃ w₄ x.len o.holds.long (λ j a. x.rest j (inl a)) o.since)
          (holds_frame n c.stage.es k w₃ o.holds w₄ x.len (λ j a. x.rest j (inl a))) (x.marks (lighting c))
          (x.seen (lighting c));
    }

-- ---- all of them
pub searches : {n k : ℕ} {w₀ : List ℕ} {total : ℕ} (pre : Expanding n k w₀ total) {next found : ℕ} {w : List ℕ} →
    Gone n k w₀ total next found w → total ≤ next → Searches n k w₀ found w
searches {n} {k} {w₀} {total} pre {next} {found} {w} u h = record {
  len = (u.upto pre.searching).since.len;
  rest = (u.upto pre.searching).rest;
  since = (u.upto pre.searching).since;
  found = λ c.
      let end : next ≡ number_both c.p.inputs (marking w₀) = omega (arith, u.below, pre.all c) in
      let all : found_up c.stage next ≡ engine.search (keep (marking w₀) c.p.j) =
      ap (found_up c.stage) end ∙ up_all c.stage in
      record {
        count = omega (arith, (u.upto c).count, ap length all, u.few, u.below, pre.few);
        seen = λ y. (u.upto c).seen y ∙ ap (λ (f : Found). lights w₀ y || lit f y) all;
        marks = (u.upto c).marks;
        holds = (u.upto c).holds;
      };
}
