-- The whole is put out: the joined graph, then the disjunctions of the first input and of the second.
-- Assumes nothing.
use Prim.Native.Nat.{ℕ, ◌+◌, ◌≤◌, ◌<◌}
use native.Mathlib.Omega.{arith}
use mathlib.Core.Path.{◌≡◌, sym, ap, ap₂, subst, ◌∙◌}
use mathlib.Core.Option.{Option, none, some}
use mathlib.Core.List.Memᴰ
use mathlib.Core.List.{List, [], ◌∷◌, ◌++◌}
use lib.ListN.{length, get_or, set, length-append, length-set}
use lib.Seq.{get_or-set_same, get_or-set_other}
use Rattle.theory.specs.Limits.{depth_limit}
use Rattle.theory.specs.Net.{Graph, Joined}
use Rattle.theory.specs.Join.{join}
use Rattle.theory.specs.Descr.{Disjs, end, ◌then◌, disjs}
use Rattle.theory.specs.Layout.{disjs_words}
use Rattle.theory.specs.Layout as layout
use Rattle.theory.specs.Canonical.{CanAll}
use Rattle.theory.proofs.Laws.{joined_of}
use Rattle.area.specs.Map.{RESULT, SECOND, SIZE}
use Rattle.area.specs.Region.{loaded_words}
use Rattle.area.proofs.Region.{words_same}
use Rattle.layout.specs.Standing.{Stands, graph_words}
use Rattle.layout.proofs.Standing.{stands_append, stands_nil, stands_cons, stands_length, stands_frame}
use Rattle.engine.specs.Placed.{Placed, place, Places, stop, ◌also◌, strip, strip_all}
use Rattle.engine.specs.Marks.{Marking, keep, keep_all}
use Rattle.engine.specs.Beside.{◌next◌, joined_placed}
use Rattle.engine.specs.Certain.{flat}
use Rattle.engine.specs.Shown.{shown_all}
use Rattle.engine.proofs.Entail.{join_both}
use Rattle.engine.specs.Sane.{SaneAll}
use Rattle.modes_by_marks.proofs.Beside.{strip_next}
use Rattle.modes_by_marks.proofs.Joined.{keep_next}
use Rattle.loading.specs.Entry.{graphs}
use Rattle.loading.specs.Numbered.{places}
use Rattle.loading.specs.Lying.{Here}
use Rattle.marks.specs.Positions.{tail_at, disjunctions_at}
use Rattle.marks.specs.Marked.{marking}
use Rattle.marks.specs.Readable.{Readable}
use Rattle.marks.proofs.Reading.{readable, reads, tail_of, disjunctions_of}
use Rattle.classes.specs.Holds.{Remembers, Backs, Undoable}
use Rattle.classes.proofs.Laws.{undoable_asks, undoable_back}
use Rattle.writing.specs.Writing.{Writing, Writes}
use Rattle.showing.specs.Putting.{Written, Base, lead, later, left_all, Disjoining, Disjoins}
use Rattle.showing.specs.Showing.{disjunctions_in, outcome, Showing, Shows}
use Rattle.showing.proofs.Written.{written_order, written_append, written_between, written_same, based}
use Rattle.showing.proofs.Leaving.{then_words, then_count, shown_next, few_disjunctions, nothing_left, description_words, can_parts}
use Rattle.showing.proofs.Leaving.{sane_parts}
use Rattle.showing.proofs.Leading.{lead_joins, weight_words}
use Rattle.showing.proofs.Describing.{inner_can, inner_sane}

-- the disjunctions of the joined description are those of both
both_later : (a b j : Placed) (m : Marking) → joined_placed a b ≡ some j → left_all m j ≡ left_all m a then left_all m b
both_later (place g ds) (place h es) j m = go (join (g ∷ h ∷ []))
  where
    go : (o : Option Graph) → ◌≡◌ {A = Option Placed} (elim o [ none ↦ none | some k ↦ some (place k (ds next es)) ]) (some j) →
        left_all m j ≡ strip_all (keep_all m ds) then strip_all (keep_all m es)
    go none e = let z : ◌≡◌ {A = ℕ} 0 1 = cc in absurd (omega arith)
    go (some k) e =
        let f : place k (ds next es) ≡ j = cc in
        ap (left_all m) (sym f) ∙ ap strip_all (keep_next m ds es) ∙ strip_next (keep_all m ds) (keep_all m es)

-- of a description without disjunctions none are left
none_left : {w : List ℕ} {p left : ℕ} (m : Marking) (r : Readable w p left) → disjunctions_at w (tail_at w p) ≡ 0 →
    shown_all (left_all m r.lies.d) ≡ end
none_left {w} {p} {left} m r h = whole r.lies.d r.lies.at
  where
    go : (ds : Places) → places ds ≡ 0 → shown_all (strip_all (keep_all m ds)) ≡ end
    go stop e = nothing_left
    go (a also ds) e = absurd (omega arith)

    whole : (d : Placed) → Here r.lies d → shown_all (left_all m d) ≡ end
    whole (place g ds) at = go ds (sym (disjunctions_of r g ds at) ∙ ap (disjunctions_at w) (sym (tail_of r g ds at)) ∙ h)

module _ (n k : ℕ) (w : List ℕ) (c : Showing n k w) where
  abbrev m : Marking
  m = marking w

  abbrev a : Placed
  a = c.p.inputs.first.d

  abbrev b : Placed
  b = c.p.inputs.second.d

  abbrev j : Placed
  j = c.p.j

  abbrev G : Graph
  G = lead (strip (keep m j))

  abbrev first : Disjs
  first = shown_all (left_all m a)

  abbrev second : Disjs
  second = shown_all (left_all m b)

  both : left_all m j ≡ left_all m a then left_all m b
  both = both_later a b j m c.p.joined

  shown_both : shown_all (left_all m j) ≡ first then second
  shown_both = ap shown_all both ∙ shown_next (left_all m a) (left_all m b)

  long : 16384 ≤ length w
  long = c.stage.ready.holds.long

  joined_is : Joined (graphs c.stage.es) G
  joined_is =
      let s = c.stage.same in
      joined_of (graphs c.stage.es) s.fine₁ G
      (join_both (graphs c.stage.es) (flat (strip (keep m j))) s.fine₁ s.fine₂ s.to s.from
      ∙ lead_joins (strip (keep m j)) c.can c.sane)

  -- the words of the whole
  abbrev all : List ℕ
  all = graph_words G ++ (disjs first + disjs second) ∷ (disjs_words first ++ disjs_words second)

  all_words : layout.words (outcome w c.p) ≡ all
  all_words = description_words j m ∙ ap (λ (x : Disjs). graph_words G ++ disjs x ∷ disjs_words x) shown_both
      ∙ ap₂ {C = List ℕ} (λ (i : ℕ) (l : List ℕ). graph_words G ++ i ∷ l) (then_count first second) (then_words first second)

  room : length (graph_words G) + 1 + length (disjs_words first) + length (disjs_words second) ≤ 2048
  room =
      let r = c.room in
      let e = ap length all_words in
      let s = length-append (graph_words G) ((disjs first + disjs second) ∷ (disjs_words first ++ disjs_words second)) in
      let q = length-append (disjs_words first) (disjs_words second) in
      omega arith

  pub show_writes : Writing n k w 0
  show_writes = record {
    es = c.stage.es;
    G = G;
    holds = c.stage.ready.holds;
    joined = joined_is;
    room =
        omega (arith, room, weight_words G);
  }

  -- what is pushed can still be taken back once it is written
  undoable₁ : (e : ℕ) (w₁ : List ℕ) → Writes n k w 0 e w₁ → Undoable n k w₁
  undoable₁ e w₁ u = let s = c.stage.undoable in record { w₀ = s.w₀; empty = s.empty; since = u.since 0 s.w₀ s.since }

  pub show_back : (e : ℕ) (w₁ : List ℕ) → Writes n k w 0 e w₁ → Remembers 0 k w₁
  show_back e w₁ u = undoable_asks n k w₁ (undoable₁ e w₁ u)

  near : (e : ℕ) (w₁ : List ℕ) → Writes n k w 0 e w₁ → e + 1 + length (disjs_words first) + length (disjs_words second) ≤ 2048
  near e w₁ u = omega (arith, room, weight_words G, (u.told c.stage.es G c.stage.ready.holds joined_is).0)

  pub show_near : (e : ℕ) (w₁ : List ℕ) → Writes n k w 0 e w₁ → e < 2048
  show_near e w₁ u = omega (arith, near e w₁ u)

  -- ---- neither input has a disjunction
  module _ (e : ℕ) (w₁ : List ℕ) (u : Writes n k w 0 e w₁) where
    long₁ : 16384 ≤ length w₁
    long₁ = omega (arith, long, u.kept.len)

    loaded₁ : loaded_words w₁ ≡ c.t
    loaded₁ = words_same w w₁ long u.kept.len (λ i h l. u.kept.mid i h (omega arith)) ∙ c.stage.ready.loaded

    abbrev read_a : Readable w₁ 0 depth_limit
    read_a = readable w₁ long₁ loaded₁ c.p.inputs.ground.few c.p.inputs.first

    abbrev read_b : Readable w₁ SECOND depth_limit
    read_b = readable w₁ long₁ loaded₁ c.p.inputs.ground.few c.p.inputs.second

    pub show_reads : (tail_at w₁ 0 < 2048) × (tail_at w₁ SECOND < 2048) × (SIZE ≤ length w₁)
    show_reads = ((reads read_a).inside, (reads read_b).inside, long₁)

    module _ (h : disjunctions_in w₁ ≡ 0) where
      plain_words : layout.words (outcome w c.p) ≡ graph_words G ++ 0 ∷ []
      plain_words = all_words ∙ ap₂ {C = List ℕ} (λ (x y : Disjs). graph_words G ++ (disjs x + disjs y) ∷ (disjs_words x ++ disjs_words y))
          (none_left m read_a (omega arith)) (none_left m read_b (omega arith))

      pub plain_told : (length (set w₁ (RESULT + e) 0) ≡ length w)
          × ((h : ℕ) → RESULT + 2048 ≤ h → get_or (set w₁ (RESULT + e) 0) h 0 ≡ get_or w h 0)
          × (e + 1 ≡ length (layout.words (outcome w c.p)))
          × Stands (set w₁ (RESULT + e) 0) RESULT (layout.words (outcome w c.p)) (RESULT + (e + 1))
      plain_told =
          let w₂ = set w₁ (RESULT + e) 0 in
          let low = show_near e w₁ u in
          let far = long₁ in
          let same = length-set w₁ (RESULT + e) 0 in
          let other : (j : ℕ) → (j ≡ RESULT + e → ⊥) → get_or w₂ j 0 ≡ get_or w₁ j 0 = λ j h. get_or-set_other w₁ (RESULT + e) j 0 0 h in
          let stands : Stands w₂ RESULT (graph_words G ++ 0 ∷ []) (RESULT + (e + 1)) =
          (stands_append w₂ (graph_words G) (0 ∷ []) RESULT (RESULT + (e + 1))).1 (
            RESULT + e,
            stands_frame w₁ w₂ (graph_words G) RESULT (RESULT + e) (λ j h l x. (omega arith, other j (λ q. omega arith)))
                (u.told c.stage.es G c.stage.ready.holds joined_is).1.0,
            (stands_cons w₂ 0 [] (RESULT + e) (RESULT + (e + 1))).1 (
              omega arith,
              get_or-set_same w₁ (RESULT + e) 0 0 (omega arith),
              (stands_nil w₂ (RESULT + e + 1) (RESULT + (e + 1))).1 (omega arith),
            ),
          ) in
          let all = subst (λ (xs : List ℕ). Stands w₂ RESULT xs (RESULT + (e + 1))) (sym plain_words) stands in (
            same ∙ u.kept.len,
            λ h l. other h (λ q. omega arith)
                ∙ u.kept.high h (omega arith),
            omega (arith, stands_length w₂ (layout.words (outcome w c.p)) RESULT (RESULT + (e + 1)) all),
            all,
          )

  -- ---- one has
  module _ (e : ℕ) (w₁ : List ℕ) (u : Writes n k w 0 e w₁) (w₂ : List ℕ) (v : Backs 0 k w₁ w₂) where
    top : Written n w 0 (graph_words G) e w₂
    top =
        let told = u.told c.stage.es G c.stage.ready.holds joined_is in
        let kept = u.kept in
        let len = v.len in
        record {
          len = len ∙ kept.len;
          mid = λ i h l. v.rest i h ∙ kept.mid i h l;
          high = λ i h. v.rest i (omega arith) ∙ kept.high i h;
          stands = stands_frame w₁ w₂ (graph_words G) RESULT (RESULT + e) (λ i h l x. (omega arith, v.rest i (omega arith))) told.1.0;
          holds = undoable_back n k w₁ (undoable₁ e w₁ u) w₂ v;
        }

    abbrev base₂ : Base n w₂
    base₂ =
        let same = written_same n w 0 (graph_words G) e w₂ long top in
        record {
          t = c.t;
          loaded = same.0 ∙ c.stage.ready.loaded;
          m = m;
          marks = same.1;
          U = c.p.inputs.U;
          ground =
              c.p.inputs.ground;
          holds = top.holds;
          inside = λ o i. absurd (Memᴰ.not-nil i);
        }

    cans : CanAll (left_all m a) × CanAll (left_all m b)
    cans = can_parts (left_all m a) (left_all m b) (subst CanAll both (inner_can j m c.can))

    sanes : SaneAll (left_all m a) × SaneAll (left_all m b)
    sanes = sane_parts (left_all m a) (left_all m b) (subst SaneAll both (inner_sane j m c.sane))

    pub show_first : Disjoining n w₂ 0 depth_limit (e + 1)
    show_first = record {
      base = base₂;
      lies = c.p.inputs.first;
      among = c.p.inputs.among_first;
      can = cans.0;
      sane = sanes.0;
      room = omega (arith, near e w₁ u);
    }

    module _ (r i : ℕ) (w₃ : List ℕ) (x : Disjoins n w₂ 0 depth_limit (e + 1) r i w₃) where
      told : Written n w₂ (e + 1) (disjs_words first) r w₃ × (i ≡ disjs first)
      unfolding show_first
      told = x show_first

      pub show_second : Disjoining n w₃ SECOND depth_limit r
      show_second = record {
        base = based n w₂ base₂ (e + 1) (disjs_words first) r w₃ told.0;
        lies = c.p.inputs.second;
        among = c.p.inputs.among_second;
        can = cans.1;
        sane = sanes.1;
        room = omega (arith, near e w₁ u, written_order n w₂ (e + 1) (disjs_words first) r w₃ told.0);
      }

      module _ (q l : ℕ) (w₄ : List ℕ) (y : Disjoins n w₃ SECOND depth_limit r q l w₄) where
        told₂ : Written n w₃ r (disjs_words second) q w₄ × (l ≡ disjs second)
        unfolding show_second
        told₂ = y show_second

        pub show_few : i + l ≤ 2048
        show_few = omega (arith, near e w₁ u, told.1, told₂.1, few_disjunctions first, few_disjunctions second)

        pub show_long : RESULT + e < length w₄
        show_long = omega (arith, told₂.0.holds.long, near e w₁ u)

        whole : Written n w 0 (layout.words (outcome w c.p)) q (set w₄ (RESULT + e) (i + l))
        whole =
            let w₅ = set w₄ (RESULT + e) (i + l) in
            let later = written_append n w₂ (e + 1) (disjs_words first) r w₃ (disjs_words second) q w₄ told.0 told₂.0 in
            subst (λ (xs : List ℕ). Written n w 0 xs q w₅) (sym all_words)
            (subst (λ (h : ℕ). Written n w 0 (graph_words G ++ h ∷ (disjs_words first ++ disjs_words second)) q w₅)
            (ap₂ ◌+◌ told.1 told₂.1)
            (written_between n w 0 (graph_words G) e w₂ (disjs_words first ++ disjs_words second) q w₄ (i + l) top later
            (show_near e w₁ u)))

        pub show_told : (length (set w₄ (RESULT + e) (i + l)) ≡ length w)
            × ((h : ℕ) → RESULT + 2048 ≤ h → get_or (set w₄ (RESULT + e) (i + l)) h 0 ≡ get_or w h 0)
            × (q ≡ length (layout.words (outcome w c.p)))
            × Stands (set w₄ (RESULT + e) (i + l)) RESULT (layout.words (outcome w c.p)) (RESULT + q)
        show_told =
            let f = written_order n w 0 (layout.words (outcome w c.p)) q (set w₄ (RESULT + e) (i + l)) whole in
            let r = c.room in
            (whole.len, λ h l. whole.high h (omega arith), omega arith, whole.stands)

pub shows : (n k : ℕ) (w : List ℕ) → Showing n k w → (e : ℕ) (w₁ : List ℕ) → Writes n k w 0 e w₁ → (w₂ : List ℕ) → Backs 0 k w₁ w₂ →
    (r i : ℕ) (w₃ : List ℕ) → Disjoins n w₂ 0 depth_limit (e + 1) r i w₃ →
    (q l : ℕ) (w₄ : List ℕ) → Disjoins n w₃ SECOND depth_limit r q l w₄ → Shows n k w q (set w₄ (RESULT + e) (i + l))
shows n k w c e w₁ u w₂ v r i w₃ x q l w₄ y =
    let own = show_told n k w c e w₁ u w₂ v r i w₃ x q l w₄ y in
    record { len = own.0; rest = own.1; told = λ d. let s = show_told n k w d e w₁ u w₂ v r i w₃ x q l w₄ y in (s.2, s.3) }

pub plain : (n k : ℕ) (w : List ℕ) → Showing n k w → (e : ℕ) (w₁ : List ℕ) → Writes n k w 0 e w₁ → disjunctions_in w₁ ≡ 0 →
    Shows n k w (e + 1) (set w₁ (RESULT + e) 0)
plain n k w c e w₁ u h =
    let own = plain_told n k w c e w₁ u h in
    record { len = own.0; rest = own.1; told = λ d. let s = plain_told n k w d e w₁ u h in (s.2, s.3) }
