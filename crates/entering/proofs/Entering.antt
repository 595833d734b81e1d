-- Entering a description: what is still to be pushed, disjunction by disjunction.
-- Assumes nothing.
use Prim.Native.Nat.{ℕ, ◌+◌, ◌-◌, ◌≤◌, ◌<◌}
use native.Mathlib.Omega.{arith}
use mathlib.Core.Path.{◌≡◌, refl, sym, ap, subst, ◌∙◌}
use mathlib.Core.Logic.{inl, ⊎_elim}
use mathlib.Core.List.Memᴰ
use mathlib.Core.List.{List, [], ◌∷◌, ◌++◌, append-nil, append_assoc, Memᴰ}
use lib.ListN.{length, get_or}
use Rattle.theory.specs.Net.{Graph, Clash}
use Rattle.theory.proofs.Instance.{AllCanonical}
use Rattle.theory.proofs.Sets.{clash_within}
use Rattle.area.specs.Map.{WORDS}
use Rattle.area.specs.Region.{loaded_words}
use Rattle.area.proofs.Region.{words_same, words_many}
use Rattle.engine.specs.Placed.{Placed, place, Places, stop, ◌also◌, Options}
use Rattle.engine.specs.Marks.{Marking, kept_of}
use Rattle.loading.specs.Entry.{Entry, graphs, entry}
use Rattle.loading.specs.Loaded.{extent}
use Rattle.loading.specs.Numbered.{places, options}
use Rattle.loading.specs.At.{AtAll, AtAny}
use Rattle.loading.specs.Lying.{Here}
use Rattle.loading.proofs.Walking.{at_bounds, all_bounds, any_bounds}
use Rattle.marks.specs.Positions.{tail_at, disjunctions_at, alternatives_at}
use Rattle.marks.specs.Marked.{marking}
use Rattle.marks.specs.Readable.{Readable, Alternatives}
use Rattle.marks.specs.Tallied.{Tallied}
use Rattle.marks.specs.declared.tally.Remnant.{Remnant}
use Rattle.marks.specs.declared.tally.Remnant.TheVariants.{One}
use Rattle.marks.proofs.Remnant.{kept_other}
use Rattle.marks.proofs.Reading.{readable, reads, tail_of, disjunctions_of, alternatives_is}
use Rattle.marks.proofs.Marks.{marking_frame}
use Rattle.loading.specs.Nesting.{Nests, NestsAll, NestsAny}
use Rattle.classes.specs.Entry.{Comes}
use Rattle.classes.specs.Holds.{Holds, Since, Pushing, Pushes}
use Rattle.std.specs.Prelude.{Option, Some, None}
use Rattle.classes.proofs.Laws.{since_trans}
use Rattle.classes.proofs.Comings.{graphs_append}
use Rattle.entering.specs.Taken.{taken_any, AmongAny, taken_here, taken_of, AmongHere, Inside, Free}
use Rattle.entering.specs.Ground.{Ground}
use Rattle.entering.specs.Entered.{Entering, entered, Enters}
use Rattle.entering.specs.Settled.{Alternating, settled}
use Rattle.entering.proofs.Certain.{inside_of, taken_any_inside, free_narrow, taken_any_between, taken_none}
use Rattle.entering.proofs.Alone.{counted, inner, inner_entered}
use Rattle.entering.proofs.Rests.{Rest, taken_rest, AmongRest}

-- ---- lists of entries
pub inside_append : (U xs ys : List Entry) → Inside U xs → Inside U ys → Inside U (xs ++ ys)
inside_append U xs ys a b o i = ⊎_elim (a o) (b o) (Memᴰ.append_cases xs i)

pub free_append : (n m : ℕ) (xs ys : List Entry) → Free n m xs → Free n m ys → Free n m (xs ++ ys)
free_append n m xs ys a b o i = ⊎_elim (a o) (b o) (Memᴰ.append_cases xs i)

pub canonical_all : (n : ℕ) (t : List ℕ) (U es : List Entry) → Ground n t U → Inside U es → AllCanonical (graphs es)
canonical_all n t U [] g i = tt
canonical_all n t U (e ∷ es) g i = (g.canonical e (i e (Memᴰ.head refl)), canonical_all n t U es g (λ o j. i o (Memᴰ.tail j)))

-- more graphs clash where some do
pub clash_more : (n : ℕ) (t : List ℕ) (U xs ys : List Entry) → Ground n t U → Inside U (xs ++ ys) → Clash (graphs xs) →
    Clash (graphs (xs ++ ys))
clash_more n t U xs ys g i c =
    clash_within (graphs xs) (graphs (xs ++ ys)) (canonical_all n t U xs g (λ o j. i o (Memᴰ.append_left ys j)))
    (canonical_all n t U (xs ++ ys) g i)
    (λ x j. subst (λ (l : List Graph). Memᴰ x l) (sym (graphs_append xs ys)) (Memᴰ.append_left (graphs ys) j)) c

-- what has been reached: nothing from WORDS on has changed, and the start is remembered
pub record Reached (k : ℕ) (w : List ℕ) (log : ℕ) (w₁ : List ℕ) : Type 0 where
  pub len : length w₁ ≡ length w
  pub rest : (j : ℕ) → WORDS ≤ j → get_or w₁ j 0 ≡ get_or w j 0
  pub since : Since k w log w₁

module _ (n k : ℕ) (w : List ℕ) (g left : ℕ) (c : Entering n k w g left) where
  room : 16384 ≤ length w
  room = c.s.holds.long

  -- ---- the description's own graph
  pub own_comes : (K : Graph) (ds : Places) (at : Here c.lies (place K ds)) →
      AmongHere c.s.U c.lies (place K ds) at → Comes n c.es (entry g c.lies.from K) w
  own_comes K ds at u =
      let more = (at_bounds c.s.t (place K ds) g c.lies.from c.lies.end c.lies.to at).2 in
      c.s.ground.comes w c.es k c.s.loaded c.s.holds c.s.inside (entry g c.lies.from K) u.0
      (λ o i q. ⊎_elim (λ b. omega arith) (λ b. omega arith) (c.free o i))

  pub asks_own : Pushing n k w g
  asks_own = go c.lies.d c.lies.at c.among
    where
      go : (d : Placed) (at : Here c.lies d) → AmongHere c.s.U c.lies d at →
          Pushing n k w g
      go (place K ds) at u = record {
        es = c.es;
        e = entry g c.lies.from K;
        is = refl;
        holds = c.s.holds;
        comes = own_comes K ds at u;
      }

  inside_all : Inside c.s.U (entered c)
  inside_all = inside_append c.s.U c.es (taken_of (marking w) c.lies) c.s.inside
      (inside_of (marking w) c.lies c.s.U c.among)

  -- ---- `more` disjunctions are left, from `at` on; before them some graphs were pushed
  pub record Walking (more at log : ℕ) (w₁ : List ℕ) : Type 0 where
    pub ds : Places
    pub from : ℕ
    pub stand : Rest c.lies at from ds
    pub many : places ds ≡ more
    pub nests : NestsAll ds left
    pub among : AmongRest c.s.U c.lies at from ds stand
    pub es : List Entry
    pub holds : Holds n es log w₁
    pub inside : Inside c.s.U es
    pub free : Free from c.lies.to es
    pub total : entered c ≡ es ++ taken_rest (marking w) c.lies at from ds stand

  module _ (log : ℕ) (w₁ : List ℕ) (r : Reached k w log w₁) where
    room₁ : 16384 ≤ length w₁
    room₁ = omega (arith, r.len, room)

    loaded₁ : loaded_words w₁ ≡ c.s.t
    loaded₁ = words_same w w₁ room r.len (λ j a b. r.rest j a) ∙ c.s.loaded

    marks₁ : marking w₁ ≡ marking w
    marks₁ = marking_frame w w₁ room r.len (λ j a b. r.rest j (omega arith))

    abbrev read₁ : Readable w₁ g left
    read₁ = readable w₁ room₁ loaded₁ c.s.ground.few c.lies

    pub starts : (g < 2048) × (tail_at w₁ g < 2048)
    starts = let s = reads read₁ in (s.here, s.inside)

    pub walk_start : (o : Option ℕ) → Pushes n k w g o w₁ → o ≡ Some log → (e more : ℕ) → e ≡ tail_at w₁ g → more ≡ disjunctions_at w₁ e →
        Walking more (e + 1) log w₁
    walk_start o u z e more f h = go c.lies.d c.lies.at read₁.lies.at c.among c.lies.nests refl
      where
        go : (d : Placed) (at : Here c.lies d) → Here read₁.lies d →
            AmongHere c.s.U c.lies d at → Nests d left →
            entered c ≡ c.es ++ taken_here (marking w) c.lies d at → Walking more (e + 1) log w₁
        go (place K ds) at here s nests same =
            let own = entry g c.lies.from K in
            let tail : e ≡ g + extent K = f ∙ tail_of read₁ K ds here in
            let some = at.0 in
            let more-than = (at_bounds c.s.t (place K ds) g c.lies.from c.lies.end c.lies.to at).2 in
            subst (λ (p : ℕ). Walking more (p + 1) log w₁) (sym tail) (record {
              ds = ds;
              from = c.lies.from + length K;
              stand = at.6;
              many = sym (h ∙ ap (disjunctions_at w₁) tail ∙ disjunctions_of read₁ K ds here);
              nests = nests;
              among = s.1;
              es = c.es ++ own ∷ [];
              holds = (u.inside log z).1 c.es own refl c.s.holds (own_comes K ds at s);
              inside = inside_append c.s.U c.es (own ∷ []) c.s.inside
                  (λ o i. ⊎_elim (λ q. subst (λ (x : Entry). Memᴰ x c.s.U) (sym q) s.0) (λ j. absurd (Memᴰ.not-nil j))
                  (Memᴰ.cases_cons i));
              free = free_append (c.lies.from + length K) c.lies.to c.es (own ∷ [])
                  (free_narrow c.lies.from c.lies.to (c.lies.from + length K) c.lies.to c.es (omega arith) (omega arith)
                  c.free)
                  (λ o i. ⊎_elim (λ q. let v : o.number ≡ c.lies.from = ap (λ (x : Entry). x.number) q in
                  inl (omega arith)) (λ j. absurd (Memᴰ.not-nil j)) (Memᴰ.cases_cons i));
              total = same ∙ sym (append_assoc c.es (own ∷ [])
                  (taken_rest (marking w) c.lies (g + extent K + 1) (c.lies.from + length K) ds at.6));
            })

    module _ (more at : ℕ) (v : Walking more at log w₁) where
      pub walk_done : more ≤ 0 → Holds n (entered c) log w₁
      walk_done h = go v.ds v.stand v.many v.total
        where
          go : (ds : Places) (s : Rest c.lies at v.from ds) → places ds ≡ more →
              entered c ≡ v.es ++ taken_rest (marking w) c.lies at v.from ds s → Holds n (entered c) log w₁
          go stop s many total = subst (λ (l : List Entry). Holds n l log w₁) (sym (total ∙ append-nil v.es)) v.holds
          go (a also ds) s many total = absurd (omega arith)

      pub walk_here : 0 < more → at < 2048
      walk_here h = go v.ds v.stand v.many
        where
          go : (ds : Places) → Rest c.lies at v.from ds → places ds ≡ more → at < 2048
          go stop s many = absurd (omega arith)
          go (a also ds) s many = let there = s.2 in omega (arith, words_many w room, ap length c.s.loaded)

      -- the next disjunction
      record Next : Type 0 where
        a : Options
        later : Places
        q : ℕ
        m : ℕ
        any : AtAny c.s.t (at + 1) v.from a q m
        all : Rest c.lies q m later
        within : at + 1 ≤ length c.s.t
        low_end : v.from ≤ m
        end_low : m ≤ c.lies.to
        count : alternatives_at w₁ at ≡ options a
        many_later : places later + 1 ≡ more
        deep : 0 < left
        inner : NestsAny a (left - 1)
        nests_later : NestsAll later left
        among_any : AmongAny c.s.U c.s.t (at + 1) v.from a q m any
        among_later : AmongRest c.s.U c.lies q m later all
        total_next : entered c ≡ v.es
            ++ (taken_any c.s.t (marking w) (at + 1) v.from a q m any ++ taken_rest (marking w) c.lies q m later all)

      next : 0 < more → Next
      next h = go v.ds v.stand v.many v.nests v.among v.total
        where
          go : (ds : Places) (s : Rest c.lies at v.from ds) → places ds ≡ more → NestsAll ds left →
              AmongRest c.s.U c.lies at v.from ds s →
              entered c ≡ v.es ++ taken_rest (marking w) c.lies at v.from ds s → Next
          go stop s many nests u total = absurd (omega arith)
          go (a also ds) s many nests u total =
              let there = s.2 in
              let first = any_bounds c.s.t a (at + 1) v.from s.0 s.1 (omega arith) s.4 in
              record {
                a = a;
                later = ds;
                q = s.0;
                m = s.1;
                any = s.4;
                all = s.5;
                within = omega arith;
                low_end = first.2;
                end_low = (all_bounds c.s.t ds s.0 s.1 c.lies.end c.lies.to first.1 s.5).2;
                count = alternatives_is w₁ a ds at v.from c.lies.end c.lies.to
                    (subst (λ (t : List ℕ). AtAll t at v.from (a also ds) c.lies.end c.lies.to) (sym loaded₁) s);
                many_later = omega arith;
                deep = nests.0;
                inner = nests.1;
                nests_later = nests.2;
                among_any = u.0;
                among_later = u.1;
                total_next = total;
              }

      pub walk_deep : 0 < more → 0 < left
      walk_deep h = (next h).deep

      module _ (h : 0 < more) (count : ℕ) (e : count ≡ alternatives_at w₁ at) where
        abbrev these : Alternating n log w₁ (at + 1) count (left - 1)
        these =
            let x = next h in
            record {
              es = v.es;
              s = record {
                t = c.s.t;
                loaded = loaded₁;
                m = marking w₁;
                marks = refl;
                U = c.s.U;
                ground = c.s.ground;
                holds = v.holds;
                inside = v.inside;
              };
              lies = record {
                a = x.a;
                from = v.from;
                end = x.q;
                to = x.m;
                at = x.any;
                within = x.within;
                low = omega (arith, x.end_low, c.lies.low);
                many = sym (e ∙ x.count);
                nests = x.inner;
              };
              among = x.among_any;
              free = free_narrow v.from c.lies.to v.from x.m v.es (omega arith) x.end_low v.free;
            }

        pub walk_asks : Alternatives w₁ (at + 1) count
        walk_asks = counted n log w₁ (at + 1) count (left - 1) these

        -- what is taken of it, and after it
        abbrev list : List Entry
        list = taken_any c.s.t (marking w) (at + 1) v.from (next h).a (next h).q (next h).m (next h).any

        abbrev rest_list : List Entry
        rest_list = taken_rest (marking w) c.lies (next h).q (next h).m (next h).later (next h).all

        total_alone : entered c ≡ (v.es ++ list) ++ rest_list
        total_alone = (next h).total_next ∙ sym (append_assoc v.es list rest_list)

        settled_is : settled these ≡ v.es ++ list
        settled_is = ap (λ (u : Marking). v.es ++ taken_any c.s.t u (at + 1) v.from (next h).a (next h).q (next h).m
            (next h).any)
            marks₁

        -- past it
        past : (i : ℕ) (w₂ : List ℕ) → Holds n (v.es ++ list) i w₂ → Walking (more - 1) (next h).q i w₂
        past i w₂ held =
            let x = next h in
            let m = x.many_later in
            record {
              ds = x.later;
              from = x.m;
              stand = x.all;
              many = omega arith;
              nests = x.nests_later;
              among = x.among_later;
              es = v.es ++ list;
              holds = held;
              inside = inside_append c.s.U v.es list v.inside
                  (taken_any_inside c.s.t (marking w) c.s.U (at + 1) v.from x.a x.q x.m x.any x.among_any);
              free = free_append x.m c.lies.to v.es list
                  (free_narrow v.from c.lies.to x.m c.lies.to v.es x.low_end (omega arith) v.free)
                  (λ o j. let f = (taken_any_between c.s.t (marking w) (at + 1) v.from x.a x.q x.m x.within
                  x.any o j).1 in inl (omega arith));
              total = total_alone;
            }

        module _ (which : Remnant) (after : ℕ) (tally : (s : Alternatives w₁ (at + 1) count) → Tallied w₁ s which after) where
          abbrev told : Tallied w₁ (counted n log w₁ (at + 1) count (left - 1) these) which after
          told = tally (counted n log w₁ (at + 1) count (left - 1) these)

          pub walk_skip : ((x : ℕ) → which ≡ One x → ⊥) → Walking (more - 1) after log w₁
          walk_skip z =
              let none = taken_none c.s.t (marking w) (next h).a (at + 1) v.from (next h).q (next h).m (next h).any
              (λ f. kept_other w₁ (counted n log w₁ (at + 1) count (left - 1) these) which after told z
              (ap (λ (u : Marking). kept_of u (next h).a) marks₁ ∙ f)) in
              subst (λ (p : ℕ). Walking (more - 1) p log w₁) (sym told.after_is)
              (past log w₁ (subst (λ (l : List Entry). Holds n l log w₁)
              (sym (ap (λ (l : List Entry). v.es ++ l) none ∙ append-nil v.es)) v.holds))

          module _ (first : ℕ) (one : which ≡ One first) where
            pub walk_inner : Entering n log w₁ first (left - 1)
            walk_inner = inner n log w₁ (at + 1) count (left - 1) these which after told first one

            walk_entered : entered walk_inner ≡ v.es ++ list
            unfolding walk_inner
            walk_entered = inner_entered n log w₁ (at + 1) count (left - 1) these which after told first one ∙ settled_is

            module _ (o : Option ℕ) (w₂ : List ℕ) (u : Enters n log w₁ first (left - 1) o w₂) where
              pub walk_clash : o ≡ None → Clash (graphs (entered c))
              walk_clash z =
                  let k = subst (λ (l : List Entry). Clash (graphs l)) walk_entered ((u.clashed z).1 walk_inner).0 in
                  subst (λ (l : List Entry). Clash (graphs l)) (sym total_alone)
                  (clash_more n c.s.t c.s.U (v.es ++ list) rest_list c.s.ground
                  (subst (Inside c.s.U) total_alone inside_all) k)

              pub walk_in : (i : ℕ) → o ≡ Some i → Walking (more - 1) after i w₂
              walk_in i z = subst (λ (p : ℕ). Walking (more - 1) p i w₂) (sym told.after_is)
                  (past i w₂ (subst (λ (l : List Entry). Holds n l i w₂) walk_entered ((u.pushed i z).1 walk_inner)))

-- further on, where the start is still remembered
pub reach_on : (k : ℕ) (w : List ℕ) (log : ℕ) (w₁ : List ℕ) (i : ℕ) (w₂ : List ℕ) → Reached k w log w₁ → length w₂ ≡ length w₁ →
    ((j : ℕ) → WORDS ≤ j → get_or w₂ j 0 ≡ get_or w₁ j 0) → Since log w₁ i w₂ → Reached k w i w₂
reach_on k w log w₁ i w₂ r len rest s =
    record { len = len ∙ r.len; rest = λ j h. rest j h ∙ r.rest j h; since = since_trans k w log w₁ i w₂ r.since s }

-- the description's own graph is in
pub reach_own : (n k : ℕ) (w : List ℕ) (g : ℕ) (o : Option ℕ) (j : ℕ) (w₁ : List ℕ) → Pushes n k w g o w₁ → o ≡ Some j → Reached k w j w₁
reach_own n k w g o j w₁ u z = record { len = u.len; rest = u.rest; since = (u.inside j z).0 }

-- it clashes
pub enters_own : (n k : ℕ) (w : List ℕ) (g left : ℕ) (o : Option ℕ) (w₁ : List ℕ) → Pushes n k w g o w₁ → o ≡ None →
    Enters n k w g left None w₁
enters_own n k w g left o w₁ u z = record {
  len = u.len;
  rest = u.rest;
  pushed = λ i y. let x : ◌≡◌ {A = ℕ} 0 1 = cc in absurd (omega arith);
  clashed = λ y. ((u.clashed z).0.0, λ c. own_clash c c.lies.d c.lies.at c.among refl);
}
  where
    own_clash : (c : Entering n k w g left) (d : Placed) (at : Here c.lies d) →
        AmongHere c.s.U c.lies d at →
        entered c ≡ c.es ++ taken_here (marking w) c.lies d at → Clash (graphs (entered c)) × Holds n c.es k w₁
    own_clash c (place K ds) at s same =
        let own = entry g c.lies.from K in
        let told = (u.clashed z).1 c.es own refl c.s.holds (own_comes n k w g left c K ds at s) in
        let rest = taken_rest (marking w) c.lies (g + extent K + 1) (c.lies.from + length K) ds at.6 in
        let all : entered c ≡ (c.es ++ own ∷ []) ++ rest = same ∙ sym (append_assoc c.es (own ∷ []) rest) in
        let first = subst Clash (sym (graphs_append c.es (own ∷ []))) told.0 in (
          subst (λ (l : List Entry). Clash (graphs l)) (sym all)
              (clash_more n c.s.t c.s.U (c.es ++ own ∷ []) rest c.s.ground
              (subst (Inside c.s.U) all (inside_all n k w g left c)) first),
          told.1,
        )

-- from the first disjunction on: what held there holds further on
abbrev pub Onward : (n k g left more₀ at₀ log₀ : ℕ) → List ℕ → (more at log : ℕ) → List ℕ → Type 0
Onward n k g left more₀ at₀ log₀ w₀ more at log w = (v : List ℕ) (c : Entering n k v g left) → Reached k v log₀ w₀ →
    Walking n k v g left c more₀ at₀ log₀ w₀ → Reached k v log w × Walking n k v g left c more at log w

-- what a turn does: the alternative that stands alone is entered, or there is none
pub data Turn (n log : ℕ) (w₁ : List ℕ) (left : ℕ) (which : Remnant) (i : ℕ) (w₂ : List ℕ) : Type 0 where
  one : (first : ℕ) (o : Option ℕ) (j : ℕ) (w' : List ℕ) → which ≡ One first → Enters n log w₁ first (left - 1) o w' → o ≡ Some j → w₂ ≡ w' →
      i ≡ j → Turn n log w₁ left which i w₂
  none : ((x : ℕ) → which ≡ One x → ⊥) → w₂ ≡ w₁ → i ≡ log → Turn n log w₁ left which i w₂

pub walk_on : (n k : ℕ) (w : List ℕ) (g left : ℕ) (c : Entering n k w g left) (log : ℕ) (w₁ : List ℕ) (r : Reached k w log w₁) (more at : ℕ)
    (v : Walking n k w g left c more at log w₁) (h : 0 < more) (count : ℕ) → count ≡ alternatives_at w₁ at → (which : Remnant) (after : ℕ) →
    ((s : Alternatives w₁ (at + 1) count) → Tallied w₁ s which after) → (i : ℕ) (w₂ : List ℕ) → Turn n log w₁ left which i w₂ →
    Reached k w i w₂ × Walking n k w g left c (more - 1) after i w₂
walk_on n k w g left c log w₁ r more at v h count e which after tally i w₂ (one first o j w' z u y f q) =
    subst (λ (x : List ℕ). Reached k w i x × Walking n k w g left c (more - 1) after i x) (sym f)
    (subst (λ (b : ℕ). Reached k w b w' × Walking n k w g left c (more - 1) after b w') (sym q) (
      reach_on k w log w₁ j w' r u.len u.rest (u.pushed j y).0,
      walk_in n k w g left c log w₁ r more at v h count e which after tally first z o w' u j y,
    ))
walk_on n k w g left c log w₁ r more at v h count e which after tally i w₂ (none z f q) =
    subst (λ (x : List ℕ). Reached k w i x × Walking n k w g left c (more - 1) after i x) (sym f)
    (subst (λ (b : ℕ). Reached k w b w₁ × Walking n k w g left c (more - 1) after b w₁) (sym q)
    (r, walk_skip n k w g left c log w₁ r more at v h count e which after tally z))

-- all are in
pub enters_all : (n k : ℕ) (w : List ℕ) (g left log : ℕ) (w₁ : List ℕ) → Reached k w log w₁ →
    ((c : Entering n k w g left) → Holds n (entered c) log w₁) → Enters n k w g left (Some log) w₁
enters_all n k w g left log w₁ r all = record {
  len = r.len;
  rest = r.rest;
  pushed = λ i y.
      let x : log ≡ i = cc in
      (subst (λ (i : ℕ). Since k w i w₁) x r.since, λ c. subst (λ (i : ℕ). Holds n (entered c) i w₁) x (all c));
  clashed = λ y. let x : ◌≡◌ {A = ℕ} 0 1 = cc in absurd (omega arith);
}
