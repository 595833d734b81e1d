-- The graphs of one choice are joined, one after the other, until one clashes.
-- Assumes nothing.
use Prim.Native.Nat.{ℕ, ◌+◌, ◌*◌, ◌-◌, ◌≤◌, ◌<◌}
use native.Mathlib.Omega.{arith}
use mathlib.Core.Path.{◌≡◌, refl, sym, ap, subst, ◌∙◌}
use mathlib.Core.Logic.{⊎_elim}
use mathlib.Core.Bool.{Bool, true, false, not}
use mathlib.Core.List.Memᴰ
use mathlib.Core.List.{List, [], ◌∷◌, ◌++◌, Memᴰ, append_assoc, append-nil}
use lib.ListN.{length, length-append, get_or, take}
use lib.Seq.{append_snoc, take_all}
use Rattle.theory.specs.Net.{Graph, Clash}
use Rattle.theory.specs.Descr.{agree}
use Rattle.theory.specs.Canonical.{Fine}
use Rattle.packing.specs.Packed.{word_nodes, word_number}
use Rattle.area.specs.Map.{NODES, LOADED, RESULT, SIZE}
use Rattle.area.specs.Region.{loaded_words}
use Rattle.area.specs.Log.{Logged, Later}
use Rattle.area.proofs.Undo.{later_refl, later_trans}
use Rattle.forest.specs.State.{targets, Uniting, United}
use Rattle.forest.proofs.Words.{words_later}
use Rattle.layout.specs.Standing.{Stands}
use Rattle.loading.specs.Entry.{Entry, graphs}
use Rattle.classes.specs.Entry.{Comes}
use Rattle.classes.specs.Nodes.{Noding, Noded}
use Rattle.classes.specs.Holds.{Holds}
use Rattle.classes.proofs.Comings.{graphs_append}
use Rattle.classes.proofs.Laws.{holds_agree}
use Rattle.classes.proofs.Pushings.{parts}
use Rattle.classes.proofs.Amid.{Onto, Amid, onto_low, onto_asked, onto_clash, amid_start, amid_asks, amid_low, amid_later, amid_end}
use Rattle.classes.proofs.Amid.{amid_clash, amid_span, amid_turn, node_later, node_long}
use Rattle.entering.specs.Taken.{Inside}
use Rattle.entering.specs.Ground.{Ground}
use Rattle.entering.proofs.Entering.{inside_append, canonical_all, clash_more}
use Rattle.entering.proofs.Settling.{agrees_true, clash_false}
use Rattle.choosing.specs.Ways.{Take, take_word, words_of}
use Rattle.choosing.proofs.Numbers.{Rises, rises_before}
use Rattle.plain.proofs.Turns.{Turn, turn, turn_next, turns_count, news, news_append, news_new, news_old, newly}

-- the graphs es are pushed, and a choice that takes ts is listed
pub record Choice (n k : ℕ) (w : List ℕ) (many : ℕ) : Type 0 where
  pub t : List ℕ
  pub loaded : loaded_words w ≡ t
  pub U : List Entry
  pub ground : Ground n t U
  pub es : List Entry
  pub fine : Fine (graphs es)
  pub holds : Holds n es k w
  pub inside : Inside U es
  pub ts : List Take
  pub stands : Stands w RESULT (words_of ts) (RESULT + many)
  pub each : (x : Take) → Memᴰ x ts → Memᴰ x.entry U
  pub low : (x : Take) → Memᴰ x ts → x.entry.at < LOADED
  pub rises : Rises 0 n ts
  pub new : (x : Take) → Memᴰ x ts → x.new ≡ true → (o : Entry) → Memᴰ o es → x.entry.number ≡ o.number → ⊥

-- what is pushed once the first i are
abbrev pub joined_up : {n k : ℕ} {w : List ℕ} {many : ℕ} → Choice n k w many → ℕ → List Entry
joined_up b i = b.es ++ news (take i b.ts)

-- the whole choice
abbrev pub whole : {n k : ℕ} {w : List ℕ} {many : ℕ} → Choice n k w many → List Graph
whole b = graphs b.es ++ graphs (news b.ts)

-- the first i are pushed, and can be taken back
pub record Through (n k : ℕ) (w : List ℕ) (many i e : ℕ) (w' : List ℕ) : Type 0 where
  pub below : i ≤ many
  pub later : Later k w e w'
  pub holds : (b : Choice n k w many) → Holds n (joined_up b i) e w'

pub through_none : (n k : ℕ) (w : List ℕ) (many : ℕ) → Logged k w → Through n k w many 0 k w
through_none n k w many g = record {
  below = omega arith;
  later = later_refl k w g;
  holds = λ b. subst (λ (l : List Entry). Holds n l k w) (sym (append-nil b.es)) b.holds;
}

-- what is told of a word: whether the graph is to be pushed, and where it stands
abbrev pub Told : ℕ → Bool → Type 0
Told word new = (x : Take) → x.entry.at < LOADED → word ≡ take_word x → new ≡ x.new

not_new : (b : Bool) → not b ≡ true → b ≡ false
not_new true e = sym e
not_new false e = refl

yes_new : (b : Bool) → not b ≡ false → true ≡ b
yes_new true e = refl
yes_new false e = e

pub told_new : {word : ℕ} {new : Bool} → Told word new → not new ≡ false → Told word true
told_new {word} {new} t e x l q = yes_new new e ∙ t x l q

abbrev pub Place : ℕ → ℕ → Type 0
Place word g = (x : Take) → x.entry.at < LOADED → word ≡ take_word x → g ≡ x.entry.at

-- ---- nodes of a graph that comes: what held where they began holds further on
pub record Onward (n y₀ at₀ left₀ e₀ : ℕ) (w₀ : List ℕ) (y at left e : ℕ) (w : List ℕ) : Type 0 where
  pub on : (m : ℕ) (u : List ℕ) (es : List Entry) (x : Entry) → Amid n m u es x y₀ at₀ left₀ e₀ w₀ → Amid n m u es x y at left e w

pub onward_none : (n y at left e : ℕ) (w : List ℕ) → Onward n y at left e w y at left e w
onward_none n y at left e w = record { on = λ m u es x a. a }

amid_as : {n m : ℕ} {u : List ℕ} {es : List Entry} (x : Entry) {y at left k : ℕ} {w : List ℕ} → x.number ≡ y → x.at + 1 ≡ at →
    length x.graph ≡ left → Amid n m u es x x.number (x.at + 1) (length x.graph) k w → Amid n m u es x y at left k w
amid_as x p q r a = rw (← p, ← q, ← r) a

pub onward_turn : {n y₀ at₀ left₀ e₀ : ℕ} {w₀ : List ℕ} {y at left e : ℕ} {w : List ℕ} → Onward n y₀ at₀ left₀ e₀ w₀ y at left e w →
    0 < left → {k₂ : ℕ} {bad : Bool} {w₂ : List ℕ} → Noded (loaded_words w) (targets w) n e w y at k₂ bad w₂ → bad ≡ false →
    {head d : ℕ} → head ≡ get_or (loaded_words w₂) at 0 → (65536 ≤ head → d ≡ 1) × (head < 65536 → d ≡ 1 + 2 * head) →
    Onward n y₀ at₀ left₀ e₀ w₀ (y + 1) (at + d) (left - 1) k₂ w₂
onward_turn o h v z is s = record { on = λ m u es x a. amid_turn (o.on m u es x a) h v is s z }

-- ---- what the choice is
module _ {n k : ℕ} {w : List ℕ} {many : ℕ} (b : Choice n k w many) where
  all_inside : Inside b.U (b.es ++ news b.ts)
  all_inside = inside_append b.U b.es (news b.ts) b.inside
      (λ o i. let e = newly b.ts o i in subst (λ (z : Entry). Memᴰ z b.U) (sym e.is) (b.each e.k e.one))

  whole_is : graphs (b.es ++ news b.ts) ≡ whole b
  whole_is = graphs_append b.es (news b.ts)

  whole_fine : Fine (whole b)
  whole_fine = subst Fine whole_is (
    subst (λ (l : List Graph). 0 < length l) (sym whole_is) (simp length-append (omega (arith, b.fine.0))),
    canonical_all n b.t b.U (b.es ++ news b.ts) b.ground all_inside,
  )

  -- it clashes where a part of it does
  clashes : (l r : List Entry) → b.es ++ news b.ts ≡ l ++ r → Clash (graphs l) → agree (whole b) ≡ false
  clashes l r e z = clash_false (whole b) whole_fine
      (subst Clash (ap graphs (sym e) ∙ whole_is)
      (clash_more n b.t b.U l r b.ground (subst (Inside b.U) e all_inside) z))

module _ {n k : ℕ} {w : List ℕ} {many i e : ℕ} {w' : List ℕ} (u : Through n k w many i e w') where
  -- ---- all are joined
  pub through_agrees : many ≤ i → (b : Choice n k w many) → agree (whole b) ≡ true
  through_agrees h b =
      let all : take i b.ts ≡ b.ts = take_all i b.ts (omega (arith, turns_count w RESULT b.ts many b.stands)) in
      let o : Holds n (b.es ++ news b.ts) e w' = subst (λ (l : List Take). Holds n (b.es ++ news l) e w') all (u.holds b) in
      agrees_true (whole b) (whole_fine b) (λ z. holds_agree n (b.es ++ news b.ts) e w' o (subst Clash (sym (whole_is b)) z))

  -- ---- the next one
  module _ (h : i < many) where
    next_of : (b : Choice n k w many) → Turn w RESULT b.ts i
    next_of b = turn w RESULT (RESULT + many) b.ts i b.stands (omega (arith, turns_count w RESULT b.ts many b.stands))

    word_is : {word : ℕ} → word ≡ get_or w' (RESULT + i) 0 → (b : Choice n k w many) → word ≡ take_word (next_of b).k
    word_is read b = read ∙ u.later.rest (RESULT + i) (omega arith) ∙ (next_of b).word

    -- it stands loaded
    pub through_place : Choice n k w many → {word g : ℕ} → word ≡ get_or w' (RESULT + i) 0 → Place word g → (g < LOADED) × (SIZE ≤ length w')
    through_place b read place =
        let low = b.low (next_of b).k (next_of b).one in
        (omega (arith, place (next_of b).k low (word_is read b), low), omega (arith, u.later.len, b.holds.long))

    -- it is pushed already
    pub through_old : {word : ℕ} {new : Bool} → word ≡ get_or w' (RESULT + i) 0 → Told word new → not new ≡ true →
        Through n k w many (i + 1) e w'
    through_old {word} {new} read told z = record {
      below = omega arith;
      later = u.later;
      holds = λ b. subst (λ (l : List Entry). Holds n (b.es ++ l) e w')
          (sym (ap news (turn_next (next_of b)) ∙ news_old (take i b.ts) (next_of b).k
          (sym (told (next_of b).k (b.low (next_of b).k (next_of b).one) (word_is read b)) ∙ not_new new z)))
          (u.holds b);
    }

-- ---- the next one is to be pushed: the parts of its graph are read
pub record Coming (n k : ℕ) (w : List ℕ) (many i e : ℕ) (w' : List ℕ) (g base count : ℕ) : Type 0 where
  pub through : Through n k w many i e w'
  pub some : i < many
  pub word : ℕ
  pub read : word ≡ get_or w' (RESULT + i) 0
  pub told : Told word true
  pub place : Place word g
  pub head : ℕ
  pub is : head ≡ get_or (loaded_words w') g 0
  pub first : base ≡ word_number head
  pub nodes : count ≡ word_nodes head

-- its root is joined: of its nodes `left` are left, from the number y and the position `at` on
pub record Nodes (n k : ℕ) (w : List ℕ) (many i y at left e : ℕ) (w' : List ℕ) : Type 0 where
  pub some : i < many
  pub x : Choice n k w many → Entry
  pub amid : (b : Choice n k w many) → Amid n k w (joined_up b i) (x b) y at left e w'
  pub more : (b : Choice n k w many) → joined_up b (i + 1) ≡ joined_up b i ++ x b ∷ []
  pub clash : (b : Choice n k w many) → Clash (graphs (joined_up b i) ++ (x b).graph ∷ []) → agree (whole b) ≡ false

module _ {n k : ℕ} {w : List ℕ} {many i e : ℕ} {w' : List ℕ} {g base count : ℕ} (u : Coming n k w many i e w' g base count) where
  module _ (b : Choice n k w many) where
    abbrev turn_of : Turn w RESULT b.ts i
    turn_of = next_of u.through u.some b

    abbrev coming : Entry
    coming = turn_of.k.entry

    low : coming.at < LOADED
    low = b.low turn_of.k turn_of.one

    is_word : u.word ≡ take_word turn_of.k
    is_word = word_is u.through u.some u.read b

    is_new : turn_of.k.new ≡ true
    is_new = sym (u.told turn_of.k low is_word)

    up_inside : Inside b.U (joined_up b i)
    up_inside = inside_append b.U b.es (news (take i b.ts)) b.inside (λ o j.
        let x = newly (take i b.ts) o j in
        subst (λ (e : Entry). Memᴰ e b.U) (sym x.is) (b.each x.k (subst (Memᴰ x.k) (sym turn_of.split)
        (Memᴰ.append_left (turn_of.k ∷ turn_of.rest) x.one))))

    apart : (o : Entry) → Memᴰ o (joined_up b i) → coming.number ≡ o.number → ⊥
    apart o j q = ⊎_elim (λ j. b.new turn_of.k turn_of.one is_new o j q) (λ j.
        let x = newly (take i b.ts) o j in
        let e : o.number ≡ x.k.entry.number = ap (λ (y : Entry). y.number) x.is in
        let l = rises_before 0 n (take i b.ts) turn_of.rest turn_of.k (subst (Rises 0 n) turn_of.split b.rises)
        x.k x.one in
        omega arith) (Memᴰ.append_cases b.es j)

    comes : Comes n (joined_up b i) coming w'
    comes = b.ground.comes w' (joined_up b i) e (words_later k w e w' b.holds.long u.through.later ∙ b.loaded)
        (u.through.holds b) up_inside coming (b.each turn_of.k turn_of.one) apart

    abbrev onto : Onto n k w (joined_up b i) coming e w'
    onto = record { later = u.through.later; holds = u.through.holds b; comes = comes }

    place_is : coming.at ≡ g
    place_is = sym (u.place turn_of.k low is_word)

    parts_are : (coming.number ≡ base) × (length coming.graph ≡ count)
    parts_are = parts n e w' g u.head base count u.is u.first u.nodes (joined_up b i) coming place_is comes

    -- what is pushed after it
    more : joined_up b (i + 1) ≡ joined_up b i ++ coming ∷ []
    more = ap (λ (l : List Entry). b.es ++ l) (ap news (turn_next turn_of) ∙ news_new (take i b.ts) turn_of.k is_new)
        ∙ sym (append_assoc b.es (news (take i b.ts)) (coming ∷ []))

    rest_is : b.es ++ news b.ts ≡ joined_up b i ++ coming ∷ [] ++ news turn_of.rest
    rest_is =
        let r = turn_of.rest in
        let x = turn_of.k in
        ap (λ (l : List Take). b.es ++ news l) (turn_of.split ∙ sym (append_snoc (take i b.ts) x r))
        ∙ ap (λ (l : List Entry). b.es ++ l) (news_append (take i b.ts ++ x ∷ []) r)
        ∙ sym (append_assoc b.es (news (take i b.ts ++ x ∷ [])) (news r))
        ∙ ap (λ (l : List Entry). b.es ++ l ++ news r) (news_new (take i b.ts) x is_new)
        ∙ ap (λ (l : List Entry). l ++ news r) (sym (append_assoc b.es (news (take i b.ts)) (coming ∷ [])))

    clash_whole : Clash (graphs (joined_up b i) ++ coming.graph ∷ []) → agree (whole b) ≡ false
    clash_whole c = clashes b (joined_up b i ++ coming ∷ []) (news turn_of.rest) rest_is
        (subst Clash (sym (graphs_append (joined_up b i) (coming ∷ []))) c)

    pub unite_low : g < LOADED
    unite_low = omega (arith, low, place_is)

    pub unite_asks : ((n ≤ NODES) × (SIZE ≤ length w')) × (((0 < n) × (base < n)) × Uniting (loaded_words w') (targets w') n e w' 0 base)
    unite_asks =
        let l = onto_low onto in
        let q = parts_are.0 in
        ((l.1.0, l.1.1.0), ((omega (arith, l.0), omega (arith, l.0)), rw (← q) (onto_asked onto)))

  -- ---- its root
  module _ {k₁ : ℕ} {bad : Bool} {w₁ : List ℕ} (v : United (loaded_words w') (targets w') n e w' 0 base k₁ bad w₁) where
    united : (b : Choice n k w many) → United (loaded_words w') (targets w') n e w' 0 (coming b).number k₁ bad w₁
    united b = rw (parts_are b).0 v

    pub root_later : Later k w k₁ w₁
    root_later = later_trans k w e w' k₁ w₁ u.through.later v.later

    pub root_clash : bad ≡ true → (b : Choice n k w many) → agree (whole b) ≡ false
    root_clash c b = clash_whole b (onto_clash (onto b) (united b) c)

    -- its nodes come
    pub nodes_come : bad ≡ false → {y at left e₂ : ℕ} {w₂ : List ℕ} → Onward n base (g + 1) count k₁ w₁ y at left e₂ w₂ →
        Nodes n k w many i y at left e₂ w₂
    nodes_come fine o = record {
      some = u.some;
      x = λ b. coming b;
      amid = λ b. o.on k w (joined_up b i) (coming b)
          (amid_as (coming b) (parts_are b).0 (ap (λ (z : ℕ). z + 1) (place_is b)) (parts_are b).1
          (amid_start (onto b) (united b) fine));
      more = λ b. more b;
      clash = λ b. clash_whole b;
    }

-- ---- the nodes of the graph that comes
module _ {n k : ℕ} {w : List ℕ} {many i y at left e : ℕ} {w' : List ℕ} (u : Nodes n k w many i y at left e w') where
  pub node_asks : Choice n k w many → 0 < left →
      ((n ≤ NODES) × (SIZE ≤ length w')) × Noding (loaded_words w') (targets w') n e w' y at
  node_asks b h = amid_asks (u.amid b) h

  pub through_next : Choice n k w many → left ≡ 0 → Through n k w many (i + 1) e w'
  through_next b₀ d = record {
    below = omega (arith, u.some);
    later = amid_later (u.amid b₀);
    holds = λ b. subst (λ (l : List Entry). Holds n l e w') (sym (u.more b)) (amid_end (u.amid b) d);
  }

  module _ (some : 0 < left) {k₁ : ℕ} {bad : Bool} {w₁ : List ℕ} (v : Noded (loaded_words w') (targets w') n e w' y at k₁ bad w₁) where
    pub node_clash : bad ≡ true → (b : Choice n k w many) → agree (whole b) ≡ false
    node_clash c b = u.clash b (amid_clash (u.amid b) some v c)

    module _ (b : Choice n k w many) where
      pub joined_later : Later k w k₁ w₁
      joined_later = node_later (u.amid b) some v

      pub node_here : (at < LOADED) × ((y < n) × ((n ≤ NODES) × (SIZE ≤ length w₁)))
      node_here = let l = amid_low (u.amid b) some in (l.0, (l.1.0, (l.1.1.0, node_long (u.amid b) some v)))

      pub node_room : {head d : ℕ} → head ≡ get_or (loaded_words w₁) at 0 →
          (65536 ≤ head → d ≡ 1) × (head < 65536 → d ≡ 1 + 2 * head) → at + d ≤ LOADED
      node_room is s = amid_span (u.amid b) some v is s
