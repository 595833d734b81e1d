-- All graphs of both inputs as they lie in the area: any two lie aside, and one that is not pushed yet may be.
-- Assumes nothing.
use Prim.Native.Nat.{ℕ, zero, suc, ◌+◌, ◌*◌, ◌≤◌, ◌<◌}
use native.Mathlib.Omega.{arith}
use mathlib.Core.Path.{◌≡◌, refl, sym, ap, subst, ◌∙◌}
use mathlib.Core.Logic.{◌⊎◌, inl, inr, ⊎_elim}
use mathlib.Core.List.Memᴰ
use mathlib.Core.List.{List, [], ◌∷◌, ◌++◌, Memᴰ}
use lib.ListN.{length, get_or}
use Rattle.theory.specs.Limits.{input_limit, depth_limit}
use Rattle.theory.specs.Net.{Canonical}
use Rattle.theory.specs.Descr.{Desc, desc, Disjs, end, ◌and◌, Alts, fail, ◌or◌}
use Rattle.theory.specs.Layout.{words, alts_words, GraphFits, WellFormed, WellAll, WellAny}
use Rattle.theory.specs.Weight.{weight}
use Rattle.theory.proofs.Reading.{well_can}
use Rattle.layout.specs.Standing.{Stands}
use Rattle.layout.proofs.Standing.{stands_bounds, stands_cons, stands_get}
use Rattle.loading.specs.Entry.{Entry, entry}
use Rattle.loading.specs.Loaded.{extent, header, located, nodes_in, nodes_any}
use Rattle.loading.proofs.Sizes.{nodes_few, graph_extent, located_length}
use Rattle.loading.proofs.Entries.{entries, entries_all, entries_any, Inside, inside_wide, entries_inside, Ordered, ordered_append}
use Rattle.loading.proofs.Entries.{entries_ordered, entries_lie}
use Rattle.area.specs.Map.{WORDS, SIZE, SECOND}
use Rattle.area.specs.Region.{region}
use Rattle.area.proofs.Region.{getD_region, length_region}
use Rattle.classes.specs.Entry.{Lies, Aside, Comes}
use Rattle.classes.specs.Holds.{Holds}
use Rattle.classes.proofs.Room.{room_enough}
use Rattle.opening.specs.Opening.{Stand, definite}

-- the graphs of a well-formed description are canonical, and their features and atoms in range
abbrev Good : Entry → Type 0
Good e = Canonical e.graph × GraphFits e.graph

abbrev AllGood : List Entry → Type 0
AllGood es = (e : Entry) → Memᴰ e es → Good e

good_append : (xs ys : List Entry) → AllGood xs → AllGood ys → AllGood (xs ++ ys)
good_append xs ys a b e i = ⊎_elim (a e) (b e) (Memᴰ.append_cases xs i)

mutual
  entries_good : (p n left : ℕ) (d : Desc) → WellFormed d left → AllGood (entries p n d)
  entries_good p n left (desc g ds) w =
      good_append (entry p n g ∷ []) _
      (λ e i. ⊎_elim (λ s. subst Good (sym s) (w.0, w.1)) (λ j. absurd (Memᴰ.not-nil j)) (Memᴰ.cases_cons i))
      (entries_all_good (p + extent g + 1) (n + length g) left ds w.2)

  entries_all_good : (p n left : ℕ) (ds : Disjs) → WellAll ds left → AllGood (entries_all p n ds)
  entries_all_good p n left end w = λ e i. absurd (Memᴰ.not-nil i)
  entries_all_good p n zero (a and ds) w = absurd w
  entries_all_good p n (suc left) (a and ds) w =
      good_append (entries_any (p + 1) n a) _ (entries_any_good (p + 1) n left a w.1)
      (entries_all_good (p + suc (length (alts_words a))) (n + nodes_any a) (suc left) ds w.2)

  entries_any_good : (p n left : ℕ) (a : Alts) → WellAny a left → AllGood (entries_any p n a)
  entries_any_good p n left fail w = λ e i. absurd (Memᴰ.not-nil i)
  entries_any_good p n left (d or a) w =
      good_append (entries p n d) _ (entries_good p n left d w.0)
      (entries_any_good (p + length (words d)) (n + nodes_in d) left a w.1)

-- one of two entries of an ordered list is before the other, or they are one
abbrev Before : Entry → Entry → Type 0
Before e f = (e.at + extent e.graph < f.at) × (e.number + length e.graph ≤ f.number)

either_way : (es : List Entry) → Ordered es → (e f : Entry) → Memᴰ e es → Memᴰ f es → (e ≡ f) ⊎ (Before e f ⊎ Before f e)
either_way [] o e f i j = absurd (Memᴰ.not-nil i)
either_way (x ∷ es) o e f i j = go (Memᴰ.cases_cons i) (Memᴰ.cases_cons j) (either_way es o.1 e f)
  where
    go : (e ≡ x) ⊎ Memᴰ e es → (f ≡ x) ⊎ Memᴰ f es → (Memᴰ e es → Memᴰ f es → (e ≡ f) ⊎ (Before e f ⊎ Before f e)) →
        (e ≡ f) ⊎ (Before e f ⊎ Before f e)
    go (inl p) (inl q) r = inl (p ∙ sym q)
    go (inl p) (inr m) r = inr (inl (subst (λ (z : Entry). Before z f) (sym p) (o.0 f m)))
    go (inr m) (inl q) r = inr (inr (subst (λ (z : Entry). Before z e) (sym q) (o.0 e m)))
    go (inr m) (inr k) r = r m k

before_aside : (e f : Entry) → Before e f → Aside e f
unfolding weight
before_aside e f b = let x = b.0 in let y = b.1 in (inl (omega arith), inl (omega arith))

after_aside : (e f : Entry) → Before f e → Aside e f
unfolding weight
after_aside e f b = let x = b.0 in let y = b.1 in (inr (omega arith), inr (omega arith))

-- the graphs of both inputs, in reading order
abbrev pub universe : Desc → Desc → List Entry
universe d e = entries 0 0 d ++ entries SECOND (nodes_in d) e

-- both definite graphs are among them
in_entries : (p n : ℕ) (d : Desc) → Memᴰ (definite p n d) (entries p n d)
in_entries p n (desc g ds) = Memᴰ.head refl

pub in_one : (d e : Desc) → Memᴰ (definite 0 0 d) (universe d e)
in_one d e = Memᴰ.append_left (entries SECOND (nodes_in d) e) (in_entries 0 0 d)

pub in_two : (d e : Desc) → Memᴰ (definite SECOND (nodes_in d) e) (universe d e)
in_two d e = Memᴰ.append_right (entries 0 0 d) (in_entries SECOND (nodes_in d) e)

module _ (w : List ℕ) (d e : Desc) (n : ℕ) (long : SIZE ≤ length w) (wd : WellFormed d depth_limit) (we : WellFormed e depth_limit)
    (fd : length (words d) ≤ input_limit) (fe : length (words e) ≤ input_limit) (s : Stand (region WORDS 2048 w) d e n) where
  abbrev t : List ℕ
  t = region WORDS 2048 w

  -- the nodes are few
  pub nodes_room : 3 * n ≤ 2048
  nodes_room = omega (arith, nodes_few d (well_can d wd), nodes_few e (well_can e we), s.count)

  first_inside : Inside 0 SECOND 0 (nodes_in d) (entries 0 0 d)
  first_inside = inside_wide 0 0 (0 + length (words d)) SECOND 0 0 (0 + nodes_in d) (nodes_in d) (entries 0 0 d) (omega arith) (omega arith)
      (omega arith) (omega arith) (entries_inside 0 0 d)

  second_inside : Inside SECOND 2048 (nodes_in d) n (entries SECOND (nodes_in d) e)
  second_inside = inside_wide SECOND SECOND (SECOND + length (words e)) 2048 (nodes_in d) (nodes_in d) (nodes_in d + nodes_in e) n
      (entries SECOND (nodes_in d) e) (omega arith) (omega arith) (omega arith) (omega (arith, s.count))
      (entries_inside SECOND (nodes_in d) e)

  ordered : Ordered (universe d e)
  ordered = ordered_append 0 SECOND 2048 0 (nodes_in d) n (entries 0 0 d) (entries SECOND (nodes_in d) e) first_inside second_inside
      (entries_ordered 0 0 d) (entries_ordered SECOND (nodes_in d) e)

  pub good : AllGood (universe d e)
  good = good_append (entries 0 0 d) (entries SECOND (nodes_in d) e) (entries_good 0 0 depth_limit d wd)
      (entries_good SECOND (nodes_in d) depth_limit e we)

  -- how an entry's graph stands among the words, and that it is not too large
  record Placed (x : Entry) : Type 0 where
    stands : Stands t x.at (header x.number x.graph ∷ located x.number x.graph) (x.at + extent x.graph)
    small : extent x.graph < 1024
    within : x.number + length x.graph ≤ n

  placed : (x : Entry) → Memᴰ x (universe d e) → Placed x
  placed x i = ⊎_elim
      (λ j. let b = first_inside x j in let c = b.1 in let u = b.3 in
      record { stands = entries_lie t 0 0 _ _ (length (words d)) d s.first x j; small = omega arith; within = omega (arith, s.count) })
      (λ j. let b = second_inside x j in let c = b.0 in let u = b.1 in
      record {
        stands = entries_lie t SECOND (nodes_in d) _ _ (SECOND + length (words e)) e s.second x j;
        small = omega arith;
        within =
            b.3;
      })
      (Memᴰ.append_cases (entries 0 0 d) i)

  read : (j : ℕ) → j < 2048 → get_or t j 0 ≡ get_or w (WORDS + j) 0
  read j h = getD_region WORDS 2048 w j h

  pub lies : (x : Entry) → Memᴰ x (universe d e) → Lies w x.at x.number x.graph
  unfolding weight
  lies x i =
      let p = placed x i in
      let parts = (stands_cons t (header x.number x.graph) (located x.number x.graph) x.at (x.at + extent x.graph)).0
      p.stands in
      let bounds = stands_bounds t (header x.number x.graph) (located x.number x.graph) x.at (x.at + extent x.graph)
      p.stands in
      let size = length_region WORDS 2048 w (omega arith) in
      let high = bounds.1 in
      let len = located_length x.number x.graph in
      record {
        fits = omega arith;
        few = omega (arith, graph_extent x.graph, p.small);
        low = omega (arith, p.within, nodes_room);
        head = sym (read x.at (omega arith)) ∙ parts.1;
        nodes = λ j h.
            let z : suc x.at + j ≡ x.at + 1 + j = omega arith in
            rw z (sym (read (x.at + 1 + j) (omega arith))
            ∙ stands_get t (located x.number x.graph) (x.at + 1) (x.at + extent x.graph) j parts.2 (omega arith));
      }

  -- different graphs lie aside
  pub aside : (x y : Entry) → Memᴰ x (universe d e) → Memᴰ y (universe d e) → (x.number ≡ y.number → ⊥) → Aside x y
  aside x y i j h = ⊎_elim (λ p. absurd (h (ap (λ (z : Entry). z.number) p))) (⊎_elim (before_aside x y) (after_aside x y))
      (either_way (universe d e) ordered x y i j)

  -- a graph that is not pushed may be
  pub comes : (es : List Entry) (k : ℕ) → Holds n es k w → ((o : Entry) → Memᴰ o es → Memᴰ o (universe d e)) → (x : Entry) →
      Memᴰ x (universe d e) → ((o : Entry) → Memᴰ o es → x.number ≡ o.number → ⊥) → Comes n es x w
  comes es k h all x i new =
      let beside : (o : Entry) → Memᴰ o es → Aside x o = λ o m. aside x o i (all o m) (new o m) in
      record {
        lies = lies x i;
        canonical = (good x i).0;
        fits = (good x i).1;
        inside = (placed x i).within;
        aside = beside;
        room = room_enough n es k w h x (lies x i) beside nodes_room;
      }
