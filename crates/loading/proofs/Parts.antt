-- What each function that loads asks of its callees, and what follows from what they promise.
-- Assumes nothing.
use Prim.Native.Nat.{ℕ, ◌+◌, ◌-◌, ◌≤◌, ◌<◌}
use native.Mathlib.Omega.{arith}
use native.Mathlib.Nat.{add-zero, add_assoc}
use mathlib.Core.Path.{◌≡◌, refl, sym, subst, ap, ap₂, ◌∙◌}
use mathlib.Core.List.{List, [], ◌∷◌, ◌++◌}
use lib.ListN.{length, get_or, set, length-set}
use Rattle.theory.specs.Limits.{code_limit, input_limit, depth_limit}
use Rattle.theory.specs.Net.{atom, arcs, Graph, Canonical}
use Rattle.theory.specs.Descr.{desc, disjs, alts}
use Rattle.theory.specs.Layout.{arc_words, nodes_words, words, disjs_words}
use Rattle.theory.proofs.Reading.{well_can}
use Rattle.layout.specs.Standing.{Stands, graph_words}
use Rattle.layout.proofs.Standing.{stands_nil, stands_length, stands_order, stands_within, stands_whole, stands_atom, stands_node}
use Rattle.layout.proofs.Standing.{stands_arc, stands_graph, stands_disjunction, stands_description}
use Rattle.packing.specs.Packed.{graph_word, tail_word}
use Rattle.loading.specs.Loaded.{extent, header, moved_arcs, located, nodes_in, loaded_all, loaded_any, input_loaded}
use Rattle.loading.specs.Loading.{Put, Kind, AllLow, its_arcs, a_node, its_nodes, a_graph, a_disjunction, a_description, Room, Asked}
use Rattle.loading.specs.Loading.{Stock, stock, node_stock, Loads, Loadable, LoadedAt}
use Rattle.loading.proofs.Sequels.{coming_same, an_arc, its_disjunctions, its_alternatives}
use Rattle.loading.proofs.Sizes.{moved_length, graph_extent, numbered_low, nodes_few, weights_fit_all}
use Rattle.loading.proofs.Names.{alts_few}
use Rattle.loading.proofs.Putting.{put_append, put_one, put_before, put_then}

-- a position after another, moved by a shift
shifted : (shift p : ℕ) → shift + (p + 1) ≡ shift + p + 1
shifted shift p = sym (add_assoc shift p 1)

pub room_keeps : (t u ws : List ℕ) (shift : ℕ) → length u ≡ length t → Room t ws shift → Room u ws shift
room_keeps t u ws shift e r = record { few = r.few; near = r.near; room = (let h = r.room in omega arith) }

pub loads_keeps : (K : Kind) (t u ws : List ℕ) (shift p : ℕ) (n : Stock) (r : ℕ) (m : Stock) →
    Asked K ws p n → Loads K ws p shift n t u r m → length u ≡ length t
loads_keeps K t u ws shift p n r m a loads = (loads a.0 a.1 a.2 a.3).2.same

pub loads_reach : (K : Kind) (t u ws : List ℕ) (shift p : ℕ) (n : Stock) (r : ℕ) (m : Stock) →
    p ≤ length ws → Asked K ws p n → Loads K ws p shift n t u r m →
    (p ≤ r) × (r ≤ length ws)
loads_reach K t u ws shift p n r m h a loads =
    let e = (loads a.0 a.1 a.2 a.3).0 in
    let near = stands_order ws (K.text a.0) p a.1 a.3 in
    let far = stands_within ws (K.text a.0) p a.1 h a.3 in
    (omega arith, omega arith)

module _ (ws : List ℕ) (p n : ℕ) where
  pub arc_there : Asked an_arc ws p (node_stock n) → (p + 1 < length ws) × (get_or ws (p + 1) 0 < input_limit) × (n ≤ input_limit)
  arc_there a = let s = (stands_arc ws a.0 [] p a.1).0 a.3 in let low = a.2 in let e = s.3 in let room = a.4.0 in
      (s.2, omega arith, omega arith)

  pub node_there : Asked a_node ws p (node_stock n) → p < length ws
  node_there (atom a, q, f, s, h) = ((stands_atom ws a p q).0 s).0
  node_there (arcs l, q, f, s, h) = ((stands_node ws l p q).0 s).0

  pub node_asks : Asked a_node ws p (node_stock n) → get_or ws p 0 < code_limit → Asked (its_arcs (get_or ws p 0)) ws (p + 1) (node_stock n)
  node_asks (atom a, q, f, s, h) k = let e = ((stands_atom ws a p q).0 s).1 in absurd (omega arith)
  node_asks (arcs l, q, f, s, h) k = let parts = (stands_node ws l p q).0 s in (l, q, (sym parts.1, f.1), parts.2, h)

  pub graph_there : Asked a_graph ws p (node_stock n) → (p < length ws) × (n + get_or ws p 0 ≤ input_limit)
  graph_there a = let parts = (stands_graph ws a.0 p a.1).0 a.3 in let e = parts.1 in let room = a.4.0 in (parts.0, omega arith)

  pub graph_asks : Asked a_graph ws p (node_stock n) → Asked (its_nodes (get_or ws p 0)) ws (p + 1) (node_stock n)
  graph_asks a =
      let parts = (stands_graph ws a.0 p a.1).0 a.3 in
      let room = a.4.0 in
      (a.0, a.1, (sym parts.1, a.2.0, a.2.1), parts.2, (omega arith, omega arith, omega arith))

  pub disjunction_there : (y left : ℕ) → Asked (a_disjunction left) ws p (stock n 0 y) →
      (p < length ws) × (0 < left) × (y + get_or ws p 0 ≤ input_limit)
  disjunction_there y left a =
      let parts = (stands_disjunction ws a.0 p a.1).0 a.3 in
      let e = parts.1 in
      let free = a.4.2 in
      (parts.0, a.2.0, omega arith)

  pub disjunction_asks : (y left : ℕ) → Asked (a_disjunction left) ws p (stock n 0 y) →
      Asked (its_alternatives (left - 1) (get_or ws p 0)) ws (p + 1) (stock n y (y + get_or ws p 0))
  disjunction_asks y left a =
      let parts = (stands_disjunction ws a.0 p a.1).0 a.3 in
      let e = parts.1 in
      let free = a.4.2 in
      (a.0, a.1, (sym parts.1, a.2.1), parts.2, (a.4.0, omega arith, omega arith))

module _ (t ws : List ℕ) (shift p n : ℕ) (room : shift + length ws ≤ length t) where
  pub arc_loads : Loads an_arc ws p shift (node_stock n) t
      (set (set t (shift + p) (get_or ws p 0)) (shift + p + 1) (get_or ws (p + 1) 0 + n)) (p + 2) (node_stock n)
  arc_loads e q f s =
      let parts = (stands_arc ws e [] p q).0 s in
      let here = parts.0 in
      let next = parts.2 in
      let target = parts.3 in
      let last = (stands_nil ws (p + 2) q).0 parts.4 in
      let x = get_or ws p 0 in
      let y = get_or ws (p + 1) 0 + n in
      let u = set t (shift + p) x in
      let same = length-set t (shift + p) x in
      let far : shift + p + 1 + 1 ≡ shift + q = omega arith in
      let value : y ≡ n + e.1 = omega arith in
      let two : Put t (set u (shift + p + 1) y) (shift + p) (x ∷ y ∷ []) (shift + p + 1 + 1) =
      put_then t (set u (shift + p + 1) y) x (y ∷ []) (shift + p) (shift + p + 1 + 1) (omega arith)
      (put_one u y (shift + p + 1) (omega arith)) in (
        last,
        refl,
        subst (λ (xs : List ℕ). Put t (set u (shift + p + 1) y) (shift + p) xs (shift + q))
            (ap₂ (λ (a b : ℕ). a ∷ b ∷ []) parts.1 value)
            (subst (λ (k : ℕ). Put t (set u (shift + p + 1) y) (shift + p) (x ∷ y ∷ []) k) far two),
      )

  -- a word as it is, and what comes after it
  word_then : (u : List ℕ) (x : ℕ) (xs : List ℕ) (q : ℕ) → p < length ws → get_or ws p 0 ≡ x →
      Put (set t (shift + p) (get_or ws p 0)) u (shift + (p + 1)) xs q → Put t u (shift + p) (x ∷ xs) q
  word_then u x xs q h e a =
      subst (λ (y : ℕ). Put t u (shift + p) (y ∷ xs) q) e
      (put_then t u (get_or ws p 0) xs (shift + p) q (omega arith)
      (subst (λ (k : ℕ). Put (set t (shift + p) (get_or ws p 0)) u k xs q) (shifted shift p) a))

  pub atom_loads : code_limit ≤ get_or ws p 0 →
      Loads a_node ws p shift (node_stock n) t (set t (shift + p) (get_or ws p 0)) (p + 1) (node_stock n)
  atom_loads k (atom a) q f s =
      let parts = (stands_atom ws a p q).0 s in
      let there = parts.0 in
      let far : shift + p + 1 ≡ shift + q = sym (shifted shift p) ∙ ap (λ (j : ℕ). shift + j) parts.2 in
      let x = get_or ws p 0 in
      let one = put_one t x (shift + p) (omega arith) in (
        parts.2,
        refl,
        subst (λ (y : ℕ). Put t (set t (shift + p) x) (shift + p) (y ∷ []) (shift + q)) parts.1
            (subst (λ (j : ℕ). Put t (set t (shift + p) x) (shift + p) (x ∷ []) j) far one),
      )
  atom_loads k (arcs l) q f s = let e = ((stands_node ws l p q).0 s).1 in let few = f.0.0 in absurd (omega arith)

  pub node_loads : (u : List ℕ) (r : ℕ) → get_or ws p 0 < code_limit →
      Loads (its_arcs (get_or ws p 0)) ws (p + 1) shift (node_stock n) (set t (shift + p) (get_or ws p 0)) u r (node_stock n) →
      Loads a_node ws p shift (node_stock n) t u r (node_stock n)
  node_loads u r k loads (atom a) q f s = let e = ((stands_atom ws a p q).0 s).1 in absurd (omega arith)
  node_loads u r k loads (arcs l) q f s =
      let parts = (stands_node ws l p q).0 s in
      let done = loads l q (sym parts.1, f.1) parts.2 in (
        done.0,
        done.1,
        word_then u (length (moved_arcs n l)) (arc_words (moved_arcs n l)) (shift + q) parts.0 (parts.1
            ∙ sym (moved_length n l)) done.2,
      )

  pub graph_loads : (u : List ℕ) (r w : ℕ) → Loads (its_nodes (get_or ws p 0)) ws (p + 1) shift (node_stock n) t u r (node_stock n) →
      w ≡ graph_word (get_or ws p 0) n (r - p) →
      Loads a_graph ws p shift (node_stock n) t (set u (shift + p) w) r (node_stock (n + get_or ws p 0))
  graph_loads u r w loads e g q f s =
      let parts = (stands_graph ws g p q).0 s in
      let there = parts.0 in
      let count = parts.1 in
      let done = loads g q (sym count, f.0, f.1) parts.2 in
      let here = done.0 in
      let far = stands_length ws (nodes_words g) (p + 1) q parts.2 in
      let size : r - p ≡ extent g = omega arith in
      let value : w ≡ header n g = e ∙ ap₂ (λ (c x : ℕ). graph_word c n x) count size in (
        here,
        ap (λ (k : ℕ). node_stock (n + k)) count,
        subst (λ (y : ℕ). Put t (set u (shift + p) w) (shift + p) (y ∷ located n g) (shift + q)) value
            (put_before t u w (located n g) (shift + p) (shift + q) (omega arith)
            (subst (λ (k : ℕ). Put t u k (located n g) (shift + q)) (shifted shift p) done.2)),
      )

  pub disjunction_loads : (y left : ℕ) (u : List ℕ) (r k m o : ℕ) →
      Loads (its_alternatives (left - 1) (get_or ws p 0)) ws (p + 1) shift (stock n y (y + get_or ws p 0))
      (set t (shift + p) (get_or ws p 0)) u r (stock k o m) → Loads (a_disjunction left) ws p shift (stock n 0 y) t u r (stock k 0 m)
  disjunction_loads y left u r k m o loads a q f s =
      let parts = (stands_disjunction ws a p q).0 s in
      let done = loads a q (sym parts.1, f.1) parts.2 in
      let number = ap (λ (c : Stock). c.number) done.1 in
      let free = ap (λ (c : Stock). c.free) done.1 in
      let some = parts.1 in (
        done.0,
        coming_same (omega arith) refl (omega arith),
        subst (λ (k : ℕ). Put t u (shift + p) (alts a ∷ loaded_any k n y (y + alts a) a) (shift + q)) (shifted shift p)
            (word_then u (alts a) (loaded_any (shift + (p + 1)) n y (y + alts a) a) (shift + q) parts.0 parts.1
            (subst (λ (k : ℕ). Put (set t (shift + p) (get_or ws p 0)) u (shift + (p + 1)) (loaded_any (shift + (p + 1)) n y (y + k) a)
            (shift + q)) parts.1 done.2)),
      )

module _ (ws : List ℕ) (few : length ws ≤ input_limit) where
  -- the targets of a graph that stands in an input
  low : (g : Graph) (p q : ℕ) → Canonical g → p < length ws → Stands ws p (graph_words g) q → AllLow g
  low g p q c h s = numbered_low 0 1 g c
      (omega (arith, graph_extent g, stands_length ws (graph_words g) p q s, stands_within ws (graph_words g) p q (omega arith) s))

  pub description_asks : (left p n x y : ℕ) → Asked (a_description left) ws p (stock n x y) → Asked a_graph ws p (node_stock n)
  description_asks left p n x y (desc g ds, q, f, s, h) =
      let parts = (stands_description ws g ds p q).0 s in
      let there = ((stands_graph ws g p parts.0).0 parts.1).0 in
      let numbers = h.0 in
      (g, parts.0, (f.1, low g p parts.0 f.0 there parts.1), parts.1, (omega arith, omega arith, omega arith))

  module _ (t u : List ℕ) (shift left p n x y r k : ℕ) (graph : Loads a_graph ws p shift (node_stock n) t u r (node_stock k)) where
    pub description_goes : Asked (a_description left) ws p (stock n x y) →
        (r < length ws) × (x < input_limit) × Asked (its_disjunctions left (get_or ws r 0)) ws (r + 1) (stock k 0 y)
    description_goes (desc g ds, q, f, s, h) =
        let parts = (stands_description ws g ds p q).0 s in
        let there = ((stands_graph ws g p parts.0).0 parts.1).0 in
        let done = graph g parts.0 (f.1, low g p parts.0 f.0 there parts.1) parts.1 in
        let here = done.0 in
        let next = ap (λ (c : Stock). c.number) done.1 in
        let numbers = h.0 in
        let own = h.1 in
        let far = parts.2 in (
          omega arith,
          omega arith,
          (
            ds,
            q,
            (rw here (sym parts.3), f.2),
            subst (λ (j : ℕ). Stands ws (j + 1) (disjs_words ds) q) (sym here) parts.4,
            (omega arith, omega arith, h.2),
          ),
        )

    -- the disjunctions end within the words, and are fewer than these
    pub description_ends : (v : List ℕ) (e : ℕ) (m : Stock) → Asked (a_description left) ws p (stock n x y) →
        Loads (its_disjunctions left (get_or ws r 0)) ws (r + 1) shift (stock k 0 y) u v e m →
        (e ≤ length ws) × (get_or ws r 0 < length ws) × (r < length ws) × (x < input_limit)
    description_ends v e m a loads =
        let goes = description_goes a in
        let there = goes.0 in
        let ask = goes.2 in
        let ds = ask.0 in
        let count = ask.2.0 in
        let reach = loads_reach (its_disjunctions left (get_or ws r 0)) u v ws shift (r + 1) _ e m (omega arith) ask loads in
        let same = (loads ds ask.1 ask.2 ask.3).0 in
        let far = reach.1 in
        (far, omega (arith, weights_fit_all ds, stands_length ws (disjs_words ds) (r + 1) ask.1 ask.3), there, goes.1)

    pub description_loads : (v : List ℕ) (e m o w : ℕ) → shift + length ws ≤ length t →
        Loads (its_disjunctions left (get_or ws r 0)) ws (r + 1) shift (stock k 0 y) u v e (stock m 0 o) →
        w ≡ tail_word (get_or ws r 0) x (shift + e) →
        Loads (a_description left) ws p shift (stock n x y) t (set v (shift + r) w) e (stock m (x + 1) o)
    description_loads v e m o w room others value (desc g ds) q f s =
        let parts = (stands_description ws g ds p q).0 s in
        let there = ((stands_graph ws g p parts.0).0 parts.1).0 in
        let done = graph g parts.0 (f.1, low g p parts.0 f.0 there parts.1) parts.1 in
        let here = done.0 in
        let next = ap (λ (c : Stock). c.number) done.1 in
        let inside = parts.2 in
        let count : get_or ws r 0 ≡ disjs ds = rw here parts.3 in
        let rest = others ds q (sym count, f.2) (subst (λ (j : ℕ). Stands ws (j + 1) (disjs_words ds) q) (sym here) parts.4) in
        let end = rest.0 in
        let last = ap (λ (c : Stock). c.number) rest.1 in
        let free = ap (λ (c : Stock). c.free) rest.1 in
        let same = done.2.same in
        let far = stands_length ws (graph_words g) p parts.0 parts.1 in
        let whole = stands_length ws (words (desc g ds)) p q s in
        let place : shift + (r + 1) ≡ shift + p + extent g + 1 = omega arith in
        let inner = loaded_all (shift + p + extent g + 1) (n + length g) y ds in
        let ends : shift + e ≡ shift + p + length (words (desc g ds)) = omega arith in
        let word : w ≡ tail_word (disjs ds) x (shift + p + length (words (desc g ds))) =
        value ∙ ap₂ (λ (c e : ℕ). tail_word c x e) count ends in
        let z = set v (shift + r) w in
        let others' : Put u v (shift + r + 1) inner (shift + q) =
        subst (λ (j : ℕ). Put u v j inner (shift + q)) (shifted shift r)
        (subst (λ (xs : List ℕ). Put u v (shift + (r + 1)) xs (shift + q)) (ap₂ (λ (a b : ℕ). loaded_all a b y ds) place next) rest.2)
        in
        let closed : Put u z (shift + parts.0) (w ∷ inner) (shift + q) =
        subst (λ (j : ℕ). Put u z (shift + j) (w ∷ inner) (shift + q)) here
        (put_before u v w inner (shift + r) (shift + q) (omega arith) others') in (
          end,
          coming_same (omega arith) refl (omega arith),
          subst (λ (y : ℕ). Put t z (shift + p) ((header n g ∷ located n g) ++ y ∷ inner) (shift + q)) word
              (put_append t u z (header n g ∷ located n g) (w ∷ inner) (shift + p) (shift + parts.0) (shift + q) done.2 closed),
        )

module _ (t ws : List ℕ) (shift n : ℕ) where
  pub load_room : Loadable t ws shift n → Room t ws shift
  load_room l = record { few = l.few; near = l.near; room = (let a = l.few in let b = l.near in let c = l.room in omega arith) }

  pub load_asks : Loadable t ws shift n → Asked (a_description depth_limit) ws 0 (stock n n (n + 1))
  load_asks l =
      let image = l.image in
      let d = image.0 in
      let few = l.few in
      let numbers = l.numbers in
      let size = ap length image.2 in
      let can = well_can d image.1 in
      let fits : n + nodes_in d ≤ input_limit = omega (arith, nodes_few d can) in
      let marks = alts_few d can in
      (d, length ws, image.1, (stands_whole ws (words d)).0 image.2, (fits, omega arith, omega arith))

  pub load_loads : (u : List ℕ) (r m x y : ℕ) → Loads (a_description depth_limit) ws 0 shift (stock n n (n + 1)) t u r (stock m x y) →
      LoadedAt ws shift n t u m
  load_loads u r m x y loads d f e =
      let done = loads d (length ws) f ((stands_whole ws (words d)).0 e) in (
        ap (λ (c : Stock). c.number) done.1,
        subst (λ (j : ℕ). Put t u j (input_loaded j n d) (shift + length ws)) (add-zero shift) done.2,
      )
