-- A graph that may be pushed: what the code asks, and what its answers mean. Assumes nothing.
use mathlib.Core.Path.{◌≡◌, refl, sym, ap, ◌∙◌, subst}
use mathlib.Core.List.Memᴰ
use mathlib.Core.List.{List, [], ◌∷◌, ◌++◌, Memᴰ}
use mathlib.Core.Logic.{◌⊎◌, inl, inr, ⊎_elim}
use Prim.Native.Nat.{ℕ, suc, ◌+◌, ◌*◌, ◌≤◌, ◌<◌}
use native.Mathlib.Omega.{arith}
use lib.ListN.{length, get_or}
use Rattle.area.specs.Map.{WORDS, MARKS}
use Rattle.theory.specs.Net.{Node, atom, arcs, Graph, nodeAt, arcsOf, Clash}
use Rattle.theory.proofs.Weight.{weights_append}
use Rattle.theory.proofs.Instance.{numbered_target}
use Rattle.theory.proofs.Meaning.{canonical_some}
use Rattle.theory.specs.Weight.{weight, weights}
use Rattle.area.specs.Region.{loaded_words}
use Rattle.forest.specs.Held.{AtomCode}
use Rattle.forest.specs.State.{targets, Pile, Done, Equal, ClashIn, State, Full, withPair}
use Rattle.classes.specs.Nodes.{spans, NodesAt, Ahead, listed}
use Rattle.loading.specs.Entry.{Entry, graphs}
use Rattle.classes.specs.Entry.{Aside, Comes}
use Rattle.classes.specs.Holds.{code, ArcOf, Tied, EntriesApart, Sits, Holds}
use Rattle.area.proofs.Region.{word_at, words_same}
use Rattle.forest.proofs.Words.{target_at, targets_same}
use Rattle.classes.proofs.Added.{weight_spans, NodesLie, nodes_lie, numbers_old, numbers_new, numbers_cases, codes_new, codes_old}
use Rattle.classes.proofs.Added.{positions_old, positions_cases, positions_new, sources_old, sources_new, NewArc, added, nodes_at}
use Rattle.classes.proofs.Grown.{Extends, state_extends, listed_pairs, listed_arcs, listed_atom, listed_atoms, listed_count}
use Rattle.classes.proofs.Bridge.{spotted, clash_up}
use Rattle.classes.proofs.Laws.{sits_frame}

pub graphs_append : (a b : List Entry) → graphs (a ++ b) ≡ graphs a ++ graphs b
graphs_append [] b = refl
graphs_append (e ∷ a) b = ap (λ (l : List Graph). e.graph ∷ l) (graphs_append a b)

-- two graphs side by side, the other way round
aside_sym : (e o : Entry) → Aside e o → Aside o e
aside_sym e o a = (⊎_elim (λ x. inr x) (λ x. inl x) a.0, ⊎_elim (λ x. inr x) (λ x. inl x) a.1)

pub apart_more : (es : List Entry) (e : Entry) → EntriesApart es → ((o : Entry) → Memᴰ o es → Aside e o) → EntriesApart (es ++ e ∷ [])
apart_more [] e a f = ((λ o m. absurd (Memᴰ.not-nil m)), tt)
apart_more (o ∷ es) e a f = (
  (λ u m. ⊎_elim (λ i. a.0 u i)
      (λ i. subst (λ (z : Entry). Aside o z) (sym (Memᴰ.eq_of_singleton i)) (aside_sym e o (f o (Memᴰ.head refl))))
      (Memᴰ.append_cases es m)),
  apart_more es e a.1 (λ u m. f u (Memᴰ.tail m)),
)

-- an atom's head is large
code_large : (v : Node) → (code v ≡ 0 → ⊥) → AtomCode (code v)
code_large (atom a) n = omega arith
code_large (arcs l) n = absurd (n refl)

module _ (n : ℕ) (es : List Entry) (k : ℕ) (w : List ℕ) (e : Entry) (h : Holds n es k w) (c : Comes n es e w) where
  abbrev F : List ℕ
  F = loaded_words w

  abbrev T : List ℕ
  T = targets w

  abbrev G : Pile
  G = h.G

  abbrev x : ℕ
  x = e.number

  abbrev p : ℕ
  p = e.at + 1

  abbrev vs : Graph
  vs = e.graph

  abbrev pub pile : Pile
  pile = added G x p vs

  abbrev all : List Entry
  all = es ++ e ∷ []

  spans_is : spans vs ≡ weight vs
  spans_is = sym (weight_spans vs)

  low : p + spans vs ≤ 2048
  low = let a = c.lies.fits in let b = spans_is in omega arith

  pub lie : NodesLie F T x p vs
  lie = nodes_lie F T x follows vs p low (λ r q. let s = spans_is in let l = low in
      let o : WORDS + (p + r) ≡ WORDS + (suc e.at + r) = omega arith in
      word_at w (p + r) (omega arith) ∙ (rw o (c.lies.nodes r (omega arith))))
    where
      follows : (q : ℕ) → suc q < 2048 → get_or T q 0 ≡ get_or F (suc q) 0
      follows q l = let o : WORDS + 1 + q ≡ WORDS + suc q = omega arith in target_at w q (omega arith) ∙ (rw o (sym (word_at w (suc q) l)))

  -- what is there does not meet what comes
  node_off : (i : ℕ) → Memᴰ i G.N → (i < x) ⊎ (x + length vs ≤ i)
  node_off i m = let o = h.tied.nodes i m in let b = o.below in let d = o.is in
      ⊎_elim (λ a. inr (omega arith)) (λ a. inl (omega arith)) (c.aside o.e o.one).0

  arc_off : (q : ℕ) → Memᴰ q G.B → (q < p) ⊎ (p + spans vs ≤ q)
  arc_off q m = let o = h.tied.arcs q m in let b = o.after in let d = o.before in let s = spans_is in
      ⊎_elim (λ a. inr (omega arith)) (λ a. inl (omega arith)) (c.aside o.e o.one).1

  pub extends : Extends G pile
  extends = record {
    roots = λ i m. Memᴰ.tail m;
    nodes = λ i m. numbers_old G.N x vs i m;
    arcs = λ q m. positions_old G.B p vs q m;
    sources = λ q m. sources_old G.S x p vs q (arc_off q m);
    codes = λ i m. codes_old G.A x vs i (node_off i m);
  }

  -- an arc that comes
  inner : (q : ℕ) (r : NewArc F T G.S x x p vs q) → r.to < length vs
  inner q r = let t = numbered_target 0 1 vs c.canonical r.j (get_or F q 0) r.to r.arc in omega arith

  source : (q : ℕ) (r : NewArc F T G.S x x p vs q) → pile.S q ≡ x + r.j
  source q r = let a = r.after in sources_new G.S x p vs q (omega arith) ∙ r.is

  arc_new : (q : ℕ) → NewArc F T G.S x x p vs q → ArcOf all q (pile.S q) (get_or F q 0) (get_or T q 0)
  arc_new q r =
      let a = r.after in let b = r.before in let s = spans_is in
      record {
        e = e;
        one = Memᴰ.append_right es (Memᴰ.head refl);
        j = r.j;
        below = r.below;
        to = r.to;
        inner = inner q r;
        arc = r.arc;
        source = source q r;
        target = r.target;
        after = omega arith;
        before = omega arith;
      }

  arc_cases : (q : ℕ) → Memᴰ q pile.B → Memᴰ q G.B ⊎ NewArc F T G.S x x p vs q
  arc_cases q m = positions_cases F T G.S x G.B vs x p lie q m

  arcs' : (q : ℕ) → Memᴰ q pile.B → (q < 2047) × ((pile.S q < n) × (get_or T q 0 < n))
  arcs' q m = ⊎_elim
      (λ o. let a = h.state.arcs q o in (a.0, (rw (extends.sources q o) a.1.0, a.1.1)))
      (λ r.
      let b = r.before in let l = low in let d = c.inside in let bj = r.below in let bt = inner q r in let s = source q r in
      let t = r.target in
      (omega arith, (omega arith, omega arith)))
      (arc_cases q m)

  atoms' : (i : ℕ) → Memᴰ i pile.N → (pile.A i ≡ 0 → ⊥) → AtomCode (pile.A i)
  atoms' i m z = ⊎_elim
      (λ o. let q = extends.codes i o in rw q (h.state.atoms i o (λ y. z (q ∙ y))))
      (λ (o : (j : ℕ) × ((j < length vs) × (i ≡ x + j))). let q : pile.A i ≡ code (nodeAt vs o.0) = ap pile.A o.1.1
      ∙ codes_new G.A x vs o.0 o.1.0 in rw q (code_large (nodeAt vs o.0) (λ y. z (q ∙ y))))
      (numbers_cases G.N x vs i m)

  pub state' : State pile h.H F T n k 0 [] w
  state' = state_extends G pile F T extends h.H n k w arcs' atoms' h.state

  -- ---- the root comes first
  pub same' : Equal pile F T 0 x
  same' = Equal.root (Memᴰ.tail h.tied.anchor) (Memᴰ.head refl)

  pub some' : 0 < length vs
  some' = canonical_some vs c.canonical

  -- ---- then the nodes
  pub nodes' : NodesAt F pile n x p vs
  nodes' = nodes_at F T x n pile G.N G.B G.S G.A vs x p lie c.fits low c.inside (λ i m. m) (λ q m. m) (λ i a b. refl)
      (λ q a b. sources_new G.S x p vs q a)

  weigh : 2 * length h.H.K + length h.H.U + spans vs ≤ weights (graphs es ++ e.graph ∷ [])
  weigh = let a = weights_append (graphs es) (e.graph ∷ []) in let b = h.count in let s = spans_is in omega arith

  pub ahead' : Ahead (withPair h.H 0 x) n p (spans vs)
  ahead' = record {
    new = λ q a b m. ⊎_elim (λ z. omega arith) (λ z. omega arith) (arc_off q (h.state.known q m));
    room = let a = weigh in let b = c.room in omega arith;
  }

  -- ---- in the end
  abbrev pub done' : Done
  done' = listed (withPair h.H 0 x) x p vs

  full' : Full pile done'
  full' = record {
    arcs = λ q m. listed_arcs G.B vs (withPair h.H 0 x) x p q h.full.arcs m;
    atoms = λ i m z. ⊎_elim
        (λ o. listed_atom vs (withPair h.H 0 x) x p i (h.full.atoms i o (λ y. z (extends.codes i o ∙ y))))
        (λ (o : (j : ℕ) × ((j < length vs) × (i ≡ x + j))). let q : pile.A i ≡ code (nodeAt vs o.0) = ap pile.A o.1.1
        ∙ codes_new G.A x vs o.0 o.1.0 in
        rw o.1.1 (listed_atoms vs (withPair h.H 0 x) x p o.0 o.1.0 (λ y. z (q ∙ y))))
        (numbers_cases G.N x vs i m);
    root = 0;
    roots = λ i m. subst (λ (l : List (ℕ × ℕ)). Memᴰ (0, i) l) (sym (listed_pairs vs (withPair h.H 0 x) x p))
        (⊎_elim (λ q. Memᴰ.head (ap (λ (z : ℕ). (0, z)) q))
        (λ o. Memᴰ.tail (subst (λ (z : ℕ). Memᴰ (z, i) h.H.E) h.top (h.full.roots i o))) (Memᴰ.cases_cons m));
  }

  -- an entry of all is one of es, or the one that comes
  which : (o : Entry) → Memᴰ o all → Memᴰ o es ⊎ (o ≡ e)
  which o m = ⊎_elim (λ i. inl i) (λ i. inr (Memᴰ.eq_of_singleton i)) (Memᴰ.append_cases es m)

  old : (o : Entry) → Memᴰ o es → Memᴰ o all
  old o m = Memᴰ.append_left (e ∷ []) m

  mine : Memᴰ e all
  mine = Memᴰ.append_right es (Memᴰ.head refl)

  pub tied' : Tied F T all pile
  tied' = record {
    some = λ o m. ⊎_elim (λ i. h.tied.some o i) (λ q. subst (λ (z : Entry). 0 < length z.graph) (sym q) some') (which o m);
    anchor = Memᴰ.tail h.tied.anchor;
    root = λ o m. ⊎_elim (λ i. Memᴰ.tail (h.tied.root o i)) (λ q. Memᴰ.head (ap (λ (z : Entry). z.number) q)) (which o m);
    roots = λ i m. ⊎_elim
        (λ q. inr (e, (mine, q)))
        (λ b. ⊎_elim (λ z. inl z) (λ z. inr (z.0, (old z.0 z.1.0, z.1.1))) (h.tied.roots i b))
        (Memᴰ.cases_cons m);
    node = λ o m j l. ⊎_elim
        (λ i. let r = h.tied.node o i j l in
        (numbers_old G.N x vs (o.number + j) r.0, extends.codes (o.number + j) r.0 ∙ r.1))
        (λ q. subst (λ (z : Entry). j < length z.graph →
        Memᴰ (z.number + j) pile.N × (pile.A (z.number + j) ≡ code (nodeAt z.graph j))) (sym q)
        (λ b. (numbers_new G.N x vs j b, codes_new G.A x vs j b)) l)
        (which o m);
    nodes = λ i m. ⊎_elim
        (λ b. let o = h.tied.nodes i b in record { e = o.e; one = old o.e o.one; j = o.j; below = o.below; is = o.is })
        (λ b. record { e = e; one = mine; j = b.0; below = b.1.0; is = b.1.1 })
        (numbers_cases G.N x vs i m);
    arc = λ o m j f t l a. ⊎_elim
        (λ i. let r = h.tied.arc o i j f t l a in
        (r.0, (positions_old G.B p vs r.0 r.1.0, (extends.sources r.0 r.1.0 ∙ r.1.1.0, r.1.1.1))))
        (λ q. subst (λ (z : Entry). j < length z.graph → Memᴰ (f, t) (arcsOf (nodeAt z.graph j)) →
        (q : ℕ) × (Memᴰ q pile.B × ((pile.S q ≡ z.number + j) × ((get_or F q 0 ≡ f) × (get_or T q 0 ≡ z.number + t))))) (sym q)
        (λ b d. let r = positions_new F T G.S x G.B vs x p lie j f t b d in let g : p < r.0 = r.1.1.1.1 in
        (r.0, (r.1.0, (sources_new G.S x p vs r.0 (omega arith) ∙ r.1.1.0, r.1.1.1.0)))) l a)
        (which o m);
    arcs = λ q m. ⊎_elim
        (λ b. let o = h.tied.arcs q b in
        record {
          e = o.e;
          one = old o.e o.one;
          j = o.j;
          below = o.below;
          to = o.to;
          inner = o.inner;
          arc = o.arc;
          source =
              extends.sources q b ∙ o.source;
          target = o.target;
          after = o.after;
          before = o.before;
        })
        (λ r. arc_new q r)
        (arc_cases q m);
  }

  pub apart' : EntriesApart all
  apart' = apart_more es e h.apart c.aside

  pub graphs' : graphs all ≡ graphs es ++ e.graph ∷ []
  graphs' = graphs_append es (e ∷ [])

  -- the state at the end stands for all
  pub holds' : (k' : ℕ) (w' : List ℕ) → length w' ≡ length w → ((j : ℕ) → WORDS ≤ j → j < MARKS → get_or w' j 0 ≡ get_or w j 0) →
      State pile done' F T n k' 0 [] w' → Holds n all k' w'
  unfolding full'
  holds' k' w' len same u =
      let ew = words_same w w' h.long len same in
      let et = targets_same w w' h.long len same in
      record {
        long = let a = h.long in omega arith;
        below = h.below;
        G = pile;
        H = done';
        state = rw (ew, et) u;
        full = full';
        top = refl;
        tied = rw (ew, et) tied';
        apart = apart';
        each = λ o m. ⊎_elim (λ i. sits_frame w w' n o same (h.each o i))
            (λ q. subst (λ (z : Entry). Sits n w' z) (sym q) (sits_frame w w' n e same sits')) (which o m);
        count = rw graphs' (let a = listed_count vs (withPair h.H 0 x) x p in let b = weigh in omega arith);
      }
    where
      sits' : Sits n w e
      sits' = record { lies = c.lies; canonical = c.canonical; fits = c.fits; inside = c.inside }

  -- a clash by numbers is one of the graphs
  pub clash' : ClashIn pile F T → Clash (graphs es ++ e.graph ∷ [])
  clash' z =
      let r = spotted all e 0 mine some' in
      subst Clash graphs' (clash_up F T all pile tied' apart' r.spot (r.root_is refl) z)
