-- A graph is added to what is pushed. Assumes nothing.
use mathlib.Core.Path.{◌≡◌, refl, sym, ap, ◌∙◌}
use mathlib.Core.List.Memᴰ
use mathlib.Core.List.{List, [], ◌∷◌, Memᴰ}
use mathlib.Core.Logic.{◌⊎◌, inl, inr, ⊎_elim}
use Prim.Native.Nat.{ℕ, zero, suc, ◌+◌, ◌*◌, ◌≤◌, ◌<◌}
use native.Mathlib.Omega.{arith}
use lib.ListN.{length, length-append, get_or, get_or-append}
use lib.Seq.{get_or-append-add}
use lib.Dec.{eqb, ltb}
use borrow.Author.Tests.{eq-eqb, ne_eqb, lt-ltb, le-ltb}
use Rattle.theory.specs.Limits.{code_limit}
use Rattle.theory.specs.Net.{Node, atom, arcs, Graph, nodeAt, arcsOf}
use Rattle.theory.specs.Layout.{arc_words, node_words, nodes_words, GraphFits}
use Rattle.theory.proofs.Weight.{arc_length}
use Rattle.theory.specs.Weight.{weight}
use Rattle.forest.specs.Labels.{by_test}
use Rattle.forest.specs.State.{Pile}
use Rattle.classes.specs.Nodes.{strung, span, spans, NodeAt, NodesAt}
use Rattle.loading.specs.Loaded.{moved_arcs, located}
use Rattle.loading.proofs.Sizes.{moved_length}
use Rattle.classes.specs.Holds.{code}
use Rattle.classes.proofs.Runs.{strung_cases, strung_old, strung_new}

-- the words of a graph, by its nodes
pub weight_spans : (vs : Graph) → weight vs ≡ spans vs
unfolding weight
weight_spans [] = refl
weight_spans (atom a ∷ vs) = let r : length (nodes_words vs) ≡ spans vs = weight_spans vs in omega arith
weight_spans (arcs l ∷ vs) =
    let r : length (nodes_words vs) ≡ spans vs = weight_spans vs in
    let e = length-append (node_words (arcs l)) (nodes_words vs) in
    let f = arc_length l in
    omega arith

-- ---- how a graph lies in the words F, where T has what follows each
abbrev pub ArcsLie : List ℕ → List ℕ → ℕ → ℕ → List (ℕ × ℕ) → Type 0
ArcsLie F T b p [] = Unit {0}
ArcsLie F T b p (a ∷ l) = ((get_or F p 0 ≡ a.0) × (get_or T p 0 ≡ b + a.1)) × ArcsLie F T b (p + 2) l

abbrev pub NodesLie : List ℕ → List ℕ → ℕ → ℕ → Graph → Type 0
NodesLie F T b p [] = Unit {0}
NodesLie F T b p (atom a ∷ vs) = (get_or F p 0 ≡ code_limit + a) × NodesLie F T b (p + 1) vs
NodesLie F T b p (arcs l ∷ vs) = ((get_or F p 0 ≡ length l) × ArcsLie F T b (p + 1) l) × NodesLie F T b (p + (1 + 2 * length l)) vs

module _ (F T : List ℕ) (b : ℕ) (follows : (q : ℕ) → suc q < 2048 → get_or T q 0 ≡ get_or F (suc q) 0) where
  arcs_length : (l : List (ℕ × ℕ)) → length (arc_words (moved_arcs b l)) ≡ 2 * length l
  arcs_length [] = refl
  arcs_length (a ∷ l) = let r = arcs_length l in omega arith

  arcs_lie : (l : List (ℕ × ℕ)) (p : ℕ) → p + 2 * length l ≤ 2048 →
      ((r : ℕ) → r < 2 * length l → get_or F (p + r) 0 ≡ get_or (arc_words (moved_arcs b l)) r 0) → ArcsLie F T b p l
  arcs_lie [] p h f = tt
  arcs_lie (a ∷ l) p h f =
      let z : p + 0 ≡ p = omega arith in
      let o : p + 1 ≡ suc p = omega arith in (
        (rw z at (f 0 (omega arith)), follows p (omega arith) ∙ (rw o at (f 1 (omega arith)))),
        arcs_lie l (p + 2) (omega arith) (λ r q. let e : p + suc (suc r) ≡ p + 2 + r = omega arith in
            rw e at (f (suc (suc r)) (omega arith))),
      )

  pub nodes_lie : (vs : Graph) (p : ℕ) → p + spans vs ≤ 2048 → ((r : ℕ) → r < spans vs → get_or F (p + r) 0 ≡ get_or (located b vs) r 0) →
      NodesLie F T b p vs
  nodes_lie [] p h f = tt
  nodes_lie (atom a ∷ vs) p h f =
      let z : p + 0 ≡ p = omega arith in (
        rw z at (f 0 (omega arith)),
        nodes_lie vs (p + 1) (omega arith) (λ r q. let e : p + suc r ≡ p + 1 + r = omega arith in
            rw e at (f (suc r) (omega arith))),
      )
  nodes_lie (arcs l ∷ vs) p h f =
      let z : p + 0 ≡ p = omega arith in
      let len = arcs_length l in (
        (
          (rw z at (f 0 (omega arith))) ∙ moved_length b l,
          arcs_lie l (p + 1) (omega arith) (λ r q.
              let e : p + suc r ≡ p + 1 + r = omega arith in
              (rw e at (f (suc r) (omega arith))) ∙ get_or-append (arc_words (moved_arcs b l)) (located b vs) 0 r (omega arith)),
        ),
        nodes_lie vs (p + (1 + 2 * length l)) (omega arith) (λ r q.
            let e : p + suc (2 * length l + r) ≡ p + (1 + 2 * length l) + r = omega arith in
            let g : length (arc_words (moved_arcs b l)) + r ≡ 2 * length l + r = omega arith in
            (rw e at (f (suc (2 * length l + r)) (omega arith)))
            ∙ (rw g at (get_or-append-add (arc_words (moved_arcs b l)) (located b vs) r 0))),
      )

-- ---- what is pushed with the graph vs: its nodes have the numbers from x on, and its words stand from p on
abbrev pub numbers : List ℕ → ℕ → Graph → List ℕ
numbers N x [] = N
numbers N x (v ∷ vs) = x ∷ numbers N (suc x) vs

abbrev pub positions : List ℕ → ℕ → Graph → List ℕ
positions B p [] = B
positions B p (v ∷ vs) = strung (positions B (p + span v) vs) (p + 1) (length (arcsOf v))

unfoldable pub source : (ℕ → ℕ) → ℕ → ℕ → Graph → ℕ → ℕ
source S x p [] q = S q
source S x p (v ∷ vs) q = by_test (ltb q (p + span v)) x (source S (suc x) (p + span v) vs q)

unfoldable pub codes : (ℕ → ℕ) → ℕ → Graph → ℕ → ℕ
codes A x [] i = A i
codes A x (v ∷ vs) i = by_test (eqb i x) (code v) (codes A (suc x) vs i)

unfoldable pub sources : (ℕ → ℕ) → ℕ → ℕ → Graph → ℕ → ℕ
sources S x p vs q = by_test (ltb q p) (S q) (source S x p vs q)

abbrev pub added : Pile → ℕ → ℕ → Graph → Pile
added G x p vs = record {
  S = sources G.S x p vs;
  B = positions G.B p vs;
  R = x ∷ G.R;
  N = numbers G.N x vs;
  A =
      codes G.A x vs;
}

-- ---- numbers and codes
pub numbers_old : (N : List ℕ) (x : ℕ) (vs : Graph) (i : ℕ) → Memᴰ i N → Memᴰ i (numbers N x vs)
numbers_old N x [] i m = m
numbers_old N x (v ∷ vs) i m = Memᴰ.tail (numbers_old N (suc x) vs i m)

pub numbers_new : (N : List ℕ) (x : ℕ) (vs : Graph) (j : ℕ) → j < length vs → Memᴰ (x + j) (numbers N x vs)
numbers_new N x [] j h = absurd (omega arith)
numbers_new N x (v ∷ vs) zero h = let e : x + 0 ≡ x = omega arith in Memᴰ.head e
numbers_new N x (v ∷ vs) (suc j) h = let e : x + suc j ≡ suc x + j = omega arith in
    rw e (Memᴰ.tail (numbers_new N (suc x) vs j (omega arith)))

pub numbers_cases : (N : List ℕ) (x : ℕ) (vs : Graph) (i : ℕ) → Memᴰ i (numbers N x vs) →
    Memᴰ i N ⊎ ((j : ℕ) × ((j < length vs) × (i ≡ x + j)))
numbers_cases N x [] i m = inl m
numbers_cases N x (v ∷ vs) i m = ⊎_elim
    (λ e. inr (0, (omega arith, omega arith)))
    (λ z. ⊎_elim (λ a. inl a) (λ a. let j = a.0 in let h : j < length vs = a.1.0 in let e : i ≡ suc x + j = a.1.1 in
    inr (suc j, (omega arith, omega arith))) (numbers_cases N (suc x) vs i z))
    (Memᴰ.cases_cons m)

pub codes_new : (A : ℕ → ℕ) (x : ℕ) (vs : Graph) (j : ℕ) → j < length vs → codes A x vs (x + j) ≡ code (nodeAt vs j)
unfolding codes
codes_new A x [] j h = absurd (omega arith)
codes_new A x (v ∷ vs) zero h = rw (eq-eqb (x + 0) x (omega arith)) refl
codes_new A x (v ∷ vs) (suc j) h =
    let e : x + suc j ≡ suc x + j = omega arith in
    rw (ne_eqb (x + suc j) x (λ z. omega arith), e) (codes_new A (suc x) vs j (omega arith))

pub codes_old : (A : ℕ → ℕ) (x : ℕ) (vs : Graph) (i : ℕ) → (i < x) ⊎ (x + length vs ≤ i) → codes A x vs i ≡ A i
unfolding codes
codes_old A x [] i h = refl
codes_old A x (v ∷ vs) i h = rw (ne_eqb i x (λ z. ⊎_elim (λ a. omega arith) (λ a. omega arith) h))
    (codes_old A (suc x) vs i (⊎_elim (λ a. inl (omega arith)) (λ a. inr (omega arith)) h))

codes_first : (A : ℕ → ℕ) (x : ℕ) (v : Node) (vs : Graph) → codes A x (v ∷ vs) x ≡ code v
unfolding codes
codes_first A x v vs = rw (eq-eqb x x refl) refl

codes_skip : (A : ℕ → ℕ) (x : ℕ) (v : Node) (vs : Graph) (i : ℕ) → (i ≡ x → ⊥) → codes A x (v ∷ vs) i ≡ codes A (suc x) vs i
unfolding codes
codes_skip A x v vs i n = rw (ne_eqb i x n) refl

-- ---- positions and sources
pub positions_old : (B : List ℕ) (p : ℕ) (vs : Graph) (q : ℕ) → Memᴰ q B → Memᴰ q (positions B p vs)
positions_old B p [] q m = m
positions_old B p (v ∷ vs) q m =
    strung_old (positions B (p + span v) vs) (p + 1) (length (arcsOf v)) q (positions_old B (p + span v) vs q m)

source_past : (S : ℕ → ℕ) (x p : ℕ) (vs : Graph) (q : ℕ) → p + spans vs ≤ q → source S x p vs q ≡ S q
unfolding source
source_past S x p [] q h = refl
source_past S x p (v ∷ vs) q h = rw (le-ltb q (p + span v) (omega arith)) (source_past S (suc x) (p + span v) vs q (omega arith))

pub sources_old : (S : ℕ → ℕ) (x p : ℕ) (vs : Graph) (q : ℕ) → (q < p) ⊎ (p + spans vs ≤ q) → sources S x p vs q ≡ S q
unfolding sources
sources_old S x p vs q (inl h) = rw (lt-ltb q p h) refl
sources_old S x p vs q (inr h) = rw (le-ltb q p (omega arith)) (source_past S x p vs q h)

pub sources_new : (S : ℕ → ℕ) (x p : ℕ) (vs : Graph) (q : ℕ) → p ≤ q → sources S x p vs q ≡ source S x p vs q
unfolding sources
sources_new S x p vs q h = rw (le-ltb q p h) refl

-- the first node's words, and those after them
source_here : (S : ℕ → ℕ) (x p : ℕ) (v : Node) (vs : Graph) (q : ℕ) → q < p + span v → source S x p (v ∷ vs) q ≡ x
unfolding source
source_here S x p v vs q h = rw (lt-ltb q (p + span v) h) refl

source_next : (S : ℕ → ℕ) (x p : ℕ) (v : Node) (vs : Graph) (q : ℕ) → p + span v ≤ q →
    source S x p (v ∷ vs) q ≡ source S (suc x) (p + span v) vs q
unfolding source
source_next S x p v vs q h = rw (le-ltb q (p + span v) h) refl

-- ---- the arcs that come
pub record NewArc (F T : List ℕ) (S : ℕ → ℕ) (b x p : ℕ) (vs : Graph) (q : ℕ) : Type 0 where
  pub j : ℕ
  pub below : j < length vs
  pub to : ℕ
  pub arc : Memᴰ (get_or F q 0, to) (arcsOf (nodeAt vs j))
  pub is : source S x p vs q ≡ x + j
  pub target : get_or T q 0 ≡ b + to
  pub after : p < q
  pub before : suc q < p + spans vs

module _ (F T : List ℕ) (S : ℕ → ℕ) (b : ℕ) where
  pub arcs_at : (l : List (ℕ × ℕ)) (p : ℕ) → ArcsLie F T b p l → (i : ℕ) → i < length l →
      (to : ℕ) × (Memᴰ (get_or F (p + 2 * i) 0, to) l × (get_or T (p + 2 * i) 0 ≡ b + to))
  arcs_at [] p s i h = absurd (omega arith)
  arcs_at (a ∷ l) p s zero h =
      let e : p + 2 * 0 ≡ p = omega arith in
      (a.1, (rw e (Memᴰ.head (ap (λ (z : ℕ). (z, a.1)) s.0.0)), rw e s.0.1))
  arcs_at (a ∷ l) p s (suc i) h =
      let e : p + 2 * suc i ≡ p + 2 + 2 * i = omega arith in
      let r = arcs_at l (p + 2) s.1 i (omega arith) in
      (r.0, (rw e (Memᴰ.tail r.1.0), rw e r.1.1))

  pub arcs_find : (l : List (ℕ × ℕ)) (p : ℕ) → ArcsLie F T b p l → (f t : ℕ) → Memᴰ (f, t) l →
      (i : ℕ) × ((i < length l) × ((get_or F (p + 2 * i) 0 ≡ f) × (get_or T (p + 2 * i) 0 ≡ b + t)))
  arcs_find [] p s f t m = absurd (Memᴰ.not-nil m)
  arcs_find (a ∷ l) p s f t m = ⊎_elim
      (λ q.
      let e : p + 2 * 0 ≡ p = omega arith in
      (0, (omega arith, (rw e (s.0.0 ∙ ap (λ (z : ℕ × ℕ). z.0) (sym q)), rw e (s.0.1 ∙ ap (λ (z : ℕ × ℕ). b + z.1) (sym q))))))
      (λ d.
      let r = arcs_find l (p + 2) s.1 f t d in
      let i = r.0 in
      let h : i < length l = r.1.0 in
      let e : p + 2 * suc i ≡ p + 2 + 2 * i = omega arith in
      (suc i, (omega arith, (rw e r.1.1.0, rw e r.1.1.1))))
      (Memᴰ.cases_cons m)

  later_arc : (x p : ℕ) (v : Node) (vs : Graph) (q : ℕ) → NewArc F T S b (suc x) (p + span v) vs q → NewArc F T S b x p (v ∷ vs) q
  later_arc x p v vs q r =
      let a = r.after in let c = r.before in let d = r.below in let i = r.is in
      record {
        j = suc r.j;
        below = omega arith;
        to = r.to;
        arc = r.arc;
        is = source_next S x p v vs q (omega arith)
            ∙ omega arith;
        target = r.target;
        after = omega arith;
        before = omega arith;
      }

  pub positions_cases : (B : List ℕ) (vs : Graph) (x p : ℕ) → NodesLie F T b p vs → (q : ℕ) → Memᴰ q (positions B p vs) →
      Memᴰ q B ⊎ NewArc F T S b x p vs q
  positions_cases B [] x p s q m = inl m
  positions_cases B (atom a ∷ vs) x p s q m =
      ⊎_elim (λ o. inl o) (λ o. inr (later_arc x p (atom a) vs q o)) (positions_cases B vs (suc x) (p + 1) s.1 q m)
  positions_cases B (arcs l ∷ vs) x p s q m = ⊎_elim
      (λ z. ⊎_elim (λ o. inl o) (λ o. inr (later_arc x p (arcs l) vs q o))
      (positions_cases B vs (suc x) (p + (1 + 2 * length l)) s.1 q z))
      (λ z.
      let i = z.0 in
      let h : i < length l = z.1.0 in
      let e : q ≡ p + 1 + 2 * i = z.1.1 in
      let r = arcs_at l (p + 1) s.0.1 i h in
      inr (record {
        j = 0;
        below = omega arith;
        to = r.0;
        arc = rw e r.1.0;
        is = source_here S x p (arcs l) vs q (omega arith) ∙ omega arith;
        target = rw e r.1.1;
        after = omega arith;
        before = omega arith;
      }))
      (strung_cases (positions B (p + (1 + 2 * length l)) vs) (p + 1) (length l) q m)

  pub positions_new : (B : List ℕ) (vs : Graph) (x p : ℕ) → NodesLie F T b p vs → (j f t : ℕ) → j < length vs →
      Memᴰ (f, t) (arcsOf (nodeAt vs j))
      → (q : ℕ) × (Memᴰ q (positions B p vs) × ((source S x p vs q ≡ x + j) × (((get_or F q 0 ≡ f) × (get_or T q 0 ≡ b + t)) × (p < q))))
  positions_new B [] x p s j f t h m = absurd (omega arith)
  positions_new B (atom a ∷ vs) x p s zero f t h m = absurd (Memᴰ.not-nil m)
  positions_new B (arcs l ∷ vs) x p s zero f t h m =
      let r = arcs_find l (p + 1) s.0.1 f t m in
      let i = r.0 in
      let g : i < length l = r.1.0 in (
        p + 1 + 2 * i,
        (
          strung_new (positions B (p + (1 + 2 * length l)) vs) (p + 1) (length l) i g,
          (source_here S x p (arcs l) vs (p + 1 + 2 * i) (omega arith) ∙ omega arith, (r.1.1, omega arith)),
        ),
      )
  positions_new B (atom a ∷ vs) x p s (suc j) f t h m =
      let r = positions_new B vs (suc x) (p + 1) s.1 j f t (omega arith) m in
      let q = r.0 in
      let g : p + 1 < q = r.1.1.1.1 in
      let e : source S (suc x) (p + 1) vs q ≡ suc x + j = r.1.1.0 in
      (q, (r.1.0, (source_next S x p (atom a) vs q (omega arith) ∙ omega arith, (r.1.1.1.0, omega arith))))
  positions_new B (arcs l ∷ vs) x p s (suc j) f t h m =
      let r = positions_new B vs (suc x) (p + (1 + 2 * length l)) s.1 j f t (omega arith) m in
      let q = r.0 in
      let g : p + (1 + 2 * length l) < q = r.1.1.1.1 in
      let e : source S (suc x) (p + (1 + 2 * length l)) vs q ≡ suc x + j = r.1.1.0 in (
        q,
        (
          strung_old (positions B (p + (1 + 2 * length l)) vs) (p + 1) (length l) q r.1.0,
          (source_next S x p (arcs l) vs q (omega arith) ∙ omega arith, (r.1.1.1.0, omega arith)),
        ),
      )

-- ---- the nodes that come, as `nodes` reads them
tail_lies : (F T : List ℕ) (b p : ℕ) (v : Node) (vs : Graph) → NodesLie F T b p (v ∷ vs) → NodesLie F T b (p + span v) vs
tail_lies F T b p (atom a) vs s = s.1
tail_lies F T b p (arcs l) vs s = s.1

pub nodes_at : (F T : List ℕ) (b n : ℕ) (G : Pile) (N B : List ℕ) (S A : ℕ → ℕ) (vs : Graph) (x p : ℕ) → NodesLie F T b p vs →
    GraphFits vs → p + spans vs ≤ 2048 → x + length vs ≤ n
    → ((i : ℕ) → Memᴰ i (numbers N x vs) → Memᴰ i G.N)
    → ((q : ℕ) → Memᴰ q (positions B p vs) → Memᴰ q G.B)
    → ((i : ℕ) → x ≤ i → i < x + length vs → G.A i ≡ codes A x vs i)
    → ((q : ℕ) → p ≤ q → q < p + spans vs → G.S q ≡ source S x p vs q)
    → NodesAt F G n x p vs
nodes_at F T b n G N B S A [] x p s f hp hx iN iB eA eS = tt
nodes_at F T b n G N B S A (v ∷ vs) x p s f hp hx iN iB eA eS = (
  first v s f hp iB eS eA,
  nodes_at F T b n G N B S A vs (suc x) (p + span v) (tail_lies F T b p v vs s) f.1 (omega arith) (omega arith)
      (λ i m. iN i (Memᴰ.tail m))
      (λ q m. iB q (strung_old (positions B (p + span v) vs) (p + 1) (length (arcsOf v)) q m))
      (λ i h l. eA i (omega arith) (omega arith) ∙ codes_skip A x v vs i (λ e. omega arith))
      (λ q h l. eS q (omega arith) (omega arith) ∙ source_next S x p v vs q h),
)
  where
    first : (v : Node) → NodesLie F T b p (v ∷ vs) → GraphFits (v ∷ vs) → p + spans (v ∷ vs) ≤ 2048 →
        ((q : ℕ) → Memᴰ q (positions B p (v ∷ vs)) → Memᴰ q G.B) →
        ((q : ℕ) → p ≤ q → q < p + spans (v ∷ vs) → G.S q ≡ source S x p (v ∷ vs) q)
        → ((i : ℕ) → x ≤ i → i < x + length (v ∷ vs) → G.A i ≡ codes A x (v ∷ vs) i) → NodeAt F G n x p v
    first (atom a) s f hp iB eS eA =
        record {
          head = s.0;
          small = f.0;
          low = omega arith;
          inside = omega arith;
          node = iN x (Memᴰ.head refl);
          is =
              eA x (omega arith) (omega arith) ∙ codes_first A x (atom a) vs;
        }
    first (arcs l) s f hp iB eS eA = record {
      head = s.0.0;
      low = omega arith;
      inside = omega arith;
      arcs = λ i h. (
        iB (p + 1 + 2 * i) (strung_new (positions B (p + (1 + 2 * length l)) vs) (p + 1) (length l) i h),
        eS (p + 1 + 2 * i) (omega arith) (omega arith) ∙ source_here S x p (arcs l) vs (p + 1 + 2 * i) (omega arith),
      );
    }
