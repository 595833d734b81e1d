-- A graph comes: what is pushed grows, the state stays, and what is done in the end is all. Assumes nothing.
use mathlib.Core.Path.{◌≡◌, refl, sym, ap, ◌∙◌, subst}
use mathlib.Core.List.{List, [], ◌∷◌, Memᴰ}
use mathlib.Core.Logic.{⊎_elim}
use Prim.Native.Nat.{ℕ, zero, suc, ◌+◌, ◌*◌, ◌≤◌, ◌<◌}
use native.Mathlib.Omega.{arith}
use lib.ListN.{length, get_or}
use Rattle.theory.specs.Net.{atom, arcs, Graph, nodeAt}
use Rattle.forest.specs.Held.{AtomCode}
use Rattle.forest.specs.State.{Pile, Done, Equal, First, State}
use Rattle.classes.specs.Nodes.{spans, noded, listed}
use Rattle.classes.specs.Holds.{code}
use Rattle.classes.proofs.Runs.{strung_length, strung_cases, strung_old, strung_new}
use Rattle.classes.proofs.Added.{positions}

-- ---- more is pushed: G' says all that G says
pub record Extends (G G' : Pile) : Type 0 where
  pub roots : (x : ℕ) → Memᴰ x G.R → Memᴰ x G'.R
  pub nodes : (i : ℕ) → Memᴰ i G.N → Memᴰ i G'.N
  pub arcs : (q : ℕ) → Memᴰ q G.B → Memᴰ q G'.B
  pub sources : (q : ℕ) → Memᴰ q G.B → G'.S q ≡ G.S q
  pub codes : (i : ℕ) → Memᴰ i G.N → G'.A i ≡ G.A i

module _ (G G' : Pile) (F T : List ℕ) (x : Extends G G') where
  pub same_extends : {i j : ℕ} → Equal G F T i j → Equal G' F T i j
  same_extends (Equal.root {x = i} {y = j} a b) = Equal.root (x.roots i a) (x.roots j b)
  same_extends (Equal.self i) = Equal.self i
  same_extends (Equal.back r) = Equal.back (same_extends r)
  same_extends (Equal.on r t) = Equal.on (same_extends r) (same_extends t)
  same_extends (Equal.along {p} {q} a b e r) =
      Equal.along (x.arcs p a) (x.arcs q b) e
      (subst (λ (z : ℕ). Equal G' F T z (G'.S q)) (sym (x.sources p a))
      (subst (λ (z : ℕ). Equal G' F T (G.S p) z) (sym (x.sources q b)) (same_extends r)))

  pub state_extends : (H : Done) (n k : ℕ) (w : List ℕ) → ((q : ℕ) → Memᴰ q G'.B → (q < 2047) × ((G'.S q < n) × (get_or T q 0 < n)))
      → ((i : ℕ) → Memᴰ i G'.N → (G'.A i ≡ 0 → ⊥) → AtomCode (G'.A i)) → State G H F T n k 0 [] w → State G' H F T n k 0 [] w
  state_extends H n k w arcs' atoms' u = record {
    logged = u.logged;
    shape = u.shape;
    room = u.room;
    few = u.few;
    stack = u.stack;
    arcs = arcs';
    atoms = atoms';
    M = u.M;
    forest = u.forest;
    size = u.size;
    heavy = u.heavy;
    C = u.C;
    wide = u.wide;
    all = u.all;
    chain = u.chain;
    bare = λ c h e l. let o = u.bare c h e l in let b = o.1 in (
      o.0,
      record {
        i = b.i;
        small = b.small;
        node = x.nodes b.i b.node;
        is = x.codes b.i b.node
            ∙ b.is;
        class = b.class;
      },
    );
    home = λ c q h m. let o = u.home c q h m in (o.0, ap (λ (z : ℕ). get_or u.M z 0) (x.sources q (u.known q o.0)) ∙ o.1);
    known = λ j m. x.arcs j (u.known j m);
    blank = u.blank;
    cover = λ j m. let o = u.cover j m in (
      o.0,
      (
        subst (λ (z : ℕ). First F (get_or F j 0) (get_or u.C (get_or u.M z 0) []) o.0) (sym (x.sources j (u.known j m)))
            o.1.0,
        o.1.1,
      ),
    );
    nodes = λ i m. let o = u.nodes i m in (o.0, x.nodes i o.1);
    met = λ i m z. let y = x.codes i (u.nodes i m).1 in u.met i m (λ e. z (y ∙ e)) ∙ sym y;
    held = u.held;
    sound = λ i j hi hj e. same_extends (u.sound i j hi hj e);
    frame = u.frame;
  }

-- ---- what is done when the nodes vs are
pub listed_pairs : (vs : Graph) (H : Done) (x p : ℕ) → (listed H x p vs).E ≡ H.E
listed_pairs [] H x p = refl
listed_pairs (atom a ∷ vs) H x p = listed_pairs vs (noded H x p (atom a)) (suc x) (p + 1)
listed_pairs (arcs l ∷ vs) H x p = listed_pairs vs (noded H x p (arcs l)) (suc x) (p + (1 + 2 * length l))

listed_arc : (vs : Graph) (H : Done) (x p q : ℕ) → Memᴰ q H.K → Memᴰ q (listed H x p vs).K
listed_arc [] H x p q m = m
listed_arc (atom a ∷ vs) H x p q m = listed_arc vs (noded H x p (atom a)) (suc x) (p + 1) q m
listed_arc (arcs l ∷ vs) H x p q m =
    listed_arc vs (noded H x p (arcs l)) (suc x) (p + (1 + 2 * length l)) q (strung_old H.K (p + 1) (length l) q m)

pub listed_atom : (vs : Graph) (H : Done) (x p i : ℕ) → Memᴰ i H.U → Memᴰ i (listed H x p vs).U
listed_atom [] H x p i m = m
listed_atom (atom a ∷ vs) H x p i m = listed_atom vs (noded H x p (atom a)) (suc x) (p + 1) i (Memᴰ.tail m)
listed_atom (arcs l ∷ vs) H x p i m = listed_atom vs (noded H x p (arcs l)) (suc x) (p + (1 + 2 * length l)) i m

pub listed_arcs : (B : List ℕ) (vs : Graph) (H : Done) (x p q : ℕ) → ((q : ℕ) → Memᴰ q B → Memᴰ q H.K) →
    Memᴰ q (positions B p vs) → Memᴰ q (listed H x p vs).K
listed_arcs B [] H x p q f m = f q m
listed_arcs B (atom a ∷ vs) H x p q f m = listed_arcs B vs (noded H x p (atom a)) (suc x) (p + 1) q f m
listed_arcs B (arcs l ∷ vs) H x p q f m = ⊎_elim
    (λ z. listed_arcs B vs (noded H x p (arcs l)) (suc x) (p + (1 + 2 * length l)) q
    (λ i b. strung_old H.K (p + 1) (length l) i (f i b)) z)
    (λ z. listed_arc vs (noded H x p (arcs l)) (suc x) (p + (1 + 2 * length l)) q
    (rw z.1.1 (strung_new H.K (p + 1) (length l) z.0 z.1.0)))
    (strung_cases (positions B (p + (1 + 2 * length l)) vs) (p + 1) (length l) q m)

pub listed_atoms : (vs : Graph) (H : Done) (x p j : ℕ) → j < length vs → (code (nodeAt vs j) ≡ 0 → ⊥) →
    Memᴰ (x + j) (listed H x p vs).U
listed_atoms [] H x p j h n = absurd (omega arith)
listed_atoms (atom a ∷ vs) H x p zero h n = let e : x + 0 ≡ x = omega arith in
    rw e (listed_atom vs (noded H x p (atom a)) (suc x) (p + 1) x (Memᴰ.head refl))
listed_atoms (arcs l ∷ vs) H x p zero h n = absurd (n refl)
listed_atoms (atom a ∷ vs) H x p (suc j) h n = let e : x + suc j ≡ suc x + j = omega arith in
    rw e (listed_atoms vs (noded H x p (atom a)) (suc x) (p + 1) j (omega arith) n)
listed_atoms (arcs l ∷ vs) H x p (suc j) h n = let e : x + suc j ≡ suc x + j = omega arith in
    rw e (listed_atoms vs (noded H x p (arcs l)) (suc x) (p + (1 + 2 * length l)) j (omega arith) n)

pub listed_count : (vs : Graph) (H : Done) (x p : ℕ) →
    2 * length (listed H x p vs).K + length (listed H x p vs).U ≤ 2 * length H.K + length H.U + spans vs
listed_count [] H x p = omega arith
listed_count (atom a ∷ vs) H x p = let r = listed_count vs (noded H x p (atom a)) (suc x) (p + 1) in omega arith
listed_count (arcs l ∷ vs) H x p =
    let r = listed_count vs (noded H x p (arcs l)) (suc x) (p + (1 + 2 * length l)) in
    let e = strung_length H.K (p + 1) (length l) in
    omega arith
