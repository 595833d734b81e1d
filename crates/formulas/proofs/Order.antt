-- The graph of a sheet depends neither on the labels, if they are closed and justified, nor on the order of its rows.
-- Assumes nothing.
use mathlib.Core.Path.{◌≡◌, refl, ap, sym, ◌∙◌}
use mathlib.Core.Logic.{inl, inr, ⊎_elim}
use mathlib.Core.Bool.{Bool, true, false}
use mathlib.Core.Option.{Option, none, some}
use mathlib.Core.List.Memᴰ
use mathlib.Core.List.{Memᴰ}
use Prim.Native.Nat.{ℕ}
use Rattle.theory.specs.Net.{Graph, Net, seed, ClashOf, JoinedOf}
use Rattle.theory.specs.Join.{Edge, labels, clashes, order, graph_for, join_with}
use Rattle.theory.proofs.Meaning.{joined_agrees}
use Rattle.theory.proofs.Unique.{joined_same}
use Rattle.theory.proofs.Flat.{Covers, clash_over, joined_over}
use Rattle.theory.proofs.Close.{Good, Closed, labels_good}
use Rattle.theory.proofs.Correct.{ClashView, no_clash, clash_view, clash_found, joined_ok}
use Rattle.formulas.specs.Formula.{Path, Formula}
use Rattle.formulas.specs.Draft.{Draft, draft, Splits, done, ◌beside◌, Sides, out, ◌versus◌, drafted}
use Rattle.formulas.specs.Sheet.{Sheet, Sound, ◌plus◌, sheet_rules, sheet_graph, Laid, laid, Rows, over, ◌besides◌, Cells, gone}
use Rattle.formulas.specs.Sheet.{◌against◌, laid_out, path_of}
use Rattle.formulas.specs.Tables.{SoundLaid, SoundRows, SoundCells}
use Rattle.formulas.proofs.Spots.{spots, shared}
use Rattle.formulas.proofs.Rows.{rows, row_coded, alike}
use Rattle.formulas.proofs.Told.{Pair, On, rooted}
use Rattle.formulas.proofs.Laid.{never, Like, LikeAll, LikeAny}
use Rattle.formulas.proofs.Assemble.{laid_draft}

-- the net of a sheet
abbrev pub net : Sheet → Net
net A = spots (rows A.edges A.atoms A.ties)

abbrev pub tie : (A : Sheet) → (net A).Spot → (net A).Spot → Type 0
tie A = shared (rows A.edges A.atoms A.ties)

data Answer (A : Sheet) : Option Graph → Type 0 where
  is_joined : (G : Graph) → JoinedOf (net A) (tie A) G → Answer A (some G)
  is_clash : ClashOf (net A) (tie A) → Answer A none

one_answer : (A : Sheet) (o q : Option Graph) → Answer A o → Answer A q → o ≡ q
one_answer A (some g) (some h) (is_joined G j) (is_joined H k) =
    ap {B = Option Graph} some (joined_same (net A) (tie A) G H j k (0, inl refl) refl)
one_answer A (some g) none (is_joined G j) (is_clash k) = absurd (joined_agrees (net A) (tie A) G j k)
one_answer A none (some h) (is_clash j) (is_joined H k) = absurd (joined_agrees (net A) (tie A) H k j)
one_answer A none none (is_clash j) (is_clash k) = refl

module _ (A : Sheet) (w : Sound A) where
  abbrev pub GoodFor : (ℕ → ℕ) → Type 0
  GoodFor lab = Good (net A) (tie A) (sheet_rules A) (row_coded A.edges A.atoms A.ties w).ruled lab
      × Closed (net A) (tie A) (sheet_rules A) (row_coded A.edges A.atoms A.ties w).ruled lab

  label_answer : (lab : ℕ → ℕ) → GoodFor lab → Answer A (join_with lab A.atoms A.edges)
  label_answer lab g = go (clashes lab A.atoms A.atoms A.edges) (clash_view lab A.atoms A.edges A.atoms)
    where
      go : (b : Bool) → ClashView lab A.atoms A.edges A.atoms b →
          Answer A (elim b [
            | true ↦ none
            | false ↦ some
                (graph_for lab A.atoms A.edges (order lab A.edges) (order lab A.edges))
          ])
      go true v = is_clash
          (clash_found (net A) (tie A) (sheet_rules A) A.edges A.atoms (row_coded A.edges A.atoms A.ties w) lab g.0
          g.1 v)
      go false (no_clash a b) =
          is_joined (graph_for lab A.atoms A.edges (order lab A.edges) (order lab A.edges))
          (joined_ok (net A) (tie A) (sheet_rules A) A.edges A.atoms (row_coded A.edges A.atoms A.ties w) lab g.0
          g.1 a b)

  sheet_answer : Answer A (sheet_graph A)
  unfolding sheet_graph
  sheet_answer = label_answer (labels (sheet_rules A))
      (labels_good (net A) (tie A) (sheet_rules A) (row_coded A.edges A.atoms A.ties w).ruled)

  -- any labels
  pub sheet_labels : (lab : ℕ → ℕ) → GoodFor lab → join_with lab A.atoms A.edges ≡ sheet_graph A
  sheet_labels lab g = one_answer A (join_with lab A.atoms A.edges) (sheet_graph A) (label_answer lab g) sheet_answer

-- B has the rows of A
pub record Within (A B : Sheet) : Type 0 where
  pub edges : (e : Edge) → Memᴰ e A.edges → Memᴰ e B.edges
  pub atoms : (p : Pair) → Memᴰ p A.atoms → Memᴰ p B.atoms
  pub ties : (p : Pair) → Memᴰ p A.ties → Memᴰ p B.ties

pub on_within : (A B : Sheet) → Within A B → (i : ℕ) → On A i → On B i
on_within A B v i (inl e) = inl e
on_within A B v i (inr (e, m, h)) = inr (e, v.edges e m, h)

covers : (A B : Sheet) → Sound B → Within A B → Covers (net A) (tie A) (net B) (tie B) (λ x y. x.0 ≡ y.0)
covers A B w v = record {
  total = λ x. ((x.0, on_within A B v x.0 x.1), refl);
  single = λ x a b p q. alike B.edges B.atoms B.ties w a b (sym p ∙ q);
  atom_of = λ x c u. ((x.0, on_within A B v x.0 x.1), refl, v.atoms (x.0, c) u);
  arc_of = λ x f y u. (
    (x.0, on_within A B v x.0 x.1),
    (y.0, on_within A B v y.0 y.1),
    refl,
    refl,
    v.edges (x.0, f, y.0) u,
  );
  seed_of = λ x y s. ((x.0, on_within A B v x.0 x.1), (y.0, on_within A B v y.0 y.1), refl, refl, seed (seeds x y s));
}
  where
    seeds : (x y : (net A).Spot) → tie A x y → tie B (x.0, on_within A B v x.0 x.1) (y.0, on_within A B v y.0 y.1)
    seeds x y (inl r) = inl r
    seeds x y (inr s) = inr (v.ties (x.0, y.0) s)

turned : (A B : Sheet) → Sound A → Sound B → Within A B → Within B A → Covers (net B) (tie B) (net A) (tie A) (λ a x. x.0 ≡ a.0)
turned A B u w p q = let c = covers B A u q in record {
  total = λ a. let (x, e) = c.total a in (x, sym e);
  single = λ a x y e f. c.single a x y (sym e) (sym f);
  atom_of = λ a n h. let (x, e, k) = c.atom_of a n h in (x, sym e, k);
  arc_of = λ a f b h. let (x, y, d, e, k) = c.arc_of a f b h in (x, y, sym d, sym e, k);
  seed_of = λ a b s. let (x, y, d, e, k) = c.seed_of a b s in (x, y, sym d, sym e, k);
}

-- any order, and rows may stand twice
pub sheet_order : (A B : Sheet) → Sound A → Sound B → Within A B → Within B A → sheet_graph A ≡ sheet_graph B
sheet_order A B u w p q = go (sheet_graph A) (sheet_answer A u)
  where
    go : (o : Option Graph) → Answer A o → o ≡ sheet_graph B
    go (some g) (is_joined G j) = one_answer B (some G) (sheet_graph B)
        (is_joined G (joined_over (net A) (tie A) (net B) (tie B) (λ x y. x.0 ≡ y.0) (covers A B w p) (turned A B u w p q)
        (λ a r. ((a.0, on_within B A q a.0 a.1), refl, r)) G j)) (sheet_answer B w)
    go none (is_clash k) =
        one_answer B none (sheet_graph B) (is_clash (clash_over (net A) (tie A) (net B) (tie B) (λ x y. x.0 ≡ y.0) (covers A B w p) k))
        (sheet_answer B w)

-- what is folded stays sound, and so is every sheet of a formula
pub sound_both : (A B : Sheet) → Sound A → Sound B → Sound (A plus B)
sound_both A B u w = record {
  from = λ e m. ⊎_elim (λ i. let (o, l) = u.from e i in (left e.0 o, l)) (λ i. let (o, l) = w.from e i in (right e.0 o, l))
      (Memᴰ.append_cases A.edges m);
  bearer = λ p m. ⊎_elim (λ i. left p.0 (u.bearer p i)) (λ i. right p.0 (w.bearer p i)) (Memᴰ.append_cases A.atoms m);
  sharers = λ p m. ⊎_elim (λ i. let (x, y) = u.sharers p i in (left p.0 x, left p.1 y))
      (λ i. let (x, y) = w.sharers p i in (right p.0 x, right p.1 y)) (Memᴰ.append_cases A.ties m);
}
  where
    left : (i : ℕ) → On A i → On (A plus B) i
    left i (inl e) = inl e
    left i (inr (e, m, h)) = inr (e, Memᴰ.append_left B.edges m, h)

    right : (i : ℕ) → On B i → On (A plus B) i
    right i (inl e) = inl e
    right i (inr (e, m, h)) = inr (e, Memᴰ.append_right A.edges m, h)

module _ (path : ℕ → Path) where
  mutual
    like_sound : (d : Draft) (l : Laid) → Like path d l → SoundLaid l
    like_sound (draft F ds) (laid A es) p = (rooted path A F p.0, like_rows ds es p.1)

    like_rows : (ds : Splits) (es : Rows) → LikeAll path ds es → SoundRows es
    like_rows done over p = tt
    like_rows done (b besides es) (never z) = absurd z
    like_rows (a beside ds) over (never z) = absurd z
    like_rows (a beside ds) (b besides es) p = (like_cells a b p.0, like_rows ds es p.1)

    like_cells : (a : Sides) (b : Cells) → LikeAny path a b → SoundCells b
    like_cells out gone p = tt
    like_cells out (e against b) (never z) = absurd z
    like_cells (d versus a) gone (never z) = absurd z
    like_cells (d versus a) (e against b) p = (like_sound d e p.0, like_cells a b p.1)

pub laid_sound : (φ : Formula) → SoundLaid (laid_out φ)
laid_sound φ = like_sound (path_of φ) (drafted φ) (laid_out φ) (laid_draft φ)
