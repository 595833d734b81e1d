-- When a sheet tells what facts tell; then its graph is theirs. Sheets grow as facts are added.
-- Assumes nothing.
use mathlib.Core.Path.{◌≡◌, refl, ap, sym, ◌∙◌, subst}
use mathlib.Core.Logic.{◌⊎◌, inl, inr, ⊎_elim}
use mathlib.Core.List.Memᴰ
use mathlib.Core.List.{List, [], ◌∷◌, ◌++◌, append_assoc, Memᴰ}
use Prim.Native.Nat.{ℕ, ◌<◌}
use native.Mathlib.Omega.{arith}
use Rattle.theory.specs.Join.{Edge, labels}
use Rattle.theory.specs.Structure.{Structure}
use Rattle.theory.proofs.Close.{labels_good}
use Rattle.formulas.specs.Formula.{Path}
use Rattle.formulas.specs.Part.{Fact, reach, bears, share, part_graph}
use Rattle.formulas.specs.Sheet.{Sheet, Rooted, blank_sheet, ◌plus◌, sheet_rules, sheet_graph}
use Rattle.formulas.proofs.Facts.{FactHolds, FactsHold, hold_each}
use Rattle.formulas.proofs.Spots.{spots, shared, Tells}
use Rattle.formulas.proofs.Rows.{rows, row_coded, rows_definite}

abbrev pub Pair : Type 0
Pair = ℕ × ℕ

-- the root, or a spot that an arc meets
abbrev pub On : Sheet → ℕ → Type 0
On A i = (i ≡ 0) ⊎ ((e : Edge) × Memᴰ e A.edges × (e.2 ≡ i))

module _ (path : ℕ → Path) where
  pub record Told (A : Sheet) (F : List Fact) : Type 1 where
    pub path_root : path 0 ≡ []
    pub from : (e : Edge) → Memᴰ e A.edges → On A e.0 × (e.0 < e.2)
    pub bearer : (p : Pair) → Memᴰ p A.atoms → On A p.0
    pub sharers : (p : Pair) → Memᴰ p A.ties → On A p.0 × On A p.1
    pub next : (e : Edge) → Memᴰ e A.edges → path e.2 ≡ path e.0 ++ e.1 ∷ []
    pub reach_in : (e : Edge) → Memᴰ e A.edges → (S : Structure) → FactsHold S F → FactHolds S (reach (path e.2))
    pub bears_in : (p : Pair) → Memᴰ p A.atoms → Memᴰ (bears (path p.0) p.1) F
    pub shares_in : (p : Pair) → Memᴰ p A.ties → Memᴰ (share (path p.0) (path p.1)) F
    pub reach_from : (q : Path) → Memᴰ (reach q) F → (i : ℕ) × On A i × (path i ≡ q)
    pub bears_from : (q : Path) (a : ℕ) → Memᴰ (bears q a) F → (i : ℕ) × Memᴰ {A = Pair} (i, a) A.atoms × (path i ≡ q)
    pub shares_from : (q r : Path) → Memᴰ (share q r) F →
        (i : ℕ) × (j : ℕ) × Memᴰ {A = Pair} (i, j) A.ties × (path i ≡ q) × (path j ≡ r)

  -- the table of a sheet tells it
  module _ (A : Sheet) (F : List Fact) (t : Told A F) where
    on_reach : (i : ℕ) → On A i → (S : Structure) → FactsHold S F → FactHolds S (reach (path i))
    on_reach i (inl e) S p = subst (λ (q : Path). FactHolds S (reach q)) (sym (ap path e ∙ t.path_root)) (S.start, refl)
    on_reach i (inr (e, m, h)) S p = subst (λ (z : ℕ). FactHolds S (reach (path z))) h (t.reach_in e m S p)

    on_parent : (j : ℕ) → On A j → 0 < j → (i : ℕ) × (f : ℕ) × On A i × Memᴰ {A = Edge} (i, f, j) A.edges × (i < j)
    on_parent j (inl e) z = absurd (omega arith)
    on_parent j (inr (e, m, h)) z = let (o, l) = t.from e m in
        (e.0, e.1, o, subst (λ (k : ℕ). Memᴰ {A = Edge} (e.0, e.1, k) A.edges) h m, omega (arith, l, h))

    tells : Tells (rows A.edges A.atoms A.ties) F
    tells = record {
      path = path;
      path_root = t.path_root;
      path_next = λ i f j e. t.next (i, f, j) e;
      root_in = inl refl;
      parent = on_parent;
      bears_in = λ i a m b. t.bears_in (i, a) b;
      shares_in = λ i j m n s. t.shares_in (i, j) s;
      reach_in = on_reach;
      reach_from = t.reach_from;
      bears_from = λ q a i. let (x, b, e) = t.bears_from q a i in (x, t.bearer (x, a) b, e, b);
      shares_from = λ q r i. let (x, y, s, d, e) = t.shares_from q r i in let (o, u) = t.sharers (x, y) s in (x, y, o, u, d, e, s);
    }

    pub rooted : Rooted A.edges A.atoms A.ties
    rooted = record { from = t.from; bearer = t.bearer; sharers = t.sharers }

    pub sheet_definite : part_graph F [] ≡ sheet_graph A
    unfolding sheet_graph
    sheet_definite =
        let T = rows A.edges A.atoms A.ties in
        let c = row_coded A.edges A.atoms A.ties rooted in
        let (g, k) = labels_good (spots T) (shared T) (sheet_rules A) c.ruled in
        rows_definite A.edges A.atoms A.ties rooted F tells (labels (sheet_rules A)) g k

  -- what B adds to A while H is added to F
  pub record Adds (A : Sheet) (F : List Fact) (B : Sheet) (H : List Fact) : Type 1 where
    pub from : (e : Edge) → Memᴰ e B.edges → On (A plus B) e.0 × (e.0 < e.2)
    pub bearer : (p : Pair) → Memᴰ p B.atoms → On (A plus B) p.0
    pub sharers : (p : Pair) → Memᴰ p B.ties → On (A plus B) p.0 × On (A plus B) p.1
    pub next : (e : Edge) → Memᴰ e B.edges → path e.2 ≡ path e.0 ++ e.1 ∷ []
    pub reach_in : (e : Edge) → Memᴰ e B.edges → (S : Structure) → FactsHold S H → FactHolds S (reach (path e.2))
    pub bears_in : (p : Pair) → Memᴰ p B.atoms → Memᴰ (bears (path p.0) p.1) H
    pub shares_in : (p : Pair) → Memᴰ p B.ties → Memᴰ (share (path p.0) (path p.1)) H
    pub reach_from : (q : Path) → Memᴰ (reach q) H → (i : ℕ) × On (A plus B) i × (path i ≡ q)
    pub bears_from : (q : Path) (a : ℕ) → Memᴰ (bears q a) H → (i : ℕ) × Memᴰ {A = Pair} (i, a) B.atoms × (path i ≡ q)
    pub shares_from : (q r : Path) → Memᴰ (share q r) H →
        (i : ℕ) × (j : ℕ) × Memᴰ {A = Pair} (i, j) B.ties × (path i ≡ q) × (path j ≡ r)

  pub on_left : (A B : Sheet) (i : ℕ) → On A i → On (A plus B) i
  on_left A B i (inl e) = inl e
  on_left A B i (inr (e, m, h)) = inr (e, Memᴰ.append_left B.edges m, h)

  pub on_right : (A B : Sheet) (i : ℕ) → On B i → On (A plus B) i
  on_right A B i (inl e) = inl e
  on_right A B i (inr (e, m, h)) = inr (e, Memᴰ.append_right A.edges m, h)

  pub told_adds : (A : Sheet) (F : List Fact) (B : Sheet) (H : List Fact) → Told A F → Adds A F B H → Told (A plus B) (F ++ H)
  told_adds A F B H t a = record {
    path_root = t.path_root;
    from = λ e m. ⊎_elim (λ i. let (o, l) = t.from e i in (on_left A B e.0 o, l)) (a.from e) (Memᴰ.append_cases A.edges m);
    bearer = λ p m. ⊎_elim (λ i. on_left A B p.0 (t.bearer p i)) (a.bearer p) (Memᴰ.append_cases A.atoms m);
    sharers = λ p m. ⊎_elim (λ i. let (x, y) = t.sharers p i in (on_left A B p.0 x, on_left A B p.1 y)) (a.sharers p)
        (Memᴰ.append_cases A.ties m);
    next = λ e m. ⊎_elim (t.next e) (a.next e) (Memᴰ.append_cases A.edges m);
    reach_in = λ e m S p. let (u, v) = hold_each S F H p in
        ⊎_elim (λ i. t.reach_in e i S u) (λ i. a.reach_in e i S v) (Memᴰ.append_cases A.edges m);
    bears_in = λ p m. ⊎_elim (λ i. Memᴰ.append_left H (t.bears_in p i)) (λ i. Memᴰ.append_right F (a.bears_in p i))
        (Memᴰ.append_cases A.atoms m);
    shares_in = λ p m. ⊎_elim (λ i. Memᴰ.append_left H (t.shares_in p i)) (λ i. Memᴰ.append_right F (a.shares_in p i))
        (Memᴰ.append_cases A.ties m);
    reach_from = λ q m. ⊎_elim (λ i. let (x, o, e) = t.reach_from q i in (x, on_left A B x o, e)) (a.reach_from q)
        (Memᴰ.append_cases F m);
    bears_from = λ q n m. ⊎_elim (λ i. let (x, b, e) = t.bears_from q n i in (x, Memᴰ.append_left B.atoms b, e))
        (λ i. let (x, b, e) = a.bears_from q n i in (x, Memᴰ.append_right A.atoms b, e)) (Memᴰ.append_cases F m);
    shares_from = λ q r m. ⊎_elim (λ i. let (x, y, s, d, e) = t.shares_from q r i in (x, y, Memᴰ.append_left B.ties s, d, e))
        (λ i. let (x, y, s, d, e) = a.shares_from q r i in (x, y, Memᴰ.append_right A.ties s, d, e)) (Memᴰ.append_cases F m);
  }

  -- two sheets that each tell their own
  pub told_both : (A : Sheet) (F : List Fact) (B : Sheet) (H : List Fact) → Told A F → Told B H → Told (A plus B) (F ++ H)
  told_both A F B H t u = told_adds A F B H t (record {
    from = λ e m. let (o, l) = u.from e m in (on_right A B e.0 o, l);
    bearer = λ p m. on_right A B p.0 (u.bearer p m);
    sharers = λ p m. let (x, y) = u.sharers p m in (on_right A B p.0 x, on_right A B p.1 y);
    next = u.next;
    reach_in = u.reach_in;
    bears_in = u.bears_in;
    shares_in = u.shares_in;
    reach_from = λ q m. let (x, o, e) = u.reach_from q m in (x, on_right A B x o, e);
    bears_from = u.bears_from;
    shares_from = u.shares_from;
  })

  pub told_blank : path 0 ≡ [] → Told blank_sheet []
  told_blank e = record {
    path_root = e;
    from = λ e m. absurd (Memᴰ.not-nil m);
    bearer = λ p m. absurd (Memᴰ.not-nil m);
    sharers = λ p m. absurd (Memᴰ.not-nil m);
    next = λ e m. absurd (Memᴰ.not-nil m);
    reach_in = λ e m S p. absurd (Memᴰ.not-nil m);
    bears_in = λ p m. absurd (Memᴰ.not-nil m);
    shares_in = λ p m. absurd (Memᴰ.not-nil m);
    reach_from = λ q m. absurd (Memᴰ.not-nil m);
    bears_from = λ q a m. absurd (Memᴰ.not-nil m);
    shares_from = λ q r m. absurd (Memᴰ.not-nil m);
  }

pub plus_assoc : (A B C : Sheet) → (A plus B) plus C ≡ A plus (B plus C)
plus_assoc A B C = λ i. record {
  edges = append_assoc A.edges B.edges C.edges i;
  atoms = append_assoc A.atoms B.atoms C.atoms i;
  ties =
      append_assoc A.ties B.ties C.ties i;
}
