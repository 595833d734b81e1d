-- The sheet of a formula tells the facts of its definite part.
-- Assumes nothing.
use mathlib.Core.Path.{◌≡◌, refl, ap, sym, ◌∙◌, subst}
use mathlib.Core.Logic.{◌⊎◌, inl, inr, ⊎_elim}
use mathlib.Core.List.Memᴰ
use mathlib.Core.List.{List, [], ◌∷◌, ◌++◌, append_assoc, append-nil, Memᴰ}
use Prim.Native.Nat.{ℕ, suc, ◌+◌, ◌<◌}
use native.Mathlib.Omega.{arith}
use lib.ListN.{length, length-append}
use Rattle.theory.specs.Join.{Edge}
use Rattle.theory.specs.Structure.{Structure}
use Rattle.formulas.specs.Formula.{Path, Formula, nil, top, atom, at, same, all, any, Formulas, one, ◌also◌, Leads}
use Rattle.formulas.specs.Part.{Fact, reach, bears, share}
use Rattle.formulas.specs.Draft.{shares, facts, facts_all}
use Rattle.formulas.specs.Sheet.{Sheet, blank_sheet, ◌plus◌, of_edges, of_atom, of_tie, lengths, count, counts, way, way_end, tied}
use Rattle.formulas.specs.Sheet.{sheet, sheets, prefixes, prefixes_all, paths, paths_all}
use Rattle.formulas.proofs.Walks.{leads_back}
use Rattle.formulas.proofs.Facts.{FactHolds}
use Rattle.formulas.proofs.Told.{Pair, On, Told, on_left, told_adds, told_both, told_blank, plus_assoc}

prefixes_length : (π p : Path) → length (prefixes π p) ≡ length p
prefixes_length π [] = refl
prefixes_length π (f ∷ p) = ap suc (prefixes_length (π ++ f ∷ []) p)

prefixes_all_length : (π : Path) (ps : List Path) → length (prefixes_all π ps) ≡ lengths ps
prefixes_all_length π [] = refl
prefixes_all_length π (p ∷ ps) =
    omega (arith, length-append (prefixes π p) (prefixes_all π ps), prefixes_length π p, prefixes_all_length π ps)

mutual
  pub paths_length : (π : Path) (φ : Formula) → length (paths π φ) ≡ count φ
  paths_length π nil = refl
  paths_length π top = refl
  paths_length π (atom a) = refl
  paths_length π (at f φ) = ap suc (paths_length (π ++ f ∷ []) φ)
  paths_length π (same p ps) =
      omega (arith, length-append (prefixes π p) (prefixes_all π ps), prefixes_length π p, prefixes_all_length π ps)
  paths_length π (all φ φs) = omega (arith, length-append (paths π φ) (paths_all π φs), paths_length π φ, paths_all_length π φs)
  paths_length π (any φ φs) = omega (arith, length-append (paths π φ) (paths_all π φs), paths_length π φ, paths_all_length π φs)

  paths_all_length : (π : Path) (φs : Formulas) → length (paths_all π φs) ≡ counts φs
  paths_all_length π (one φ) = paths_length π φ
  paths_all_length π (φ also φs) = omega (arith, length-append (paths π φ) (paths_all π φs), paths_length π φ, paths_all_length π φs)

-- the edges of a path
way_from : (n s : ℕ) (p : Path) (e : Edge) → Memᴰ e (way n s p) → (e.0 ≡ s) ⊎ ((d : Edge) × Memᴰ d (way n s p) × (d.2 ≡ e.0))
way_from n s [] e m = absurd (Memᴰ.not-nil m)
way_from n s (f ∷ p) e m = go (Memᴰ.cases_cons m) (way_from (suc n) n p e)
  where
    Out : ℕ → ℕ → Path → Type 0
    Out n s p = (e.0 ≡ s) ⊎ ((d : Edge) × Memᴰ d (way n s p) × (d.2 ≡ e.0))

    up : Out (suc n) n p → Out n s (f ∷ p)
    up (inl h) = inr ((s, f, n), Memᴰ.head refl, sym h)
    up (inr (d, i, h)) = inr (d, Memᴰ.tail i, h)

    go : (◌≡◌ {A = Edge} e (s, f, n)) ⊎ Memᴰ e (way (suc n) n p) → (Memᴰ e (way (suc n) n p) → Out (suc n) n p) → Out n s (f ∷ p)
    go (inl h) r = inl (ap (λ (z : Edge). z.0) h)
    go (inr i) r = up (r i)

way_up : (n s : ℕ) (p : Path) (e : Edge) → s < n → Memᴰ e (way n s p) → e.0 < e.2
way_up n s [] e l m = absurd (Memᴰ.not-nil m)
way_up n s (f ∷ p) e l m =
    ⊎_elim (λ (h : ◌≡◌ {A = Edge} e (s, f, n)). let a = ap (λ (z : Edge). z.0) h in let b = ap (λ (z : Edge). z.2) h in
    omega (arith, a, b)) (way_up (suc n) n p e (omega arith)) (Memᴰ.cases_cons m)

way_on : (n s : ℕ) (p : Path) → (way_end n s p ≡ s) ⊎ ((d : Edge) × Memᴰ d (way n s p) × (d.2 ≡ way_end n s p))
way_on n s [] = inl refl
way_on n s (f ∷ p) = go (way_on (suc n) n p)
  where
    go : (way_end (suc n) n p ≡ n) ⊎ ((d : Edge) × Memᴰ d (way (suc n) n p) × (d.2 ≡ way_end (suc n) n p)) →
        (way_end (suc n) n p ≡ s) ⊎ ((d : Edge) × Memᴰ d (way n s (f ∷ p)) × (d.2 ≡ way_end (suc n) n p))
    go (inl h) = inr ((s, f, n), Memᴰ.head refl, sym h)
    go (inr (d, i, h)) = inr (d, Memᴰ.tail i, h)

module _ (path : ℕ → Path) where
  -- the spots from n on have these paths
  abbrev pub Agrees : ℕ → List Path → Type 0
  Agrees n [] = Unit {0}
  Agrees n (p ∷ ps) = (path n ≡ p) × Agrees (suc n) ps

  pub agrees_split : (n : ℕ) (ps qs : List Path) → Agrees n (ps ++ qs) → Agrees n ps × Agrees (n + length ps) qs
  agrees_split n [] qs a = let e : n ≡ n + 0 = omega arith in (tt, subst (λ (z : ℕ). Agrees z qs) e a)
  agrees_split n (p ∷ ps) qs a = let (x, y) = agrees_split (suc n) ps qs a.1 in let e : suc n + length ps ≡ n + suc (length ps) =
      omega arith in ((a.0, x), subst (λ (z : ℕ). Agrees z qs) e y)

  way_next : (n s : ℕ) (π p : Path) → path s ≡ π → Agrees n (prefixes π p) → (e : Edge) → Memᴰ e (way n s p) →
      path e.2 ≡ path e.0 ++ e.1 ∷ []
  way_next n s π [] h a e m = absurd (Memᴰ.not-nil m)
  way_next n s π (f ∷ p) h a e m =
      ⊎_elim (λ i. subst (λ (z : Edge). path z.2 ≡ path z.0 ++ z.1 ∷ []) (sym i) (a.0 ∙ ap (λ (z : Path). z ++ f ∷ []) (sym h)))
      (way_next (suc n) n (π ++ f ∷ []) p a.0 a.1 e) (Memᴰ.cases_cons m)

  way_prefix : (n s : ℕ) (π p : Path) → path s ≡ π → Agrees n (prefixes π p) → (e : Edge) → Memᴰ e (way n s p) →
      (r : Path) × (path e.2 ++ r ≡ π ++ p)
  way_prefix n s π [] h a e m = absurd (Memᴰ.not-nil m)
  way_prefix n s π (f ∷ p) h a e m = ⊎_elim
      (λ (i : ◌≡◌ {A = Edge} e (s, f, n)).
      (p, ap (λ (z : ℕ). path z ++ p) (ap (λ (z : Edge). z.2) i) ∙ ap (λ (z : Path). z ++ p) a.0 ∙ append_assoc π (f ∷ []) p))
      (λ i. let (r, k) = way_prefix (suc n) n (π ++ f ∷ []) p a.0 a.1 e i in (r, k ∙ append_assoc π (f ∷ []) p))
      (Memᴰ.cases_cons m)

  way_last : (n s : ℕ) (π p : Path) → path s ≡ π → Agrees n (prefixes π p) → path (way_end n s p) ≡ π ++ p
  way_last n s π [] h a = h ∙ sym (append-nil π)
  way_last n s π (f ∷ p) h a = way_last (suc n) n (π ++ f ∷ []) p a.0 a.1 ∙ append_assoc π (f ∷ []) p

  shift : (A B C : Sheet) (F H K : List Fact) → Told path ((A plus B) plus C) ((F ++ H) ++ K) →
      Told path (A plus (B plus C)) (F ++ (H ++ K))
  shift A B C F H K t =
      subst (λ (z : List Fact). Told path (A plus (B plus C)) z) (append_assoc F H K)
      (subst (λ (z : Sheet). Told path z ((F ++ H) ++ K)) (plus_assoc A B C) t)

  -- one sheet more
  module _ (A : Sheet) (F : List Fact) (t : Told path A F) (s : ℕ) (o : On A s) (π : Path) (h : path s ≡ π) where
    told_atom : (a : ℕ) → Told path (A plus of_atom s a) (F ++ bears π a ∷ [])
    told_atom a = told_adds path A F (of_atom s a) (bears π a ∷ []) t (record {
      from = λ e m. absurd (Memᴰ.not-nil m);
      bearer = λ p m. let e : ◌≡◌ {A = Pair} p (s, a) = Memᴰ.eq_of_singleton m in
          subst (λ (z : ℕ). On (A plus of_atom s a) z) (sym (ap (λ (z : Pair). z.0) e)) (on_left path A (of_atom s a) s o);
      sharers = λ p m. absurd (Memᴰ.not-nil m);
      next = λ e m. absurd (Memᴰ.not-nil m);
      reach_in = λ e m S p. absurd (Memᴰ.not-nil m);
      bears_in = λ p m. let e : ◌≡◌ {A = Pair} p (s, a) = Memᴰ.eq_of_singleton m in
          Memᴰ.head (ap {B = Fact} (λ (z : Pair). bears (path z.0) z.1) e ∙ ap {B = Fact} (λ (z : Path). bears z a) h);
      shares_in = λ p m. absurd (Memᴰ.not-nil m);
      reach_from = λ q m. let e : reach q ≡ bears π a = Memᴰ.eq_of_singleton m in let z : ◌≡◌ {A = ℕ} 0 1 = cc in absurd (omega arith);
      bears_from = λ q b m. let e : bears q b ≡ bears π a = Memᴰ.eq_of_singleton m in let x : π ≡ q = cc in let y : b ≡ a = cc in
          (s, Memᴰ.head (λ i. (s, y i)), h ∙ x);
      shares_from = λ q r m. let e : share q r ≡ bears π a = Memᴰ.eq_of_singleton m in let z : ◌≡◌ {A = ℕ} 0 1 = cc in
          absurd (omega arith);
    })

    module _ (n : ℕ) (p : Path) (l : s < n) (a : Agrees n (prefixes π p)) where
      -- the spots of a path are on any sheet that has its edges
      way_start : (B : Sheet) → B.edges ≡ way n s p → (e : Edge) → Memᴰ e B.edges → On (A plus B) e.0 × (e.0 < e.2)
      way_start B q e m = (go (way_from n s p e (subst (Memᴰ e) q m)), way_up n s p e l (subst (Memᴰ e) q m))
        where
          go : (e.0 ≡ s) ⊎ ((d : Edge) × Memᴰ d (way n s p) × (d.2 ≡ e.0)) → On (A plus B) e.0
          go (inl k) = subst (On (A plus B)) (sym k) (on_left path A B s o)
          go (inr (d, i, k)) = inr (d, Memᴰ.append_right A.edges (subst (Memᴰ d) (sym q) i), k)

      pub way_there : (B : Sheet) → B.edges ≡ way n s p → On (A plus B) (way_end n s p)
      way_there B q = go (way_on n s p)
        where
          go : (way_end n s p ≡ s) ⊎ ((d : Edge) × Memᴰ d (way n s p) × (d.2 ≡ way_end n s p)) → On (A plus B) (way_end n s p)
          go (inl k) = subst (On (A plus B)) (sym k) (on_left path A B s o)
          go (inr (d, i, k)) = inr (d, Memᴰ.append_right A.edges (subst (Memᴰ d) (sym q) i), k)

      way_reach : (e : Edge) → Memᴰ e (way n s p) → (S : Structure) → (d : S.Carrier) → Leads S S.start (π ++ p) d →
          FactHolds S (reach (path e.2))
      way_reach e m S d k = let (r, q) = way_prefix n s π p h a e m in let (c, x, y) =
          leads_back S S.start (path e.2) r d (subst (λ (z : Path). Leads S S.start z d) (sym q) k) in (c, x)

      pub told_way : Told path (A plus of_edges (way n s p)) (F ++ reach (π ++ p) ∷ [])
      told_way = told_adds path A F (of_edges (way n s p)) (reach (π ++ p) ∷ []) t (record {
        from = way_start (of_edges (way n s p)) refl;
        bearer = λ p m. absurd (Memᴰ.not-nil m);
        sharers = λ p m. absurd (Memᴰ.not-nil m);
        next = way_next n s π p h a;
        reach_in = λ e m S ((d, k), u). way_reach e m S d k;
        bears_in = λ p m. absurd (Memᴰ.not-nil m);
        shares_in = λ p m. absurd (Memᴰ.not-nil m);
        reach_from = λ q m. let e : reach q ≡ reach (π ++ p) = Memᴰ.eq_of_singleton m in let x : π ++ p ≡ q = cc in
            (way_end n s p, way_there (of_edges (way n s p)) refl, way_last n s π p h a ∙ x);
        bears_from = λ q b m. let e : bears q b ≡ reach (π ++ p) = Memᴰ.eq_of_singleton m in let z : ◌≡◌ {A = ℕ} 0 1 = cc in
            absurd (omega arith);
        shares_from = λ q r m. let e : share q r ≡ reach (π ++ p) = Memᴰ.eq_of_singleton m in let z : ◌≡◌ {A = ℕ} 0 1 = cc in
            absurd (omega arith);
      })

      abbrev Shared : ℕ → Sheet
      Shared x = of_tie (way n s p) x (way_end n s p)

      pub told_share : (x : ℕ) (ρ : Path) → On A x → path x ≡ ρ → Told path (A plus Shared x) (F ++ share ρ (π ++ p) ∷ [])
      told_share x ρ ox hx = told_adds path A F (Shared x) (share ρ (π ++ p) ∷ []) t (record {
        from = way_start (Shared x) refl;
        bearer = λ p m. absurd (Memᴰ.not-nil m);
        sharers = λ q m. let e : ◌≡◌ {A = Pair} q (x, way_end n s p) = Memᴰ.eq_of_singleton m in (
          subst (On (A plus Shared x)) (sym (ap (λ (z : Pair). z.0) e)) (on_left path A (Shared x) x ox),
          subst (On (A plus Shared x)) (sym (ap (λ (z : Pair). z.1) e)) (way_there (Shared x) refl),
        );
        next = way_next n s π p h a;
        reach_in = λ e m S ((d, k, j), u). way_reach e m S d j;
        bears_in = λ p m. absurd (Memᴰ.not-nil m);
        shares_in = λ q m. let e : ◌≡◌ {A = Pair} q (x, way_end n s p) = Memᴰ.eq_of_singleton m in
            Memᴰ.head (ap {B = Fact} (λ (z : Pair). share (path z.0) (path z.1)) e
            ∙ ap {B = Fact} (λ (z : Path). share z (path (way_end n s p))) hx ∙ ap {B = Fact} (share ρ) (way_last n s π p h a));
        reach_from = λ q m. let e : reach q ≡ share ρ (π ++ p) = Memᴰ.eq_of_singleton m in let z : ◌≡◌ {A = ℕ} 0 1 = cc in
            absurd (omega arith);
        bears_from = λ q b m. let e : bears q b ≡ share ρ (π ++ p) = Memᴰ.eq_of_singleton m in let z : ◌≡◌ {A = ℕ} 0 1 = cc in
            absurd (omega arith);
        shares_from = λ q r m. let e : share q r ≡ share ρ (π ++ p) = Memᴰ.eq_of_singleton m in let y : ρ ≡ q = cc in
            let z : π ++ p ≡ r = cc in (x, way_end n s p, Memᴰ.head refl, hx ∙ y, way_last n s π p h a ∙ z);
      })

  tied_told : (n s e : ℕ) (π ρ : Path) (ps : List Path) (A : Sheet) (F : List Fact) → Told path A F → On A s → On A e → path s ≡ π →
      path e ≡ ρ → s < n → Agrees n (prefixes_all π ps) → Told path (A plus tied n s e ps) (F ++ shares π ρ ps)
  tied_told n s e π ρ [] A F t o u h k l a = told_both path A F blank_sheet [] t (told_blank path t.path_root)
  tied_told n s e π ρ (q ∷ ps) A F t o u h k l a =
      let (x, y) = agrees_split n (prefixes π q) (prefixes_all π ps) a in
      let B : Sheet = of_tie (way n s q) e (way_end n s q) in
      let y' : Agrees (n + length q) (prefixes_all π ps) = subst (λ (z : ℕ). Agrees (n + z) (prefixes_all π ps)) (prefixes_length π q) y in
      shift A B (tied (n + length q) s e ps) F (share ρ (π ++ q) ∷ []) (shares π ρ ps)
      (tied_told (n + length q) s e π ρ ps (A plus B) (F ++ share ρ (π ++ q) ∷ []) (told_share A F t s o π h n q l x e ρ u k)
      (on_left path A B s o) (on_left path A B e u) h k (omega arith) y')

  mutual
    pub sheet_told : (n s : ℕ) (π : Path) (φ : Formula) (A : Sheet) (F : List Fact) → Told path A F → On A s → path s ≡ π → s < n →
        Agrees n (paths π φ) → Told path (A plus sheet n s φ) (F ++ facts π φ)
    sheet_told n s π nil A F t o h l a = told_both path A F blank_sheet [] t (told_blank path t.path_root)
    sheet_told n s π top A F t o h l a = shift A (of_atom s 0) (of_atom s 1) F (bears π 0 ∷ []) (bears π 1 ∷ [])
        (told_atom (A plus of_atom s 0) (F ++ bears π 0 ∷ []) (told_atom A F t s o π h 0) s (on_left path A (of_atom s 0) s o) π h 1)
    sheet_told n s π (atom b) A F t o h l a = told_atom A F t s o π h b
    sheet_told n s π (at f φ) A F t o h l a =
        let B : Sheet = of_edges ((s, f, n) ∷ []) in
        shift A B (sheet (suc n) n φ) F (reach (π ++ f ∷ []) ∷ []) (facts (π ++ f ∷ []) φ)
        (sheet_told (suc n) n (π ++ f ∷ []) φ (A plus B) (F ++ reach (π ++ f ∷ []) ∷ []) (told_way A F t s o π h n (f ∷ []) l (a.0, tt))
        (way_there A F t s o π h n (f ∷ []) l (a.0, tt) B refl) a.0 (omega arith) a.1)
    sheet_told n s π (same p ps) A F t o h l a =
        let (x, y) = agrees_split n (prefixes π p) (prefixes_all π ps) a in
        let B : Sheet = of_edges (way n s p) in
        let y' : Agrees (n + length p) (prefixes_all π ps) =
        subst (λ (z : ℕ). Agrees (n + z) (prefixes_all π ps)) (prefixes_length π p) y in
        shift A B (tied (n + length p) s (way_end n s p) ps) F (reach (π ++ p) ∷ []) (shares π (π ++ p) ps)
        (tied_told (n + length p) s (way_end n s p) π (π ++ p) ps (A plus B) (F ++ reach (π ++ p) ∷ []) (told_way A F t s o π h n p l x)
        (on_left path A B s o) (way_there A F t s o π h n p l x B refl) h (way_last n s π p h x) (omega arith) y')
    sheet_told n s π (all φ φs) A F t o h l a =
        let (x, y) = agrees_split n (paths π φ) (paths_all π φs) a in
        let y' : Agrees (n + count φ) (paths_all π φs) = subst (λ (z : ℕ). Agrees (n + z) (paths_all π φs)) (paths_length π φ) y in
        shift A (sheet n s φ) (sheets (n + count φ) s φs) F (facts π φ) (facts_all π φs)
        (sheets_told (n + count φ) s π φs (A plus sheet n s φ) (F ++ facts π φ) (sheet_told n s π φ A F t o h l x)
        (on_left path A (sheet n s φ) s o) h (omega arith) y')
    sheet_told n s π (any φ φs) A F t o h l a = told_both path A F blank_sheet [] t (told_blank path t.path_root)

    sheets_told : (n s : ℕ) (π : Path) (φs : Formulas) (A : Sheet) (F : List Fact) → Told path A F → On A s → path s ≡ π → s < n →
        Agrees n (paths_all π φs) → Told path (A plus sheets n s φs) (F ++ facts_all π φs)
    sheets_told n s π (one φ) A F t o h l a = sheet_told n s π φ A F t o h l a
    sheets_told n s π (φ also φs) A F t o h l a =
        let (x, y) = agrees_split n (paths π φ) (paths_all π φs) a in
        let y' : Agrees (n + count φ) (paths_all π φs) = subst (λ (z : ℕ). Agrees (n + z) (paths_all π φs)) (paths_length π φ) y in
        shift A (sheet n s φ) (sheets (n + count φ) s φs) F (facts π φ) (facts_all π φs)
        (sheets_told (n + count φ) s π φs (A plus sheet n s φ) (F ++ facts π φ) (sheet_told n s π φ A F t o h l x)
        (on_left path A (sheet n s φ) s o) h (omega arith) y')
