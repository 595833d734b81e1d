-- The draft of a formula by spots tells, part by part, what its draft by facts tells.
-- Assumes nothing.
use mathlib.Core.Path.{◌≡◌, refl, subst}
use mathlib.Core.Logic.{inl, ⊎_elim}
use mathlib.Core.List.Memᴰ
use mathlib.Core.List.{List, [], ◌∷◌, ◌++◌}
use Prim.Native.Nat.{ℕ, suc, ◌+◌, ◌<◌}
use native.Mathlib.Omega.{arith}
use Rattle.theory.specs.Join.{Edge}
use Rattle.theory.specs.Structure.{Structure}
use Rattle.formulas.specs.Formula.{Path, Formula, nil, top, atom, at, same, all, any, Formulas, one, ◌also◌}
use Rattle.formulas.specs.Part.{Fact, reach, bears, share}
use Rattle.formulas.specs.Draft.{Draft, draft, Splits, done, ◌beside◌, Sides, out, ◌versus◌, ◌then◌, facts, splits, splits_all, sides}
use Rattle.formulas.specs.Draft.{drafted}
use Rattle.formulas.specs.Sheet.{Sheet, blank_sheet, ◌plus◌, of_edges, count, sheet, Laid, laid, Rows, over, ◌besides◌, Cells, gone}
use Rattle.formulas.specs.Sheet.{◌against◌, ◌next◌, lay, lay_all, cells, laid_out, paths, paths_all}
use Rattle.formulas.proofs.Walks.{leads_back}
use Rattle.formulas.proofs.Facts.{FactHolds, FactsHold}
use Rattle.formulas.proofs.Told.{On, Told, told_blank}
use Rattle.formulas.proofs.Sheets.{Agrees, agrees_split, paths_length, told_way, way_there, sheet_told}

-- no two such
pub data Never : Type 1 where
  never : ⊥ → Never

module _ (path : ℕ → Path) where
  -- a draft by facts and one by spots
  abbrev mutual
    pub Like : Draft → Laid → Type 1
    Like (draft F ds) (laid A es) = Told path A F × LikeAll ds es

    pub LikeAll : Splits → Rows → Type 1
    LikeAll done over = Unit {1}
    LikeAll done (a besides es) = Never
    LikeAll (a beside ds) over = Never
    LikeAll (a beside ds) (b besides es) = LikeAny a b × LikeAll ds es

    pub LikeAny : Sides → Cells → Type 1
    LikeAny out gone = Unit {1}
    LikeAny out (e against b) = Never
    LikeAny (d versus a) gone = Never
    LikeAny (d versus a) (e against b) = Like d e × LikeAny a b

  like_then : (ds es : Splits) (ds' es' : Rows) → LikeAll ds ds' → LikeAll es es' → LikeAll (ds then es) (ds' next es')
  like_then done es over es' p q = q
  like_then done es (a besides ds') es' (never x) q = absurd x
  like_then (a beside ds) es over es' (never x) q = absurd x
  like_then (a beside ds) es (b besides ds') es' p q = (p.0, like_then ds es ds' es' p.1 q)

  -- a fact that the others imply can go
  told_drop : (A : Sheet) (π : Path) (F : List Fact) → ((S : Structure) → FactsHold S F → FactHolds S (reach π)) →
      Told path A (reach π ∷ F) → Told path A F
  told_drop A π F h t = record {
    path_root = t.path_root;
    from = t.from;
    bearer = t.bearer;
    sharers = t.sharers;
    next = t.next;
    reach_in = λ e m S p. t.reach_in e m S (h S p, p);
    bears_in = λ p m. ⊎_elim (λ (e : bears (path p.0) p.1 ≡ reach π). let z : ◌≡◌ {A = ℕ} 0 1 = cc in absurd (omega arith)) (λ i. i)
        (Memᴰ.cases_cons (t.bears_in p m));
    shares_in = λ p m. ⊎_elim (λ (e : share (path p.0) (path p.1) ≡ reach π). let z : ◌≡◌ {A = ℕ} 0 1 = cc in absurd (omega arith))
        (λ i. i) (Memᴰ.cases_cons (t.shares_in p m));
    reach_from = λ q m. t.reach_from q (Memᴰ.tail m);
    bears_from = λ q a m. t.bears_from q a (Memᴰ.tail m);
    shares_from = λ q r m. t.shares_from q r (Memᴰ.tail m);
  }

  -- the arcs from the root to s
  record Trail (es : List Edge) (s : ℕ) (π : Path) (n : ℕ) : Type 1 where
    told : Told path (of_edges es) (reach π ∷ [])
    on : On (of_edges es) s
    is : path s ≡ π
    low : s < n

  trail_next : (es : List Edge) (s : ℕ) (π : Path) (n f : ℕ) → Trail es s π n → path n ≡ π ++ f ∷ [] →
      Trail (es ++ (s, f, n) ∷ []) n (π ++ f ∷ []) (suc n)
  trail_next es s π n f t e = record {
    told = told_drop (of_edges (es ++ (s, f, n) ∷ [])) π (reach (π ++ f ∷ []) ∷ [])
        (λ S ((d, l), u). let (c, a, b) = leads_back S S.start π (f ∷ []) d l in (c, a))
        (told_way path (of_edges es) (reach π ∷ []) t.told s t.on π t.is n (f ∷ []) t.low (e, tt));
    on = way_there path (of_edges es) (reach π ∷ []) t.told s t.on π t.is n (f ∷ []) t.low (e, tt)
        (of_edges ((s, f, n) ∷ [])) refl;
    is = e;
    low = omega arith;
  }

  trail_later : (es : List Edge) (s : ℕ) (π : Path) (n k : ℕ) → Trail es s π n → Trail es s π (n + k)
  trail_later es s π n k t = let l = t.low in record { told = t.told; on = t.on; is = t.is; low = omega (arith, l) }

  later : (n : ℕ) (π : Path) (φ : Formula) (φs : Formulas) → Agrees path n (paths π φ ++ paths_all π φs) →
      Agrees path n (paths π φ) × Agrees path (n + count φ) (paths_all π φs)
  later n π φ φs a = let (x, y) = agrees_split path n (paths π φ) (paths_all π φs) a in
      (x, subst (λ (z : ℕ). Agrees path (n + z) (paths_all π φs)) (paths_length π φ) y)

  side_told : (n s : ℕ) (es : List Edge) (π : Path) (φ : Formula) → Trail es s π n → Agrees path n (paths π φ) →
      Told path (of_edges es plus sheet n s φ) (reach π ∷ facts π φ)
  side_told n s es π φ t a = sheet_told path n s π φ (of_edges es) (reach π ∷ []) t.told t.on t.is t.low a

  mutual
    lay_like : (n s : ℕ) (es : List Edge) (π : Path) (φ : Formula) → Trail es s π n → Agrees path n (paths π φ) →
        LikeAll (splits π φ) (lay n s es φ)
    lay_like n s es π nil t a = tt
    lay_like n s es π top t a = tt
    lay_like n s es π (atom b) t a = tt
    lay_like n s es π (at f φ) t a = lay_like (suc n) n (es ++ (s, f, n) ∷ []) (π ++ f ∷ []) φ (trail_next es s π n f t a.0) a.1
    lay_like n s es π (same p ps) t a = tt
    lay_like n s es π (all φ φs) t a = let (x, y) = later n π φ φs a in
        like_then (splits π φ) (splits_all π φs) (lay n s es φ) (lay_all (n + count φ) s es φs) (lay_like n s es π φ t x)
        (lay_all_like (n + count φ) s es π φs (trail_later es s π n (count φ) t) y)
    lay_like n s es π (any φ φs) t a = let (x, y) = later n π φ φs a in
        (((side_told n s es π φ t x, lay_like n s es π φ t x), cells_like (n + count φ) s es π φs (trail_later es s π n (count φ) t) y), tt)

    lay_all_like : (n s : ℕ) (es : List Edge) (π : Path) (φs : Formulas) → Trail es s π n → Agrees path n (paths_all π φs) →
        LikeAll (splits_all π φs) (lay_all n s es φs)
    lay_all_like n s es π (one φ) t a = lay_like n s es π φ t a
    lay_all_like n s es π (φ also φs) t a = let (x, y) = later n π φ φs a in
        like_then (splits π φ) (splits_all π φs) (lay n s es φ) (lay_all (n + count φ) s es φs) (lay_like n s es π φ t x)
        (lay_all_like (n + count φ) s es π φs (trail_later es s π n (count φ) t) y)

    cells_like : (n s : ℕ) (es : List Edge) (π : Path) (φs : Formulas) → Trail es s π n → Agrees path n (paths_all π φs) →
        LikeAny (sides π φs) (cells n s es φs)
    cells_like n s es π (one φ) t a = ((side_told n s es π φ t a, lay_like n s es π φ t a), tt)
    cells_like n s es π (φ also φs) t a = let (x, y) = later n π φ φs a in
        ((side_told n s es π φ t x, lay_like n s es π φ t x), cells_like (n + count φ) s es π φs (trail_later es s π n (count φ) t) y)

  pub laid_like : (φ : Formula) → path 0 ≡ [] → Agrees path 1 (paths [] φ) → Like (drafted φ) (laid_out φ)
  laid_like φ e a = (
    sheet_told path 1 0 [] φ blank_sheet [] (told_blank path e) (inl refl) e (omega arith) a,
    lay_like 1 0 [] [] φ
        (record {
          told = told_way path blank_sheet [] (told_blank path e) 0 (inl refl) [] e 1 [] (omega arith) tt;
          on = inl refl;
          is =
              e;
          low = omega arith;
        }) a,
  )
