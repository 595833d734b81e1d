-- Folding numbers comes to the same as folding sheets.
-- Assumes nothing.
use mathlib.Core.Path.{◌≡◌, refl, ap, ap₂, sym, ◌∙◌, subst}
use mathlib.Core.Logic.{⊎_elim}
use mathlib.Core.Option.{Option, none, some}
use mathlib.Core.List.Memᴰ
use mathlib.Core.List.{List, [], ◌∷◌, ◌++◌, Memᴰ}
use Prim.Native.Nat.{ℕ, suc, ◌+◌}
use native.Mathlib.Omega.{arith}
use Rattle.theory.specs.Net.{Graph}
use Rattle.theory.specs.Join.{Edge}
use Rattle.theory.specs.Descr.{Desc, desc, Disjs, end, ◌and◌, Alts, ◌or◌, ◌then◌}
use Rattle.formulas.specs.Formula.{Formula}
use Rattle.formulas.specs.Describe.{describe}
use Rattle.formulas.specs.Sheet.{Sheet, Sound, blank_sheet, ◌plus◌, of_edges, Laid, laid, Rows, over, ◌besides◌, Cells, gone}
use Rattle.formulas.specs.Sheet.{◌against◌, laid_out, sheet_graph, SheetPiece, piece_alts, as_piece, Share, won, piece_closed}
use Rattle.formulas.specs.Sheet.{piece_before, assemble, assemble_all, assemble_left}
use Rattle.formulas.specs.Flat.{Item, given_to, wide, wide_cells, flattened, Named, NamedRows, NamedCells}
use Rattle.formulas.specs.Homes.{all_picked, Home, home_alts, as_home, HandedOver, handed_over, home_closed, home_before, house}
use Rattle.formulas.specs.Homes.{house_all, house_left}
use Rattle.formulas.specs.Tables.{Tables, Lies, LiesRows, LiesCells, SoundLaid, SoundRows, SoundCells}
use Rattle.formulas.proofs.Order.{Within, sheet_order, sound_both, laid_sound, on_within}
use Rattle.formulas.proofs.Assemble.{describe_assemble}
use Rattle.formulas.proofs.Flat.{laid_named}

-- rows of sheets
within_self : (A : Sheet) → Within A A
within_self A = record { edges = λ e m. m; atoms = λ p m. m; ties = λ p m. m }

within_on : (A B C : Sheet) → Within A B → Within B C → Within A C
within_on A B C v w =
    record { edges = λ e m. w.edges e (v.edges e m); atoms = λ p m. w.atoms p (v.atoms p m); ties = λ p m. w.ties p (v.ties p m) }

within_left : (A B : Sheet) → Within A (A plus B)
within_left A B = record {
  edges = λ e m. Memᴰ.append_left B.edges m;
  atoms = λ p m. Memᴰ.append_left B.atoms m;
  ties =
      λ p m. Memᴰ.append_left B.ties m;
}

within_right : (A B : Sheet) → Within B (A plus B)
within_right A B = record {
  edges = λ e m. Memᴰ.append_right A.edges m;
  atoms = λ p m. Memᴰ.append_right A.atoms m;
  ties =
      λ p m. Memᴰ.append_right A.ties m;
}

within_both : (A B C : Sheet) → Within A C → Within B C → Within (A plus B) C
within_both A B C v w = record {
  edges = λ e m. ⊎_elim (v.edges e) (w.edges e) (Memᴰ.append_cases A.edges m);
  atoms = λ p m. ⊎_elim (v.atoms p) (w.atoms p) (Memᴰ.append_cases A.atoms m);
  ties = λ p m. ⊎_elim (v.ties p) (w.ties p) (Memᴰ.append_cases A.ties m);
}

within_edges : (es : List Edge) (A : Sheet) → ((e : Edge) → Memᴰ e es → Memᴰ e A.edges) → Within (of_edges es) A
within_edges es A h = record { edges = h; atoms = λ p m. absurd (Memᴰ.not-nil m); ties = λ p m. absurd (Memᴰ.not-nil m) }

pub sound_same : (A B : Sheet) → Sound A → Within A B → Within B A → Sound B
sound_same A B u v w = record {
  from = λ e m. let (o, l) = u.from e (w.edges e m) in (on_within A B v e.0 o, l);
  bearer = λ p m. on_within A B v p.0 (u.bearer p (w.atoms p m));
  sharers = λ p m. let (x, y) = u.sharers p (w.ties p m) in (on_within A B v p.0 x, on_within A B v p.1 y);
}

sound_blank : Sound blank_sheet
sound_blank = record {
  from = λ e m. absurd (Memᴰ.not-nil m);
  bearer = λ p m. absurd (Memᴰ.not-nil m);
  sharers =
      λ p m. absurd (Memᴰ.not-nil m);
}

module _ (L : List Item) where
  picked_both : (J K : List ℕ) → Within (all_picked (J ++ K) L) (all_picked J L plus all_picked K L)
  picked_both [] K = within_self (all_picked K L)
  picked_both (j ∷ J) K = within_both (given_to j L) (all_picked (J ++ K) L) (all_picked (j ∷ J) L plus all_picked K L)
      (within_on (given_to j L) (all_picked (j ∷ J) L) (all_picked (j ∷ J) L plus all_picked K L)
      (within_left (given_to j L) (all_picked J L)) (within_left (all_picked (j ∷ J) L) (all_picked K L)))
      (within_on (all_picked (J ++ K) L) (all_picked J L plus all_picked K L) (all_picked (j ∷ J) L plus all_picked K L) (picked_both J K)
      (within_both (all_picked J L) (all_picked K L) (all_picked (j ∷ J) L plus all_picked K L)
      (within_on (all_picked J L) (all_picked (j ∷ J) L) (all_picked (j ∷ J) L plus all_picked K L)
      (within_right (given_to j L) (all_picked J L)) (within_left (all_picked (j ∷ J) L) (all_picked K L)))
      (within_right (all_picked (j ∷ J) L) (all_picked K L))))

  picked_left : (J K : List ℕ) → Within (all_picked J L) (all_picked (J ++ K) L)
  picked_left [] K = within_edges [] (all_picked K L) (λ e m. absurd (Memᴰ.not-nil m))
  picked_left (j ∷ J) K =
      within_both (given_to j L) (all_picked J L) (all_picked (j ∷ J ++ K) L) (within_left (given_to j L) (all_picked (J ++ K) L))
      (within_on (all_picked J L) (all_picked (J ++ K) L) (all_picked (j ∷ J ++ K) L) (picked_left J K)
      (within_right (given_to j L) (all_picked (J ++ K) L)))

  picked_right : (J K : List ℕ) → Within (all_picked K L) (all_picked (J ++ K) L)
  picked_right [] K = within_self (all_picked K L)
  picked_right (j ∷ J) K =
      within_on (all_picked K L) (all_picked (J ++ K) L) (all_picked (j ∷ J ++ K) L) (picked_right J K)
      (within_right (given_to j L) (all_picked (J ++ K) L))

  -- a sheet that stands in O is the rows of these numbers, and arcs that O has
  record RowsOf (O A : Sheet) (J : List ℕ) : Type 0 where
    sound : Sound A
    inside : Within A (of_edges O.edges plus all_picked J L)
    back : Within (all_picked J L) A

  record SamePart (O : Sheet) (y : SheetPiece) (x : Home) : Type 0 where
    graph : y.graph ≡ x.graph
    rest : y.rest ≡ x.rest
    rows : RowsOf O y.own x.names

  data Match (O : Sheet) : Option SheetPiece → Option Home → Type 0 where
    clash : Match O none none
    match : (y : SheetPiece) (x : Home) → SamePart O y x → Match O (some y) (some x)

  record SameGain (O : Sheet) (h : Share) (g : HandedOver) : Type 0 where
    rest : h.left ≡ g.left
    rows : RowsOf O h.given g.names

  data Gains (O : Sheet) : Option Share → Option HandedOver → Type 0 where
    clash : Gains O none none
    gain : (h : Share) (g : HandedOver) → SameGain O h g → Gains O (some h) (some g)

  abbrev SameAll : Sheet → List SheetPiece → List Home → Type 0
  SameAll O [] [] = Unit {0}
  SameAll O [] (x ∷ l) = ⊥
  SameAll O (y ∷ k) [] = ⊥
  SameAll O (y ∷ k) (x ∷ l) = SamePart O y x × SameAll O k l

  alts_same : (O : Sheet) (k : List SheetPiece) (l : List Home) → SameAll O k l → piece_alts k ≡ home_alts l
  alts_same O [] [] p = refl
  alts_same O [] (x ∷ l) p = absurd p
  alts_same O (y ∷ k) [] p = absurd p
  alts_same O (y ∷ k) (x ∷ l) p = ap₂ {C = Alts} ◌or◌ (ap₂ {C = Desc} desc p.0.graph p.0.rest) (alts_same O k l p.1)

  rows_both : (O A B : Sheet) (J K : List ℕ) → RowsOf O A J → RowsOf O B K → RowsOf O (A plus B) (J ++ K)
  rows_both O A B J K u w =
      let E : Sheet = of_edges O.edges in
      let P : Sheet = all_picked (J ++ K) L in record {
        sound = sound_both A B u.sound w.sound;
        inside = within_both A B (E plus P)
            (within_on A (E plus all_picked J L) (E plus P) u.inside
            (within_both E (all_picked J L) (E plus P) (within_left E P)
            (within_on (all_picked J L) P (E plus P) (picked_left J K) (within_right E P))))
            (within_on B (E plus all_picked K L) (E plus P) w.inside
            (within_both E (all_picked K L) (E plus P) (within_left E P)
            (within_on (all_picked K L) P (E plus P) (picked_right J K) (within_right E P))));
        back = within_on P (all_picked J L plus all_picked K L) (A plus B) (picked_both J K)
            (within_both (all_picked J L) (all_picked K L) (A plus B) (within_on (all_picked J L) A (A plus B) u.back (within_left A B))
            (within_on (all_picked K L) B (A plus B) w.back (within_right A B)));
      }

  moved_same : (O : Sheet) (k : List SheetPiece) (l : List Home) (h : Share) (g : HandedOver) → SameAll O k l → SameGain O h g →
      Gains O (won k h) (handed_over l g)
  moved_same O [] [] h g p s = clash
  moved_same O [] (x ∷ l) h g p s = absurd p
  moved_same O (y ∷ k) [] h g p s = absurd p
  moved_same O (y ∷ []) (x ∷ []) h g p s =
      gain (record { given = y.own plus h.given; left = y.rest then h.left })
      (record { names = x.names ++ g.names; left = x.rest then g.left })
      (record {
        rest = ap₂ {C = Disjs} ◌then◌ p.0.rest s.rest;
        rows =
            rows_both O y.own h.given x.names g.names p.0.rows s.rows;
      })
  moved_same O (y ∷ []) (x ∷ (x' ∷ l)) h g p s = absurd p.1
  moved_same O (y ∷ (y' ∷ k)) (x ∷ []) h g p s = absurd p.1
  moved_same O (y ∷ (y' ∷ k)) (x ∷ (x' ∷ l)) h g p s =
      gain (record { given = h.given; left = piece_alts (y ∷ y' ∷ k) and h.left })
      (record { names = g.names; left = home_alts (x ∷ x' ∷ l) and g.left })
      (record { rest = ap₂ {C = Disjs} ◌and◌ (alts_same O (y ∷ y' ∷ k) (x ∷ x' ∷ l) p) s.rest; rows = s.rows })

  -- the sheet of a description with what is folded into it
  module _ (A : Sheet) (u : Sound A) (h : Share) (g : HandedOver) (s : SameGain A h g) where
    abbrev By : Sheet
    By = A plus h.given

    abbrev Of : Sheet
    Of = A plus all_picked g.names L

    to : Within By Of
    to = within_both A h.given Of (within_left A (all_picked g.names L))
        (within_on h.given (of_edges A.edges plus all_picked g.names L) Of s.rows.inside
        (within_both (of_edges A.edges) (all_picked g.names L) Of
        (within_edges A.edges Of (λ e m. Memᴰ.append_left (all_picked g.names L).edges m))
        (within_right A (all_picked g.names L))))

    fro : Within Of By
    fro = within_both A (all_picked g.names L) By (within_left A h.given)
        (within_on (all_picked g.names L) h.given By s.rows.back (within_right A h.given))

    sound_by : Sound By
    sound_by = sound_both A h.given u s.rows.sound

    graph_is : sheet_graph By ≡ sheet_graph Of
    graph_is = sheet_order By Of sound_by (sound_same By Of sound_by to fro) to fro

    -- seen from the description O in which it stands
    module _ (O : Sheet) (es : List Edge) (k : ℕ) (e : A ≡ of_edges es plus given_to k L)
        (i : (d : Edge) → Memᴰ d es → Memᴰ d O.edges) where
      abbrev J : List ℕ
      J = k ∷ g.names

      abbrev Out : Sheet
      Out = of_edges O.edges plus all_picked J L

      own_in : Within (of_edges es plus given_to k L) Out
      own_in = within_both (of_edges es) (given_to k L) Out (within_edges es Out (λ d m. Memᴰ.append_left (all_picked J L).edges (i d m)))
          (within_on (given_to k L) (all_picked J L) Out (within_left (given_to k L) (all_picked g.names L))
          (within_right (of_edges O.edges) (all_picked J L)))

      seen : RowsOf O By J
      seen = record {
        sound = sound_by;
        inside = within_on By Of Out to (within_both A (all_picked g.names L) Out (subst (λ (z : Sheet). Within z Out) (sym e) own_in)
            (within_on (all_picked g.names L) (all_picked J L) Out (within_right (given_to k L) (all_picked g.names L))
            (within_right (of_edges O.edges) (all_picked J L))));
        back = within_on (all_picked J L) Of By (within_both (given_to k L) (all_picked g.names L) Of
            (within_on (given_to k L) A Of
            (subst (λ (z : Sheet). Within (given_to k L) z) (sym e) (within_right (of_edges es) (given_to k L)))
            (within_left A (all_picked g.names L)))
            (within_right A (all_picked g.names L))) fro;
      }

      closed_same : Match O (piece_closed By h.left (sheet_graph By)) (home_closed J g.left (sheet_graph Of))
      closed_same = rw graph_is (go (sheet_graph Of))
        where
          go : (o : Option Graph) → Match O (piece_closed By h.left o) (home_closed J g.left o)
          go none = clash
          go (some G) = match (record { own = By; graph = G; rest = h.left }) (record { names = J; graph = G; rest = g.left })
              (record { graph = refl; rest = s.rest; rows = seen })

  put_same : (O : Sheet) (o : Option SheetPiece) (q : Option Home) (k : List SheetPiece) (l : List Home) → Match O o q → SameAll O k l →
      SameAll O (piece_before o k) (home_before q l)
  put_same O none none k l clash p = p
  put_same O (some u) (some v) k l (match y x s) p = (s, p)
  put_same O none (some v) k l x4 p = elim x4 [ ]
  put_same O (some u) none k l x4 p = elim x4 [ ]

  blank_rows : (O : Sheet) → RowsOf O blank_sheet []
  blank_rows O = record {
    sound = sound_blank;
    inside = within_edges [] (of_edges O.edges plus blank_sheet) (λ e m. absurd (Memᴰ.not-nil m));
    back =
        within_self blank_sheet;
  }

  mutual
    unfolding assemble house

    house_same : (l : Laid) (O : Sheet) (es : List Edge) (k : ℕ) → ((d : Edge) → Memᴰ d es → Memᴰ d O.edges) → Named L k es l →
        SoundLaid l → Match O (assemble l) (house L k l)
    house_same (laid A ds) O es k i p u = go (assemble_all ds) (house_all L (suc k) ds) (house_all_same ds A (suc k) p.1 u.1)
      where
        go : (o : Option Share) (q : Option HandedOver) → Gains A o q →
            Match O (elim o [ none ↦ none | some h ↦ piece_closed (A plus h.given) h.left (sheet_graph (A plus h.given)) ])
            (elim q [ none ↦ none | some g ↦ home_closed (k ∷ g.names) g.left (sheet_graph (A plus all_picked g.names L)) ])
        go none none clash = clash
        go (some x) (some y) (gain h g s) = closed_same A u.0 h g s O es k p.0 i
        go none (some y) x9 = elim x9 [ ]
        go (some x) none x11 = elim x11 [ ]

    house_all_same : (ds : Rows) (O : Sheet) (k : ℕ) → NamedRows L k O ds → SoundRows ds → Gains O (assemble_all ds) (house_all L k ds)
    house_all_same over O k p u =
        gain (record { given = blank_sheet; left = end }) (record { names = []; left = end }) (record { rest = refl; rows = blank_rows O })
    house_all_same (a besides ds) O k p u =
        go (assemble_all ds) (house_all L (k + wide_cells a) ds) (house_all_same ds O (k + wide_cells a) p.1 u.1)
        (house_left_same a O k p.0 u.0)
      where
        go : (o : Option Share) (q : Option HandedOver) → Gains O o q → SameAll O (assemble_left a) (house_left L k a) →
            Gains O (elim o [ none ↦ none | some h ↦ won (assemble_left a) h ])
            (elim q [ none ↦ none | some g ↦ handed_over (house_left L k a) g ])
        go none none clash r = clash
        go (some x) (some y) (gain h g s) r = moved_same O (assemble_left a) (house_left L k a) h g r s
        go none (some y) x11 r = elim x11 [ ]
        go (some x) none x12 r = elim x12 [ ]

    house_left_same : (a : Cells) (O : Sheet) (k : ℕ) → NamedCells L k O a → SoundCells a → SameAll O (assemble_left a) (house_left L k a)
    house_left_same gone O k p u = tt
    house_left_same (d against a) O k p u = put_same O (assemble d) (house L k d) (assemble_left a) (house_left L (suc k + wide d) a)
        (house_same d O p.0.0 k p.0.1 p.0.2 u.0) (house_left_same a O (suc k + wide d) p.1 u.1)

  -- the sheet of a description with what is folded into it is sound
  pub house_sound : (ds : Rows) (A : Sheet) (k : ℕ) (g : HandedOver) → NamedRows L k A ds → SoundRows ds → Sound A →
      house_all L k ds ≡ some g → Sound (A plus all_picked g.names L)
  house_sound ds A k g n s u e = go (assemble_all ds) (house_all L k ds) (house_all_same ds A k n s) e
    where
      go : (o : Option Share) (q : Option HandedOver) → Gains A o q → q ≡ some g → Sound (A plus all_picked g.names L)
      go none none clash i = let z : ◌≡◌ {A = ℕ} 0 1 = cc in absurd (omega arith)
      go (some x) (some y) (gain h f r) i = let j : f ≡ g = cc in
          subst (λ (v : HandedOver). Sound (A plus all_picked v.names L)) j
          (sound_same (By A u h f r) (Of A u h f r) (sound_by A u h f r) (to A u h f r) (fro A u h f r))
      go none (some y) x4 i = elim x4 [ ]
      go (some x) none x5 i = elim x5 [ ]

  match_desc : (O : Sheet) (o : Option SheetPiece) (q : Option Home) → Match O o q → as_piece o ≡ as_home q
  match_desc O none none clash = refl
  match_desc O (some u) (some v) (match y x s) = ap {B = Option Desc} some (ap₂ {C = Desc} desc s.graph s.rest)
  match_desc O none (some v) x'' = elim x'' [ ]
  match_desc O (some u) none x3 = elim x3 [ ]

-- what lies in tables is named
module _ (T : Tables) (L : List Item) where
  mutual
    lies_named : (d : Laid) (k : ℕ) (O : Sheet) → Lies T L k O d →
        (es : List Edge) × ((e : Edge) → Memᴰ e es → Memᴰ e O.edges) × Named L k es d
    lies_named (laid A ds) k O p = (p.0.0, p.0.3, (p.0.2, rows_named ds (suc k) 0 A (T.last k) p.1))

    pub rows_named : (ds : Rows) (k z : ℕ) (O : Sheet) (c : ℕ) → LiesRows T L k z O ds c → NamedRows L k O ds
    rows_named over k z O c p = tt
    rows_named (a besides ds) k z O c p = (cells_named a k k z O p.0 p.2, rows_named ds (k + wide_cells a) p.0 O c p.3)

    cells_named : (a : Cells) (g k z : ℕ) (O : Sheet) (c : ℕ) → LiesCells T L g k z O a c → NamedCells L k O a
    cells_named gone g k z O c p = tt
    cells_named (d against a) g k z O c p = (lies_named d k O p.2, cells_named a g (suc k + wide d) k O c p.3)

pub describe_house : (φ : Formula) → describe φ ≡ as_home (house (flattened φ) 0 (laid_out φ))
describe_house φ = describe_assemble φ
    ∙ match_desc (flattened φ) blank_sheet (assemble (laid_out φ)) (house (flattened φ) 0 (laid_out φ))
    (house_same (flattened φ) (laid_out φ) blank_sheet [] 0 (λ d m. absurd (Memᴰ.not-nil m)) (laid_named φ) (laid_sound φ))
