-- Laws of the last of what lies in tables: of disjunctions, and of the alternatives of one.
-- Assumes nothing.
use Prim.Native.Nat.{ℕ, suc, ◌+◌, ◌-◌, ◌<◌, ◌≤◌}
use native.Mathlib.Omega.{arith}
use mathlib.Core.Path.{◌≡◌, refl, ap, sym, ◌∙◌, subst}
use mathlib.Core.Logic.{◌⊎◌, inl, inr}
use mathlib.Core.List.{List}
use Rattle.formulas.specs.Sheet.{Sheet, Laid, Rows, over, ◌besides◌, ◌next◌, Cells, gone, ◌against◌}
use Rattle.formulas.specs.Flat.{Item, wide, wide_rows, wide_cells}
use Rattle.formulas.specs.Tables.{Tables, Lies, LiesRows, LiesCells, SoundLaid, SoundRows, SoundCells, NestsLaid, NestsRows, NestsCells}
use Rattle.formulas.proofs.Flat.{rows_next}

-- alternatives, and after them others
infixr 6 ◌joined◌
abbrev pub ◌joined◌ : Cells → Cells → Cells
gone joined b = b
(d against a) joined b = d against (a joined b)

pub joined_none : (a : Cells) → a joined gone ≡ a
joined_none gone = refl
joined_none (d against a) = ap {B = Cells} (λ (z : Cells). d against z) (joined_none a)

pub joined_on : (a b c : Cells) → (a joined b) joined c ≡ a joined (b joined c)
joined_on gone b c = refl
joined_on (d against a) b c = ap {B = Cells} (λ (z : Cells). d against z) (joined_on a b c)

pub joined_wide : (a b : Cells) → wide_cells (a joined b) ≡ wide_cells a + wide_cells b
joined_wide gone b = omega arith
joined_wide (d against a) b = let e = joined_wide a b in omega arith

pub sound_middle : (a : Cells) (d : Laid) (b : Cells) → SoundCells (a joined (d against b)) → SoundLaid d
sound_middle gone d b p = p.0
sound_middle (e against a) d b p = sound_middle a d b p.1

pub nests_middle : (a : Cells) (d : Laid) (b : Cells) (left : ℕ) → NestsCells (a joined (d against b)) left → NestsLaid d left
nests_middle gone d b left p = p.0
nests_middle (e against a) d b left p = nests_middle a d b left p.1

-- disjunctions, and after them others
pub next_none : (ds : Rows) → ds next over ≡ ds
next_none over = refl
next_none (a besides ds) = ap {B = Rows} (λ (z : Rows). a besides z) (next_none ds)

pub next_on : (ds es fs : Rows) → (ds next es) next fs ≡ ds next (es next fs)
next_on over es fs = refl
next_on (a besides ds) es fs = ap {B = Rows} (λ (z : Rows). a besides z) (next_on ds es fs)

pub sound_row : (ds : Rows) (a : Cells) (es : Rows) → SoundRows (ds next (a besides es)) → SoundCells a
sound_row over a es p = p.0
sound_row (b besides ds) a es p = sound_row ds a es p.1

pub nests_row : (ds : Rows) (a : Cells) (es : Rows) (left : ℕ) → NestsRows (ds next (a besides es)) left →
    (0 < left) × NestsCells a (left - 1)
nests_row over a es left p = (p.0, p.1)
nests_row (b besides ds) a es left p = nests_row ds a es left p.2

module _ (T : Tables) (L : List Item) (O : Sheet) where
  -- c is the last of the alternatives a, and those before it end in the one before it
  pub record LastCell (g k z : ℕ) (a : Cells) (c : ℕ) : Type 0 where
    pub first : Cells
    pub d : Laid
    pub is : a ≡ first joined (d against gone)
    pub firsts : LiesCells T L g k z O first (T.before c)
    pub place : c ≡ k + wide_cells first
    pub group : T.group c ≡ g
    pub lies : Lies T L c O d

  pub last_cell : (g k z : ℕ) (a : Cells) (c : ℕ) → LiesCells T L g k z O a c → ((a ≡ gone) × (c ≡ z)) ⊎ LastCell g k z a c
  last_cell g k z gone c p = inl (refl, p)
  last_cell g k z (d against gone) c p = inr (record {
    first = gone;
    d = d;
    is = refl;
    firsts = rw p.3 p.0;
    place = p.3 ∙ omega arith;
    group = rw p.3 p.1;
    lies = subst (λ (x : ℕ). Lies T L x O d) (sym p.3) p.2;
  })
  last_cell g k z (d against (e against a)) c p = go (last_cell g (suc k + wide d) k (e against a) c p.3)
    where
      go : (((e against a) ≡ gone) × (c ≡ k)) ⊎ LastCell g (suc k + wide d) k (e against a) c →
          (((d against (e against a)) ≡ gone) × (c ≡ z)) ⊎ LastCell g k z (d against (e against a)) c
      go (inl (q, r)) = let x : wide_cells (e against a) ≡ 0 = ap wide_cells q in absurd (omega arith)
      go (inr w) = let at = w.place in inr (record {
        first = d against w.first;
        d = w.d;
        is = ap {B = Cells} (λ (z : Cells). d against z) w.is;
        firsts = (p.0, p.1, p.2, w.firsts);
        place = omega arith;
        group = w.group;
        lies = w.lies;
      })

  -- some alternatives end in one of them; any end so, or in the one before all of them
  cell_in : (g k z : ℕ) (a : Cells) (c : ℕ) → LastCell g k z a c → (k ≤ c) × (c < k + wide_cells a) × (T.group c ≡ g)
  cell_in g k z a c w =
      let at = w.place in
      let size : wide_cells a ≡ wide_cells w.first + (suc (wide w.d) + 0) =
      ap wide_cells w.is ∙ joined_wide w.first (w.d against gone) in
      (omega arith, omega arith, w.group)

  pub cell_end : (g k z : ℕ) (a : Cells) (c : ℕ) → 0 < wide_cells a → LiesCells T L g k z O a c →
      (k ≤ c) × (c < k + wide_cells a) × (T.group c ≡ g)
  cell_end g k z a c s p = go (last_cell g k z a c p)
    where
      go : ((a ≡ gone) × (c ≡ z)) ⊎ LastCell g k z a c → (k ≤ c) × (c < k + wide_cells a) × (T.group c ≡ g)
      go (inl (q, e)) = let x : wide_cells a ≡ 0 = ap wide_cells q in absurd (omega arith)
      go (inr w) = cell_in g k z a c w

  pub cell_place : (g k z : ℕ) (a : Cells) (c : ℕ) → LiesCells T L g k z O a c →
      (c ≡ z) ⊎ ((k ≤ c) × (c < k + wide_cells a) × (T.group c ≡ g))
  cell_place g k z a c p = go (last_cell g k z a c p)
    where
      go : ((a ≡ gone) × (c ≡ z)) ⊎ LastCell g k z a c → (c ≡ z) ⊎ ((k ≤ c) × (c < k + wide_cells a) × (T.group c ≡ g))
      go (inl (q, e)) = inl e
      go (inr w) = inr (cell_in g k z a c w)

  -- the last of the disjunctions ds, which ends in c
  pub record LastRow (k z : ℕ) (ds : Rows) (c : ℕ) : Type 0 where
    pub first : Rows
    pub a : Cells
    pub g : ℕ
    pub y : ℕ
    pub is : ds ≡ first next (a besides over)
    pub firsts : LiesRows T L k z O first y
    pub place : g ≡ k + wide_rows first
    pub some_left : 0 < wide_cells a
    pub lies : LiesCells T L g g y O a c

  pub last_row : (k z : ℕ) (ds : Rows) (c : ℕ) → LiesRows T L k z O ds c → ((ds ≡ over) × (c ≡ z)) ⊎ LastRow k z ds c
  last_row k z over c p = inl (refl, p)
  last_row k z (a besides ds) c p = go (last_row (k + wide_cells a) p.0 ds c p.3)
    where
      go : ((ds ≡ over) × (c ≡ p.0)) ⊎ LastRow (k + wide_cells a) p.0 ds c →
          ((a besides ds ≡ over) × (c ≡ z)) ⊎ LastRow k z (a besides ds) c
      go (inl (q, e)) = inr (record {
        first = over;
        a = a;
        g = k;
        y = z;
        is = ap {B = Rows} (λ (x : Rows). a besides x) q;
        firsts = refl;
        place = omega arith;
        some_left = p.1;
        lies = subst (λ (x : ℕ). LiesCells T L k k z O a x) (sym e) p.2;
      })
      go (inr w) = let at = w.place in inr (record {
        first = a besides w.first;
        a = w.a;
        g = w.g;
        y = w.y;
        is = ap {B = Rows} (λ (x : Rows). a besides x) w.is;
        firsts = (p.0, p.1, p.2, w.firsts);
        place = omega arith;
        some_left = w.some_left;
        lies = w.lies;
      })

  -- where it ends, and the disjunction of that alternative
  pub row_place : (k z : ℕ) (ds : Rows) (c : ℕ) → LiesRows T L k z O ds c →
      (c ≡ z) ⊎ ((k ≤ c) × (c < k + wide_rows ds) × (T.group c < k + wide_rows ds))
  row_place k z ds c p = go (last_row k z ds c p)
    where
      go : ((ds ≡ over) × (c ≡ z)) ⊎ LastRow k z ds c → (c ≡ z) ⊎ ((k ≤ c) × (c < k + wide_rows ds) × (T.group c < k + wide_rows ds))
      go (inl (q, e)) = inl e
      go (inr w) =
          let at = w.place in
          let s = w.some_left in
          let (low, high, group) = cell_end w.g w.g w.y w.a c s w.lies in
          let size : wide_rows ds ≡ wide_rows w.first + (wide_cells w.a + 0) =
          ap wide_rows w.is ∙ rows_next w.first (w.a besides over) in
          inr (omega arith, omega arith, omega arith)
