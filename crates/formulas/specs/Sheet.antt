-- The description of a formula by spots: each `fN` sign of the text is a spot, with the spot before it and its feature, numbered in the
-- order of the text from 1; 0 is the root. Code works so; `describe_assemble` says that it comes to the same.
-- Assumes nothing: these are definitions.
use Rattle.std.specs.Prelude.{◌≡◌, ◌⊎◌, ℕ, zero, suc, ◌+◌, ◌<◌, length, get_or}
use Rattle.std.proofs.Math.Option.{Option, none, some}
use mathlib.Core.List.{List, [], ◌∷◌, ◌++◌, Memᴰ}
use Rattle.theory.specs.Net.{Graph}
use Rattle.theory.specs.Join.{Edge, Rule, seed_rules, edge_rules, labels, join_with}
use Rattle.theory.specs.Descr.{Desc, desc, Disjs, end, ◌and◌, Alts, fail, ◌or◌, ◌then◌}
use Rattle.formulas.specs.Formula.{Path, Formula, nil, top, atom, at, same, all, any, Formulas, one, ◌also◌}

-- the arcs, atoms and shared pairs of a part
pub record Sheet : Type 0 where
  pub edges : List Edge
  pub atoms : List (ℕ × ℕ)
  pub ties : List (ℕ × ℕ)

abbrev pub blank_sheet : Sheet
blank_sheet = record { edges = []; atoms = []; ties = [] }

-- a member is the root, or an arc meets it
abbrev pub Member : List Edge → ℕ → Type 0
Member es i = (i ≡ 0) ⊎ ((e : Edge) × Memᴰ e es × (e.2 ≡ i))

-- arcs go from a member to a later one, atoms and pairs are of members
pub record Rooted (es : List Edge) (at : List (ℕ × ℕ)) (ts : List (ℕ × ℕ)) : Type 0 where
  pub from : (e : Edge) → Memᴰ e es → Member es e.0 × (e.0 < e.2)
  pub bearer : (p : ℕ × ℕ) → Memᴰ p at → Member es p.0
  pub sharers : (p : ℕ × ℕ) → Memᴰ p ts → Member es p.0 × Member es p.1

abbrev pub Sound : Sheet → Type 0
Sound A = Rooted A.edges A.atoms A.ties

infixr 5 ◌plus◌
abbrev pub ◌plus◌ : Sheet → Sheet → Sheet
A plus B = record { edges = A.edges ++ B.edges; atoms = A.atoms ++ B.atoms; ties = A.ties ++ B.ties }

abbrev pub of_edges : List Edge → Sheet
of_edges es = record { edges = es; atoms = []; ties = [] }

abbrev pub of_atom : ℕ → ℕ → Sheet
of_atom s a = record { edges = []; atoms = (s, a) ∷ []; ties = [] }

abbrev pub of_tie : List Edge → ℕ → ℕ → Sheet
of_tie es s t = record { edges = es; atoms = []; ties = (s, t) ∷ [] }

-- the number of spots of a formula
abbrev pub lengths : List Path → ℕ
lengths [] = 0
lengths (p ∷ ps) = length p + lengths ps

abbrev mutual
  pub count : Formula → ℕ
  count nil = 0
  count top = 0
  count (atom a) = 0
  count (at f φ) = suc (count φ)
  count (same p ps) = length p + lengths ps
  count (all φ φs) = count φ + counts φs
  count (any φ φs) = count φ + counts φs

  pub counts : Formulas → ℕ
  counts (one φ) = count φ
  counts (φ also φs) = count φ + counts φs

-- a path from the spot s, its spots numbered from n on; and its end
abbrev pub way : ℕ → ℕ → Path → List Edge
way n s [] = []
way n s (f ∷ p) = (s, f, n) ∷ way (suc n) n p

abbrev pub way_end : ℕ → ℕ → Path → ℕ
way_end n s [] = s
way_end n s (f ∷ p) = way_end (suc n) n p

-- paths from s that end where e is
abbrev pub tied : ℕ → ℕ → ℕ → List Path → Sheet
tied n s e [] = blank_sheet
tied n s e (q ∷ ps) = of_tie (way n s q) e (way_end n s q) plus tied (n + length q) s e ps

-- what φ gives at the spot s to the definite part that it is in, its spots numbered from n on
abbrev mutual
  pub sheet : ℕ → ℕ → Formula → Sheet
  sheet n s nil = blank_sheet
  sheet n s top = of_atom s 0 plus of_atom s 1
  sheet n s (atom a) = of_atom s a
  sheet n s (at f φ) = of_edges ((s, f, n) ∷ []) plus sheet (suc n) n φ
  sheet n s (same p ps) = of_edges (way n s p) plus tied (n + length p) s (way_end n s p) ps
  sheet n s (all φ φs) = sheet n s φ plus sheets (n + count φ) s φs
  sheet n s (any φ φs) = blank_sheet

  pub sheets : ℕ → ℕ → Formulas → Sheet
  sheets n s (one φ) = sheet n s φ
  sheets n s (φ also φs) = sheet n s φ plus sheets (n + count φ) s φs

-- a draft with sheets
mutual
  pub data Laid : Type 0 where
    laid : Sheet → Rows → Laid

  pub data Rows : Type 0 where
    over : Rows
    ◌besides◌ : Cells → Rows → Rows

  pub data Cells : Type 0 where
    gone : Cells
    ◌against◌ : Laid → Cells → Cells

infixr 5 ◌besides◌
infixr 6 ◌against◌
infixr 5 ◌next◌
abbrev pub ◌next◌ : Rows → Rows → Rows
over next es = es
(a besides ds) next es = a besides (ds next es)

-- the arcs from the root to s stand in each alternative
abbrev mutual
  pub lay : ℕ → ℕ → List Edge → Formula → Rows
  lay n s es nil = over
  lay n s es top = over
  lay n s es (atom a) = over
  lay n s es (at f φ) = lay (suc n) n (es ++ (s, f, n) ∷ []) φ
  lay n s es (same p ps) = over
  lay n s es (all φ φs) = lay n s es φ next lay_all (n + count φ) s es φs
  lay n s es (any φ φs) = (laid (of_edges es plus sheet n s φ) (lay n s es φ) against cells (n + count φ) s es φs) besides over

  pub lay_all : ℕ → ℕ → List Edge → Formulas → Rows
  lay_all n s es (one φ) = lay n s es φ
  lay_all n s es (φ also φs) = lay n s es φ next lay_all (n + count φ) s es φs

  pub cells : ℕ → ℕ → List Edge → Formulas → Cells
  cells n s es (one φ) = laid (of_edges es plus sheet n s φ) (lay n s es φ) against gone
  cells n s es (φ also φs) = laid (of_edges es plus sheet n s φ) (lay n s es φ) against cells (n + count φ) s es φs

abbrev pub laid_out : Formula → Laid
laid_out φ = laid (sheet 1 0 φ) (lay 1 0 [] φ)

-- the graph of a sheet
abbrev pub sheet_rules : Sheet → List Rule
sheet_rules A = seed_rules A.ties ++ edge_rules A.edges A.edges

unfoldable pub sheet_graph : Sheet → Option Graph
sheet_graph A = join_with (labels (sheet_rules A)) A.atoms A.edges

-- what is folded gives its sheet to the description in which it stands
pub record SheetPiece : Type 0 where
  pub own : Sheet
  pub graph : Graph
  pub rest : Disjs

abbrev pub piece_desc : SheetPiece → Desc
piece_desc x = desc x.graph x.rest

abbrev pub piece_alts : List SheetPiece → Alts
piece_alts [] = fail
piece_alts (x ∷ l) = piece_desc x or piece_alts l

abbrev pub as_piece : Option SheetPiece → Option Desc
as_piece none = none
as_piece (some x) = some (piece_desc x)

pub record Share : Type 0 where
  pub given : Sheet
  pub left : Disjs

abbrev pub won : List SheetPiece → Share → Option Share
won [] g = none
won (x ∷ []) g = some (record { given = x.own plus g.given; left = x.rest then g.left })
won (x ∷ (y ∷ l)) g = some (record { given = g.given; left = piece_alts (x ∷ y ∷ l) and g.left })

abbrev pub piece_closed : Sheet → Disjs → Option Graph → Option SheetPiece
piece_closed A ds none = none
piece_closed A ds (some G) = some (record { own = A; graph = G; rest = ds })

abbrev pub piece_before : Option SheetPiece → List SheetPiece → List SheetPiece
piece_before none l = l
piece_before (some x) l = x ∷ l

unfoldable mutual
  pub assemble : Laid → Option SheetPiece
  assemble (laid A ds) =
      elim (assemble_all ds) [ none ↦ none | some g ↦ piece_closed (A plus g.given) g.left (sheet_graph (A plus g.given)) ]

  pub assemble_all : Rows → Option Share
  assemble_all over = some (record { given = blank_sheet; left = end })
  assemble_all (a besides ds) = elim (assemble_all ds) [ none ↦ none | some g ↦ won (assemble_left a) g ]

  pub assemble_left : Cells → List SheetPiece
  assemble_left gone = []
  assemble_left (d against a) = piece_before (assemble d) (assemble_left a)

-- the paths of the spots, in order
abbrev pub prefixes : Path → Path → List Path
prefixes π [] = []
prefixes π (f ∷ p) = (π ++ f ∷ []) ∷ prefixes (π ++ f ∷ []) p

abbrev pub prefixes_all : Path → List Path → List Path
prefixes_all π [] = []
prefixes_all π (p ∷ ps) = prefixes π p ++ prefixes_all π ps

abbrev mutual
  pub paths : Path → Formula → List Path
  paths π nil = []
  paths π top = []
  paths π (atom a) = []
  paths π (at f φ) = (π ++ f ∷ []) ∷ paths (π ++ f ∷ []) φ
  paths π (same p ps) = prefixes π p ++ prefixes_all π ps
  paths π (all φ φs) = paths π φ ++ paths_all π φs
  paths π (any φ φs) = paths π φ ++ paths_all π φs

  pub paths_all : Path → Formulas → List Path
  paths_all π (one φ) = paths π φ
  paths_all π (φ also φs) = paths π φ ++ paths_all π φs

abbrev pub path_of : Formula → ℕ → Path
path_of φ zero = []
path_of φ (suc i) = get_or (paths [] φ) i []
