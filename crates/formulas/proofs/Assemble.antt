-- The description by spots is that of the formula.
-- Assumes nothing.
use mathlib.Core.Path.{◌≡◌, refl, ap, ap₂, ◌∙◌, subst}
use mathlib.Core.Option.{Option, none, some}
use mathlib.Core.List.{List, [], ◌∷◌, ◌++◌}
use Prim.Native.Nat.{ℕ, suc, ◌+◌, ◌<◌}
use native.Mathlib.Omega.{arith}
use lib.ListN.{length, get_or}
use Rattle.theory.specs.Net.{Graph}
use Rattle.theory.specs.Descr.{Desc, desc, Disjs, end, ◌and◌, Alts, ◌or◌, ◌then◌}
use Rattle.formulas.specs.Formula.{Path, Formula}
use Rattle.formulas.specs.Part.{Fact, part_graph}
use Rattle.formulas.specs.Draft.{Draft, draft, Splits, done, ◌beside◌, Sides, out, ◌versus◌, drafted}
use Rattle.formulas.specs.Describe.{describe}
use Rattle.formulas.proofs.Gathering.{Gathered, as_desc, as_alts, gathered_desc, Gain, gained, gather_closed, put_before, gather}
use Rattle.formulas.proofs.Gathering.{gather_all, gather_left}
use Rattle.formulas.specs.Sheet.{Sheet, blank_sheet, ◌plus◌, Laid, laid, Rows, over, ◌besides◌, Cells, gone, ◌against◌, laid_out}
use Rattle.formulas.specs.Sheet.{sheet_graph, SheetPiece, piece_desc, piece_alts, as_piece, Share, won, piece_closed, piece_before}
use Rattle.formulas.specs.Sheet.{assemble, assemble_all, assemble_left, paths, path_of}
use Rattle.formulas.proofs.Gather.{gather_settle}
use Rattle.formulas.proofs.Told.{Told, told_both, told_blank, sheet_definite}
use Rattle.formulas.proofs.Sheets.{Agrees}
use Rattle.formulas.proofs.Laid.{Never, never, Like, LikeAll, LikeAny, laid_like}

module _ (path : ℕ → Path) (root : path 0 ≡ []) where
  record SamePart (x : Gathered) (y : SheetPiece) : Type 1 where
    graph : x.graph ≡ y.graph
    rest : x.rest ≡ y.rest
    told : Told path y.own x.own

  data Match : Option Gathered → Option SheetPiece → Type 1 where
    clash : Match none none
    match : (x : Gathered) (y : SheetPiece) → SamePart x y → Match (some x) (some y)

  record SameGain (g : Gain) (h : Share) : Type 1 where
    rest : g.left ≡ h.left
    told : Told path h.given g.facts

  data Gains : Option Gain → Option Share → Type 1 where
    clash : Gains none none
    gain : (g : Gain) (h : Share) → SameGain g h → Gains (some g) (some h)

  abbrev SameAll : List Gathered → List SheetPiece → Type 1
  SameAll [] [] = Unit {1}
  SameAll [] (y ∷ k) = Never
  SameAll (x ∷ l) [] = Never
  SameAll (x ∷ l) (y ∷ k) = SamePart x y × SameAll l k

  desc_same : (x : Gathered) (y : SheetPiece) → SamePart x y → as_desc x ≡ piece_desc y
  desc_same x y p = ap₂ {C = Desc} desc p.graph p.rest

  alts_same : (l : List Gathered) (k : List SheetPiece) → SameAll l k → as_alts l ≡ piece_alts k
  alts_same [] [] p = refl
  alts_same [] (y ∷ k) (never z) = absurd z
  alts_same (x ∷ l) [] (never z) = absurd z
  alts_same (x ∷ l) (y ∷ k) p = ap₂ {C = Alts} ◌or◌ (desc_same x y p.0) (alts_same l k p.1)

  won_same : (l : List Gathered) (k : List SheetPiece) (g : Gain) (h : Share) → SameAll l k → SameGain g h → Gains (gained l g) (won k h)
  won_same [] [] g h p s = clash
  won_same [] (y ∷ k) g h (never z) s = absurd z
  won_same (x ∷ l) [] g h (never z) s = absurd z
  won_same (x ∷ []) (y ∷ []) g h p s =
      gain (record { facts = x.own ++ g.facts; left = x.rest then g.left })
      (record { given = y.own plus h.given; left = y.rest then h.left })
      (record {
        rest = ap₂ {C = Disjs} ◌then◌ p.0.rest s.rest;
        told =
            told_both path y.own x.own h.given g.facts p.0.told s.told;
      })
  won_same (x ∷ []) (y ∷ (y' ∷ k)) g h (q, never z) s = absurd z
  won_same (x ∷ (x' ∷ l)) (y ∷ []) g h (q, never z) s = absurd z
  won_same (x ∷ (x' ∷ l)) (y ∷ (y' ∷ k)) g h p s =
      gain (record { facts = g.facts; left = as_alts (x ∷ x' ∷ l) and g.left })
      (record { given = h.given; left = piece_alts (y ∷ y' ∷ k) and h.left })
      (record { rest = ap₂ {C = Disjs} ◌and◌ (alts_same (x ∷ x' ∷ l) (y ∷ y' ∷ k) p) s.rest; told = s.told })

  graph_same : (F : List Fact) (A : Sheet) (g : Gain) (h : Share) → Told path A F → SameGain g h →
      Match (gather_closed (F ++ g.facts) g.left (part_graph (F ++ g.facts) []))
      (piece_closed (A plus h.given) h.left (sheet_graph (A plus h.given)))
  graph_same F A g h t s = rw (sheet_definite path (A plus h.given) (F ++ g.facts) both) (go (sheet_graph (A plus h.given)))
    where
      both : Told path (A plus h.given) (F ++ g.facts)
      both = told_both path A F h.given g.facts t s.told

      go : (o : Option Graph) → Match (gather_closed (F ++ g.facts) g.left o) (piece_closed (A plus h.given) h.left o)
      go none = clash
      go (some G) = match (record { own = F ++ g.facts; graph = G; rest = g.left })
          (record { own = A plus h.given; graph = G; rest = h.left }) (record { graph = refl; rest = s.rest; told = both })

  put_same : (o : Option Gathered) (q : Option SheetPiece) (l : List Gathered) (k : List SheetPiece) → Match o q → SameAll l k →
      SameAll (put_before o l) (piece_before q k)
  put_same none none l k clash p = p
  put_same (some u) (some v) l k (match x y s) p = (s, p)
  put_same none (some v) l k x4 p = elim x4 [ ]
  put_same (some u) none l k x4 p = elim x4 [ ]

  mutual
    unfolding gather assemble

    assemble_same : (d : Draft) (l : Laid) → Like path d l → Match (gather d) (assemble l)
    assemble_same (draft F ds) (laid A es) p = go (gather_all ds) (assemble_all es) (assemble_all_same ds es p.1)
      where
        go : (o : Option Gain) (q : Option Share) → Gains o q →
            Match (elim o [ none ↦ none | some g ↦ gather_closed (F ++ g.facts) g.left (part_graph (F ++ g.facts) []) ])
            (elim q [ none ↦ none | some h ↦ piece_closed (A plus h.given) h.left (sheet_graph (A plus h.given)) ])
        go none none clash = clash
        go (some u) (some v) (gain g h s) = graph_same F A g h p.0 s
        go none (some v) x6 = elim x6 [ ]
        go (some u) none x7 = elim x7 [ ]

    assemble_all_same : (ds : Splits) (es : Rows) → LikeAll path ds es → Gains (gather_all ds) (assemble_all es)
    assemble_all_same done over p =
        gain (record { facts = []; left = end }) (record { given = blank_sheet; left = end })
        (record { rest = refl; told = told_blank path root })
    assemble_all_same done (b besides es) (never z) = absurd z
    assemble_all_same (a beside ds) over (never z) = absurd z
    assemble_all_same (a beside ds) (b besides es) p =
        go (gather_all ds) (assemble_all es) (assemble_all_same ds es p.1) (assemble_left_same a b p.0)
      where
        go : (o : Option Gain) (q : Option Share) → Gains o q → SameAll (gather_left a) (assemble_left b) →
            Gains (elim o [ none ↦ none | some g ↦ gained (gather_left a) g ]) (elim q [ none ↦ none | some h ↦ won (assemble_left b) h ])
        go none none clash r = clash
        go (some u) (some v) (gain g h s) r = won_same (gather_left a) (assemble_left b) g h r s
        go none (some v) x7 r = elim x7 [ ]
        go (some u) none x7 r = elim x7 [ ]

    assemble_left_same : (a : Sides) (b : Cells) → LikeAny path a b → SameAll (gather_left a) (assemble_left b)
    assemble_left_same out gone p = tt
    assemble_left_same out (e against b) (never z) = absurd z
    assemble_left_same (d versus a) gone (never z) = absurd z
    assemble_left_same (d versus a) (e against b) p =
        put_same (gather d) (assemble e) (gather_left a) (assemble_left b) (assemble_same d e p.0) (assemble_left_same a b p.1)

  pub like_same : (d : Draft) (l : Laid) → Like path d l → gathered_desc (gather d) ≡ as_piece (assemble l)
  like_same d l p = go (gather d) (assemble l) (assemble_same d l p)
    where
      go : (o : Option Gathered) (q : Option SheetPiece) → Match o q → gathered_desc o ≡ as_piece q
      go none none clash = refl
      go (some u) (some v) (match x y s) = ap {B = Option Desc} some (desc_same x y s)
      go none (some v) x'' = elim x'' [ ]
      go (some u) none x3 = elim x3 [ ]

  agrees_get : (n : ℕ) (ps : List Path) → ((i : ℕ) → i < length ps → path (n + i) ≡ get_or ps i []) → Agrees path n ps
  agrees_get n [] h = tt
  agrees_get n (p ∷ ps) h =
      let z : n + 0 ≡ n = omega arith in (
        subst (λ (k : ℕ). path k ≡ p) z (h 0 (omega arith)),
        agrees_get (suc n) ps
            (λ i l. let e : n + suc i ≡ suc n + i = omega arith in subst (λ (k : ℕ). path k ≡ get_or ps i []) e (h (suc i) (omega arith))),
      )

-- the paths of the spots make the two drafts alike
pub laid_draft : (φ : Formula) → Like (path_of φ) (drafted φ) (laid_out φ)
laid_draft φ = laid_like (path_of φ) φ refl
    (agrees_get (path_of φ) refl 1 (paths [] φ) (λ i l. let e : 1 + i ≡ suc i = omega arith in ap (path_of φ) e))

pub describe_assemble : (φ : Formula) → describe φ ≡ as_piece (assemble (laid_out φ))
describe_assemble φ = gather_settle (drafted φ) ∙ like_same (path_of φ) refl (drafted φ) (laid_out φ) (laid_draft φ)
