-- The arcs of a formula lead to its spots in order, and how many rows it gives.
-- Assumes nothing.
use Prim.Native.Nat.{ℕ, suc, ◌+◌, ◌<◌}
use mathlib.Core.Path.{◌≡◌, refl, sym, ap₂, subst, ◌∙◌}
use mathlib.Core.List.{List, [], ◌∷◌, ◌++◌}
use native.Mathlib.Omega.{arith}
use lib.ListN.{length, length-append}
use Rattle.theory.specs.Join.{Edge}
use Rattle.formulas.specs.Formula.{Path, Formula, nil, top, atom, at, same, all, any, Formulas, one, ◌also◌}
use Rattle.formulas.specs.Sheet.{way, way_end, tied, count, counts, lengths}
use Rattle.formulas.specs.Flat.{width}
use Rattle.rows.specs.Machine.{in_home}
use Rattle.rows.specs.Given.{given, given_all, given_any}
use Rattle.rows.specs.Laid.{ArcsNumbered}
use Rattle.rows.proofs.Given.{in_both}
use Rattle.rows.proofs.Bounds.{bearing, bearings, sharing, sharings}

in_long : {A : Type 0} (h : ℕ) (l : List A) → length (in_home h l) ≡ length l
in_long h [] = refl
in_long h (x ∷ l) = let e = in_long h l in omega (arith, e)

way_long : (n s : ℕ) (p : Path) → length (way n s p) ≡ length p
way_long n s [] = refl
way_long n s (f ∷ p) = let e = way_long (suc n) n p in omega (arith, e)

pub way_end_low : (n s : ℕ) (p : Path) → s < n → way_end n s p < n + length p
way_end_low n s [] l = omega arith
way_end_low n s (f ∷ p) l = let e = way_end_low (suc n) n p (omega arith) in omega (arith, e)

tied_long : (n s e : ℕ) (ps : List Path) → length (tied n s e ps).edges ≡ lengths ps
tied_long n s e [] = refl
tied_long n s e (q ∷ ps) =
    let a = length-append (way n s q) (tied (n + length q) s e ps).edges in
    let b = way_long n s q in
    let c = tied_long (n + length q) s e ps in
    omega (arith, a, b, c)

same_long : (n s h : ℕ) (p : Path) (ps : List Path) →
    length (in_home h (way n s p ++ (tied (n + length p) s (way_end n s p) ps).edges)) ≡ length p + lengths ps
same_long n s h p ps =
    let es = (tied (n + length p) s (way_end n s p) ps).edges in
    let i = in_long h (way n s p ++ es) in
    let a = length-append (way n s p) es in
    let b = way_long n s p in
    let c = tied_long (n + length p) s (way_end n s p) ps in
    omega (arith, i, a, b, c)

-- their number
two_long : {A : Type 0} (l m : List A) (a b : ℕ) → length l ≡ a → length m ≡ b → length (l ++ m) ≡ a + b
two_long l m a b p q = length-append l m ∙ ap₂ {C = ℕ} ◌+◌ p q

mutual
  pub arcs_count : (n k s h d : ℕ) (φ : Formula) → length (given n k s h d φ).arcs ≡ count φ
  arcs_count n k s h d nil = refl
  arcs_count n k s h d top = refl
  arcs_count n k s h d (atom a) = refl
  arcs_count n k s h d (at f φ) = let e = arcs_count (suc n) k n h d φ in omega (arith, e)
  arcs_count n k s h d (same p ps) = same_long n s h p ps
  arcs_count n k s h d (all φ φs) =
      two_long (given n k s h d φ).arcs (given_all (n + count φ) (k + width φ) s h d φs).arcs (count φ) (counts φs)
      (arcs_count n k s h d φ) (all_count (n + count φ) (k + width φ) s h d φs)
  arcs_count n k s h d (any φ φs) =
      two_long (given n (suc k) s k (suc d) φ).arcs (given_any (n + count φ) (suc k + width φ) s h k d φs).arcs
      (count φ) (counts φs) (arcs_count n (suc k) s k (suc d) φ) (any_count (n + count φ) (suc k + width φ) s h k d φs)

  all_count : (n k s h d : ℕ) (φs : Formulas) → length (given_all n k s h d φs).arcs ≡ counts φs
  all_count n k s h d (one φ) = arcs_count n k s h d φ
  all_count n k s h d (φ also φs) =
      two_long (given n k s h d φ).arcs (given_all (n + count φ) (k + width φ) s h d φs).arcs (count φ) (counts φs)
      (arcs_count n k s h d φ) (all_count (n + count φ) (k + width φ) s h d φs)

  any_count : (n k s h g d : ℕ) (φs : Formulas) → length (given_any n k s h g d φs).arcs ≡ counts φs
  any_count n k s h g d (one φ) = arcs_count n (suc k) s k (suc d) φ
  any_count n k s h g d (φ also φs) =
      two_long (given n (suc k) s k (suc d) φ).arcs (given_any (n + count φ) (suc k + width φ) s h g d φs).arcs
      (count φ) (counts φs) (arcs_count n (suc k) s k (suc d) φ) (any_count (n + count φ) (suc k + width φ) s h g d φs)

-- in order, each from a lower spot
numbered_both : (n : ℕ) (l m : List (ℕ × Edge)) (a : ℕ) → length l ≡ a → ArcsNumbered n l → ArcsNumbered (n + a) m → ArcsNumbered n (l ++ m)
numbered_both n [] m a e p q = let z : n + a ≡ n = omega (arith, e) in subst (λ (k : ℕ). ArcsNumbered k m) z q
numbered_both n (x ∷ l) m a e p q =
    let z : n + a ≡ suc n + length l = omega (arith, e) in
    (p.0, p.1, numbered_both (suc n) l m (length l) refl p.2 (subst (λ (k : ℕ). ArcsNumbered k m) z q))

way_numbered : (n s h : ℕ) (p : Path) → s < n → ArcsNumbered n (in_home h (way n s p))
way_numbered n s h [] l = tt
way_numbered n s h (f ∷ p) l = (refl, l, way_numbered (suc n) n h p (omega arith))

-- a way, and what follows it
ways_numbered : (n s h : ℕ) (p : Path) (es : List Edge) → s < n → ArcsNumbered (n + length p) (in_home h es) →
    ArcsNumbered n (in_home h (way n s p ++ es))
ways_numbered n s h p es l q =
    let e = in_long h (way n s p) ∙ way_long n s p in
    subst (ArcsNumbered n) (sym (in_both h (way n s p) es))
    (numbered_both n (in_home h (way n s p)) (in_home h es) (length p) e (way_numbered n s h p l) q)

tied_numbered : (n s e h : ℕ) (ps : List Path) → s < n → ArcsNumbered n (in_home h (tied n s e ps).edges)
tied_numbered n s e h [] l = tt
tied_numbered n s e h (q ∷ ps) l =
    ways_numbered n s h q (tied (n + length q) s e ps).edges l (tied_numbered (n + length q) s e h ps (omega arith))

mutual
  pub arcs_numbered : (n k s h d : ℕ) (φ : Formula) → s < n → ArcsNumbered n (given n k s h d φ).arcs
  arcs_numbered n k s h d nil l = tt
  arcs_numbered n k s h d top l = tt
  arcs_numbered n k s h d (atom a) l = tt
  arcs_numbered n k s h d (at f φ) l = (refl, l, arcs_numbered (suc n) k n h d φ (omega arith))
  arcs_numbered n k s h d (same p ps) l = ways_numbered n s h p (tied (n + length p) s (way_end n s p) ps).edges l
      (tied_numbered (n + length p) s (way_end n s p) h ps (omega arith))
  arcs_numbered n k s h d (all φ φs) l =
      numbered_both n (given n k s h d φ).arcs (given_all (n + count φ) (k + width φ) s h d φs).arcs (count φ) (arcs_count n k s h d φ)
      (arcs_numbered n k s h d φ l) (all_numbered (n + count φ) (k + width φ) s h d φs (omega arith))
  arcs_numbered n k s h d (any φ φs) l =
      numbered_both n (given n (suc k) s k (suc d) φ).arcs (given_any (n + count φ) (suc k + width φ) s h k d φs).arcs (count φ)
      (arcs_count n (suc k) s k (suc d) φ) (arcs_numbered n (suc k) s k (suc d) φ l)
      (any_numbered (n + count φ) (suc k + width φ) s h k d φs (omega arith))

  all_numbered : (n k s h d : ℕ) (φs : Formulas) → s < n → ArcsNumbered n (given_all n k s h d φs).arcs
  all_numbered n k s h d (one φ) l = arcs_numbered n k s h d φ l
  all_numbered n k s h d (φ also φs) l =
      numbered_both n (given n k s h d φ).arcs (given_all (n + count φ) (k + width φ) s h d φs).arcs (count φ) (arcs_count n k s h d φ)
      (arcs_numbered n k s h d φ l) (all_numbered (n + count φ) (k + width φ) s h d φs (omega arith))

  any_numbered : (n k s h g d : ℕ) (φs : Formulas) → s < n → ArcsNumbered n (given_any n k s h g d φs).arcs
  any_numbered n k s h g d (one φ) l = arcs_numbered n (suc k) s k (suc d) φ l
  any_numbered n k s h g d (φ also φs) l =
      numbered_both n (given n (suc k) s k (suc d) φ).arcs (given_any (n + count φ) (suc k + width φ) s h g d φs).arcs (count φ)
      (arcs_count n (suc k) s k (suc d) φ) (arcs_numbered n (suc k) s k (suc d) φ l)
      (any_numbered (n + count φ) (suc k + width φ) s h g d φs (omega arith))

-- the numbers of atom rows and of tie rows
tied_atoms : (n s e h : ℕ) (ps : List Path) → length (in_home h (tied n s e ps).atoms) ≡ 0
tied_atoms n s e h [] = refl
tied_atoms n s e h (q ∷ ps) = tied_atoms (n + length q) s e h ps

tied_ties : (n s e h : ℕ) (ps : List Path) → length (in_home h (tied n s e ps).ties) ≡ length ps
tied_ties n s e h [] = refl
tied_ties n s e h (q ∷ ps) = let i = tied_ties (n + length q) s e h ps in omega (arith, i)

mutual
  pub bears_count : (n k s h d : ℕ) (φ : Formula) → length (given n k s h d φ).bears ≡ bearing φ
  bears_count n k s h d nil = refl
  bears_count n k s h d top = refl
  bears_count n k s h d (atom a) = refl
  bears_count n k s h d (at f φ) = bears_count (suc n) k n h d φ
  bears_count n k s h d (same p ps) = tied_atoms (n + length p) s (way_end n s p) h ps
  bears_count n k s h d (all φ φs) = two_long (given n k s h d φ).bears (given_all (n + count φ) (k + width φ) s h d φs).bears
      (bearing φ) (bearings φs) (bears_count n k s h d φ) (all_bears (n + count φ) (k + width φ) s h d φs)
  bears_count n k s h d (any φ φs) =
      two_long (given n (suc k) s k (suc d) φ).bears (given_any (n + count φ) (suc k + width φ) s h k d φs).bears
      (bearing φ) (bearings φs) (bears_count n (suc k) s k (suc d) φ) (any_bears (n + count φ) (suc k + width φ) s h k d φs)

  all_bears : (n k s h d : ℕ) (φs : Formulas) → length (given_all n k s h d φs).bears ≡ bearings φs
  all_bears n k s h d (one φ) = bears_count n k s h d φ
  all_bears n k s h d (φ also φs) = two_long (given n k s h d φ).bears (given_all (n + count φ) (k + width φ) s h d φs).bears
      (bearing φ) (bearings φs) (bears_count n k s h d φ) (all_bears (n + count φ) (k + width φ) s h d φs)

  any_bears : (n k s h g d : ℕ) (φs : Formulas) → length (given_any n k s h g d φs).bears ≡ bearings φs
  any_bears n k s h g d (one φ) = bears_count n (suc k) s k (suc d) φ
  any_bears n k s h g d (φ also φs) =
      two_long (given n (suc k) s k (suc d) φ).bears (given_any (n + count φ) (suc k + width φ) s h g d φs).bears
      (bearing φ) (bearings φs) (bears_count n (suc k) s k (suc d) φ) (any_bears (n + count φ) (suc k + width φ) s h g d φs)

mutual
  pub shares_count : (n k s h d : ℕ) (φ : Formula) → length (given n k s h d φ).shares ≡ sharing φ
  shares_count n k s h d nil = refl
  shares_count n k s h d top = refl
  shares_count n k s h d (atom a) = refl
  shares_count n k s h d (at f φ) = shares_count (suc n) k n h d φ
  shares_count n k s h d (same p ps) = tied_ties (n + length p) s (way_end n s p) h ps
  shares_count n k s h d (all φ φs) = two_long (given n k s h d φ).shares (given_all (n + count φ) (k + width φ) s h d φs).shares
      (sharing φ) (sharings φs) (shares_count n k s h d φ) (all_shares (n + count φ) (k + width φ) s h d φs)
  shares_count n k s h d (any φ φs) =
      two_long (given n (suc k) s k (suc d) φ).shares (given_any (n + count φ) (suc k + width φ) s h k d φs).shares
      (sharing φ) (sharings φs) (shares_count n (suc k) s k (suc d) φ) (any_shares (n + count φ) (suc k + width φ) s h k d φs)

  all_shares : (n k s h d : ℕ) (φs : Formulas) → length (given_all n k s h d φs).shares ≡ sharings φs
  all_shares n k s h d (one φ) = shares_count n k s h d φ
  all_shares n k s h d (φ also φs) = two_long (given n k s h d φ).shares (given_all (n + count φ) (k + width φ) s h d φs).shares
      (sharing φ) (sharings φs) (shares_count n k s h d φ) (all_shares (n + count φ) (k + width φ) s h d φs)

  any_shares : (n k s h g d : ℕ) (φs : Formulas) → length (given_any n k s h g d φs).shares ≡ sharings φs
  any_shares n k s h g d (one φ) = shares_count n (suc k) s k (suc d) φ
  any_shares n k s h g d (φ also φs) =
      two_long (given n (suc k) s k (suc d) φ).shares (given_any (n + count φ) (suc k + width φ) s h g d φs).shares
      (sharing φ) (sharings φs) (shares_count n (suc k) s k (suc d) φ) (any_shares (n + count φ) (suc k + width φ) s h g d φs)
