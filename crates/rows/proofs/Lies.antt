-- Tables that hold what a formula gives lie as its draft by spots says.
-- Assumes nothing.
use Prim.Native.Nat.{ℕ, zero, suc, ◌+◌, ◌<◌, ◌≤◌}
use mathlib.Core.Path.{◌≡◌, refl, sym, ap, ap₂, subst, ◌∙◌}
use mathlib.Core.Logic.{◌⊎◌, inl, inr, ◌≢◌}
use mathlib.Core.Bool.{Bool}
use mathlib.Core.List.{List, [], ◌∷◌, ◌++◌}
use native.Mathlib.Omega.{arith}
use lib.ListN.{length, length-append}
use Rattle.theory.specs.Join.{Edge}
use borrow.Author.Tests.{eq-eqb, ne_eqb}
use Rattle.formulas.specs.Formula.{Formula, nil, top, atom, at, same, all, any, Formulas, one, ◌also◌}
use Rattle.formulas.specs.Sheet.{◌plus◌, of_edges, count, sheet, laid, Rows, over, ◌besides◌, ◌against◌, ◌next◌, lay, lay_all}
use Rattle.formulas.specs.Sheet.{cells, laid_out}
use Rattle.formulas.specs.Flat.{Item, width, widths, ranks, flat_items, flat_all, flat_any, flattened, given_to, wide_rows, wide_cells}
use Rattle.formulas.proofs.Flat.{Holds, Side, flat_own, lay_wide, first_part_of, other_parts_of, past, first_side, other_sides, side_in}
use Rattle.formulas.proofs.Flat.{side_own}
use Rattle.signs.specs.Machine.{if_so}
use Rattle.rows.specs.Machine.{Alt, Out, ◌then◌, begins}
use Rattle.rows.specs.Given.{given, given_all, given_any}
use Rattle.rows.specs.Plan.{Plan, trail_in, plan_trail, PlanLies, PlanLiesRows, PlanLiesCells, renewed, lasts, none_yet, AltsStand}
use Rattle.rows.specs.Plan.{ArcsLead}

-- ---- alternatives by their owners
renewed_here : (f : ℕ → ℕ) (o k : ℕ) → renewed f o k o ≡ k
renewed_here f o k = ap (λ (t : Bool). if_so t k (f o)) (eq-eqb o o refl)

pub renewed_else : (f : ℕ → ℕ) (o k j : ℕ) → j ≢ o → renewed f o k j ≡ f j
renewed_else f o k j d = ap (λ (t : Bool). if_so t k (f j)) (ne_eqb j o d)

-- each stands in h, or in one of those from m on and before u
abbrev Owned : ℕ → ℕ → ℕ → List Alt → Type 0
Owned h m u [] = Unit {0}
Owned h m u (a ∷ A) = ((a.owner ≡ h) ⊎ ((m ≤ a.owner) × (a.owner < u))) × Owned h m u A

owned_both : (h m u : ℕ) (A B : List Alt) → Owned h m u A → Owned h m u B → Owned h m u (A ++ B)
owned_both h m u [] B p q = q
owned_both h m u (a ∷ A) B p q = (p.0, owned_both h m u A B p.1 q)

owned_in : (h m u h' m' u' : ℕ) (A : List Alt) → (h' ≡ h) ⊎ ((m ≤ h') × (h' < u)) → m ≤ m' → u' ≤ u → Owned h' m' u' A → Owned h m u A
owned_in h m u h' m' u' [] e l i p = tt
owned_in h m u h' m' u' (a ∷ A) e l i p = (go p.0 e, owned_in h m u h' m' u' A e l i p.1) where
  go : (a.owner ≡ h') ⊎ ((m' ≤ a.owner) × (a.owner < u')) → (h' ≡ h) ⊎ ((m ≤ h') × (h' < u)) →
      (a.owner ≡ h) ⊎ ((m ≤ a.owner) × (a.owner < u))
  go (inl x) (inl y) = inl (x ∙ y)
  go (inl x) (inr y) = let (y0, y1) = y in inr (omega (arith, x, y0), omega (arith, x, y1))
  go (inr x) y = let (x0, x1) = x in inr (omega (arith, x0), omega (arith, x1))

lasts_off : (j h m u : ℕ) (f : ℕ → ℕ) (k : ℕ) (A : List Alt) → j ≢ h → (j < m) ⊎ (u ≤ j) → Owned h m u A → lasts f k A j ≡ f j
lasts_off j h m u f k [] d l p = refl
lasts_off j h m u f k (a ∷ A) d l p =
    lasts_off j h m u (renewed f a.owner k) (suc k) A d l p.1 ∙ renewed_else f a.owner k j (go p.0 l) where
      go : (a.owner ≡ h) ⊎ ((m ≤ a.owner) × (a.owner < u)) → (j < m) ⊎ (u ≤ j) → j ≢ a.owner
      go (inl x) y e = d (e ∙ x)
      go (inr x) (inl y) e = let (x0, x1) = x in omega (arith, x0)
      go (inr x) (inr y) e = let (x0, x1) = x in omega (arith, x1)

pub lasts_both : (f : ℕ → ℕ) (k : ℕ) (A B : List Alt) (j : ℕ) → lasts f k (A ++ B) j ≡ lasts (lasts f k A) (k + length A) B j
lasts_both f k [] B j = let e : k ≡ k + 0 = omega arith in ap (λ (z : ℕ). lasts f z B j) e
lasts_both f k (a ∷ A) B j =
    let e : suc k + length A ≡ k + length (a ∷ A) = omega arith in
    lasts_both (renewed f a.owner k) (suc k) A B j ∙ ap (λ (z : ℕ). lasts (lasts (renewed f a.owner k) (suc k) A) z B j) e

-- two parts of a formula, of which the first has w alternatives
both_owned : (h k w u : ℕ) (A B : List Alt) → Owned h k (k + w) A → Owned h (k + w) (k + w + u) B → Owned h k (k + (w + u)) (A ++ B)
both_owned h k w u A B p q = owned_both h k (k + (w + u)) A B
    (owned_in h k (k + (w + u)) h k (k + w) A (inl refl) (omega arith) (omega arith) p)
    (owned_in h k (k + (w + u)) h (k + w) (k + w + u) B (inl refl) (omega arith) (omega arith) q)

-- an alternative of h, and what follows it
side_owned : (h k w : ℕ) (A : List Alt) → Owned k (suc k) (suc k + w) A → Owned h k (k + suc w) A
side_owned h k w A p = owned_in h k (k + suc w) k (suc k) (suc k + w) A (inr (omega arith, omega arith)) (omega arith) (omega arith) p

sides_owned : (h k w u : ℕ) (A B : List Alt) → Owned k (suc k) (suc k + w) A → Owned h (suc k + w) (suc k + w + u) B →
    Owned h k (k + (suc w + u)) (A ++ B)
sides_owned h k w u A B p q = owned_both h k (k + (suc w + u)) A B
    (owned_in h k (k + (suc w + u)) k (suc k) (suc k + w) A (inr (omega arith, omega arith)) (omega arith) (omega arith) p)
    (owned_in h k (k + (suc w + u)) h (suc k + w) (suc k + w + u) B (inl refl) (omega arith) (omega arith) q)

mutual
  owners : (n k s h d : ℕ) (φ : Formula) → Owned h k (k + width φ) (given n k s h d φ).alts
  owners n k s h d nil = tt
  owners n k s h d top = tt
  owners n k s h d (atom a) = tt
  owners n k s h d (at f φ) = owners (suc n) k n h d φ
  owners n k s h d (same p ps) = tt
  owners n k s h d (all φ φs) =
      both_owned h k (width φ) (widths φs) (given n k s h d φ).alts (given_all (n + count φ) (k + width φ) s h d φs).alts
      (owners n k s h d φ) (owners_all (n + count φ) (k + width φ) s h d φs)
  owners n k s h d (any φ φs) = (
    inl refl,
    sides_owned h k (width φ) (ranks φs) (given n (suc k) s k (suc d) φ).alts (given_any (n + count φ) (suc k + width φ) s h k d φs).alts
        (owners n (suc k) s k (suc d) φ) (owners_any (n + count φ) (suc k + width φ) s h k d φs),
  )

  owners_all : (n k s h d : ℕ) (φs : Formulas) → Owned h k (k + widths φs) (given_all n k s h d φs).alts
  owners_all n k s h d (one φ) = owners n k s h d φ
  owners_all n k s h d (φ also φs) =
      both_owned h k (width φ) (widths φs) (given n k s h d φ).alts (given_all (n + count φ) (k + width φ) s h d φs).alts
      (owners n k s h d φ) (owners_all (n + count φ) (k + width φ) s h d φs)

  owners_any : (n k s h g d : ℕ) (φs : Formulas) → Owned h k (k + ranks φs) (given_any n k s h g d φs).alts
  owners_any n k s h g d (one φ) =
      (inl refl, side_owned h k (width φ) (given n (suc k) s k (suc d) φ).alts (owners n (suc k) s k (suc d) φ))
  owners_any n k s h g d (φ also φs) = (
    inl refl,
    sides_owned h k (width φ) (ranks φs) (given n (suc k) s k (suc d) φ).alts (given_any (n + count φ) (suc k + width φ) s h g d φs).alts
        (owners n (suc k) s k (suc d) φ) (owners_any (n + count φ) (suc k + width φ) s h g d φs),
  )

-- their number
both_long : (A B : List Alt) (a b : ℕ) → length A ≡ a → length B ≡ b → length (A ++ B) ≡ a + b
both_long A B a b p q = length-append A B ∙ ap₂ {C = ℕ} ◌+◌ p q

sides_long : (x : Alt) (A B : List Alt) (a b : ℕ) → length A ≡ a → length B ≡ b → length (x ∷ A ++ B) ≡ suc a + b
sides_long x A B a b p q = let e = both_long A B a b p q in omega (arith, e)

mutual
  pub alts_width : (n k s h d : ℕ) (φ : Formula) → length (given n k s h d φ).alts ≡ width φ
  alts_width n k s h d nil = refl
  alts_width n k s h d top = refl
  alts_width n k s h d (atom a) = refl
  alts_width n k s h d (at f φ) = alts_width (suc n) k n h d φ
  alts_width n k s h d (same p ps) = refl
  alts_width n k s h d (all φ φs) =
      both_long (given n k s h d φ).alts (given_all (n + count φ) (k + width φ) s h d φs).alts (width φ) (widths φs)
      (alts_width n k s h d φ) (all_width (n + count φ) (k + width φ) s h d φs)
  alts_width n k s h d (any φ φs) =
      sides_long (record { owner = h; group = k; spot = s; depth = suc d })
      (given n (suc k) s k (suc d) φ).alts (given_any (n + count φ) (suc k + width φ) s h k d φs).alts (width φ) (ranks φs)
      (alts_width n (suc k) s k (suc d) φ) (any_width (n + count φ) (suc k + width φ) s h k d φs)

  all_width : (n k s h d : ℕ) (φs : Formulas) → length (given_all n k s h d φs).alts ≡ widths φs
  all_width n k s h d (one φ) = alts_width n k s h d φ
  all_width n k s h d (φ also φs) =
      both_long (given n k s h d φ).alts (given_all (n + count φ) (k + width φ) s h d φs).alts (width φ) (widths φs)
      (alts_width n k s h d φ) (all_width (n + count φ) (k + width φ) s h d φs)

  any_width : (n k s h g d : ℕ) (φs : Formulas) → length (given_any n k s h g d φs).alts ≡ ranks φs
  any_width n k s h g d (one φ) = let e = alts_width n (suc k) s k (suc d) φ in omega (arith, e)
  any_width n k s h g d (φ also φs) =
      sides_long (record { owner = h; group = g; spot = s; depth = suc d })
      (given n (suc k) s k (suc d) φ).alts (given_any (n + count φ) (suc k + width φ) s h g d φs).alts (width φ) (ranks φs)
      (alts_width n (suc k) s k (suc d) φ) (any_width (n + count φ) (suc k + width φ) s h g d φs)

-- ---- the tables
module _ (T : Plan) (L : List Item) (N : ℕ) (down : (i : ℕ) → i < N → T.parent (suc i) ≤ i) where
  trail_fuel : (m m' s : ℕ) → s ≤ m → s ≤ m' → s ≤ N → trail_in T m s ≡ trail_in T m' s
  trail_fuel zero zero s a b c = refl
  trail_fuel zero (suc m') zero a b c = refl
  trail_fuel zero (suc m') (suc i) a b c = absurd (omega arith)
  trail_fuel (suc m) zero zero a b c = refl
  trail_fuel (suc m) zero (suc i) a b c = absurd (omega arith)
  trail_fuel (suc m) (suc m') zero a b c = refl
  trail_fuel (suc m) (suc m') (suc i) a b c =
      let p = T.parent (suc i) in
      let d = down i (omega arith) in
      ap (λ (es : List Edge). es ++ ((p, T.feature (suc i), suc i) ∷ []))
      (trail_fuel m m' p (omega (arith, d)) (omega (arith, d)) (omega (arith, d)))

  trail_next : (n s f : ℕ) → s < n → n ≤ N → T.parent n ≡ s → T.feature n ≡ f → plan_trail T n ≡ plan_trail T s ++ ((s, f, n) ∷ [])
  trail_next zero s f l b p q = absurd (omega arith)
  trail_next (suc i) s f l b p q =
      ap₂ {C = List Edge} (λ (x y : ℕ). trail_in T i x ++ ((x, y, suc i) ∷ [])) p q
      ∙ ap (λ (es : List Edge). es ++ ((s, f, suc i) ∷ [])) (trail_fuel i s s (omega arith) (omega arith) (omega arith))

  leads_left : (l m : List (ℕ × Edge)) → ArcsLead T N (l ++ m) → ArcsLead T N l
  leads_left [] m p = tt
  leads_left (e ∷ l) m p = (p.0, leads_left l m p.1)

  leads_right : (l m : List (ℕ × Edge)) → ArcsLead T N (l ++ m) → ArcsLead T N m
  leads_right [] m p = p
  leads_right (e ∷ l) m p = leads_right l m p.1

  stands_left : (f : ℕ → ℕ) (k : ℕ) (A B : List Alt) → AltsStand T f k (A ++ B) → AltsStand T f k A
  stands_left f k [] B p = tt
  stands_left f k (a ∷ A) B p = (p.0, p.1, p.2, stands_left (renewed f a.owner k) (suc k) A B p.3)

  stands_right : (f : ℕ → ℕ) (k : ℕ) (A B : List Alt) → AltsStand T f k (A ++ B) → AltsStand T (lasts f k A) (k + length A) B
  stands_right f k [] B p = let e : k ≡ k + 0 = omega arith in subst (λ (z : ℕ). AltsStand T f z B) e p
  stands_right f k (a ∷ A) B p =
      let e : suc k + length A ≡ k + length (a ∷ A) = omega arith in
      subst (λ (z : ℕ). AltsStand T (lasts (renewed f a.owner k) (suc k) A) z B) e
      (stands_right (renewed f a.owner k) (suc k) A B p.3)

  -- all that is given, w alternatives from k on, stands in the tables; f is the last one of each owner before
  record Here (f : ℕ → ℕ) (k w : ℕ) (x : Out) : Type 0 where
    leads : ArcsLead T N x.arcs
    stands : AltsStand T f k x.alts
    ends : (j : ℕ) → k ≤ j → j < k + w → T.last j ≡ lasts f k x.alts j

  abbrev Fresh : (ℕ → ℕ) → ℕ → Type 0
  Fresh f k = (j : ℕ) → k ≤ j → f j ≡ 0

  here_left : (f : ℕ → ℕ) (h k a b : ℕ) (x y : Out) → h < k → Owned h (k + a) (k + a + b) y.alts → Here f k (a + b) (x then y) →
      Here f k a x
  here_left f h k a b x y l o e = record {
    leads = leads_left x.arcs y.arcs e.leads;
    stands = stands_left f k x.alts y.alts e.stands;
    ends = λ j p q. e.ends j p (omega arith) ∙ lasts_both f k x.alts y.alts j
        ∙ lasts_off j h (k + a) (k + a + b) (lasts f k x.alts) (k + length x.alts) y.alts (λ z. omega arith) (inl q) o;
  }

  here_right : (f : ℕ → ℕ) (k a b : ℕ) (x y : Out) → length x.alts ≡ a → Here f k (a + b) (x then y) →
      Here (lasts f k x.alts) (k + a) b y
  here_right f k a b x y c e = record {
    leads = leads_right x.arcs y.arcs e.leads;
    stands = subst (λ (z : ℕ). AltsStand T (lasts f k x.alts) (k + z) y.alts) c (stands_right f k x.alts y.alts e.stands);
    ends = λ j p q. e.ends j (omega arith) (omega arith) ∙ lasts_both f k x.alts y.alts j
        ∙ ap (λ (z : ℕ). lasts (lasts f k x.alts) (k + z) y.alts j) c;
  }

  lies_next : (k z y c : ℕ) (ds es : Rows) → PlanLiesRows T L k z ds y → PlanLiesRows T L (k + wide_rows ds) y es c →
      PlanLiesRows T L k z (ds next es) c
  lies_next k z y c over es p q =
      let e : k + 0 ≡ k = omega arith in
      subst (λ (v : ℕ). PlanLiesRows T L k v es c) p (subst (λ (v : ℕ). PlanLiesRows T L v y es c) e q)
  lies_next k z y c (a besides ds) es p q =
      let e : k + (wide_cells a + wide_rows ds) ≡ k + wide_cells a + wide_rows ds = omega arith in
      (p.0, p.1, lies_next (k + wide_cells a) p.0 y c ds es p.2 (subst (λ (v : ℕ). PlanLiesRows T L v y es c) e q))

  -- a part, and those after it
  all_step : (n k s h d : ℕ) (es : List Edge) (f : ℕ → ℕ) (φ : Formula) (φs : Formulas) →
      let X = (given n k s h d φ).alts in
      let Y = (given_all (n + count φ) (k + width φ) s h d φs).alts in
      PlanLiesRows T L k (f h) (lay n s es φ) (lasts f k X h) →
      PlanLiesRows T L (k + width φ) (lasts f k X h) (lay_all (n + count φ) s es φs) (lasts (lasts f k X) (k + width φ) Y h) →
      PlanLiesRows T L k (f h) (lay n s es φ next lay_all (n + count φ) s es φs) (lasts f k (X ++ Y) h)
  all_step n k s h d es f φ φs p q =
      let X = (given n k s h d φ).alts in
      let Y = (given_all (n + count φ) (k + width φ) s h d φs).alts in
      let c = lasts (lasts f k X) (k + width φ) Y h in
      let e : lasts f k (X ++ Y) h ≡ c = lasts_both f k X Y h ∙ ap (λ (z : ℕ). lasts (lasts f k X) (k + z) Y h) (alts_width n k s h d φ) in
      subst (PlanLiesRows T L k (f h) (lay n s es φ next lay_all (n + count φ) s es φs)) (sym e)
      (lies_next k (f h) (lasts f k X h) c (lay n s es φ) (lay_all (n + count φ) s es φs) p
      (subst (λ (z : ℕ). PlanLiesRows T L (k + z) (lasts f k X h) (lay_all (n + count φ) s es φs) c) (sym (lay_wide n s es φ)) q))

  -- an alternative of h
  side_lies : (n k s h d : ℕ) (es : List Edge) (f : ℕ → ℕ) (φ : Formula) → h < k → Fresh f k → es ≡ plan_trail T s → Side L n k s φ →
      T.spot k ≡ s →
      let A = (given n (suc k) s k (suc d) φ).alts in
      T.last k ≡ lasts (renewed f h k) (suc k) A k →
      PlanLiesRows T L (suc k) (renewed f h k k) (lay n s es φ) (lasts (renewed f h k) (suc k) A k) →
      PlanLies T L k (laid (of_edges es plus sheet n s φ) (lay n s es φ))
  side_lies n k s h d es f φ b fr t side at-spot last p = (
    side_own L n k s es φ side ∙ ap (λ (z : List Edge). of_edges z plus given_to k L) (t ∙ ap (plan_trail T) (sym at-spot)),
    subst (λ (z : ℕ). PlanLiesRows T L (suc k) z (lay n s es φ) (T.last k)) (renewed_else f h k k (λ e. omega arith) ∙ fr k (omega arith))
        (subst (PlanLiesRows T L (suc k) (renewed f h k k) (lay n s es φ)) (sym last) p),
  )

  -- the first part, and those after it
  part_here : (n k s h d : ℕ) (f : ℕ → ℕ) (φ : Formula) (φs : Formulas) → h < k →
      Here f k (width φ + widths φs) (given n k s h d φ then given_all (n + count φ) (k + width φ) s h d φs) →
      Here f k (width φ) (given n k s h d φ)
  part_here n k s h d f φ φs b e =
      here_left f h k (width φ) (widths φs) (given n k s h d φ) (given_all (n + count φ) (k + width φ) s h d φs) b
      (owners_all (n + count φ) (k + width φ) s h d φs) e

  parts_here : (n k s h d : ℕ) (f : ℕ → ℕ) (φ : Formula) (φs : Formulas) →
      Here f k (width φ + widths φs) (given n k s h d φ then given_all (n + count φ) (k + width φ) s h d φs) →
      Here (lasts f k (given n k s h d φ).alts) (k + width φ) (widths φs) (given_all (n + count φ) (k + width φ) s h d φs)
  parts_here n k s h d f φ φs e = here_right f k (width φ) (widths φs) (given n k s h d φ) (given_all (n + count φ) (k + width φ) s h d φs)
      (alts_width n k s h d φ) e

  part_fresh : (n k s h d : ℕ) (f : ℕ → ℕ) (φ : Formula) → h < k → Fresh f k → Fresh (lasts f k (given n k s h d φ).alts) (k + width φ)
  part_fresh n k s h d f φ b fr j l =
      lasts_off j h k (k + width φ) f k (given n k s h d φ).alts (λ e. omega arith) (inr l) (owners n k s h d φ) ∙ fr j (omega arith)

  here_tail : (f : ℕ → ℕ) (h g s d k w : ℕ) (x : Out) → Here f k (suc w) (begins h g s d then x) → Here (renewed f h k) (suc k) w x
  here_tail f h g s d k w x e = record { leads = e.leads; stands = e.stands.3; ends = λ j p q. e.ends j (omega arith) (omega arith) }

  -- the last alternative of h is that with the number k, while it is gone through
  side_last : (n k s h d : ℕ) (f : ℕ → ℕ) (φ : Formula) → h < k → lasts (renewed f h k) (suc k) (given n (suc k) s k (suc d) φ).alts h ≡ k
  side_last n k s h d f φ b =
      lasts_off h k (suc k) (suc k + width φ) (renewed f h k) (suc k) (given n (suc k) s k (suc d) φ).alts (λ e. omega arith)
      (inl (omega arith))
      (owners n (suc k) s k (suc d) φ)
      ∙ renewed_here f h k

  side_fresh : (n k s h d : ℕ) (f : ℕ → ℕ) (φ : Formula) → h < k → Fresh f k →
      Fresh (lasts (renewed f h k) (suc k) (given n (suc k) s k (suc d) φ).alts) (suc k + width φ)
  side_fresh n k s h d f φ b fr j l =
      lasts_off j k (suc k) (suc k + width φ) (renewed f h k) (suc k) (given n (suc k) s k (suc d) φ).alts (λ e. omega arith) (inr l)
      (owners n (suc k) s k (suc d) φ)
      ∙ renewed_else f h k j (λ e. omega arith)
      ∙ fr j (omega arith)

  inner_fresh : (k h : ℕ) (f : ℕ → ℕ) → h < k → Fresh f k → Fresh (renewed f h k) (suc k)
  inner_fresh k h f b fr j l = renewed_else f h k j (λ e. omega arith) ∙ fr j (omega arith)

  -- an alternative of h, and those after it
  module _ (n k s h g d : ℕ) (es : List Edge) (f : ℕ → ℕ) (φ : Formula) (φs : Formulas) (b : h < k) (fr : Fresh f k)
      (t : es ≡ plan_trail T s)
      (p : Holds L k (suc (width φ) + ranks φs) (flat_items n (suc k) s k φ ++ flat_any (n + count φ) (suc k + width φ) s φs))
      (e : Here f k (suc (width φ) + ranks φs)
      (begins h g s (suc d) then given n (suc k) s k (suc d) φ then given_any (n + count φ) (suc k + width φ) s h g d φs)) where
    abbrev f₁ : ℕ → ℕ
    f₁ = renewed f h k

    abbrev X : Out
    X = given n (suc k) s k (suc d) φ

    abbrev Y : Out
    Y = given_any (n + count φ) (suc k + width φ) s h g d φs

    abbrev f₂ : ℕ → ℕ
    f₂ = lasts f₁ (suc k) X.alts

    inner : Here f₁ (suc k) (width φ + ranks φs) (X then Y)
    inner =
        let q : suc (width φ) + ranks φs ≡ suc (width φ + ranks φs) = omega arith in
        here_tail f h g s (suc d) k (width φ + ranks φs) (X then Y)
        (subst (λ (z : ℕ). Here f k z (begins h g s (suc d) then X then Y)) q e)

    first_here : Here f₁ (suc k) (width φ) X
    first_here = here_left f₁ h (suc k) (width φ) (ranks φs) X Y (omega arith) (owners_any (n + count φ) (suc k + width φ) s h g d φs) inner

    rest_here : Here f₂ (suc k + width φ) (ranks φs) Y
    rest_here = here_right f₁ (suc k) (width φ) (ranks φs) X Y (alts_width n (suc k) s k (suc d) φ) inner

    own_last : T.last k ≡ lasts f₁ (suc k) X.alts k
    own_last =
        e.ends k (omega arith) (omega arith)
        ∙ lasts_both f₁ (suc k) X.alts Y.alts k
        ∙ lasts_off k h (suc k + width φ) (suc k + width φ + ranks φs) f₂ (suc k + length X.alts) Y.alts (λ z. omega arith)
        (inl (omega arith))
        (owners_any (n + count φ) (suc k + width φ) s h g d φs)

    cells_step : PlanLiesRows T L (suc k) (f₁ k) (lay n s es φ) (lasts f₁ (suc k) X.alts k) →
        PlanLiesCells T L g (suc k + width φ) (f₂ h) (cells (n + count φ) s es φs) (lasts f₂ (suc k + width φ) Y.alts h) →
        PlanLiesCells T L g k (f h) (laid (of_edges es plus sheet n s φ) (lay n s es φ) against cells (n + count φ) s es φs)
        (lasts f₁ (suc k) (X.alts ++ Y.alts) h)
    cells_step i r =
        let c = lasts f₂ (suc k + width φ) Y.alts h in
        let z : lasts f₁ (suc k) (X.alts ++ Y.alts) h ≡ c =
        lasts_both f₁ (suc k) X.alts Y.alts h
        ∙ ap (λ (v : ℕ). lasts f₂ (suc k + v) Y.alts h) (alts_width n (suc k) s k (suc d) φ) in (
          e.stands.2,
          e.stands.0,
          side_lies n k s h d es f φ b fr t (first_side L n k s φ φs p) e.stands.1 own_last i,
          subst (PlanLiesCells T L g (suc k + wide_rows (lay n s es φ)) k (cells (n + count φ) s es φs)) (sym z)
              (subst (λ (v : ℕ). PlanLiesCells T L g (suc k + v) k (cells (n + count φ) s es φs) c) (sym (lay_wide n s es φ))
              (subst (λ (v : ℕ). PlanLiesCells T L g (suc k + width φ) v (cells (n + count φ) s es φs) c) (side_last n k s h d f φ b) r)),
        )

  mutual
    lay_lies : (n k s h d : ℕ) (es : List Edge) (f : ℕ → ℕ) (φ : Formula) → h < k → Fresh f k → es ≡ plan_trail T s →
        Holds L k (width φ) (flat_items n k s h φ) → Here f k (width φ) (given n k s h d φ) →
        PlanLiesRows T L k (f h) (lay n s es φ) (lasts f k (given n k s h d φ).alts h)
    lay_lies n k s h d es f nil b fr t p e = refl
    lay_lies n k s h d es f top b fr t p e = refl
    lay_lies n k s h d es f (atom a) b fr t p e = refl
    lay_lies n k s h d es f (at a φ) b fr t p e =
        let (l, m, q, r) = e.leads.0 in
        lay_lies (suc n) k n h d (es ++ ((s, a, n) ∷ [])) f φ b fr
        (ap (λ (z : List Edge). z ++ ((s, a, n) ∷ [])) t ∙ sym (trail_next n s a l m q r))
        (past L k (flat_items (suc n) k n h φ) (h, of_edges ((s, a, n) ∷ [])) (width φ) b p)
        (record { leads = e.leads.1; stands = e.stands; ends = e.ends })
    lay_lies n k s h d es f (same q qs) b fr t p e = refl
    lay_lies n k s h d es f (all φ φs) b fr t p e = all_step n k s h d es f φ φs
        (lay_lies n k s h d es f φ b fr t (first_part_of L n k s h φ φs b p) (part_here n k s h d f φ φs b e))
        (all_lies (n + count φ) (k + width φ) s h d es (lasts f k (given n k s h d φ).alts) φs (omega arith)
        (part_fresh n k s h d f φ b fr) t
        (other_parts_of L n k s h φ φs b p) (parts_here n k s h d f φ φs e))
    lay_lies n k s h d es f (any φ φs) b fr t p e = (
      lasts f k (given n k s h d (any φ φs)).alts h,
      cells_step n k s h k d es f φ φs b fr t p e
          (lay_lies n (suc k) s k (suc d) es (renewed f h k) φ (omega arith) (inner_fresh k h f b fr) t
          (side_in L n k s φ (first_side L n k s φ φs p)) (first_here n k s h k d es f φ φs b fr t p e))
          (cells_lies (n + count φ) (suc k + width φ) s h k d es (lasts (renewed f h k) (suc k) (given n (suc k) s k (suc d) φ).alts) φs
          (omega arith) (side_fresh n k s h d f φ b fr) t (other_sides L n k s φ φs p) (rest_here n k s h k d es f φ φs b fr t p e)),
      refl,
    )

    all_lies : (n k s h d : ℕ) (es : List Edge) (f : ℕ → ℕ) (φs : Formulas) → h < k → Fresh f k → es ≡ plan_trail T s →
        Holds L k (widths φs) (flat_all n k s h φs) → Here f k (widths φs) (given_all n k s h d φs) →
        PlanLiesRows T L k (f h) (lay_all n s es φs) (lasts f k (given_all n k s h d φs).alts h)
    all_lies n k s h d es f (one φ) b fr t p e = lay_lies n k s h d es f φ b fr t p e
    all_lies n k s h d es f (φ also φs) b fr t p e = all_step n k s h d es f φ φs
        (lay_lies n k s h d es f φ b fr t (first_part_of L n k s h φ φs b p) (part_here n k s h d f φ φs b e))
        (all_lies (n + count φ) (k + width φ) s h d es (lasts f k (given n k s h d φ).alts) φs (omega arith)
        (part_fresh n k s h d f φ b fr) t
        (other_parts_of L n k s h φ φs b p) (parts_here n k s h d f φ φs e))

    cells_lies : (n k s h g d : ℕ) (es : List Edge) (f : ℕ → ℕ) (φs : Formulas) → h < k → Fresh f k → es ≡ plan_trail T s →
        Holds L k (ranks φs) (flat_any n k s φs) → Here f k (ranks φs) (given_any n k s h g d φs) →
        PlanLiesCells T L g k (f h) (cells n s es φs) (lasts f k (given_any n k s h g d φs).alts h)
    cells_lies n k s h g d es f (one φ) b fr t p e = (
      e.stands.2,
      e.stands.0,
      side_lies n k s h d es f φ b fr t p e.stands.1 (e.ends k (omega arith) (omega arith))
          (lay_lies n (suc k) s k (suc d) es (renewed f h k) φ (omega arith) (inner_fresh k h f b fr) t (side_in L n k s φ p)
          (here_tail f h g s (suc d) k (width φ) (given n (suc k) s k (suc d) φ) e)),
      side_last n k s h d f φ b,
    )
    cells_lies n k s h g d es f (φ also φs) b fr t p e =
        cells_step n k s h g d es f φ φs b fr t p e
        (lay_lies n (suc k) s k (suc d) es (renewed f h k) φ (omega arith) (inner_fresh k h f b fr) t
        (side_in L n k s φ (first_side L n k s φ φs p)) (first_here n k s h g d es f φ φs b fr t p e))
        (cells_lies (n + count φ) (suc k + width φ) s h g d es (lasts (renewed f h k) (suc k) (given n (suc k) s k (suc d) φ).alts) φs
        (omega arith) (side_fresh n k s h d f φ b fr) t (other_sides L n k s φ φs p) (rest_here n k s h g d es f φ φs b fr t p e))

-- the whole
pub whole_lies : (T : Plan) (N : ℕ) → ((i : ℕ) → i < N → T.parent (suc i) ≤ i) → (φ : Formula) → T.spot 0 ≡ 0 →
    ArcsLead T N (given 1 1 0 0 0 φ).arcs → AltsStand T none_yet 1 (given 1 1 0 0 0 φ).alts →
    ((j : ℕ) → j ≤ width φ → T.last j ≡ lasts none_yet 1 (given 1 1 0 0 0 φ).alts j) → PlanLies T (flattened φ) 0 (laid_out φ)
whole_lies T N down φ z leads stands ends = (
  sym (flat_own 1 1 0 0 φ (omega arith)) ∙ ap (λ (s : ℕ). of_edges (plan_trail T s) plus given_to 0 (flattened φ)) (sym z),
  subst (PlanLiesRows T (flattened φ) 1 0 (lay 1 0 [] φ)) (sym (ends 0 (omega arith)))
      (lay_lies T (flattened φ) N down 1 1 0 0 0 [] none_yet φ (omega arith) (λ j l. refl) refl (λ j l u. refl)
      (record { leads = leads; stands = stands; ends = λ j p q. ends j (omega arith) })),
)
