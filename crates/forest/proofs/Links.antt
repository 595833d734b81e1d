-- The laws of chains. Assumes nothing.
use mathlib.Core.Path.{◌≡◌, refl, sym, ap, ◌∙◌, subst}
use mathlib.Core.List.Memᴰ
use mathlib.Core.List.{List, [], ◌∷◌, ◌++◌, Memᴰ}
use mathlib.Core.Logic.{◌⊎◌, inl, inr, ⊎_elim}
use Prim.Native.Nat.{ℕ, zero, suc, ◌+◌, ◌-◌, ◌≤◌, ◌<◌}
use native.Mathlib.Omega.{arith}
use native.Mathlib.Decide.{ℕ_discrete}
use lib.ListN.{length, set, get_or}
use borrow.Author.Tests.{eq-eqb, ne_eqb}
use Rattle.area.specs.Map.{NEXT, STACK}
use Rattle.forest.specs.State.{Chain, Seg, First, None, Way, hops, Grow, Calm, total_length, one_of, chained, frames}
use Rattle.forest.proofs.Steps.{steps}

-- ---- a chain
pub chain_same : (w w' : List ℕ) (x : ℕ) (xs : List ℕ) → ((q : ℕ) → Memᴰ q xs → get_or w' (NEXT + q) 0 ≡ get_or w (NEXT + q) 0) →
    Chain w x xs → Chain w' x xs
chain_same w w' x [] f c = c
chain_same w w' x (j ∷ xs) f c = (
  c.0,
  (
    c.1.0,
    subst (λ (z : ℕ). Chain w' z xs) (sym (f j (Memᴰ.head refl)))
        (chain_same w w' (get_or w (NEXT + j) 0) xs (λ q m. f q (Memᴰ.tail m)) c.1.1),
  ),
)

-- it is empty from 0
pub chain_zero : (w : List ℕ) (x : ℕ) (xs : List ℕ) → x ≡ 0 → Chain w x xs → xs ≡ []
chain_zero w x [] e c = refl
chain_zero w x (j ∷ xs) e c = let d = c.0 in absurd (omega arith)

-- from an arc of it on
pub chain_from : (w : List ℕ) (x : ℕ) (xs : List ℕ) (j : ℕ) → Chain w x xs → Memᴰ j xs →
    (ys : List ℕ) × (Chain w (suc j) ys × ((length ys ≤ length xs) × ((q : ℕ) → Memᴰ q ys → Memᴰ q xs)))
chain_from w x [] j c m = absurd (Memᴰ.not-nil m)
chain_from w x (i ∷ xs) j c m = ⊎_elim
    (λ e. ((i ∷ xs), ((ap suc e, c.1), (omega arith, λ q z. z))))
    (λ z. let r = chain_from w (get_or w (NEXT + i) 0) xs j c.1.1 z in let l = r.1.1.0 in
    (r.0, (r.1.0, (omega arith, λ q u. Memᴰ.tail (r.1.1.1 q u)))))
    (Memᴰ.cases_cons m)

-- the next arc
pub chain_next : (w : List ℕ) (x : ℕ) (xs : List ℕ) (j i : ℕ) → Chain w x xs → Memᴰ j xs → get_or w (NEXT + j) 0 ≡ suc i → Memᴰ i xs
chain_next w x [] j i c m e = absurd (Memᴰ.not-nil m)
chain_next w x (h ∷ xs) j i c m e = ⊎_elim
    (λ z. Memᴰ.tail (head_of xs (subst (λ (y : ℕ). Chain w y xs) (ap (λ (y : ℕ). get_or w (NEXT + y) 0) (sym z) ∙ e) c.1.1)))
    (λ z. Memᴰ.tail (chain_next w (get_or w (NEXT + h) 0) xs j i c.1.1 z e))
    (Memᴰ.cases_cons m)
  where
    head_of : (ys : List ℕ) → Chain w (suc i) ys → Memᴰ i ys
    head_of [] d = absurd (omega arith)
    head_of (y ∷ ys) d = let u : i ≡ y = let v = d.0 in omega arith in Memᴰ.head u

-- nothing has changed
pub calm_refl : (w : List ℕ) → Calm w w
calm_refl w = record { nexts = λ j h. refl; firsts = λ c h z. refl }

-- ---- the last arc of a chain gets one after it
pub seg_link : (w w' : List ℕ) (z h x : ℕ) (xs : List ℕ) → Chain w x xs → Memᴰ z xs → get_or w (NEXT + z) 0 ≡ 0 →
    get_or w' (NEXT + z) 0 ≡ h
    → ((q : ℕ) → q < 2048 → (q ≡ z → ⊥) → get_or w' (NEXT + q) 0 ≡ get_or w (NEXT + q) 0) → ((q : ℕ) → Memᴰ q xs → suc q ≡ h → ⊥) →
    Seg w' h x xs
seg_link w w' z h x [] c m e0 e1 f g = absurd (Memᴰ.not-nil m)
seg_link w w' z h x (j ∷ xs) c m e0 e1 f g =
    go (λ u. seg_link w w' z h (get_or w (NEXT + j) 0) xs c.1.1 u e0 e1 f (λ q v. g q (Memᴰ.tail v))) (ℕ_discrete j z)
  where
    go : (Memᴰ z xs → Seg w' h (get_or w (NEXT + j) 0) xs) → Dec (j ≡ z) → Seg w' h x (j ∷ xs)
    go r (yes e) =
        let n : xs ≡ [] = chain_zero w (get_or w (NEXT + j) 0) xs (ap (λ (y : ℕ). get_or w (NEXT + y) 0) e ∙ e0) c.1.1 in (
          c.0,
          (
            c.1.0,
            (
              g j (Memᴰ.head refl),
              subst (λ (ys : List ℕ). Seg w' h (get_or w' (NEXT + j) 0) ys) (sym n) (ap (λ (y : ℕ). get_or w' (NEXT + y) 0) e ∙ e1),
            ),
          ),
        )
    go r (no n) = (
      c.0,
      (
        c.1.0,
        (
          g j (Memᴰ.head refl),
          subst (λ (y : ℕ). Seg w' h y xs) (sym (f j c.1.0 n)) (⊎_elim (λ e. absurd (n (sym e))) r (Memᴰ.cases_cons m)),
        ),
      ),
    )

pub seg_chain : (w : List ℕ) (b x : ℕ) (zs ys : List ℕ) → Seg w b x zs → Chain w b ys → Chain w x (zs ++ ys)
seg_chain w b x [] ys s c = subst (λ (z : ℕ). Chain w z ys) (sym s) c
seg_chain w b x (j ∷ zs) ys s c = (s.0, (s.1.0, seg_chain w b (get_or w (NEXT + j) 0) zs ys s.1.1.1 c))

pub seg_grow : (w w' : List ℕ) (b x : ℕ) (zs : List ℕ) → (b ≡ 0 → ⊥) → Grow w w' → Seg w b x zs → Seg w' b x zs
seg_grow w w' b x [] n g s = s
seg_grow w w' b x (j ∷ zs) n g s = (
  s.0,
  (
    s.1.0,
    (
      s.1.1.0,
      subst (λ (z : ℕ). Seg w' b z zs)
          (sym (g j s.1.0 (λ e. away zs (subst (λ (z : ℕ). Seg w b z zs) e s.1.1.1))))
          (seg_grow w w' b (get_or w (NEXT + j) 0) zs n g s.1.1.1),
    ),
  ),
)
  where
    away : (ys : List ℕ) → Seg w b 0 ys → ⊥
    away [] e = n (sym e)
    away (y ∷ ys) e = let u = e.0 in omega arith

-- ---- the first arc with a feature
pub first_mem : (F : List ℕ) (f : ℕ) (xs : List ℕ) (i : ℕ) → First F f xs i → Memᴰ i xs
first_mem F f [] i p = absurd p
first_mem F f (j ∷ xs) i (inl p) = Memᴰ.head p.1
first_mem F f (j ∷ xs) i (inr p) = Memᴰ.tail (first_mem F f xs i p.1)

pub first_feature : (F : List ℕ) (f : ℕ) (xs : List ℕ) (i : ℕ) → First F f xs i → get_or F i 0 ≡ f
first_feature F f [] i p = absurd p
first_feature F f (j ∷ xs) i (inl p) = ap (λ (z : ℕ). get_or F z 0) p.1 ∙ p.0
first_feature F f (j ∷ xs) i (inr p) = first_feature F f xs i p.1

pub first_left : (F : List ℕ) (f : ℕ) (xs ys : List ℕ) (i : ℕ) → First F f xs i → First F f (xs ++ ys) i
first_left F f [] ys i p = absurd p
first_left F f (j ∷ xs) ys i (inl p) = inl p
first_left F f (j ∷ xs) ys i (inr p) = inr (p.0, first_left F f xs ys i p.1)

pub first_right : (F : List ℕ) (f : ℕ) (xs ys : List ℕ) (i : ℕ) → None F f xs → First F f ys i → First F f (xs ++ ys) i
first_right F f [] ys i n p = p
first_right F f (j ∷ xs) ys i n p = inr (n.0, first_right F f xs ys i n.1 p)

pub first_case : (F : List ℕ) (f : ℕ) (xs : List ℕ) → ((i : ℕ) × First F f xs i) ⊎ None F f xs
first_case F f [] = inr tt
first_case F f (j ∷ xs) = go (ℕ_discrete (get_or F j 0) f) (first_case F f xs)
  where
    go : Dec (get_or F j 0 ≡ f) → ((i : ℕ) × First F f xs i) ⊎ None F f xs → ((i : ℕ) × First F f (j ∷ xs) i) ⊎ None F f (j ∷ xs)
    go (yes e) r = inl (j, inl (e, refl))
    go (no n) (inl p) = inl (p.0, inr (n, p.1))
    go (no n) (inr p) = inr (n, p)

pub first_det : (F : List ℕ) (f : ℕ) (xs : List ℕ) (i j : ℕ) → First F f xs i → First F f xs j → i ≡ j
first_det F f [] i j p q = absurd p
first_det F f (x ∷ xs) i j (inl p) (inl q) = p.1 ∙ sym q.1
first_det F f (x ∷ xs) i j (inl p) (inr q) = absurd (q.0 p.0)
first_det F f (x ∷ xs) i j (inr p) (inl q) = absurd (p.0 q.0)
first_det F f (x ∷ xs) i j (inr p) (inr q) = first_det F f xs i j p.1 q.1

pub none_first : (F : List ℕ) (f : ℕ) (xs : List ℕ) (i : ℕ) → None F f xs → First F f xs i → ⊥
none_first F f [] i n p = p
none_first F f (j ∷ xs) i n (inl p) = n.0 p.0
none_first F f (j ∷ xs) i n (inr p) = none_first F f xs i n.1 p.1

-- ---- ways
pub first_way : (w F : List ℕ) (f x : ℕ) (xs : List ℕ) (i : ℕ) → Chain w x xs → First F f xs i → (js : List ℕ) × Way w F f x js i
first_way w F f x [] i c p = absurd p
first_way w F f x (j ∷ xs) i c (inl p) = ([], (c.0 ∙ ap suc (sym p.1), ap (λ (z : ℕ). get_or F z 0) p.1 ∙ p.0))
first_way w F f x (j ∷ xs) i c (inr p) = let r = first_way w F f (get_or w (NEXT + j) 0) xs i c.1.1 p.1 in
    (j ∷ r.0, (c.0, (c.1.0, (p.0, r.1))))

pub way_first : (w F : List ℕ) (f x : ℕ) (js : List ℕ) (i : ℕ) (xs : List ℕ) → Way w F f x js i → Chain w x xs → First F f xs i
way_first w F f x [] i [] p c = let e = p.0 in absurd (omega arith)
way_first w F f x [] i (y ∷ xs) p c = let e : i ≡ y = let a = p.0 in let b = c.0 in omega arith in
    inl (ap (λ (z : ℕ). get_or F z 0) (sym e) ∙ p.1, e)
way_first w F f x (j ∷ js) i [] p c = let e = p.0 in absurd (omega arith)
way_first w F f x (j ∷ js) i (y ∷ xs) p c =
    let e : j ≡ y = let a = p.0 in let b = c.0 in omega arith in
    inr (
      subst (λ (z : ℕ). get_or F z 0 ≡ f → ⊥) e p.1.1.0,
      way_first w F f (get_or w (NEXT + y) 0) js i xs (subst (λ (z : ℕ). Way w F f (get_or w (NEXT + z) 0) js i) e p.1.1.1) c.1.1,
    )

pub way_grow : (w w' F : List ℕ) (f x : ℕ) (js : List ℕ) (i : ℕ) → Grow w w' → Way w F f x js i → Way w' F f x js i
way_grow w w' F f x [] i g p = p
way_grow w w' F f x (j ∷ js) i g p = (
  p.0,
  (
    p.1.0,
    (
      p.1.1.0,
      subst (λ (z : ℕ). Way w' F f z js i)
          (sym (g j p.1.0 (λ e. away js (subst (λ (z : ℕ). Way w F f z js i) e p.1.1.1))))
          (way_grow w w' F f (get_or w (NEXT + j) 0) js i g p.1.1.1),
    ),
  ),
)
  where
    away : (l : List ℕ) → Way w F f 0 l i → ⊥
    away [] q = let u = q.0 in omega arith
    away (y ∷ l) q = let u = q.0 in omega arith

-- ---- measures
pub steps_is : (w : List ℕ) (f x : ℕ) (xs : List ℕ) → Chain w x xs → length xs ≤ f → steps f w x ≡ length xs
unfolding steps
steps_is w zero x [] c h = refl
steps_is w zero x (j ∷ xs) c h = absurd (omega arith)
steps_is w (suc f) x [] c h = rw c refl
steps_is w (suc f) x (j ∷ xs) c h = rw c.0 (ap suc (steps_is w f (get_or w (NEXT + j) 0) xs c.1.1 (omega arith)))

pub hops_is : (w : List ℕ) (f b x : ℕ) (xs : List ℕ) → Seg w b x xs → length xs ≤ f → hops f w b x ≡ length xs
unfolding hops
hops_is w zero b x [] c h = refl
hops_is w zero b x (j ∷ xs) c h = absurd (omega arith)
hops_is w (suc f) b x [] c h = rw (eq-eqb x b c) refl
hops_is w (suc f) b x (j ∷ xs) c h =
    let e : x - 1 ≡ j = let a = c.0 in omega arith in
    rw (ne_eqb x b (λ z. c.1.1.0 (sym c.0 ∙ z)), e) (ap suc (hops_is w f b (get_or w (NEXT + j) 0) xs c.1.1.1 (omega arith)))

-- ---- all chains
pub total_set : (C : List (List ℕ)) (i : ℕ) (v : List ℕ) → i < length C →
    total_length (set C i v) + length (get_or C i []) ≡ total_length C + length v
unfolding total_length
total_set [] i v h = absurd (omega arith)
total_set (x ∷ C) zero v h = omega arith
total_set (x ∷ C) (suc i) v h = let r : total_length (set C i v) + length (get_or C i []) ≡ total_length C + length v = total_set C i v
    (omega arith) in
    omega arith

pub total_one : (C : List (List ℕ)) (i : ℕ) → length (get_or C i []) ≤ total_length C
unfolding total_length
total_one [] i = omega arith
total_one (x ∷ C) zero = omega arith
total_one (x ∷ C) (suc i) = let r : length (get_or C i []) ≤ total_length C = total_one C i in omega arith

-- ---- those that have an arc
pub chained_set : (C : List (List ℕ)) (i : ℕ) (v : List ℕ) → i < length C →
    chained (set C i v) + one_of (get_or C i []) ≡ chained C + one_of v
unfolding chained
chained_set [] i v h = absurd (omega arith)
chained_set (x ∷ C) zero v h = omega arith
chained_set (x ∷ C) (suc i) v h =
    let r : chained (set C i v) + one_of (get_or C i []) ≡ chained C + one_of v = chained_set C i v (omega arith) in
    omega arith

pub one_append : (x y : List ℕ) → one_of (x ++ y) ≤ one_of x + one_of y
one_append [] y = omega arith
one_append (j ∷ x) y = omega arith

pub one_most : (x : List ℕ) → one_of x ≤ 1
one_most [] = omega arith
one_most (j ∷ x) = omega arith

pub one_some : (x : List ℕ) (j : ℕ) → Memᴰ j x → one_of x ≡ 1
one_some [] j m = absurd (Memᴰ.not-nil m)
one_some (i ∷ x) j m = refl

-- ---- frames
pub frames_same : (w w' : List ℕ) (s : ℕ) → ((j : ℕ) → STACK ≤ j → j < STACK + s → get_or w' j 0 ≡ get_or w j 0) → frames w' s ≡ frames w s
unfolding frames
frames_same w w' zero f = refl
frames_same w w' (suc s) f =
    let r : frames w' s ≡ frames w s = frames_same w w' s (λ j a b. f j a (omega arith)) in
    rw (f (STACK + s) (omega arith) (omega arith), r) refl
