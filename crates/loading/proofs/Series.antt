-- Things that are loaded one after the other: what is left of them goes on to load them all.
-- Assumes nothing.
use Prim.Native.Nat.{ℕ, ◌+◌}
use native.Mathlib.Omega.{arith}
use mathlib.Core.Path.{◌≡◌, refl, sym, subst, ap, ap₂, ◌∙◌}
use mathlib.Core.List.{List, [], ◌++◌}
use lib.ListN.{length}
use Rattle.layout.specs.Standing.{Stands}
use Rattle.layout.proofs.Standing.{stands_append, stands_nil, stands_length}
use Rattle.loading.specs.Loading.{Put, Stock, Few, Kind, Asked, Loads}
use Rattle.loading.proofs.Putting.{put_nil, put_append}

-- x is a first thing and others
pub record Step (L I M : Kind) (x : L.Thing) : Type 0 where
  pub first : I.Thing
  pub others : M.Thing
  pub fine : I.Fine first
  pub well : M.Fine others
  pub text_is : L.text x ≡ I.text first ++ M.text others
  pub image_is : (p : ℕ) (c : Stock) →
      L.image p c x ≡ I.image p c first ++ M.image (p + length (I.text first)) (I.after c first) others
  pub after_is : (c : Stock) → L.after c x ≡ M.after (I.after c first) others
  pub few : (c : Stock) → Few (L.after c x) → Few (I.after c first)

abbrev pub Steps : Kind → Kind → Kind → Type 0
Steps L I M = (x : L.Thing) → L.Fine x → Step L I M x

-- x is no thing at all
pub record Nothing (L : Kind) (x : L.Thing) : Type 0 where
  pub text_is : L.text x ≡ []
  pub image_is : (p : ℕ) (c : Stock) → L.image p c x ≡ []
  pub after_is : (c : Stock) → L.after c x ≡ c

abbrev pub Ends : Kind → Type 0
Ends L = (x : L.Thing) → L.Fine x → Nothing L x

module _ (ws : List ℕ) (shift p : ℕ) (n : Stock) where
  -- in t, which was t₀ where x began, what is left of x stands at `at`, and loading it there, where m comes, loads x
  pub record Going (K L : Kind) (x : K.Thing) (q : ℕ) (t₀ t : List ℕ) (at : ℕ) (m : Stock) : Type 0 where
    pub left : L.Thing
    pub fine : L.Fine left
    pub there : Stands ws at (L.text left) q
    pub sum : L.after m left ≡ K.after n x
    pub onward : (t' : List ℕ) → Put t t' (shift + at) (L.image (shift + at) m left) (shift + q) →
        Put t₀ t' (shift + p) (K.image (shift + p) n x) (shift + q)

  abbrev pub Onward : Kind → Kind → List ℕ → List ℕ → ℕ → Stock → Type 0
  Onward K L t₀ t at m = (x : K.Thing) (q : ℕ) → K.Fine x → Stands ws p (K.text x) q → Going K L x q t₀ t at m

  pub begin : (K : Kind) (t : List ℕ) → Onward K K t t p n
  begin K t x q f s = record { left = x; fine = f; there = s; sum = refl; onward = λ t' h. h }

  module _ (K L : Kind) (t₀ t : List ℕ) (at : ℕ) (m : Stock) (going : Onward K L t₀ t at m) where
    pub finish : Ends L → Loads K ws p shift n t₀ t at m
    finish ends x q f s =
        let g = going x q f s in
        let e = ends g.left g.fine in
        let here : at ≡ q = (stands_nil ws at q).0 (subst (λ (xs : List ℕ). Stands ws at xs q) e.text_is g.there) in
        let last : Put t t (shift + at) (L.image (shift + at) m g.left) (shift + q) =
        subst (λ (xs : List ℕ). Put t t (shift + at) xs (shift + q)) (sym (e.image_is (shift + at) m))
        (subst (λ (k : ℕ). Put t t (shift + at) [] (shift + k)) here (put_nil t (shift + at)))
        in
        (here, sym (e.after_is m) ∙ g.sum, g.onward t last)

    -- what the loop needs to go on: what is left stands there
    pub asks : Asked K ws p n → Asked L ws at m
    asks a =
        let g = going a.0 a.1 a.2 a.3 in
        (g.left, a.1, g.fine, g.there, subst Few (sym g.sum) a.4)

    pub go_on : (I M : Kind) (u : List ℕ) (r : ℕ) (k : Stock) → Steps L I M → Loads I ws at shift m t u r k → Onward K M t₀ u r k
    go_on I M u r k steps loads x q f s =
        let g = going x q f s in
        let e = steps g.left g.fine in
        let parts = (stands_append ws (I.text e.first) (M.text e.others) at q).0
        (subst (λ (xs : List ℕ). Stands ws at xs q) e.text_is g.there) in
        let done = loads e.first parts.0 e.fine parts.1 in
        let here = done.0 in
        let far = stands_length ws (I.text e.first) at parts.0 parts.1 in
        let place : shift + r ≡ shift + at + length (I.text e.first) = omega arith in
        record {
          left = e.others;
          fine = e.well;
          there = subst (λ (j : ℕ). Stands ws j (M.text e.others) q) (sym here) parts.2;
          sum = ap (λ (c : Stock). M.after c e.others) done.1 ∙ sym (e.after_is m) ∙ g.sum;
          onward = λ t' h.
              let others : Put u t' (shift + parts.0)
              (M.image (shift + at + length (I.text e.first)) (I.after m e.first) e.others) (shift + q) =
              subst (λ (j : ℕ). Put u t' (shift + j)
              (M.image (shift + at + length (I.text e.first)) (I.after m e.first) e.others) (shift + q)) here
              (subst (λ (xs : List ℕ). Put u t' (shift + r) xs (shift + q))
              (ap₂ (λ (a : ℕ) (c : Stock). M.image a c e.others) place done.1) h)
              in
              g.onward t' (subst (λ (xs : List ℕ). Put t t' (shift + at) xs (shift + q)) (sym (e.image_is (shift + at) m))
              (put_append t u t' _ _ (shift + at) (shift + parts.0) (shift + q) done.2 others));
        }

-- of things that stand somewhere, the first does
pub asks_first : (L I M : Kind) (ws : List ℕ) (at : ℕ) (m : Stock) → Steps L I M → Asked L ws at m → Asked I ws at m
asks_first L I M ws at m steps a =
    let e = steps a.0 a.2 in
    let parts = (stands_append ws (I.text e.first) (M.text e.others) at a.1).0
    (subst (λ (xs : List ℕ). Stands ws at xs a.1) e.text_is a.3) in
    (e.first, parts.0, e.fine, parts.1, e.few m a.4)
