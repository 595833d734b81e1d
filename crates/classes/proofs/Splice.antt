-- An arc goes onto a chain, after lesser features. Assumes nothing.
use mathlib.Core.Path.{◌≡◌, refl, sym, ap, ◌∙◌, subst}
use mathlib.Core.List.Memᴰ
use mathlib.Core.List.{List, [], ◌∷◌, Memᴰ}
use mathlib.Core.Logic.{◌⊎◌, inl, inr, ⊎_elim}
use Prim.Native.Nat.{ℕ, suc, ◌+◌, ◌≤◌, ◌<◌}
use native.Mathlib.Omega.{arith}
use lib.ListN.{length, get_or}
use Rattle.area.specs.Map.{NEXT}
use Rattle.forest.specs.State.{Chain, First}
use Rattle.forest.specs.Order.{FeaturesRise, FallsBetween}
use Rattle.forest.proofs.Links.{chain_same}
use Rattle.forest.proofs.Places.{chain_once, between_where}

-- L has the arcs of xs and the arc t, the first of its feature; of each other feature the first arc is as it was
pub record Grows (F : List ℕ) (t : ℕ) (xs L : List ℕ) : Type 0 where
  pub size : length L ≡ suc (length xs)
  pub cases : (q : ℕ) → Memᴰ q L → (q ≡ t) ⊎ Memᴰ q xs
  pub mine : First F (get_or F t 0) L t
  pub old : (f i : ℕ) → (get_or F t 0 ≡ f → ⊥) → First F f xs i → First F f L i

pub grows_front : (F : List ℕ) (t : ℕ) (xs : List ℕ) → Grows F t xs (t ∷ xs)
grows_front F t xs = record { size = refl; cases = λ q m. Memᴰ.cases_cons m; mine = inl (refl, refl); old = λ f i n p. inr (n, p) }

grows_after : (F : List ℕ) (t j : ℕ) (xs L : List ℕ) → get_or F j 0 < get_or F t 0 → Grows F t xs L → Grows F t (j ∷ xs) (j ∷ L)
grows_after F t j xs L h g = record {
  size = ap suc g.size;
  cases = λ q m. ⊎_elim (λ e. inr (Memᴰ.head e)) (λ i. ⊎_elim (λ e. inl e) (λ o. inr (Memᴰ.tail o)) (g.cases q i))
      (Memᴰ.cases_cons m);
  mine = inr ((λ e. omega arith), g.mine);
  old = λ f i n p. ⊎_elim (λ z. inl z) (λ z. inr (z.0, g.old f i n z.1)) p;
}

-- ---- at its place
module _ (F : List ℕ) (t : ℕ) where
  abbrev pub lodge : (b a : ℕ) (xs : List ℕ) → FallsBetween F (get_or F t 0) b a xs → List ℕ
  lodge b a [] u = t ∷ []
  lodge b a (j ∷ xs) (inl u) = t ∷ j ∷ xs
  lodge b a (j ∷ xs) (inr u) = j ∷ lodge (NEXT + j) a xs u.1

  pub lodge_grows : (b a : ℕ) (xs : List ℕ) (u : FallsBetween F (get_or F t 0) b a xs) → Grows F t xs (lodge b a xs u)
  lodge_grows b a [] u = grows_front F t []
  lodge_grows b a (j ∷ xs) (inl u) = grows_front F t (j ∷ xs)
  lodge_grows b a (j ∷ xs) (inr u) = grows_after F t j xs (lodge (NEXT + j) a xs u.1) u.0 (lodge_grows (NEXT + j) a xs u.1)

  pub lodge_rising : (b a low : ℕ) (xs : List ℕ) (u : FallsBetween F (get_or F t 0) b a xs) → low ≤ get_or F t 0 → FeaturesRise F low xs →
      FeaturesRise F low (lodge b a xs u)
  lodge_rising b a low [] u h r = (h, tt)
  lodge_rising b a low (j ∷ xs) (inl u) h r = let l = u.1 in (h, (omega arith, r.1))
  lodge_rising b a low (j ∷ xs) (inr u) h r = let l = u.0 in
      (r.0, lodge_rising (NEXT + j) a (suc (get_or F j 0)) xs u.1 (omega arith) r.1)

  -- two stores make it a chain
  module _ (w w' : List ℕ) (a : ℕ) (at_a : get_or w' a 0 ≡ suc t) (ht : t < 2048) (at_t : get_or w' (NEXT + t) 0 ≡ get_or w a 0) where
    pub lodge_chain : (b : ℕ) (xs : List ℕ) (u : FallsBetween F (get_or F t 0) b a xs) → Chain w (get_or w b 0) xs
        → ((i : ℕ) → Memᴰ i xs → b ≡ NEXT + i → ⊥) → ((b ≡ a → ⊥) → get_or w' b 0 ≡ get_or w b 0) →
        ((i : ℕ) → Memᴰ i xs → (NEXT + i ≡ a → ⊥) → get_or w' (NEXT + i) 0 ≡ get_or w (NEXT + i) 0)
        → Chain w' (get_or w' b 0) (lodge b a xs u)
    lodge_chain b [] u c away first keep = (ap (λ (z : ℕ). get_or w' z 0) u ∙ at_a, (ht, at_t ∙ ap (λ (z : ℕ). get_or w z 0) (sym u) ∙ c))
    lodge_chain b (j ∷ xs) (inl u) c away first keep =
        let e : get_or w b 0 ≡ get_or w' (NEXT + t) 0 = ap (λ (z : ℕ). get_or w z 0) u.0 ∙ sym at_t in (
          ap (λ (z : ℕ). get_or w' z 0) u.0
              ∙ at_a,
          (
            ht,
            subst (λ (z : ℕ). Chain w' z (j ∷ xs)) e
                (chain_same w w' (get_or w b 0) (j ∷ xs) (λ q m. keep q m (λ z. away q m (u.0 ∙ sym z))) c),
          ),
        )
    lodge_chain b (j ∷ xs) (inr u) c away first keep =
        let s : get_or w' b 0 ≡ get_or w b 0 =
        first (λ z. ⊎_elim (λ e. away j (Memᴰ.head refl) (z ∙ e)) (λ o. away o.0 (Memᴰ.tail o.1.0) (z ∙ o.1.1))
        (between_where F (get_or F t 0) (NEXT + j) a xs u.1)) in (
          s ∙ c.0,
          (
            c.1.0,
            lodge_chain (NEXT + j) xs u.1 c.1.1
                (λ i m e. chain_once w (get_or w b 0) j xs c (subst (λ (z : ℕ). Memᴰ z xs) (omega arith) m))
                (λ z. keep j (Memᴰ.head refl) z) (λ i m z. keep i (Memᴰ.tail m) z),
          ),
        )
