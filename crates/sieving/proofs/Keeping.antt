-- What a sieve asks, what it is good for, and what it survives: it tells the same as long as what is pushed and the loaded words stay.
-- Assumes nothing.
use mathlib.Core.Path.{◌≡◌, refl, sym, ap, ◌∙◌, subst}
use mathlib.Core.Logic.{◌⊎◌, ⊎_elim}
use mathlib.Core.List.{List, [], ◌∷◌}
use Prim.Native.Nat.{ℕ, zero, suc, ◌+◌, ◌-◌, ◌%◌, ◌≤◌, ◌<◌}
use native.Mathlib.Omega.{arith}
use lib.ListN.{length, get_or, replicate}
use Rattle.area.specs.Map.{PARENT, NEXT, LOG, SIZE}
use Rattle.area.specs.Region.{loaded_words}
use Rattle.area.specs.Log.{body, back, past}
use Rattle.area.proofs.Region.{words_same}
use Rattle.area.proofs.Undo.{word}
use Rattle.forest.specs.Forest.{parents}
use Rattle.forest.proofs.Parents.{parents_ext, root_on}
use Rattle.forest.specs.Held.{ChainCode}
use Rattle.forest.specs.State.{Chain, Runs, Looked}
use Rattle.classes.specs.Holds.{Labelled, Since}
use Rattle.classes.proofs.Answers.{root-classed, asked-runs}
use Rattle.sieving.specs.Sieved.{Blank, Sieves, OfRoots, Sieved}

-- the class of all roots has a chain where it bears no atom
pub roots_run : (n : ℕ) (w : List ℕ) → 0 < n → Labelled n w → (c : ℕ) → OfRoots n w c → ChainCode (get_or w c 0) → Runs w (get_or w c 0)
roots_run n w l g c root = asked-runs n w 0 l c (root-classed n w 0 c root) g

-- ---- nothing is noted
pub blank : (n : ℕ) → Blank (replicate n 0)
blank zero i = refl
blank (suc n) zero = refl
blank (suc n) (suc i) = blank n i

-- a sieve of no words tells nothing
pub sieved_none : (n : ℕ) (w : List ℕ) → Sieved n w []
sieved_none n w = record { tells = λ c root. record { runs = λ f h. absurd (omega arith); same = λ f r h. absurd (omega arith) } }

-- ---- from the code y on the feature f is looked for: the one that t has for it, or the first of the chain
module _ (w t : List ℕ) (x : ℕ) (s : Sieves w t x) (f g : ℕ) (e : g ≡ f) (y : ℕ)
    (o : ((g % 256 < length t) × (y ≡ get_or t (g % 256) 0)) ⊎ (y ≡ x)) where
  low : g % 256 < length t → f % 256 < length t
  low = subst (λ (i : ℕ). i % 256 < length t) e

  there : y ≡ get_or t (g % 256) 0 → y ≡ get_or t (f % 256) 0
  there q = q ∙ ap (λ (i : ℕ). get_or t (i % 256) 0) e

  pub through_runs : Runs w x → Runs w y
  through_runs r = ⊎_elim (λ u. subst (Runs w) (sym (there u.1)) (s.runs f (low u.0))) (λ u. subst (Runs w) (sym u) r) o

  pub through_same : (r : ℕ) → Looked (loaded_words w) w f y r → Looked (loaded_words w) w f x r
  through_same r k = ⊎_elim (λ u. s.same f r (low u.0) (at (there u.1) k)) (λ u. at u k) o
    where
      at : {i j : ℕ} → i ≡ j → Looked (loaded_words w) w f i r → Looked (loaded_words w) w f j r
      at q = subst (λ (z : ℕ). Looked (loaded_words w) w f z r) q

-- ---- the same words before the log, and the same loaded words
chain_same : (w w' : List ℕ) → ((j : ℕ) → j < LOG → get_or w' j 0 ≡ get_or w j 0) → (x : ℕ) (xs : List ℕ) → Chain w x xs → Chain w' x xs
chain_same w w' f x [] c = c
chain_same w w' f x (j ∷ xs) c =
    let b = c.1.0 in (
      c.0,
      (
        c.1.0,
        subst (λ (z : ℕ). Chain w' z xs) (sym (f (NEXT + j) (omega arith)))
            (chain_same w w' f (get_or w (NEXT + j) 0) xs c.1.1),
      ),
    )

looked_same : (w w' : List ℕ) → ((j : ℕ) → j < LOG → get_or w' j 0 ≡ get_or w j 0) → loaded_words w' ≡ loaded_words w → (i x r : ℕ) →
    Looked (loaded_words w) w i x r → Looked (loaded_words w') w' i x r
looked_same w w' f e i x r k = rw e (record { miss = λ q xs c. k.miss q xs (back xs c); hit = λ j q xs c. k.hit j q xs (back xs c) })
  where
    back : (xs : List ℕ) → Chain w' x xs → Chain w x xs
    back = chain_same w' w (λ j l. sym (f j l)) x

same_body : (k : ℕ) (w w' : List ℕ) → past k k w' ≡ past k k w → body w' ≡ body w
unfolding past back
same_body k w w' p = let e : k - k ≡ 0 = omega arith in rw e at p

-- all that was pushed since is taken back, and marks are free
pub sieved_since : (n k : ℕ) (w w' t : List ℕ) → n ≤ 1024 → SIZE ≤ length w → Since k w k w' → Sieved n w t → Sieved n w' t
sieved_since n k w w' t b h p s = record { tells = λ c root. tells c root.low (s.tells c (root_on n w' w 0 c same_parents root)) }
  where
    body_same : (j : ℕ) → j < LOG → get_or w' j 0 ≡ get_or w j 0
    body_same = word w w' (same_body k w w' (p.keeps k (omega arith)))

    same_parents : parents n w' ≡ parents n w
    same_parents = parents_ext n w' w (omega (arith, p.len)) p.len (λ j l. body_same (PARENT + j) (omega arith))

    loaded_same : loaded_words w' ≡ loaded_words w
    loaded_same = words_same w w' h p.len p.same

    tells : (c : ℕ) → c < n → Sieves w t (get_or w c 0) → Sieves w' t (get_or w' c 0)
    tells c low u = record {
      runs = λ i l. let r = u.runs i l in
          record { xs = r.xs; chain = chain_same w w' body_same (get_or t (i % 256) 0) r.xs r.chain; short = r.short };
      same = λ i r l k. subst (λ (z : ℕ). Looked (loaded_words w') w' i z r) (sym (body_same c (omega arith)))
          (looked_same w w' body_same loaded_same i (get_or w c 0) r
          (u.same i r l (looked_same w' w (λ j l. sym (body_same j l)) (sym loaded_same) i (get_or t (i % 256) 0) r k)));
    }
