-- A walk along the chain of the class of all roots, on which the first arc of each word of the sieve is noted: what is not noted is
-- looked for ahead. Assumes nothing.
use mathlib.Core.Path.{◌≡◌, refl, sym, ap, ◌∙◌, subst}
use mathlib.Core.Logic.{◌⊎◌, inl, inr, ⊎_elim}
use mathlib.Core.List.{List, [], ◌∷◌}
use Prim.Native.Nat.{ℕ, ◌+◌, ◌-◌, ◌%◌, ◌≤◌, ◌<◌}
use native.Mathlib.Omega.{arith}
use native.Mathlib.Decide.{ℕ_discrete}
use lib.ListN.{length, get_or, set, length-set}
use lib.Seq.{get_or-set_same, get_or-set_other}
use Rattle.area.specs.Map.{NEXT}
use Rattle.area.specs.Region.{loaded_words}
use Rattle.forest.specs.Held.{AtomCode}
use Rattle.forest.specs.State.{targets, Chain, State, Runs, Looked}
use Rattle.classes.specs.Holds.{Labelled}
use Rattle.forest.proofs.Walks.{some, runs_next, Seek, seek_start, seek_turn, seek_rest}
use Rattle.sieving.specs.Sieved.{Blank, Sieves, OfRoots, Sieved}

-- ---- the arc y is noted at i, where nothing is
pub record Noted (t : List ℕ) (i y : ℕ) (t' : List ℕ) : Type 0 where
  pub len : length t' ≡ length t
  pub here : ((get_or t i 0 ≡ 0) × (get_or t' i 0 ≡ y)) ⊎ ((get_or t i 0 ≡ 0 → ⊥) × (get_or t' i 0 ≡ get_or t i 0))
  pub other : (j : ℕ) → (j ≡ i → ⊥) → get_or t' j 0 ≡ get_or t j 0

pub noted_new : (t : List ℕ) (i y : ℕ) (t' : List ℕ) → i < length t → get_or t i 0 ≡ 0 → t' ≡ set t i y → Noted t i y t'
noted_new t i y t' h z e = subst (Noted t i y) (sym e)
    (record { len = length-set t i y; here = inl (z, get_or-set_same t i y 0 h); other = λ j n. get_or-set_other t i j y 0 n })

pub noted_old : (t : List ℕ) (i y : ℕ) (t' : List ℕ) → (get_or t i 0 ≡ 0 → ⊥) → t' ≡ t → Noted t i y t'
noted_old t i y t' z e = subst (Noted t i y) (sym e) (record { len = refl; here = inr (z, refl); other = λ j n. refl })

-- ---- y is ahead on the chain from x
pub record Noting (w t : List ℕ) (x y : ℕ) : Type 0 where
  pub runs : Runs w y
  pub ahead : (f : ℕ) → get_or t (f % 256) 0 ≡ 0 → Seek (loaded_words w) w f x y
  pub there : (f : ℕ) → (get_or t (f % 256) 0 ≡ 0 → ⊥) → Seek (loaded_words w) w f x (get_or t (f % 256) 0)

pub note_start : (w t : List ℕ) (x : ℕ) → Blank t → Runs w x → Noting w t x x
note_start w t x b r = record {
  runs = r;
  ahead = λ f z. seek_start (loaded_words w) w f x r;
  there = λ f n. absurd (n (b (f % 256)));
}

module _ (w t : List ℕ) (x y : ℕ) (s : Noting w t x y) (n : y ≡ 0 →
    ⊥) (y' : ℕ) (e : y' ≡ get_or w (NEXT + (y - 1)) 0) (i : ℕ) (is : i ≡ get_or (loaded_words w) (y - 1) 0 % 256) (t' : List ℕ)
    (o : Noted t i y t') where
  full : get_or t' i 0 ≡ 0 → ⊥
  full z = ⊎_elim (λ a. n (sym a.1 ∙ z)) (λ a. a.0 (sym a.1 ∙ z)) o.here

  turn_ahead : (f : ℕ) → get_or t' (f % 256) 0 ≡ 0 → Seek (loaded_words w) w f x y'
  turn_ahead f z =
      let d : f % 256 ≡ i → ⊥ = λ q. full (ap (λ (j : ℕ). get_or t' j 0) (sym q) ∙ z) in
      seek_turn (loaded_words w) w f x y y' (s.ahead f (sym (o.other (f % 256) d) ∙ z)) n
      (λ q. d (ap (λ (j : ℕ). j % 256) (sym q) ∙ sym is)) e

  turn_there : (f : ℕ) → (get_or t' (f % 256) 0 ≡ 0 → ⊥) → Seek (loaded_words w) w f x (get_or t' (f % 256) 0)
  turn_there f h = go (ℕ_discrete (f % 256) i)
    where
      at : (z : ℕ) → get_or t' (f % 256) 0 ≡ z → Seek (loaded_words w) w f x z → Seek (loaded_words w) w f x (get_or t' (f % 256) 0)
      at z q k = subst (λ (j : ℕ). Seek (loaded_words w) w f x j) (sym q) k

      go : Dec (f % 256 ≡ i) → Seek (loaded_words w) w f x (get_or t' (f % 256) 0)
      go (yes d) =
          let u : get_or t (f % 256) 0 ≡ get_or t i 0 = ap (λ (j : ℕ). get_or t j 0) d in
          let u' : get_or t' (f % 256) 0 ≡ get_or t' i 0 = ap (λ (j : ℕ). get_or t' j 0) d in
          ⊎_elim (λ a. at y (u' ∙ a.1) (s.ahead f (u ∙ a.0)))
          (λ a. at (get_or t (f % 256) 0) (u' ∙ a.1 ∙ sym u) (s.there f (λ z. a.0 (sym u ∙ z)))) o.here
      go (no d) = let q = o.other (f % 256) d in at (get_or t (f % 256) 0) q (s.there f (λ z. h (q ∙ z)))

  pub note_turn : Noting w t' x y'
  note_turn = record { runs = runs_next w y y' s.runs (some y n) e; ahead = turn_ahead; there = turn_there }

pub note_end : (w t : List ℕ) (x y : ℕ) → Noting w t x y → y ≡ 0 → Sieves w t x
note_end w t x y s e = record {
  runs = λ f h. (found f).runs;
  same =
      λ f r h k. seek_rest (loaded_words w) w f x (get_or t (f % 256) 0) r (found f) k;
}
  where
    found : (f : ℕ) → Seek (loaded_words w) w f x (get_or t (f % 256) 0)
    found f = go (ℕ_discrete (get_or t (f % 256) 0) 0)
      where
        go : Dec (get_or t (f % 256) 0 ≡ 0) → Seek (loaded_words w) w f x (get_or t (f % 256) 0)
        go (yes z) = subst (λ (j : ℕ). Seek (loaded_words w) w f x j) (e ∙ sym z) (s.ahead f z)
        go (no z) = s.there f z

-- a class that holds nothing, or bears an atom, has no arcs
pub note_none : (w t : List ℕ) (x : ℕ) → Blank t → (x ≡ 0) ⊎ AtomCode x → Sieves w t x
note_none w t x b o = record {
  runs = λ f l. record { xs = []; chain = b (f % 256); short = omega arith };
  same = λ f r l k. ⊎_elim (λ e. subst (λ (z : ℕ). Looked (loaded_words w) w f z r) (b (f % 256) ∙ sym e) k) (bare f r) o;
}
  where
    far : AtomCode x → (xs : List ℕ) → Chain w x xs → ⊥
    far h [] c = omega arith
    far h (j ∷ xs) c = let a = c.0 in let b = c.1.0 in omega arith

    bare : (f r : ℕ) → AtomCode x → Looked (loaded_words w) w f x r
    bare f r h = record { miss = λ q xs c. absurd (far h xs c); hit = λ i q xs c. absurd (far h xs c) }

-- there is one class of all roots
pub note_all : (n : ℕ) (w t : List ℕ) → Labelled n w → (c : ℕ) → OfRoots n w c → Sieves w t (get_or w c 0) → Sieved n w t
note_all n w t g c root s = record {
  tells =
      λ d other. subst (λ (z : ℕ). Sieves w t (get_or w z 0)) (sym (root.is u.M u.forest) ∙ other.is u.M u.forest) s;
}
  where
    u : State g.holds.G g.holds.H (loaded_words w) (targets w) n g.k 0 [] w
    u = g.holds.state
