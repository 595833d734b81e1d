-- Laws of what has come to which alternative.
-- Assumes nothing.
use Prim.Native.Nat.{ℕ, zero, suc, ◌<◌, ◌≤◌}
use native.Mathlib.Omega.{arith}
use native.Mathlib.Decide.{ℕ_discrete, dec_lt}
use mathlib.Core.Path.{◌≡◌, refl, sym, ◌∙◌}
use mathlib.Core.Logic.{◌⊎◌, inl, inr, ◌≢◌, ⊎_elim}
use mathlib.Core.List.Memᴰ
use mathlib.Core.List.{List, [], ◌∷◌, ◌++◌, Memᴰ}
use lib.ListN.{length, get_or}
use Rattle.folding.specs.Homing.{Rehomes, Untouched, WithinHomes, BranchHomes, NamedCome}

-- a number stands before another, or from it on
side : (j i : ℕ) → (j < i) ⊎ (i ≤ j)
side j i = go (dec_lt j i)
  where
    go : Dec (j < i) → (j < i) ⊎ (i ≤ j)
    go (yes h) = inl h
    go (no h) = inr (omega arith)

-- ---- what had come to x comes to k: the first i places have been gone through
pub record Rehomed (hm : List ℕ) (x k i : ℕ) (hm' : List ℕ) : Type 0 where
  pub same : length hm' ≡ length hm
  pub here : (j : ℕ) → j < i → get_or hm j 0 ≡ x → get_or hm' j 0 ≡ k
  pub rest : (j : ℕ) → (i ≤ j) ⊎ (get_or hm j 0 ≢ x) → get_or hm' j 0 ≡ get_or hm j 0

-- ---- of the alternatives from h up to m the settled ones, and the one from c up to h that is settled next
pub within_none : (hm : List ℕ) (m : ℕ) → WithinHomes hm hm m m
within_none hm m = record { same = refl; rest = λ j o. refl; inside = λ j l h. absurd (omega arith) }

module _ (hm₀ hm hm' : List ℕ) (c h m : ℕ) (low : c ≤ h) (high : h ≤ m) (u : WithinHomes hm₀ hm h m) (v : WithinHomes hm hm' c h) where
  pub within_more : WithinHomes hm₀ hm' c m
  within_more = record {
    same = v.same ∙ u.same;
    rest = λ j o. v.rest j (out_first j o) ∙ u.rest j (out_second j o);
    inside = λ j a b. in_both j a b (side j h);
  }
    where
      out_first : (j : ℕ) → (j < c) ⊎ (m ≤ j) → (j < c) ⊎ (h ≤ j)
      out_first j (inl a) = inl a
      out_first j (inr b) = inr (omega arith)

      out_second : (j : ℕ) → (j < c) ⊎ (m ≤ j) → (j < h) ⊎ (m ≤ j)
      out_second j (inl a) = inl (omega arith)
      out_second j (inr b) = inr b

      in_both : (j : ℕ) → c ≤ j → j < m → (j < h) ⊎ (h ≤ j) → (c ≤ get_or hm' j 0) × (get_or hm' j 0 < m)
      in_both j a b (inl l) = let (x, y) = v.inside j a l in (x, omega arith)
      in_both j a b (inr l) = let e = v.rest j (inr l) in let (x, y) = u.inside j l b in (omega arith, omega arith)

  -- what had come to a later one has come to it still
  pub come_kept : (x : ℕ) (names : List ℕ) → h ≤ x → NamedCome hm h m x names → NamedCome hm' c m x names
  come_kept x names l w = record {
    named = λ j i. let (a, b, e) = w.named j i in (omega arith, b, v.rest j (inr a) ∙ e);
    all = λ j a b e. go j a b e (side j h);
  }
    where
      go : (j : ℕ) → c ≤ j → j < m → get_or hm' j 0 ≡ x → (j < h) ⊎ (h ≤ j) → Memᴰ j names
      go j a b e (inl k) = let (y, z) = v.inside j a k in absurd (omega arith)
      go j a b e (inr k) = w.all j k b (sym (v.rest j (inr k)) ∙ e)

  -- and nothing else to the one that is settled
  pub come_alone : (names : List ℕ) → c < h → NamedCome hm' c h c names → NamedCome hm' c m c names
  come_alone names l w = record {
    named = λ j i. let (a, b, e) = w.named j i in (a, omega arith, e);
    all = λ j a b e. go j a b e (side j h);
  }
    where
      go : (j : ℕ) → c ≤ j → j < m → get_or hm' j 0 ≡ c → (j < h) ⊎ (h ≤ j) → Memᴰ j names
      go j a b e (inl k) = w.all j a k e
      go j a b e (inr k) = let s = v.rest j (inr k) in let (y, z) = u.inside j k b in absurd (omega arith)

-- past the end of a list there is 0
pub get_d_past : (l : List ℕ) (j : ℕ) → length l ≤ j → get_or l j 0 ≡ 0
get_d_past [] zero h = refl
get_d_past [] (suc j) h = refl
get_d_past (x ∷ l) zero h = absurd (omega arith)
get_d_past (x ∷ l) (suc j) h = get_d_past l j (omega arith)

-- what is not settled is untouched
pub fresh_next : (hm₀ hm : List ℕ) (g c h m : ℕ) → g ≤ c → c ≤ h → h ≤ m → Untouched hm₀ g m → WithinHomes hm₀ hm h m → Untouched hm c h
fresh_next hm₀ hm g c h m low mid high f u = record {
  own = λ j a b. u.rest j (inl b) ∙ f.own j (omega arith) (omega arith);
  apart = λ j l o. before j (omega arith) o (side j g) (side j m);
}
  where
    before : (j : ℕ) → j < length hm₀ → (j < c) ⊎ (h ≤ j) → (j < g) ⊎ (g ≤ j) → (j < m) ⊎ (m ≤ j) → (get_or hm j 0 < c) ⊎ (h ≤ get_or hm j 0)
    before j l o (inl a) y = let e = u.rest j (inl (omega arith)) in ⊎_elim (λ (x : get_or hm₀ j 0 < g). inl (omega arith))
        (λ (x : m ≤ get_or hm₀ j 0). inr (omega arith)) (f.apart j l (inl a))
    before j l o (inr a) (inr b) = let e = u.rest j (inr b) in ⊎_elim (λ (x : get_or hm₀ j 0 < g). inl (omega arith))
        (λ (x : m ≤ get_or hm₀ j 0). inr (omega arith)) (f.apart j l (inr b))
    before j l (inl o) (inr a) (inl b) = let e = u.rest j (inl (omega arith)) in let s = f.own j a b in inl (omega arith)
    before j l (inr o) (inr a) (inl b) = let (x, y) = u.inside j o b in inr x

-- ---- what is left of a disjunction comes to its owner
module _ (hm₀ hm hm' : List ℕ) (k g m x : ℕ) (after : k < g) (f : Untouched hm₀ g m) (u : WithinHomes hm₀ hm g m) where
  pub branch_same : BranchHomes hm₀ hm k g m
  branch_same = record { same = u.same; rest = u.rest; inside = λ j a b. inr (u.inside j a b) }

  pub come_none : NamedCome hm g m k []
  come_none = record {
    named = λ j i. absurd (Memᴰ.not-nil i);
    all = λ j a b e. let (y, z) = u.inside j a b in absurd (omega arith);
  }

  module _ (low : g ≤ x) (high : x < m) (few : m ≤ length hm₀) (r : Rehomes hm x k hm') where
    pub branch_folded : BranchHomes hm₀ hm' k g m
    branch_folded = record {
      same = r.same ∙ u.same;
      rest = λ j o. let e = u.rest j o in r.rest j (λ z. other j o (sym e ∙ z) (side j (length hm₀))) ∙ e;
      inside = λ j a b. go j a b (ℕ_discrete (get_or hm j 0) x);
    }
      where
        -- what lies outside had not come to x; past the end there is 0, which x is not
        other : (j : ℕ) → (j < g) ⊎ (m ≤ j) → get_or hm₀ j 0 ≡ x → (j < length hm₀) ⊎ (length hm₀ ≤ j) → ⊥
        other j o e (inl l) =
            ⊎_elim (λ (y : get_or hm₀ j 0 < g). omega arith) (λ (y : m ≤ get_or hm₀ j 0). omega arith) (f.apart j l o)
        other j o e (inr l) = let z = get_d_past hm₀ j l in omega arith

        go : (j : ℕ) → g ≤ j → j < m → Dec (get_or hm j 0 ≡ x) → (get_or hm' j 0 ≡ k) ⊎ ((g ≤ get_or hm' j 0) × (get_or hm' j 0 < m))
        go j a b (yes e) = let size = u.same in inl (r.here j (omega arith) e)
        go j a b (no n) = let e = r.rest j n in let (y, z) = u.inside j a b in inr (omega arith, omega arith)

    pub come_folded : (names : List ℕ) → NamedCome hm g m x names → NamedCome hm' g m k names
    come_folded names w = record {
      named = λ j i. let size = u.same in let (a, b, e) = w.named j i in (a, b, r.here j (omega arith) e);
      all = λ j a b e. go j a b e (ℕ_discrete (get_or hm j 0) x);
    }
      where
        go : (j : ℕ) → g ≤ j → j < m → get_or hm' j 0 ≡ k → Dec (get_or hm j 0 ≡ x) → Memᴰ j names
        go j a b e (yes s) = w.all j a b s
        go j a b e (no n) = let s = r.rest j n in let (y, z) = u.inside j a b in absurd (omega arith)

-- ---- the disjunctions of k: those from g up to m are settled, and the one from o up to g next
pub branch_none : (hm : List ℕ) (k m : ℕ) → BranchHomes hm hm k m m
branch_none hm k m = record { same = refl; rest = λ j o. refl; inside = λ j l h. absurd (omega arith) }

pub nothing_come : (hm : List ℕ) (k m : ℕ) → NamedCome hm m m k []
nothing_come hm k m = record { named = λ j i. absurd (Memᴰ.not-nil i); all = λ j a b e. absurd (omega arith) }

module _ (hm₀ hm : List ℕ) (k o g m : ℕ) (after : k < o) (low : o ≤ g) (high : g ≤ m) (u : BranchHomes hm₀ hm k g m) where
  pub fresh_branch : Untouched hm₀ k m → Untouched hm o g
  fresh_branch f = record {
    own = λ j a b. u.rest j (inl b) ∙ f.own j (omega arith) (omega arith);
    apart = λ j l s. let size = u.same in go j (omega arith) s (side j k) (side j m);
  }
    where
      far : (j : ℕ) → j < length hm₀ → (j < k) ⊎ (m ≤ j) → get_or hm j 0 ≡ get_or hm₀ j 0 → (get_or hm j 0 < o) ⊎ (g ≤ get_or hm j 0)
      far j l s e = ⊎_elim (λ (x : get_or hm₀ j 0 < k). inl (omega arith)) (λ (x : m ≤ get_or hm₀ j 0). inr (omega arith)) (f.apart j l s)

      near : (j : ℕ) → (get_or hm j 0 ≡ k) ⊎ ((g ≤ get_or hm j 0) × (get_or hm j 0 < m)) → (get_or hm j 0 < o) ⊎ (g ≤ get_or hm j 0)
      near j (inl e) = inl (omega arith)
      near j (inr (a, b)) = inr a

      go : (j : ℕ) → j < length hm₀ → (j < o) ⊎ (g ≤ j) → (j < k) ⊎ (k ≤ j) → (j < m) ⊎ (m ≤ j) → (get_or hm j 0 < o) ⊎ (g ≤ get_or hm j 0)
      go j l s (inl a) y = far j l (inl a) (u.rest j (inl (omega arith)))
      go j l s (inr a) (inr b) = far j l (inr b) (u.rest j (inr b))
      go j l (inl s) (inr a) (inl b) = let e = u.rest j (inl (omega arith)) in let x = f.own j a b in inl (omega arith)
      go j l (inr s) (inr a) (inl b) = near j (u.inside j s b)

  module _ (hm' : List ℕ) (v : BranchHomes hm hm' k o g) where
    pub branch_more : BranchHomes hm₀ hm' k o m
    branch_more = record {
      same = v.same ∙ u.same;
      rest = λ j s. v.rest j (⊎_elim (λ (x : j < o). inl x) (λ (x : m ≤ j). inr (omega arith)) s)
          ∙ u.rest j (⊎_elim (λ (x : j < o). inl (omega arith)) (λ (x : m ≤ j). inr x) s);
      inside = λ j a b. go j a b (side j g);
    }
      where
        earlier : (j : ℕ) → (get_or hm' j 0 ≡ k) ⊎ ((o ≤ get_or hm' j 0) × (get_or hm' j 0 < g)) →
            (get_or hm' j 0 ≡ k) ⊎ ((o ≤ get_or hm' j 0) × (get_or hm' j 0 < m))
        earlier j (inl e) = inl e
        earlier j (inr (a, b)) = inr (a, omega arith)

        later : (j : ℕ) → get_or hm' j 0 ≡ get_or hm j 0 → (get_or hm j 0 ≡ k) ⊎ ((g ≤ get_or hm j 0) × (get_or hm j 0 < m)) →
            (get_or hm' j 0 ≡ k) ⊎ ((o ≤ get_or hm' j 0) × (get_or hm' j 0 < m))
        later j e (inl s) = inl (e ∙ s)
        later j e (inr (a, b)) = inr (omega arith, omega arith)

        go : (j : ℕ) → o ≤ j → j < m → (j < g) ⊎ (g ≤ j) → (get_or hm' j 0 ≡ k) ⊎ ((o ≤ get_or hm' j 0) × (get_or hm' j 0 < m))
        go j a b (inl s) = earlier j (v.inside j a s)
        go j a b (inr s) = later j (v.rest j (inr s)) (u.inside j s b)

    pub come_more : (names old : List ℕ) → NamedCome hm' o g k names → NamedCome hm g m k old → NamedCome hm' o m k (names ++ old)
    come_more names old w z = record {
      named = λ j i. ⊎_elim (λ (x : Memᴰ j names). let (a, b, e) = w.named j x in (a, omega arith, e))
          (λ (x : Memᴰ j old). let (a, b, e) = z.named j x in (omega arith, b, v.rest j (inr a) ∙ e))
          (Memᴰ.append_cases names i);
      all = λ j a b e. go j a b e (side j g);
    }
      where
        go : (j : ℕ) → o ≤ j → j < m → get_or hm' j 0 ≡ k → (j < g) ⊎ (g ≤ j) → Memᴰ j (names ++ old)
        go j a b e (inl s) = Memᴰ.append_left old (w.all j a s e)
        go j a b e (inr s) = Memᴰ.append_right names (z.all j s b (sym (v.rest j (inr s)) ∙ e))

-- ---- the alternative k, and all that stand in it
pub within_owner : (hm₀ hm : List ℕ) (k g m : ℕ) → k < g → g ≤ m → Untouched hm₀ k m → BranchHomes hm₀ hm k g m → WithinHomes hm₀ hm k m
within_owner hm₀ hm k g m after high f u = record {
  same = u.same;
  rest = λ j o. u.rest j (⊎_elim (λ (x : j < k). inl (omega arith)) (λ (x : m ≤ j). inr x) o);
  inside = λ j a b. go j a b (side j g);
}
  where
    later : (j : ℕ) → (get_or hm j 0 ≡ k) ⊎ ((g ≤ get_or hm j 0) × (get_or hm j 0 < m)) → (k ≤ get_or hm j 0) × (get_or hm j 0 < m)
    later j (inl e) = (omega arith, omega arith)
    later j (inr (a, b)) = (omega arith, b)

    go : (j : ℕ) → k ≤ j → j < m → (j < g) ⊎ (g ≤ j) → (k ≤ get_or hm j 0) × (get_or hm j 0 < m)
    go j a b (inl s) = let e = u.rest j (inl s) in let x = f.own j a b in (omega arith, omega arith)
    go j a b (inr s) = later j (u.inside j s b)

module _ (hm₀ hm : List ℕ) (k m : ℕ) (high : k < m) (f : Untouched hm₀ k m) (u : BranchHomes hm₀ hm k (suc k) m) where
  own : get_or hm k 0 ≡ k
  own = u.rest k (inl (omega arith)) ∙ f.own k (omega arith) high

  module _ (names : List ℕ) (w : NamedCome hm (suc k) m k names) where
    pub come_owner : NamedCome hm k m k (k ∷ names)
    come_owner = record {
      named = λ j i. ⊎_elim (λ (e : j ≡ k). rw e (omega arith, high, own))
          (λ (x : Memᴰ j names). let (a, b, e) = w.named j x in (omega arith, b, e)) (Memᴰ.cases_cons i);
      all = λ j a b e. go j a b e (ℕ_discrete j k);
    }
      where
        go : (j : ℕ) → k ≤ j → j < m → get_or hm j 0 ≡ k → Dec (j ≡ k) → Memᴰ j (k ∷ names)
        go j a b e (yes s) = Memᴰ.head s
        go j a b e (no n) = Memᴰ.tail (w.all j (omega arith) b e)

    -- those named have come to k, and no others
    pub all_come : (j : ℕ) → j < length hm → get_or hm j 0 ≡ k → Memᴰ j (k ∷ names)
    all_come j l e = go (side j k) (side j m)
      where
        far : (j < k) ⊎ (m ≤ j) → get_or hm₀ j 0 ≡ k → Memᴰ j (k ∷ names)
        far o s = ⊎_elim (λ (x : get_or hm₀ j 0 < k). absurd (omega arith)) (λ (x : m ≤ get_or hm₀ j 0). absurd (omega arith))
            (let size = u.same in f.apart j (omega arith) o)

        go : (j < k) ⊎ (k ≤ j) → (j < m) ⊎ (m ≤ j) → Memᴰ j (k ∷ names)
        go (inl a) y = far (inl a) (sym (u.rest j (inl (omega arith))) ∙ e)
        go (inr a) (inr b) = far (inr b) (sym (u.rest j (inr b)) ∙ e)
        go (inr a) (inl b) = come_owner.all j a b e
