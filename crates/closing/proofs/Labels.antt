-- Labels in an array: setting them up, relabelling, and what merging keeps.
-- Assumes nothing.
use mathlib.Core.Path.{◌≡◌, refl, ap, sym, ◌∙◌, subst}
use mathlib.Core.Logic.{◌⊎◌, inl, inr, ⊎_elim, ◌≢◌}
use mathlib.Core.Bool.{Bool, true, false}
use mathlib.Core.List.Memᴰ
use mathlib.Core.List.{List, ◌∷◌}
use Prim.Native.Nat.{ℕ, ◌+◌, ◌<◌, ◌≤◌}
use native.Mathlib.Omega.{arith}
use lib.ListN.{length, get_or}
use lib.Dec.{eqb, T, eqb→eq}
use Rattle.descriptions.proofs.Tests.{Test, equal, differ, test, eqb_yes, eqb_no}
use Rattle.theory.specs.Join.{Rule, swap}
use Rattle.theory.proofs.Instance.{seed_rule_in}
use Rattle.theory.proofs.Close.{count_lt, Swapped, moved, stays, swapped, swap_moved, swap_stays}
use Rattle.closing.specs.Rows.{spot_limit, spot_of, spot_mark, in_pairs}
use Rattle.closing.specs.Labels.{lab_of, SpotLabelled, Below, Labels, reps, Changes, Relabelling, Relabels}
use Rattle.closing.specs.Labels.{LabelsMerged, same, more, LabelsUniting, Unites, Tying, Ties}
use Rattle.closing.proofs.Lists.{getD_within, in_get, pair_at, pair_in}

-- the first i spots have their own labels
pub record Started (L : List ℕ) (i : ℕ) : Type 0 where
  pub len : length L ≡ spot_limit
  pub each : (j : ℕ) → j < i → lab_of L j ≡ j

-- the label that code reads
pub lab_at : (L : List ℕ) (x : ℕ) → length L ≡ spot_limit → x < spot_limit → lab_of L x ≡ get_or L x 0
lab_at L x e h = getD_within L x x 0 (omega arith)

-- while spots are relabelled: the first k ends are done
pub record Turning (ends L : List ℕ) (a b : ℕ) (L' : List ℕ) (k : ℕ) : Type 0 where
  pub len : length L' ≡ spot_limit
  pub either : (i : ℕ) → (lab_of L' i ≡ lab_of L i) ⊎ (lab_of L' i ≡ swap a b (lab_of L i))
  pub done : (j : ℕ) → j < k → lab_of L' (get_or ends j 0) ≢ b

swap_away : (a b l : ℕ) → a ≢ b → swap a b l ≢ b
swap_away a b l n = go (swap a b l) (swapped a b l)
  where
    go : (m : ℕ) → Swapped a b l m → m ≢ b
    go m (moved e) = n
    go m (stays e) = e

swap_twice : (a b l : ℕ) → a ≢ b → swap a b (swap a b l) ≡ swap a b l
swap_twice a b l n = swap_stays a b (swap a b l) (swap_away a b l n)

module _ (ends L : List ℕ) (a b : ℕ) (g : Relabelling ends L a b) where
  module _ (L' : List ℕ) (k : ℕ) (t : Turning ends L a b L' k) where
    turn_here : (x : ℕ) (L'' : List ℕ) → Changes L' x a b L'' → lab_of L'' x ≡ swap a b (lab_of L x)
    turn_here x L'' c = ⊎_elim (λ e. c.here ∙ ap (swap a b) e) (λ e. c.here ∙ ap (swap a b) e ∙ swap_twice a b (lab_of L x) g.apart)
        (t.either x)

    pub turning_step : (x : ℕ) → x ≡ get_or ends k 0 → (L'' : List ℕ) → Changes L' x a b L'' → Turning ends L a b L'' (k + 1)
    turning_step x p L'' c = record {
      len = c.len;
      either = λ i. either i (test i x);
      done = λ j h. done j h (test (get_or ends j 0) x);
    }
      where
        either : (i : ℕ) {s : Bool} → Test i x s → (lab_of L'' i ≡ lab_of L i) ⊎ (lab_of L'' i ≡ swap a b (lab_of L i))
        either i (equal e) = inr (rw e (turn_here x L'' c))
        either i (differ n) = ⊎_elim (λ e. inl (c.rest i n ∙ e)) (λ e. inr (c.rest i n ∙ e)) (t.either i)

        done : (j : ℕ) → j < k + 1 → {s : Bool} → Test (get_or ends j 0) x s → lab_of L'' (get_or ends j 0) ≢ b
        done j h (equal e) q = swap_away a b (lab_of L x) g.apart (sym (turn_here x L'' c) ∙ ap (lab_of L'') (sym e) ∙ q)
        done j h (differ n) q = t.done j (before (test j k)) (sym (c.rest (get_or ends j 0) n) ∙ q)
          where
            before : {s : Bool} → Test j k s → j < k
            before (equal e) = absurd (n (ap (λ (i : ℕ). get_or ends i 0) e ∙ sym p))
            before (differ m) = omega arith

    -- a spot that still has the label b is the root
    rooted : length ends ≤ k → (i : ℕ) → i ≢ 0 → lab_of L' i ≡ lab_of L i → lab_of L i ≢ b
    rooted h i z e q = ⊎_elim (λ o. spot (subst (SpotLabelled ends) (sym (sym o ∙ q)) g.of)) spot (g.labels.own i)
      where
        spot : SpotLabelled ends i → ⊥
        spot (inl r) = z r
        spot (inr m) = let (j, l, p) = in_get ends i m in t.done j (omega arith) (ap (lab_of L') p ∙ e ∙ q)

    pub turning_done : length ends ≤ k → (L'' : List ℕ) → Changes L' 0 a b L'' → Relabels L a b L''
    turning_done h L'' c = record { len = c.len; each = λ i. each i (test i 0) }
      where
        each : (i : ℕ) {s : Bool} → Test i 0 s → lab_of L'' i ≡ swap a b (lab_of L i)
        each i (equal e) = rw e (turn_here 0 L'' c)
        each i (differ n) = ⊎_elim (λ e. c.rest i n ∙ e ∙ sym (swap_stays a b (lab_of L i) (rooted h i n e))) (λ e. c.rest i n ∙ e)
            (t.either i)

pub spot_low : (ends : List ℕ) → Below ends → (x : ℕ) → SpotLabelled ends x → x < spot_limit
spot_low ends b x (inl e) = omega arith
spot_low ends b x (inr m) = let (k, h, e) = in_get ends x m in omega (arith, b k h)

module _ (ends L : List ℕ) (x y : ℕ) (g : LabelsUniting ends L x y) where
  pub one_low : x < spot_limit
  one_low = spot_low ends g.ends_low x g.one

  pub other_low : y < spot_limit
  other_low = spot_low ends g.ends_low y g.other

  one_lab : lab_of L x ≡ get_or L x 0
  one_lab = lab_at L x g.labels.len one_low

  other_lab : lab_of L y ≡ get_or L y 0
  other_lab = lab_at L y g.labels.len other_low

  pub unite_none : get_or L x 0 ≡ get_or L y 0 → Unites ends L x y false L
  unite_none e = record {
    labels = g.labels;
    kept = λ f. (one_lab ∙ e ∙ sym other_lab, λ i. refl);
    merged = λ f. let z : ◌≡◌ {A = ℕ} 0 1 = cc in absurd (omega arith);
    fewer = omega arith;
  }

  module _ (n : get_or L x 0 ≢ get_or L y 0) where
    pub uniting_relabels : Relabelling ends L (get_or L x 0) (get_or L y 0)
    uniting_relabels = record {
      labels = g.labels;
      ends_low = g.ends_low;
      of = subst (SpotLabelled ends) other_lab
          (g.labels.stay y g.other);
      apart = n;
    }

    abbrev a : ℕ
    a = lab_of L x

    abbrev b : ℕ
    b = lab_of L y

    a_b : a ≢ b
    a_b e = n (sym one_lab ∙ e ∙ other_lab)

    module _ (L' : List ℕ) (r : Relabels L (get_or L x 0) (get_or L y 0) L') where
      next : (i : ℕ) → lab_of L' i ≡ swap a b (lab_of L i)
      next i = rw (one_lab, other_lab) (r.each i)

      -- what a and the old labels have, the new ones have
      by : (P : ℕ → ℕ → Type 0) (i : ℕ) → P i a → P i (lab_of L i) → P i (lab_of L' i)
      by P i p q = subst (P i) (sym (next i)) (go (swap a b (lab_of L i)) (swapped a b (lab_of L i)))
        where
          go : (k : ℕ) → Swapped a b (lab_of L i) k → P i k
          go k (moved e) = p
          go k (stays e) = q

      idem_next : (i : ℕ) → lab_of L' (lab_of L' i) ≡ lab_of L' i
      idem_next i = ap (lab_of L') (next i) ∙ go (swap a b (lab_of L i)) (swapped a b (lab_of L i)) ∙ sym (next i)
        where
          go : (k : ℕ) → Swapped a b (lab_of L i) k → lab_of L' k ≡ k
          go k (moved e) = next a ∙ ap (swap a b) (g.labels.idem x) ∙ swap_stays a b a a_b
          go k (stays e) = next (lab_of L i) ∙ ap (swap a b) (g.labels.idem i) ∙ swap_stays a b (lab_of L i) e

      own_next : (i : ℕ) → (lab_of L' i ≡ i) ⊎ SpotLabelled ends i
      own_next i = go (test (lab_of L i) b)
        where
          spot_b : SpotLabelled ends b
          spot_b = g.labels.stay y g.other

          go : {t : Bool} → Test (lab_of L i) b t → (lab_of L' i ≡ i) ⊎ SpotLabelled ends i
          go (equal e) = inr (⊎_elim (λ o. subst (SpotLabelled ends) (sym e ∙ o) spot_b) (λ s. s) (g.labels.own i))
          go (differ m) = ⊎_elim (λ o. inl (next i ∙ swap_stays a b (lab_of L i) m ∙ o)) inr (g.labels.own i)

      rep_before : (i : ℕ) → eqb (lab_of L' i) i ≡ true → eqb (lab_of L i) i ≡ true
      rep_before i t = eqb_yes (lab_of L i) i (go (swap a b (lab_of L i)) (swapped a b (lab_of L i))
          (sym (next i) ∙ eqb→eq (lab_of L' i) i (subst T (sym t) tt)))
        where
          go : (k : ℕ) → Swapped a b (lab_of L i) k → k ≡ i → lab_of L i ≡ i
          go k (moved e) h = absurd (a_b (sym (g.labels.idem x) ∙ ap (lab_of L) h ∙ e))
          go k (stays e) h = h

      one_fewer : reps ends L' < reps ends L
      one_fewer = count_lt (λ i. eqb (lab_of L i) i) (λ i. eqb (lab_of L' i) i) rep_before b (0 ∷ ends)
          (⊎_elim Memᴰ.head Memᴰ.tail (g.labels.stay y g.other)) (eqb_yes (lab_of L b) b (g.labels.idem y))
          (eqb_no (lab_of L' b) b (λ p. a_b (sym (next b ∙ swap_moved a b (lab_of L b) (g.labels.idem y)) ∙ p)))

      pub unite_one : Unites ends L x y true L'
      unite_one = record {
        labels = record {
          len = r.len;
          low = λ i h. by (λ j k. k < spot_limit) i (g.labels.low x one_low) (g.labels.low i h);
          own = own_next;
          stay = λ i s. by (λ j k. SpotLabelled ends k) i (g.labels.stay x g.one) (g.labels.stay i s);
          idem = idem_next;
        };
        kept = λ f. let z : ◌≡◌ {A = ℕ} 0 1 = cc in absurd (omega arith);
        merged = λ f. (a_b, next);
        fewer = omega (arith, one_fewer);
      }

-- labels that are the same are reached as well
pub kept : {rs : List Rule} {lab mid now : ℕ → ℕ} → LabelsMerged rs lab mid → ((i : ℕ) → now i ≡ mid i) → LabelsMerged rs lab now
kept (same e) f = same (λ i. f i ∙ e i)
kept (more m s q i d n e) f = more m s q i d n (λ j. f j ∙ e j)

-- ties
module _ (ends L ties : List ℕ) where
  pub ties_start : Labels ends L → Ties ends L ties 0 L
  ties_start g = record { labels = g; merged = same (λ i. refl); tied = λ j h. absurd (omega arith) }

  pub ties_step : (k : ℕ) (L' : List ℕ) → Ties ends L ties k L' → k < length ties → (x y : ℕ) → x ≡ spot_of (get_or ties k 0) →
      y ≡ spot_mark (get_or ties k 0) → (r : Bool) (L'' : List ℕ) → Unites ends L' x y r L'' → Ties ends L ties (k + 1) L''
  ties_step k L' t h x y p q r L'' u = go r u
    where
      last : (P : ℕ → Type 0) → ((j : ℕ) → j < k → P j) → P k → (j : ℕ) → j < k + 1 → P j
      last P f z j l = at (test j k)
        where
          at : {s : Bool} → Test j k s → P j
          at (equal e) = subst P (sym e) z
          at (differ n) = f j (omega arith)

      go : (r : Bool) → Unites ends L' x y r L'' → Ties ends L ties (k + 1) L''
      go false u = let (e, f) = u.kept refl in record {
        labels = u.labels;
        merged = kept t.merged f;
        tied = last (λ j. lab_of L'' (spot_of (get_or ties j 0)) ≡ lab_of L'' (spot_mark (get_or ties j 0)))
            (λ j l. f (spot_of (get_or ties j 0)) ∙ t.tied j l ∙ sym (f (spot_mark (get_or ties j 0))))
            (f (spot_of (get_or ties k 0)) ∙ ap (lab_of L') (sym p) ∙ e ∙ ap (lab_of L') q ∙ sym (f (spot_mark (get_or ties k 0))));
      }
      go true u = let (n, f) = u.merged refl in record {
        labels = u.labels;
        merged = more (lab_of L') t.merged (x, x, x, y)
            (rw (p, q) (seed_rule_in (in_pairs ties) (pair_at ties k) (pair_in ties k h))) refl n f;
        tied = last (λ j. lab_of L'' (spot_of (get_or ties j 0)) ≡ lab_of L'' (spot_mark (get_or ties j 0)))
            (λ j l. f (spot_of (get_or ties j 0)) ∙ ap (swap (lab_of L' x) (lab_of L' y)) (t.tied j l) ∙ sym (f (spot_mark (get_or ties j 0))))
            (rw (← p, ← q) (f x ∙ swap_stays (lab_of L' x) (lab_of L' y) (lab_of L' x) n ∙ sym
            (swap_moved (lab_of L' x) (lab_of L' y) (lab_of L' y) refl) ∙ sym (f y)));
      }

  pub ties_done : (k : ℕ) (L' : List ℕ) → Ties ends L ties k L' → length ties ≤ k → Ties ends L ties (length ties) L'
  ties_done k L' t h = record { labels = t.labels; merged = t.merged; tied = λ j l. t.tied j (omega arith) }

  pub tying_unites : Tying ends L ties → (k : ℕ) (L' : List ℕ) → Ties ends L ties k L' → k < length ties → (x y : ℕ) →
      x ≡ spot_of (get_or ties k 0) → y ≡ spot_mark (get_or ties k 0) → LabelsUniting ends L' x y
  tying_unites g k L' t h x y p q = record {
    labels = t.labels;
    ends_low = g.ends_low;
    one = rw p (g.spots k h).0;
    other = rw q (g.spots k h).1;
  }
