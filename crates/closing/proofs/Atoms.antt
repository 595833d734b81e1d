-- Atoms by label: each is the one of its label, or there is a clash.
-- Assumes nothing.
use mathlib.Core.Path.{◌≡◌, refl, ap, sym, ◌∙◌, subst}
use mathlib.Core.Logic.{inl, inr, ◌≢◌}
use mathlib.Core.Bool.{Bool, true, false}
use mathlib.Core.Option.{Option, none, some}
use mathlib.Core.List.Memᴰ
use mathlib.Core.List.{List, [], ◌∷◌, Memᴰ}
use Prim.Native.Nat.{ℕ, ◌+◌, ◌<◌, ◌≤◌}
use native.Mathlib.Omega.{arith}
use Rattle.std.specs.Prelude as rust
use Rattle.std.specs.Prelude.{Some, None}
use Rattle.std.proofs.lemmas.Option.{none-some, same_Some}
use lib.ListN.{length, get_or, set, length-set}
use lib.Seq.{get_or-set_same, get_or-set_other}
use Rattle.descriptions.proofs.Tests.{Test, equal, differ, test, eqb_yes, eqb_no}
use Rattle.theory.specs.Join.{atom_of}
use Rattle.theory.proofs.Number.{Bearing, bears, bare, bearing}
use Rattle.closing.specs.Rows.{spot_limit, mark_limit, spot_of, spot_mark, in_pairs}
use Rattle.closing.specs.Labels.{lab_of}
use Rattle.closing.specs.Bearing.{held_of, Borne, Struck, AtomsBorne}
use Rattle.closing.specs.Bearing as asked
use Rattle.closing.proofs.Lists.{pair_at, pair_in, pair_from}
use Rattle.closing.proofs.Labels.{lab_at}
use Rattle.closing.proofs.Chains.{by_cons}

abbrev Pair : Type 0
Pair = ℕ × ℕ

-- the atom of a label
atom_here : (lab : ℕ → ℕ) (l : ℕ) (p : Pair) (S : List Pair) → lab p.0 ≡ l → atom_of lab l (p ∷ S) ≡ some p.1
atom_here lab l p S e = rw (eqb_yes (lab p.0) l e, atom_of)

atom_other : (lab : ℕ → ℕ) (l : ℕ) (p : Pair) (S : List Pair) → lab p.0 ≢ l → atom_of lab l (p ∷ S) ≡ atom_of lab l S
atom_other lab l p S n = rw (eqb_no (lab p.0) l n, atom_of)

module _ (L H : List ℕ) (B : List (rust.Option ℕ)) (S : List Pair) (b : Borne L H S B) (p : Pair) (l : ℕ) (at : l ≡ lab_of L p.0)
    (low : l < spot_limit) where
  -- what the label holds is the atom of a pair
  holder : (a : ℕ) → get_or B l None ≡ Some a → (q : Pair) × Memᴰ q S × (lab_of L p.0 ≡ lab_of L q.0) × (a ≡ q.1)
  holder a n = go (atom_of (lab_of L) l S) (bearing (lab_of L) S l S) (b.held l low)
    where
      go : (o : Option ℕ) → Bearing (lab_of L) S l S o → get_or B l None ≡ held_of o →
          (q : Pair) × Memᴰ q S × (lab_of L p.0 ≡ lab_of L q.0) × (a ≡ q.1)
      go none (bare f) e = let z : ◌≡◌ {A = ℕ} 0 1 = cc in absurd (omega arith)
      go (some x) (bears q m h) e = (q, m, sym at ∙ sym h, cc)

  pub struck_atoms : (pairs : List Pair) → Memᴰ p pairs → ((q : Pair) → Memᴰ q S → Memᴰ q pairs) → (a : ℕ) → get_or B l None ≡ Some a →
      a ≢ p.1 → Struck L H pairs
  struck_atoms pairs m s a n d = let (q, i, e, h) = holder a n in
      record { pair = p; there = m; against = inr (q, s q i, e, λ f. d (h ∙ sym f)) }

  module _ (free : get_or H l 0 ≡ 0) (fine : (a : ℕ) → get_or B l None ≡ Some a → a ≡ p.1) where
    -- a pair of the same label has the same atom
    same_atom : (q : Pair) → Memᴰ q S → lab_of L p.0 ≡ lab_of L q.0 → p.1 ≡ q.1
    same_atom q m e = go (atom_of (lab_of L) l S) (bearing (lab_of L) S l S) (b.held l low)
      where
        go : (o : Option ℕ) → Bearing (lab_of L) S l S o → get_or B l None ≡ held_of o → p.1 ≡ q.1
        go none (bare f) h = absurd (f q m (sym e ∙ sym at))
        go (some a) (bears r i k) h = sym (fine r.1 h) ∙ b.one r q i m (k ∙ at ∙ e)

    pub borne_step : p.1 < mark_limit → Borne L H (p ∷ S) (set B l (Some p.1))
    borne_step few = record {
      len = simp length-set b.len;
      held = λ m h. held m h (test m l);
      small = λ m a. low_at m a (test m l);
      one = λ q r i j. one q r i j;
      bare = by_cons (ap (λ (z : ℕ). get_or H z 0) (sym at) ∙ free) b.bare;
    }
      where
        here : get_or (set B l (Some p.1)) l None ≡ Some p.1
        here = get_or-set_same B l (Some p.1) None (omega (arith, b.len))

        held : (m : ℕ) → m < spot_limit → {t : Bool} → Test m l t →
            get_or (set B l (Some p.1)) m None ≡ held_of (atom_of (lab_of L) m (p ∷ S))
        held m h (equal e) = rw (e, atom_here (lab_of L) l p S (sym at)) here
        held m h (differ n) = rw (atom_other (lab_of L) m p S (λ e. n (sym e ∙ sym at)))
            (get_or-set_other B l m (Some p.1) None n ∙ b.held m h)

        low_at : (m a : ℕ) {t : Bool} → Test m l t → get_or (set B l (Some p.1)) m None ≡ Some a → a < mark_limit
        low_at m a (equal e) f = let g : get_or (set B l (Some p.1)) l None ≡ Some a = rw e at f in
            let same : a ≡ p.1 = same_Some _ _ (sym g ∙ here) in rw same few
        low_at m a (differ n) f = b.small m a (sym (get_or-set_other B l m (Some p.1) None n) ∙ f)

        one : (q r : Pair) → Memᴰ q (p ∷ S) → Memᴰ r (p ∷ S) → lab_of L q.0 ≡ lab_of L r.0 → q.1 ≡ r.1
        one q r i j = by_cons {P = λ q. lab_of L q.0 ≡ lab_of L r.0 → q.1 ≡ r.1}
            (by_cons {P = λ r. lab_of L p.0 ≡ lab_of L r.0 → p.1 ≡ r.1} (λ e. refl) same_atom r j)
            (λ q m. by_cons {P = λ r. lab_of L q.0 ≡ lab_of L r.0 → q.1 ≡ r.1} (λ e. sym (same_atom q m (sym e)))
            (λ r n. b.one q r m n) r j) q i

-- a label's atom is the same in two lists of the same pairs
atom_same : (lab : ℕ → ℕ) (l : ℕ) (S T : List Pair) → ((q : Pair) → Memᴰ q S → Memᴰ q T) → ((q : Pair) → Memᴰ q T → Memᴰ q S) →
    ((p q : Pair) → Memᴰ p S → Memᴰ q S → lab p.0 ≡ lab q.0 → p.1 ≡ q.1) → atom_of lab l S ≡ atom_of lab l T
atom_same lab l S T f g one = go (atom_of lab l S) (bearing lab S l S) (atom_of lab l T) (bearing lab T l T)
  where
    go : (o : Option ℕ) → Bearing lab S l S o → (u : Option ℕ) → Bearing lab T l T u → o ≡ u
    go none (bare h) none (bare k) = refl
    go none (bare h) (some a) (bears q m e) = absurd (h q (g q m) e)
    go (some a) (bears p m e) none (bare k) = absurd (k p (f p m) e)
    go (some a) (bears p m e) (some b) (bears q n d) = ap some (one p q m (g q n) (e ∙ sym d))

-- the first k rows are done: `seen` has their pairs
pub record Bearings (L H atoms : List ℕ) (k : ℕ) (B : List (rust.Option ℕ)) : Type 0 where
  pub seen : List Pair
  pub borne : Borne L H seen B
  pub of : (q : Pair) → Memᴰ q seen → Memᴰ q (in_pairs atoms)
  pub all : (j : ℕ) → j < k → Memᴰ (pair_at atoms j) seen

pub bear_start : (L H atoms : List ℕ) (B : List (rust.Option ℕ)) → asked.AtomsBearing L B → Bearings L H atoms 0 B
bear_start L H atoms B g = record {
  seen = [];
  borne = record {
    len = g.wide;
    held = λ l h. g.clear l;
    small = λ l a e. absurd (none-some a (sym (g.clear l) ∙ e));
    one = λ p q m. absurd (Memᴰ.not-nil m);
    bare = λ p m. absurd (Memᴰ.not-nil m);
  };
  of = λ q m. absurd (Memᴰ.not-nil m);
  all = λ j h. absurd (omega arith);
}

pub bear_done : (L H atoms : List ℕ) (k : ℕ) (B : List (rust.Option ℕ)) → Bearings L H atoms k B → length atoms ≤ k → AtomsBorne L H atoms false B
bear_done L H atoms k B s e = record {
  calm = λ f. let b = s.borne in record {
    len = b.len;
    held = λ l h. b.held l h ∙ ap held_of (atom_same (lab_of L) l s.seen (in_pairs atoms) s.of back b.one);
    small = b.small;
    one = λ p q m n. b.one p q (back p m) (back q n);
    bare = λ p m. b.bare p (back p m);
  };
  struck = λ f. let z : ◌≡◌ {A = ℕ} 0 1 = cc in absurd (omega arith);
}
  where
    back : (q : Pair) → Memᴰ q (in_pairs atoms) → Memᴰ q s.seen
    back q m = let (j, h, f) = pair_from atoms q m in subst (λ (p : Pair). Memᴰ p s.seen) f (s.all j (omega arith))

module _ (L H atoms : List ℕ) (k : ℕ) (B B₀ : List (rust.Option ℕ)) (g : asked.AtomsBearing L B₀) (s : Bearings L H atoms k B) (h : k < length atoms) where
  abbrev p : Pair
  p = pair_at atoms k

  module _ (x l : ℕ) (of : x ≡ spot_of (get_or atoms k 0)) (label : l ≡ get_or L x 0) where
    at : l ≡ lab_of L p.0
    at = label ∙ ap (λ (z : ℕ). get_or L z 0) of ∙ sym (lab_at L p.0 g.len (omega arith))

    pub bear_low : l < spot_limit
    bear_low = rw at (g.low p.0 (omega arith))

    there : Memᴰ p (in_pairs atoms)
    there = pair_in atoms k h

    struck : Struck L H (in_pairs atoms) → (B' : List (rust.Option ℕ)) → AtomsBorne L H atoms true B'
    struck w B' = record { calm = λ f. let z : ◌≡◌ {A = ℕ} 0 1 = cc in absurd (omega arith); struck = λ f. w }

    pub bear_arcs : get_or H l 0 ≢ 0 → AtomsBorne L H atoms true B
    bear_arcs n = struck (record { pair = p; there = there; against = inl (λ e. n (ap (λ (z : ℕ). get_or H z 0) at ∙ e)) }) B

    module _ (given : ℕ) (e : given ≡ spot_mark (get_or atoms k 0)) where
      pub bear_atoms : (a : ℕ) → get_or B l None ≡ Some a → a ≢ given → AtomsBorne L H atoms true B
      bear_atoms a n d = struck (struck_atoms L H B s.seen s.borne p l at bear_low (in_pairs atoms) there s.of a n
          (λ f. d (f ∙ sym e))) B

      pub bear_step : get_or H l 0 ≡ 0 → ((a : ℕ) → get_or B l None ≡ Some a → a ≡ given) → given < mark_limit →
          Bearings L H atoms (k + 1) (set B l (Some given))
      bear_step free fine few = record {
        seen = p ∷ s.seen;
        borne = rw e (
            borne_step L H B s.seen s.borne p l at bear_low free (λ a n. fine a n ∙ e) (rw (← e) few));
        of = by_cons there s.of;
        all = λ j i. all j i (test j k);
      }
        where
          all : (j : ℕ) → j < k + 1 → {t : Bool} → Test j k t → Memᴰ (pair_at atoms j) (p ∷ s.seen)
          all j i (equal f) = rw f (Memᴰ.head refl)
          all j i (differ n) = Memᴰ.tail (s.all j (omega arith))
