-- The area where nothing is pushed. Assumes nothing.
use mathlib.Core.Path.{◌≡◌, refl, sym, ap, ◌∙◌, subst}
use mathlib.Core.Bool.{Bool, true, false}
use mathlib.Core.List.Memᴰ
use mathlib.Core.List.{List, [], ◌∷◌, Memᴰ}
use mathlib.Core.Logic.{inl}
use Prim.Native.Nat.{ℕ, zero, suc, ◌+◌, ◌-◌, ◌≤◌, ◌<◌}
use native.Mathlib.Nat.{zero-add}
use native.Mathlib.Omega.{arith}
use native.Mathlib.Decide.{ℕ_discrete, dec_lt}
use lib.ListN.{length, set, get_or, replicate, length-replicate, length-set}
use lib.Seq.{get_or-set_same, get_or-set_other}
use lib.Dec.{eqb}
use Rattle.area.specs.Map.{HELD, PARENT, NEXT, LOG, SIZE}
use Rattle.area.specs.Region.{loaded_words}
use Rattle.area.proofs.Region.{held_at}
use Rattle.forest.specs.Labels.{by_test, Together, how_many}
use Rattle.forest.specs.Forest.{parents, tops}
use Rattle.forest.proofs.Parents.{length_parents, getD_parents}
use Rattle.forest.proofs.Sizes.{many_own}
use Rattle.forest.specs.State.{targets, Pile, Done, Equal, Chain, State, total_length, chained}
use Rattle.classes.specs.Holds.{Holds, Starts}

tops_le : (i : ℕ) (P : List ℕ) → tops i P ≤ length P
unfolding tops
tops_le i [] = omega arith
tops_le i (x ∷ P) = go (eqb x i) (tops_le (suc i) P)
  where
    go : (b : Bool) → tops (suc i) P ≤ length P → by_test b 1 0 + tops (suc i) P ≤ suc (length P)
    go true r = omega arith
    go false r = omega arith

-- n empty chains
none : ℕ → List (List ℕ)
none n = replicate n []

none_length : (n : ℕ) → length (none n) ≡ n
unfolding none
none_length n = length-replicate n []

none_total : (n : ℕ) → total_length (none n) ≡ 0
unfolding none total_length
none_total zero = refl
none_total (suc n) = let r : total_length (replicate n []) ≡ 0 = none_total n in omega arith

none_chained : (n : ℕ) → chained (none n) ≡ 0
unfolding none chained
none_chained zero = refl
none_chained (suc n) = let r : chained (replicate n []) ≡ 0 = none_chained n in omega arith

none_at : (n c : ℕ) → get_or (none n) c [] ≡ []
unfolding none
none_at zero c = refl
none_at (suc n) zero = refl
none_at (suc n) (suc c) = none_at n c

-- the body from w₀ on has been set up to i
pub record Started (w₀ : List ℕ) (i : ℕ) (w : List ℕ) : Type 0 where
  pub len : length w ≡ length w₀
  pub first : (j : ℕ) → j < i → get_or w j 0 ≡ 0
  pub parent : (j : ℕ) → j < i → get_or w (PARENT + j) 0 ≡ j
  pub next : (j : ℕ) → j < i → (get_or w (NEXT + j) 0 ≡ 0) × (get_or w (NEXT + 1024 + j) 0 ≡ 0)
  pub rest : (j : ℕ) → LOG ≤ j → get_or w j 0 ≡ get_or w₀ j 0

-- nothing but the root 0
abbrev unpushed : Pile
unpushed = record { S = λ q. 0; B = []; R = 0 ∷ []; N = []; A = λ i. 0 }

abbrev undone : Done
undone = record { K = []; U = []; E = (0, 0) ∷ [] }

module _ (w₀ w : List ℕ) (hw : SIZE ≤ length w₀) (s : Started w₀ 1024 w) where
  small : (j : ℕ) → j < LOG → get_or w j 0 < 1048576
  small j h = go (dec_lt j PARENT) (dec_lt j NEXT) (dec_lt j (NEXT + 1024))
    where
      at : (i v : ℕ) → j ≡ i → get_or w i 0 ≡ v → v < 1048576 → get_or w j 0 < 1048576
      at i v e f l = rw (e, f) l

      go : Dec (j < PARENT) → Dec (j < NEXT) → Dec (j < NEXT + 1024) → get_or w j 0 < 1048576
      go (yes a) b c = at j 0 refl (s.first j a) (omega arith)
      go (no a) (yes b) c = at (PARENT + (j - PARENT)) (j - PARENT) (omega arith) (s.parent (j - PARENT) (omega arith)) (omega arith)
      go (no a) (no b) (yes c) = at (NEXT + (j - NEXT)) 0 (omega arith) (s.next (j - NEXT) (omega arith)).0 (omega arith)
      go (no a) (no b) (no c) = at (NEXT + 1024 + (j - (NEXT + 1024))) 0 (omega arith) (s.next (j - (NEXT + 1024)) (omega arith)).1
          (omega arith)

  module _ (n : ℕ) (hn : n ≤ 1024) where
    abbrev P : List ℕ
    P = parents n w

    length_P : length P ≡ n
    length_P = let l = s.len in length_parents n w (omega arith)

    own : (i : ℕ) → i < n → get_or P i 0 ≡ i
    own i h = let a = getD_parents n w i h in let b = s.parent i (omega arith) in omega arith

    -- each number is a class by itself
    alone : (c : ℕ) → c < n → how_many c P ≡ 1
    alone c h = let l = length_P in rw (zero-add c) at (many_own 0 c P (λ i b. own i (omega arith) ∙ sym (zero-add i)) (omega arith))

    next : (j : ℕ) → j < 2048 → Dec (j < 1024) → get_or w (NEXT + j) 0 ≡ 0
    next j h (yes l) = (s.next j l).0
    next j h (no l) = let e : NEXT + 1024 + (j - 1024) ≡ NEXT + j = omega arith in rw e at (s.next (j - 1024) (omega arith)).1

    empty : (F T : List ℕ) → State unpushed undone F T n 0 0 [] w
    empty F T =
        let l = length_P in let k = s.len in
        let t : tops 0 P ≤ n = let a = tops_le 0 P in omega arith in
        record {
          logged = record { room = omega arith; small = small };
          shape = record {
            inside = λ i h. let o = own i (omega arith) in omega arith;
            rank = λ i. 0;
            up = λ i h d. absurd (d (own i (omega arith)));
            ten = λ i h. omega arith;
          };
          few = omega arith;
          stack = omega arith;
          arcs = λ q m. absurd (Memᴰ.not-nil m);
          atoms = λ i m. absurd (Memᴰ.not-nil m);
          M = P;
          forest = record { len = refl; follow = λ i h. ap (λ (z : ℕ). get_or P z 0) (sym (own i (omega arith))); tops = λ i h e. e };
          size = λ c h e. let a = alone c h in let b = s.parent c (omega arith) in omega arith;
          heavy = λ c h e. let a = alone c h in omega arith;
          C = none n;
          wide = none_length n;
          all = let z = none_total n in omega arith;
          room = let z = none_chained n in omega arith;
          chain = λ c h m b. subst (λ (z : List ℕ). Chain w (get_or w c 0) z) (sym (none_at n c)) (s.first c (omega arith));
          bare = λ c h m b. let z = s.first c (omega arith) in absurd (omega arith);
          home = λ c q h m. absurd (Memᴰ.not-nil (subst (Memᴰ q) (none_at n c) m));
          known = λ j m. absurd (Memᴰ.not-nil m);
          blank = λ j h m. next j h (dec_lt j 1024);
          cover = λ j m. absurd (Memᴰ.not-nil m);
          nodes = λ i m. absurd (Memᴰ.not-nil m);
          met = λ i m. absurd (Memᴰ.not-nil m);
          held = λ x y m. subst (λ (v : ℕ × ℕ). Together P v.0 v.1) (sym (Memᴰ.eq_of_singleton m)) (inl refl, refl);
          sound = λ i j hi hj e. subst (λ (z : ℕ). Equal unpushed F T i z) (sym (own i hi) ∙ e ∙ own j hj) (Equal.self i);
          frame = λ a b m. absurd (Memᴰ.not-nil m);
        }

    holds : Holds n [] 0 w
    holds = record {
      long = let l = s.len in omega arith;
      below = hn;
      G = unpushed;
      H = undone;
      state = empty (loaded_words w) (targets w);
      full = record {
        arcs = λ q m. absurd (Memᴰ.not-nil m);
        atoms = λ i m. absurd (Memᴰ.not-nil m);
        root = 0;
        roots =
            λ x m. Memᴰ.head (ap (λ (z : ℕ). (0, z)) (Memᴰ.eq_of_singleton m));
      };
      top = refl;
      tied = record {
        some = λ e m. absurd (Memᴰ.not-nil m);
        anchor = Memᴰ.head refl;
        root = λ e m. absurd (Memᴰ.not-nil m);
        roots = λ x m. inl (Memᴰ.eq_of_singleton m);
        node = λ e m. absurd (Memᴰ.not-nil m);
        nodes = λ i m. absurd (Memᴰ.not-nil m);
        arc = λ e m. absurd (Memᴰ.not-nil m);
        arcs = λ q m. absurd (Memᴰ.not-nil m);
      };
      apart = tt;
      each = λ e m. absurd (Memᴰ.not-nil m);
      count = omega arith;
    }

  pub starts : Starts w₀ w
  starts = record { len = s.len; rest = λ j h. s.rest j (omega arith); holds = holds }

-- ---- as `start` has it
pub started_none : (w : List ℕ) → Started w 0 w
started_none w = record {
  len = refl;
  first = λ j h. absurd (omega arith);
  parent = λ j h. absurd (omega arith);
  next =
      λ j h. absurd (omega arith);
  rest = λ j h. refl;
}

module _ (w₀ w : List ℕ) (i : ℕ) (h : i < 1024) (l : SIZE ≤ length w₀) (s : Started w₀ i w) where
  abbrev w1 : List ℕ
  w1 = set w (HELD + i) 0

  abbrev w2 : List ℕ
  w2 = set w1 (PARENT + i) i

  abbrev w3 : List ℕ
  w3 = set w2 (NEXT + i) 0

  abbrev w4 : List ℕ
  w4 = set w3 (NEXT + 1024 + i) 0

  len1 : length w1 ≡ length w₀
  len1 = simp length-set s.len

  len2 : length w2 ≡ length w₀
  len2 = simp length-set s.len

  len3 : length w3 ≡ length w₀
  len3 = simp length-set s.len

  -- elsewhere nothing changes
  off : (j : ℕ) → (j ≡ i → ⊥) → (j ≡ PARENT + i → ⊥) → (j ≡ NEXT + i → ⊥) → (j ≡ NEXT + 1024 + i → ⊥) → get_or w4 j 0 ≡ get_or w j 0
  off j a b c d = get_or-set_other w3 (NEXT + 1024 + i) j 0 0 d ∙ get_or-set_other w2 (NEXT + i) j 0 0 c
      ∙ get_or-set_other w1 (PARENT + i) j i 0 b ∙ get_or-set_other w (HELD + i) j 0 0 (λ e. a (e ∙ held_at i))

  at_first : get_or w4 i 0 ≡ 0
  at_first = get_or-set_other w3 (NEXT + 1024 + i) i 0 0 (λ z. omega arith) ∙ get_or-set_other w2 (NEXT + i) i 0 0 (λ z. omega arith)
      ∙ get_or-set_other w1 (PARENT + i) i i 0 (λ z. omega arith) ∙ ap (λ (j : ℕ). get_or w1 j 0) (sym (held_at i))
      ∙ get_or-set_same w (HELD + i) 0 0 (omega (arith, s.len))

  at_parent : get_or w4 (PARENT + i) 0 ≡ i
  at_parent = get_or-set_other w3 (NEXT + 1024 + i) (PARENT + i) 0 0 (λ z. omega arith)
      ∙ get_or-set_other w2 (NEXT + i) (PARENT + i) 0 0 (λ z. omega arith) ∙ get_or-set_same w1 (PARENT + i) i 0 (omega (arith, len1))

  at_next : get_or w4 (NEXT + i) 0 ≡ 0
  at_next = get_or-set_other w3 (NEXT + 1024 + i) (NEXT + i) 0 0 (λ z. omega arith) ∙ get_or-set_same w2 (NEXT + i) 0 0 (omega (arith, len2))

  at_last : get_or w4 (NEXT + 1024 + i) 0 ≡ 0
  at_last = get_or-set_same w3 (NEXT + 1024 + i) 0 0 (omega (arith, len3))

  pub started_more : Started w₀ (i + 1) w4
  started_more = record {
    len = simp length-set s.len;
    first = λ j a. first j a (ℕ_discrete j i);
    parent = λ j a. parent j a (ℕ_discrete j i);
    next = λ j a. next j a (ℕ_discrete j i);
    rest = λ j a. off j (λ e. omega arith) (λ e. omega arith) (λ e. omega arith) (λ e. omega arith) ∙ s.rest j a;
  }
    where
      below : (j : ℕ) → j < i + 1 → (j ≡ i → ⊥) → j < i
      below j a b = go (dec_lt j i)
        where
          go : Dec (j < i) → j < i
          go (yes y) = y
          go (no y) = absurd (b (omega arith))

      first : (j : ℕ) → j < i + 1 → Dec (j ≡ i) → get_or w4 j 0 ≡ 0
      first j a (yes e) = rw e at_first
      first j a (no e) = off j e (λ z. omega arith) (λ z. omega arith) (λ z. omega arith) ∙ s.first j (below j a e)

      parent : (j : ℕ) → j < i + 1 → Dec (j ≡ i) → get_or w4 (PARENT + j) 0 ≡ j
      parent j a (yes e) = rw e at_parent
      parent j a (no e) = off (PARENT + j) (λ z. omega arith) (λ z. e (omega arith)) (λ z. omega arith) (λ z. omega arith)
          ∙ s.parent j (below j a e)

      next : (j : ℕ) → j < i + 1 → Dec (j ≡ i) → (get_or w4 (NEXT + j) 0 ≡ 0) × (get_or w4 (NEXT + 1024 + j) 0 ≡ 0)
      next j a (yes e) = rw e (at_next, at_last)
      next j a (no e) =
          let o = s.next j (below j a e) in (
            off (NEXT + j) (λ z. omega arith) (λ z. omega arith) (λ z. e (omega arith)) (λ z. omega arith)
                ∙ o.0,
            off (NEXT + 1024 + j) (λ z. omega arith) (λ z. omega arith) (λ z. omega arith) (λ z. e (omega arith)) ∙ o.1,
          )
