-- "It costs only the description in it": a block is said to cost a description exactly where reading that description gives 44.
-- Assumes nothing.
use Prim.Native.Nat.{ℕ, zero, suc, ◌+◌, ◌*◌, ◌-◌, ◌/◌, ◌≤◌, ◌<◌}
use native.Mathlib.Omega.{arith}
use mathlib.Core.Path.{◌≡◌, refl, sym, ap, ◌∙◌}
use mathlib.Core.Bool.{Bool, true, false}
use mathlib.Core.List.{List}
use lib.ListN.{length}
use lib.Dec.{eqb, leb}
use borrow.Author.Tests.{eqb-true, ne_eqb, le-leb, lt-ltb, le-ltb}
use Rattle.blocks.specs.Block.{whichever, pair_at, intact, block_of}
use Rattle.library.specs.Index.{room_of, first_part, index_good, Index, placed, found, index_of}
use Rattle.library.specs.Read.{Fetched, words_from, whole_blocks, imaged, fetch_answer_at, fetch_answer_found, fetch_answer_by, fetch_answer, sought}
use Rattle.library.specs.Check.{Checked, held_by, block_among, holder_of, checked_in, held_checked, checked_by, block_checked}
use Rattle.std.specs.Prelude.{Option, Some, None, Ok, Err}
use Rattle.library.specs.declared.index.Place.{Place}
use Rattle.library.specs.declared.read.ReadError.TheVariants as error
use Rattle.library.specs.declared.survey.Holder.{Holder}
use Rattle.library.proofs.Opening.{block_held}
use Rattle.library.proofs.Indices.{placed_is}
use Rattle.library.proofs.Good.{Sound, goes, after_entry}
use Rattle.library.proofs.Back.{first_found, later_found}
use Rattle.library.proofs.Checking.{among_means}

-- ---- the blocks of a description
module _ (f : List ℕ) where
  -- block j of n words from block k on is damaged
  abbrev Spoils : ℕ → ℕ → ℕ → Type 0
  Spoils k n j = intact (4 * first_part (n - 126 * j)) (k + j) (block_of (k + j) f) ≡ false

  spoils_next : (k n j : ℕ) → Spoils (k + 1) (n - first_part n) j → Spoils k n (suc j)
  spoils_next k n j s =
      let place : k + suc j ≡ (k + 1) + j = omega arith in
      let left : n - 126 * suc j ≡ (n - first_part n) - 126 * j = omega arith in
      rw place (rw left s)

  spoils_after : (k n j : ℕ) → Spoils k n (suc j) → Spoils (k + 1) (n - first_part n) j
  spoils_after k n j s =
      let place : (k + 1) + j ≡ k + suc j = omega arith in
      let left : (n - first_part n) - 126 * j ≡ n - 126 * suc j = omega arith in
      rw place (rw left s)

  spoils_first : (k n : ℕ) → intact (4 * first_part n) k (block_of k f) ≡ false → Spoils k n 0
  spoils_first k n s =
      let place : k + 0 ≡ k = omega arith in
      let left : n - 126 * 0 ≡ n = omega arith in
      rw place (rw left s)

  first_spoils : (k n : ℕ) → Spoils k n 0 → intact (4 * first_part n) k (block_of k f) ≡ false
  first_spoils k n s =
      let place : k ≡ k + 0 = omega arith in
      let left : n ≡ n - 126 * 0 = omega arith in
      ap (λ (m : ℕ). intact (4 * first_part m) k (block_of k f)) left
      ∙ ap (λ (i : ℕ). intact (4 * first_part (n - 126 * 0)) i (block_of i f)) place ∙ s

  some_spoils : (c k n : ℕ) → whole_blocks c k n f ≡ false → (j : ℕ) × (j < c) × Spoils k n j
  unfolding whole_blocks
  some_spoils zero k n e = absurd (let z : ◌≡◌ {A = ℕ} 0 1 = cc in omega arith)
  some_spoils (suc c) k n e =
      go (intact (4 * first_part n) k (block_of k f)) refl e (some_spoils c (k + 1) (n - first_part n))
    where
      go : (t : Bool) → intact (4 * first_part n) k (block_of k f) ≡ t
          → whichever t (whole_blocks c (k + 1) (n - first_part n) f) false ≡ false
          → (whole_blocks c (k + 1) (n - first_part n) f ≡ false → (j : ℕ) × (j < c) × Spoils (k + 1) (n - first_part n) j)
          → (j : ℕ) × (j < suc c) × Spoils k n j
      go false s e more = (0, omega arith, spoils_first k n s)
      go true s e more =
          let m = more e in
          let low = m.1 in
          (suc m.0, omega arith, spoils_next k n m.0 m.2)

  spoils_some : (c k n j : ℕ) → j < c → Spoils k n j → whole_blocks c k n f ≡ false
  unfolding whole_blocks
  spoils_some zero k n j h s = absurd (omega arith)
  spoils_some (suc c) k n zero h s = let e = first_spoils k n s in rw e
  spoils_some (suc c) k n (suc j) h s =
      let more = spoils_some c (k + 1) (n - first_part n) j (omega arith) (spoils_after k n j s) in
      go (intact (4 * first_part n) k (block_of k f)) more
    where
      go : (t : Bool) → whole_blocks c (k + 1) (n - first_part n) f ≡ false
          → whichever t (whole_blocks c (k + 1) (n - first_part n) f) false ≡ false
      go true e = e
      go false e = refl

-- ---- which description holds a block
module _ (first n k : ℕ) where
  among_true : first ≤ k → k - first < room_of n → block_among first n k ≡ true
  unfolding block_among
  among_true h l = rw (le-leb first k h) (lt-ltb (k - first) (room_of n) l)

  among_false : first ≤ k → room_of n ≤ k - first → block_among first n k ≡ false
  unfolding block_among
  among_false h l = rw (le-leb first k h) (le-ltb (k - first) (room_of n) l)

of_is : {i u i' u' : ℕ} → held_by i u ≡ held_by i' u' → (i ≡ i') × (u ≡ u')
of_is {i} {u} {i'} {u'} e =
    let same : ◌≡◌ {A = Holder} (record { identifier = i; used = u }) (record { identifier = i'; used = u' }) = cc in
    (ap (λ (h : Holder). h.identifier) same, ap (λ (h : Holder). h.used) same)

module _ (b : List ℕ) (total : ℕ) where
  found_after : (id c low next p k n : ℕ) → index_good c low next p b total ≡ true → found id c p b ≡ placed k n → next ≤ k
  unfolding found
  found_after id zero low next p k n e g = absurd (let z : ◌≡◌ {A = ℕ} 0 1 = cc in omega arith)
  found_after id (suc c) low next p k n e g =
      let s = after_entry c low next p b total e in
      go (eqb (pair_at b p) id) g s.0 (found_after id c (pair_at b p + 1) (next + room_of (pair_at b (p + 4))) (p + 8) k n s.1)
    where
      go : (t : Bool) → whichever t (placed (pair_at b (p + 2)) (pair_at b (p + 4))) (found id c (p + 8) b) ≡ placed k n → Sound low next p b
          → (found id c (p + 8) b ≡ placed k n → next + room_of (pair_at b (p + 4)) ≤ k) → next ≤ k
      go true g s rest = let h = (placed_is g).0 in let r = s.follows in omega arith
      go false g s rest = let h = rest g in omega arith

  found_holds : (id c low next p k n j : ℕ) → index_good c low next p b total ≡ true → found id c p b ≡ placed k n → j < room_of n
      → holder_of (k + j) c p b ≡ held_by id (4 * first_part (n - 126 * j))
  unfolding found holder_of
  found_holds id zero low next p k n j e g h = absurd (let z : ◌≡◌ {A = ℕ} 0 1 = cc in omega arith)
  found_holds id (suc c) low next p k n j e g h =
      let s = after_entry c low next p b total e in
      let next' = next + room_of (pair_at b (p + 4)) in
      go (eqb (pair_at b p) id) refl g s.0 (found_after id c (pair_at b p + 1) next' (p + 8) k n s.1)
      (λ g'. found_holds id c (pair_at b p + 1) next' (p + 8) k n j s.1 g' h)
    where
      go : (t : Bool) → eqb (pair_at b p) id ≡ t
          → whichever t (placed (pair_at b (p + 2)) (pair_at b (p + 4))) (found id c (p + 8) b) ≡ placed k n → Sound low next p b
          → (found id c (p + 8) b ≡ placed k n → next + room_of (pair_at b (p + 4)) ≤ k)
          → (found id c (p + 8) b ≡ placed k n → holder_of (k + j) c (p + 8) b ≡ held_by id (4 * first_part (n - 126 * j)))
          → whichever (block_among (pair_at b (p + 2)) (pair_at b (p + 4)) (k + j))
          (held_by (pair_at b p) (4 * first_part (pair_at b (p + 4) - 126 * ((k + j) - pair_at b (p + 2)))))
          (holder_of (k + j) c (p + 8) b)
          ≡ held_by id (4 * first_part (n - 126 * j))
      go true q g s later rest =
          let same = placed_is g in
          let first = same.0 in
          let words = same.1 in
          let same_id = eqb-true (pair_at b p) id q in
          let here = among_true (pair_at b (p + 2)) (pair_at b (p + 4)) (k + j) (omega arith) (omega arith) in
          let step : (k + j) - pair_at b (p + 2) ≡ j = omega arith in
          rw here (rw step (rw words (rw same_id)))
      go false q g s later rest =
          let behind = later g in
          let follows = s.follows in
          let other = among_false (pair_at b (p + 2)) (pair_at b (p + 4)) (k + j) (omega arith) (omega arith) in
          rw other (rest g)

  holds_found : (c low next p k id used : ℕ) → index_good c low next p b total ≡ true → holder_of k c p b ≡ held_by id used
      → (first n j : ℕ) × (found id c p b ≡ placed first n) × (j < room_of n) × (k ≡ first + j) × (used ≡ 4 * first_part (n - 126 * j))
  unfolding holder_of
  holds_found zero low next p k id used e g = absurd (let z : ◌≡◌ {A = ℕ} 0 1 = cc in omega arith)
  holds_found (suc c) low next p k id used e g =
      let s = after_entry c low next p b total e in
      go (block_among (pair_at b (p + 2)) (pair_at b (p + 4)) k) refl g
      (λ g'. holds_found c (pair_at b p + 1) (next + room_of (pair_at b (p + 4))) (p + 8) k id used s.1 g')
    where
      go : (t : Bool) → block_among (pair_at b (p + 2)) (pair_at b (p + 4)) k ≡ t
          → whichever t (held_by (pair_at b p) (4 * first_part (pair_at b (p + 4) - 126 * (k - pair_at b (p + 2))))) (holder_of k c (p + 8) b)
          ≡ held_by id used
          → (holder_of k c (p + 8) b ≡ held_by id used
          → (first n j : ℕ) × (found id c (p + 8) b ≡ placed first n) × (j < room_of n) × (k ≡ first + j)
          × (used ≡ 4 * first_part (n - 126 * j)))
          → (first n j : ℕ) × (found id (suc c) p b ≡ placed first n) × (j < room_of n) × (k ≡ first + j)
          × (used ≡ 4 * first_part (n - 126 * j))
      go true q g rest =
          let same = of_is g in
          let m = among_means (pair_at b (p + 2)) (pair_at b (p + 4)) k q in
          let low' = m.0 in (
            pair_at b (p + 2),
            pair_at b (p + 4),
            k - pair_at b (p + 2),
            ap (λ (i : ℕ). found i (suc c) p b) (sym same.0) ∙ first_found b total c p,
            m.1,
            omega arith,
            sym same.1,
          )
      go false q g rest =
          let r = rest g in
          (r.0, r.1, r.2, later_found b total c low next p id r.0 r.1 e r.3, r.4, r.5, r.6)

-- ---- the reader and the check of blocks
not_whole : (t u v : Bool) (n : ℕ)
    → ◌≡◌ {A = Fetched} (whichever t (whichever u (whichever v (Ok n) (Err (error.NoRoom n))) (Err error.Malformed)) (Err error.Damaged)) (Err error.Damaged)
    → t ≡ false
not_whole false u v n e = refl
not_whole true false v n e = absurd (let z : ◌≡◌ {A = ℕ} 0 1 = cc in omega arith)
not_whole true true false n e = absurd (let z : ◌≡◌ {A = ℕ} 0 1 = cc in omega arith)
not_whole true true true n e = absurd (let z : ◌≡◌ {A = ℕ} 0 1 = cc in omega arith)

costs_is : {i j : ℕ} → ◌≡◌ {A = Checked} (Ok (Some i)) (Ok (Some j)) → i ≡ j
costs_is e = cc

-- a block that costs a description is held by it, and is damaged
held_costs_is : (h : Option Holder) (k : ℕ) (f : List ℕ) (id : ℕ) → checked_in h k f ≡ Ok (Some id)
    → (used : ℕ) × (h ≡ held_by id used) × (intact used k (block_of k f) ≡ false)
unfolding checked_in
held_costs_is None k f id e = absurd (let z : ◌≡◌ {A = ℕ} 0 1 = cc in omega arith)
held_costs_is (Some h) k f id e = go h.identifier h.used (intact h.used k (block_of k f)) refl e
  where
    go : (i used : ℕ) (t : Bool) → intact used k (block_of k f) ≡ t → ◌≡◌ {A = Checked} (whichever t (Ok None) (Ok (Some i))) (Ok (Some id))
        → (v : ℕ) × (held_by i used ≡ held_by id v) × (intact v k (block_of k f) ≡ false)
    go i used true q e = absurd (let z : ◌≡◌ {A = ℕ} 0 1 = cc in omega arith)
    go i used false q e = (used, ap (λ (j : ℕ). held_by j used) (costs_is e), q)

module _ (f : List ℕ) (count : ℕ) (good : index_of f ≡ Ok count) where
  checks : (k : ℕ) → block_checked k f ≡ held_checked k count f
  checks k = sym (block_held k count f (sym good))

  reads : (id room : ℕ) → fetch_answer f id room ≡ fetch_answer_found (sought id count f) f room
  unfolding fetch_answer fetch_answer_by
  reads id room = ap (λ (x : Index). fetch_answer_by x id f room) good

  later_costs : (k id : ℕ) → held_checked k count f ≡ Ok (Some id) → checked_in (holder_of k count 2 (block_of 0 f)) k f ≡ Ok (Some id)
  unfolding held_checked
  later_costs k id e = go (eqb k 0) e
    where
      go : (t : Bool) → whichever t (Ok None) (checked_in (holder_of k count 2 (block_of 0 f)) k f) ≡ Ok (Some id)
          → checked_in (holder_of k count 2 (block_of 0 f)) k f ≡ Ok (Some id)
      go true e = absurd (let z : ◌≡◌ {A = ℕ} 0 1 = cc in omega arith)
      go false e = e

  damaged_found : (id room first n : ℕ) → sought id count f ≡ placed first n → whole_blocks (room_of n) first n f ≡ false
      → fetch_answer f id room ≡ Err error.Damaged
  unfolding fetch_answer_found fetch_answer_at
  damaged_found id room first n g w =
      reads id room ∙ ap (λ (x : Option Place). fetch_answer_found x f room) g ∙ rw w

  -- a block that is said to cost a description makes its reading give 44
  pub costs_read : (k id room : ℕ) → block_checked k f ≡ Ok (Some id) → fetch_answer f id room ≡ Err error.Damaged
  costs_read k id room e =
      let b = block_of 0 f in
      let total = length f / 512 in
      let h = held_costs_is (holder_of k count 2 b) k f id (later_costs k id (sym (checks k) ∙ e)) in
      let d = holds_found b total count 0 1 2 k id h.0 (goes f count (sym good)).entries h.1 in
      let first = d.0 in
      let n = d.1 in
      let j = d.2 in
      let spoils : Spoils f first n j =
      ap (λ (u : ℕ). intact u (first + j) (block_of (first + j) f)) (sym d.6)
      ∙ ap (λ (i : ℕ). intact h.0 i (block_of i f)) (sym d.5) ∙ h.2 in
      damaged_found id room first n d.3 (spoils_some f (room_of n) first n j d.4 spoils)

  held_damaged : (k id used : ℕ) → 0 < k → holder_of k count 2 (block_of 0 f) ≡ held_by id used → intact used k (block_of k f) ≡ false
      → block_checked k f ≡ Ok (Some id)
  unfolding held_checked checked_in
  held_damaged k id used h o s = checks k ∙ (let later = ne_eqb k 0 (λ z. omega arith) in rw later (rw o (rw s)))

  -- and where reading one gives 44, some block is said to cost it
  pub read_costs : (id room : ℕ) → fetch_answer f id room ≡ Err error.Damaged → (k : ℕ) × (block_checked k f ≡ Ok (Some id))
  unfolding fetch_answer_found fetch_answer_at
  read_costs id room e = go (sought id count f) refl (sym (reads id room) ∙ e)
    where
      unfolds : (k n : ℕ) → fetch_answer_found (placed k n) f room ≡ Err error.Damaged → whole_blocks (room_of n) k n f ≡ false
      unfolds k n e = not_whole (whole_blocks (room_of n) k n f) (imaged (words_from k 0 n f)) (leb n room) n e

      go : (x : Option Place) → sought id count f ≡ x → fetch_answer_found x f room ≡ Err error.Damaged
          → (k : ℕ) × (block_checked k f ≡ Ok (Some id))
      go None g e = absurd (let z : ◌≡◌ {A = ℕ} 0 1 = cc in omega arith)
      go (Some p) g e =
          let first = p.first in
          let n = p.words in
          let b = block_of 0 f in
          let total = length f / 512 in
          let entries = (goes f count (sym good)).entries in
          let m = some_spoils f (room_of n) first n (unfolds first n e) in
          let j = m.0 in
          let after = found_after b total id count 0 1 2 first n entries g in
          let holder = found_holds b total id count 0 1 2 first n j entries g m.1 in
          (first + j, held_damaged (first + j) id (4 * first_part (n - 126 * j)) (omega arith) holder m.2)
