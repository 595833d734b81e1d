-- The alternative is found that has the choice with a given number: those before it are passed over, with their choices.
-- Assumes nothing.
use Prim.Native.Nat.{ℕ, ◌+◌, ◌-◌, ◌≤◌, ◌<◌}
use native.Mathlib.Omega.{arith}
use mathlib.Core.Path.{◌≡◌, refl, sym, ap, subst, ◌∙◌}
use mathlib.Core.Bool.{Bool, true, false}
use mathlib.Core.List.{List, ◌∷◌}
use borrow.Author.Tests.{lt-ltb, le-ltb}
use lib.Dec.{ltb}
use lib.ListN.{length, set}
use Rattle.theory.specs.Limits.{choice_limit}
use Rattle.descriptions.specs.Descr.{number, number_any}
use Rattle.area.specs.Map.{RESULT, NODES}
use Rattle.engine.specs.Placed.{Placed, Options, option, own, strip, strip_any}
use Rattle.engine.specs.Marks.{Marking, keep, keep_any}
use Rattle.loading.specs.Entry.{entry}
use Rattle.loading.specs.At.{AtAny}
use Rattle.loading.specs.Lying.{RestAny}
use Rattle.loading.proofs.Lying.{bounds_of}
use Rattle.marks.specs.Positions.{tail_at, mark_at, after_at}
use Rattle.marks.specs.Readable.{Readable}
use Rattle.marks.specs.Marked.{marking}
use Rattle.marks.proofs.Reading.{readable}
use Rattle.counting.specs.Counted.{Counted}
use Rattle.choosing.specs.Ways.{Take, take_as, new_part, way_in, way_any, way_any_of, words_of}
use Rattle.choosing.specs.Chosen.{Beyond, Written, ChoosingIn, ChoosesIn, Picking}
use Rattle.choosing.proofs.Walks.{Still, still_all, still_none, Next, next, next_here, next_mark, next_lies, next_on}
use Rattle.choosing.proofs.Sums.{number_kept, number_dropped, counted_of}
use Rattle.choosing.proofs.Frames.{beyond_trans, beyond_set, beyond_room, beyond_words, beyond_marks}
use Rattle.choosing.proofs.Frames.{written_none, written_cons}

-- ---- a way through the first of some alternatives, or through a later one
module _ (t : List ℕ) (m : Marking) (new : Bool) (p n x : ℕ) (d : Placed) (a : Options) (q r : ℕ) (at : AtAny t p n (option x d a) q r)
    (i : ℕ) where
  abbrev many : ℕ
  many = number (strip (keep m d))

  abbrev one : List Take
  one = take_as (entry p n (own d)) x new ∷ way_in t m new p n d at.0 at.1 at.3 i

  abbrev on : ℕ → List Take
  on j = way_any t m new at.0 at.1 a q r at.4 j

  abbrev told : Bool → Bool → List Take
  told b c = elim b [ true ↦ elim c [ true ↦ one | false ↦ on (i - many) ] | false ↦ on i ]

  pub way_skip : m x ≡ false → way_any t m new p n (option x d a) q r at i ≡ way_any t m new at.0 at.1 a q r at.4 i
  way_skip e = ap (λ (b : Bool). told b (ltb i many)) e

  pub way_pass : m x ≡ true → number (strip (keep m d)) ≤ i →
      way_any t m new p n (option x d a) q r at i ≡ way_any t m new at.0 at.1 a q r at.4 (i - number (strip (keep m d)))
  way_pass e h = ap (λ (b : Bool). told b (ltb i many)) e ∙ ap (told true) (le-ltb i many h)

  pub way_take : m x ≡ true → i < number (strip (keep m d)) → way_any t m new p n (option x d a) q r at i
      ≡ take_as (entry p n (own d)) x new ∷ way_in t m new p n d at.0 at.1 at.3 i
  way_take e h = ap (λ (b : Bool). told b (ltb i many)) e ∙ ap (told true) (lt-ltb i many h)

-- what a turn at `g` does to the number
pub data Turn (w : List ℕ) (left g x index index' : ℕ) : Type 0 where
  skipped : marking w x ≡ false → index' ≡ index → Turn w left g x index index'
  passed : (r : ℕ) → marking w x ≡ true → Counted w g left r → r ≤ index → index' ≡ index - r → Turn w left g x index index'

module _ {w : List ℕ} {p count left at : ℕ} (k : Picking w p count left at) (i : ℕ) (new : Bool) where
  abbrev m : Marking
  m = marking w

  -- the way goes through those still to come
  abbrev pub Goes : (index g l : ℕ) (b : Options) → RestAny k.sums.lies g l b → Type 0
  Goes index g l b s =
      (way_any_of (marking w) new k.sums.lies i
      ≡ way_any k.sums.t (marking w) new g l b k.sums.lies.end k.sums.lies.to s index)
      × (number_any (strip_any (keep_any (marking w) b)) ≤ choice_limit)

  pub goes_all : Still k.sums (Goes i) count p
  goes_all = still_all k.sums (Goes i) (refl, k.most)

  module _ {more g : ℕ} (index : ℕ) (s : Still k.sums (Goes index) more g) where
    pub goes_none : more ≤ 0 → Written w at (words_of (way_any_of (marking w) new k.sums.lies i)) at
    goes_none h = still_none k.sums (Goes index) s (Written w at (words_of (way_any_of m new k.sums.lies i)) at) h
        (λ o e. subst (λ (ks : List Take). Written w at (words_of ks) at) (sym e.0) (written_none w at))

    module _ (h : 0 < more) where
      abbrev n : Next k.sums (Goes index) more g
      n = next k.sums (Goes index) s h

      pub goes_here : ((g < 2048) × (16384 ≤ length w)) × (tail_at w g < 2048)
      goes_here = next_here k.sums (Goes index) n

      pub goes_asks : Readable w g left
      goes_asks = readable w k.sums.room k.sums.loaded k.sums.few (next_lies k.sums (Goes index) n)

      -- there is room for one more word
      pub goes_room : at < NODES
      goes_room = omega (
        arith,
        k.fits,
        n.above,
        (bounds_of (next_lies k.sums (Goes index) n)).2,
        (next_lies k.sums (Goes index) n).low,
        k.sums.few,
      )

      module _ (x : ℕ) (is : (x ≡ mark_at w g) × (x < 1024)) where
        own_mark : (b : Bool) → marking w x ≡ b → marking w n.x ≡ b
        own_mark b e = ap (marking w) (sym (next_mark k.sums (Goes index) n x is)) ∙ e

        -- the number that was counted did not stop
        whole : (r : ℕ) → marking w x ≡ true → Counted w g left r →
            (r ≡ number (strip (keep m n.d))) × (r + number_any (strip_any (keep_any m n.b)) ≤ choice_limit)
        whole r e counted =
            let z = counted_of k.sums g r counted (next_lies k.sums (Goes index) n) in
            let y = number_kept m n.x n.d n.b (own_mark true e) in
            let most = n.holds.1 in
            (omega arith, omega arith)

        pub goes_on : (index' : ℕ) → Turn w left g x index index' → (g' : ℕ) → g' ≡ after_at w g →
            Still k.sums (Goes index') (more - 1) g'
        goes_on index' turn g' e = next_on k.sums (Goes index) (Goes index') n (go turn) g' e
          where
            later : ℕ → List Take
            later j = way_any k.sums.t m new n.o.0 n.o.1 n.b k.sums.lies.end k.sums.lies.to n.o.4 j

            go : Turn w left g x index index' → Goes index' n.o.0 n.o.1 n.b n.o.4
            go (skipped f z) = (
              n.holds.0
                  ∙ way_skip k.sums.t m new g n.l n.x n.d n.b k.sums.lies.end k.sums.lies.to n.o index
                  (own_mark false f) ∙ ap later (sym z),
              omega (arith, n.holds.1, number_dropped m n.x n.d n.b (own_mark false f)),
            )
            go (passed r f counted over z) =
                let same = (whole r f counted).0 in
                let few = (whole r f counted).1 in (
                  n.holds.0
                      ∙ way_pass k.sums.t m new g n.l n.x n.d n.b k.sums.lies.end k.sums.lies.to n.o index
                      (own_mark true f) (omega arith) ∙ ap later (omega arith),
                  omega arith,
                )

        -- the alternative has it
        module _ (r : ℕ) (kept : marking w x ≡ true) (counted : Counted w g left r) (below : index < r) (v : ℕ)
            (word : v ≡ g + new_part new) where
          abbrev w₁ : List ℕ
          w₁ = set w (RESULT + at) v

          abbrev asks_in : ChoosingIn w₁ g left r (at + 1)
          asks_in = record {
            room = beyond_room w at w₁ k.sums.room (beyond_set w at v goes_room);
            t = k.sums.t;
            loaded = beyond_words w at w₁ k.sums.room (beyond_set w at v goes_room) ∙ k.sums.loaded;
            n = k.sums.n;
            few = k.sums.few;
            lies = next_lies k.sums (Goes index) n;
            all = ap (λ (z : Marking). number (strip (keep z n.d))) (beyond_marks w at w₁ k.sums.room (beyond_set w at v goes_room))
                ∙ sym (whole r kept counted).0;
            some = omega arith;
            most = omega (arith, (whole r kept counted).1);
            fits = omega (arith, k.fits, n.above);
          }

          pub goes_asks_in : ChoosingIn w₁ g left r (at + 1)
          goes_asks_in = asks_in

          module _ (to : ℕ) (w' : List ℕ) (u : ChoosesIn w₁ g left index r new (at + 1) to w') where
            pub goes_beyond : Beyond w at w'
            goes_beyond = beyond_trans w at w₁ (at + 1) w' (omega arith) (beyond_set w at v goes_room) u.beyond

            pub goes_writes : Written w' at (words_of (way_any_of (marking w) new k.sums.lies i)) to
            goes_writes =
                let inside : Marking → List Take = λ z. way_in k.sums.t z new g n.l n.d n.o.0 n.o.1 n.o.3 index in
                let same = (whole r kept counted).0 in
                subst (λ (ks : List Take). Written w' at (words_of ks) to)
                (sym (n.holds.0
                ∙ way_take k.sums.t m new g n.l n.x n.d n.b k.sums.lies.end k.sums.lies.to n.o index
                (own_mark true kept) (omega arith)))
                (written_cons w at v w' (take_as (entry g n.l (own n.d)) n.x new) (inside m) to k.sums.room goes_room word
                u.beyond
                (subst (λ (z : Marking). Written w' (at + 1) (words_of (inside z)) to)
                (beyond_marks w at w₁ k.sums.room (beyond_set w at v goes_room)) (u.writes asks_in)))
