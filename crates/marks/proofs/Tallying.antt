-- Counting the kept ones of some alternatives: what is left of them goes on to count them all.
-- Assumes nothing.
use Prim.Native.Nat.{ℕ, suc, ◌+◌, ◌≤◌, ◌<◌}
use native.Mathlib.Omega.{arith}
use mathlib.Core.Path.{◌≡◌, refl, sym, subst, ap, ◌∙◌}
use mathlib.Core.Logic.{◌⊎◌, inl, inr, ⊎_elim}
use mathlib.Core.Bool.{Bool, true, false}
use mathlib.Core.List.{List}
use Rattle.area.specs.Region.{loaded_words}
use Rattle.engine.specs.Placed.{Options, no_more, option}
use Rattle.engine.specs.Marks.{Marking, kept_of}
use Rattle.packing.specs.Packed.{number_step}
use Rattle.loading.specs.Numbered.{options}
use Rattle.loading.specs.At.{AtAny}
use Rattle.marks.specs.Positions.{mark_at, tail_at, after_at}
use Rattle.marks.specs.Marked.{marking}
use Rattle.marks.specs.Readable.{Alternatives}
use Rattle.marks.specs.Tallied.{from_kept, remnant_of, Tallied}
use Rattle.marks.specs.declared.tally.Remnant.{Remnant}
use Rattle.marks.proofs.Reading.{read_option, read_first}
use Rattle.marks.proofs.First.{kept_true, kept_false, from_true, from_false}

module _ (w : List ℕ) (p count : ℕ) (s : Alternatives w p count) where
  small : s.lies.to < number_step
  small = omega (arith, s.lies.low, s.few)

  -- none was found, and the first may be the next; or those from the first on stand at `first`
  abbrev Before : Options → (at first found : ℕ) → Type 0
  Before rest at first found = (found ≡ 0) × (first ≡ at) × (from_kept (marking w) s.lies.a ≡ from_kept (marking w) rest)

  abbrev Since : (first found : ℕ) → Type 0
  Since first found = (0 < found) × ((k : ℕ) × AtAny (loaded_words w) first k (from_kept (marking w) s.lies.a) s.lies.end
      s.lies.to)

  -- `left` of the alternatives are still to be counted, from `at` on
  pub record Tallying (left at first found : ℕ) : Type 0 where
    pub rest : Options
    pub k : ℕ
    pub stand : AtAny (loaded_words w) at k rest s.lies.end s.lies.to
    pub many : options rest ≡ left
    pub total : kept_of (marking w) s.lies.a ≡ found + kept_of (marking w) rest
    pub mark : Before rest at first found ⊎ Since first found

  -- what a turn at `at` does to what was found, where the next alternative stands at `next`
  pub data Turn (at next first found first' found' : ℕ) : Type 0 where
    one : marking w (mark_at w at) ≡ true → first' ≡ first → found' ≡ found + 1 → Turn at next first found first' found'
    none : marking w (mark_at w at) ≡ false → found ≡ 0 → first' ≡ next → found' ≡ found → Turn at next first found first' found'
    more : marking w (mark_at w at) ≡ false → (found ≡ 0 → ⊥) → first' ≡ first → found' ≡ found → Turn at next first found first' found'

  pub tally_none : Tallying count p p 0
  tally_none = record {
    rest = s.lies.a;
    k = s.lies.from;
    stand = s.lies.at;
    many = s.lies.many;
    total = omega arith;
    mark = inl (refl, refl, refl);
  }

  pub tally_read : (left at first found : ℕ) → Tallying left at first found → 0 < left →
      (at < 2048) × (tail_at w at < 2048)
  tally_read left at first found t h = read_first w s.room t.rest at t.k s.lies.end s.lies.to left t.stand small
      t.many h

  pub tally_step : (left left' at first found next first' found' : ℕ) → Tallying left at first found → left ≡ suc left' → next ≡ after_at w at →
      Turn at next first found first' found' → Tallying left' next first' found'
  tally_step left left' at first found next first' found' t h e turn = go t.rest t.stand t.many t.total t.mark
    where
      m : Marking
      m = marking w

      go : (a : Options) → AtAny (loaded_words w) at t.k a s.lies.end s.lies.to → options a ≡ left →
          kept_of m s.lies.a ≡ found + kept_of m a →
          Before a at first found ⊎ Since first found → Tallying left' next first' found'
      go no_more o many total mark = absurd (omega arith)
      go (option x d a) o many total mark =
          let r = (read_option w s.room x d a at t.k s.lies.end s.lies.to o small).0 in
          let far : o.0 ≡ next = sym (e ∙ r.after) in
          record {
            rest = a;
            k = o.1;
            stand = subst (λ (j : ℕ). AtAny (loaded_words w) j o.1 a s.lies.end s.lies.to) far o.4;
            many = omega arith;
            total = totals turn;
            mark = marks turn mark;
          }
        where
          own : (b : Bool) → m (mark_at w at) ≡ b → m x ≡ b
          own b f = ap m (sym (read_option w s.room x d a at t.k s.lies.end s.lies.to o small).0.mark) ∙ f

          totals : Turn at next first found first' found' → kept_of m s.lies.a ≡ found' + kept_of m a
          totals (one f g h) = omega (arith, kept_true m x d a (own true f))
          totals (none f z g h) = omega (arith, kept_false m x d a (own false f))
          totals (more f z g h) = omega (arith, kept_false m x d a (own false f))

          marks : Turn at next first found first' found' → Before (option x d a) at first found ⊎ Since first found →
              Before a next first' found' ⊎ Since first' found'
          marks (one f g h) (inl b) = inr (
            omega arith,
            (
              t.k,
              subst (λ (c : Options). AtAny (loaded_words w) first' t.k c s.lies.end s.lies.to)
                  (sym (b.2 ∙ from_true m x d a (own true f)))
                  (subst (λ (j : ℕ). AtAny (loaded_words w) j t.k (option x d a) s.lies.end s.lies.to) (sym (g ∙ b.1)) o),
            ),
          )
          marks (one f g h) (inr b) = inr (omega arith, rw g b.1)
          marks (none f z g h) (inl b) = inl (h ∙ z, g, b.2 ∙ from_false m x d a (own false f))
          marks (none f z g h) (inr b) = let l = b.0 in absurd (omega arith)
          marks (more f z g h) (inl b) = absurd (z b.0)
          marks (more f z g h) (inr b) = let l = b.0 in inr (omega arith, rw g b.1)

  pub tally_all : (left at first found : ℕ) → Tallying left at first found → left ≤ 0 → (told : Remnant) → told ≡ remnant_of found first →
      Tallied w s told at
  tally_all left at first found t h told e = go t.rest t.stand t.many t.total t.mark
    where
      go : (a : Options) → AtAny (loaded_words w) at t.k a s.lies.end s.lies.to → options a ≡ left →
          kept_of (marking w) s.lies.a ≡ found + kept_of (marking w) a → Before a at first found ⊎ Since first found →
          Tallied w s told at
      go no_more o many total mark = record {
        first = first;
        first_is = ⊎_elim (λ b. (t.k, rw b.2 (b.1 ∙ o.0, o.1))) (λ b. b.1) mark;
        remnant_is = let all : found ≡ kept_of (marking w) s.lies.a = omega arith in
            e ∙ ap (λ (k : ℕ). remnant_of k first) all;
        after_is = o.0;
      }
      go (option x d a) o many total mark = absurd (omega arith)
