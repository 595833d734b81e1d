-- One disjunction is put out: the disjunctions of the alternative that stands alone, or the number of kept alternatives and each of them.
-- Assumes nothing.
use Prim.Native.Nat.{ℕ, suc, ◌+◌, ◌≤◌, ◌<◌}
use native.Mathlib.Omega.{arith}
use mathlib.Core.Path.{◌≡◌, sym, ap, subst, ◌∙◌}
use mathlib.Core.Logic.{◌⊎◌, ⊎_elim}
use mathlib.Core.Bool.{Bool, true, false}
use mathlib.Core.List.{List, [], ◌∷◌, append-nil}
use lib.ListN.{length, set}
use Rattle.theory.specs.Descr.{Disjs, end, ◌and◌, Alts, disjs, alts}
use Rattle.theory.specs.Layout.{disjs_words, alts_words}
use Rattle.theory.specs.Canonical.{CanAny}
use Rattle.area.specs.Map.{RESULT}
use Rattle.area.specs.Region.{loaded_words}
use Rattle.area.proofs.Region.{words_many}
use Rattle.engine.specs.Placed.{Options, no_more, option, strip_any}
use Rattle.engine.specs.Marks.{Marking, kept_of, keep_any}
use Rattle.engine.specs.Shown.{shown_all, shown_any}
use Rattle.modes_by_marks.proofs.Marks.{kept_alts}
use Rattle.engine.specs.Sane.{SaneAny}
use Rattle.loading.specs.Numbered.{options}
use Rattle.loading.specs.At.{AtAny}
use Rattle.loading.proofs.Walking.{any_counts}
use Rattle.loading.proofs.Lying.{lying_more, any_bounds_of}
use Rattle.marks.specs.Marked.{marking}
use Rattle.marks.specs.Readable.{Alternatives}
use Rattle.marks.specs.Tallied.{from_kept, Tallied}
use Rattle.marks.specs.declared.tally.Remnant.{Remnant}
use Rattle.marks.specs.declared.tally.Remnant.TheVariants.{Nothing, One, Several}
use Rattle.marks.proofs.Reading.{alternatives}
use Rattle.marks.proofs.Remnant.{kept_none, kept_alone, alone_at, kept_several, kept_many}
use Rattle.entering.proofs.Certain.{LoneOf, lone_alone}
use Rattle.showing.specs.Putting.{Written, left_all, Disjoining, Disjoins, folded, Varying, Offering, Offers}
use Rattle.showing.proofs.Written.{written_append, written_word, based}
use Rattle.showing.proofs.Leaving.{shown_alone, shown_several, shown_count}
use Rattle.showing.proofs.Describing.{inner_can, inner_sane}

kept_few : (m : Marking) (a : Options) → kept_of m a ≤ options a
kept_few m no_more = omega arith
kept_few m (option x d a) = go (m x) (kept_few m a)
  where
    go : (b : Bool) → kept_of m a ≤ options a → elim b [ true ↦ suc (kept_of m a) | false ↦ kept_of m a ] ≤ suc (options a)
    go true h = omega arith
    go false h = omega arith

module _ (n : ℕ) (w : List ℕ) (p of left o : ℕ) (c : Varying n w p of left o) where
  abbrev m : Marking
  m = c.base.m

  abbrev t : List ℕ
  t = c.base.t

  abbrev rest : Alts
  rest = strip_any (keep_any m c.lies.a)

  abbrev counted : Alternatives w p of
  counted = alternatives w c.base.holds.long c.base.loaded c.base.ground.few c.lies

  pub vary_counts : Alternatives w p of
  vary_counts = counted

  module _ (which : Remnant) (after : ℕ) (tally : (s : Alternatives w p of) → Tallied w s which after) where
    told : Tallied w counted which after
    told = tally counted

    kept_marks : kept_of m c.lies.a ≡ kept_of (marking w) c.lies.a
    kept_marks = ap (λ (k : Marking). kept_of k c.lies.a) (sym c.base.marks)

    -- ---- one stands alone
    module _ (first : ℕ) (one : which ≡ One first) where
      abbrev lone : LoneOf m c.lies c.base.U first
      lone =
          let stands = alone_at w counted which after told first one in
          let kept_one = kept_marks ∙ kept_alone w counted which after told first one in
          lone_alone c.base.U (loaded_words w) m c.lies c.among kept_one first (
            stands.0,
            subst (λ (k : Marking). AtAny (loaded_words w) first stands.0 (from_kept k c.lies.a) c.lies.end c.lies.to)
                c.base.marks stands.1,
          )

      alone : folded m c.lies.a ≡ shown_all (left_all m lone.lies.d)
      alone = ap (λ (x : Alts). shown_all (x and end)) (ap strip_any lone.alone) ∙ shown_alone lone.lies.d m

      pub vary_inner : Disjoining n w first left o
      vary_inner = record {
        base = c.base;
        lies = lying_more c.lies.low lone.lies;
        among = lone.among;
        can = inner_can lone.lies.d m (subst CanAny (ap strip_any lone.alone) c.can).0;
        sane = inner_sane lone.lies.d m (subst SaneAny (ap strip_any lone.alone) c.sane).0;
        room = omega (arith, c.room, ap (λ (x : Disjs). length (disjs_words x)) alone);
      }

      pub vary_one : (r count : ℕ) (w₁ : List ℕ) → Disjoins n w first left o r count w₁ →
          Written n w o (disjs_words (folded m c.lies.a)) r w₁ × (count ≡ disjs (folded m c.lies.a)) × (after ≡ c.lies.end)
      unfolding vary_inner
      vary_one r count w₁ u = let x = u vary_inner in
          (subst (λ (y : Disjs). Written n w o (disjs_words y) r w₁) (sym alone) x.0, x.1 ∙ ap disjs (sym alone), told.after_is)

    -- ---- none or several are kept, as many as `kept`
    module _ (kept : ℕ) (many : ((which ≡ Nothing) × (kept ≡ 0)) ⊎ ((x : ℕ) × (which ≡ Several x) × (kept ≡ x))) where
      kept_is : kept ≡ kept_of m c.lies.a
      kept_is = ⊎_elim (λ (none : (which ≡ Nothing) × (kept ≡ 0)). none.1 ∙ sym (kept_none w counted which after told none.0))
          (λ more. more.2 ∙ sym (kept_many w counted which after told more.0 more.1)) many ∙ sym kept_marks

      not_one : kept ≡ 1 → ⊥
      not_one e = ⊎_elim (λ (none : (which ≡ Nothing) × (kept ≡ 0)). let z = none.1 in omega arith)
          (λ more. let two = (kept_several w counted which after told more.0 more.1).1 in omega (arith, kept_is, kept_marks)) many

      pub vary_small : kept ≤ 2048
      vary_small = omega (
        arith,
        kept_is,
        kept_few m c.lies.a,
        any_counts t c.lies.a p c.lies.from c.lies.end c.lies.to c.lies.within c.lies.at,
        (any_bounds_of c.lies).1,
        words_many w c.base.holds.long,
        ap length c.base.loaded,
      )

      several : folded m c.lies.a ≡ shown_any rest and end
      several = shown_several rest (λ e. not_one (kept_is ∙ kept_alts m c.lies.a ∙ e))

      number : kept ≡ alts (shown_any rest)
      number = kept_is ∙ kept_alts m c.lies.a ∙ sym (shown_count rest)

      spread : disjs_words (folded m c.lies.a) ≡ kept ∷ alts_words (shown_any rest)
      spread = ap disjs_words several ∙ append-nil (alts (shown_any rest) ∷ alts_words (shown_any rest))
          ∙ ap (λ (k : ℕ). k ∷ alts_words (shown_any rest)) (sym number)

      pub vary_room : (o < 2048) × (RESULT + o < length w)
      vary_room = (omega (arith, c.room, ap length spread), omega (arith, c.room, ap length spread, c.base.holds.long))

      word : Written n w o (kept ∷ []) (o + 1) (set w (RESULT + o) kept)
      word = written_word n w o kept vary_room.0 c.base.holds

      pub vary_offers : Offering n (set w (RESULT + o) kept) p of left (o + 1)
      vary_offers = record {
        base = based n w c.base o (kept ∷ []) (o + 1) (set w (RESULT + o) kept) word;
        lies = c.lies;
        among = c.among;
        can = c.can;
        sane = c.sane;
        room = omega (arith, c.room, ap length spread);
      }

      pub vary_several : (r : ℕ) (w₁ : List ℕ) → Offers n (set w (RESULT + o) kept) p of left (o + 1) r w₁ →
          Written n w o (disjs_words (folded m c.lies.a)) r w₁ × (1 ≡ disjs (folded m c.lies.a)) × (after ≡ c.lies.end)
      unfolding vary_offers
      vary_several r w₁ u = (
        subst (λ (xs : List ℕ). Written n w o xs r w₁) (sym spread)
            (written_append n w o (kept ∷ []) (o + 1) (set w (RESULT + o) kept) (alts_words (shown_any rest)) r w₁ word (u vary_offers)),
        sym (ap disjs several),
        told.after_is,
      )
