-- What is left, as words: disjunctions one after the other, an alternative that stands alone, and several.
-- Assumes nothing.
use Prim.Native.Nat.{ℕ, suc, ◌+◌, ◌≤◌}
use native.Mathlib.Omega.{arith}
use mathlib.Core.Path.{◌≡◌, refl, sym, ap, ◌∙◌}
use mathlib.Core.List.{List, [], ◌∷◌, ◌++◌, append_assoc}
use lib.ListN.{length}
use Rattle.theory.specs.Descr.{Desc, Disjs, end, ◌and◌, Alts, fail, ◌or◌, ◌then◌, disjs, alts}
use Rattle.theory.specs.Layout.{words, disjs_words, alts_words}
use Rattle.theory.specs.Canonical.{CanAll}
use Rattle.layout.specs.Standing.{graph_words}
use Rattle.engine.specs.Placed.{Placed, place, strip, strip_all}
use Rattle.engine.specs.Marks.{Marking, keep, keep_all}
use Rattle.engine.specs.Shown.{shown, shown_all, shown_then, shown_any, shown_in}
use Rattle.engine.specs.Sane.{SaneAll}
use Rattle.modes_by_marks.proofs.Greatest.{then_assoc}
use Rattle.loading.proofs.Sizes.{weights_fit_all}
use Rattle.showing.specs.Putting.{lead, left_all}

-- ---- disjunctions one after the other
pub then_words : (x y : Disjs) → disjs_words (x then y) ≡ disjs_words x ++ disjs_words y
then_words end y = refl
then_words (a and x) y = ap (λ (l : List ℕ). (alts a ∷ alts_words a) ++ l) (then_words x y)
    ∙ sym (append_assoc (alts a ∷ alts_words a) (disjs_words x) (disjs_words y))

pub then_count : (x y : Disjs) → disjs (x then y) ≡ disjs x + disjs y
then_count end y = omega arith
then_count (a and x) y = omega (arith, then_count x y)

then_end : (x : Disjs) → x then end ≡ x
then_end end = refl
then_end (a and x) = ap (◌and◌ a) (then_end x)

shown_front : (a : Alts) (x y : Disjs) → shown_then a (x then y) ≡ shown_then a x then y
unfolding Rattle.modes_by_marks.specs.Shown.shown
shown_front fail x y = refl
shown_front (d or fail) x y = then_assoc (shown_in d) x y
shown_front (d or (e or b)) x y = refl

pub shown_next : (x y : Disjs) → shown_all (x then y) ≡ shown_all x then shown_all y
unfolding Rattle.modes_by_marks.specs.Shown.shown
shown_next end y = refl
shown_next (a and x) y = ap (shown_then a) (shown_next x y) ∙ shown_front a (shown_all x) (shown_all y)

-- the first of some disjunctions, and those after it
pub shown_first : (a : Alts) (x : Disjs) → shown_all (a and x) ≡ shown_all (a and end) then shown_all x
shown_first a x = shown_next (a and end) x

-- no more disjunctions than words
pub few_disjunctions : (x : Disjs) → disjs x ≤ length (disjs_words x)
few_disjunctions x = omega (arith, weights_fit_all x)

pub nothing_left : shown_all end ≡ end
unfolding Rattle.modes_by_marks.specs.Shown.shown
nothing_left = refl

-- ---- one disjunction
pub shown_alone : (d : Placed) (m : Marking) → shown_all ((strip (keep m d) or fail) and end) ≡ shown_all (left_all m d)
unfolding Rattle.modes_by_marks.specs.Shown.shown
shown_alone (place g ds) m = then_end (shown_all (strip_all (keep_all m ds)))

pub shown_several : (a : Alts) → (alts a ≡ 1 → ⊥) → shown_all (a and end) ≡ shown_any a and end
unfolding Rattle.modes_by_marks.specs.Shown.shown
shown_several fail h = refl
shown_several (d or fail) h = absurd (h refl)
shown_several (d or (e or b)) h = refl

pub shown_count : (a : Alts) → alts (shown_any a) ≡ alts a
unfolding Rattle.modes_by_marks.specs.Shown.shown
shown_count fail = refl
shown_count (d or a) = ap suc (shown_count a)

pub any_words : (d : Desc) (a : Alts) → alts_words (shown_any (d or a)) ≡ words (shown d) ++ alts_words (shown_any a)
unfolding Rattle.modes_by_marks.specs.Shown.shown
any_words d a = refl

pub no_words : alts_words (shown_any fail) ≡ []
unfolding Rattle.modes_by_marks.specs.Shown.shown
no_words = refl

-- ---- a description
pub description_words : (d : Placed) (m : Marking) →
    words (shown (strip (keep m d))) ≡ graph_words (lead (strip (keep m d))) ++ disjs (shown_all (left_all m d))
    ∷ disjs_words (shown_all (left_all m d))
unfolding Rattle.modes_by_marks.specs.Shown.shown
description_words (place g ds) m = refl

-- ---- both inputs
pub can_parts : (x y : Disjs) → CanAll (x then y) → CanAll x × CanAll y
can_parts end y c = (tt, c)
can_parts (a and x) y c = let r = can_parts x y c.1 in ((c.0, r.0), r.1)

pub sane_parts : (x y : Disjs) → SaneAll (x then y) → SaneAll x × SaneAll y
sane_parts end y c = (tt, c)
sane_parts (a and x) y c = let r = sane_parts x y c.1 in ((c.0, r.0), r.1)
