-- A report is written piece by piece: what is left to be written after each piece. Assumes nothing.
use Prim.Native.Nat.{ℕ, ◌+◌, ◌-◌, ◌≤◌}
use native.Mathlib.Omega.{arith}
use mathlib.Core.Path.{◌≡◌, refl, sym, ap, subst, ◌∙◌}
use mathlib.Core.List.{List, [], ◌∷◌, ◌++◌}
use lib.ListN.{length, take, drop, length-take, length-drop}
use Rattle.answer_text.specs.Answer.{newline, readings_label, labelled, after_spaces}
use Rattle.answer_text.specs.Going.{Appends}
use Rattle.std.specs.Prelude.{Option, Some, None}
use Rattle.answer_text.proofs.Goings.{Turned, turns_begin, turns_go, turns_stop, nothing}
use Rattle.suite.specs.declared.test.Test.{Test}
use Rattle.suite_reading.specs.Text.{FindsName}
use Rattle.suite_lines.specs.Lines.{test_label, refused_label, as_expected_end, expected_label, came_label, not_run_label}
use Rattle.suite_lines.specs.Lines.{but_label, mode_label, good_label, other_label, not_run_end, shown_name, verdict_text}
use Rattle.suite_lines.specs.Lines.{line_of, row_text, mode_row, table_text, totals_text, summary}
use Rattle.verdicts.specs.declared.verdict.Verdict.{Verdict}
use Rattle.verdicts.specs.declared.verdict.Verdict.TheVariants.{Good, Refused, Other, NotRun}
use Rattle.verdicts.specs.declared.verdict.Totals.{Totals}

-- ---- piece after piece
-- pieces as one text
unfoldable pub joined : List (List ℕ) → List ℕ
joined [] = []
joined (piece ∷ []) = piece
joined (piece ∷ next ∷ rest) = piece ++ joined (next ∷ rest)

-- of xs, which was to be written from the place `at` of dst₀ on, these pieces are left to be written from `end` on
pub record Left (dst₀ : List ℕ) (at : ℕ) (xs dst : List ℕ) (end : ℕ) (pieces : List (List ℕ)) : Type 0 where
  pub turned : Turned dst₀ at xs dst end (joined pieces)

pub begins : {dst xs : List ℕ} {at : ℕ} {pieces : List (List ℕ)} → xs ≡ joined pieces → Left dst at xs dst at pieces
begins {dst} {xs} {at} {pieces} e = record { turned = turns_begin dst at xs (joined pieces) e }

module _ {dst₀ xs dst piece next : List ℕ} {rest : List (List ℕ)} {at end : ℕ} (l : Left dst₀ at xs dst end (piece ∷ next ∷ rest)) where
  pub goes : (n : ℕ) (mid : List ℕ) → Appends piece dst end mid (Some n) → Left dst₀ at xs mid n (next ∷ rest)
  unfolding joined
  goes n mid f =
      let ys = joined (next ∷ rest) in
      record { turned = turns_go dst₀ at xs dst end (piece ++ ys) l.turned piece ys mid (Some n) refl f n refl }

  pub stops : (mid : List ℕ) → Appends piece dst end mid None → Appends xs dst₀ at mid None
  unfolding joined
  stops mid f =
      let ys = joined (next ∷ rest) in turns_stop dst₀ at xs dst end (piece ++ ys) l.turned piece ys mid None refl f refl

pub ends : {dst₀ xs dst piece : List ℕ} {at end : ℕ} → Left dst₀ at xs dst end (piece ∷ []) → (mid : List ℕ) (q : Option ℕ) →
    Appends piece dst end mid q → Appends xs dst₀ at mid q
unfolding joined
ends l mid q f old whole left g = f old whole left (l.turned old whole left g)

-- ---- the pieces of each text. The counts of a mode are the twelve from 0, 12 or 24 on
module _ (t : Test) (n r : ℕ) (dst : List ℕ) (at : ℕ) where
  pub refused_begins : Left dst at (verdict_text Refused t n r) dst at (labelled refused_label n ∷ as_expected_end ∷ [])
  unfolding verdict_text joined
  refused_begins = begins refl

  pub other_begins : Left dst at (verdict_text Other t n r) dst at (
      labelled expected_label t.number ∷ labelled readings_label t.readings ∷ labelled came_label n
      ∷ (labelled readings_label r ++ newline) ∷ [])
  unfolding verdict_text joined
  other_begins = begins refl

  pub not_run_begins : Left dst at (verdict_text NotRun t n r) dst at (
      labelled not_run_label n ∷ labelled but_label t.number ∷ (labelled readings_label t.readings ++ newline) ∷ [])
  unfolding verdict_text joined
  not_run_begins = begins refl

module _ (dst : List ℕ) (at : ℕ) where
  pub row_begins : (mode : ℕ) (row : List ℕ) →
      Left dst at (row_text mode row) dst at (labelled mode_label mode ∷ (58 ∷ []) ∷ after_spaces row ∷ newline ∷ [])
  unfolding row_text joined
  row_begins mode row = begins refl

  pub table_begins : (table : List ℕ) →
      Left dst at (table_text table) dst at (
      row_text 0 (take 12 table) ∷ row_text 1 (take 12 (drop 12 table)) ∷ row_text 2 (take 12 (drop 24 table)) ∷ [])
  unfolding table_text mode_row joined
  table_begins table = begins refl

  pub totals_begins : (s : Totals) → Left dst at (totals_text s) dst at (
      labelled [] s.good ∷ labelled good_label s.other ∷ labelled other_label s.missed ∷ not_run_end ∷ [])
  unfolding totals_text joined
  totals_begins s = begins refl

  pub summary_begins : (table : List ℕ) (s : Totals) → Left dst at (summary table s) dst at (table_text table ∷ totals_text s ∷ [])
  unfolding summary joined
  summary_begins table s = begins refl

-- ---- the name of a test
numbered : (i : ℕ) (name : List ℕ) → length name ≡ 0 → labelled test_label (i + 1) ≡ shown_name i name
unfolding shown_name
numbered i [] z = refl
numbered i (c ∷ cs) z = absurd (omega arith)

own_name : (i : ℕ) (name : List ℕ) → (length name ≡ 0 → ⊥) → name ≡ shown_name i name
unfolding shown_name
own_name i [] h = absurd (h refl)
own_name i (c ∷ cs) h = refl

module _ (run name : List ℕ) (from to i : ℕ) (f : FindsName run name from to) where
  name_size : length name ≡ to - from
  name_size =
      let o = f.order in
      let d = f.inside in
      let e = ap length (sym f.is) ∙ length-take (to - from) (drop from run) in
      let l = length-drop from run in
      omega arith

  pub unnamed : from ≡ to → labelled test_label (i + 1) ≡ shown_name i name
  unnamed e = numbered i name (let s = name_size in omega arith)

  pub so_named : (from ≡ to → ⊥) → take (to - from) (drop from run) ≡ shown_name i name
  so_named h = f.is ∙ own_name i name (λ z. let o = f.order in let s = name_size in h (omega arith))

-- ---- the line of a test
module _ (t : Test) (n r : ℕ) (dst : List ℕ) (at : ℕ) where
  pub good_said : (w : Verdict) → w ≡ Good → Appends (verdict_text w t n r) dst at dst (Some at)
  unfolding verdict_text
  good_said w e = subst (λ (v : Verdict). Appends (verdict_text v t n r) dst at dst (Some at)) (sym e) (nothing dst at)

  pub said : (v w : Verdict) (end : List ℕ) (q : Option ℕ) → w ≡ v → Appends (verdict_text v t n r) dst at end q →
      Appends (verdict_text w t n r) dst at end q
  said v w end q e f = subst (λ (u : Verdict). Appends (verdict_text u t n r) dst at end q) (sym e) f

  module _ (i : ℕ) (name : List ℕ) where
    pub good_line : (w : Verdict) → w ≡ Good → Appends (line_of i name w t n r) dst at dst (Some at)
    unfolding line_of
    good_line w e = subst (λ (v : Verdict). Appends (line_of i name v t n r) dst at dst (Some at)) (sym e) (nothing dst at)

    pub line_begins : (w : Verdict) → (w ≡ Good → ⊥) →
        Left dst at (line_of i name w t n r) dst at (shown_name i name ∷ verdict_text w t n r ∷ [])
    unfolding line_of joined
    line_begins Good h = absurd (h refl)
    line_begins Refused h = begins refl
    line_begins Other h = begins refl
    line_begins NotRun h = begins refl
