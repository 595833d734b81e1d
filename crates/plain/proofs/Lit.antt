-- The marks of a choice are lit one after the other. Assumes nothing.
use Prim.Native.Nat.{ℕ, ◌+◌, ◌≤◌, ◌<◌}
use native.Mathlib.Omega.{arith}
use mathlib.Core.Path.{◌≡◌, refl, sym, ap, ap₂, subst, ◌∙◌}
use mathlib.Core.Logic.{◌⊎◌, inl, inr, ⊎_elim}
use mathlib.Core.Bool.{Bool, true, false, ◌||◌}
use mathlib.Core.List.{List, [], ◌∷◌, ◌++◌}
use lib.Dec.{eqb}
use lib.ListN.{length, get_or, take}
use lib.Seq.{take_all}
use Rattle.area.specs.Map.{MARKS, RESULT}
use Rattle.area.specs.Region.{loaded_words}
use Rattle.area.proofs.Region.{words_same}
use Rattle.modes_by_marks.specs.Search.{among}
use Rattle.marks.specs.Marked.{marking, lights, Lighted}
use Rattle.marks.specs.Positions.{tail_at, mark_at}
use Rattle.marks.proofs.Marks.{or_none, or_assoc}
use Rattle.choosing.specs.Ways.{Take, marks_of, take_word}
use Rattle.plain.specs.Lit.{KeptAt, Lighting, Lights}
use Rattle.plain.proofs.Turns.{Turn, turn, turn_next, turns_count}

-- the first i are lit
pub record LitUp (w : List ℕ) (many i : ℕ) (w' : List ℕ) : Type 0 where
  pub len : length w' ≡ length w
  pub rest : (j : ℕ) → (j < MARKS) ⊎ (RESULT ≤ j) → get_or w' j 0 ≡ get_or w j 0
  pub seen : (c : Lighting w many) (y : ℕ) → lights w' y ≡ (lights w y || among y (marks_of (take i c.ts)))
  pub marks : Lighting w many → marking w' ≡ marking w

among_last : (y : ℕ) (k : Take) (l : List Take) → among y (marks_of (l ++ k ∷ [])) ≡ (among y (marks_of l) || eqb y k.mark)
among_last y k [] = sym (or_none (eqb y k.mark))
among_last y k (z ∷ l) =
    ap (λ (b : Bool). eqb y z.mark || b) (among_last y k l) ∙ sym (or_assoc (eqb y z.mark) (among y (marks_of l)) (eqb y k.mark))

pub litup_none : (w : List ℕ) (many : ℕ) → LitUp w many 0 w
litup_none w many = record { len = refl; rest = λ j o. refl; seen = λ c y. or_none (lights w y); marks = λ c. refl }

module _ {w : List ℕ} {many i : ℕ} {w' : List ℕ} (u : LitUp w many i w') where
  module _ (c : Lighting w many) (h : i < many) where
    next_of : Turn w RESULT c.ts i
    next_of = turn w RESULT (RESULT + many) c.ts i c.stands (omega (arith, turns_count w RESULT c.ts many c.stands))

    room : 16384 ≤ length w'
    room = omega (arith, c.room, u.len)

    words : loaded_words w' ≡ loaded_words w
    words = words_same w w' c.room u.len (λ j a b. u.rest j (inl b))

    here : KeptAt w' next_of.k.entry.at next_of.k.mark
    unfolding tail_at mark_at
    here =
        let l = c.each next_of.k next_of.one in
        record {
          here = l.here;
          inside = rw words l.inside;
          mark = rw words l.mark;
          kept = ap (λ (m : ℕ → Bool). m next_of.k.mark) (u.marks c) ∙ l.kept;
        }

    -- the word there is read
    module _ {word g : ℕ} (is : word ≡ get_or w' (RESULT + i) 0) (place : (k : Take) → k.entry.at < 2048 → word ≡ take_word k →
        g ≡ k.entry.at) where
      place_is : g ≡ next_of.k.entry.at
      place_is = place next_of.k here.here (is ∙ u.rest (RESULT + i) (inr (omega arith)) ∙ next_of.word)

      there : KeptAt w' g next_of.k.mark
      there = subst (λ (z : ℕ). KeptAt w' z next_of.k.mark) (sym place_is) here

      pub litup_asks : ((g < 2048) × (16384 ≤ length w')) × (tail_at w' g < 2048)
      litup_asks = ((there.here, room), there.inside)

  -- the next one
  module _ (h : i < many) {word g x : ℕ} {w₂ : List ℕ} (is : word ≡ get_or w' (RESULT + i) 0)
      (place : (k : Take) → k.entry.at < 2048 → word ≡ take_word k → g ≡ k.entry.at) (mark : (x ≡ mark_at w' g) × (x < 1024))
      (v : Lighted w' x w₂) where
    mark_is : (c : Lighting w many) → x ≡ (next_of c h).k.mark
    mark_is c = mark.0 ∙ (there c h is place).mark

    pub litup_more : LitUp w many (i + 1) w₂
    litup_more = record {
      len = v.len ∙ u.len;
      rest = λ j o. v.rest j (λ z. ⊎_elim (λ b. omega (arith, mark.1)) (λ b. omega (arith, mark.1)) o) ∙ u.rest j o;
      seen = λ c y.
          v.found y
          ∙ ap₂ {C = Bool} (λ (a b : Bool). a || b) (u.seen c y) (ap (eqb y) (mark_is c))
          ∙ or_assoc (lights w y) (among y (marks_of (take i c.ts))) (eqb y (next_of c h).k.mark)
          ∙ ap (λ (b : Bool). lights w y || b) (sym (among_last y (next_of c h).k (take i c.ts)))
          ∙ ap (λ (l : List Take). lights w y || among y (marks_of l)) (sym (turn_next (next_of c h)));
      marks = λ c. v.marks (ap (marking w') (mark_is c) ∙ (here c h).kept) ∙ u.marks c;
    }

  pub litup_done : many ≤ i → Lights w many w'
  litup_done h = record {
    len = u.len;
    rest = u.rest;
    seen = λ c y. u.seen c y ∙ ap (λ (l : List Take). lights w y || among y (marks_of l)) (all c);
    marks = u.marks;
  }
    where
      all : (c : Lighting w many) → take i c.ts ≡ c.ts
      all c = take_all i c.ts (omega (arith, turns_count w RESULT c.ts many c.stands))
