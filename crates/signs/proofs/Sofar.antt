-- What the bytes so far spell: the machine takes nothing for a formula that is none.
-- Assumes nothing.
use Prim.Native.Nat.{ℕ, zero, suc, ◌+◌, ◌*◌, ◌<◌, ◌≤◌, ◌-◌}
use mathlib.Core.Path.{◌≡◌, refl, sym, ap, subst, ◌∙◌}
use mathlib.Core.Bool.{Bool, true, false}
use mathlib.Core.List.{List, [], ◌∷◌, ◌++◌, append_assoc, append-nil}
use native.Mathlib.Omega.{arith}
use Rattle.std.specs.Prelude.{Option, Some, None}
use lib.Dec.{eqb, ltb}
use borrow.Author.Tests.{eqb-true, eqb-false, ltb-false}
use Rattle.signs.specs.declared.machine.Due.{Due}
use Rattle.signs.specs.declared.machine.Due.TheVariants.{Operand, Colon, Path, Steps, Listed, After}
use Rattle.signs.specs.declared.machine.Part.{Part}
use Rattle.signs.specs.declared.machine.Part.TheVariants.{N, Ni, T, To, Atom, Arc, Step}
use Rattle.signs.specs.declared.machine.Place.{Place}
use Rattle.signs.specs.declared.machine.Place.TheVariants.{Start, Clean, Spaced, Number, Within}
use Rattle.signs.specs.declared.machine.Seen.{Seen}
use Rattle.signs.specs.Limits.{largest_number}
use Rattle.signs.specs.Signs as S
use Rattle.signs.specs.Signs.{Sign, nil_sign, top_sign, mark, longer, Spells, spells_nil, spells_top, spells_atom, spells_feature}
use Rattle.signs.specs.Signs.{spells_mark, spaces, Spelt, one_sign, next_sign}
use Rattle.signs.specs.Machine as M
use Rattle.signs.specs.Machine.{if_so, group_closed, started, after_sign, numeral, within_sign, stepped, ended_by, number_sign}
use Rattle.signs.specs.Machine.{others, noted}
use Rattle.signs.proofs.Laws.{digit_low, digit_high}
use Rattle.signs.proofs.Moves.{Moves, by_nil, by_top, by_atom, by_arc, by_colon, by_bracket, by_less, by_step, by_greater, by_comma}
use Rattle.signs.proofs.Moves.{by_unbracket, by_and, by_or, by_left, by_right, Route, route_one, route_append}
use Rattle.signs.proofs.Run.{Run, dead, on, onward, run, rev}

-- whole signs, and a way through them
pub record Full (t : List ℕ) (ss : List Sign) (d : Due) (g : ℕ) : Type 0 where
  pub spelt : Spelt (rev ss) t
  pub route : Route Operand 0 (rev ss) d g

-- whole signs and spaces
pub record Gap (t : List ℕ) (ss : List Sign) (d : Due) (g : ℕ) : Type 0 where
  pub before : List ℕ
  pub wide : ℕ
  pub full : Full before ss d g
  pub is : t ≡ before ++ spaces wide

-- a sign may begin
pub data Ready : List ℕ → List Sign → Due → ℕ → Type 0 where
  begin : Ready [] [] Operand 0
  gap : {t : List ℕ} {ss : List Sign} {d : Due} {g : ℕ} → Gap t ss d g → Ready t ss d g

sign_full : {t v : List ℕ} {ss : List Sign} {s : Sign} {d d' : Due} {g g' : ℕ} → Ready t ss d g → Spells s v → Moves d g s d' g' →
    Full (t ++ v) (s ∷ ss) d' g'
sign_full {s = s} begin p m = record { spelt = one_sign s p refl; route = route_one m }
sign_full {t} {v} {ss} {s} (gap f) p m =
    record {
      spelt = next_sign (rev ss) f.before f.wide s v f.full.spelt p refl (ap (λ (l : List ℕ). l ++ v) f.is
          ∙ append_assoc f.before (spaces f.wide) v);
      route = route_append f.full.route (route_one m);
    }

abbrev letter_of : Due → ℕ
letter_of Operand = 102
letter_of Colon = 102
letter_of Path = 102
letter_of Steps = 102
letter_of Listed = 102
letter_of After = 97

spells_number : (d : Due) (ds : List ℕ) (v : ℕ) → S.Number ds v → Spells (number_sign d v) (letter_of d ∷ ds)
spells_number Operand ds v n = spells_feature ds n refl
spells_number Colon ds v n = spells_feature ds n refl
spells_number Path ds v n = spells_feature ds n refl
spells_number Steps ds v n = spells_feature ds n refl
spells_number Listed ds v n = spells_feature ds n refl
spells_number After ds v n = spells_atom ds n refl

-- a number that may have more digits
pub record Counted (t : List ℕ) (ss : List Sign) (d : Due) (v g : ℕ) : Type 0 where
  pub before : List ℕ
  pub earlier : List Sign
  pub due : Due
  pub groups : ℕ
  pub digits : List ℕ
  pub ready : Ready before earlier due groups
  pub moves : (k : ℕ) → Moves due groups (number_sign d k) d g
  pub number : S.Number digits v
  pub is : t ≡ before ++ (letter_of d ∷ digits)
  pub signs : ss ≡ number_sign d v ∷ earlier

abbrev due_of : Part → Due
due_of N = Operand
due_of Ni = Operand
due_of T = Operand
due_of To = Operand
due_of Atom = Operand
due_of Arc = Operand
due_of Step = Steps

abbrev bytes_of : Part → List ℕ
bytes_of N = 78 ∷ []
bytes_of Ni = 78 ∷ 73 ∷ []
bytes_of T = 84 ∷ []
bytes_of To = 84 ∷ 79 ∷ []
bytes_of Atom = 97 ∷ []
bytes_of Arc = 102 ∷ []
bytes_of Step = 102 ∷ []

pub record Partly (t : List ℕ) (ss : List Sign) (q : Part) (g : ℕ) : Type 0 where
  pub before : List ℕ
  pub ready : Ready before ss (due_of q) g
  pub is : t ≡ before ++ bytes_of q

-- the text so far, by its place
abbrev pub Sofar : List ℕ → List Sign → Place → ℕ → Type 0
Sofar t ss Start g = Ready t ss Operand g
Sofar t ss (Clean d) g = Full t ss d g
Sofar t ss (Spaced d) g = Gap t ss d g
Sofar t ss (Number d v) g = Counted t ss d v g
Sofar t ss (Within q) g = Partly t ss q g

abbrev Goes : List ℕ → List Sign → Place → ℕ → Option Seen → Type 0
Goes t ss p b None = Unit {0}
Goes t ss p b (Some s) = Sofar (t ++ (b ∷ [])) (noted p s.place b ss) s.place s.groups

same_byte : (t : List ℕ) (b k : ℕ) → b ≡ k → t ++ (b ∷ []) ≡ t ++ (k ∷ [])
same_byte t b k e = ap (λ (x : ℕ). t ++ (x ∷ [])) e

-- a sign of one byte
mark_goes : {t : List ℕ} {ss : List Sign} {d d' : Due} {g g' : ℕ} (b k : ℕ) → Ready t ss d g → ended_by k ≡ mark k →
    Moves d g (mark k) d' g' → b ≡ k → Full (t ++ (b ∷ [])) (ended_by b ∷ ss) d' g'
mark_goes {t} {ss} {d} {d'} {g} {g'} b k r q m e =
    subst
    (λ (x : ℕ). Full (t ++ (x ∷ [])) (ended_by x ∷ ss) d' g')
    (sym e)
    (subst (λ (s : Sign). Full (t ++ (k ∷ [])) (s ∷ ss) d' g') (sym q) (sign_full r (spells_mark refl) m))

left_move : (g : ℕ) → Moves Operand g S.left Operand (g + 1)
left_move g = let e : suc g ≡ g + 1 = omega arith in subst (λ (k : ℕ). Moves Operand g S.left Operand k) e by_left

spaces_snoc : (n : ℕ) → spaces n ++ (32 ∷ []) ≡ spaces (suc n)
spaces_snoc zero = refl
spaces_snoc (suc n) = ap (λ (l : List ℕ). 32 ∷ l) (spaces_snoc n)

full_gap : {t : List ℕ} {ss : List Sign} {d : Due} {g : ℕ} → Full t ss d g → Gap t ss d g
full_gap {t} f = record { before = t; wide = 0; full = f; is = sym (append-nil t) }

gap_more : {t : List ℕ} {ss : List Sign} {d : Due} {g : ℕ} (b : ℕ) → Gap t ss d g → b ≡ 32 → Gap (t ++ (b ∷ [])) ss d g
gap_more {t} b f e =
    record {
      before = f.before;
      wide = suc f.wide;
      full = f.full;
      is = same_byte t b 32 e ∙ ap (λ (l : List ℕ). l ++ (32 ∷ [])) f.is ∙ append_assoc f.before (spaces f.wide) (32 ∷ [])
          ∙ ap (λ (l : List ℕ). f.before ++ l) (spaces_snoc f.wide);
    }

module _ (t : List ℕ) (ss : List Sign) (p : Place) (b : ℕ) where
  pick_goes : (c : Bool) (x y : Option Seen) → (c ≡ true → Goes t ss p b x) → (c ≡ false → Goes t ss p b y) → Goes t ss p b (if_so c x y)
  pick_goes true x y f h = f refl
  pick_goes false x y f h = h refl

  test_goes : (k : ℕ) (x y : Option Seen) → (b ≡ k → Goes t ss p b x) → Goes t ss p b y → Goes t ss p b (if_so (eqb b k) x y)
  test_goes k x y f h = pick_goes (eqb b k) x y (λ e. f (eqb-true b k e)) (λ e. h)

  closed_goes : (g : ℕ) → Ready t ss After g → b ≡ 41 → Goes t ss p b (group_closed g)
  closed_goes zero r e = tt
  closed_goes (suc g) r e = mark_goes b 41 r refl by_right e

  started_goes : (d : Due) (g : ℕ) → Ready t ss d g → Goes t ss p b (started d g b)
  unfolding started
  started_goes Operand g r =
      test_goes 78 _ _ (λ e. record { before = t; ready = r; is = same_byte t b 78 e })
      (test_goes 84 _ _ (λ e. record { before = t; ready = r; is = same_byte t b 84 e })
      (test_goes 97 _ _ (λ e. record { before = t; ready = r; is = same_byte t b 97 e })
      (test_goes 102 _ _ (λ e. record { before = t; ready = r; is = same_byte t b 102 e })
      (test_goes 91 _ _ (mark_goes b 91 r refl by_bracket)
      (test_goes 40 _ _ (mark_goes b 40 r refl (left_move g)) tt)))))
  started_goes Colon g r = test_goes 58 _ _ (mark_goes b 58 r refl by_colon) tt
  started_goes Path g r = test_goes 60 _ _ (mark_goes b 60 r refl by_less) tt
  started_goes Steps g r = test_goes 102 _ _ (λ e. record { before = t; ready = r; is = same_byte t b 102 e })
      (test_goes 62 _ _ (mark_goes b 62 r refl by_greater) tt)
  started_goes Listed g r = test_goes 44 _ _ (mark_goes b 44 r refl by_comma) (test_goes 93 _ _ (mark_goes b 93 r refl by_unbracket) tt)
  started_goes After g r = test_goes 38 _ _ (mark_goes b 38 r refl by_and)
      (test_goes 124 _ _ (mark_goes b 124 r refl by_or) (test_goes 41 _ _ (closed_goes g r) tt))

  spaced_goes : (d : Due) (g : ℕ) → Gap t ss d g → Goes t ss p b (after_sign d g b)
  spaced_goes d g f = test_goes 32 _ _ (gap_more b f) (started_goes d g (gap f))

-- a number that ends here
pub counted_full : {t : List ℕ} {ss : List Sign} {d : Due} {v g : ℕ} → Counted t ss d v g → Full t ss d g
counted_full {t} {ss} {d} {v} {g} c =
    subst
    (λ (l : List ℕ). Full l ss d g)
    (sym c.is)
    (subst (λ (x : List Sign). Full (c.before ++ (letter_of d ∷ c.digits)) x d g) (sym c.signs)
    (sign_full c.ready (spells_number d c.digits v c.number) (c.moves v)))

digit_byte : (b : ℕ) → M.digit_byte b ≡ true → b ∷ [] ≡ (48 + (b - 48)) ∷ []
digit_byte b e = let h = digit_low b e in let q : b ≡ 48 + (b - 48) = omega arith in ap (λ (x : ℕ). x ∷ []) q

more_digits : {ds : List ℕ} {v : ℕ} (b : ℕ) → S.Number ds v → M.digit_byte b ≡ true → (v ≡ 0 → ⊥) → v * 10 + (b - 48) ≤ largest_number →
    S.Number (ds ++ (b ∷ [])) (v * 10 + (b - 48))
more_digits {ds} {v} b n e z h =
    let low = digit_low b e in
    let high = digit_high b e in
    record {
      decimal = longer ds v (b - 48) n.decimal (positive v z) (omega arith) (ap (λ (l : List ℕ). ds ++ l) (digit_byte b e)) refl;
      small = omega arith;
    } where
      positive : (k : ℕ) → (k ≡ 0 → ⊥) → 0 < k
      positive zero y = absurd (y refl)
      positive (suc k) y = omega arith

longer_goes : {t : List ℕ} {ss : List Sign} (d : Due) (v g b : ℕ) → Counted t ss d v g → M.digit_byte b ≡ true →
    Goes t ss (Number d v) b (M.longer d v g b)
longer_goes {t} {ss} d v g b c e =
    pick_goes t ss (Number d v) b (eqb v 0) _ _ (λ z. tt)
    (λ z. pick_goes t ss (Number d v) b (ltb largest_number (v * 10 + (b - 48))) _ _ (λ y. tt)
    (λ y. record {
      before = c.before;
      earlier = c.earlier;
      due = c.due;
      groups = c.groups;
      digits = c.digits ++ (b ∷ []);
      ready = c.ready;
      moves = c.moves;
      number = more_digits b c.number e (eqb-false v 0 z) (ltb-false largest_number (v * 10 + (b - 48)) y);
      is = ap (λ (l : List ℕ). l ++ (b ∷ [])) c.is ∙ append_assoc c.before (letter_of d ∷ c.digits) (b ∷ []);
      signs = ap (λ (l : List Sign). number_sign d (v * 10 + (b - 48)) ∷ others l) c.signs;
    }))

numeral_goes : (t u : List ℕ) (ss : List Sign) (q : Part) (d d₀ : Due) (g b : ℕ) → Ready u ss d₀ g →
    ((k : ℕ) → Moves d₀ g (number_sign d k) d g) → t ≡ u ++ (letter_of d ∷ []) → Goes t ss (Within q) b (numeral d g b)
numeral_goes t u ss q d d₀ g b r m i =
    pick_goes t ss (Within q) b (M.digit_byte b) _ _
    (λ e.
    let low = digit_low b e in
    let high = digit_high b e in
    record {
      before = u;
      earlier = ss;
      due = d₀;
      groups = g;
      digits = b ∷ [];
      ready = r;
      moves = m;
      number = record { decimal = S.digit (omega arith) (digit_byte b e); small = omega arith };
      is = ap (λ (l : List ℕ). l ++ (b ∷ [])) i ∙ append_assoc u (letter_of d ∷ []) (b ∷ []);
      signs = refl;
    })
    (λ e. tt)

-- the next letter of a word
letter_goes : {t : List ℕ} {ss : List Sign} (q q' : Part) (g b k : ℕ) (c : Partly t ss q g) → due_of q ≡ due_of q' →
    bytes_of q ++ (k ∷ []) ≡ bytes_of q' → b ≡ k → Partly (t ++ (b ∷ [])) ss q' g
letter_goes {t} {ss} q q' g b k c e i z =
    record {
      before = c.before;
      ready = subst (λ (d : Due). Ready c.before ss d g) e c.ready;
      is = same_byte t b k z ∙ ap (λ (l : List ℕ). l ++ (k ∷ [])) c.is ∙ append_assoc c.before (bytes_of q) (k ∷ [])
          ∙ ap (λ (l : List ℕ). c.before ++ l) i;
    }

word_goes : {t : List ℕ} {ss : List Sign} {d : Due} {g : ℕ} (q : Part) (s : Sign) (b k : ℕ) (c : Partly t ss q g) →
    Spells s (bytes_of q ++ (k ∷ [])) → Moves (due_of q) g s d g → ended_by k ≡ s → b ≡ k → Full (t ++ (b ∷ [])) (ended_by b ∷ ss) d g
word_goes {t} {ss} {d} {g} q s b k c p m i z =
    subst
    (λ (x : ℕ). Full (t ++ (x ∷ [])) (ended_by x ∷ ss) d g)
    (sym z)
    (subst
    (λ (x : Sign). Full (t ++ (k ∷ [])) (x ∷ ss) d g)
    (sym i)
    (subst
    (λ (l : List ℕ). Full l (s ∷ ss) d g)
    (sym (ap (λ (l : List ℕ). l ++ (k ∷ [])) c.is ∙ append_assoc c.before (bytes_of q) (k ∷ [])))
    (sign_full c.ready p m)))

module _ (t : List ℕ) (ss : List Sign) (b : ℕ) where
  within_goes : (q : Part) (g : ℕ) → Partly t ss q g → Goes t ss (Within q) b (within_sign q g b)
  unfolding within_sign
  within_goes N g c = test_goes t ss (Within N) b 73 _ _ (letter_goes N Ni g b 73 c refl refl) tt
  within_goes Ni g c = test_goes t ss (Within Ni) b 76 _ _ (word_goes Ni nil_sign b 76 c (spells_nil refl) by_nil refl) tt
  within_goes T g c = test_goes t ss (Within T) b 79 _ _ (letter_goes T To g b 79 c refl refl) tt
  within_goes To g c = test_goes t ss (Within To) b 80 _ _ (word_goes To top_sign b 80 c (spells_top refl) by_top refl) tt
  within_goes Atom g c = numeral_goes t c.before ss Atom After Operand g b c.ready by_atom c.is
  within_goes Arc g c = numeral_goes t c.before ss Arc Colon Operand g b c.ready by_arc c.is
  within_goes Step g c = numeral_goes t c.before ss Step Steps Steps g b c.ready by_step c.is

  goes : (p : Place) (g : ℕ) → Sofar t ss p g → Goes t ss p b (stepped p g b)
  unfolding stepped
  goes Start g o = started_goes t ss Start b Operand g o
  goes (Clean d) g o = spaced_goes t ss (Clean d) b d g (full_gap o)
  goes (Spaced d) g o = spaced_goes t ss (Spaced d) b d g o
  goes (Number d v) g o = pick_goes t ss (Number d v) b (M.digit_byte b) _ _ (longer_goes d v g b o)
      (λ e. spaced_goes t ss (Number d v) b d g (full_gap (counted_full o)))
  goes (Within q) g o = within_goes q g o

abbrev Lasts : List ℕ → Run → Type 0
Lasts t dead = Unit {0}
Lasts t (on p g ss) = Sofar t ss p g

lasts_on : (t : List ℕ) (ss : List Sign) (p : Place) (b : ℕ) (l : List ℕ) (x : Option Seen) → Goes t ss p b x →
    ((p' : Place) (g' : ℕ) → Sofar (t ++ (b ∷ [])) (noted p p' b ss) p' g' → Lasts ((t ++ (b ∷ [])) ++ l) (run l p' g' (noted p p' b ss))) →
    Lasts (t ++ (b ∷ l)) (onward x (λ p' g'. run l p' g' (noted p p' b ss)))
lasts_on t ss p b l None o f = tt
lasts_on t ss p b l (Some s) o f =
    subst (λ (k : List ℕ). Lasts k (run l s.place s.groups (noted p s.place b ss))) (append_assoc t (b ∷ []) l) (f s.place s.groups o)

run_lasts : (l t : List ℕ) (ss : List Sign) (p : Place) (g : ℕ) → Sofar t ss p g → Lasts (t ++ l) (run l p g ss)
run_lasts [] t ss p g o = subst (λ (k : List ℕ). Sofar k ss p g) (sym (append-nil t)) o
run_lasts (b ∷ l) t ss p g o =
    lasts_on t ss p b l (stepped p g b) (goes t ss b p g o) (λ p' g' k. run_lasts l (t ++ (b ∷ [])) (noted p p' b ss) p' g' k)

-- from the start on
pub sofar : (t : List ℕ) (p : Place) (g : ℕ) (ss : List Sign) → run t Start 0 [] ≡ on p g ss → Sofar t ss p g
sofar t p g ss e = subst (Lasts t) e (run_lasts t [] [] Start 0 begin)
