-- Every text of a formula is gone through to its end, with the text's signs.
-- Assumes nothing.
use Prim.Native.Nat.{ℕ, zero, suc, ◌+◌, ◌*◌, ◌<◌, ◌≤◌, ◌-◌}
use mathlib.Core.Path.{◌≡◌, refl, sym, ap, subst, ◌∙◌}
use mathlib.Core.Bool.{Bool, true, false}
use mathlib.Core.List.{List, [], ◌∷◌, ◌++◌}
use native.Mathlib.Omega.{arith}
use lib.Dec.{eqb}
use borrow.Author.Tests.{lt-ltb}
use Rattle.signs.specs.declared.machine.Due.{Due}
use Rattle.signs.specs.declared.machine.Due.TheVariants.{Operand, Colon, Steps, After}
use Rattle.signs.specs.declared.machine.Part.{Part}
use Rattle.signs.specs.declared.machine.Part.TheVariants.{N, T, Atom, Arc, Step}
use Rattle.signs.specs.declared.machine.Place.{Place}
use Rattle.signs.specs.declared.machine.Place.TheVariants.{Start, Clean, Spaced, Number, Within}
use Rattle.signs.specs.Limits.{largest_number}
use Rattle.signs.specs.Signs as S
use Rattle.signs.specs.Signs.{Sign, nil_sign, top_sign, mark, Decimal, Spells, spells_nil, spells_top, spells_atom, spells_feature}
use Rattle.signs.specs.Signs.{spells_mark, spaces, Spelt, one_sign, next_sign}
use Rattle.signs.specs.Machine as M
use Rattle.signs.specs.Machine.{seen_at, if_so, started, after_sign, numeral, within_sign, stepped, ended_by, number_sign}
use Rattle.signs.proofs.Laws.{digit_not, numeral_digit, longer_fits, number_digit}
use Rattle.signs.proofs.Moves.{Moves, by_nil, by_top, by_atom, by_arc, by_colon, by_bracket, by_less, by_step, by_greater, by_comma}
use Rattle.signs.proofs.Moves.{by_unbracket, by_and, by_or, by_left, by_right, Route, stay, move}
use Rattle.signs.proofs.Run.{on, run, run_after, run_step, rev, rev_snoc}

-- a sign may begin
pub data Free : Place → Due → Type 0 where
  free_start : Free Start Operand
  free_clean : {d : Due} → Free (Clean d) d
  free_spaced : {d : Due} → Free (Spaced d) d
  free_number : {d : Due} {v : ℕ} → Free (Number d v) d

-- a sign has ended
pub data Stood : Place → Due → Type 0 where
  stood_clean : {d : Due} → Stood (Clean d) d
  stood_number : {d : Due} {v : ℕ} → Stood (Number d v) d

pub stood_free : {p : Place} {d : Due} → Stood p d → Free p d
stood_free stood_clean = free_clean
stood_free stood_number = free_number

spaced_other : (d : Due) (g b : ℕ) → eqb b 32 ≡ false → after_sign d g b ≡ started d g b
spaced_other d g b e = ap (λ (t : Bool). if_so t (seen_at (Spaced d) g) (started d g b)) e

-- a sign's first byte
pub first_step : {p : Place} {d : Due} (g b : ℕ) → Free p d → M.digit_byte b ≡ false → eqb b 32 ≡ false → stepped p g b ≡ started d g b
unfolding stepped
first_step g b free_start e z = refl
first_step g b (free_clean {d}) e z = spaced_other d g b z
first_step g b (free_spaced {d}) e z = spaced_other d g b z
first_step g b (free_number {d} {v}) e z = ap (λ (t : Bool). if_so t (M.longer d v g b) (after_sign d g b)) e ∙ spaced_other d g b z

-- where a sign leads
pub record Leads (v : List ℕ) (p : Place) (g : ℕ) (ss : List Sign) (d : Due) (g' : ℕ) (s : Sign) : Type 0 where
  pub place : Place
  pub stood : Stood place d
  pub is : run v p g ss ≡ on place g' (s ∷ ss)

mark_leads : {p : Place} {d d' : Due} {g g' : ℕ} (ss : List Sign) (k : ℕ) (v : List ℕ) → Free p d → v ≡ k ∷ [] → M.digit_byte k ≡ false →
    eqb k 32 ≡ false → ended_by k ≡ mark k → started d g k ≡ seen_at (Clean d') g' → Leads v p g ss d' g' (mark k)
mark_leads {p} {d} {d'} {g} {g'} ss k v f e n z i q =
    record {
      place = Clean d';
      stood = stood_clean;
      is = ap (λ (l : List ℕ). run l p g ss) e ∙ run_step k [] p (Clean d') g g' ss (first_step g k f n z ∙ q)
          ∙ ap (λ (s : Sign). on (Clean d') g' (s ∷ ss)) i;
    }

-- the digits of a number
digit_is : (n : ℕ) → n < 10 → M.digit_byte (48 + n) ≡ true
digit_is n h = digit_not (48 + n) (omega arith) ∙ lt-ltb (48 + n) 58 (omega arith)

digits_run : {ds : List ℕ} {n : ℕ} (q : Part) (d : Due) (g : ℕ) (ss : List Sign) → ((b : ℕ) → stepped (Within q) g b ≡ numeral d g b) →
    Decimal ds n → n ≤ largest_number → run ds (Within q) g ss ≡ on (Number d n) g (number_sign d n ∷ ss)
digits_run {n = n} q d g ss w (S.digit h e) s =
    let v : 48 + n - 48 ≡ n = omega arith in
    ap (λ (l : List ℕ). run l (Within q) g ss) e
    ∙ run_step (48 + n) [] (Within q) (Number d (48 + n - 48)) g g ss (w (48 + n) ∙ numeral_digit d g (48 + n) (48 + n) (digit_is n h) refl)
    ∙ ap (λ (k : ℕ). on (Number d k) g (number_sign d k ∷ ss)) v
digits_run {n = n} q d g ss w (S.longer u m k c z h e i) s =
    let v : m * 10 + (48 + k - 48) ≡ n = omega arith in
    let fits : m * 10 + (48 + k - 48) ≤ largest_number = omega arith in
    ap (λ (l : List ℕ). run l (Within q) g ss) e
    ∙ run_after u ((48 + k) ∷ []) (Within q) (Number d m) g g ss (number_sign d m ∷ ss) (digits_run q d g ss w c (omega arith))
    ∙ run_step (48 + k) [] (Number d m) (Number d (m * 10 + (48 + k - 48))) g g (number_sign d m ∷ ss)
    (number_digit d m g (48 + k) (digit_is k h)
    ∙ longer_fits d m g (48 + k) (m * 10 + (48 + k - 48)) (λ y. absurd (omega arith)) refl fits)
    ∙ ap (λ (x : ℕ). on (Number d x) g (number_sign d x ∷ ss)) v

number_leads : {p : Place} {d d₀ : Due} {g : ℕ} (ss : List Sign) (q : Part) (k n : ℕ) (v ds : List ℕ) → Free p d₀ → v ≡ k ∷ ds →
    M.digit_byte k ≡ false → eqb k 32 ≡ false → started d₀ g k ≡ seen_at (Within q) g → ((b : ℕ) → stepped (Within q) g b ≡ numeral d g b) →
    S.Number ds n → Leads v p g ss d g (number_sign d n)
number_leads {p} {d} {d₀} {g} ss q k n v ds f e y z o w m =
    record {
      place = Number d n;
      stood = stood_number;
      is = ap (λ (l : List ℕ). run l p g ss) e ∙ run_step k ds p (Within q) g g ss (first_step g k f y z ∙ o)
          ∙ digits_run q d g ss w m.decimal m.small;
    }

word_leads : {p : Place} {d : Due} {g : ℕ} (ss : List Sign) (q : Part) (s : Sign) (k : ℕ) (v l : List ℕ) → Free p d → v ≡ k ∷ l →
    M.digit_byte k ≡ false → eqb k 32 ≡ false → started d g k ≡ seen_at (Within q) g → run l (Within q) g ss ≡ on (Clean After) g (s ∷ ss) →
    Leads v p g ss After g s
word_leads {p} {d} {g} ss q s k v l f e y z o w =
    record {
      place = Clean After;
      stood = stood_clean;
      is = ap (λ (x : List ℕ). run x p g ss) e ∙ run_step k l p (Within q) g g ss (first_step g k f y z ∙ o) ∙ w;
    }

sign_leads : {p : Place} {d d' : Due} {g g' : ℕ} {s : Sign} {v : List ℕ} (ss : List Sign) → Free p d → Moves d g s d' g' → Spells s v →
    Leads v p g ss d' g' s
unfolding started stepped within_sign M.digit_byte
sign_leads {v = v} ss f by_nil (spells_nil e) = word_leads ss N nil_sign 78 v (73 ∷ 76 ∷ []) f e refl refl refl refl
sign_leads {v = v} ss f by_top (spells_top e) = word_leads ss T top_sign 84 v (79 ∷ 80 ∷ []) f e refl refl refl refl
sign_leads {v = v} ss f (by_atom a) (spells_atom u n e) = number_leads {d = After} ss Atom 97 a v u f e refl refl refl (λ b. refl) n
sign_leads {v = v} ss f (by_arc a) (spells_feature u n e) = number_leads {d = Colon} ss Arc 102 a v u f e refl refl refl (λ b. refl) n
sign_leads {v = v} ss f (by_step a) (spells_feature u n e) = number_leads {d = Steps} ss Step 102 a v u f e refl refl refl (λ b. refl) n
sign_leads {v = v} ss f by_colon (spells_mark e) = mark_leads ss 58 v f e refl refl refl refl
sign_leads {v = v} ss f by_bracket (spells_mark e) = mark_leads ss 91 v f e refl refl refl refl
sign_leads {v = v} ss f by_less (spells_mark e) = mark_leads ss 60 v f e refl refl refl refl
sign_leads {v = v} ss f by_greater (spells_mark e) = mark_leads ss 62 v f e refl refl refl refl
sign_leads {v = v} ss f by_comma (spells_mark e) = mark_leads ss 44 v f e refl refl refl refl
sign_leads {v = v} ss f by_unbracket (spells_mark e) = mark_leads ss 93 v f e refl refl refl refl
sign_leads {v = v} ss f by_and (spells_mark e) = mark_leads ss 38 v f e refl refl refl refl
sign_leads {v = v} ss f by_or (spells_mark e) = mark_leads ss 124 v f e refl refl refl refl
sign_leads {g = g} {v = v} ss f by_left (spells_mark e) = mark_leads ss 40 v f e refl refl refl (let z : g + 1 ≡ suc g = omega arith in
    ap (λ (k : ℕ). seen_at (Clean Operand) k) z)
sign_leads {v = v} ss f by_right (spells_mark e) = mark_leads ss 41 v f e refl refl refl refl

-- spaces between signs
pub record Waits (n : ℕ) (p : Place) (d : Due) (g : ℕ) (ss : List Sign) : Type 0 where
  pub place : Place
  pub free : Free place d
  pub is : run (spaces n) p g ss ≡ on place g ss

spaces_run : (n : ℕ) (d : Due) (g : ℕ) (ss : List Sign) → run (spaces n) (Spaced d) g ss ≡ on (Spaced d) g ss
unfolding stepped
spaces_run zero d g ss = refl
spaces_run (suc n) d g ss = spaces_run n d g ss

spaces_wait : {p : Place} {d : Due} (n g : ℕ) (ss : List Sign) → Stood p d → Waits n p d g ss
unfolding stepped M.digit_byte
spaces_wait {p} zero g ss s = record { place = p; free = stood_free s; is = refl }
spaces_wait (suc n) g ss (stood_clean {d}) = record { place = Spaced d; free = free_spaced; is = spaces_run n d g ss }
spaces_wait (suc n) g ss (stood_number {d} {v}) = record { place = Spaced d; free = free_spaced; is = spaces_run n d g ss }

-- the last sign of a way
record Before (d : Due) (g : ℕ) (σ : List Sign) (s : Sign) (e : Due) (h : ℕ) : Type 0 where
  due : Due
  groups : ℕ
  route : Route d g σ due groups
  last : Moves due groups s e h

before_last : {d e : Due} {g h : ℕ} (σ : List Sign) (s : Sign) → Route d g (σ ++ (s ∷ [])) e h → Before d g σ s e h
before_last {d} {g = g} [] s (move m stay) = record { due = d; groups = g; route = stay; last = m }
before_last (x ∷ σ) s (move m r) = let b = before_last σ s r in
    record { due = b.due; groups = b.groups; route = move m b.route; last = b.last }

-- where a text of signs leads
pub record Reaches (t : List ℕ) (σ : List Sign) (d : Due) (g : ℕ) : Type 0 where
  pub place : Place
  pub stood : Stood place d
  pub is : run t Start 0 [] ≡ on place g (rev σ)

pub spelt_reaches : {t : List ℕ} {σ : List Sign} {d : Due} {g : ℕ} → Spelt σ t → Route Operand 0 σ d g → Reaches t σ d g
spelt_reaches {t} {σ} {d} {g} (one_sign s p e) r =
    let b = before_last [] s (subst (λ (l : List Sign). Route Operand 0 l d g) e r) in
    let w = from_start b.route p b.last in
    record { place = w.place; stood = w.stood; is = w.is ∙ ap (λ (l : List Sign). on w.place g (rev l)) (sym e) } where
      from_start : {a : Due} {i : ℕ} → Route Operand 0 [] a i → Spells s t → Moves a i s d g → Leads t Start 0 [] d g s
      from_start stay q m = sign_leads [] free_start m q
spelt_reaches {t} {σ} {d} {g} (next_sign τ u n s v q p e i) r =
    let b = before_last τ s (subst (λ (l : List Sign). Route Operand 0 l d g) e r) in
    let w = spelt_reaches q b.route in
    let x = spaces_wait n b.groups (rev τ) w.stood in
    let y = sign_leads {v = v} (rev τ) x.free b.last p in
    record {
      place = y.place;
      stood = y.stood;
      is = ap (λ (l : List ℕ). run l Start 0 []) i
          ∙ run_after u (spaces n ++ v) Start w.place 0 b.groups [] (rev τ) w.is
          ∙ run_after (spaces n) v w.place x.place b.groups b.groups (rev τ) (rev τ) x.is
          ∙ y.is
          ∙ ap (λ (l : List Sign). on y.place g l) (sym (ap rev e ∙ rev_snoc τ s));
    }
