-- The machine goes on exactly as long as a formula can, and ends well exactly on the texts of formulas.
-- Assumes nothing.
use Prim.Native.Nat.{ℕ, zero, suc, ◌<◌, ◌≤◌}
use mathlib.Core.Path.{◌≡◌, refl, sym, ap, subst, ◌∙◌}
use mathlib.Core.List.{List, [], ◌∷◌, ◌++◌}
use native.Mathlib.Omega.{arith}
use Rattle.std.specs.Prelude.{Result, Ok, Err}
use mathlib.Core.Bool.{Bool, true, false}
use lib.Dec.{eqb}
use borrow.Author.Tests.{eqb-true}
use lib.ListN.{length, take, drop, take-append-drop, length-append}
use lib.Seq.{take_all, take-suc}
use Rattle.formulas.specs.Formula.{Formula}
use Rattle.signs.specs.declared.machine.Due.{Due}
use Rattle.signs.specs.declared.machine.Due.TheVariants.{Operand, Colon, Path, Steps, Listed, After}
use Rattle.signs.specs.declared.machine.Part.{Part}
use Rattle.signs.specs.declared.machine.Part.TheVariants.{N, Ni, T, To, Atom, Arc, Step}
use Rattle.signs.specs.declared.machine.Place.{Place}
use Rattle.signs.specs.declared.machine.Place.TheVariants.{Start, Clean, Spaced, Number, Within}
use Rattle.signs.specs.declared.reading.ReadError.{ReadError}
use Rattle.signs.specs.declared.reading.ReadError.TheVariants.{Bad}
use Rattle.signs.specs.Limits.{formula_limit}
use Rattle.signs.specs.Signs.{Sign, sign_word, sign_words}
use Rattle.signs.specs.Grammar.{Reads, Viable, BadAt}
use Rattle.signs.specs.Machine as M
use Rattle.signs.specs.Machine.{if_so, started, within_sign, stepped, SignsStand, over, over_due}
use Rattle.signs.specs.Judged.{Good, SignsJudged}
use Rattle.signs.proofs.Moves.{route_whole, whole_route}
use Rattle.signs.proofs.Run.{dead, on, run, run_after, run_dead, run_step, rev}
use Rattle.signs.proofs.Sofar.{Full, Sofar, sofar, counted_full}
use Rattle.signs.proofs.Through.{Free, free_start, free_clean, free_spaced, free_number, Stood, stood_clean, stood_number}
use Rattle.signs.proofs.Through.{stood_free, first_step, spelt_reaches}

-- a text that ends what has begun: the signs that are due, and the open groups' parentheses
abbrev due_text : Due → List ℕ
due_text Operand = 78 ∷ 73 ∷ 76 ∷ []
due_text Colon = 58 ∷ 78 ∷ 73 ∷ 76 ∷ []
due_text Path = 60 ∷ 62 ∷ 93 ∷ []
due_text Steps = 62 ∷ 93 ∷ []
due_text Listed = 93 ∷ []
due_text After = 38 ∷ 78 ∷ 73 ∷ 76 ∷ []

abbrev part_text : Part → List ℕ
part_text N = 73 ∷ 76 ∷ []
part_text Ni = 76 ∷ []
part_text T = 79 ∷ 80 ∷ []
part_text To = 80 ∷ []
part_text Atom = 48 ∷ []
part_text Arc = 48 ∷ 58 ∷ 78 ∷ 73 ∷ 76 ∷ []
part_text Step = 48 ∷ 62 ∷ 93 ∷ []

abbrev place_text : Place → List ℕ
place_text Start = due_text Operand
place_text (Clean d) = due_text d
place_text (Spaced d) = due_text d
place_text (Number d v) = due_text d
place_text (Within q) = part_text q

abbrev closes : ℕ → List ℕ
closes zero = []
closes (suc g) = 41 ∷ closes g

-- where such a text leads
record Ends (t : List ℕ) (p : Place) (g : ℕ) (ss : List Sign) (h : ℕ) : Type 0 where
  place : Place
  stood : Stood place After
  signs : List Sign
  is : run t p g ss ≡ on place h signs

due_ends : {p : Place} (d : Due) (g : ℕ) (ss : List Sign) → Free p d → Ends (due_text d) p g ss g
unfolding started stepped within_sign M.digit_byte
due_ends {p} Operand g ss f = record {
  place = Clean After;
  stood = stood_clean;
  signs = _;
  is =
      run_step 78 (73 ∷ 76 ∷ []) p (Within N) g g ss (first_step g 78 f refl refl);
}
due_ends {p} Colon g ss f = record {
  place = Clean After;
  stood = stood_clean;
  signs = _;
  is =
      run_step 58 (78 ∷ 73 ∷ 76 ∷ []) p (Clean Operand) g g ss (first_step g 58 f refl refl);
}
due_ends {p} Path g ss f = record {
  place = Clean After;
  stood = stood_clean;
  signs = _;
  is =
      run_step 60 (62 ∷ 93 ∷ []) p (Clean Steps) g g ss (first_step g 60 f refl refl);
}
due_ends {p} Steps g ss f = record {
  place = Clean After;
  stood = stood_clean;
  signs = _;
  is =
      run_step 62 (93 ∷ []) p (Clean Listed) g g ss (first_step g 62 f refl refl);
}
due_ends {p} Listed g ss f = record {
  place = Clean After;
  stood = stood_clean;
  signs = _;
  is =
      run_step 93 [] p (Clean After) g g ss (first_step g 93 f refl refl);
}
due_ends {p} After g ss f = record {
  place = Clean After;
  stood = stood_clean;
  signs = _;
  is =
      run_step 38 (78 ∷ 73 ∷ 76 ∷ []) p (Clean Operand) g g ss (first_step g 38 f refl refl);
}

part_ends : (q : Part) (g : ℕ) (ss : List Sign) → Ends (part_text q) (Within q) g ss g
unfolding started stepped within_sign M.digit_byte
part_ends N g ss = record { place = Clean After; stood = stood_clean; signs = _; is = refl }
part_ends Ni g ss = record { place = Clean After; stood = stood_clean; signs = _; is = refl }
part_ends T g ss = record { place = Clean After; stood = stood_clean; signs = _; is = refl }
part_ends To g ss = record { place = Clean After; stood = stood_clean; signs = _; is = refl }
part_ends Atom g ss = record { place = Number After 0; stood = stood_number; signs = _; is = refl }
part_ends Arc g ss = record { place = Clean After; stood = stood_clean; signs = _; is = refl }
part_ends Step g ss = record { place = Clean After; stood = stood_clean; signs = _; is = refl }

place_ends : (p : Place) (g : ℕ) (ss : List Sign) → Ends (place_text p) p g ss g
place_ends Start g ss = due_ends Operand g ss free_start
place_ends (Clean d) g ss = due_ends d g ss free_clean
place_ends (Spaced d) g ss = due_ends d g ss free_spaced
place_ends (Number d v) g ss = due_ends d g ss free_number
place_ends (Within q) g ss = part_ends q g ss

closes_ends : {p : Place} (g : ℕ) (ss : List Sign) → Stood p After → Ends (closes g) p g ss 0
unfolding started M.digit_byte
closes_ends {p} zero ss s = record { place = p; stood = s; signs = ss; is = refl }
closes_ends {p} (suc g) ss s =
    let w = closes_ends {p = Clean After} g _ stood_clean in
    record {
      place = w.place;
      stood = w.stood;
      signs = w.signs;
      is =
          run_step 41 (closes g) p (Clean After) (suc g) g ss (first_step (suc g) 41 (stood_free s) refl refl) ∙ w.is;
    }

-- whole signs and no open group
pub whole_reads : {t : List ℕ} {ss : List Sign} → Full t ss After 0 → (φ : Formula) × Reads t φ
whole_reads {t} {ss} f = let w = route_whole f.route in (w.0, record { signs = rev ss; spelt = f.spelt; formula = w.1 })

pub stood_full : {t : List ℕ} {ss : List Sign} {p : Place} {d : Due} (g : ℕ) → Stood p d → Sofar t ss p g → Full t ss d g
stood_full g stood_clean o = o
stood_full g stood_number o = counted_full o

-- where the machine goes on, a formula can
pub on_viable : (u : List ℕ) (p : Place) (g : ℕ) (ss : List Sign) → run u Start 0 [] ≡ on p g ss → Viable u
on_viable u p g ss e =
    let a = place_ends p g ss in
    let b = closes_ends g a.signs a.stood in
    let v = place_text p ++ closes g in
    let r = run_after u v Start p 0 g [] ss e ∙ run_after (place_text p) (closes g) p a.place g g ss a.signs a.is ∙ b.is in
    let w = whole_reads (stood_full 0 b.stood (sofar (u ++ v) b.place 0 b.signs r)) in
    (v, w.0, w.1)

-- where it stops, none can
pub dead_not : (u : List ℕ) → run u Start 0 [] ≡ dead → Viable u → ⊥
dead_not u e v =
    let r = v.2 in
    let w = spelt_reaches r.spelt (whole_route r.formula) in
    let z : dead ≡ on w.place 0 (rev r.signs) = sym (run_dead u v.0 Start 0 [] e) ∙ w.is in
    let k : ◌≡◌ {A = ℕ} 0 1 = cc in
    absurd (omega arith)

on_same : (p p' : Place) (g g' : ℕ) (ss ss' : List Sign) → on p g ss ≡ on p' g' ss' → (p ≡ p') × (g ≡ g')
on_same p p' g g' ss ss' e = (cc, cc)

stood_fine : {p : Place} (n i : ℕ) → Stood p After → over p 0 n i ≡ Ok n
stood_fine n i stood_clean = refl
stood_fine n i stood_number = refl

-- where the machine does not end well, no formula has this text
pub bad_unread : (t : List ℕ) (p : Place) (g : ℕ) (ss : List Sign) (n i j : ℕ) → run t Start 0 [] ≡ on p g ss → over p g n i ≡ Err (Bad j) →
    (φ : Formula) → Reads t φ → ⊥
bad_unread t p g ss n i j e o φ r =
    let w = spelt_reaches r.spelt (whole_route r.formula) in
    let s = on_same p w.place g 0 ss (rev r.signs) (sym e ∙ w.is) in
    let f : over p g n i ≡ Ok n = ap (λ (x : Place). over x g n i) s.0 ∙ ap (λ (k : ℕ). over w.place k n i) s.1
    ∙ stood_fine n i w.stood in
    let k : ◌≡◌ {A = ℕ} 0 1 = cc in
    absurd (omega arith)

-- "the first byte at which no formula can go on"
pub stop_bad : (t : List ℕ) (i : ℕ) (p : Place) (g : ℕ) (ss : List Sign) → i < length t → run (take i t) Start 0 [] ≡ on p g ss →
    run (take (suc i) t) Start 0 [] ≡ dead → BadAt t i
stop_bad t i p g ss h e z =
    record {
      inside = omega arith;
      before = on_viable (take i t) p g ss e;
      here = λ k. dead_not (take (suc i) t) z;
      unread = λ φ r. dead_not (take (suc i) t) z
          (drop (suc i) t, φ, subst (λ (l : List ℕ). Reads l φ) (sym (take-append-drop (suc i) t)) r);
    }

-- "a text that stops early"
pub end_bad : (t : List ℕ) (p : Place) (g : ℕ) (ss : List Sign) (n i j : ℕ) → i ≡ length t → run t Start 0 [] ≡ on p g ss →
    over p g n i ≡ Err (Bad j) → BadAt t i
end_bad t p g ss n i j h e o =
    record {
      inside = omega arith;
      before = subst Viable (sym (take_all i t (omega arith))) (on_viable t p g ss e);
      here = λ k. absurd (omega arith);
      unread = bad_unread t p g ss n i j e o;
    }

-- how a text ends
pub data Ending (p : Place) (g n i : ℕ) : Result ℕ ReadError → Type 0 where
  ends_well : Stood p After → g ≡ 0 → Ending p g n i (Ok n)
  ends_badly : Ending p g n i (Err (Bad i))

due_ending : (p : Place) (d : Due) (g n i : ℕ) → Stood p d → Ending p g n i (over_due d g n i)
due_ending p Operand g n i s = ends_badly
due_ending p Colon g n i s = ends_badly
due_ending p Path g n i s = ends_badly
due_ending p Steps g n i s = ends_badly
due_ending p Listed g n i s = ends_badly
due_ending p After g n i s = go (eqb g 0) refl where
  go : (c : Bool) → eqb g 0 ≡ c → Ending p g n i (if_so c (Ok n) (Err (Bad i)))
  go true e = ends_well s (eqb-true g 0 e)
  go false e = ends_badly

pub ending : (p : Place) (g n i : ℕ) → Ending p g n i (over p g n i)
ending Start g n i = ends_badly
ending (Clean d) g n i = due_ending (Clean d) d g n i stood_clean
ending (Spaced d) g n i = ends_badly
ending (Number d v) g n i = due_ending (Number d v) d g n i stood_number
ending (Within q) g n i = ends_badly

-- the words of the signs
words_snoc : (σ : List Sign) (s : Sign) → sign_words (σ ++ (s ∷ [])) ≡ sign_words σ ++ (sign_word s ∷ [])
unfolding sign_words
words_snoc [] s = refl
words_snoc (x ∷ σ) s = ap (λ (l : List ℕ). sign_word x ∷ l) (words_snoc σ s)

pub length_rev : (ss : List Sign) → length (rev ss) ≡ length ss
length_rev [] = refl
length_rev (s ∷ ss) = length-append (rev ss) (s ∷ []) ∙ (let e = length_rev ss in omega arith)

holds_words : (w : List ℕ) (ss : List Sign) → length ss ≤ length w → SignsStand w ss → take (length ss) w ≡ sign_words (rev ss)
unfolding sign_words
holds_words w [] h o = refl
holds_words w (s ∷ ss) h o = take-suc w (length ss) 0 (omega arith) ∙ ap (λ (x : ℕ). take (length ss) w ++ (x ∷ [])) o.0
    ∙ ap (λ (l : List ℕ). l ++ (sign_word s ∷ [])) (holds_words w ss (omega arith) o.1) ∙ sym (words_snoc (rev ss) s)

good_end : (t w : List ℕ) (ss : List Sign) (n : ℕ) → Full t ss After 0 → SignsStand w ss → n ≡ length ss → n ≤ length t →
    length ss ≤ length w →
    Good t w n
good_end t w ss n f o e few h =
    let r = route_whole f.route in
    record {
      signs = rev ss;
      tree = r.0;
      spelt = f.spelt;
      formula = r.1;
      count = e ∙ sym (length_rev ss);
      few = few;
      written = ap (λ (k : ℕ). take k w) e ∙ holds_words w ss h o;
    }

-- the text's end is judged rightly
pub end_judged : (t w : List ℕ) (p : Place) (g : ℕ) (ss : List Sign) (n i : ℕ) → length t ≤ formula_limit → i ≡ length t →
    run t Start 0 [] ≡ on p g ss → SignsStand w ss → n ≡ length ss → n ≤ length t → length ss ≤ length w → SignsJudged t w (over p g n i)
end_judged t w p g ss n i short end e o c few room = go (over p g n i) refl (ending p g n i) where
  go : (r : Result ℕ ReadError) → over p g n i ≡ r → Ending p g n i r → SignsJudged t w r
  go r q (ends_well s z) = (short, good_end t w ss n (stood_full 0 s (subst (Sofar t ss p) z (sofar t p g ss e))) o c few room)
  go r q ends_badly = (short, end_bad t p g ss n i i end e q)
