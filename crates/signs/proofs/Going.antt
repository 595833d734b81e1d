-- The loop over the bytes: what has been seen of the text, and what has been written.
-- Assumes nothing.
use Prim.Native.Nat.{ℕ, suc, ◌+◌, ◌<◌, ◌≤◌}
use mathlib.Core.Path.{◌≡◌, refl, sym, ap, subst, ◌∙◌}
use mathlib.Core.List.{List, [], ◌∷◌, ◌++◌}
use native.Mathlib.Omega.{arith}
use Rattle.std.specs.Prelude.{Option, None, Err, ok_or}
use lib.ListN.{length, take, get_or}
use lib.Seq.{take-suc, take_all}
use Rattle.signs.specs.declared.machine.Due.{Due}
use Rattle.signs.specs.declared.machine.Place.{Place}
use Rattle.signs.specs.declared.machine.Place.TheVariants.{Start, Clean, Spaced, Number, Within}
use Rattle.signs.specs.declared.machine.Seen.{Seen}
use Rattle.signs.specs.Limits.{formula_limit}
use Rattle.signs.specs.Signs.{Sign}
use Rattle.signs.specs.Grammar.{BadAt}
use Rattle.signs.specs.Judged.{SignsJudged}
use Rattle.signs.specs.Machine.{seen_at, stepped, Small, NumberLast, noted, SignsStand, SignsNoted, over}
use Rattle.signs.proofs.Moves.{Moves, by_nil, by_top, by_atom, by_arc, by_colon, by_bracket, by_less, by_step, by_greater, by_comma}
use Rattle.signs.proofs.Moves.{by_unbracket, by_and, by_or, by_left, by_right, Route, stay, move}
use Rattle.signs.proofs.Run.{on, run, run_after, run_step, run_stop}
use Rattle.signs.proofs.Sofar.{Full, Ready, begin, gap, Sofar, sofar, counted_full}
use Rattle.signs.proofs.Exact.{stop_bad, length_rev, end_judged}

-- what `ok_or` makes of nothing is its reason
pub ok_or_err : {A E : Type 0} (o : Option A) (x y : E) → o ≡ None → Err x ≡ ok_or o y → x ≡ y
ok_or_err {A} o x y e q = let z = q ∙ ap (λ (k : Option A). ok_or k y) e in cc

-- a sign opens one group at most
moves_few : {d d' : Due} {g g' : ℕ} {s : Sign} → Moves d g s d' g' → g' ≤ suc g
moves_few by_nil = omega arith
moves_few by_top = omega arith
moves_few (by_atom a) = omega arith
moves_few (by_arc f) = omega arith
moves_few by_colon = omega arith
moves_few by_bracket = omega arith
moves_few by_less = omega arith
moves_few (by_step f) = omega arith
moves_few by_greater = omega arith
moves_few by_comma = omega arith
moves_few by_unbracket = omega arith
moves_few by_and = omega arith
moves_few by_or = omega arith
moves_few by_left = omega arith
moves_few by_right = omega arith

route_few : {d e : Due} {g h : ℕ} {σ : List Sign} → Route d g σ e h → h ≤ g + length σ
route_few stay = omega arith
route_few (move m r) = let a = moves_few m in let b = route_few r in omega arith

full_few : {t : List ℕ} {ss : List Sign} {d : Due} {g : ℕ} → Full t ss d g → g ≤ length ss
full_few {ss = ss} f = let a = route_few f.route in let b = length_rev ss in omega arith

ready_few : {t : List ℕ} {ss : List Sign} {d : Due} {g : ℕ} → Ready t ss d g → g ≤ length ss
ready_few begin = omega arith
ready_few (gap f) = full_few f.full

few : (t : List ℕ) (ss : List Sign) (p : Place) (g : ℕ) → Sofar t ss p g → g ≤ length ss
few t ss Start g o = ready_few o
few t ss (Clean d) g o = full_few o
few t ss (Spaced d) g o = full_few o.full
few t ss (Number d v) g o = full_few (counted_full o)
few t ss (Within q) g o = ready_few o.ready

small : (t : List ℕ) (ss : List Sign) (p : Place) (g : ℕ) → Sofar t ss p g → Small p
small t ss Start g o = tt
small t ss (Clean d) g o = tt
small t ss (Spaced d) g o = tt
small t ss (Number d v) g o = o.number.small
small t ss (Within q) g o = tt

last : (t : List ℕ) (ss : List Sign) (p : Place) (g : ℕ) → Sofar t ss p g → NumberLast p (length ss)
last t ss Start g o = tt
last t ss (Clean d) g o = tt
last t ss (Spaced d) g o = tt
last t ss (Number d v) g o = let e = ap length o.signs in omega arith
last t ss (Within q) g o = tt

-- a byte adds one sign at most
noted_few : (p p' : Place) (b : ℕ) (ss : List Sign) → length (noted p p' b ss) ≤ suc (length ss)
noted_few p Start b ss = omega arith
noted_few p (Clean d) b ss = omega arith
noted_few p (Spaced d) b ss = omega arith
noted_few Start (Number d v) b ss = omega arith
noted_few (Clean e) (Number d v) b ss = omega arith
noted_few (Spaced e) (Number d v) b ss = omega arith
noted_few (Number e x) (Number d v) b [] = omega arith
noted_few (Number e x) (Number d v) b (s ∷ ss) = omega arith
noted_few (Within q) (Number d v) b ss = omega arith
noted_few p (Within q) b ss = omega arith

-- the bytes before `at` are seen, their signs written
pub record Going (text signs : List ℕ) (place : Place) (groups count at : ℕ) : Type 0 where
  pub seen : List Sign
  pub runs : run (take at text) Start 0 [] ≡ on place groups seen
  pub holds : SignsStand signs seen
  pub counts : count ≡ length seen
  pub room : count ≤ at
  pub inside : at ≤ length text

pub going_start : (text signs : List ℕ) → Going text signs Start 0 0 0
going_start text signs = record { seen = []; runs = refl; holds = tt; counts = refl; room = omega arith; inside = omega arith }

module _ (text signs : List ℕ) (place : Place) (groups count at : ℕ) (o : Going text signs place groups count at) where
  pub going_few : groups ≤ at
  going_few = let a = few (take at text) o.seen place groups (sofar (take at text) place groups o.seen o.runs) in
      let b = o.counts in let c = o.room in omega arith

  pub going_small : Small place
  going_small = small (take at text) o.seen place groups (sofar (take at text) place groups o.seen o.runs)

  pub going_last : NumberLast place count
  going_last = subst (NumberLast place) (sym o.counts)
      (last (take at text) o.seen place groups (sofar (take at text) place groups o.seen o.runs))

  next_run : (b : ℕ) (p : Place) (g : ℕ) → at < length text → b ≡ get_or text at 0 → stepped place groups b ≡ seen_at p g →
      run (take (suc at) text) Start 0 [] ≡ on p g (noted place p b o.seen)
  next_run b p g h e q =
      ap (λ (l : List ℕ). run l Start 0 []) (take-suc text at 0 h ∙ ap (λ (x : ℕ). take at text ++ (x ∷ [])) (sym e))
      ∙ run_after (take at text) (b ∷ []) Start place 0 groups [] o.seen o.runs
      ∙ run_step b [] place p groups g o.seen q

  pub going_next_small : (b : ℕ) (r : Option Seen) (p : Place) (g : ℕ) → at < length text → b ≡ get_or text at 0 → r ≡ stepped place groups b →
      r ≡ seen_at p g → Small p
  going_next_small b r p g h e q z =
      small (take (suc at) text) (noted place p b o.seen) p g
      (sofar (take (suc at) text) p g (noted place p b o.seen) (next_run b p g h e (sym q ∙ z)))

  pub going_on : (b : ℕ) (r : Option Seen) (p : Place) (g : ℕ) (signs' : List ℕ) (count' : ℕ) → at < length text → b ≡ get_or text at 0 →
      r ≡ stepped place groups b → r ≡ seen_at p g → SignsNoted (noted place p b) signs count signs' count' →
      Going text signs' p g count' (at + 1)
  going_on b r p g signs' count' h e q z f =
      let w = f o.seen o.holds o.counts in
      let k : suc at ≡ at + 1 = omega arith in
      let n = noted_few place p b o.seen in
      let c = o.counts in
      let m = o.room in
      let y = w.1 in
      record {
        seen = noted place p b o.seen;
        runs = subst (λ (i : ℕ). run (take i text) Start 0 [] ≡ on p g (noted place p b o.seen)) k (next_run b p g h e (sym q ∙ z));
        holds = w.0;
        counts = y;
        room = omega arith;
        inside = omega arith;
      }

  pub going_stop : (b : ℕ) (r : Option Seen) → at < length text → b ≡ get_or text at 0 → r ≡ stepped place groups b → r ≡ None → BadAt text at
  going_stop b r h e q z =
      stop_bad text at place groups o.seen h o.runs
      (ap (λ (l : List ℕ). run l Start 0 []) (take-suc text at 0 h ∙ ap (λ (x : ℕ). take at text ++ (x ∷ [])) (sym e))
      ∙ run_after (take at text) (b ∷ []) Start place 0 groups [] o.seen o.runs
      ∙ run_stop b place groups o.seen (sym q ∙ z))

  pub going_end : length text ≤ formula_limit → formula_limit ≤ length signs → length text ≤ at →
      SignsJudged text signs (over place groups count (length text))
  going_end short room h =
      let i = o.inside in
      let c = o.counts in
      let m = o.room in
      end_judged text signs place groups o.seen count (length text) short refl
      (ap (λ (l : List ℕ). run l Start 0 []) (sym (take_all at text h)) ∙ o.runs) o.holds c (omega arith) (omega arith)
