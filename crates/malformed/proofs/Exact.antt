-- One thing only is told of two inputs, and one part handed back; where words end the part is empty; the number is that of the table.
-- Assumes nothing.
use mathlib.Core.Path.{◌≡◌, refl, sym, ap, subst, ◌∙◌}
use mathlib.Core.Bool.{Bool, true, false}
use mathlib.Core.Logic.{◌⊎◌, inl, inr, ◌≢◌}
use mathlib.Core.Option.{Option, none, some}
use mathlib.Core.List.{List, []}
use Prim.Native.Nat.{ℕ, zero, suc, ◌+◌, ◌<◌, ◌≤◌}
use native.Mathlib.Omega.{arith}
use lib.Dec.{eqb, ltb, leb}
use lib.ListN.{length, get_or, drop_of_length-le}
use Rattle.theory.specs.Limits.{code_limit, depth_limit, input_limit, working_size}
use Rattle.theory.specs.LayoutOne.{Image}
use Rattle.theory.specs.Answer.{Answer, Call, refuse}
use Rattle.theory.specs.Rules.{Given, one, two, three, four, five, six, ten, seven, eleven, eight, done}
use Rattle.theory.proofs.Reading.{reads}
use Rattle.descriptions.proofs.Table.{one_answer}
use Rattle.roles.specs.Faults.{Cause, words_end, no_nodes, bad_head, bad_feature, bad_target, not_met, few_alternatives}
use Rattle.roles.specs.Faults.{too_deep, Expected, expect, node_count, node_head, arc_feature, arc_target, disjunction_count}
use Rattle.roles.specs.Faults.{alternative_count, the_end, broken_if, breaks, expected_at, role, Faulty}
use Rattle.roles.specs.Coded.{cause_of}
use Rattle.roles.specs.Causes.{cause_number}
use Rattle.faults.specs.declared.verdict.Fault.{Fault}
use Rattle.std.proofs.lemmas.Option.{same_Some}
use Rattle.std.specs.Prelude as P
use Rattle.std.specs.Prelude.{Some, None}
use Rattle.faults.proofs.Exact.{faulty_iff, told_once}
use Rattle.malformed.specs.Malformed.{BothShort, MalformedIn}
use Rattle.malformed.specs.Part.{Lent, Tail, PartBy, Part}
use Rattle.malformed.specs.declared.judging.Malformed.{Malformed}
use Rattle.malformed.specs.declared.judging.Malformed.TheVariants.{TooLong, First, Second}

abbrev W : Type 0
W = List ℕ

no_image : (ws : W) (c : Cause) (p : ℕ) → Faulty ws c p → Image ws → ⊥
no_image ws c p f i = (faulty_iff ws).0 (c, p, f) i

-- ---- one thing is told
not_both : (a b : W) → BothShort a b → (input_limit < length a) ⊎ (input_limit < length b) → ⊥
not_both a b s (inl h) = absurd (omega (arith, s.0))
not_both a b s (inr h) = absurd (omega (arith, s.1))

same_fault : (ws : W) (x y : Fault) → Faulty ws (cause_of x.cause) x.at → Faulty ws (cause_of y.cause) y.at → x ≡ y
same_fault ws x y f g = same_Some x y (told_once ws (Some x) (Some y) f g)

pub one_malformed : (a b : W) (m m' : P.Option Malformed) → MalformedIn a b m → MalformedIn a b m' → m ≡ m'
one_malformed a b None None h k = refl
one_malformed a b None (Some TooLong) h k = absurd (not_both a b h.0 k)
one_malformed a b None (Some (First x)) h k = absurd (no_image a _ x.at k.1 h.1)
one_malformed a b None (Some (Second x)) h k = absurd (no_image b _ x.at k.2 h.2)
one_malformed a b (Some TooLong) None h k = absurd (not_both a b k.0 h)
one_malformed a b (Some TooLong) (Some TooLong) h k = refl
one_malformed a b (Some TooLong) (Some (First x)) h k = absurd (not_both a b k.0 h)
one_malformed a b (Some TooLong) (Some (Second x)) h k = absurd (not_both a b k.0 h)
one_malformed a b (Some (First x)) None h k = absurd (no_image a _ x.at h.1 k.1)
one_malformed a b (Some (First x)) (Some TooLong) h k = absurd (not_both a b h.0 k)
one_malformed a b (Some (First x)) (Some (First y)) h k = ap (λ (f : Fault). Some (First f)) (same_fault a x y h.1 k.1)
one_malformed a b (Some (First x)) (Some (Second y)) h k = absurd (no_image a _ x.at h.1 k.1)
one_malformed a b (Some (Second x)) None h k = absurd (no_image b _ x.at h.2 k.2)
one_malformed a b (Some (Second x)) (Some TooLong) h k = absurd (not_both a b h.0 k)
one_malformed a b (Some (Second x)) (Some (First y)) h k = absurd (no_image a _ y.at k.1 h.1)
one_malformed a b (Some (Second x)) (Some (Second y)) h k = ap (λ (f : Fault). Some (Second f)) (same_fault b x y h.2 k.2)

-- ---- one part is handed back: its words, and where they stand
abbrev Alike : (part part' : Lent) → Type 0
Alike part part' = (part.now ≡ part'.now) × (part.ref_ptr.0 ≡ part'.ref_ptr.0) × (part.ref_ptr.1 ≡ part'.ref_ptr.1)

tails_alike : (input part part' : Lent) (p : ℕ) → Tail input p part → Tail input p part' → Alike part part'
tails_alike input part part' p t t' =
    (t.is ∙ sym t'.is, t.block ∙ sym t'.block, t.offset ∙ sym t'.offset)

module _ (first second part part' : Lent) where
  by_alike : (m : P.Option Malformed) → PartBy m first second part → PartBy m first second part' → Alike part part'
  by_alike None t t' = tails_alike first part part' _ t t'
  by_alike (Some TooLong) t t' = tails_alike first part part' _ t t'
  by_alike (Some (First f)) t t' = tails_alike first part part' f.at t t'
  by_alike (Some (Second f)) t t' = tails_alike second part part' f.at t t'

  pub one_part : Part first second part → Part first second part' → Alike part part'
  one_part h k =
      let e = one_malformed first.now second.now h.what k.what h.is_so k.is_so in
      by_alike k.what (subst (λ (m : P.Option Malformed). PartBy m first second part) e h.starts) k.starts

-- ---- "Where an input is merely cut short, that part is empty."
abbrev code : Option Cause → ℕ
code none = 0
code (some c) = cause_number c

if_not : (t : Bool) (c : Cause) (o : Option Cause) → cause_number c ≢ 1 → code o ≢ 1 → code (broken_if t c o) ≢ 1
if_not true c o h k = h
if_not false c o h k = k

only_if : (t : Bool) (c : Cause) → cause_number c ≢ 1 → code (broken_if t c none) ≢ 1
only_if t c h = if_not t c none h (λ z. omega arith)

-- no word breaks a rule so
never_ends : (e : Expected) (w : ℕ) → code (breaks e w) ≢ 1
never_ends (expect node_count s) w = only_if (eqb w 0) no_nodes (λ z. omega arith)
never_ends (expect (node_head n i m) s) w =
    let high : Bool = leb (code_limit + code_limit) w in
    if_not (leb m i) not_met (broken_if high (bad_head w) none) (λ z. omega arith) (only_if high (bad_head w) (λ z. omega arith))
never_ends (expect (arc_feature n i m k b) s) w =
    let high : Bool = leb code_limit w in
    if_not (ltb w b) bad_feature (broken_if high bad_feature none) (λ z. omega arith) (only_if high bad_feature (λ z. omega arith))
never_ends (expect (arc_target n i m k b) s) w =
    let high : Bool = leb n w in
    if_not (ltb m w) (bad_target w) (broken_if high (bad_target w) none) (λ z. omega arith) (only_if high (bad_target w) (λ z. omega arith))
never_ends (expect disjunction_count s) zero = λ z. omega arith
never_ends (expect disjunction_count s) (suc d) = only_if (leb depth_limit (length s)) too_deep (λ z. omega arith)
never_ends (expect (alternative_count d) s) w = only_if (ltb w 2) few_alternatives (λ z. omega arith)
never_ends (expect the_end s) w = λ z. omega arith

ends_last : (ws : W) (p : ℕ) → Faulty ws words_end p → p ≡ length ws
ends_last ws p f = go f.here
  where
    go : ((p < length ws) × (breaks (expected_at ws p) (get_or ws p 0) ≡ some words_end))
        ⊎ ((p ≡ length ws) × (role (expected_at ws p) ≢ the_end) × (words_end ≡ words_end)) → p ≡ length ws
    go (inl h) = absurd (never_ends (expected_at ws p) (get_or ws p 0) (ap code h.1))
    go (inr h) = h.0

pub cut_short_empty : (input part : Lent) (p : ℕ) → Faulty input.now words_end p → Tail input p part → part.now ≡ []
cut_short_empty input part p f t =
    let e = ends_last input.now p f in t.is ∙ drop_of_length-le input.now {i = p} (omega (arith, e))

-- ---- the number is the one that a call in a good mode and a large enough working area is answered
abbrev SameNumber : P.Option Malformed → ℕ → Type 0
SameNumber None n = (n ≢ 3) × (n ≢ 4) × (n ≢ 5)
SameNumber (Some TooLong) n = n ≡ 3
SameNumber (Some (First f)) n = n ≡ 4
SameNumber (Some (Second f)) n = n ≡ 5

module _ (asked : Call) (room work : ℕ) (mode_fine : asked.mode ≤ 2) (area_fine : working_size ≤ work) where
  is_number : (n : ℕ) → Given asked room work (refuse n) → (r : Answer) → Given asked room work r → r.number ≡ n
  is_number n h r g = ap (λ (x : Answer). x.number) (one_answer reads asked room work r (refuse n) g h)

  accepted_number : BothShort asked.first asked.second → Image asked.first → Image asked.second →
      (r : Answer) → Given asked room work r → SameNumber None r.number
  accepted_number s i j r (one h) = absurd (omega arith)
  accepted_number s i j r (two m h) = absurd (omega arith)
  accepted_number s i j r (three m w h) = absurd (not_both asked.first asked.second s h)
  accepted_number s i j r (four m w la lb n) = absurd (n i)
  accepted_number s i j r (five m w la lb i' n) = absurd (n j)
  accepted_number s i j r (six d e k A c n) = (λ z. omega arith, λ z. omega arith, λ z. omega arith)
  accepted_number s i j r (ten d e A c m q) = (λ z. omega arith, λ z. omega arith, λ z. omega arith)
  accepted_number s i j r (seven d e A c t) = (λ z. omega arith, λ z. omega arith, λ z. omega arith)
  accepted_number s i j r (eleven d e A c t m n) = (λ z. omega arith, λ z. omega arith, λ z. omega arith)
  accepted_number s i j r (eight d e x A c t f l) = (λ z. omega arith, λ z. omega arith, λ z. omega arith)
  accepted_number s i j r (done d e x A c t f l) = (λ z. omega arith, λ z. omega arith, λ z. omega arith)

  pub same_number : (m : P.Option Malformed) → MalformedIn asked.first asked.second m →
      (r : Answer) → Given asked room work r → SameNumber m r.number
  same_number None h = accepted_number h.0 h.1 h.2
  same_number (Some TooLong) h = is_number 3 (three mode_fine area_fine h)
  same_number (Some (First f)) h =
      is_number 4 (four mode_fine area_fine h.0.0 h.0.1 (λ i. no_image asked.first (cause_of f.cause) f.at h.1 i))
  same_number (Some (Second f)) h =
      is_number 5 (five mode_fine area_fine h.0.0 h.0.1 h.1 (λ i. no_image asked.second (cause_of f.cause) f.at h.2 i))
