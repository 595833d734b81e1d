-- The five empty programs of document 01, each refuted by the demands that the document names.
-- Assumes nothing.
use mathlib.Core.Path.{◌≡◌, refl, ap, sym, ◌∙◌, subst}
use mathlib.Core.Logic.{inl, inr}
use mathlib.Core.Bool.{true, false}
use mathlib.Core.Option.{Option, none, some}
use mathlib.Core.List.Memᴰ
use mathlib.Core.List.{List, [], ◌∷◌, ◌++◌}
use Prim.Native.Nat.{ℕ, zero, suc, ◌<◌}
use native.Mathlib.Omega.{arith}
use lib.ListN.{length, take, replicate, length-replicate}
use lib.Dec.{eqb, ltb}
use Rattle.descriptions.proofs.Table.{given_unified}
use Rattle.descriptions.proofs.Programs.{blank_in_words, program_writes}
use Rattle.theory.specs.Net.{atom, arcs, Graph}
use Rattle.theory.specs.Join.{join}
use Rattle.theory.specs.Structure.{Structure, Satisfies}
use Rattle.theory.specs.Descr.{Desc, desc, end, ◌and◌, fail, ◌or◌, readings, number}
use Rattle.theory.specs.Modes.{joined, quick, round, finish, size, folded_in}
use Rattle.theory.specs.Satisfaction.{Sat}
use Rattle.theory.specs.Layout.{words, WellFormed}
use Rattle.theory.specs.Reading.{decode}
use Rattle.theory.specs.Answer.{Answer, Call, clash_at, refuse}
use Rattle.theory.specs.Unified.{unified, deliver_or}
use Rattle.theory.specs.Located.{clash_node?}
use Rattle.theory.specs.Demands.{ClashNumber, Unifier, Demand2, ListCall, start, with_words, call, reached, ways, items, Demand3}
use Rattle.theory.specs.Rules.{Given}
use Rattle.theory.specs.Outcome.{Areas}
use Rattle.theory.specs.Programs.{Program, in_words, blank, Meets}
use Rattle.theory.specs.Known.{gives}
use Rattle.theory.proofs.Decode.{one_image}
use Rattle.theory.proofs.Nothing.{nil, nil_canonical, no_arc}
use Rattle.theory.proofs.Fit.{structure}
use Rattle.theory.proofs.Senses.{structure_itself, sense}
use Rattle.theory.proofs.Reading.{reads}

-- descriptions to try them on
abbrev plain : Graph → Desc
plain g = desc g end

abbrev pub one_arc : ℕ → ℕ → Graph
one_arc f a = arcs ((f, 1) ∷ []) ∷ atom a ∷ []

abbrev dN : Desc
dN = plain nil

abbrev dA : Desc
dA = plain (one_arc 1 10)

abbrev dB : Desc
dB = plain (one_arc 1 11)

abbrev dP : Desc
dP = desc nil ((dA or dB or fail) and end)

-- feature 3 is atom 10; A, or feature 3 is atom 11; B, or feature 2 is atom 10
abbrev dF : Desc
dF = desc (one_arc 3 10) ((dA or plain (one_arc 3 11) or fail) and (dB or plain (one_arc 2 10) or fail) and end)

wN : WellFormed dN 4
wN = (nil_canonical, ((omega arith, tt), tt), tt)

abbrev wArc : (f a n : ℕ) → f < 65536 → a < 65536 → WellFormed (plain (one_arc f a)) n
wArc f a n h k = (
  (omega arith, (omega arith, tt), (omega arith, tt), (omega arith, tt, tt, omega arith)),
  ((omega arith, (h, tt)), (k, tt)),
  tt,
)

wA : WellFormed dA 4
wA = wArc 1 10 4 (omega arith) (omega arith)

wB : WellFormed dB 4
wB = wArc 1 11 4 (omega arith) (omega arith)

wP : WellFormed dP 4
wP = (
  nil_canonical,
  ((omega arith, tt), tt),
  (omega arith, (wArc 1 10 3 (omega arith) (omega arith), (wArc 1 11 3 (omega arith) (omega arith), tt)), tt),
)

wF : WellFormed dF 4
wF =
    let g = wArc 3 10 4 (omega arith) (omega arith) in (
      g.0,
      g.1,
      (
        omega arith,
        (wArc 1 10 3 (omega arith) (omega arith), (wArc 3 11 3 (omega arith) (omega arith), tt)),
        (omega arith, (wArc 1 11 3 (omega arith) (omega arith), (wArc 2 10 3 (omega arith) (omega arith), tt)), tt),
      ),
    )

abbrev step : (d : Desc) → WellFormed d 4 → ℕ → ListCall
step d w m = record { item = d; fine = w; in_hand_first = true; mode = m; room = 2048; work = 16384 }

-- the structure of one bare node
abbrev bare : Structure
bare = structure nil nil_canonical

bare_nothing : Sat bare dN
bare_nothing = (structure_itself nil nil_canonical, tt)

bare_not_A : Sat bare dA → ⊥
bare_not_A s = let h : Satisfies bare (one_arc 1 10) = s.0 in
    no_arc (h.to (0, omega arith)).0 (1, (h.to (1, omega arith)).0) (h.arc_to (0, omega arith) 1 (1, omega arith) (Memᴰ.head refl))

-- "one that clashes always"
pub always_clash : Unifier
always_clash c room work = refuse 6

pub clash_2 : Demand2 always_clash → ⊥
unfolding always_clash
clash_2 D = D.clash 0 dN dN wN wN 2048 16384 (inl refl) bare bare_nothing bare_nothing

ways_nothing : ways (dN ∷ []) ≡ 1
unfolding Rattle.descriptions.specs.Descr.agreeing Rattle.descriptions.specs.Descr.agree join
ways_nothing = refl

pub clash_3 : Demand3 always_clash → ⊥
unfolding always_clash
clash_3 D = let h : ways (dN ∷ []) ≡ 0 = D.clash [] start (step dN wN 0) refl (inl refl) in let k = ways_nothing in omega (arith, h, k)

-- "one that answers `1 0 0` always", with any count of readings
pub always_nothing : ℕ → Unifier
always_nothing n c room work = gives start n

pub nothing_2 : (n : ℕ) → Demand2 (always_nothing n) → ⊥
unfolding always_nothing
nothing_2 n D =
    let (d, s) = D.success 0 dA dA wA wA 2048 16384 refl in
    let i : dN ≡ d = one_image dN d wN s.well s.written in
    bare_not_A ((s.means bare).0 (subst (Sat bare) i bare_nothing)).0

ways_A_B : ways (dA ∷ dB ∷ []) ≡ 0
unfolding Rattle.descriptions.specs.Descr.agreeing Rattle.descriptions.specs.Descr.agree join
ways_A_B = refl

readings_nothing : readings dN ≡ 1
unfolding Rattle.descriptions.specs.Descr.readings Rattle.descriptions.specs.Descr.agreeing Rattle.descriptions.specs.Descr.agree join
readings_nothing = refl

pub nothing_3 : (n : ℕ) → Demand3 (always_nothing n) → ⊥
unfolding always_nothing
nothing_3 n D =
    let (d, w, e, r) = D.number (step dA wA 0 ∷ step dB wB 0 ∷ []) start refl in
    let i : dN ≡ d = one_image dN d wN w e in
    let k : readings d ≡ 1 = subst (λ (z : Desc). readings z ≡ 1) i readings_nothing in
    let h = ways_A_B in
    omega (arith, r, k, h)

-- "one that reports 0 and writes nothing", with any length and readings
pub writes_nothing : (Call → ℕ × ℕ) → Unifier
writes_nothing f c room work = record { number = 0; extent = (f c).0; readings = (f c).1; node = 0; result = [] }

words_some : (d : Desc) → [] ≡ words d → ⊥
words_some (desc g ds) e = let h = ap length e in omega (arith, h)

pub silent_2 : (f : Call → ℕ × ℕ) → Demand2 (writes_nothing f) → ⊥
unfolding writes_nothing
silent_2 f D = let (d, s) = D.success 0 dN dN wN wN 2048 16384 refl in words_some d s.written

-- "one that … joins in every mode"
pub joins_always : Unifier
joins_always c room work = unified (record { mode = 0; first = c.first; second = c.second }) room work

-- a program whose result in mode 1 has another length than the mode's is refuted
wrong_length : (U : Unifier) (a b d : Desc) → WellFormed a 4 → WellFormed b 4 →
    (U (with_words 1 a b) 2048 16384).number ≡ 0 → quick a b ≡ some d →
    (length (U (with_words 1 a b) 2048 16384).result ≡ length (words d) → ⊥) → Demand2 U → ⊥
wrong_length U a b d p q z k n D =
    let (e, s) = D.success 1 a b p q 2048 16384 z in
    let h : some e ≡ some d = sym s.by_mode ∙ k in
    let i : e ≡ d = cc in
    n (ap length s.written ∙ ap (λ (z : Desc). length (words z)) i)

quick_P_A : quick dP dA ≡ some dA
unfolding Rattle.descriptions.specs.Modes.quick size Rattle.descriptions.specs.Modes.tidy Rattle.descriptions.specs.Modes.finish
    Rattle.descriptions.specs.Modes.joined join
quick_P_A = refl

joins_P_A : joins_always (with_words 1 dP dA) 2048 16384 ≡ unified (with_words 0 dP dA) 2048 16384
unfolding joins_always
joins_P_A = refl

joined_P_A : ((unified (with_words 0 dP dA) 2048 16384).number ≡ 0) × (length (unified (with_words 0 dP dA) 2048 16384).result ≡ 19)
unfolding Rattle.descriptions.specs.Unified.unified Rattle.descriptions.specs.Unified.in_mode Rattle.descriptions.specs.Unified.beyond
    Rattle.descriptions.specs.Unified.deliver Rattle.descriptions.specs.Unified.deliver_or decode Rattle.descriptions.specs.Modes.joined
    join
joined_P_A = (refl, refl)

pub joins_2 : Demand2 joins_always → ⊥
joins_2 = wrong_length joins_always dP dA dA wP wA (ap (λ (r : Answer). r.number) joins_P_A ∙ joined_P_A.0) quick_P_A
    (λ e. let h = ap (λ (r : Answer). length r.result) joins_P_A ∙ joined_P_A.1 in omega (arith, h, e))

-- "one that tidies in the first round and only pretends later"
pub tidy_once : ℕ → Graph → Desc → Option Desc
tidy_once zero c d = some d
tidy_once (suc n) c (desc g ds) = elim (join (c ∷ g ∷ [])) [
  | none ↦ none
  | some k ↦ elim (round (tidy_once n k) ds) [ none ↦ none | some r ↦ finish (λ d. some d) g r.left r.folded ]
]

pub quick_once : Desc → Desc → Option Desc
quick_once a b = elim (joined a b) [ none ↦ none | some d ↦ tidy_once (suc (size d)) nil d ]

pub first_round : Unifier
first_round c room work = elim (eqb c.mode 1) [
  | true ↦ elim (decode c.first) [
    | none ↦ refuse 4
    | some d ↦ elim (decode c.second) [ none ↦ refuse 5 | some e ↦ deliver_or 10 room 0 (quick_once d e) ]
  ]
  | false ↦ unified c room work
]

abbrev dF' : Desc
dF' = plain (arcs ((1, 1) ∷ (2, 2) ∷ (3, 3) ∷ []) ∷ atom 10 ∷ atom 10 ∷ atom 10 ∷ [])

quick_F : quick dF dN ≡ some dF'
unfolding Rattle.descriptions.specs.Modes.quick size Rattle.descriptions.specs.Modes.tidy Rattle.descriptions.specs.Modes.finish
    Rattle.descriptions.specs.Modes.joined join
quick_F = refl

once_F : ((first_round (with_words 1 dF dN) 2048 16384).number ≡ 0) × (length (first_round (with_words 1 dF dN) 2048 16384).result ≡ 22)
unfolding first_round quick_once tidy_once size Rattle.descriptions.specs.Modes.finish Rattle.descriptions.specs.Modes.joined join
    Rattle.descriptions.specs.Unified.deliver Rattle.descriptions.specs.Unified.deliver_or decode
once_F = (refl, refl)

pub once_2 : Demand2 first_round → ⊥
once_2 = wrong_length first_round dF dN dF' wF wN once_F.0 quick_F (λ e. let h = once_F.1 in omega (arith, h, e))

-- "one that makes up readings": the same count always
pub made_up : ℕ → Unifier
made_up n c room work = let r = unified c room work in
    record { number = r.number; extent = r.extent; readings = n; node = r.node; result = r.result }

zero_N : (unified (with_words 2 dN dN) 2048 16384).number ≡ 0
unfolding Rattle.descriptions.specs.Unified.unified Rattle.descriptions.specs.Unified.in_mode Rattle.descriptions.specs.Unified.beyond
    Rattle.descriptions.specs.Unified.complete Rattle.descriptions.specs.Answer.consistent Rattle.descriptions.specs.Unified.deliver
    Rattle.descriptions.specs.Unified.deliver_or decode Rattle.descriptions.specs.Modes.joined Rattle.descriptions.specs.Modes.quick
    Rattle.descriptions.specs.Modes.full size Rattle.descriptions.specs.Modes.tidy Rattle.descriptions.specs.Modes.finish
    Rattle.descriptions.specs.Modes.some_agree Rattle.descriptions.specs.Modes.prune Rattle.descriptions.specs.Modes.fold folded_in
    Rattle.descriptions.specs.Descr.agree Rattle.descriptions.specs.Descr.agreeing Rattle.descriptions.specs.Descr.readings number join
zero_N = refl

zero_P : (unified (with_words 2 dN dP) 2048 16384).number ≡ 0
unfolding Rattle.descriptions.specs.Unified.unified Rattle.descriptions.specs.Unified.in_mode Rattle.descriptions.specs.Unified.beyond
    Rattle.descriptions.specs.Unified.complete Rattle.descriptions.specs.Answer.consistent Rattle.descriptions.specs.Unified.deliver
    Rattle.descriptions.specs.Unified.deliver_or decode Rattle.descriptions.specs.Modes.joined Rattle.descriptions.specs.Modes.quick
    Rattle.descriptions.specs.Modes.full size Rattle.descriptions.specs.Modes.tidy Rattle.descriptions.specs.Modes.finish
    Rattle.descriptions.specs.Modes.some_agree Rattle.descriptions.specs.Modes.prune Rattle.descriptions.specs.Modes.fold folded_in
    Rattle.descriptions.specs.Descr.agree Rattle.descriptions.specs.Descr.agreeing Rattle.descriptions.specs.Descr.readings number join
zero_P = refl

ways_P : ways (dP ∷ []) ≡ 2
unfolding Rattle.descriptions.specs.Descr.agreeing Rattle.descriptions.specs.Descr.agree join
ways_P = refl

pub made_up_3 : (n : ℕ) → Demand3 (made_up n) → ⊥
unfolding made_up
made_up_3 n D =
    let h : n ≡ ways (dN ∷ []) = D.counted [] start (step dN wN 2) refl refl zero_N in
    let k : n ≡ ways (dP ∷ []) = D.counted [] start (step dP wP 2) refl refl zero_P in
    let i = ways_nothing in
    let j = ways_P in
    omega (arith, h, k, i, j)

-- or any other count than the true one, on a call that is tried
pub miscounted : (ℕ → ℕ) → Unifier
miscounted f c room work =
    let r = unified c room work in
    record { number = r.number; extent = r.extent; readings = f r.readings; node = r.node; result = r.result }

one_N : (unified (with_words 2 dN dN) 2048 16384).readings ≡ 1
unfolding Rattle.descriptions.specs.Unified.unified Rattle.descriptions.specs.Unified.in_mode Rattle.descriptions.specs.Unified.beyond
    Rattle.descriptions.specs.Unified.complete Rattle.descriptions.specs.Answer.consistent Rattle.descriptions.specs.Unified.deliver
    Rattle.descriptions.specs.Unified.deliver_or decode Rattle.descriptions.specs.Modes.joined Rattle.descriptions.specs.Modes.quick
    Rattle.descriptions.specs.Modes.full size Rattle.descriptions.specs.Modes.tidy Rattle.descriptions.specs.Modes.finish
    Rattle.descriptions.specs.Modes.some_agree Rattle.descriptions.specs.Modes.prune Rattle.descriptions.specs.Modes.fold folded_in
    Rattle.descriptions.specs.Descr.agree Rattle.descriptions.specs.Descr.agreeing Rattle.descriptions.specs.Descr.readings number join
one_N = refl

pub miscounted_3 : (f : ℕ → ℕ) → (f 1 ≡ 1 → ⊥) → Demand3 (miscounted f) → ⊥
unfolding miscounted
miscounted_3 f n D = n (sym (ap f one_N) ∙ D.counted [] start (step dN wN 2) refl refl zero_N ∙ ways_nothing)

-- readings made up in modes 0 and 1, of which the third demand says nothing: the table does not let them pass
pub made_up_below : ℕ → Unifier
made_up_below n c room work = elim (ltb c.mode 2) [ true ↦ made_up n c room work | false ↦ unified c room work ]

unread_N : ((unified (with_words 0 dN dN) 2048 16384).readings ≡ 0) × ((unified (with_words 1 dN dN) 2048 16384).readings ≡ 0)
unfolding Rattle.descriptions.specs.Unified.unified Rattle.descriptions.specs.Unified.in_mode Rattle.descriptions.specs.Unified.beyond
    Rattle.descriptions.specs.Unified.deliver Rattle.descriptions.specs.Unified.deliver_or decode Rattle.descriptions.specs.Modes.joined
    Rattle.descriptions.specs.Modes.quick size Rattle.descriptions.specs.Modes.tidy Rattle.descriptions.specs.Modes.finish join
unread_N = (refl, refl)

-- in either of the two modes
pub made_up_table : (n : ℕ) → (n ≡ 0 → ⊥) → (mode : ℕ) → mode < 2 →
    Given (with_words mode dN dN) 2048 16384 (made_up_below n (with_words mode dN dN) 2048 16384) → ⊥
unfolding made_up_below made_up
made_up_table n h zero m g =
    h (sym (ap (λ (r : Answer). r.readings) (given_unified reads (with_words 0 dN dN) 2048 16384 _ g)) ∙ unread_N.0)
made_up_table n h (suc zero) m g =
    h (sym (ap (λ (r : Answer). r.readings) (given_unified reads (with_words 1 dN dN) 2048 16384 _ g)) ∙ unread_N.1)
made_up_table n h (suc (suc m)) k g = absurd (omega (arith, k))

-- one that tells another node, of which neither demand says anything: the table does not let it pass
node_A_B : (unified (with_words 0 dA dB) 2048 16384).node ≡ 1
unfolding Rattle.descriptions.specs.Unified.unified Rattle.descriptions.specs.Unified.in_mode decode
    Rattle.descriptions.specs.Modes.joined join clash_node?
node_A_B = refl

pub node_table : (i : ℕ) → (i ≡ 1 → ⊥) → Given (with_words 0 dA dB) 2048 16384 (clash_at i) → ⊥
node_table i n g = n (sym (ap (λ (r : Answer). r.node) (given_unified reads (with_words 0 dA dB) 2048 16384 (clash_at i) g)) ∙ node_A_B)

-- "one that reports 0 and writes nothing", of the areas: an answer as the table gives it, and the result area left as it was
pub leaves_result : Program
leaves_result c before =
    let r = unified c (length before.result) (length before.working) in
    record {
      row = record { number = r.number; extent = r.extent; readings = r.readings; node = r.node };
      after = record { result = before.result; working = before.working };
    }

-- any program that does so where other words stood before
pub silent_areas : (P : Program) (c : Call) (before : Areas) → in_words c before ≡ true →
    (P c before).row.number ≡ 0 → (P c before).after.result ≡ before.result →
    ((unified c (length before.result) (length before.working)).result ≡ take (P c before).row.extent before.result → ⊥) →
    Meets P → ⊥
silent_areas P c before w z u n m = n (program_writes sense reads P m c before w z u)

written_N : ((unified (with_words 0 dN dN) 3 16384).number ≡ 0) × ((unified (with_words 0 dN dN) 3 16384).result ≡ 1 ∷ 0 ∷ 0 ∷ [])
unfolding Rattle.descriptions.specs.Unified.unified Rattle.descriptions.specs.Unified.in_mode Rattle.descriptions.specs.Unified.beyond
    Rattle.descriptions.specs.Unified.deliver Rattle.descriptions.specs.Unified.deliver_or decode Rattle.descriptions.specs.Modes.joined
    join
written_N = (refl, refl)

pub leaves_refused : Meets leaves_result → ⊥
unfolding leaves_result
leaves_refused = silent_areas leaves_result (with_words 0 dN dN) (blank 3 16384)
    (blank_in_words (with_words 0 dN dN) 3 16384 (omega arith) refl refl (omega arith) (omega arith))
    (ap (λ (n : ℕ). (unified (with_words 0 dN dN) 3 n).number) sixteen ∙ written_N.0) refl differs
  where
    sixteen : length {A = ℕ} (replicate 16384 0) ≡ 16384
    sixteen = length-replicate {A = ℕ} 16384 0

    zeros : (n : ℕ) → take {A = ℕ} n (0 ∷ 0 ∷ 0 ∷ []) ≡ 1 ∷ 0 ∷ 0 ∷ [] → ⊥
    zeros zero e = let z : ◌≡◌ {A = ℕ} 0 1 = cc in omega arith
    zeros (suc n) e = let z : ◌≡◌ {A = ℕ} 0 1 = cc in omega arith

    r : Answer
    r = unified (with_words 0 dN dN) 3 (length {A = ℕ} (replicate 16384 0))

    differs : r.result ≡ take r.extent (0 ∷ 0 ∷ 0 ∷ []) → ⊥
    differs e = zeros r.extent (sym e ∙ ap (λ (n : ℕ). (unified (with_words 0 dN dN) 3 n).result) sixteen ∙ written_N.1)

-- the third demand speaks of something: three calls in three modes that succeed, the words in hand once the second input, with two
-- readings, and a fourth that clashes
abbrev behind : (d : Desc) → WellFormed d 4 → ℕ → ListCall
behind d w m = record { item = d; fine = w; in_hand_first = false; mode = m; room = 2048; work = 16384 }

trail : List ListCall
trail = step dP wP 0 ∷ behind dP wP 1 ∷ step dP wP 2 ∷ []

trail_reached : reached unified start trail
    ≡ some (1 ∷ 0 ∷ 3 ∷ 2 ∷ (words dA ++ words dB ++ 2 ∷ (words dA ++ words dB ++ 2 ∷ (words dA ++ words dB))))
unfolding trail Rattle.descriptions.specs.Unified.unified Rattle.descriptions.specs.Unified.in_mode
    Rattle.descriptions.specs.Unified.beyond Rattle.descriptions.specs.Unified.complete Rattle.descriptions.specs.Answer.consistent
    Rattle.descriptions.specs.Unified.deliver Rattle.descriptions.specs.Unified.deliver_or decode Rattle.descriptions.specs.Modes.joined
    Rattle.descriptions.specs.Modes.quick Rattle.descriptions.specs.Modes.full size Rattle.descriptions.specs.Modes.tidy
    Rattle.descriptions.specs.Modes.finish Rattle.descriptions.specs.Modes.some_agree Rattle.descriptions.specs.Modes.prune
    Rattle.descriptions.specs.Modes.fold folded_in Rattle.descriptions.specs.Descr.agree Rattle.descriptions.specs.Descr.agreeing
    Rattle.descriptions.specs.Descr.readings number join
trail_reached = refl

trail_ways : (ways (items trail) ≡ 2) × (ways (items trail ++ plain (one_arc 1 12) ∷ []) ≡ 0)
unfolding trail Rattle.descriptions.specs.Descr.agreeing Rattle.descriptions.specs.Descr.agree join
trail_ways = (refl, refl)

-- What the two demands leave to the table of numbers: a program that refuses always meets both.
pub always_refuse : Unifier
always_refuse c room work = refuse 1

ways_none : ways [] ≡ 1
unfolding Rattle.descriptions.specs.Descr.agreeing Rattle.descriptions.specs.Descr.agree join
ways_none = refl

no_clash : (n : ℕ) → n ≡ 1 → ClashNumber n → ⊥
no_clash n e (inl h) = omega arith
no_clash n e (inr (inl h)) = omega arith
no_clash n e (inr (inr h)) = omega arith

pub refuse_meets_2 : Demand2 always_refuse
unfolding always_refuse
refuse_meets_2 = record {
  success = λ mode a b p q room work z. let k : ◌≡◌ {A = ℕ} 1 0 = z in absurd (omega arith);
  clash = λ mode a b p q room work z. absurd (no_clash 1 refl z);
}

refused : (ws : List ℕ) (s : ListCall) → (call always_refuse ws s).number ≡ 1
unfolding always_refuse
refused ws s = refl

pub refuse_meets_3 : Demand3 always_refuse
refuse_meets_3 = record {
  number = counts;
  clash = λ l ws s h z. absurd (no_clash (call always_refuse ws s).number (refused ws s) z);
  told = λ l ws s h m w. let k = refused ws s in inr (inl (omega (arith, k), omega (arith, k)));
  counted = λ l ws s h m z. let k = refused ws s in absurd (omega (arith, k, z));
}
  where
    counts : (l : List ListCall) (ws : List ℕ) → reached always_refuse start l ≡ some ws →
        (d : Desc) × WellFormed d 4 × (ws ≡ words d) × (readings d ≡ ways (items l))
    counts [] ws h = let e : start ≡ ws = cc in (dN, wN, sym e, readings_nothing ∙ sym ways_none)
    counts (s ∷ l) ws h = go (call always_refuse start s).number (refused start s) h
      where
        go : (n : ℕ) → n ≡ 1 → elim (eqb n 0) [ true ↦ reached always_refuse (call always_refuse start s).result l | false ↦ none ]
            ≡ some ws →
            (d : Desc) × WellFormed d 4 × (ws ≡ words d) × (readings d ≡ ways (items (s ∷ l)))
        go zero k e = absurd (omega (arith, k))
        go (suc n) k e = let z : ◌≡◌ {A = ℕ} 0 1 = cc in absurd (omega arith)

-- the table does not let it pass
pub refuse_table : unified (with_words 0 dN dN) 2048 16384 ≡ always_refuse (with_words 0 dN dN) 2048 16384 → ⊥
unfolding always_refuse Rattle.descriptions.specs.Unified.unified Rattle.descriptions.specs.Unified.in_mode
    Rattle.descriptions.specs.Unified.beyond Rattle.descriptions.specs.Unified.deliver Rattle.descriptions.specs.Unified.deliver_or decode
    Rattle.descriptions.specs.Modes.joined join
refuse_table e = let h : ◌≡◌ {A = ℕ} 0 1 = ap (λ (r : Answer). r.number) e in omega arith
