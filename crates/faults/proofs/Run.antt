-- Going over the words one by one: where a rule is broken, or where the words lead.
-- Assumes nothing.
use mathlib.Core.Path.{◌≡◌, refl, ap, sym, ◌∙◌, subst}
use mathlib.Core.Logic.{◌⊎◌, inl, inr, ◌≢◌}
use mathlib.Core.Option.{Option, none, some}
use mathlib.Core.List.{List, [], ◌∷◌}
use Prim.Native.Nat.{ℕ, zero, suc, ◌<◌}
use native.Mathlib.Omega.{arith}
use lib.ListN.{length, take, get_or}
use Rattle.roles.specs.Faults.{Cause, words_end, Role, the_end, Expected, expect, role, breaks, expected_after}
use Rattle.roles.specs.Faults.{node_count, node_head, arc_feature, arc_target, disjunction_count, alternative_count}
use Rattle.roles.specs.Faults.{expected_from, Faulty}
use Rattle.descriptions.proofs.Tests.{none_is}

abbrev W : Type 0
W = List ℕ

-- no word breaks a rule from e to e'
abbrev pub Goes : Expected → W → Expected → Type 0
Goes e [] e' = e ≡ e'
Goes e (w ∷ ws) e' = (breaks e w ≡ none) × Goes (expected_after e w) ws e'

-- word p breaks a rule, from e on
abbrev pub FaultyFrom : Expected → W → Cause → ℕ → Type 0
FaultyFrom e [] c p = (p ≡ 0) × (role e ≢ the_end) × (c ≡ words_end)
FaultyFrom e (w ∷ ws) c zero = breaks e w ≡ some c
FaultyFrom e (w ∷ ws) c (suc p) = (breaks e w ≡ none) × FaultyFrom (expected_after e w) ws c p

-- the same by places
abbrev Before : Expected → W → ℕ → Type 0
Before e ws p = (i : ℕ) → i < p → breaks (expected_from e (take i ws)) (get_or ws i 0) ≡ none

abbrev Here : Expected → W → Cause → ℕ → Type 0
Here e ws c p = ((p < length ws) × (breaks (expected_from e (take p ws)) (get_or ws p 0) ≡ some c))
    ⊎ ((p ≡ length ws) × (role (expected_from e (take p ws)) ≢ the_end) × (c ≡ words_end))

to_before : (e : Expected) (ws : W) (c : Cause) (p : ℕ) → FaultyFrom e ws c p → Before e ws p
to_before e [] c p f i l = absurd (omega (arith, f.0))
to_before e (w ∷ ws) c zero f i l = absurd (omega arith)
to_before e (w ∷ ws) c (suc p) f zero l = f.0
to_before e (w ∷ ws) c (suc p) f (suc i) l = to_before (expected_after e w) ws c p f.1 i (omega arith)

to_here : (e : Expected) (ws : W) (c : Cause) (p : ℕ) → FaultyFrom e ws c p → Here e ws c p
to_here e [] c zero f = inr (refl, f.1, f.2)
to_here e [] c (suc p) f = absurd (omega (arith, f.0))
to_here e (w ∷ ws) c zero f = inl (omega arith, f)
to_here e (w ∷ ws) c (suc p) f = go (to_here (expected_after e w) ws c p f.1)
  where
    go : Here (expected_after e w) ws c p → Here e (w ∷ ws) c (suc p)
    go (inl h) = inl (omega (arith, h.0), h.1)
    go (inr h) = inr (ap suc h.0, h.1, h.2)

from_places : (e : Expected) (ws : W) (c : Cause) (p : ℕ) → Before e ws p → Here e ws c p → FaultyFrom e ws c p
from_places e [] c p b (inl h) = absurd (omega (arith, h.0))
from_places e [] c zero b (inr h) = (refl, h.1, h.2)
from_places e [] c (suc p) b (inr h) = absurd (omega (arith, h.0))
from_places e (w ∷ ws) c zero b (inl h) = h.1
from_places e (w ∷ ws) c zero b (inr h) = absurd (omega (arith, h.0))
from_places e (w ∷ ws) c (suc p) b (inl h) =
    (b 0 (omega arith), from_places (expected_after e w) ws c p (λ i l. b (suc i) (omega arith)) (inl (omega (arith, h.0), h.1)))
from_places e (w ∷ ws) c (suc p) b (inr h) =
    (b 0 (omega arith), from_places (expected_after e w) ws c p (λ i l. b (suc i) (omega arith)) (inr (omega (arith, h.0), h.1, h.2)))

abbrev pub start : Expected
start = expect node_count []

pub faulty_from : (ws : W) (c : Cause) (p : ℕ) → Faulty ws c p → FaultyFrom start ws c p
faulty_from ws c p f = from_places start ws c p f.before f.here

pub from_faulty : (ws : W) (c : Cause) (p : ℕ) → FaultyFrom start ws c p → Faulty ws c p
from_faulty ws c p f = record { before = to_before start ws c p f; here = to_here start ws c p f }

-- the fault, as a program
abbrev unended : Role → Option (Cause × ℕ)
unended node_count = some (words_end, 0)
unended (node_head n i m) = some (words_end, 0)
unended (arc_feature n i m k b) = some (words_end, 0)
unended (arc_target n i m k b) = some (words_end, 0)
unended disjunction_count = some (words_end, 0)
unended (alternative_count d) = some (words_end, 0)
unended the_end = none

abbrev later : Option (Cause × ℕ) → Option (Cause × ℕ)
later none = none
later (some f) = some (f.0, suc f.1)

abbrev or_later : Option Cause → Option (Cause × ℕ) → Option (Cause × ℕ)
or_later (some c) o = some (c, 0)
or_later none o = later o

abbrev pub found : Expected → W → Option (Cause × ℕ)
found e [] = unended (role e)
found e (w ∷ ws) = or_later (breaks e w) (found (expected_after e w) ws)

-- what was found
abbrev Found : Expected → W → Option (Cause × ℕ) → Type 0
Found e ws none = (r : Expected) × (role r ≡ the_end) × Goes e ws r
Found e ws (some f) = FaultyFrom e ws f.0 f.1

ended_found : (r : Role) (e : Expected) → role e ≡ r → Found e [] (unended r)
ended_found node_count e h = (refl, λ z. let y : ◌≡◌ {A = ℕ} 0 1 = cc in omega arith, refl)
ended_found (node_head n i m) e h = (refl, λ z. let y : ◌≡◌ {A = ℕ} 0 1 = cc in omega arith, refl)
ended_found (arc_feature n i m k b) e h = (refl, λ z. let y : ◌≡◌ {A = ℕ} 0 1 = cc in omega arith, refl)
ended_found (arc_target n i m k b) e h = (refl, λ z. let y : ◌≡◌ {A = ℕ} 0 1 = cc in omega arith, refl)
ended_found disjunction_count e h = (refl, λ z. let y : ◌≡◌ {A = ℕ} 0 1 = cc in omega arith, refl)
ended_found (alternative_count d) e h = (refl, λ z. let y : ◌≡◌ {A = ℕ} 0 1 = cc in omega arith, refl)
ended_found the_end e h = (e, h, refl)

pub is_found : (e : Expected) (ws : W) → Found e ws (found e ws)
is_found e [] = ended_found (role e) e refl
is_found e (w ∷ ws) = go (breaks e w) refl (found (expected_after e w) ws) (is_found (expected_after e w) ws)
  where
    go : (b : Option Cause) → breaks e w ≡ b → (o : Option (Cause × ℕ)) → Found (expected_after e w) ws o → Found e (w ∷ ws) (or_later b o)
    go (some c) h o f = h
    go none h none f = (f.0, f.1, (h, f.2))
    go none h (some x) f = (h, f)

pub found_faulty : (ws : W) (c : Cause) (p : ℕ) → found start ws ≡ some (c, p) → Faulty ws c p
found_faulty ws c p h = from_faulty ws c p (subst (Found start ws) h (is_found start ws))

-- the words lead to the end, or one is at fault
pub ends_or_faulty : (ws : W) → ((r : Expected) × (role r ≡ the_end) × Goes start ws r) ⊎ ((c : Cause) × (p : ℕ) × Faulty ws c p)
ends_or_faulty ws = go (found start ws) (is_found start ws)
  where
    go : (o : Option (Cause × ℕ)) → Found start ws o →
        ((r : Expected) × (role r ≡ the_end) × Goes start ws r) ⊎ ((c : Cause) × (p : ℕ) × Faulty ws c p)
    go none f = inl f
    go (some x) f = inr (x.0, x.1, from_faulty ws x.0 x.1 f)

-- and not both
goes_sound : (e r : Expected) (ws : W) (c : Cause) (p : ℕ) → role r ≡ the_end → Goes e ws r → FaultyFrom e ws c p → ⊥
goes_sound e r [] c p h g f = f.1 (ap role g ∙ h)
goes_sound e r (w ∷ ws) c zero h g f = none_is c (sym g.0 ∙ f)
goes_sound e r (w ∷ ws) c (suc p) h g f = goes_sound (expected_after e w) r ws c p h g.1 f.1

pub ends_faultless : (ws : W) (r : Expected) → role r ≡ the_end → Goes start ws r → (c : Cause) (p : ℕ) → Faulty ws c p → ⊥
ends_faultless ws r h g c p f = goes_sound start r ws c p h g (faulty_from ws c p f)

one_from : (e : Expected) (ws : W) (c c' : Cause) (p p' : ℕ) → FaultyFrom e ws c p → FaultyFrom e ws c' p' → (c ≡ c') × (p ≡ p')
one_from e [] c c' p p' f g = (f.2 ∙ sym g.2, f.0 ∙ sym g.0)
one_from e (w ∷ ws) c c' zero zero f g = let h : some c ≡ some c' = sym f ∙ g in (cc, refl)
one_from e (w ∷ ws) c c' zero (suc p') f g = absurd (none_is c (sym g.0 ∙ f))
one_from e (w ∷ ws) c c' (suc p) zero f g = absurd (none_is c' (sym f.0 ∙ g))
one_from e (w ∷ ws) c c' (suc p) (suc p') f g =
    let h = one_from (expected_after e w) ws c c' p p' f.1 g.1 in (h.0, ap suc h.1)

-- there is one fault at most
pub one_fault : (ws : W) (c c' : Cause) (p p' : ℕ) → Faulty ws c p → Faulty ws c' p' → (c ≡ c') × (p ≡ p')
one_fault ws c c' p p' f g = one_from start ws c c' p p' (faulty_from ws c p f) (faulty_from ws c' p' g)
