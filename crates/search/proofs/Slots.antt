-- The frames of an agenda, as the code has them.
-- Assumes nothing.
use Prim.Native.Nat.{ℕ, zero, suc, ◌+◌, ◌-◌, ◌≤◌, ◌<◌}
use native.Mathlib.Omega.{arith}
use mathlib.Core.Path.{◌≡◌, refl, sym, ap, ap₂, subst, ◌∙◌}
use mathlib.Core.List.{List, [], ◌∷◌}
use lib.ListN.{length, get_or, set, length-set}
use Rattle.std.specs.Prelude.{◌≢◌}
use Rattle.std.proofs.Common.{get_or-set_other, get_or-set_same}
use Rattle.marks.specs.Positions.{tail_at, disjunctions_at}
use Rattle.search.specs.declared.agenda.Agenda.{Agenda}
use Rattle.search.specs.declared.agenda.Pending.{Pending}
use Rattle.search.specs.Frames.{Slot, nowhere, downward, slots, first_at, first_more, Lists, onto}

downward_length : (c : ℕ) (ps : List Pending) → length (downward c ps) ≡ c
downward_length zero ps = refl
downward_length (suc c) ps = ap suc (downward_length c ps)

-- what stands from the c-th on is not seen below it
downward_set : (c d : ℕ) (ps : List Pending) (p : Pending) → c ≤ d → downward c (set ps d p) ≡ downward c ps
downward_set zero d ps p h = refl
downward_set (suc c) d ps p h =
    let ne : c ≢ d = omega arith in
    let e : get_or (set ps d p) c nowhere ≡ get_or ps c nowhere = get_or-set_other ps d c p nowhere ne in
    ap₂ {C = List Slot} (λ (q : Pending) (l : List Slot). (q.at, q.more) ∷ l) e (downward_set c d ps p (omega arith))

-- where nothing is left
pub slots_none : (a : Agenda) → a.frames ≡ 0 → slots a ≡ []
unfolding slots
slots_none a z = ap (λ (f : ℕ). downward f a.stack) z

pub lists_none : (a : Agenda) → a.frames ≡ 0 → length a.stack ≡ 5 → Lists a []
lists_none a z w = record { few = omega arith; wide = w; is = slots_none a z }

pub lists_size : (a : Agenda) (l : List Slot) → Lists a l → a.frames ≡ length l
unfolding slots
lists_size a l h = sym (downward_length a.frames a.stack) ∙ ap length h.is

-- the first frame
pub lists_first : (a : Agenda) (l : List Slot) → Lists a l → (a.frames ≡ 0 → ⊥) → (r : List Slot) × (l ≡ (first_at a, first_more a) ∷ r)
unfolding slots
lists_first a l h some = go a.frames refl h.is
  where
    go : (f : ℕ) → a.frames ≡ f → downward f a.stack ≡ l → (r : List Slot) × (l ≡ (first_at a, first_more a) ∷ r)
    go zero e is = absurd (some e)
    go (suc f) e is =
        let g : a.frames - 1 ≡ f = omega arith in (
          downward f a.stack,
          sym is ∙ ap {B = List Slot} (λ (k : ℕ). ((get_or a.stack k nowhere).at, (get_or a.stack k nowhere).more) ∷ downward f a.stack)
              (sym g),
        )

-- without the first frame
pub lists_after : (a r : Agenda) → r.frames ≡ a.frames - 1 → r.stack ≡ a.stack → (s : Slot) (l : List Slot) → Lists a (s ∷ l) →
    Lists r l
unfolding slots
lists_after a r ef es s l h = record {
  few = omega (arith, h.few);
  wide = ap length es ∙ h.wide;
  is = go a.frames refl h.is;
}
  where
    go : (f : ℕ) → a.frames ≡ f → downward f a.stack ≡ s ∷ l → downward r.frames r.stack ≡ l
    go zero e is = let z : ◌≡◌ {A = ℕ} 0 1 = cc in absurd (omega arith)
    go (suc f) e is =
        let g : r.frames ≡ f = omega arith in
        let tail : downward f a.stack ≡ l = cc in
        rw (g, es) tail

-- a frame before the others
pub lists_before : (a r : Agenda) (at more : ℕ) → (more ≡ 0 → ⊥) → a.frames < 5 → r.frames ≡ a.frames + 1 →
    r.stack ≡ set a.stack a.frames (record { at = at; more = more }) → (l : List Slot) → Lists a l → Lists r (onto at more l)
unfolding slots
lists_before a r at more some room ef es l h = record {
  few = omega (arith, h.few);
  wide = ap length es ∙ length-set a.stack a.frames (record { at = at; more = more }) ∙ h.wide;
  is = go more refl;
}
  where
    top : Pending
    top = record { at = at; more = more }

    here : get_or (set a.stack a.frames top) a.frames nowhere ≡ top
    here = get_or-set_same a.stack a.frames top nowhere (omega (arith, h.wide))

    whole : downward (suc a.frames) (set a.stack a.frames top) ≡ (at, more) ∷ l
    whole = ap₂ {C = List Slot} (λ (q : Pending) (k : List Slot). (q.at, q.more) ∷ k) here
        (downward_set a.frames a.frames a.stack top (omega arith) ∙ h.is)

    go : (j : ℕ) → more ≡ j → downward r.frames r.stack ≡ onto at j l
    go zero e = absurd (some e)
    go (suc j) e =
        let g : r.frames ≡ suc a.frames = omega arith in
        rw (g, es) (whole ∙ ap {B = List Slot} (λ (k : ℕ). (at, k) ∷ l) e)

pub lists_same : (a : Agenda) (at more : ℕ) → more ≡ 0 → (l : List Slot) → Lists a l → Lists a (onto at more l)
lists_same a at zero z l h = h
lists_same a at (suc more) z l h = absurd (omega arith)

-- what `descend` puts before the others
pub opens : (w : List ℕ) (g e more : ℕ) (r : Agenda) → e ≡ tail_at w g → more ≡ disjunctions_at w e → (l : List Slot) →
    Lists r (onto (e + 1) more l) → Lists r (onto (tail_at w g + 1) (disjunctions_at w (tail_at w g)) l)
opens w g e more r f h l u = subst (λ (p : ℕ). Lists r (onto (p + 1) (disjunctions_at w p) l)) f
    (subst (λ (c : ℕ). Lists r (onto (e + 1) c l)) h u)
