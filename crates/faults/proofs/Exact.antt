-- Words have a fault exactly when they are no description, and one at most; so one answer only is told of them.
-- Assumes nothing.
use mathlib.Core.Path.{◌≡◌, refl, sym, ap, ap₂, ◌∙◌, subst}
use mathlib.Core.Logic.{◌⊎◌, inl, inr, ◌↔◌}
use mathlib.Core.List.{List, []}
use Prim.Native.Nat.{ℕ}
use Rattle.theory.specs.Limits.{depth_limit}
use Rattle.theory.specs.LayoutOne.{Image}
use Rattle.roles.specs.Faults.{Cause, words_end, words_left_over, no_nodes, bad_head, bad_feature, bad_target, not_met}
use Rattle.roles.specs.Faults.{few_alternatives, too_deep, the_end, Expected, expect, role, Faulty}
use Rattle.roles.specs.Coded.{cause_of}
use Rattle.faults.specs.Told.{Told}
use Rattle.roles.specs.declared.cause.Cause as Coded
use Rattle.roles.specs.declared.cause.Cause.TheVariants.{WordsEnd, WordsLeftOver, NoNodes, BadHead, BadFeature, BadTarget, NotMet}
use Rattle.roles.specs.declared.cause.Cause.TheVariants.{FewAlternatives, TooDeep}
use Rattle.faults.specs.declared.verdict.Fault.{Fault}
use Rattle.std.specs.Prelude.{Option, Some, None}
use Rattle.faults.proofs.Run.{Goes, start, ends_or_faulty, ends_faultless}
use Rattle.faults.proofs.Reach.{desc_goes}
use Rattle.faults.proofs.Rests.{ends_image}
pub use Rattle.faults.proofs.Run.{one_fault}

abbrev AnyFault : List ℕ → Type 0
AnyFault ws = (c : Cause) × (p : ℕ) × Faulty ws c p

image_ends : (ws : List ℕ) → Image ws → Goes start ws (expect the_end [])
image_ends ws i = subst (λ (v : List ℕ). Goes start v (expect the_end [])) (sym i.2) (desc_goes i.0 depth_limit [] i.1 refl)

pub image_or_faulty : (ws : List ℕ) → Image ws ⊎ AnyFault ws
image_or_faulty ws = go (ends_or_faulty ws)
  where
    go : ((r : Expected) × (role r ≡ the_end) × Goes start ws r) ⊎ AnyFault ws → Image ws ⊎ AnyFault ws
    go (inl e) = inl (ends_image ws e.0 e.1 e.2)
    go (inr f) = inr f

-- there is a fault exactly when the words are no description
pub faulty_iff : (ws : List ℕ) → ((c : Cause) × (p : ℕ) × Faulty ws c p) ↔ (Image ws → ⊥)
faulty_iff ws = (λ f i. ends_faultless ws (expect the_end []) refl (image_ends ws i) f.0 f.1 f.2, λ n. go n (image_or_faulty ws))
  where
    go : (Image ws → ⊥) → Image ws ⊎ AnyFault ws → AnyFault ws
    go n (inl i) = absurd (n i)
    go n (inr f) = f

-- a cause of the code, from what it stands for
abbrev coded : Cause → Coded.Cause
coded words_end = WordsEnd
coded words_left_over = WordsLeftOver
coded no_nodes = NoNodes
coded (bad_head w) = BadHead w
coded bad_feature = BadFeature
coded (bad_target w) = BadTarget w
coded not_met = NotMet
coded few_alternatives = FewAlternatives
coded too_deep = TooDeep

coded_of : (c : Coded.Cause) → coded (cause_of c) ≡ c
coded_of WordsEnd = refl
coded_of WordsLeftOver = refl
coded_of NoNodes = refl
coded_of (BadHead w) = refl
coded_of BadFeature = refl
coded_of (BadTarget w) = refl
coded_of NotMet = refl
coded_of FewAlternatives = refl
coded_of TooDeep = refl

-- one answer only is told of words
pub told_once : (ws : List ℕ) (r r' : Option Fault) → Told ws r → Told ws r' → r ≡ r'
told_once ws None None f g = refl
told_once ws None (Some x) f g = absurd ((faulty_iff ws).0 (cause_of x.cause, x.at, g) f)
told_once ws (Some x) None f g = absurd ((faulty_iff ws).0 (cause_of x.cause, x.at, f) g)
told_once ws (Some x) (Some y) f g =
    let h = one_fault ws (cause_of x.cause) (cause_of y.cause) x.at y.at f g in
    ap Some (ap₂ {C = Fault} (λ c p. record { cause = c; at = p }) (sym (coded_of x.cause) ∙ ap coded h.0 ∙ coded_of y.cause) h.1)
