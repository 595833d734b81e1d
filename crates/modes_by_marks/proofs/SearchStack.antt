-- The search sees a stack only by what it joins to. So an engine may push in another order, and may begin with the stack that the
-- quick step leaves standing.
-- Assumes nothing.
use mathlib.Core.Path.{◌≡◌, refl, ap, ap₂, sym, ◌∙◌}
use mathlib.Core.Bool.{Bool, true, false}
use mathlib.Core.List.{List, [], ◌∷◌, ◌++◌}
use Rattle.descriptions.proofs.Mean.{Can, CanAll, CanAny}
use Rattle.descriptions.proofs.Live.{Agrees}
use Rattle.modes_by_marks.specs.Placed.{Options, Placed, Places, ◌also◌, no_more, option, place, stop, strip, strip_all, strip_any}
use Rattle.modes_by_marks.specs.Marks.{Marking, keep, keep_all}
use Rattle.modes_by_marks.specs.Certain.{certain, sure}
use Rattle.modes_by_marks.specs.Search.{Found, dive, dive_all, dive_any, dive_each, dive_in, search, taking}
use Rattle.modes_by_marks.specs.Agenda.{resume, resume_at}
use Rattle.modes_by_marks.proofs.Stable.{sure_can}
use Rattle.modes_by_marks.proofs.Stack.{Same, agree_same, same_on}
use Rattle.modes_by_marks.proofs.Standing.{agreed}
use Rattle.modes_by_marks.proofs.Agenda.{dive_push, search_start}
use Rattle.descriptions.proofs.Laws.{Laws}
use Rattle.descriptions.specs.Joining.{Joining}

module _ {Graph : Type 0} {J : Joining Graph} (𝓛 : Laws J) where
  -- what comes after sees no difference
  abbrev Alike : (List Graph → Found) → (List Graph → Found) → Type 0
  Alike k h = (X Y : List Graph) → Same 𝓛 X Y → k X ≡ h Y

  mutual
    unfolding dive

    dive_same : (d : Placed Graph) → Can 𝓛 (strip d) → (S T : List Graph) → Same 𝓛 S T → (k h : List Graph → Found) → Alike k h →
        dive J S d k ≡ dive J T d h
    dive_same (place g ds) c S T s k h e =
        let u = same_on 𝓛 S T (g ∷ sure (strip_all ds)) s (c.0, sure_can 𝓛 (strip_all ds) c.1) in
        ap₂ {C = Found} (λ (t : Bool) (f : Found). elim t [ false ↦ [] | true ↦ f ])
        (agree_same 𝓛 (S ++ g ∷ sure (strip_all ds)) (T ++ g ∷ sure (strip_all ds)) u)
        (all_same ds c.1 (S ++ g ∷ sure (strip_all ds)) (T ++ g ∷ sure (strip_all ds)) u k h e)

    all_same : (ds : Places Graph) → CanAll 𝓛 (strip_all ds) → (S T : List Graph) → Same 𝓛 S T → (k h : List Graph → Found) → Alike k h →
        dive_all J S ds k ≡ dive_all J T ds h
    all_same stop c S T s k h e = e S T s
    all_same (a also ds) c S T s k h e =
        any_same a c.0 S T s (λ X. dive_all J X ds k) (λ X. dive_all J X ds h) (λ X Y x. all_same ds c.1 X Y x k h e)

    any_same : (a : Options Graph) → CanAny 𝓛 (strip_any a) → (S T : List Graph) → Same 𝓛 S T → (k h : List Graph → Found) → Alike k h →
        dive_any J S a k ≡ dive_any J T a h
    any_same no_more c S T s k h e = refl
    any_same (option x d a) c S T s k h e =
        go a (in_same d c.0 S T s k h e) (dive_same d c.0 S T s k h e) (each_same a c.1 S T s k h e)
      where
        go : (a : Options Graph) → dive_in J S d k ≡ dive_in J T d h → dive J S d k ≡ dive J T d h → dive_each J S a k ≡ dive_each J T a h →
            dive_any J S (option x d a) k ≡ dive_any J T (option x d a) h
        go no_more i f r = ap (taking x) i
        go (option y b l) i f r = ap₂ {C = Found} (λ (p q : Found). taking x p ++ q) f r

    in_same : (d : Placed Graph) → Can 𝓛 (strip d) → (S T : List Graph) → Same 𝓛 S T → (k h : List Graph → Found) → Alike k h →
        dive_in J S d k ≡ dive_in J T d h
    in_same (place g ds) c S T s k h e = all_same ds c.1 S T s k h e

    each_same : (a : Options Graph) → CanAny 𝓛 (strip_any a) → (S T : List Graph) → Same 𝓛 S T → (k h : List Graph → Found) → Alike k h →
        dive_each J S a k ≡ dive_each J T a h
    each_same no_more c S T s k h e = refl
    each_same (option x d a) c S T s k h e =
        ap₂ {C = Found} (λ (p q : Found). taking x p ++ q) (dive_same d c.0 S T s k h e) (each_same a c.1 S T s k h e)

  abbrev pub CanFrames : List (Places Graph) → Type 0
  CanFrames [] = Unit {0}
  CanFrames (ds ∷ fs) = CanAll 𝓛 (strip_all ds) × CanFrames fs

  pub resume_same : (fs : List (Places Graph)) → CanFrames fs → (S T : List Graph) → Same 𝓛 S T → resume J fs S ≡ resume J fs T
  unfolding resume
  resume_same [] c S T s = refl
  resume_same (ds ∷ fs) c S T s = all_same ds c.0 S T s (resume J fs) (resume J fs) (λ X Y x. resume_same fs c.1 X Y x)

  -- from the stack that stands after the quick step
  pub search_standing : (g : Graph) (ds : Places Graph) (m : Marking) → Can 𝓛 (strip (keep m (place g ds))) → (T : List Graph) →
      Same 𝓛 T (g ∷ certain m ds) → Agrees J T → search J (keep m (place g ds)) ≡ resume_at J m (ds ∷ []) T
  search_standing g ds m c T s a =
      search_start J (keep m (place g ds))
      ∙ dive_push J [] g (keep_all m ds) [] (agreed 𝓛 g (strip_all (keep_all m ds)) c T s a)
      ∙ sym (resume_same (keep_all m ds ∷ []) (c.1, tt) T (g ∷ certain m ds) s)
