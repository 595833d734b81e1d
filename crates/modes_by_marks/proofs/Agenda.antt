-- The search by its agenda. Each law is one return of an engine: first on a description of which all is kept, then by marks.
-- Assumes nothing.
use mathlib.Core.Path.{◌≡◌, refl, ap, ◌∙◌}
use mathlib.Core.Bool.{Bool, true, false, ◌||◌, ◌&&◌}
use mathlib.Core.List.{List, [], ◌∷◌, ◌++◌, map}
use Prim.Native.Nat.{ℕ, suc}
use lib.Dec.{eqb}
use lib.ListN.{length}
use Rattle.descriptions.specs.Descr.{agree}
use Rattle.modes_by_marks.specs.Placed.{Options, Placed, Places, ◌also◌, no_more, option, place, stop, strip_all}
use Rattle.modes_by_marks.specs.Marks.{Marking, keep, keep_all, keep_any}
use Rattle.modes_by_marks.specs.Certain.{certain, sure}
use Rattle.modes_by_marks.specs.Search.{Found, among, dive, dive_all, dive_any, dive_each, lit, search, taking}
use Rattle.modes_by_marks.specs.Agenda.{dive_at, each_at, resume, resume_at}
use Rattle.modes_by_marks.proofs.Marks.{keep_false, keep_true}
use Rattle.descriptions.specs.Joining.{Joining}

-- was anything found
abbrev pub any_found : Found → Bool
any_found [] = false
any_found (l ∷ f) = true

-- counts and marks
pub taking_count : (x : ℕ) (f : Found) → length (taking x f) ≡ length f
taking_count x [] = refl
taking_count x (l ∷ f) = ap suc (taking_count x f)

pub lit_append : (f g : Found) (y : ℕ) → lit (f ++ g) y ≡ lit f y || lit g y
lit_append [] g y = refl
lit_append (l ∷ f) g y = go (among y l) (lit_append f g y)
  where
    go : (t : Bool) → lit (f ++ g) y ≡ lit f y || lit g y → t || lit (f ++ g) y ≡ t || lit f y || lit g y
    go true e = refl
    go false e = e

-- on the way back the alternative is marked if anything was found
pub lit_taking : (x : ℕ) (f : Found) (y : ℕ) → lit (taking x f) y ≡ (any_found f && eqb y x) || lit f y
lit_taking x [] y = refl
lit_taking x (l ∷ f) y = go (eqb y x) (among y l) (any_found f) (lit_taking x f y)
  where
    go : (s t u : Bool) → lit (taking x f) y ≡ (u && s) || lit f y → (s || t) || lit (taking x f) y ≡ s || (t || lit f y)
    go true t u e = refl
    go false true u e = refl
    go false false true e = e
    go false false false e = e

module _ {Graph : Type 0} (J : Joining Graph) where
  -- a leaf
  pub resume_leaf : (S : List Graph) → resume J [] S ≡ [] ∷ []
  unfolding resume
  resume_leaf S = refl

  pub resume_stop : (fs : List (Places Graph)) (S : List Graph) → resume J (stop ∷ fs) S ≡ resume J fs S
  unfolding resume dive
  resume_stop fs S = refl

  pub each_none : (S : List Graph) (k : List Graph → Found) → dive_each J S no_more k ≡ []
  unfolding dive
  each_none S k = refl

  pub each_more : (S : List Graph) (x : ℕ) (d : Placed Graph) (a : Options Graph) (k : List Graph → Found) →
      dive_each J S (option x d a) k ≡ taking x (dive J S d k) ++ dive_each J S a k
  unfolding dive
  each_more S x d a k = refl

  -- an alternative: it clashes with the stack, or is pushed
  pub dive_clash : (S : List Graph) (g : Graph) (es : Places Graph) (fs : List (Places Graph)) →
      agree J (S ++ g ∷ sure (strip_all es)) ≡ false → dive J S (place g es) (resume J fs) ≡ []
  unfolding resume dive
  dive_clash S g es fs e = ap (λ (t : Bool). elim t [ false ↦ [] | true ↦ dive_all J (S ++ g ∷ sure (strip_all es)) es (resume J fs) ]) e

  pub dive_push : (S : List Graph) (g : Graph) (es : Places Graph) (fs : List (Places Graph)) →
      agree J (S ++ g ∷ sure (strip_all es)) ≡ true →
      dive J S (place g es) (resume J fs) ≡ resume J (es ∷ fs) (S ++ g ∷ sure (strip_all es))
  unfolding resume dive
  dive_push S g es fs e = ap (λ (t : Bool). elim t [ false ↦ [] | true ↦ dive_all J (S ++ g ∷ sure (strip_all es)) es (resume J fs) ]) e

  pub search_start : (d : Placed Graph) → search J d ≡ dive J [] d (resume J [])
  unfolding search resume
  search_start d = refl

  -- by marks
  module _ (m : Marking) where
    pub resume_at_leaf : (S : List Graph) → resume_at J m [] S ≡ [] ∷ []
    resume_at_leaf S = resume_leaf S

    pub resume_at_stop : (fs : List (Places Graph)) (S : List Graph) → resume_at J m (stop ∷ fs) S ≡ resume_at J m fs S
    resume_at_stop fs S = resume_stop (map (keep_all m) fs) S

    -- a disjunction: one kept alternative, or each of several
    abbrev pub choose_at : List Graph → Options Graph → List (Places Graph) → Found
    choose_at S a fs = dive_any J S (keep_any m a) (resume_at J m fs)

    pub resume_at_more : (a : Options Graph) (ds : Places Graph) (fs : List (Places Graph)) (S : List Graph) →
        resume_at J m ((a also ds) ∷ fs) S ≡ choose_at S a (ds ∷ fs)
    unfolding resume dive
    resume_at_more a ds fs S = refl

    pub choose_at_none : (S : List Graph) (fs : List (Places Graph)) → choose_at S no_more fs ≡ []
    unfolding dive
    choose_at_none S fs = refl

    -- an alternative that is dropped, or kept
    module _ (S : List Graph) (x : ℕ) (a : Options Graph) (fs : List (Places Graph)) where
      pub each_at_dropped : (d : Placed Graph) → m x ≡ false → each_at J m S (option x d a) fs ≡ each_at J m S a fs
      each_at_dropped d e = ap (λ (z : Options Graph). dive_each J S z (resume_at J m fs)) (keep_false m x d a e)

      pub each_at_kept : (d : Placed Graph) → m x ≡ true →
          each_at J m S (option x d a) fs ≡ taking x (dive_at J m S d fs) ++ each_at J m S a fs
      each_at_kept d e = ap (λ (z : Options Graph). dive_each J S z (resume_at J m fs)) (keep_true m x d a e)
          ∙ each_more S x (keep m d) (keep_any m a) (resume_at J m fs)

    pub each_at_none : (S : List Graph) (fs : List (Places Graph)) → each_at J m S no_more fs ≡ []
    each_at_none S fs = each_none S (resume_at J m fs)

    pub dive_at_clash : (S : List Graph) (g : Graph) (es : Places Graph) (fs : List (Places Graph)) →
        agree J (S ++ g ∷ certain m es) ≡ false → dive_at J m S (place g es) fs ≡ []
    dive_at_clash S g es fs e = dive_clash S g (keep_all m es) (map (keep_all m) fs) e

    pub dive_at_push : (S : List Graph) (g : Graph) (es : Places Graph) (fs : List (Places Graph)) →
        agree J (S ++ g ∷ certain m es) ≡ true → dive_at J m S (place g es) fs ≡ resume_at J m (es ∷ fs) (S ++ g ∷ certain m es)
    dive_at_push S g es fs e = dive_push S g (keep_all m es) (map (keep_all m) fs) e
