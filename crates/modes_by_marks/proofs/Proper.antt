-- Descriptions as they come in have two or more alternatives everywhere, so they are folded already, and mode 1 is the greatest stable
-- part of the joined description, folded.
-- Assumes nothing.
use mathlib.Core.Path.{◌≡◌, refl, ap, ap₂, sym, ◌∙◌, subst}
use mathlib.Core.Option.{Option, none, some}
use mathlib.Core.List.{◌++◌, [], ◌∷◌, List}
use Prim.Native.Nat.{ℕ, suc, ◌≤◌}
use native.Mathlib.Omega.{arith}
use Rattle.descriptions.specs.Descr.{Alts, Desc, Disjs, ◌and◌, ◌or◌, ◌then◌, alts, desc, end, fail}
use Rattle.descriptions.specs.Modes.{Round, fold, fold_all, fold_any, folded_in, glue, in_place, joined, quick, size, tidy, Glues}
use Rattle.descriptions.proofs.Mean.{Can, CanAll, CanAny, can_then, join_canonical}
use Rattle.modes_by_marks.specs.Certain.{sure, sure_any}
use Rattle.modes_by_marks.proofs.Shown.{fold_some}
use Rattle.modes_by_marks.proofs.Entail.{fine_cons}
use Rattle.modes_by_marks.proofs.Stable.{best_one}
use Rattle.modes_by_marks.specs.Sane.{Sane, SaneAll, SaneAny}
use Rattle.modes_by_marks.proofs.Greatest.{TidiedBest}
use Rattle.modes_by_marks.proofs.Tidy.{tidy_best}
use Rattle.modes_by_marks.proofs.Passes.{Passed}
use Rattle.descriptions.proofs.Laws.{Laws}
use Rattle.descriptions.specs.Joining.{Joining}

module _ {Graph : Type 0} where
  -- two or more alternatives, everywhere
  abbrev mutual
    pub Proper : Desc Graph → Type 0
    Proper (desc g ds) = ProperAll ds

    pub ProperAll : Disjs Graph → Type 0
    ProperAll end = Unit {0}
    ProperAll (a and ds) = (2 ≤ alts a) × ProperAny a × ProperAll ds

    pub ProperAny : Alts Graph → Type 0
    ProperAny fail = Unit {0}
    ProperAny (d or a) = Proper d × ProperAny a

  proper_sure_any : (a : Alts Graph) → 2 ≤ alts a → sure_any a ≡ []
  proper_sure_any fail l = absurd (omega arith)
  proper_sure_any (d or fail) l = absurd (omega arith)
  proper_sure_any (d or (e or b)) l = refl

  pub proper_sure : (ds : Disjs Graph) → ProperAll ds → sure ds ≡ []
  proper_sure end p = refl
  proper_sure (a and ds) p = ap₂ {C = List Graph} ◌++◌ (proper_sure_any a p.0) (proper_sure ds p.2)

  pub proper_then : (ds es : Disjs Graph) → ProperAll ds → ProperAll es → ProperAll (ds then es)
  proper_then end es p q = q
  proper_then (a and ds) es p q = (p.0, p.1, proper_then ds es p.2 q)

module _ {Graph : Type 0} (J : Joining Graph) where
  open J use {nil}

  many_in_place : (a : Alts Graph) (r : Round Graph) → 2 ≤ alts a → in_place J a r ≡ record { folded = r.folded; left = a and r.left }
  many_in_place fail r l = absurd (omega arith)
  many_in_place (d or fail) r l = absurd (omega arith)
  many_in_place (d or (e or b)) r l = refl

  pub tidies_passed : (d : Desc Graph) (o q : Option (Desc Graph)) → TidiedBest J (nil ∷ []) d o → Passed J d q → o ≡ fold_some J q
  tidies_passed d none none t p = refl
  tidies_passed d none (some e) t p = absurd (t e p.part p.stable)
  tidies_passed d (some x) none t p = absurd (p t.0 t.1.part t.1.stable)
  tidies_passed d (some x) (some e) t p = ap {B = Option (Desc Graph)} some (t.2 ∙ ap (fold J) (best_one J (nil ∷ []) d t.0 e t.1 p))

module _ {Graph : Type 0} {J : Joining Graph} (𝓛 : Laws J) where
  open J use {join, nil}
  open 𝓛 use {nil_canonical}

  mutual
    pub proper_sane : (d : Desc Graph) → Can 𝓛 d → Proper d → Sane J d
    proper_sane (desc g ds) c p = (subst (λ (z : List Graph). Glues J g z) (sym (proper_sure ds p)) (g, refl), proper_sane_all ds c.1 p)

    proper_sane_all : (ds : Disjs Graph) → CanAll 𝓛 ds → ProperAll ds → SaneAll J ds
    proper_sane_all end c p = tt
    proper_sane_all (a and ds) c p = (proper_sane_any a c.0 p.1, proper_sane_all ds c.1 p.2)

    proper_sane_any : (a : Alts Graph) → CanAny 𝓛 a → ProperAny a → SaneAny J a
    proper_sane_any fail c p = tt
    proper_sane_any (d or a) c p = (proper_sane d c.0 p.0, proper_sane_any a c.1 p.1)

  mutual
    unfolding fold folded_in

    pub proper_fold : (d : Desc Graph) → Can 𝓛 d → Proper d → fold J d ≡ d
    proper_fold (desc g ds) c p = ap (λ (r : Round Graph). folded_in g r (glue J g r.folded)) (proper_fold_all ds c.1 p)

    proper_fold_all : (ds : Disjs Graph) → CanAll 𝓛 ds → ProperAll ds → fold_all J ds ≡ record { folded = []; left = ds }
    proper_fold_all end c p = refl
    proper_fold_all (a and ds) c p =
        ap₂ {C = Round Graph} (in_place J) (proper_fold_any a c.0 p.1) (proper_fold_all ds c.1 p.2)
        ∙ many_in_place J a (record { folded = []; left = ds }) p.0

    proper_fold_any : (a : Alts Graph) → CanAny 𝓛 a → ProperAny a → fold_any J a ≡ a
    proper_fold_any fail c p = refl
    proper_fold_any (d or a) c p = ap₂ {C = Alts Graph} ◌or◌ (proper_fold d c.0 p.0) (proper_fold_any a c.1 p.1)

  -- the joined description is as its inputs are
  abbrev pub Comes : Option (Desc Graph) → Type 0
  Comes none = Unit {0}
  Comes (some d) = Can 𝓛 d × Proper d

  pub joined_comes : (a b : Desc Graph) → Can 𝓛 a → Can 𝓛 b → Proper a → Proper b → Comes (joined J a b)
  unfolding joined
  joined_comes (desc g ds) (desc h es) c e p q = go (join (g ∷ h ∷ [])) refl
    where
      go : (o : Option Graph) → join (g ∷ h ∷ []) ≡ o → Comes (elim o [ none ↦ none | some k ↦ some (desc k (ds then es)) ])
      go none z = tt
      go (some k) z = (
        (join_canonical 𝓛 (g ∷ h ∷ []) (fine_cons 𝓛 g (h ∷ []) c.0 (e.0, tt)) k z, can_then 𝓛 ds es c.1 e.1),
        proper_then ds es p q,
      )

  -- whatever comes to the greatest stable part, in whatever order it drops, has the result of mode 1
  pub quick_best : (a b : Desc Graph) → Can 𝓛 a → Can 𝓛 b → Proper a → Proper b → (d : Desc Graph) → joined J a b ≡ some d →
      (o : Option (Desc Graph)) → Passed J d o → quick J a b ≡ fold_some J o
  unfolding quick
  quick_best a b c e p q d j o h =
      let z : Comes (some d) = subst Comes j (joined_comes a b c e p q) in
      let s : fold J d ≡ d = proper_fold d z.0 z.1 in
      let n : ℕ = suc (size d) in
      let t : TidiedBest J (nil ∷ []) d (tidy J n nil d) =
      subst (λ (y : Desc Graph). TidiedBest J (nil ∷ []) d (tidy J n nil y)) s
      (tidy_best 𝓛 n nil nil_canonical d z.0 (proper_sane d z.0 z.1)
      (subst (λ (y : Desc Graph). size y ≤ n) (sym s) (omega arith))) in
      ap (λ (x : Option (Desc Graph)). elim x [ none ↦ none | some d ↦ tidy J (suc (size d)) nil d ]) j
      ∙ tidies_passed J d (tidy J n nil d) o t h
