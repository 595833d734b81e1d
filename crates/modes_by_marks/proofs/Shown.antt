-- Folding what is left gives the form that a writer puts out.
-- Assumes nothing.
use mathlib.Core.Path.{◌≡◌, refl, ap, ap₂, sym, ◌∙◌}
use mathlib.Core.Option.{Option, none, some}
use Rattle.descriptions.specs.Descr.{Alts, Desc, Disjs, ◌and◌, ◌or◌, ◌then◌, desc, end, fail}
use Rattle.descriptions.specs.Modes.{Round, fold, fold_all, fold_any, in_place}
use Rattle.descriptions.proofs.Mean.{Can, CanAll, CanAny}
use Rattle.modes_by_marks.specs.Shown.{or_else, shown, shown_all, shown_any, shown_in, shown_then}
use Rattle.modes_by_marks.proofs.Sane.{lone_in_place, rest, shape}
use Rattle.modes_by_marks.specs.Sane.{Sane, SaneAll, SaneAny}
use Rattle.descriptions.proofs.Laws.{Laws}
use Rattle.descriptions.specs.Joining.{Joining}

module _ {Graph : Type 0} (J : Joining Graph) where
  -- what a step leaves, folded; or its clash
  abbrev pub fold_some : Option (Desc Graph) → Option (Desc Graph)
  fold_some none = none
  fold_some (some e) = some (fold J e)

  -- what a step leaves, as a writer puts it out; or its clash
  abbrev pub shown_some : Option (Desc Graph) → Option (Desc Graph)
  shown_some none = none
  shown_some (some e) = some (shown J e)

module _ {Graph : Type 0} {J : Joining Graph} (𝓛 : Laws J) where
  mutual
    unfolding shown fold

    pub shown_ok : (d : Desc Graph) → Can 𝓛 d → Sane J d → fold J d ≡ shown J d
    shown_ok (desc g ds) c s = let (k, e, q) = shape 𝓛 (desc g ds) c s in q
        ∙ ap₂ {C = Desc Graph} desc (ap (or_else g) (sym e)) (shown_all_ok ds c.1 s.1)

    pub shown_all_ok : (ds : Disjs Graph) → CanAll 𝓛 ds → SaneAll J ds → (fold_all J ds).left ≡ shown_all J ds
    shown_all_ok end c s = refl
    shown_all_ok (a and ds) c s = shown_then_ok a c.0 s.0 (fold_all J ds) ∙ ap (shown_then J a) (shown_all_ok ds c.1 s.1)

    shown_then_ok : (a : Alts Graph) → CanAny 𝓛 a → SaneAny J a → (r : Round Graph) →
        (in_place J (fold_any J a) r).left ≡ shown_then J a r.left
    shown_then_ok fail c s r = refl
    shown_then_ok (d or a) c s r =
        go a c.0 s.0 (shown_in_ok d c.0 s.0) (shown_ok d c.0 s.0) (shown_any_ok a c.1 s.1)
      where
        go : (a : Alts Graph) → Can 𝓛 d → Sane J d → rest J d ≡ shown_in J d → fold J d ≡ shown J d → fold_any J a ≡ shown_any J a →
            (in_place J (fold J d or fold_any J a) r).left ≡ shown_then J (d or a) r.left
        go fail c s i e f = let (k, z, q) = shape 𝓛 d c s in ap (λ (y : Round Graph). y.left) (lone_in_place J d r k q)
            ∙ ap (λ (y : Disjs Graph). y then r.left) i
        go (x or b) c s i e f = ap₂ {C = Disjs Graph} (λ (y : Desc Graph) (z : Alts Graph). (y or z) and r.left) e f

    shown_in_ok : (d : Desc Graph) → Can 𝓛 d → Sane J d → rest J d ≡ shown_in J d
    shown_in_ok (desc g ds) c s = shown_all_ok ds c.1 s.1

    shown_any_ok : (a : Alts Graph) → CanAny 𝓛 a → SaneAny J a → fold_any J a ≡ shown_any J a
    shown_any_ok fail c s = refl
    shown_any_ok (d or a) c s = ap₂ {C = Alts Graph} ◌or◌ (shown_ok d c.0 s.0) (shown_any_ok a c.1 s.1)
