-- The program that joins and the classes of document 01 are one; and folding what `full` keeps never clashes, at any depth.
-- Assumes nothing.
use mathlib.Core.Path.{◌≡◌, refl, ap, sym, ◌∙◌}
use mathlib.Core.Bool.{Bool, true, false}
use mathlib.Core.Option.{Option, none, some}
use Prim.Native.Nat.{ℕ}
use native.Mathlib.Omega.{arith}
use Rattle.descriptions.specs.Descr.{Alts, Desc, Disjs, ◌and◌, ◌or◌, choices, desc, end, fail}
use Rattle.descriptions.specs.Modes.{fold, fold_all, folded_in, full, glue, joined, prune, some_agree}
use Rattle.descriptions.specs.Places.{Consistent, Pick, Pruned, picked}
use Rattle.descriptions.proofs.Mean.{Can, CanAll, CanAny}
use Rattle.descriptions.proofs.Live.{Live, LiveAll, LiveAny, fold_joins, some_agree_in}
use Rattle.descriptions.proofs.Places.{full_is_pruned, pick_in}
use Rattle.descriptions.proofs.Model.{agree_view}
use Rattle.descriptions.proofs.Full.{whole}
use Rattle.descriptions.specs.Joining.{Joining}
use Rattle.descriptions.proofs.Laws.{Laws}

module _ {Graph : Type 0} (J : Joining Graph) where
  open J use {join}

  -- folding joins its graphs, here and in every alternative
  abbrev mutual
    pub Folds : Desc Graph → Type 0
    Folds (desc g ds) = ((G : Graph) × (glue J g (fold_all J ds).folded ≡ some G) × (fold J (desc g ds) ≡ desc G (fold_all J ds).left))
        × FoldsAll ds

    pub FoldsAll : Disjs Graph → Type 0
    FoldsAll end = Unit {0}
    FoldsAll (a and ds) = FoldsAny a × FoldsAll ds

    pub FoldsAny : Alts Graph → Type 0
    FoldsAny fail = Unit {0}
    FoldsAny (d or a) = Folds d × FoldsAny a

  fold_is : (g : Graph) (ds : Disjs Graph) (G : Graph) → glue J g (fold_all J ds).folded ≡ some G →
      fold J (desc g ds) ≡ desc G (fold_all J ds).left
  unfolding fold folded_in
  fold_is g ds G e = ap (folded_in g (fold_all J ds)) e

  -- and a clash only where no choice is consistent
  pub full_clash : (a b j : Desc Graph) → joined J a b ≡ some j → full J a b ≡ none → (p : Pick j) → Consistent J j p → ⊥
  unfolding full
  full_clash a b j h f p s =
      let t : some_agree J (choices j) ≡ true =
      some_agree_in J (choices j) (picked j p) (pick_in j p) (agree_view J (picked j p) (join (picked j p)) refl s) in
      let k : full J a b ≡ some (fold J (prune J whole j)) =
      ap {B = Option (Desc Graph)} (λ
      (z : Option (Desc Graph)). elim z [
        | none ↦ none
        | some d ↦ elim (some_agree J (choices d)) [ true ↦ some (fold J (prune J whole d)) | false ↦ none ]
      ]) h
      ∙ ap {B = Option (Desc Graph)} (λ (z : Bool). elim z [ true ↦ some (fold J (prune J whole j)) | false ↦ none ]) t in
      let q : none ≡ some (fold J (prune J whole j)) = sym f ∙ k in
      let z : ◌≡◌ {A = ℕ} 0 1 = cc in omega arith

module _ {Graph : Type 0} {J : Joining Graph} (𝓛 : Laws J) where
  mutual
    pub live_folds : (d : Desc Graph) → Can 𝓛 d → Live J d → Folds J d
    live_folds (desc g ds) c l = let (G, e) = fold_joins 𝓛 g ds c l in ((G, e, fold_is J g ds G e), live_folds_all ds c.1 l.1)

    live_folds_all : (ds : Disjs Graph) → CanAll 𝓛 ds → LiveAll J ds → FoldsAll J ds
    live_folds_all end c l = tt
    live_folds_all (a and ds) c l = (live_folds_any a c.0 l.0, live_folds_all ds c.1 l.1)

    live_folds_any : (a : Alts Graph) → CanAny 𝓛 a → LiveAny J a → FoldsAny J a
    live_folds_any fail c l = tt
    live_folds_any (d or a) c l = (live_folds d c.0 l.0, live_folds_any a c.1 l.1)

  -- mode 2: drop what stands in no consistent choice, then fold, which joins at every depth
  pub full_folds : (a b j r : Desc Graph) → Can 𝓛 j → joined J a b ≡ some j → full J a b ≡ some r →
      (e : Desc Graph) × Pruned J j e × Folds J e × (r ≡ fold J e)
  full_folds a b j r c h f = let (e, p, q, l, k) = full_is_pruned 𝓛 a b j r c h f in (e, p, live_folds e q l, k)
