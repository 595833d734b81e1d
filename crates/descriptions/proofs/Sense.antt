-- The three modes: what satisfies the result, and its readings.
-- Assumes nothing.
use mathlib.Core.Path.{◌≡◌, refl, ap, sym, ◌∙◌, subst}
use mathlib.Core.Logic.{◌↔◌}
use mathlib.Core.Bool.{Bool, true, false}
use mathlib.Core.Option.{Option, none, some}
use mathlib.Core.List.Memᴰ
use mathlib.Core.List.{[], ◌∷◌, Memᴰ}
use native.Mathlib.Omega.{arith}
use Prim.Native.Nat.{ℕ, suc}
use lib.ListN.{length}
use Rattle.descriptions.specs.Descr.{Desc, Disjs, ◌and◌, ◌then◌, choices, desc, end, readings}
use Rattle.descriptions.specs.Modes.{fold, full, joined, prune, quick, size, some_agree, tidy}
use Rattle.descriptions.proofs.Mean.{Can, Tidied, can_then, tidy_ok}
use Rattle.descriptions.proofs.Quick.{all_none, meanings, readings_count, tidy_fails, tidy_means}
use Rattle.descriptions.proofs.Full.{SomeAgree, agrees, fold_ok, full_means, none_agrees, prune_can, some_agree_view, whole}
use Rattle.descriptions.specs.Satisfaction.{Sat, SatEach}
use Rattle.descriptions.proofs.Satisfy.{same_meaning, sat_meaning}
use Rattle.descriptions.specs.Structures.{Structures}
use Rattle.descriptions.proofs.Senses.{Sense}
use Rattle.descriptions.specs.Joining.{Joining}
use Rattle.descriptions.proofs.Laws.{Laws}

module _ {Graph : Type 0} {J : Joining Graph} (𝓛 : Laws J) where
  open J use {nil}

  -- the readings of mode 1's result are those of the joined description
  pub quick_readings : (n : ℕ) (d e : Desc Graph) → Can 𝓛 d → tidy J n nil d ≡ some e → readings J e ≡ readings J d
  quick_readings n d e c h = readings_count J e ∙ ap length (sym (tidy_means 𝓛 n d e c h)) ∙ sym (readings_count J d)

module _ {Graph : Type 0} {J : Joining Graph} {𝓛 : Laws J} {𝓜 : Structures Graph} (𝓢 : Sense 𝓛 𝓜) where
  open J use {join, nil}
  open 𝓛 use {nil_canonical}
  open 𝓜 use {Structure}

  module _ (S : Structure) where
    then_sat : (ds es : Disjs Graph) → SatEach 𝓜 S (ds then es) → SatEach 𝓜 S ds × SatEach 𝓜 S es
    then_sat end es p = (tt, p)
    then_sat (a and ds) es p = let (x, y) = then_sat ds es p.1 in ((p.0, x), y)

    sat_then : (ds es : Disjs Graph) → SatEach 𝓜 S ds → SatEach 𝓜 S es → SatEach 𝓜 S (ds then es)
    sat_then end es p q = q
    sat_then (a and ds) es p q = (p.0, sat_then ds es p.1 q)

    -- mode 0
    abbrev pub Both : Desc Graph → Desc Graph → Option (Desc Graph) → Type 0
    Both a b none = Sat 𝓜 S a → Sat 𝓜 S b → ⊥
    Both a b (some d) = Can 𝓛 d × (Sat 𝓜 S d ↔ (Sat 𝓜 S a × Sat 𝓜 S b))

    pub joined_sat : (a b : Desc Graph) → Can 𝓛 a → Can 𝓛 b → Both a b (joined J a b)
    unfolding joined
    joined_sat (desc g ds) (desc h es) p q = go (join (g ∷ h ∷ [])) refl
      where
        go : (o : Option Graph) → join (g ∷ h ∷ []) ≡ o →
            Both (desc g ds) (desc h es) (elim o [ none ↦ none | some k ↦ some (desc k (ds then es)) ])
        go none e = λ s t. 𝓢.clash_unsatisfied (g ∷ h ∷ []) (omega arith) (p.0, (q.0, tt)) e S (s.0, (t.0, tt))
        go (some k) e =
            let i = 𝓢.joined_satisfied (g ∷ h ∷ []) (omega arith) (p.0, (q.0, tt)) k e S in (
              (𝓛.fits (g ∷ h ∷ []) (omega arith) (p.0, (q.0, tt)) k e, can_then 𝓛 ds es p.1 q.1),
              (
                λ s. let u = i.0 s.0 in let v = then_sat ds es s.1 in
                    ((u.0, v.0), (u.1.0, v.1)),
                λ (s, t). (i.1 (s.0, (t.0, tt)), sat_then ds es s.1 t.1),
              ),
            )

    no_meaning : (d : Desc Graph) → Can 𝓛 d → meanings J d ≡ [] → Sat 𝓜 S d → ⊥
    no_meaning d c e s = let (G, m, u) = (sat_meaning 𝓢 S d c).0 s in Memᴰ.not-nil (subst (Memᴰ G) e m)

    -- mode 1
    tidy_sat : (n : ℕ) (a b d : Desc Graph) → Can 𝓛 d → (Sat 𝓜 S d ↔ (Sat 𝓜 S a × Sat 𝓜 S b)) → Both a b (tidy J n nil d)
    tidy_sat n a b d c i = go (tidy J n nil d) refl (tidy_ok 𝓛 n nil nil_canonical d c)
      where
        go : (o : Option (Desc Graph)) → tidy J n nil d ≡ o → Tidied 𝓛 nil d o → Both a b o
        go none e t = λ s u. no_meaning d c (tidy_fails 𝓛 n d c e) (i.1 (s, u))
        go (some f) e t = let m : meanings J d ≡ meanings J f = tidy_means 𝓛 n d f c e in
            (t.0, (λ s. i.0 (same_meaning 𝓢 S f d t.0 c (sym m) s), λ s. same_meaning 𝓢 S d f c t.0 m (i.1 s)))

    pub quick_sat : (a b : Desc Graph) → Can 𝓛 a → Can 𝓛 b → Both a b (quick J a b)
    unfolding quick
    quick_sat a b p q = go (joined J a b) (joined_sat a b p q)
      where
        go : (o : Option (Desc Graph)) → Both a b o → Both a b (elim o [ none ↦ none | some d ↦ tidy J (suc (size d)) nil d ])
        go none s = s
        go (some d) s = tidy_sat (suc (size d)) a b d s.0 s.1

    -- mode 2
    pub full_sat : (a b : Desc Graph) → Can 𝓛 a → Can 𝓛 b → Both a b (full J a b)
    unfolding full
    full_sat a b p q = go (joined J a b) (joined_sat a b p q)
      where
        two : (d : Desc Graph) → Can 𝓛 d → (Sat 𝓜 S d ↔ (Sat 𝓜 S a × Sat 𝓜 S b)) → (t : Bool) → SomeAgree J (choices d) t →
            Both a b (elim t [ true ↦ some (fold J (prune J whole d)) | false ↦ none ])
        two d c i true agrees =
            let f = fold_ok 𝓛 (prune J whole d) (prune_can 𝓛 d c whole) in
            let m : meanings J (fold J (prune J whole d)) ≡ meanings J d = full_means 𝓛 d c in (
              f.0,
              (
                λ s. i.0 (same_meaning 𝓢 S (fold J (prune J whole d)) d f.0 c m s),
                λ s. same_meaning 𝓢 S d (fold J (prune J whole d)) c f.0 (sym m) (i.1 s),
              ),
            )
        two d c i false (none_agrees n) = λ s u. no_meaning d c (all_none J d n) (i.1 (s, u))

        go : (o : Option (Desc Graph)) → Both a b o →
            Both a b (elim o [
              | none ↦ none
              | some d ↦ elim (some_agree J (choices d)) [ true ↦ some (fold J (prune J whole d)) | false ↦ none ]
            ])
        go none s = s
        go (some d) s = two d s.0 s.1 (some_agree J (choices d)) (some_agree_view J (choices d))
