-- The whole of some words is read as a description exactly when they are the image of a well-formed one, and what an answer of the
-- reader says of them.
-- Assumes nothing.
use Prim.Native.Nat.{ℕ}
use native.Mathlib.Omega.{arith}
use mathlib.Core.Path.{◌≡◌, refl, sym, ap, ◌∙◌}
use mathlib.Core.Logic.{◌↔◌}
use mathlib.Core.Option.{Option, none, some}
use mathlib.Core.List.{List}
use lib.ListN.{length}
use Rattle.theory.specs.Limits.{depth_limit}
use Rattle.theory.specs.Descr.{Desc}
use Rattle.theory.specs.Layout.{words, WellFormed}
use Rattle.theory.specs.LayoutOne.{Image}
use Rattle.theory.specs.Reading.{decode}
use Rattle.theory.proofs.Decode.{Decoded, is, decoded, decode_iff, one_image}
use Rattle.std.proofs.lemmas.Bool.{eqb-true, eqb-false}
use Rattle.std.proofs.lemmas.Option.{none-some, same_Some}
use Rattle.std.specs.Prelude.{Bool, true, false, eqb, Some, None}
use Rattle.layout.specs.Reading.{readDescription}
use Rattle.layout.specs.Judged.{Judged}
use Rattle.layout.proofs.Standing.{stands_whole}
use Rattle.layout.proofs.Sound.{sound}
use Rattle.layout.proofs.Complete.{complete}

module _ (ws : List ℕ) where
  pub read_iff : (readDescription depth_limit ws 0 ≡ Some (length ws)) ↔ Image ws
  read_iff = (
    λ e. let d = sound ws depth_limit 0 (length ws) e in (d.0, d.1, (stands_whole ws (words d.0)).1 d.2),
    λ i. complete ws i.0 depth_limit 0 (length ws) i.1 ((stands_whole ws (words i.0)).0 i.2),
  )

  judged_accepted : Some (length ws) ≡ readDescription depth_limit ws 0 → Judged ws true
  judged_accepted e = record { sound = λ _. read_iff.0 (sym e); complete = λ _. refl }

  refused : ¬ (Image ws) → Judged ws false
  refused n = record { sound = λ e. absurd (cc); complete = λ i. absurd (n i) }

  pub judged_wrong : None ≡ readDescription depth_limit ws 0 → Judged ws false
  judged_wrong e = refused (λ i. none-some _ (e ∙ read_iff.1 i))

  judged_short : (q : ℕ) → Some q ≡ readDescription depth_limit ws 0 → (q ≡ length ws → ⊥) → Judged ws false
  judged_short q e h = refused (λ i. h (same_Some _ _ (e ∙ read_iff.1 i)))

  -- what is read up to here is a description exactly when nothing is left over
  pub judged_end : (q : ℕ) → Some q ≡ readDescription depth_limit ws 0 → Judged ws (eqb q (length ws))
  judged_end q e = go (eqb q (length ws)) refl
    where
      go : (b : Bool) → eqb q (length ws) ≡ b → Judged ws b
      go true h = judged_accepted (ap Some (sym (eqb-true q (length ws) h)) ∙ e)
      go false h = judged_short q e (eqb-false q (length ws) h)

  image_decodes : Image ws ↔ ((d : Desc) × (decode ws ≡ some d))
  image_decodes = (λ i. (i.0, (decode_iff ws i.0).1 (i.1, i.2)), λ d. let p = (decode_iff ws d.0).0 d.1 in (d.0, p.0, p.1))

  module _ (r : Bool) (j : Judged ws r) where
    pub accepted_decodes : (r ≡ true) ↔ ((d : Desc) × (decode ws ≡ some d))
    accepted_decodes = (λ e. image_decodes.0 (j.sound e), λ d. j.complete (image_decodes.1 d))

    pub refused_decodes : (¬ (r ≡ true)) ↔ (decode ws ≡ none)
    refused_decodes = (
      λ n. go (decode ws) (decoded ws) n,
      λ e a. let d = accepted_decodes.0 a in let h = d.1 in
          let z : ◌≡◌ {A = ℕ} 0 1 = cc in omega arith,
    )
      where
        go : (o : Option Desc) → Decoded ws o → ¬ (r ≡ true) → o ≡ none
        go none m n = refl
        go (some d) (is b w s) n = absurd (n (j.complete (b, w, s)))

    -- accepted words are the image of exactly one description
    pub accepted_one : r ≡ true →
        (d : Desc) × WellFormed d depth_limit × (ws ≡ words d) × ((e : Desc) → WellFormed e depth_limit → ws ≡ words e → e ≡ d)
    accepted_one a = let i = j.sound a in (i.0, i.1, i.2, λ e w s. one_image e i.0 w i.1 (sym s ∙ i.2))

-- an answer that does not accept is the one for malformed words
pub malformed_answer : (r : Bool) → ¬ (r ≡ true) → r ≡ false
malformed_answer true n = absurd (n refl)
malformed_answer false n = refl

-- the contract allows one answer
pub one_answer : (ws : List ℕ) (r s : Bool) → Judged ws r → Judged ws s → r ≡ s
one_answer ws true s j k = sym (k.complete (j.sound refl))
one_answer ws false s j k = sym (malformed_answer s (λ e. let z = j.complete (k.sound e) in cc))
