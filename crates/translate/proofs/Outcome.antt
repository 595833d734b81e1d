-- One outcome for each text and room.
-- Assumes nothing.
use Prim.Native.Nat.{ℕ, ◌<◌, ◌≤◌}
use Rattle.std.specs.Prelude.{Ok, Err}
use native.Mathlib.Omega.{arith}
use mathlib.Core.Path.{◌≡◌, refl, sym, ap, ◌∙◌}
use mathlib.Core.Bool.{Bool, true, false}
use mathlib.Core.Option.{Option, none, some}
use mathlib.Core.List.{List, ◌++◌}
use lib.ListN.{length, drop}
use lib.Dec.{ltb}
use Rattle.descriptions.proofs.Tests.{Tells, holds, fails, tells_lt}
use Rattle.theory.specs.Limits.{input_limit, depth_limit}
use Rattle.theory.specs.Descr.{Desc}
use Rattle.theory.specs.Layout.{words}
use Rattle.formulas.specs.Formula.{Formula, depth}
use Rattle.formulas.specs.Describe.{describe}
use Rattle.signs.specs.Limits.{formula_limit}
use Rattle.signs.specs.Grammar.{Reads, BadAt}
use Rattle.signs.proofs.Answers.{bad-once}
use Rattle.signs.proofs.Once.{one_reading}
use Rattle.translate.specs.Translated.{Translated, Shallow, Described}
use Rattle.translate.specs.Answer.{Answer}
use Rattle.translate.specs.declared.answer.Refusal.TheVariants.{BadText, TooDeep, Clash, TooLong, NoRoom, LongText}

-- an answer, and what the result area holds then
abbrev End : Type 0
End = Answer × List ℕ

abbrev in_room : List ℕ → Desc → Bool → End
in_room room d true = (Err (NoRoom (length (words d))), room)
in_room room d false = (Ok (length (words d)), words d ++ drop (length (words d)) room)

abbrev in_limit : List ℕ → Desc → Bool → End
in_limit room d true = (Err TooLong, room)
in_limit room d false = in_room room d (ltb (length room) (length (words d)))

abbrev described : List ℕ → Option Desc → End
described room none = (Err Clash, room)
described room (some d) = in_limit room d (ltb input_limit (length (words d)))

abbrev nested : List ℕ → Formula → Bool → End
nested room φ true = (Err TooDeep, room)
nested room φ false = described room (describe φ)

-- what comes of a formula
abbrev ending : List ℕ → Formula → End
ending room φ = nested room φ (ltb depth_limit (depth φ))

less : (a b : ℕ) → a < b → ltb a b ≡ true
less a b h = go (ltb a b) (tells_lt a b)
  where
    go : (t : Bool) → Tells (a < b) t → t ≡ true
    go true (holds p) = refl
    go false (fails n) = absurd (n h)

not_less : (a b : ℕ) → b ≤ a → ltb a b ≡ false
not_less a b h = go (ltb a b) (tells_lt a b)
  where
    go : (t : Bool) → Tells (a < b) t → t ≡ false
    go true (holds p) = absurd (omega arith)
    go false (fails n) = refl

module _ (t room : List ℕ) where
  -- the three kinds of texts
  data Way (x : End) : Type 0 where
    long : formula_limit < length t → x ≡ (Err LongText, room) → Way x
    bad : length t ≤ formula_limit → (i : ℕ) → BadAt t i → x ≡ (Err (BadText i), room) → Way x
    read : length t ≤ formula_limit → (φ : Formula) → Reads t φ → x ≡ ending room φ → Way x

  shallow_is : (φ : Formula) → Shallow t φ → ending room φ ≡ described room (describe φ)
  shallow_is φ s = ap (nested room φ) (not_less depth_limit (depth φ) s.flat)

  described_is : (φ : Formula) (d : Desc) → Described t φ d → ending room φ ≡ described room (some d)
  described_is φ d c = shallow_is φ c.shallow ∙ ap (described room) c.is

  fits_is : (φ : Formula) (d : Desc) → Described t φ d → length (words d) ≤ input_limit →
      ending room φ ≡ in_room room d (ltb (length room) (length (words d)))
  fits_is φ d c h = described_is φ d c ∙ ap (in_limit room d) (not_less input_limit (length (words d)) h)

  way : (r : Answer) (out : List ℕ) → Translated t room r out → Way (r, out)
  way (Err LongText) out (h, e) = long h (ap (λ (z : List ℕ). (Err LongText, z)) e)
  way (Err (BadText i)) out (h, b, e) = bad h i b (ap (λ (z : List ℕ). (Err (BadText i), z)) e)
  way (Err TooDeep) out (h, (φ, s, l), e) =
      read h φ s (ap (λ (z : List ℕ). (Err TooDeep, z)) e ∙ ap (nested room φ) (sym (less depth_limit (depth φ) l)))
  way (Err Clash) out ((φ, s, c), e) =
      read s.short φ s.reads (ap (λ (z : List ℕ). (Err Clash, z)) e ∙ ap (described room) (sym c) ∙ sym (shallow_is φ s))
  way (Err TooLong) out ((φ, d, c, l), e) =
      let s = c.shallow in
      read s.short φ s.reads (ap (λ (z : List ℕ). (Err TooLong, z)) e
      ∙ ap (in_limit room d) (sym (less input_limit (length (words d)) l)) ∙ sym (described_is φ d c))
  way (Err (NoRoom n)) out ((φ, d, c, h, i, l), e) =
      let s = c.shallow in
      read s.short φ s.reads (ap (λ (z : List ℕ). (Err (NoRoom n), z)) e ∙ ap (λ (m : ℕ). (Err (NoRoom m), room)) i
      ∙ ap (in_room room d) (sym (less (length room) (length (words d)) (omega arith))) ∙ sym (fits_is φ d c h))
  way (Ok n) out (φ, d, c, h, i, l, e) =
      let s = c.shallow in
      read s.short φ s.reads (ap (λ (z : List ℕ). (Ok n, z)) e
      ∙ ap (λ (m : ℕ). (Ok m, words d ++ drop m room)) i
      ∙ ap (in_room room d) (sym (not_less (length room) (length (words d)) (omega arith))) ∙ sym (fits_is φ d c h))

  one_way : (x y : End) → Way x → Way y → x ≡ y
  one_way x y (long h e) (long k f) = e ∙ sym f
  one_way x y (long h e) (bad k i b f) = absurd (omega arith)
  one_way x y (long h e) (read k φ s f) = absurd (omega arith)
  one_way x y (bad h i b e) (long k f) = absurd (omega arith)
  one_way x y (bad h i b e) (bad k j c f) = e ∙ ap (λ (z : ℕ). (Err (BadText z), room)) (bad-once t i j b c) ∙ sym f
  one_way x y (bad h i b e) (read k φ s f) = absurd (b.unread φ s)
  one_way x y (read h φ s e) (long k f) = absurd (omega arith)
  one_way x y (read h φ s e) (bad k i b f) = absurd (b.unread φ s)
  one_way x y (read h φ s e) (read k ψ q f) = e ∙ ap (ending room) (one_reading t φ ψ s q) ∙ sym f

  pub one_translation : (r q : Answer) (out after : List ℕ) → Translated t room r out → Translated t room q after →
      (r ≡ q) × (out ≡ after)
  one_translation r q out after a b =
      let e = one_way (r, out) (q, after) (way r out a) (way q after b) in
      (ap (λ (x : End). x.0) e, ap (λ (x : End). x.1) e)
