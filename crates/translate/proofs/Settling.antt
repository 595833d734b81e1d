-- The whole formula is settled.
-- Assumes nothing.
use Prim.Native.Nat.{ℕ, suc, ◌+◌, ◌-◌, ◌<◌, ◌≤◌}
use mathlib.Core.Path.{◌≡◌, refl, sym, ap, subst, ◌∙◌}
use Rattle.std.proofs.lemmas.Option.{same_Some}
use mathlib.Core.Logic.{⊎_elim}
use mathlib.Core.Option.{Option, none, some}
use mathlib.Core.List.{List, [], append-nil}
use Rattle.std.specs.Prelude.{Some, None, Err}
use Rattle.std.specs.Prelude as rust
use native.Mathlib.Omega.{arith}
use lib.ListN.{length}
use Rattle.theory.specs.Limits.{input_limit, depth_limit}
use Rattle.theory.specs.Descr.{Desc}
use Rattle.theory.specs.Layout.{words}
use Rattle.layout.proofs.Standing.{stands_nil}
use Rattle.formulas.specs.Formula.{Formula}
use Rattle.formulas.specs.Sheet.{blank_sheet, sheet, lay, laid_out}
use Rattle.formulas.specs.Flat.{flattened, wide_rows}
use Rattle.formulas.specs.Homes.{Home, home_desc, as_home, house}
use Rattle.formulas.specs.Tables.{tables, TablesFit}
use Rattle.formulas.specs.Describe.{describe}
use Rattle.formulas.proofs.Flat.{lay_wide}
use Rattle.formulas.proofs.Homes.{describe_house}
use Rattle.formulas.proofs.Order.{laid_sound}
use Rattle.rows.proofs.Placed.{laid_nests}
use Rattle.folding.specs.Buffer.{WordsEnd}
use Rattle.folding.specs.Homing.{Untouched}
use Rattle.folding.specs.Settled.{SettlingRoom, Settling, SettledBy, AlternativeSettles}
use Rattle.folding.specs.declared.settle.Settled.{Settled}
use Rattle.translate.specs.Stages.{HandsOver, OwnHomes, TreeTabled, DescribedTo}
use Rattle.translate.specs.Answer.{Answer}
use Rattle.translate.specs.declared.answer.Refusal.TheVariants.{Clash}

module _ (φ : Formula) (rs bs ts ks hm hm' : List ℕ) (c : TreeTabled φ rs bs ts ks (length hm)) (own : OwnHomes hm hm') where
  size : suc 0 + wide_rows (lay 1 0 [] φ) ≡ length hm'
  size =
      let wide = lay_wide 1 0 [] φ in
      let count = c.count in
      let same = own.same in
      omega (arith, wide, count, same)

  untouched : Untouched hm' 0 (suc 0 + wide_rows (lay 1 0 [] φ))
  untouched =
      let long = size in
      let same = own.same in
      record {
        own = λ j _ h. own.own j (omega (arith, long, same, h));
        apart = λ j l o. ⊎_elim (λ (x : j < 0). absurd (omega arith)) (λ (x : suc 0 + wide_rows (lay 1 0 [] φ) ≤ j). absurd
            (omega (arith, long, x, l))) o;
      }

  pub settling : Settling (tables rs bs ts ks) hm' 0 depth_limit
  settling =
      let long = size in
      record {
        L = flattened φ;
        O = blank_sheet;
        A = sheet 1 0 φ;
        ds = lay 1 0 [] φ;
        fit = subst (TablesFit (tables rs bs ts ks) (flattened φ)) (sym own.same) c.fit;
        lies = c.lies;
        sound = laid_sound φ;
        nests = laid_nests φ depth_limit c.flat;
        few = omega (arith, long);
        fresh = untouched;
      }

  pub settling_room : (b : List ℕ) → length b ≡ input_limit → SettlingRoom hm' ks b 0
  settling_room b l =
      let room = c.room in
      let few = c.few in
      let same = own.same in
      record { rows = omega (arith, room, same); few = omega (arith, few, same); words = l; fits = omega arith }

  module _ (b : List ℕ) (r : rust.Option Settled) (hm'' b' : List ℕ) (s : AlternativeSettles (tables rs bs ts ks) hm' b 0 0 depth_limit r hm'' b') where
    answered : SettledBy hm'' b b' 0 0 (suc 0 + wide_rows (lay 1 0 [] φ)) (house (flattened φ) 0 (laid_out φ)) r
    unfolding settling
    answered = s.answer settling

    -- a clash
    pub settled_clash : r ≡ None → (room : List ℕ) → DescribedTo (describe φ) room (Err Clash) room
    settled_clash e room =
        subst (λ (d : Option Desc). DescribedTo d room (Err Clash) room) (sym (describe_house φ))
        (go (house (flattened φ) 0 (laid_out φ)) answered)
      where
        go : (h : Option Home) → SettledBy hm'' b b' 0 0 (suc 0 + wide_rows (lay 1 0 [] φ)) h r →
            DescribedTo (as_home h) room (Err Clash) room
        go none q = (refl, refl)
        go (some x) (y, q, t) = let z : ◌≡◌ {A = ℕ} 0 1 = cc in absurd (omega arith)

    module _ (left : Settled) (e : r ≡ Some left) where
      -- the words end the buffer
      nothing_yet : WordsEnd b 0 []
      nothing_yet = record { many = omega arith; words = λ _. (stands_nil b (length b - 0) (length b)).1 (omega arith) }

      pub fine_few : left.whole ≤ suc (length b)
      fine_few = go (house (flattened φ) 0 (laid_out φ)) answered where
        go : (h : Option Home) → SettledBy hm'' b b' 0 0 (suc 0 + wide_rows (lay 1 0 [] φ)) h r → left.whole ≤ suc (length b)
        go none q = let z : ◌≡◌ {A = ℕ} 0 1 = cc in absurd (omega arith)
        go (some x) (y, q, t) = let same : y.whole ≡ left.whole = ap (λ (z : Settled). z.whole) (same_Some _ _ (sym q ∙ e)) in let most = t.most in omega (arith, same, most)

      pub settled_fine : (room : List ℕ) (a : Answer) (out : List ℕ) → HandsOver b' left.whole room a out → DescribedTo (describe φ) room a out
      settled_fine room a out hands =
          subst (λ (d : Option Desc). DescribedTo d room a out) (sym (describe_house φ))
          (go (house (flattened φ) 0 (laid_out φ)) answered)
        where
          go : (h : Option Home) → SettledBy hm'' b b' 0 0 (suc 0 + wide_rows (lay 1 0 [] φ)) h r → DescribedTo (as_home h) room a out
          go none q = let z : ◌≡◌ {A = ℕ} 0 1 = cc in absurd (omega arith)
          go (some x) (y, q, t) =
              let same : y.whole ≡ left.whole = ap (λ (z : Settled). z.whole) (same_Some _ _ (sym q ∙ e)) in
              hands (words (home_desc x)) (subst (λ (k : ℕ). WordsEnd b' k (words (home_desc x))) same
              (subst (WordsEnd b' y.whole) (append-nil (words (home_desc x))) (t.whole_is [] nothing_yet)))
