-- What an answer says of structures: the words of 0 are those of a well-formed description that exactly the formula's structures
-- satisfy, and none satisfies a formula that is a clash.
-- Assumes nothing.
use Prim.Native.Nat.{ℕ}
use Rattle.std.specs.Prelude.{Ok, Err}
use native.Mathlib.Omega.{arith}
use mathlib.Core.Path.{◌≡◌, sym}
use mathlib.Core.Logic.{◌↔◌}
use mathlib.Core.List.{List}
use lib.ListN.{take, drop}
use lib.Seq.{take_at}
use Rattle.theory.specs.Limits.{depth_limit}
use Rattle.theory.specs.Structure.{Structure}
use Rattle.theory.specs.Satisfaction.{Sat}
use Rattle.theory.specs.Descr.{Desc}
use Rattle.theory.specs.Layout.{words, WellFormed}
use Rattle.formulas.specs.Formula.{Formula, Satisfied, FormulaFits}
use Rattle.formulas.proofs.Settled.{describe_means, describe_clash}
use Rattle.formulas.proofs.Well.{describe_well}
use Rattle.signs.specs.Grammar.{Reads}
use Rattle.rows.proofs.Fits.{whole_fits}
use Rattle.translate.specs.Translated.{Translated}
use Rattle.translate.specs.declared.answer.Refusal.TheVariants.{Clash}

-- the numbers of a text are small, and so are those of its formula
reads_fits : (t : List ℕ) (φ : Formula) → Reads t φ → FormulaFits φ
reads_fits t φ r = whole_fits r.spelt r.formula

-- the first n words of the result are those of a description of the formula φ
pub record Faithful (t out : List ℕ) (n : ℕ) (φ : Formula) (d : Desc) : Type 1 where
  pub reads : Reads t φ
  pub result : take n out ≡ words d
  pub well : WellFormed d depth_limit
  pub means : (S : Structure) → Sat S d ↔ Satisfied S φ

pub done_means : (t room out : List ℕ) (n : ℕ) → Translated t room (Ok n) out → (φ : Formula) × (d : Desc) × Faithful t out n φ d
done_means t room out n (φ, d, c, h, i, l, e) =
    let s = c.shallow in (
      φ,
      d,
      record {
        reads = s.reads;
        result = rw e (take_at (words d) (drop n room) n (sym i));
        well = describe_well φ d depth_limit (reads_fits t φ s.reads) s.flat c.is (omega arith);
        means = describe_means φ d c.is;
      },
    )

pub clash_means : (t room out : List ℕ) → Translated t room (Err Clash) out → (φ : Formula) × Reads t φ × ((S : Structure) → Satisfied S φ → ⊥)
clash_means t room out ((φ, s, c), e) = (φ, s.reads, describe_clash φ c)
