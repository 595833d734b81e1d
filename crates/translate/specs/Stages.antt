-- What stands between the text of a formula and its words: signs, marked signs, tables.
-- Assumes nothing: these are definitions.
use Rattle.std.specs.Prelude.{Ok, Err, ℕ, suc, ◌*◌, ◌<◌, ◌≤◌, ◌≡◌, ◌⊎◌, Bool, List, ◌++◌, length, get_or, take, drop}
use Rattle.std.proofs.Math.Option.{Option, none, some}
use Rattle.theory.specs.Limits.{input_limit, depth_limit}
use Rattle.theory.specs.Descr.{Desc}
use Rattle.theory.specs.Layout.{words}
use Rattle.formulas.specs.Formula.{Formula, depth}
use Rattle.formulas.specs.Sheet.{blank_sheet, laid_out}
use Rattle.formulas.specs.Flat.{width, flattened}
use Rattle.formulas.specs.Tables.{tables, Lies, TablesFit}
use Rattle.formulas.specs.Describe.{describe}
use Rattle.signs.specs.Limits.{formula_limit}
use Rattle.signs.specs.Signs.{Sign, Spelt, sign_words}
use Rattle.signs.specs.Grammar.{Whole}
use Rattle.rows.specs.Tokens.{token_words, tokens, top_flag, flagging, unmarked}
use Rattle.rows.specs.Flagged.{word_of}
use Rattle.rows.specs.Memory.{Memory, TablesHold, ListedFrom}
use Rattle.rows.specs.Held.{Held}
use Rattle.rows.specs.Given.{given}
use Rattle.rows.specs.Laid.{spot_unit}
use Rattle.folding.specs.Buffer.{WordsEnd}
use Rattle.translate.specs.Answer.{Answer}
use Rattle.translate.specs.declared.answer.Refusal.TheVariants.{BadText, TooDeep, Clash, TooLong, NoRoom, LongText}

-- ---- words
-- "23 over 1,024 words, 24 result longer than the result area"
abbrev pub HandedTo : (ws room : List ℕ) → Answer → List ℕ → Type 0
HandedTo ws room (Err TooLong) out = (input_limit < length ws) × (out ≡ room)
HandedTo ws room (Err (NoRoom n)) out = (length ws ≤ input_limit) × (n ≡ length ws) × (length room < n) × (out ≡ room)
HandedTo ws room (Ok n) out = (length ws ≤ input_limit) × (n ≡ length ws) × (n ≤ length room) × (out ≡ ws ++ drop n room)
HandedTo ws room (Err LongText) out = ⊥
HandedTo ws room (Err (BadText i)) out = ⊥
HandedTo ws room (Err TooDeep) out = ⊥
HandedTo ws room (Err Clash) out = ⊥

abbrev pub HandsOver : (b : List ℕ) (len : ℕ) (room : List ℕ) → Answer → List ℕ → Type 0
HandsOver b len room r out = (ws : List ℕ) → WordsEnd b len ws → HandedTo ws room r out

-- ---- tables
-- each alternative has its own number
pub record OwnHomes (hm hm' : List ℕ) : Type 0 where
  pub same : length hm' ≡ length hm
  pub own : (j : ℕ) → j < length hm → get_or hm' j 0 ≡ j

-- a formula lies in these tables
pub record TreeTabled (tree : Formula) (rs bs ts ks : List ℕ) (k : ℕ) : Type 0 where
  pub fit : TablesFit (tables rs bs ts ks) (flattened tree) k
  pub lies : Lies (tables rs bs ts ks) (flattened tree) 0 blank_sheet (laid_out tree)
  pub flat : depth tree ≤ depth_limit
  pub count : k ≡ suc (width tree)
  pub few : k ≤ spot_unit
  pub room : 4 * k ≤ length ks

-- it lies in the first rows of these tables: so many arcs, atoms, ties and alternatives, the whole among them
pub record TreeLaid (tree : Formula) (rs bs ts ks : List ℕ) (a b t k : ℕ) : Type 0 where
  pub text : List ℕ
  pub signs : List Sign
  pub short : length text ≤ formula_limit
  pub spelt : Spelt signs text
  pub formula : Whole signs tree
  pub flat : depth tree ≤ depth_limit
  pub frames : List ℕ
  pub memory : Memory
  pub holds : TablesHold rs bs ts ks frames memory
  pub held : Held memory (given 1 1 0 0 0 tree) k
  pub arcs : a ≡ length (given 1 1 0 0 0 tree).arcs
  pub atoms : b ≡ length (given 1 1 0 0 0 tree).bears
  pub ties : t ≡ length (given 1 1 0 0 0 tree).shares
  pub alts : k ≡ suc (length (given 1 1 0 0 0 tree).alts)
  pub few : k ≤ spot_unit
  pub arc_room : 2 * a ≤ length rs
  pub atom_room : 2 * b ≤ length bs
  pub tie_room : 2 * t ≤ length ts
  pub alt_room : 4 * k ≤ length ks

-- "22 formula is a clash", or its description is handed over
abbrev pub DescribedTo : Option Desc → (room : List ℕ) → Answer → List ℕ → Type 0
DescribedTo none room r out = (r ≡ Err Clash) × (out ≡ room)
DescribedTo (some d) room r out = HandedTo (words d) room r out

abbrev pub TreeSettled : (rs bs ts ks : List ℕ) (k : ℕ) (room : List ℕ) → Answer → List ℕ → Type 0
TreeSettled rs bs ts ks k room r out = (φ : Formula) → TreeTabled φ rs bs ts ks k → DescribedTo (describe φ) room r out

abbrev pub LaidSettled : (rs bs ts ks : List ℕ) (a b t k : ℕ) (room : List ℕ) → Answer → List ℕ → Type 0
LaidSettled rs bs ts ks a b t k room r out = (φ : Formula) → TreeLaid φ rs bs ts ks a b t k → DescribedTo (describe φ) room r out

-- ---- signs
-- "21 over 4 disjunctions nested in the text", or the formula is settled
abbrev pub TreeTold : Formula → (room : List ℕ) → Answer → List ℕ → Type 0
TreeTold φ room r out =
    ((depth_limit < depth φ) × (r ≡ Err TooDeep) × (out ≡ room)) ⊎ ((depth φ ≤ depth_limit) × DescribedTo (describe φ) room r out)

-- the first n words are the signs of a formula's text
pub record TreeRead (tree : Formula) (w : List ℕ) (n : ℕ) : Type 0 where
  pub text : List ℕ
  pub signs : List Sign
  pub short : length text ≤ formula_limit
  pub spelt : Spelt signs text
  pub formula : Whole signs tree
  pub count : n ≡ length signs
  pub few : n ≤ length text
  pub long : n ≤ length w
  pub written : take n w ≡ sign_words signs

-- and each `(` of a group that has alternatives is marked
pub record TreeMarked (tree : Formula) (w : List ℕ) (n : ℕ) (flagged : Bool) : Type 0 where
  pub text : List ℕ
  pub signs : List Sign
  pub short : length text ≤ formula_limit
  pub spelt : Spelt signs text
  pub formula : Whole signs tree
  pub count : n ≡ length signs
  pub few : n ≤ length text
  pub long : n ≤ length w
  pub written : ListedFrom (word_of w) 0 (token_words (flagging (tokens signs) unmarked).done)
  pub whole : flagged ≡ top_flag (flagging (tokens signs) unmarked).flags
