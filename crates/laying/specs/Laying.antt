-- What laying out a formula's signs asks and promises, sign by sign and over all of them.
-- Assumes nothing: these are definitions.
use Rattle.std.specs.Prelude.{ℕ, suc, ◌*◌, ◌<◌, ◌≤◌, ◌≡◌, Bool, true, false, List, [], ◌∷◌, length, Option, Some, None}
use Rattle.theory.specs.Limits.{depth_limit}
use Rattle.signs.specs.Limits.{kind_unit}
use Rattle.signs.specs.Machine.{if_so}
use Rattle.rows.specs.Tokens.{Token, token_words, AllSmall}
use Rattle.rows.specs.Flagged.{word_of}
use Rattle.rows.specs.Machine.{Out, ◌then◌, ShallowAlts, OpenFrame, Core, Pen, sign_gives, sign_moves, sign_turns, emit}
use Rattle.rows.specs.Machine.{first_given, first_core, first_pen}
use Rattle.rows.specs.Memory.{row_limit, Memory, TablesHold, ListedFrom}
use Rattle.rows.specs.Laid.{spot_unit}
use Rattle.rows.specs.Held.{Held}
use Rattle.rows.specs.Standing.{Standing}
use Rattle.laying.specs.Table.{FourPut, AlternativePut}
use Rattle.laying.specs.declared.sign.At.{At}
use Rattle.laying.specs.declared.laying.Rows.{Rows}

-- the tables, and what stands open
pub record Tabs : Type 0 where
  pub arcs : List ℕ
  pub atoms : List ℕ
  pub ties : List ℕ
  pub alts : List ℕ
  pub frames : List ℕ

abbrev pub Hold : Tabs → Memory → Type 0
Hold T M = TablesHold T.arcs T.atoms T.ties T.alts T.frames M

-- there is room for what a text can give
pub record Roomy (T : Tabs) : Type 0 where
  pub arcs : 2 * spot_unit ≤ length T.arcs
  pub atoms : 2 * row_limit ≤ length T.atoms
  pub ties : 2 * row_limit ≤ length T.ties
  pub alts : 4 * spot_unit ≤ length T.alts
  pub frames : 4 * row_limit ≤ length T.frames

pub record FewRows (x : Out) : Type 0 where
  pub arcs : length x.arcs < spot_unit
  pub bears : length x.bears ≤ row_limit
  pub shares : length x.shares ≤ row_limit
  pub alts : length x.alts < spot_unit

-- where shared paths end, if the first has ended
abbrev pub path_end : Pen → Option ℕ
path_end p = if_so p.first None (Some p.end)

-- the code's state is the machine's
pub record Views (at : At) (c : Core) (p : Pen) (x : Out) : Type 0 where
  pub spots : at.spots ≡ c.spot
  pub alts : at.alts ≡ c.alt
  pub base : at.base ≡ c.frame.base
  pub home : at.home ≡ c.frame.home
  pub group : at.group ≡ c.frame.group
  pub depth : at.depth ≡ c.frame.depth
  pub cur : at.cur ≡ p.cur
  pub start : at.start ≡ p.start
  pub end : at.end ≡ path_end p
  pub bears : at.bears ≡ length x.bears
  pub ties : at.ties ≡ length x.shares
  pub height : at.height ≡ length c.around

-- no conjunction is nested too deep
abbrev pub ShallowFrames : List OpenFrame → Type 0
ShallowFrames [] = Unit {0}
ShallowFrames (f ∷ fs) = (f.depth ≤ depth_limit) × ShallowFrames fs

-- x was given so far, and the tables hold it
pub record LaidSoFar (T : Tabs) (at : At) (c : Core) (p : Pen) (x : Out) : Type 0 where
  pub memory : Memory
  pub holds : Hold T memory
  pub stands : Standing memory c p x
  pub views : Views at c p x
  pub frames : ShallowFrames (c.frame ∷ c.around)
  pub shallow : ShallowAlts depth_limit x.alts

-- a sign comes
pub record SignComing (T : Tabs) (at : At) (t : Token) : Type 0 where
  pub room : Roomy T
  pub core : Core
  pub pen : Pen
  pub done : Out
  pub so_far : LaidSoFar T at core pen done
  pub few : FewRows (done then sign_gives t core pen)
  pub number : t.1 < kind_unit
  pub high : length core.around < row_limit

-- it was gone through, or begins an alternative that is nested too deep
abbrev pub SignPassed : (T : Tabs) (at : At) (t : Token) → Option At → Tabs → Type 0
SignPassed T at t (Some next) T' = (c : SignComing T at t) →
    LaidSoFar T' next (sign_moves t c.core c.pen) (sign_turns t c.core c.pen) (c.done then sign_gives t c.core c.pen)
SignPassed T at t None T' = (c : SignComing T at t) →
    ShallowAlts depth_limit (c.done then sign_gives t c.core c.pen).alts → ⊥

-- before the first sign
abbrev pub begun_at : Bool → At
begun_at true = record {
  spots = 1;
  alts = 2;
  base = 0;
  home = 1;
  group = 1;
  depth = 1;
  cur = 0;
  start = 0;
  end = Some 0;
  bears = 0;
  ties = 0;
  height = 0;
}
begun_at false = record {
  spots = 1;
  alts = 1;
  base = 0;
  home = 0;
  group = 0;
  depth = 0;
  cur = 0;
  start = 0;
  end = Some 0;
  bears = 0;
  ties = 0;
  height = 0;
}

-- the whole stands there; and its first alternative, if it has any
abbrev pub WholeBegins : List ℕ → Bool → List ℕ → Type 0
WholeBegins ks true ks' = (ls : List ℕ) × FourPut ks 0 0 0 0 0 ls × AlternativePut ls 1 0 1 0 ks'
WholeBegins ks false ks' = FourPut ks 0 0 0 0 0 ks'

-- all that marked signs give
abbrev pub all_given : Bool → List Token → Out
all_given flagged marks = first_given flagged then emit marks (first_core flagged) first_pen

-- the first n words are marked signs, which give few rows
pub record LaysOut (signs : List ℕ) (n : ℕ) (flagged : Bool) : Type 0 where
  pub marks : List Token
  pub small : AllSmall marks
  pub count : n ≡ length marks
  pub long : n ≤ length signs
  pub short : n ≤ row_limit
  pub written : ListedFrom (word_of signs) 0 (token_words marks)
  pub few : FewRows (all_given flagged marks)

-- the tables hold all of it, in so many rows; or it has alternatives that are nested too deep
abbrev pub LaidAs : Out → Option Rows → Tabs → Type 0
LaidAs x None T' = ShallowAlts depth_limit x.alts → ⊥
LaidAs x (Some rows) T' = ShallowAlts depth_limit x.alts × (rows.arcs ≡ length x.arcs) × (rows.atoms ≡ length x.bears)
    × (rows.ties ≡ length x.shares) × (rows.alts ≡ suc (length x.alts)) × ((M : Memory) × Hold T' M × Held M x rows.alts)

abbrev pub LaidOut : (signs : List ℕ) (n : ℕ) (flagged : Bool) → Option Rows → Tabs → Type 0
LaidOut signs n flagged r T' = (c : LaysOut signs n flagged) → LaidAs (all_given flagged c.marks) r T'
